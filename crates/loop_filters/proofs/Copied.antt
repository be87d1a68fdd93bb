-- Samples of a plane in a list.
use Rattle.std.proofs.Common.{◌≡◌, ℕ, zero, suc, ◌+◌, ◌-◌, ◌*◌, ◌/◌, ◌%◌, ◌<◌, ◌≤◌, ◌&&◌, Bool, true, false, List}
use Rattle.std.proofs.Common.{inl}
use Rattle.std.proofs.Common.{inr, cond, nat_le, nat_lt, length, get_or, take, drop, refl, ap, sym, subst, ◌∙◌, arith}
use Rattle.std.proofs.lemmas.Bool.{cases_lt}
use Rattle.std.proofs.lemmas.Bool.Decides.{nat_tests}
use Rattle.std.proofs.lemmas.List.{get_or-drop, get_or-take, get_or_past, length-drop, length-take-le}
use Rattle.std.proofs.Math.Nat.{div-add-mod, mod-lt, mul-le-mul_left}
use borrow.Rule.Slice.PartMut.{put_mid}
use Rattle.picture_buffer.proofs.Laying.{part_at}
use Rattle.deblock.specs.Windows.{at}
use Rattle.deblock.specs.Samples.{IsBounded}

-- a line begins where the line above ends
pub line_below : (n a b : ℕ) → a < b → n * a + n ≤ n * b
line_below n a b lt = let le : n * (a + 1) ≤ n * b = mul-le-mul_left n (omega arith) in grind arith

pub cond_under : (b : Bool) (u v w : ℕ) → (b ≡ true → u ≡ v) → cond b u w ≡ cond b v w
cond_under true u v w e = e refl
cond_under false u v w e = refl

-- a part of a list that is written over another
pub part_copied : (from count to k n : ℕ) (samples out part : List ℕ) → n ≡ count → from + count ≤ length samples
    → to + count ≤ length out → part ≡ take count (drop from samples)
    → get_or (put_mid to n out part) k 0
    ≡ cond (nat_le to k && nat_lt k (to + count)) (get_or samples (from + (k - to)) 0) (get_or out k 0)
part_copied from count to k n samples out part same a b is =
    let many : length part ≡ count =
    ap length is ∙ length-take-le count (drop from samples) (omega (arith, a, length-drop from samples)) in
    subst
    (λ (m : ℕ). get_or (put_mid to m out part) k 0
    ≡ cond (nat_le to k && nat_lt k (to + count)) (get_or part (k - to) 0) (get_or out k 0))
    (sym same) (part_at to count out part k b many)
    ∙ cond_under (nat_le to k && nat_lt k (to + count)) _ _ _
    (λ (t : (nat_le to k && nat_lt k (to + count)) ≡ true).
    let inside : k - to < count = grind (arith, nat_tests) in
    ap (λ (xs : List ℕ). get_or xs (k - to) 0) is
    ∙ get_or-take count (drop from samples) (k - to) 0 inside ∙ get_or-drop from samples (k - to) 0)

wide : (w h k : ℕ) → k < w * h → 0 < w
wide zero h k lt = absurd (omega (arith, lt))
wide (suc w) h k lt = omega arith

inside : (w h k : ℕ) → k < w * h → k / w < h
inside w h k lt = elim (cases_lt (k / w) h) [
  | inl less ↦ less
  | inr le ↦
      let e = div-add-mod k w in
      let more : w * h ≤ w * (k / w) = mul-le-mul_left w le in
      absurd (omega (arith, e, more, lt))
]

-- where every sample is small, the list's are
pub bounded_by : (w h greatest : ℕ) (out : List ℕ) (f : ℕ → ℕ → ℕ) → length out ≡ w * h
    → ((x j : ℕ) → x < w → j < h → at w out x j ≡ f x j) → ((x j : ℕ) → x < w → j < h → f x j ≤ greatest)
    → IsBounded greatest out
bounded_by w h greatest out f count told small k = elim (cases_lt k (w * h)) [
  | inl lt ↦
      let some : 0 < w = wide w h k lt in
      let e = div-add-mod k w in
      let column : k % w < w = mod-lt k some in
      let row : k / w < h = inside w h k lt in
      let t = told (k % w) (k / w) column row in
      let s = small (k % w) (k / w) column row in
      subst (λ q. get_or out q 0 ≤ greatest) e (subst (λ v. v ≤ greatest) (sym t) s)
  | inr past ↦ subst (λ v. v ≤ greatest) (sym (get_or_past out k 0 (omega (arith, count, past)))) (omega arith)
]
