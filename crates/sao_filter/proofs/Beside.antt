-- The units that neighbours stand in.
use Rattle.std.proofs.Common.{◌≡◌, ℕ, Bool, true, false, zero, suc, ◌+◌, ◌-◌, ◌*◌, ◌/◌, ◌<◌, ◌≤◌, nat_le, nat_lt}
use Rattle.std.proofs.Common.{◌&&◌}
use Rattle.std.proofs.Common.{refl, ap, ◌∙◌, arith}
use Rattle.std.specs.Prelude.{◌==◌, min}
use Rattle.std.proofs.lemmas.Bool.Decides.{nat_tests}
use Rattle.std.proofs.lemmas.Nat.{div-mul-add}
use Rattle.spec_sample_adaptive_offset.specs.Plane.{OffsetPlane, may_read, meets, unit_at}
use Rattle.sao_filter.specs.Units.{shift, reads_unit}

-- a number by the block that it stands in
pub block_is : (n q x : ℕ) → n * q ≤ x → x < n * q + n → x / n ≡ q
block_is n q x le lt =
    let e : x ≡ q * n + (x - n * q) = grind arith in
    ap (λ k. k / n) e ∙ div-mul-add q n (x - n * q) (omega arith)

abbrev pub near : ℕ → ℕ → ℕ → Bool
near x h w = nat_lt 0 (x + h) && nat_le (x + h) w

abbrev pub near_unit : ℕ → ℕ → ℕ → ℕ → Bool
near_unit s k u w = nat_lt 0 (k + u) && nat_lt (s * (k + u - 1)) w

-- what is said of a neighbour by its unit
pub record Stands (s k u x h w : ℕ) : Type 0 where
  pub test : near x h w ≡ near_unit s k u w
  pub unit : near x h w ≡ true → (x + h - 1) / s ≡ k + u - 1

before : (s k x w : ℕ) → 1 ≤ s → x ≡ s * k → x < w → Stands s k 0 x 0 w
before s zero x w some is low = record {
  test = grind (arith, nat_tests);
  unit = λ t. let some_left : 0 < x = grind (arith, nat_tests) in absurd (omega arith);
}
before s (suc k) x w some is low =
    let e : s * suc k ≡ s * k + s = grind arith in
    record {
      test = grind (arith, nat_tests);
      unit = λ t. block_is s k (x + 0 - 1) (omega arith) (omega arith) ∙ omega arith;
    }

same : (s k x h w : ℕ) → 1 ≤ s → s * k < x + h → x + h ≤ s * k + s → x + h ≤ w → s * k < w → Stands s k 1 x h w
same s k x h w some low high inside under = record {
  test = grind (arith, nat_tests);
  unit = λ t. block_is s k (x + h - 1) (omega arith) (omega arith) ∙ omega arith;
}

behind : (s k x w : ℕ) → 1 ≤ s → x < w → s * k ≤ x → x + 1 ≡ min (s * k + s) w → Stands s k 2 x 2 w
behind s k x w some low under is =
    let e : s * (k + 1) ≡ s * k + s = grind arith in
    record {
      test = grind (arith, nat_tests);
      unit = λ t.
          let in_picture : x + 2 ≤ w = grind (arith, nat_tests) in
          let at : s * k + s ≡ x + 1 = omega arith in
          block_is s (k + 1) (x + 2 - 1) (omega arith) (omega arith) ∙ omega arith;
    }

-- a neighbour in one direction, from a place that stands first, last, or between
pub stands : (s k x h w : ℕ) (first last : Bool) → 1 ≤ s → h ≤ 2 → s * k ≤ x → x < s * k + s → x < w →
    first ≡ (x == s * k) → last ≡ (x + 1 == min (s * k + s) w) → Stands s k (shift h first last) x h w
stands s k x zero w true last some few low high inside is_first is_last =
    before s k x w some (grind (arith, nat_tests)) inside
stands s k x zero w false last some few low high inside is_first is_last =
    let after : s * k < x + 0 = grind (arith, nat_tests) in
    same s k x 0 w some after (omega arith) (omega arith) (omega arith)
stands s k x (suc zero) w first last some few low high inside is_first is_last =
    same s k x 1 w some (omega arith) (omega arith) (omega arith) (omega arith)
stands s k x (suc (suc zero)) w first true some few low high inside is_first is_last =
    behind s k x w some inside low (grind (arith, nat_tests))
stands s k x (suc (suc zero)) w first false some few low high inside is_first is_last =
    let within : x + 2 ≤ s * k + s = grind (arith, nat_tests) in
    let in_picture : x + 2 ≤ w = grind (arith, nat_tests) in
    same s k x 2 w some (omega arith) within in_picture (omega arith)
stands s k x (suc (suc (suc h))) w first last some few low high inside is_first is_last = absurd (omega arith)

and_same : (b c d e : Bool) → b ≡ c → (b ≡ true → d ≡ e) → (b && d) ≡ (c && e)
and_same true true d e is h = h refl
and_same false false d e is h = refl
and_same true false d e is h = cc
and_same false true d e is h = cc

pub first_of : (b c : Bool) → (b && c) ≡ true → b ≡ true
first_of true c t = refl
first_of false c t = t

pub second_of : (b c : Bool) → (b && c) ≡ true → c ≡ true
second_of true c t = t
second_of false c t = cc

-- whether a neighbour may be read is said by its unit
pub may_is : (p : OffsetPlane) (k r x y c l h v : ℕ) → Stands p.ctb_size k h x c p.width →
    Stands p.ctb_size r v y l p.height →
    x / p.ctb_size ≡ k → y / p.ctb_size ≡ r → may_read p x y c l ≡ reads_unit p k r h v
may_is p k r x y c l h v across down column row =
    and_same (near x c p.width && near y l p.height)
    (near_unit p.ctb_size k h p.width && near_unit p.ctb_size r v p.height) _ _
    (and_same _ _ _ _ across.test (λ t. down.test))
    (λ t.
    let u = across.unit (first_of _ _ t) in
    let w = down.unit (second_of _ _ t) in
    ap (λ (q : ℕ). meets (p.unit q (y / p.ctb_size)) (unit_at p (x + c - 1) (y + l - 1))) column
    ∙ ap (λ (q : ℕ). meets (p.unit k q) (unit_at p (x + c - 1) (y + l - 1))) row
    ∙ ap (λ (q : ℕ). meets (p.unit k r) (p.unit q ((y + l - 1) / p.ctb_size))) u
    ∙ ap (λ (q : ℕ). meets (p.unit k r) (p.unit (k + h - 1) q)) w)
