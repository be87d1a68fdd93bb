-- The last column of a unit that was built, laid sample after sample and place after place.
use Rattle.std.proofs.Common.{◌≡◌, ℕ, zero, suc, ◌+◌, ◌-◌, ◌*◌, ◌≤◌, ◌==◌, ◌&&◌, nat_lt, Bool, true, false}
use Rattle.std.proofs.Common.{refl, sym, ap, ◌∙◌, if◌then◌else◌, unwrap_or, arith}
use Rattle.std.proofs.lemmas.Bool.Decides.{nat_tests}
use Rattle.unit_build.specs.CtuBuild.{Cells, held}
use Rattle.spec_slice_data.specs.Residual.{samples_of_place}

-- one more of a run from 0 on
pub one_more : {A : Type 0} (i k : ℕ) (value : ℕ → A) (m old mid new : A) → m ≡ value k
    → mid ≡ (if nat_lt i k then value i else old) → new ≡ (if i == k then m else mid)
    → new ≡ (if nat_lt i (k + 1) then value i else old)
one_more i k value m old mid new em emid enew = by (i == k) refl
  where
    by : (b : Bool) → (i == k) ≡ b → new ≡ (if nat_lt i (k + 1) then value i else old)
    by true e =
        let same : k ≡ i = grind (arith, nat_tests) in
        let less : nat_lt i (k + 1) ≡ true = grind (arith, nat_tests) in
        enew ∙ ap (λ (b : Bool). if b then m else mid) e ∙ em ∙ ap value same
        ∙ ap (λ (b : Bool). if b then value i else old) (sym less)
    by false e =
        let stays : nat_lt i k ≡ nat_lt i (k + 1) = grind (arith, nat_tests) in
        enew ∙ ap (λ (b : Bool). if b then m else mid) e ∙ emid
        ∙ ap (λ (b : Bool). if b then value i else old) stays

-- the same where it is one of several
pub lines_more : {A : Type 0} (b : Bool) (j k : ℕ) (value : ℕ → A) (m old mid new : A) → m ≡ value k
    → mid ≡ (if b && nat_lt j k then value j else old) → new ≡ (if b && j == k then m else mid)
    → new ≡ (if b && nat_lt j (k + 1) then value j else old)
lines_more true j k value m old mid new em emid enew = one_more j k value m old mid new em emid enew
lines_more false j k value m old mid new em emid enew = enew ∙ emid

none_past : {A : Type 0} (b t : Bool) (x y z : A) → b ≡ false → z ≡ (if b && t then x else y) → z ≡ y
none_past false t x y z isnt e = e
none_past true t x y z isnt e = absurd cc

-- the three components one after the other
pub all_kept : (n : ℕ) (cells : Cells) (s0 s1 s2 s3 : ℕ → ℕ → ℕ) → 1 ≤ n
    → ((i k : ℕ) → s1 i k
    ≡ (if i == 0 && nat_lt k (4 * n) then unwrap_or (held cells 0 (4 * n) (k + 1)) 0 else s0 i k))
    → ((i k : ℕ) → s2 i k
    ≡ (if i == 1 && nat_lt k (2 * n) then unwrap_or (held cells 1 (2 * n) (k + 1)) 0 else s1 i k))
    → ((i k : ℕ) → s3 i k
    ≡ (if i == 2 && nat_lt k (2 * n) then unwrap_or (held cells 2 (2 * n) (k + 1)) 0 else s2 i k))
    → (c k : ℕ) → s3 c k
    ≡ (if nat_lt c 3 && nat_lt k (samples_of_place c * n)
    then unwrap_or (held cells c (samples_of_place c * n - 1 + 1) (k + 1)) 0 else s0 c k)
all_kept n cells s0 s1 s2 s3 some e1 e2 e3 zero k =
    let last : 4 * n ≡ 4 * n - 1 + 1 = omega (arith, some) in
    e3 0 k ∙ e2 0 k ∙ e1 0 k
    ∙ ap (λ m. if nat_lt k (4 * n) then unwrap_or (held cells 0 m (k + 1)) 0 else s0 0 k) last
all_kept n cells s0 s1 s2 s3 some e1 e2 e3 (suc zero) k =
    let last : 2 * n ≡ 2 * n - 1 + 1 = omega (arith, some) in
    e3 1 k ∙ e2 1 k
    ∙ ap (λ v. if nat_lt k (2 * n) then unwrap_or (held cells 1 (2 * n) (k + 1)) 0 else v) (e1 1 k)
    ∙ ap (λ m. if nat_lt k (2 * n) then unwrap_or (held cells 1 m (k + 1)) 0 else s0 1 k) last
all_kept n cells s0 s1 s2 s3 some e1 e2 e3 (suc (suc zero)) k =
    let last : 2 * n ≡ 2 * n - 1 + 1 = omega (arith, some) in
    e3 2 k
    ∙ ap (λ v. if nat_lt k (2 * n) then unwrap_or (held cells 2 (2 * n) (k + 1)) 0 else v) (e2 2 k ∙ e1 2 k)
    ∙ ap (λ m. if nat_lt k (2 * n) then unwrap_or (held cells 2 m (k + 1)) 0 else s0 2 k) last
all_kept n cells s0 s1 s2 s3 some e1 e2 e3 (suc (suc (suc c))) k =
    let i : ℕ = suc (suc (suc c)) in
    let not0 : (i == 0) ≡ false = grind (arith, nat_tests) in
    let not1 : (i == 1) ≡ false = grind (arith, nat_tests) in
    let not2 : (i == 2) ≡ false = grind (arith, nat_tests) in
    let no : false ≡ nat_lt i 3 = grind (arith, nat_tests) in
    none_past (i == 2) (nat_lt k (2 * n)) _ _ _ not2 (e3 i k)
    ∙ none_past (i == 1) (nat_lt k (2 * n)) _ _ _ not1 (e2 i k)
    ∙ none_past (i == 0) (nat_lt k (4 * n)) _ _ _ not0 (e1 i k)
    ∙ ap (λ (b : Bool). if b && nat_lt k (samples_of_place i * n)
    then unwrap_or (held cells i (samples_of_place i * n - 1 + 1) (k + 1)) 0 else s0 i k) no
