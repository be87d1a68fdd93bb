-- No sound unit is bad, and a bad unit is one of the flight.
use Rattle.std.specs.Prelude.{ℕ, zero, suc, ◌≡◌, ◌<◌, ◌≤◌, List, Some, None, refl, Option, Bool, true, false, ◌&&◌}
use Rattle.std.specs.Prelude.{min}
use Rattle.std.specs.Prelude.{slice_index, nat_lt, nat_eq}
use Rattle.std.proofs.Common.{subst, sym, ap, ◌∙◌, arith}
use Rattle.std.proofs.lemmas.Bool.Decides.{nat_tests}
use Rattle.progress_words.specs.Meanings.{IsLawful}
use Rattle.board_tests.specs.Sums.{meaning_of, sound_units, fed_units, fed_by, rule_if}

pub units_are : (marks : List ℕ) (w l : ℕ) → sound_units marks w l ≡ min (slice_index marks l) (fed_units marks w l)
unfolding sound_units fed_units
units_are marks w zero = refl
units_are marks w (suc l) = refl

fed_at_most : (w n : ℕ) → fed_by w n ≤ w
fed_at_most w n = grind (arith, nat_tests)

pub fed_inside : (marks : List ℕ) (w l : ℕ) → fed_units marks w l ≤ w
unfolding fed_units
fed_inside marks w zero = omega arith
fed_inside marks w (suc l) = fed_at_most w (sound_units marks w l)

both : (a b : Bool) → (a && b) ≡ true → (a ≡ true) × (b ≡ true)
both true b e = (refl, e)
both false b e = absurd (Rattle.std.proofs.Common.true≢false (sym e))

less : (a b : ℕ) → nat_lt a b ≡ true → a < b
less a b t = grind (arith, nat_tests)

abbrev rule_or : Option ℕ → ℕ
rule_or None = 0
rule_or (Some r) = r

abbrev is_some : Option ℕ → Type 0
is_some None = ⊥
is_some (Some r) = Unit {0}

rule_is : (b : Bool) (r : ℕ) → rule_if b ≡ Some r → (b ≡ true) × (7 ≡ r)
rule_is true r e = (refl, ap rule_or e)
rule_is false r e = absurd (subst is_some (sym e) tt)

no_rule : (b : Bool) → b ≡ false → rule_if b ≡ None
no_rule b e = ap rule_if e

test_false : (l rows k mark fed n : ℕ) → n ≡ min mark fed → nat_lt k n ≡ true
    → (nat_lt l rows && (nat_eq k mark && nat_lt k fed)) ≡ false
test_false l rows k mark fed n e t =
    let less : k < n = grind (arith, nat_tests) in let not_mark : nat_eq k mark ≡ false = grind (arith, nat_tests) in
    ap (λ b. nat_lt l rows && (b && nat_lt k fed)) not_mark ∙ none_of (nat_lt l rows)
  where
    none_of : (b : Bool) → (b && false) ≡ false
    none_of true = refl
    none_of false = refl

pub lawful_of : (xs marks : List ℕ) (rows w : ℕ) → IsLawful (meaning_of xs marks rows w)
unfolding meaning_of
lawful_of xs marks rows w =
    record {
      apart = λ l k sound. no_rule (nat_lt l rows && (nat_eq k (slice_index marks l) && nat_lt k
          (fed_units marks w l))) (test_false l rows k (slice_index marks l) (fed_units marks w l)
          (sound_units marks w l) (units_are marks w l) sound);
      inside = λ l k r bad.
          let a : Bool = nat_lt l rows in let b : Bool = nat_eq k (slice_index marks l) in
          let c : Bool = nat_lt k (fed_units marks w l) in
          let t = rule_is (a && (b && c)) r bad in let outer = both a (b && c) t.0 in
          let inner = both b c outer.1 in let is = t.1 in let fed = fed_inside marks w l in
          let row : l < rows = less l rows outer.0 in
          let unit : k < fed_units marks w l = less k (fed_units marks w l) inner.1 in
          (row, omega arith, omega arith);
    }
