-- Tests of numbers.
use Rattle.std.proofs.Common.{◌≡◌, ℕ, ◌<◌, ◌==◌, ◌||◌, Bool, true, false, refl, sym, ap, ◌∙◌, if◌then◌else◌, arith}
use Rattle.std.proofs.lemmas.Bool.Decides.{nat_tests}

-- tests that are true of the same
pub same_tests : (a b : Bool) → (a ≡ true → b ≡ true) → (b ≡ true → a ≡ true) → a ≡ b
same_tests true b to from = sym (to refl)
same_tests false true to from = from refl
same_tests false false to from = refl

not_same : (i n : ℕ) → n < i → (i == n) ≡ false
not_same i n lt = grind (arith, nat_tests)

-- what holds of another number
pub other : {A : Type 0} (i n : ℕ) (x y z : A) → n < i → z ≡ (if i == n then x else y) → z ≡ y
other i n x y z lt e = e ∙ ap (λ (t : Bool). if t then x else y) (not_same i n lt)

-- a place of what was changed last, of what was changed before, or of neither
pub merged : {A : Type 0} (t u : Bool) (v w o m n : A) → (t ≡ true → v ≡ w) → m ≡ (if u then w else o)
    → n ≡ (if t then v else m) → n ≡ (if t || u then w else o)
merged true u v w o m n same before now = now ∙ same refl
merged false u v w o m n same before now = now ∙ before
