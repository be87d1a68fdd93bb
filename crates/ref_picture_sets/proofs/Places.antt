-- The greatest place for which a test holds.
use Rattle.std.proofs.Common.{ℕ, ◌≡◌, ◌∙◌, ◌+◌, Bool, true, false, if◌then◌else◌, Some, None, add-one, refl, ap, sym}
use Rattle.spec_reference_pictures.specs.ReferencePictureSet.{greatest_below}

pub greatest_none : (test : ℕ → Bool) → greatest_below test 0 ≡ None
unfolding greatest_below
greatest_none test = refl

greatest_more : (test : ℕ → Bool) (k : ℕ)
    → greatest_below test (k + 1) ≡ (if test k then Some k else greatest_below test k)
unfolding greatest_below
greatest_more test k = rw (add-one) refl

pub greatest_here : (test : ℕ → Bool) (k : ℕ) (b : Bool) → b ≡ test k → b ≡ true → greatest_below test (k + 1) ≡ Some k
greatest_here test k b is holds =
    greatest_more test k ∙ ap (λ (t : Bool). if t then Some k else greatest_below test k) (sym is ∙ holds)

pub greatest_other : (test : ℕ → Bool) (k : ℕ) (b : Bool) → b ≡ test k → b ≡ false
    → greatest_below test (k + 1) ≡ greatest_below test k
greatest_other test k b is fails =
    greatest_more test k ∙ ap (λ (t : Bool). if t then Some k else greatest_below test k) (sym is ∙ fails)
