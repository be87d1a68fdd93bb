-- What is told of the front of an input, when it ends and when a start code stands behind it.
use Rattle.std.specs.Prelude.{◌≡◌, ℕ, true, false, List, [], ◌∷◌, ◌++◌}
use Rattle.hv_base.specs.declared.fault.FaultKind.TheVariants as rule
use Rattle.spec_nal_units.specs.Judged.{Told, broken, told_of}

-- no unit stands in an input that is this front alone, which is a fault
abbrev pub HasNoUnit : List ℕ → Type 0
HasNoUnit front = told_of true front ≡ broken rule.NoNal 0 ∷ []

-- with a start code and more behind the front, what is told begins with what is told of the front alone
abbrev pub StaysWhenClosed : List ℕ → List ℕ → Type 0
StaysWhenClosed front rest =
    (later : List Told) × (told_of false (front ++ 0 ∷ 0 ∷ 1 ∷ rest) ≡ told_of true front ++ later)
