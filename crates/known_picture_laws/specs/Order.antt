-- Units of a picture in the order of their addresses.
use Rattle.std.specs.Prelude.{◌≡◌, ◌<◌, ◌∷◌, ◌++◌, List, All}
use Rattle.known_unit_laws.specs.SpecPictureTrees.{TreeUnit}

-- a unit is one of these: those with lower addresses stand before it, those with higher ones behind it
pub record IsInOrder (units : List TreeUnit) (unit : TreeUnit) : Type 0 where
  pub before : List TreeUnit
  pub later : List TreeUnit
  pub is : units ≡ before ++ unit ∷ later
  pub earlier : All (λ (u : TreeUnit). u.ctu < unit.ctu) before
  pub behind : All (λ (u : TreeUnit). unit.ctu < u.ctu) later
