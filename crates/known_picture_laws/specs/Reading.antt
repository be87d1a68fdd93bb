-- A unit that is read, beside what is known of it.
use Rattle.std.specs.Prelude.{◌≡◌, ◌++◌, ◌∷◌, [], Result, Ok, Err}
use Rattle.hv_base.specs.declared.breach.Breach.{Breach}
use Rattle.known_unit_laws.specs.SpecSliceData.{Between}
use Rattle.known_unit_laws.specs.SpecPictureTrees.{SegmentAt}
use Rattle.known_unit_laws.specs.SpecKnownUnits.{KnownUnit}

-- what stands behind a unit of a segment, read over what stood before it, is what is known of the unit
pub record Leaves (at : SegmentAt) (before : Between) (known : KnownUnit) (after : Between) : Type 0 where
  pub segment : known.segment ≡ at.number
  pub units : after.units ≡ before.units ++ known.read ∷ []
  pub engine : after.engine ≡ known.engine
  pub contexts : after.contexts ≡ known.contexts
  pub last : after.last ≡ known.last

-- a unit is read as it is known, or the rule is found that it is known to break
abbrev pub IsReadAs : SegmentAt → Between → Result KnownUnit Breach → Result Between Breach → Type 0
IsReadAs at before (Ok known) (Ok after) = Leaves at before known after
IsReadAs at before (Err breach) (Err found) = found ≡ breach
IsReadAs at before (Ok known) (Err found) = ⊥
IsReadAs at before (Err breach) (Ok after) = ⊥
