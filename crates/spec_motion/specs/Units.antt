-- The motion of a coding tree unit by what was read of it (8.5.3.2).
use Rattle.std.specs.Prelude.{List, ⊤}
use Rattle.std.specs.List.{fold}
use Rattle.ctu_records.specs.declared.item.Item.{Item}
use Rattle.ctu_records.specs.declared.item.Item.TheVariants.{Prediction}
use Rattle.spec_motion.specs.declared.slice_motion.SliceMotion.{SliceMotion}
use Rattle.spec_motion.specs.Derivation.{IsPlaced, motion_laid}
use Rattle.spec_motion.specs.Vectors.{Beneath, Known}

-- an item: the motion of each prediction unit is laid over what is known
abbrev pub item_derived : SliceMotion → Beneath → Known → Item → Known
item_derived slice beneath known (Prediction unit) = motion_laid slice beneath known unit
item_derived slice beneath known other = known

-- what is known once the items of a unit are derived, by what is known beside it
unfoldable pub unit_derived : SliceMotion → Beneath → List Item → Known → Known
unit_derived slice beneath items known = fold (item_derived slice beneath) known items

-- a prediction unit lies in the unit
abbrev pub IsPlacedItem : Item → Type 0
IsPlacedItem (Prediction unit) = IsPlaced unit
IsPlacedItem other = ⊤
