-- The motion of a picture, by what was read of its coding tree units and the pictures that it refers to (8.5.3.2).
use Rattle.std.specs.Prelude.{ℕ, List, Option, Some, None, slice_get}
use Rattle.std.specs.List.{fold}
use Rattle.slice_types.specs.HeaderTypes.{RefEntry}
use Rattle.spec_picture_trees.specs.PlanTypes.{SegmentPlan}
use Rattle.spec_picture_trees.specs.PlanTypes.{PicturePlan}
use Rattle.picture_buffer.specs.SpecMotion.{Known}
use Rattle.picture_buffer.specs.SpecMotion.{unit_derived}
use Rattle.spec_picture_trees.specs.Picture.{TreeUnit}
use Rattle.spec_picture_trees.specs.PlanTypes.{address_of}
use Rattle.spec_picture_trees.specs.Shapes.{picture_shape, slice_start}
use Rattle.spec_picture_trees.specs.SpecSliceData.{PictureShape}
use Rattle.spec_picture_motion.specs.Field.{Motions, no_motions, known_beside, beneath_unit, unit_laid}
use Rattle.spec_picture_motion.specs.Slices.{collocated_entry, slice_motion}

-- the motion of the pictures that a picture refers to, by their places in the decoded picture buffer
abbrev pub References : Type 0
References = ℕ → Motions

-- the motion of the collocated picture; where there is none, no motion
abbrev pub collocated_motions : References → Option RefEntry → Motions
collocated_motions pictures None = no_motions
collocated_motions pictures (Some entry) = pictures entry.place

-- what is known of the motion of a unit of a slice segment
unfoldable pub known_of_unit : References → PicturePlan → SegmentPlan → TreeUnit → Motions → Known
known_of_unit pictures p s unit motions =
    let picture : PictureShape = picture_shape p.sps p.pps in
    unit_derived (slice_motion p s unit.ctu)
    (beneath_unit picture unit.ctu
    (collocated_motions pictures (collocated_entry s.header.slice (slice_start p s).lists)))
    unit.read.items (known_beside picture (address_of (slice_start p s)) unit.ctu motions)

-- the motion of the picture behind a unit of a slice segment
unfoldable pub unit_added : References → PicturePlan → SegmentPlan → TreeUnit → Motions → Motions
unit_added pictures p s unit motions =
    unit_laid (picture_shape p.sps p.pps) unit.ctu (slice_motion p s unit.ctu)
    (known_of_unit pictures p s unit motions) motions

-- the motion behind a unit more of a segment, where the plan has it
abbrev pub added_in : References → PicturePlan → Option SegmentPlan → TreeUnit → Motions → Motions
added_in pictures p None unit motions = motions
added_in pictures p (Some s) unit motions = unit_added pictures p s unit motions

-- behind the next unit, by the number of its segment
abbrev pub with_unit : References → PicturePlan → Motions → TreeUnit → Motions
with_unit pictures p motions unit = added_in pictures p (slice_get p.segments unit.segment) unit motions

-- the motion behind these units, which were read one after the other
unfoldable pub units_derived : References → PicturePlan → List TreeUnit → Motions
units_derived pictures p units = fold (with_unit pictures p) no_motions units
