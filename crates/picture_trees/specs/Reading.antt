-- What stands between two units of a picture while it is read.
use Rattle.std.specs.Prelude.{◌≡◌, ℕ, ◌+◌, ◌-◌, ◌%◌, ◌^◌, ◌<◌, ◌≤◌, List, length, drop, slice_index_or, Result, Ok}
use Rattle.std.specs.Prelude.{Err}
use Rattle.ctu_records.specs.Tree.{Ctu}
use Rattle.spec_slice_data.specs.Segment.{PictureShape, Between, no_group, nothing_read}
use Rattle.spec_picture_trees.specs.Picture.{TreeUnit, Progress, Halt, SegmentAt, segment_at, segments_read}
use Rattle.spec_picture_trees.specs.Picture.{units_read}
use Rattle.spec_picture_trees.specs.Shapes.{picture_shape}
use Rattle.plan_types.specs.declared.segment_plan.SegmentPlan.{SegmentPlan}
use Rattle.plan_types.specs.declared.picture_plan.PicturePlan.{PicturePlan}
use Rattle.picture_trees.specs.Given.{Told}
use Rattle.unit_trees.specs.Edges.{bottom_of, right_of}
use Rattle.picture_trees.specs.Beside.{UnitsBeside, above_at}
use Rattle.picture_trees.specs.declared.trees.ReadError.{ReadError}
use Rattle.picture_trees.specs.declared.trees.ReadError.TheVariants as error
use Rattle.picture_trees.specs.declared.units.Reading.{Reading}

-- behind these units
abbrev pub between_of : Reading → List Ctu → Between
between_of r units = record {
  engine = r.reader.bins.interval;
  contexts = r.reader.bins.contexts;
  stored = r.stored;
  last = r.reader.last;
  units = units;
}

abbrev pub unit_in : PictureShape → List Ctu → ℕ → Ctu
unit_in picture units address = slice_index_or units address (nothing_read picture.size no_group)

-- what is kept of the units beside the one at an address, which is the next one, is what was read of them: the unit
-- before it, and the last unit of each column
pub record IsKept (picture : PictureShape) (address : ℕ) (beside : UnitsBeside) (units : List Ctu) : Type 0 where
  pub count : length units ≡ address
  pub side : beside.side ≡ 2 ^ picture.size
  pub full : length beside.columns ≡ picture.width
  pub left : 1 ≤ address → beside.left ≡ right_of (2 ^ picture.size) (unit_in picture units (address - 1))
  pub columns : (a : ℕ) → a < address → address ≤ a + picture.width
      → above_at beside (a % picture.width) ≡ bottom_of (2 ^ picture.size) (unit_in picture units a)

abbrev pub progress_of : Reading → List Ctu → List TreeUnit → Progress
progress_of r units given = record { between = between_of r units; given = given }

-- behind a segment that was read
pub record IsBehind (picture : PictureShape) (address : ℕ) (r : Reading) (given : List TreeUnit)
    (read : Result Progress Halt) : Type 0 where
  pub units : List Ctu
  pub kept : IsKept picture address r.beside units
  pub told : read ≡ Ok (progress_of r units given)

-- by a result: all units of a segment were handed over, or those before the rule that is broken
abbrev pub ReadsSegment : Result (Unit {0}) ReadError → PictureShape → ℕ → Reading → (List TreeUnit → Type 0)
    → Result Progress Halt → Type 0
ReadsSegment (Ok x) picture address r tells read = Told tells (λ given. IsBehind picture address r given read)
ReadsSegment (Err error.Memory) picture address r tells read = Unit {0}
ReadsSegment (Err (error.Broken breach nal ctu)) picture address r tells read =
    Told tells
    (λ given. read ≡ Err (record { given = given; broken = record { breach = breach; nal = nal; ctu = ctu } }))

-- within a segment: some units were read, and what is to come gives the whole
pub record IsWithin (at : SegmentAt) (address : ℕ) (r : Reading) (given : List TreeUnit)
    (whole : Result Progress Halt) : Type 0 where
  pub units : List Ctu
  pub kept : IsKept at.picture address r.beside units
  pub told : units_read at (at.shape.first + at.shape.count - address) address (progress_of r units given) ≡ whole

-- the segment of a picture with this number, which begins at a place
abbrev pub next_segment : PicturePlan → ℕ → ℕ → SegmentPlan → SegmentAt
next_segment p number first s =
    segment_at p number first (slice_index_or p.segments number s) (drop (number + 1) p.segments)

-- within a picture: some segments were read, and what is to come gives the whole
pub record IsReached (p : PicturePlan) (number first : ℕ) (r : Reading) (given : List TreeUnit)
    (whole : Result Progress Halt) : Type 0 where
  pub units : List Ctu
  pub kept : IsKept (picture_shape p.sps p.pps) first r.beside units
  pub told : segments_read p number first (drop number p.segments) (progress_of r units given) ≡ whole
