-- The coding tree units of a planned picture, segment after segment, up to the first broken rule (7.3.8.1).
use Rattle.std.specs.Prelude.{ℕ, zero, suc, ◌+◌, List, [], ◌∷◌, ◌++◌, pos, Result, Ok, Err}
use Rattle.spec_slice_headers.specs.HvBase.{Breach}
use Rattle.spec_slice_headers.specs.HeaderTypes.{size_in_ctbs}
use Rattle.spec_slice_headers.specs.PlanTypes.{SegmentPlan}
use Rattle.spec_slice_headers.specs.PlanTypes.{PicturePlan}
use Rattle.spec_slice_data.specs.CtuRecords.{Ctu}
use Rattle.spec_slice_data.specs.SpecCabac.{first_contexts}
use Rattle.spec_slice_data.specs.declared.syntax.CtuSyntax.{CtuSyntax}
use Rattle.spec_slice_headers.specs.BlockGeometry.{ctb_scan}
use Rattle.spec_slice_data.specs.Segment.{PictureShape, SegmentShape, Between, Broken, segment_data, unit_of}
use Rattle.spec_slice_data.specs.Segment.{unit_step}
use Rattle.spec_picture_trees.specs.Shapes.{end_of, picture_shape, segment_shape, segment_syntax}

-- before the first unit of a picture. The first segment isn't a dependent one, so nothing of this but that there are no
-- units is asked for
unfoldable pub before_picture : Between
before_picture = record {
  engine = record { range = 256; offset = 0; bits = []; at = 0 };
  contexts = first_contexts (pos 0) 0;
  stored = first_contexts (pos 0) 0;
  last = 0;
  units = [];
}

-- a broken rule with the NAL unit and the coding tree unit that break it
pub record PictureBroken : Type 0 where
  pub breach : Breach
  pub nal : ℕ
  pub ctu : ℕ

-- what breaks in a segment, with its NAL unit
abbrev pub in_unit : ℕ → Broken → PictureBroken
in_unit nal broken = record { breach = broken.breach; nal = nal; ctu = broken.ctu }

-- reading goes on with the next segment
abbrev pub then_segments : ℕ → Result Between Broken → (Between → Result Between PictureBroken)
    → Result Between PictureBroken
then_segments nal (Err e) next = Err (in_unit nal e)
then_segments nal (Ok between) next = next between

-- the data of segments one after the other, the first of which begins at a place
unfoldable pub segments_data : PicturePlan → ℕ → List SegmentPlan → Between → Result Between PictureBroken
segments_data p first [] between = Ok between
segments_data p first (s ∷ later) between =
    let behind = end_of (size_in_ctbs p.sps) first later in
    then_segments s.header.nal
    (segment_data (segment_syntax p s) (picture_shape p.sps p.pps) (segment_shape p s first behind) between)
    (segments_data p behind later)

-- the data of a picture's segments
unfoldable pub picture_data : PicturePlan → Result Between PictureBroken
picture_data p = segments_data p 0 p.segments before_picture

-- a unit as it is handed over: the number of its slice segment in the picture, its address, and what was read of it
pub record TreeUnit : Type 0 where
  pub segment : ℕ
  pub ctu : ℕ
  pub read : Ctu

-- what stands between two units, and the units that were handed over
pub record Progress : Type 0 where
  pub between : Between
  pub given : List TreeUnit

-- the units that were handed over before the first broken rule, and that rule
pub record Halt : Type 0 where
  pub given : List TreeUnit
  pub broken : PictureBroken

-- a slice segment of a picture: its number, the number of its NAL unit, and what its data are read by
pub record SegmentAt : Type 0 where
  pub number : ℕ
  pub nal : ℕ
  pub syntax : CtuSyntax
  pub picture : PictureShape
  pub shape : SegmentShape

-- a segment with its number and what its data are read by
abbrev pub segment_at : PicturePlan → ℕ → ℕ → SegmentPlan → List SegmentPlan → SegmentAt
segment_at p number first s later = record {
  number = number;
  nal = s.header.nal;
  syntax = segment_syntax p s;
  picture = picture_shape p.sps p.pps;
  shape = segment_shape p s first (end_of (size_in_ctbs p.sps) first later);
}

-- a unit that was read, as it is handed over
abbrev pub unit_given : SegmentAt → ℕ → Between → TreeUnit
unit_given at ctu between = record { segment = at.number; ctu = ctu; read = unit_of at.picture between ctu }

-- a unit more
abbrev pub with_unit : SegmentAt → ℕ → List TreeUnit → Between → Progress
with_unit at ctu given between = record { between = between; given = given ++ unit_given at ctu between ∷ [] }

-- reading goes on with the next unit
abbrev pub then_units : SegmentAt → ℕ → List TreeUnit → Result Between Breach → (Progress → Result Progress Halt)
    → Result Progress Halt
then_units at ctu given (Err e) next =
    Err (record { given = given; broken = record { breach = e; nal = at.nal; ctu = ctu } })
then_units at ctu given (Ok between) next = next (with_unit at ctu given between)

-- so many units of a segment from a place on, each handed over
unfoldable pub units_read : SegmentAt → ℕ → ℕ → Progress → Result Progress Halt
units_read at zero place progress = Ok progress
units_read at (suc n) place progress =
    then_units at (ctb_scan place) progress.given
    (unit_step at.syntax at.picture at.shape (ctb_scan place) progress.between) (units_read at n (place + 1))

-- the units of a segment
abbrev pub segment_read : SegmentAt → Progress → Result Progress Halt
segment_read at progress = units_read at at.shape.count at.shape.first progress

-- the segments behind it
abbrev pub and_segments : Result Progress Halt → (Progress → Result Progress Halt) → Result Progress Halt
and_segments (Err e) next = Err e
and_segments (Ok progress) next = next progress

-- the units of segments one after the other: the number and the place of the first
unfoldable pub segments_read : PicturePlan → ℕ → ℕ → List SegmentPlan → Progress → Result Progress Halt
segments_read p number first [] progress = Ok progress
segments_read p number first (s ∷ later) progress =
    and_segments (segment_read (segment_at p number first s later) progress)
    (segments_read p (number + 1) (end_of (size_in_ctbs p.sps) first later) later)

-- all units of a picture in order, behind those that were handed over before; or the units before the first broken
-- rule, and that rule
unfoldable pub picture_read : PicturePlan → List TreeUnit → Result Progress Halt
picture_read p given = segments_read p 0 0 p.segments (record { between = before_picture; given = given })

-- without the units
abbrev pub forgotten : Result Progress Halt → Result Between PictureBroken
forgotten (Ok progress) = Ok progress.between
forgotten (Err halt) = Err halt.broken
