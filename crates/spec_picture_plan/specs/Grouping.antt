-- The pictures of a stream as groups of its slice segments (7.4.2.4.4).
use Rattle.std.specs.Prelude.{◌≡◌, Bool, true, false, not, All, ◌&&◌, List, [], ◌∷◌, ◌++◌, Some, None, Result, Ok}
use Rattle.std.specs.Prelude.{Err}
use Rattle.std.specs.Prelude.{nat_lt, if◌then◌else◌}
use Rattle.std.specs.List.{AllZip}
use Rattle.hv_base.specs.declared.refusal.Stop.{Stop}
use Rattle.spec_slice_headers.specs.PlanTypes.{SegmentPlan}
use Rattle.spec_slice_headers.specs.PlanTypes.{PicturePlan}
use Rattle.spec_slice_headers.specs.PlanTypes.{Between}
use Rattle.spec_output_order.specs.SpecBits.{bits}
use Rattle.spec_slice_headers.specs.SpecNalUnits.{NalUnit, Told}
use Rattle.spec_picture_plan.specs.UnitKinds.{is_rasl, is_slice}
use Rattle.spec_picture_plan.specs.Steps.{first_flag, step}
use Rattle.spec_picture_plan.specs.Planned.{Planned}

-- whether a unit is a slice segment that is decoded: of the base layer, and not of a skipped leading picture that is
-- dropped
abbrev pub is_decoded : Between → NalUnit → Bool
is_decoded s u = not (nat_lt 0 u.layer) && (is_slice u.nal_type && not (is_rasl u.nal_type && s.drops_rasl))

-- a unit that is told, where it is decoded
abbrev pub decoded_unit : Between → Told → List NalUnit
decoded_unit s (Told.Whole u) = if is_decoded s u then u ∷ [] else []
decoded_unit s (Told.Broken f) = []
decoded_unit s (Told.Met l) = []

-- behind a unit that doesn't stop the stream
abbrev pub units_next : List NalUnit → Result Between Stop → (Between → List NalUnit) → List NalUnit
units_next own (Err e) f = []
units_next own (Ok n) f = own ++ f n

-- the slice segments that are decoded, before what stops the stream
abbrev pub decoded_units : Between → List Told → List NalUnit
decoded_units s [] = []
decoded_units s (t ∷ ts) = units_next (decoded_unit s t) (step s t).next (λ n. decoded_units n ts)

-- this is the slice segment of a unit
pub record IsSegmentOf (u : NalUnit) (s : SegmentPlan) : Type 0 where
  pub number : s.header.nal ≡ u.index
  pub payload : s.payload ≡ u.payload
  pub removed : s.removed ≡ u.removed

-- first_slice_segment_in_pic_flag is this in a segment
abbrev pub HasFirstFlag : Bool → SegmentPlan → Type 0
HasFirstFlag flag s = first_flag (bits s.payload) ≡ Some flag

-- the slice segments of a picture: it has some, and first_slice_segment_in_pic_flag is 1 in the first and 0 in the
-- others
abbrev pub AreOfPicture : List SegmentPlan → Type 0
AreOfPicture [] = ⊥
AreOfPicture (s ∷ later) = HasFirstFlag true s × All (HasFirstFlag false) later

-- the slice segments of a picture, or none
abbrev pub AreOfPictureAtMost : List SegmentPlan → Type 0
AreOfPictureAtMost [] = Unit {0}
AreOfPictureAtMost (s ∷ later) = AreOfPicture (s ∷ later)

-- the slice segments of pictures, joined
abbrev pub segments_of : List PicturePlan → List SegmentPlan
segments_of [] = []
segments_of (p ∷ pictures) = p.segments ++ segments_of pictures

-- these slice segments are grouped to pictures so: the segments of all pictures, joined, and those of a picture that a
-- stop breaks off or that may go on, are the units in their order; where the input ends and nothing stops it, none is
-- left over
pub record AreGrouped (ended : Bool) (units : List NalUnit) (p : Planned) : Type 0 where
  pub rest : List SegmentPlan
  pub joined : AllZip IsSegmentOf units (segments_of p.pictures ++ rest)
  pub begins : All (λ (q : PicturePlan). AreOfPicture q.segments) p.pictures
  pub rest_begins : AreOfPictureAtMost rest
  pub whole : ended ≡ true → p.stop ≡ None → rest ≡ []
