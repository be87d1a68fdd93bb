-- The ranges of a picture that is planned.
use Rattle.std.specs.Prelude.{◌≡◌, ℕ, ◌+◌, ◌-◌, ◌/◌, ◌<◌, ◌≤◌, true, List, [], ◌∷◌, All, IfSome, length}
use Rattle.header_types.specs.declared.reference_pictures.Lists.{Lists}
use Rattle.header_types.specs.declared.reference_pictures.RefEntry.{RefEntry}
use Rattle.header_types.specs.PictureParameterSet.{IsPps}
use Rattle.header_types.specs.SequenceParameterSets.{IsSps, size_in_ctbs, width_in_ctbs}
use Rattle.slice_types.specs.SliceHeaders.{IsSliceHeader}
use Rattle.header_laws.specs.PlanTypes.{PicturePlan}
use Rattle.header_laws.specs.PlanTypes.{SegmentPlan}
use Rattle.header_laws.specs.PlanTypes.{AreInOrder, address_of, begins_at}
use Rattle.spec_picture_plan.specs.Closing.{row_before}

-- the slice of each segment begins at it or at one before it, where the segments are numbered from here
abbrev pub BeginSlicesFrom : ℕ → List SegmentPlan → Type 0
BeginSlicesFrom number [] = Unit {0}
BeginSlicesFrom number (s ∷ later) = (s.slice ≤ number) × BeginSlicesFrom (number + 1) later

-- each entry is for a picture of a buffer of this many
pub record AreReferences (size : ℕ) (l : Lists) : Type 0 where
  pub l0 : All (λ (e : RefEntry). e.place < size) l.l0
  pub l1 : All (λ (e : RefEntry). e.place < size) l.l1

-- each segment has one substream for each row of coding tree blocks that it has a part of
abbrev pub HaveRows : ℕ → ℕ → List SegmentPlan → Type 0
HaveRows width size [] = Unit {0}
HaveRows width size (s ∷ later) =
    (length s.substreams ≡ row_before width (begins_at size later) - address_of s / width + 1)
    × HaveRows width size later

-- a picture that is planned. The marks are of the pictures in the buffer before it
pub record IsPlan (p : PicturePlan) : Type 0 where
  pub sps : IsSps p.sps
  pub pps : IsPps p.pps
  pub headers : All (λ (s : SegmentPlan). IsSliceHeader s.header) p.segments
  pub some : 1 ≤ length p.segments
  pub order : AreInOrder p
  pub slices : BeginSlicesFrom 0 p.segments
  pub references : All (λ (s : SegmentPlan). IfSome s.lists (AreReferences (length p.rps.marks))) p.segments
  pub rows : p.pps.prediction.entropy_coding_sync_enabled_flag ≡ true
      → HaveRows (width_in_ctbs p.sps) (size_in_ctbs p.sps) p.segments
