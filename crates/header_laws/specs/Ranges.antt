-- What is in range of all that is known between two units of a stream.
use Rattle.std.specs.Prelude.{List, All, IfSome}
use Rattle.header_types.specs.declared.former.Sets.{Sets}
use Rattle.header_types.specs.PictureParameterSet.{IsPps}
use Rattle.header_types.specs.SequenceParameterSets.{IsSps}
use Rattle.slice_types.specs.SliceHeaders.{IsSliceFields}
use Rattle.spec_slice_headers.specs.PlanTypes.{SegmentPlan}
use Rattle.spec_slice_headers.specs.NamedSets.{Named}

-- accepted parameter sets that are in range
pub record AreSets (s : Sets) : Type 0 where
  pub sps : All (λ set. IfSome set IsSps) s.sps
  pub pps : All (λ set. IfSome set IsPps) s.pps

-- parameter sets that a slice names, which are in range
pub record IsNamed (n : Named) : Type 0 where
  pub sps : IsSps n.sps
  pub pps : IsPps n.pps

-- segments whose slices are in range
abbrev pub HaveSlices : List SegmentPlan → Type 0
HaveSlices segments = All (λ (s : SegmentPlan). IsSliceFields s.header.slice) segments
