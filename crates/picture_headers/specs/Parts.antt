-- What a picture has beside its first slice segment, and the picture that both make.
use Rattle.std.specs.Prelude.{List, [], ◌∷◌}
use Rattle.header_types.specs.declared.reference_pictures.DpbPicture.{DpbPicture}
use Rattle.plan_types.specs.declared.picture_plan.PicturePlan.{PicturePlan}
use Rattle.spec_nal_units.specs.Judged.{NalUnit}
use Rattle.slice_types.specs.declared.slice.SliceHeaderFields.{SliceHeaderFields}
use Rattle.spec_picture_plan.specs.Steps.{segment_of}
use Rattle.picture_headers.specs.declared.opening.Parts.{Parts}

-- the picture that has these parts, and this unit and header as its first slice segment, and before which the buffer
-- has these pictures
abbrev pub begun_by : List DpbPicture → NalUnit → SliceHeaderFields → Parts → PicturePlan
begun_by dpb u header parts = record {
  nal = u.index;
  kind = header.kind;
  sps = parts.sps;
  pps = parts.pps;
  poc = parts.poc;
  rps = parts.rps;
  outputs = parts.outputs;
  segments = segment_of [] dpb parts.rps u header ∷ [];
  hashes = [];
}
