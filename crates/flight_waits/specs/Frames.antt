-- The rows of a flight as far as its plans tell them, before any slice data are read.
use Rattle.std.specs.Prelude.{List, [], map}
use Rattle.header_types.specs.SequenceParameterSets.{height_in_ctbs, width_in_ctbs}
use Rattle.plan_types.specs.declared.picture_plan.PicturePlan.{PicturePlan}
use Rattle.flight_plan.specs.Flight.{FlightRows, PictureRows}

-- the rows of a picture, with nothing of what its coding tree units refer to
abbrev pub framed : PicturePlan → PictureRows
framed p = record {
  width = width_in_ctbs p.sps;
  rows = height_in_ctbs p.sps;
  sync = p.pps.prediction.entropy_coding_sync_enabled_flag;
  collocated = [];
  reach = [];
}

-- those of the pictures of a flight
abbrev pub frame_rows : List PicturePlan → FlightRows
frame_rows pictures = record { pictures = map framed pictures; bad = [] }
