-- What the words of a flight are to hold: the values of its pictures, as whole functions.
use Rattle.std.specs.Prelude.{ℕ, ◌+◌, ◌-◌, ◌*◌, length, Bool, ◌||◌, nat_lt, Option, Some, None}
use Rattle.std.specs.Prelude.{slice_get}
use Rattle.std.specs.Option.{unwrap_or}
use Rattle.cabac_contexts.specs.Packing.{packed}
use Rattle.cabac_contexts.specs.CabacEngine.{state_of}
use Rattle.header_types.specs.declared.sps.SpsFields.{SpsFields}
use Rattle.header_types.specs.SequenceParameterSets.{ctb_log2, width_in_ctbs}
use Rattle.spec_known_units.specs.PlanTypes.{PicturePlan}
use Rattle.spec_known_units.specs.SpecSliceData.{PictureShape, side_of}
use Rattle.sample_words.specs.SpecMotion.{Motion}
use Rattle.spec_known_units.specs.SpecPictureTrees.{first_column, first_row, unit_at, unit_places}
use Rattle.spec_known_units.specs.SpecPictureTrees.{picture_shape}
use Rattle.spec_known_units.specs.Known.{KnownUnit, contexts_behind, ctu_of, engine_behind, last_behind, units_known}
use Rattle.spec_decoder.specs.SpecPictureMotion.{motion_of}
use Rattle.filter_locality_laws.specs.SpecDeblocking.{Place}
use Rattle.spec_decoder.specs.SpecDecodedPictures.{DecodedUnits}
use Rattle.sample_words.specs.declared.carry.Carry.{Carry}
use Rattle.sample_words.specs.declared.modes.PlaceModes.{PlaceModes}
use Rattle.sample_words.specs.declared.sizes.FlightSizes.{FlightSizes}
use Rattle.sample_words.specs.declared.unit_word.UnitWord.{UnitWord}
use Rattle.sample_words.specs.Contents.{PictureValues, expected_word}
use Rattle.spec_flights.specs.Pictures.{PlannedFlight, folded_at}
use Rattle.spec_flights.specs.Phases.{phase_samples}

-- a place that is predicted in intra mode, or of which nothing is known, has no vectors
abbrev pub no_vectors : Motion
no_vectors = record { list_0 = None; list_1 = None }

-- the number of the slice segment of a unit, 0 where it isn't known
abbrev pub segment_number : Option KnownUnit → ℕ
segment_number None = 0
segment_number (Some known) = known.segment

-- what is known of a place apart from its vectors, by its unit and what the loop filters need
abbrev pub modes_of : PictureShape → Option KnownUnit → ℕ → ℕ → ℕ → Place → Bool → PlaceModes
modes_of picture unit address x y place coded = record {
  segment = segment_number unit;
  side = side_of (ctu_of picture unit) (x - first_column picture address) (y - first_row picture address);
  left_strength = place.left_strength;
  top_strength = place.top_strength;
  kept = place.kept;
  coded = coded;
}

unfoldable pub modes_at : PicturePlan → DecodedUnits → ℕ → ℕ → PlaceModes
modes_at p units x y =
    let picture : PictureShape = picture_shape p.sps p.pps in
    let address : ℕ = unit_at picture (unit_places picture) x y in
    modes_of picture (units_known p address) address x y (units.filters.places x y) (units.filters.coded x y)

-- what a unit at the end of a row carries on to the next row
abbrev pub carried_behind : Option KnownUnit → Carry
carried_behind unit = record {
  state = state_of (engine_behind unit);
  contexts = packed (contexts_behind unit);
  last = last_behind unit;
}

-- the values of a picture, by what its known units make of it
unfoldable pub values_in : PicturePlan → DecodedUnits → PictureValues
values_in p units =
    let width : ℕ = width_in_ctbs p.sps in
    record {
      samples = phase_samples p units;
      motion = λ x y. unwrap_or (motion_of (units.motions x y)) no_vectors;
      modes = modes_at p units;
      offsets = λ column row. (ctu_of (picture_shape p.sps p.pps) (units_known p (row * width + column))).sao;
      contexts = λ row. packed (contexts_behind (units_known p (row * width + 1)));
      carried = λ row. carried_behind (units_known p (row * width + (width - 1)));
    }

-- the sizes of a flight of so many pictures of a sequence parameter set
abbrev pub flight_sizes : SpsFields → ℕ → FlightSizes
flight_sizes sps pictures = record {
  width = sps.format.pic_width_in_luma_samples;
  height = sps.format.pic_height_in_luma_samples;
  ctb_log2 = ctb_log2 sps.blocks;
  deep = nat_lt 0 sps.format.bit_depth_luma_minus8 || nat_lt 0 sps.format.bit_depth_chroma_minus8;
  pictures = pictures;
}

abbrev pub expected_in : PlannedFlight → Option PicturePlan → UnitWord → ℕ
expected_in f None u = 0
expected_in f (Some p) u =
    expected_word (flight_sizes p.sps (length f.pictures)) (λ k. values_in p (folded_at f k)) u

-- what a word of a unit of a flight is to hold
unfoldable pub expected : PlannedFlight → UnitWord → ℕ
expected f u = expected_in f (slice_get f.pictures u.line.picture) u
