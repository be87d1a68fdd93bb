-- The sizes of a flight of pictures like one, whatever its bit depths.
use Rattle.std.proofs.Common.{◌≡◌, ℕ, ◌≤◌, sym, subst}
use Rattle.header_types.specs.declared.sps.SpsFields.{SpsFields}
use Rattle.header_types.specs.SequenceParameterSets.{IsSps, ctb_log2}
use Rattle.sample_words.specs.declared.sizes.FlightSizes.{FlightSizes}
use Rattle.sample_words.specs.Sizes.{IsFlight}
use Rattle.row_waits.proofs.FlightFactsLemmas.{are_sizes}

pub sides_are : (s : FlightSizes) (sps : SpsFields) (n : ℕ) → IsSps sps → 1 ≤ n → n ≤ 65536
    → s.width ≡ sps.format.pic_width_in_luma_samples → s.height ≡ sps.format.pic_height_in_luma_samples
    → s.ctb_log2 ≡ ctb_log2 sps.blocks → s.pictures ≡ n → IsFlight s
sides_are s sps n is some few width height log2 pictures =
    let sizes = are_sizes sps n is some few in
    let other : FlightSizes = record {
      width = sps.format.pic_width_in_luma_samples;
      height = sps.format.pic_height_in_luma_samples;
      ctb_log2 = ctb_log2 sps.blocks;
      deep = s.deep;
      pictures = n;
    } in
    let them : IsFlight other = record {
      some_width = sizes.some_width;
      width = sizes.width;
      whole_columns = sizes.whole_columns;
      some_height = sizes.some_height;
      height = sizes.height;
      whole_rows = sizes.whole_rows;
      least_unit = sizes.least_unit;
      greatest_unit = sizes.greatest_unit;
      some_pictures = sizes.some_pictures;
      pictures = sizes.pictures;
    } in
    let same : s ≡ other = λ i. record {
      width = width i;
      height = height i;
      ctb_log2 = log2 i;
      deep = s.deep;
      pictures = pictures i;
    } in
    subst IsFlight (sym same) them
