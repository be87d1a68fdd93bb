-- The samples of a picture in each phase: as they are built, behind vertical edges, behind horizontal edges, and behind
-- sample adaptive offset (8.6.5, 8.7.2, 8.7.3).
use Rattle.hv_base.specs.declared.line.Phase.{Phase}
use Rattle.hv_base.specs.declared.line.Phase.TheVariants.{B, V, H, S}
use Rattle.spec_known_units.specs.PlanTypes.{PicturePlan}
use Rattle.filter_locality_laws.specs.SpecSampleAdaptiveOffset.{offset_sample}
use Rattle.filter_locality_laws.specs.SpecLoopFilters.{offset_plane}
use Rattle.filter_locality_laws.specs.Rows.{behind_horizontal, behind_vertical}
use Rattle.spec_decoder.specs.SpecPictureFilters.{FilterData}
use Rattle.spec_decoder.specs.SpecPictureFilters.{filter_format, loop_filters}
use Rattle.spec_decoder.specs.SpecPictureBuild.{Samples}
use Rattle.spec_decoder.specs.SpecDecodedPictures.{DecodedUnits}

-- behind vertical edges, by the samples as they are built
unfoldable pub vertical_samples : PicturePlan → FilterData → Samples → Samples
vertical_samples p gathered samples c = behind_vertical (filter_format p) gathered.places c (samples c)

-- behind horizontal edges, by those behind vertical ones
unfoldable pub horizontal_samples : PicturePlan → FilterData → Samples → Samples
horizontal_samples p gathered samples c = behind_horizontal (filter_format p) gathered.places c (samples c)

-- behind sample adaptive offset, by those behind horizontal edges
unfoldable pub offset_samples : PicturePlan → FilterData → Samples → Samples
offset_samples p gathered samples c = offset_sample (offset_plane (loop_filters p gathered) c) (samples c)

-- the samples of a picture in a phase, by what its units make of it
unfoldable pub phase_samples : PicturePlan → DecodedUnits → Phase → Samples
phase_samples p units B = units.samples
phase_samples p units V = vertical_samples p units.filters units.samples
phase_samples p units H = horizontal_samples p units.filters (vertical_samples p units.filters units.samples)
phase_samples p units S =
    offset_samples p units.filters
    (horizontal_samples p units.filters (vertical_samples p units.filters units.samples))
