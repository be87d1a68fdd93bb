-- The samples of a decoded picture are those of its last phase.
use Rattle.std.proofs.Common.{◌≡◌, ℕ, true, List, ◌∙◌}
use Rattle.hv_base.specs.declared.line.Phase.TheVariants.{S}
use Rattle.known_unit_laws.specs.PlanTypes.{PicturePlan}
use Rattle.known_unit_laws.specs.SpecPictureTrees.{picture_shape}
use Rattle.spec_flights.proofs.FilterLocalityLawsLemmas.{three_steps}
use Rattle.spec_flights.specs.SpecPictureFilters.{filtered, loop_filters}
use Rattle.locality_laws.specs.SpecPictureBuild.{has_sample}
use Rattle.locality_laws.specs.SpecPictureBuild.{DecodedPicture}
use Rattle.spec_flights.specs.SpecDecodedPictures.{DecodedUnits, decoded_by, samples_filtered}
use Rattle.spec_flights.specs.Pictures.{known_decoded, known_folded}
use Rattle.spec_flights.specs.Phases.{horizontal_samples, offset_samples, phase_samples, vertical_samples}
use Rattle.known_picture_laws.proofs.FilterData.{where_it_is}

pub last_phase : (buffer : List DecodedPicture) (p : PicturePlan) (c x y : ℕ)
    → has_sample (picture_shape p.sps p.pps) c x y ≡ true
    → (known_decoded buffer p).samples c x y ≡ phase_samples p (known_folded buffer p) S c x y
unfolding decoded_by samples_filtered filtered phase_samples offset_samples horizontal_samples vertical_samples
last_phase buffer p c x y there =
    let units : DecodedUnits = known_folded buffer p in
    where_it_is {A = ℕ} (has_sample (picture_shape p.sps p.pps) c x y) (filtered p units.filters units.samples c x y) 0
    there
    ∙ three_steps (loop_filters p units.filters) units.samples c x y
