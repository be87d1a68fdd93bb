-- A unit's work over what is built of its picture, and over the pictures of the buffer, by the definitions.
use Rattle.std.proofs.Common.{◌≡◌, ℕ, ◌<◌, List, refl, ap, subst, ◌∙◌}
use Rattle.unit_build.specs.CtuMotion.{Cells, held as motion_held}
use Rattle.ctu_records.specs.Tree.{Ctu}
use Rattle.unit_build.specs.InterSamples.{inter_unit}
use Rattle.header_types.specs.declared.sps.SpsFields.{SpsFields}
use Rattle.picture_buffer.specs.Motion.{motions_of}
use Rattle.picture_buffer.specs.Pictures.{HeldPicture}
use Rattle.picture_buffer.specs.Planes.{samples_of}
use Rattle.unit_build.specs.PictureFilters.{UnitFilters}
use Rattle.unit_build.specs.PictureFilters.{IsUnit, data_of}
use Rattle.unit_build.specs.PictureFilters.{IsGiven}
use Rattle.unit_build.specs.PictureMotion.{derived_over, known_over}
use Rattle.unit_build.proofs.PictureMotionLemmas.{added_joins, known_joins}
use Rattle.picture_trees.specs.Given.{tree_unit}
use Rattle.plan_types.specs.declared.picture_plan.PicturePlan.{PicturePlan}
use Rattle.plan_types.specs.declared.segment_plan.SegmentPlan.{SegmentPlan}
use Rattle.spec_inter_prediction.specs.declared.tables.SliceWeighting.{SliceWeighting}
use Rattle.spec_motion.specs.declared.slice_motion.SliceMotion.{SliceMotion}
use Rattle.spec_picture_build.specs.Border.{known_beside}
use Rattle.spec_picture_build.specs.Built.{unit_inter}
use Rattle.spec_picture_build.specs.References.{motions_of as motions_at, pictures_of}
use Rattle.spec_picture_build.specs.Weights.{slice_weighting}
use Rattle.spec_picture_motion.specs.Derived.{collocated_motions, known_of_unit, unit_added}
use Rattle.spec_picture_motion.specs.Slices.{collocated_entry, slice_motion}
use Rattle.picture_trees.specs.SpecPictureTrees.{first_column, first_row}
use Rattle.picture_trees.specs.SpecPictureTrees.{slice_start}
use Rattle.spec_reconstruction.specs.declared.format.UnitFormat.{UnitFormat}
use Rattle.spec_reconstruction.specs.Inter.{InterUnit}
use Rattle.spec_reconstruction.specs.Known.{Known}
use Rattle.spec_reconstruction.specs.Unit.{unit_built}
use Rattle.spec_slice_data.specs.Segment.{PictureShape}
use Rattle.picture_build.specs.Pictures.{buffer_of}
use Rattle.picture_build.specs.Standing.{Standing, collocated_by}
use Rattle.picture_build.proofs.Added.{inter_is}

-- what is known of its motion
pub motion_joins : (view here : Standing) (p : PicturePlan) (s : SegmentPlan) (number : ℕ) (ctu : Ctu) (cells : Cells)
    → view ≡ here → here.entry ≡ collocated_entry s.header.slice (slice_start p s).lists
    → motion_held cells
    ≡ known_over (collocated_by view) p s view.unit.address ctu.items (motions_of view.motion)
    → motion_held cells
    ≡ known_of_unit (motions_at (buffer_of here.bases)) p s (tree_unit number here.unit.address ctu)
    (motions_of here.motion)
motion_joins view here p s number ctu cells same entry told =
    subst (λ (v : Standing). motion_held cells
    ≡ known_over (collocated_by v) p s v.unit.address ctu.items (motions_of v.motion)) same told
    ∙ known_joins (motions_at (buffer_of here.bases)) p s (tree_unit number here.unit.address ctu) (collocated_by here)
    (motions_of here.motion) (ap (λ e. collocated_motions (motions_at (buffer_of here.bases)) e) entry)

-- what it gives the loop filters
pub given_joins : (view here : Standing) (p : PicturePlan) (s : SegmentPlan) (number : ℕ) (ctu : Ctu)
    (given : UnitFilters)
    → view ≡ here → here.entry ≡ collocated_entry s.header.slice (slice_start p s).lists
    → IsGiven p s view.unit.address ctu
    (derived_over (collocated_by view) p s view.unit.address ctu.items (motions_of view.motion))
    (data_of view.filters).coded given
    → IsGiven p s here.unit.address ctu
    (unit_added (motions_at (buffer_of here.bases)) p s (tree_unit number here.unit.address ctu)
    (motions_of here.motion))
    (data_of here.filters).coded given
given_joins view here p s number ctu given same entry told =
    subst (λ m. IsGiven p s here.unit.address ctu m (data_of here.filters).coded given)
    (added_joins (motions_at (buffer_of here.bases)) p s (tree_unit number here.unit.address ctu) (collocated_by here)
    (motions_of here.motion) (ap (λ e. collocated_motions (motions_at (buffer_of here.bases)) e) entry))
    (subst (λ (v : Standing). IsGiven p s v.unit.address ctu
    (derived_over (collocated_by v) p s v.unit.address ctu.items (motions_of v.motion))
    (data_of v.filters).coded given) same told)

-- its samples
abbrev built_at : UnitFormat → Ctu → Cells → SliceMotion → SliceWeighting → SpsFields → List HeldPicture → Standing
    → Known
built_at format ctu cells slice weighting sps bases view =
    unit_built format
    (inter_unit (motion_held cells) slice weighting (pictures_of sps.format (buffer_of bases))
    (first_column view.unit.layout view.unit.address) (first_row view.unit.layout view.unit.address))
    ctu.items (known_beside view.unit.layout view.unit.slice view.unit.address (samples_of view.planes))

pub samples_join : (view here : Standing) (p : PicturePlan) (s : SegmentPlan) (number : ℕ) (ctu : Ctu) (cells : Cells)
    (format : UnitFormat) (slice : SliceMotion) (sps : SpsFields) (bases : List HeldPicture) (built : Known)
    → view ≡ here → IsUnit p s here.unit → sps ≡ p.sps → bases ≡ here.bases
    → slice ≡ slice_motion p s here.unit.address
    → motion_held cells
    ≡ known_of_unit (motions_at (buffer_of here.bases)) p s (tree_unit number here.unit.address ctu)
    (motions_of here.motion)
    → (first_row view.unit.layout view.unit.address < view.unit.layout.down
    → built ≡ built_at format ctu cells slice (slice_weighting s.header.slice.inter) sps bases view)
    → first_row here.unit.layout here.unit.address < here.unit.layout.down
    → built
    ≡ unit_built format
    (unit_inter (buffer_of here.bases) p s (tree_unit number here.unit.address ctu) (motions_of here.motion))
    ctu.items (known_beside here.unit.layout here.unit.slice here.unit.address (samples_of here.planes))
samples_join view here p s number ctu cells format slice sps bases built same is ep eb es ek told there =
    let by : InterUnit → Known =
    λ inter. unit_built format inter ctu.items
    (known_beside here.unit.layout here.unit.slice here.unit.address (samples_of here.planes)) in
    subst (λ (v : Standing). first_row v.unit.layout v.unit.address < v.unit.layout.down
    → built ≡ built_at format ctu cells slice (slice_weighting s.header.slice.inter) sps bases v) same told there
    ∙ ap (λ (q : SpsFields). built_at format ctu cells slice (slice_weighting s.header.slice.inter) q bases here) ep
    ∙ ap (λ (b : List HeldPicture). built_at format ctu cells slice (slice_weighting s.header.slice.inter) p.sps b here)
    eb
    ∙ ap by
    (inter_is (buffer_of here.bases) p s (tree_unit number here.unit.address ctu) (motions_of here.motion) _ _ _ _ _
    ek es refl (ap (λ (q : PictureShape). first_column q here.unit.address) is.layout)
    (ap (λ (q : PictureShape). first_row q here.unit.address) is.layout))
