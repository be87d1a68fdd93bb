-- What filters need, before the first unit and behind a unit.
use Rattle.std.proofs.Common.{◌≡◌, ℕ, ◌-◌, ◌<◌, ◌∙◌, ap, Bool, arith}
use Rattle.std.proofs.Math.Path.{fun_ext}
use Rattle.std.proofs.lemmas.Bool.Decides.{nat_tests}
use Rattle.picture_filters.specs.declared.filter_place.FilterPlace.{FilterPlace}
use Rattle.picture_filters.specs.Places.{first_place}
use Rattle.picture_filters.specs.Units.{first_unit}
use Rattle.ctu_records.specs.Tree.{Ctu}
use Rattle.slice_types.specs.declared.slice.SliceDeblocking.{SliceDeblocking}
use Rattle.plan_types.specs.declared.segment_plan.SegmentPlan.{SegmentPlan}
use Rattle.plan_types.specs.declared.picture_plan.PicturePlan.{PicturePlan}
use Rattle.boundary_strengths.specs.SpecBoundaryStrengths.{UnitPlace}
use Rattle.spec_picture_filters.specs.SpecDeblocking.{Place}
use Rattle.spec_picture_trees.specs.Shapes.{picture_shape}
use Rattle.spec_picture_trees.specs.Places.{first_column, first_row, unit_places}
use Rattle.spec_picture_filters.specs.SpecPictureMotion.{Motions}
use Rattle.spec_sample_adaptive_offset.specs.declared.unit.OffsetUnit.{OffsetUnit}
use Rattle.spec_picture_trees.specs.SpecSliceData.{PictureShape}
use Rattle.spec_picture_filters.specs.Data.{FilterData, no_data}
use Rattle.spec_picture_filters.specs.Units.{coded_laid, places_laid, places_read, read_added, units_laid}
use Rattle.picture_layout.specs.declared.coding_tree_unit.CodingTreeUnit.{CodingTreeUnit}
use Rattle.picture_filters.specs.Filtering.{IsUnit, coded_part, filter_places_laid, gathered}

gathered_same : (a b : ℕ → ℕ → FilterPlace) (u v : ℕ → ℕ → ℕ → OffsetUnit) → a ≡ b → u ≡ v → gathered a u ≡ gathered b v
gathered_same a b u v e f =
    ap (λ (k : ℕ → ℕ → FilterPlace). gathered k u) e ∙ ap (λ (w : ℕ → ℕ → ℕ → OffsetUnit). gathered b w) f

-- nothing is known at first
pub nothing : (places : ℕ → ℕ → FilterPlace) (units : ℕ → ℕ → ℕ → OffsetUnit) → ((x y : ℕ) → places x y ≡ first_place)
    → ((c x y : ℕ) → units c x y ≡ first_unit) → gathered places units ≡ no_data
unfolding no_data
nothing places units e f =
    gathered_same places (λ x y. first_place) units (λ c x y. first_unit) (fun_ext (λ x. fun_ext (λ y. e x y)))
    (fun_ext (λ c. fun_ext (λ x. fun_ext (λ y. f c x y))))

-- the places of a unit are asked for alone
laid_alike : (picture : PictureShape) (address : ℕ) (slice : SliceDeblocking) (read told : ℕ → ℕ → UnitPlace)
    (old : ℕ → ℕ → FilterPlace) (i j : ℕ)
    → ((x y : ℕ) → x < unit_places picture → y < unit_places picture → read x y ≡ told x y)
    → filter_places_laid picture address slice read old i j ≡ filter_places_laid picture address slice told old i j
unfolding filter_places_laid
laid_alike picture address slice read told old i j e =
    let same = e (i - first_column picture address) (j - first_row picture address) in
    grind (arith, nat_tests)

place_part : (picture : PictureShape) (address : ℕ) (slice : SliceDeblocking) (read : ℕ → ℕ → UnitPlace)
    (old : ℕ → ℕ → FilterPlace) (i j : ℕ)
    → (filter_places_laid picture address slice read old i j).place
    ≡ places_laid picture address slice read (λ x y. (old x y).place) i j
unfolding filter_places_laid places_laid
place_part picture address slice read old i j = grind (arith, nat_tests)

flag_part : (picture : PictureShape) (address : ℕ) (slice : SliceDeblocking) (read : ℕ → ℕ → UnitPlace)
    (old : ℕ → ℕ → FilterPlace) (i j : ℕ)
    → (filter_places_laid picture address slice read old i j).coded
    ≡ coded_laid picture address read (coded_part old) i j
unfolding filter_places_laid coded_laid
flag_part picture address slice read old i j = grind (arith, nat_tests)

abbrev made : (ℕ → ℕ → Place) → (ℕ → ℕ → Bool) → (ℕ → ℕ → ℕ → OffsetUnit) → FilterData
made places coded units = record { places = places; coded = coded; units = units }

made_same : (a b : ℕ → ℕ → Place) (c d : ℕ → ℕ → Bool) (u v : ℕ → ℕ → ℕ → OffsetUnit) → a ≡ b → c ≡ d → u ≡ v
    → made a c u ≡ made b d v
made_same a b c d u v e f g =
    ap (λ (k : ℕ → ℕ → Place). made k c u) e
    ∙ (ap (λ (k : ℕ → ℕ → Bool). made b k u) f ∙ ap (λ (k : ℕ → ℕ → ℕ → OffsetUnit). made b d k) g)

-- behind a unit whose places were read
pub data_added : (p : PicturePlan) (s : SegmentPlan) (unit : CodingTreeUnit) (ctu : Ctu) (motions : Motions)
    (read : ℕ → ℕ → UnitPlace) (old new : ℕ → ℕ → FilterPlace) (before units : ℕ → ℕ → ℕ → OffsetUnit)
    → IsUnit p s unit
    → ((x y : ℕ) → x < unit_places (picture_shape p.sps p.pps) → y < unit_places (picture_shape p.sps p.pps)
    → read x y ≡ places_read p s unit.address ctu.items motions (coded_part old) x y)
    → ((i j : ℕ) → new i j ≡ filter_places_laid unit.layout unit.address s.header.slice.deblocking read old i j)
    → ((c i j : ℕ) → units c i j ≡ units_laid p s unit.address ctu.sao before c i j)
    → gathered new units ≡ read_added p s unit.address ctu motions (gathered old before)
unfolding read_added
data_added p s unit ctu motions read old new before units is e laid offsets =
    let picture : PictureShape = picture_shape p.sps p.pps in
    let told : ℕ → ℕ → UnitPlace = places_read p s unit.address ctu.items motions (coded_part old) in
    let slice : SliceDeblocking = s.header.slice.deblocking in
    let all : (i j : ℕ) → new i j ≡ filter_places_laid picture unit.address slice told old i j =
    λ i j. laid i j
    ∙ (ap (λ (q : PictureShape). filter_places_laid q unit.address slice read old i j) is.layout
    ∙ laid_alike picture unit.address slice read told old i j e) in
    made_same (λ x y. (new x y).place) (places_laid picture unit.address slice told (λ x y. (old x y).place))
    (coded_part new) (coded_laid picture unit.address told (coded_part old))
    units (units_laid p s unit.address ctu.sao before)
    (fun_ext (λ i. fun_ext (λ j. ap (λ (q : FilterPlace). q.place) (all i j)
    ∙ place_part picture unit.address slice told old i j)))
    (fun_ext (λ i. fun_ext (λ j. ap (λ (q : FilterPlace). q.coded) (all i j)
    ∙ flag_part picture unit.address slice told old i j)))
    (fun_ext (λ c. fun_ext (λ i. fun_ext (λ j. offsets c i j))))
