-- Each unit of a picture is the step of what stands beside it in the whole picture.
use Rattle.std.proofs.Common.{◌≡◌, ◌≢◌, ℕ, suc, ◌+◌, ◌-◌, ◌<◌, ◌≤◌, ◌==◌, ◌&&◌, Bool, true, false, Option, Some, None}
use Rattle.std.proofs.Common.{List, []}
use Rattle.std.proofs.Common.{◌∷◌, ◌++◌, All, refl, sym, ap, ◌∙◌, if◌then◌else◌, slice_get, fold, arith, subst}
use Rattle.std.proofs.lemmas.Bool.{false≢true}
use Rattle.std.specs.Option.{unwrap_or}
use Rattle.spec_picture_build.specs.SpecReconstruction.{Known}
use Rattle.picture_layout.specs.PlanTypes.{SegmentPlan}
use Rattle.picture_layout.specs.PlanTypes.{PicturePlan}
use Rattle.picture_layout.specs.PlanTypes.{address_of}
use Rattle.picture_layout.specs.SpecSliceData.{PictureShape}
use Rattle.picture_layout.specs.SpecPictureTrees.{TreeUnit}
use Rattle.picture_layout.specs.SpecPictureTrees.{unit_at}
use Rattle.picture_layout.specs.SpecPictureTrees.{picture_shape, slice_start}
use Rattle.spec_picture_build.specs.SpecReconstruction.{InterUnit}
use Rattle.spec_picture_build.specs.SpecReconstruction.{unit_built}
use Rattle.spec_picture_build.specs.Border.{Samples, known_beside, unit_column, unit_line, unit_side}
use Rattle.spec_picture_build.specs.Built.{BuiltPicture, added_in, is_of_unit, no_picture, samples_added, unit_added}
use Rattle.spec_picture_build.specs.Built.{unit_inter, unit_laid, units_built, with_unit}
use Rattle.spec_picture_build.specs.Format.{unit_format}
use Rattle.spec_picture_build.specs.References.{DecodedPicture}
use Rattle.locality_laws.specs.Beside.{SamplesAgreeBeside}
use Rattle.locality_laws.proofs.Samples.{earlier, known_agrees, others_stay, unit_is}

if_same : (b : Bool) (x y v w : ℕ) → b ≡ true → x ≡ y → (if b then x else v) ≡ (if b then y else w)
if_same true x y v w e same = same
if_same false x y v w e same = absurd (false≢true e)

-- no unit is one that all are behind, or that is before all
pub all_other : (a ctu : ℕ) (later : List TreeUnit) → a ≤ ctu → All (λ (u : TreeUnit). ctu < u.ctu) later
    → All (λ (u : TreeUnit). a ≢ u.ctu) later
all_other a ctu later most all k d inside = let l = all k d inside in (λ e. omega (arith, l, most, e))

module _ (buffer : List DecodedPicture) (p : PicturePlan) where
  abbrev shape : PictureShape
  shape = picture_shape p.sps p.pps

  abbrev unit_of : ℕ → ℕ → ℕ → ℕ
  unit_of c x y = unit_at shape (unit_side shape c) x y

  added_leaves : (s : Option SegmentPlan) (unit : TreeUnit) (built : BuiltPicture) (c x y : ℕ)
      → unit_of c x y ≢ unit.ctu → (added_in buffer p s unit built).samples c x y ≡ built.samples c x y
  unfolding unit_added samples_added
  added_leaves None unit built c x y other = refl
  added_leaves (Some s) unit built c x y other = others_stay shape unit.ctu _ built.samples c x y other

  later_leave : (later : List TreeUnit) (built : BuiltPicture) (c x y : ℕ)
      → All (λ (u : TreeUnit). unit_of c x y ≢ u.ctu) later
      → (fold (with_unit buffer p) built later).samples c x y ≡ built.samples c x y
  later_leave [] built c x y all = refl
  later_leave (u ∷ later) built c x y all =
      later_leave later (with_unit buffer p built u) c x y (λ k d inside. all (suc k) d (omega arith))
      ∙ added_leaves (slice_get p.segments u.segment) u built c x y (all 0 u (omega arith))

  folded : (before : List TreeUnit) (unit : TreeUnit) (later : List TreeUnit) (built : BuiltPicture)
      → fold (with_unit buffer p) built (before ++ unit ∷ later)
      ≡ fold (with_unit buffer p) (with_unit buffer p (fold (with_unit buffer p) built before) unit) later
  folded [] unit later built = refl
  folded (u ∷ before) unit later built = folded before unit later (with_unit buffer p built u)

  -- the samples of the whole picture, where units later than one stand behind it
  module _ (before later : List TreeUnit) (unit : TreeUnit) (s : SegmentPlan) where
    abbrev whole : BuiltPicture
    whole = units_built buffer p (before ++ unit ∷ later)

    abbrev so_far : BuiltPicture
    so_far = units_built buffer p before

    abbrev slice_at : ℕ
    slice_at = address_of (slice_start p s)

    whole_is : (e : slice_get p.segments unit.segment ≡ Some s)
        → whole ≡ fold (with_unit buffer p) (unit_added buffer p s unit so_far) later
    unfolding units_built
    whole_is e =
        folded before unit later no_picture
        ∙ ap
        (λ o. fold (with_unit buffer p) (added_in buffer p o unit (fold (with_unit buffer p) no_picture before)) later)
        e

    -- a sample of another unit that isn't behind the unit is the same in the whole picture
    earlier_stay : slice_get p.segments unit.segment ≡ Some s → All (λ (u : TreeUnit). unit.ctu < u.ctu) later
        → (c x y : ℕ) → unit_of c x y < unit.ctu → so_far.samples c x y ≡ whole.samples c x y
    earlier_stay e all c x y first =
        sym (
        ap (λ (b : BuiltPicture). b.samples c x y) (whole_is e)
        ∙ later_leave later (unit_added buffer p s unit so_far) c x y
        (all_other (unit_of c x y) unit.ctu later (omega (arith, first)) all)
        ∙ added_leaves (Some s) unit so_far c x y (λ z. omega (arith, first, z))
        )

    step_at : (inter : InterUnit) (f g : Samples) → 1 ≤ shape.width → SamplesAgreeBeside shape slice_at unit.ctu f g
        → (c x y : ℕ) → is_of_unit shape unit.ctu c x y ≡ true
        → samples_added inter p s unit f c x y ≡ samples_added inter p s unit g c x y
    unfolding samples_added unit_laid
    step_at inter f g wide agree c x y mine =
        let known : known_beside shape slice_at unit.ctu f ≡ known_beside shape slice_at unit.ctu g =
        known_agrees shape slice_at unit.ctu f g wide agree in
        if_same (is_of_unit shape unit.ctu c x y) _ _ (f c x y) (g c x y) mine
        (ap (λ (k : Known). unwrap_or (unit_built (unit_format p.sps p.pps s.header.slice) inter unit.read.items k c
        (x - unit_column shape c unit.ctu + 1) (y - unit_line shape c unit.ctu + 1)) 0) known)

    -- the unit's samples in the whole picture are its step over any samples that agree with it beside the unit
    pub unit_is_its_step : 1 ≤ shape.width → slice_get p.segments unit.segment ≡ Some s
        → All (λ (u : TreeUnit). unit.ctu < u.ctu) later → (g : Samples)
        → SamplesAgreeBeside shape slice_at unit.ctu whole.samples g → (c x y : ℕ)
        → is_of_unit shape unit.ctu c x y ≡ true
        → whole.samples c x y ≡ samples_added (unit_inter buffer p s unit so_far.motions) p s unit g c x y
    unfolding unit_added
    unit_is_its_step wide e all g agree c x y mine =
        let mine_is = unit_is shape unit.ctu c x y mine in
        ap (λ (b : BuiltPicture). b.samples c x y) (whole_is e)
        ∙ later_leave later (unit_added buffer p s unit so_far) c x y
        (all_other (unit_of c x y) unit.ctu later (omega (arith, mine_is)) all)
        ∙ step_at (unit_inter buffer p s unit so_far.motions) so_far.samples g wide
        (λ d i j border there. earlier_stay e all d i j (earlier shape slice_at unit.ctu d i j there)
        ∙ agree d i j border there) c x y mine
