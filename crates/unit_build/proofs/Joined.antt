-- A unit's work by the definitions, at the unit that its view has.
use Rattle.std.proofs.Common.{◌≡◌, ℕ, Bool, List, refl, sym, ap, subst, ◌∙◌}
use Rattle.ctu_records.specs.declared.item.Item.{Item}
use Rattle.ctu_records.specs.Tree.{Ctu}
use Rattle.picture_filters.specs.declared.given.UnitFilters.{UnitFilters}
use Rattle.picture_filters.specs.Filtering.{IsUnit}
use Rattle.picture_filters.specs.Given.{IsGiven}
use Rattle.picture_motion.specs.PictureLayout.{CodingTreeUnit}
use Rattle.picture_motion.specs.Deriving.{derived_over, known_over}
use Rattle.picture_motion.proofs.Derived.{known_is, laid_is}
use Rattle.picture_filters.specs.PlanTypes.{PicturePlan}
use Rattle.picture_filters.specs.PlanTypes.{SegmentPlan}
use Rattle.spec_motion.specs.declared.slice_motion.SliceMotion.{SliceMotion}
use Rattle.spec_motion.specs.Units.{unit_derived}
use Rattle.spec_motion.specs.Vectors as motion
use Rattle.spec_picture_build.specs.SpecPictureMotion.{Motions, beneath_unit, known_beside}
use Rattle.spec_picture_build.specs.SpecPictureMotion.{slice_motion}
use Rattle.unit_build.specs.Near.{motion_behind}

-- the motion of a unit
abbrev derived_at : Motions → Motions → SliceMotion → CodingTreeUnit → List Item → motion.Known
derived_at collocated motions slice unit items =
    unit_derived slice (beneath_unit unit.layout unit.address collocated) items
    (known_beside unit.layout unit.slice unit.address motions)

known_here : (collocated motions : Motions) (p : PicturePlan) (s : SegmentPlan) (unit : CodingTreeUnit)
    (slice : SliceMotion) (items : List Item) (last : motion.Known)
    → IsUnit p s unit → slice ≡ slice_motion p s unit.address → last ≡ derived_at collocated motions slice unit items
    → last ≡ known_over collocated p s unit.address items motions
known_here collocated motions p s unit slice items last is es told =
    known_is collocated p p s unit.address items motions motions unit
    (known_beside unit.layout unit.slice unit.address motions) (beneath_unit unit.layout unit.address collocated) last
    refl refl is.layout is.slice refl refl refl
    (told ∙ ap (λ (m : SliceMotion). derived_at collocated motions m unit items) es)

pub motion_is : (collocated motions : Motions) (p : PicturePlan) (s : SegmentPlan) (unit viewed : CodingTreeUnit)
    (slice : SliceMotion) (items : List Item) (last : motion.Known)
    → unit ≡ viewed → IsUnit p s viewed → slice ≡ slice_motion p s unit.address
    → last ≡ derived_at collocated motions slice unit items
    → last ≡ known_over collocated p s viewed.address items motions
motion_is collocated motions p s unit viewed slice items last same is es told =
    subst (λ (u : CodingTreeUnit). last ≡ known_over collocated p s u.address items motions) same
    (known_here collocated motions p s unit slice items last
    (subst (λ (u : CodingTreeUnit). IsUnit p s u) (sym same) is) es told)

-- that of the picture behind it
behind_here : (collocated motions : Motions) (p : PicturePlan) (s : SegmentPlan) (unit : CodingTreeUnit)
    (slice : SliceMotion) (items : List Item) (last : motion.Known)
    → IsUnit p s unit → slice ≡ slice_motion p s unit.address
    → last ≡ known_over collocated p s unit.address items motions
    → motion_behind unit slice last motions ≡ derived_over collocated p s unit.address items motions
behind_here collocated motions p s unit slice items last is es known =
    laid_is collocated p p s unit.address items motions motions (motion_behind unit slice last motions) unit last
    refl refl is.layout refl known (ap (λ (m : SliceMotion). motion_behind unit m last motions) es)

-- what it gives the loop filters
given_here : (collocated motions : Motions) (coded : ℕ → ℕ → Bool) (p : PicturePlan) (s : SegmentPlan)
    (unit : CodingTreeUnit) (slice : SliceMotion) (ctu : Ctu) (last : motion.Known) (given : UnitFilters)
    → IsUnit p s unit → slice ≡ slice_motion p s unit.address
    → last ≡ known_over collocated p s unit.address ctu.items motions
    → IsGiven p s unit.address ctu (motion_behind unit slice last motions) coded given
    → IsGiven p s unit.address ctu (derived_over collocated p s unit.address ctu.items motions) coded given
given_here collocated motions coded p s unit slice ctu last given is es known gives =
    subst (λ m. IsGiven p s unit.address ctu m coded given)
    (behind_here collocated motions p s unit slice ctu.items last is es known) gives

pub given_is : (collocated motions : Motions) (coded : ℕ → ℕ → Bool) (p : PicturePlan) (s : SegmentPlan)
    (unit viewed : CodingTreeUnit) (slice : SliceMotion) (ctu : Ctu) (last : motion.Known) (given : UnitFilters)
    → unit ≡ viewed → IsUnit p s viewed → slice ≡ slice_motion p s viewed.address
    → last ≡ known_over collocated p s viewed.address ctu.items motions
    → IsGiven p s unit.address ctu (motion_behind unit slice last motions) coded given
    → IsGiven p s viewed.address ctu (derived_over collocated p s viewed.address ctu.items motions) coded given
given_is collocated motions coded p s unit viewed slice ctu last given same is es known gives =
    given_here collocated motions coded p s viewed slice ctu last given is es known
    (subst (λ (u : CodingTreeUnit). IsGiven p s u.address ctu (motion_behind u slice last motions) coded given) same
    gives)
