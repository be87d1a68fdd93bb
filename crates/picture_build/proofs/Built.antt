-- A picture while its units are built one after the other.
use Rattle.std.proofs.Common.{◌≡◌, ℕ, List, [], ◌∷◌, ◌++◌, length, slice_get, Option, Some, None, Ok, refl, sym}
use Rattle.std.proofs.Common.{ap, subst, ◌∙◌, arith}
use Rattle.std.specs.List.{All}
use Rattle.std.proofs.Math.Path.{fun_ext}
use Rattle.std.proofs.Math.Seq.{get_or-append_seam}
use Rattle.std.proofs.lemmas.List.{get_or_append_left, length-append}
use Rattle.std.proofs.lemmas.List.Sums.{fold-append}
use Rattle.header_types.specs.SequenceParameterSets.{IsSps}
use Rattle.plan_types.specs.declared.picture_plan.PicturePlan.{PicturePlan}
use Rattle.plan_types.specs.declared.segment_plan.SegmentPlan.{SegmentPlan}
use Rattle.picture_trees.specs.SpecPictureTrees.{TreeUnit, Progress, picture_read}
use Rattle.spec_picture_motion.specs.Field.{Motions, no_motions}
use Rattle.unit_build.specs.SpecPictureFilters.{no_data}
use Rattle.unit_build.specs.SpecPictureFilters.{with_unit as filtered_with_unit}
use Rattle.spec_picture_build.specs.Border.{Samples, no_samples}
use Rattle.spec_picture_build.specs.Built.{BuiltPicture, added_in, built_of, no_picture, picture_built, unit_added}
use Rattle.spec_picture_build.specs.Built.{units_built, with_unit}
use Rattle.spec_picture_build.specs.References.{DecodedPicture, motions_of as motions_at}
use Rattle.picture_buffer.specs.Motion.{FieldPlaces, motions_of}
use Rattle.picture_buffer.specs.Planes.{PictureSamples, samples_of}
use Rattle.unit_build.specs.PictureFilters.{Filtering, data_of}
use Rattle.picture_trees.specs.Given.{AreAll}
use Rattle.picture_build.specs.Building.{Building, IsBuilt, IsSoundUnit, behind_by, built_by}
use Rattle.picture_build.proofs.Behind.{behind_more, behind_none}

-- a picture by its parts
abbrev of_parts : Samples → Motions → BuiltPicture
of_parts samples motions = record { samples = samples; motions = motions }

pub same_picture : (s t : Samples) (m n : Motions) → s ≡ t → m ≡ n → of_parts s m ≡ of_parts t n
same_picture s t m n es em = ap (λ v. of_parts v m) es ∙ ap (λ v. of_parts t v) em

-- no unit is built
pub built_none : (buffer : List DecodedPicture) (building : Building) (p : PicturePlan) → building.plan ≡ p
    → ((c x y : ℕ) → samples_of building.planes c x y ≡ 0)
    → motions_of building.motion ≡ no_motions → data_of building.filters ≡ no_data → IsBuilt buffer building p []
unfolding units_built
built_none buffer building p plan none still empty = record {
  plan = plan;
  picture =
      λ sound. same_picture _ no_samples _ no_motions (fun_ext (λ c. fun_ext (λ x. fun_ext (λ y. none c x y)))) still;
  behind = λ sound. behind_none (motions_at buffer) p (motions_of building.motion)
      (data_of building.filters) still empty;
}

pub built_first : (buffer : List DecodedPicture) (p : PicturePlan) (planes held : PictureSamples)
    (field kept : FieldPlaces) (filters : Filtering)
    → held ≡ planes → kept ≡ field → ((c x y : ℕ) → samples_of planes c x y ≡ 0)
    → ((x y : ℕ) → motions_of field x y ≡ None) → data_of filters ≡ no_data
    → IsBuilt buffer (record { plan = p; planes = held; motion = kept; filters = filters }) p []
built_first buffer p planes held field kept filters ep ef none still empty =
    built_none buffer (record { plan = p; planes = held; motion = kept; filters = filters }) p refl
    (λ c x y. ap (λ v. samples_of v c x y) ep ∙ none c x y)
    (ap motions_of ef ∙ fun_ext (λ x. fun_ext (λ y. still x y))) empty

-- a unit of a segment of the picture, and one of none
pub with_some : (buffer : List DecodedPicture) (p : PicturePlan) (built : BuiltPicture) (unit : TreeUnit)
    (s : SegmentPlan)
    → slice_get p.segments unit.segment ≡ Some s
    → unit_added buffer p s unit built ≡ with_unit buffer p built unit
with_some buffer p built unit s e = ap (λ (o : Option SegmentPlan). added_in buffer p o unit built) (sym e)

pub with_none : (buffer : List DecodedPicture) (p : PicturePlan) (built : BuiltPicture) (unit : TreeUnit)
    → slice_get p.segments unit.segment ≡ None → built ≡ with_unit buffer p built unit
with_none buffer p built unit e = ap (λ (o : Option SegmentPlan). added_in buffer p o unit built) (sym e)

sound_before : (p : PicturePlan) (given : List TreeUnit) (unit : TreeUnit) → All (IsSoundUnit p) (given ++ unit ∷ [])
    → All (IsSoundUnit p) given
sound_before p given unit sound = λ k d lt. subst (IsSoundUnit p) (get_or_append_left given (unit ∷ []) d k lt)
    (sound k d (omega (arith, length-append given (unit ∷ []), lt)))

sound_last : (p : PicturePlan) (given : List TreeUnit) (unit : TreeUnit) → All (IsSoundUnit p) (given ++ unit ∷ [])
    → IsSoundUnit p unit
sound_last p given unit sound =
    subst (IsSoundUnit p) (get_or-append_seam given unit [] unit)
    (sound (length given) unit (omega (arith, length-append given (unit ∷ []))))

-- one unit more
pub built_more : (buffer : List DecodedPicture) (old new : Building) (p : PicturePlan) (given : List TreeUnit)
    (unit : TreeUnit)
    → IsBuilt buffer old p given → new.plan ≡ old.plan
    → (IsSoundUnit old.plan unit → built_by new ≡ with_unit buffer old.plan (built_by old) unit)
    → (IsSoundUnit old.plan unit → behind_by new ≡ filtered_with_unit (motions_at buffer) old.plan (behind_by old) unit)
    → IsBuilt buffer new p (given ++ unit ∷ [])
unfolding units_built
built_more buffer old new p given unit before same told gathered =
    let last : All (IsSoundUnit p) (given ++ unit ∷ []) → IsSoundUnit old.plan unit =
    λ sound. subst (λ q. IsSoundUnit q unit) (sym before.plan) (sound_last p given unit sound) in
    record {
      plan = same ∙ before.plan;
      picture = λ sound.
          told (last sound)
          ∙ ap (λ q. with_unit buffer q (built_by old) unit) before.plan
          ∙ ap (λ b. with_unit buffer p b unit) (before.picture (sound_before p given unit sound))
          ∙ sym (fold-append (with_unit buffer p) no_picture given (unit ∷ []));
      behind = λ sound.
          gathered (last sound)
          ∙ ap (λ q. filtered_with_unit (motions_at buffer) q (behind_by old) unit) before.plan
          ∙ behind_more (motions_at buffer) p (behind_by old) given unit
          (before.behind (sound_before p given unit sound));
    }

-- all units are built, of a picture whose sequence parameter set is in range
pub record AreBuilt (buffer : List DecodedPicture) (building : Building) (p : PicturePlan)
    (given : List TreeUnit) : Type 0 where
  pub is : IsBuilt buffer building p given
  pub sps : IsSps p.sps
  pub sound : All (IsSoundUnit p) given
  pub all : AreAll given (picture_read p [])

pub built_all : (buffer : List DecodedPicture) (p : PicturePlan) (building : Building) (given : List TreeUnit)
    → IsBuilt buffer building p given → IsSps p.sps
    → ((q : PicturePlan) (progress : Progress) → IsSps q.sps → picture_read q [] ≡ Ok progress
    → All (IsSoundUnit q) progress.given)
    → AreAll given (picture_read p []) → AreBuilt buffer building p given
built_all buffer p building given is sps sound all = record {
  is = is;
  sps = sps;
  sound = subst (λ g. All (IsSoundUnit p) g) all.same (sound p all.progress sps all.all);
  all = all;
}

-- they are the picture before its loop filters
pub picture_is : (buffer : List DecodedPicture) (p : PicturePlan) (building : Building) (given : List TreeUnit)
    → AreBuilt buffer building p given → picture_built buffer p ≡ Ok (built_by building)
unfolding picture_built
picture_is buffer p building given are =
    ap (built_of buffer p) are.all.all ∙ ap (λ g. Ok (units_built buffer p g)) are.all.same
    ∙ sym (ap (λ b. Ok b) (are.is.picture are.sound))
