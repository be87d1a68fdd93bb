-- A unit that was built holds what agrees with the picture that it was built for.
use Rattle.std.proofs.Common.{ℕ, sym, ◌∙◌}
use Rattle.plan_types.specs.declared.picture_plan.PicturePlan.{PicturePlan}
use Rattle.flight_value_laws.specs.SpecDecodedPictures.{DecodedUnits}
use Rattle.row_borders.specs.KnownPictureLaws.{AgreeOnUnit}
use Rattle.unit_words.specs.UnitBuild.{BuiltUnit}
use Rattle.row_borders.specs.Building.{HoldsUnit}

pub also_held : (p : PicturePlan) (address : ℕ) (built : BuiltUnit) (whole made : DecodedUnits)
    → AgreeOnUnit p address whole made → HoldsUnit p address built made → HoldsUnit p address built whole
also_held p address built whole made agree held = record {
  samples = λ c x y mine. held.samples c x y mine ∙ sym (agree.samples c x y mine);
  motions = λ x y mine. held.motions x y mine ∙ sym (agree.motions x y mine);
  places = λ x y mine. held.places x y mine ∙ sym (agree.places x y mine);
  coded = λ x y mine. held.coded x y mine ∙ sym (agree.coded x y mine);
  offsets = λ c column row mine. held.offsets c column row mine ∙ sym (agree.units c column row mine);
}
