-- Rules that are told of a flight's units have numbers below 32.
use Rattle.std.specs.Prelude.{◌≡◌, refl, ℕ, ◌+◌, ◌*◌, ◌<◌, Option, Some, None, slice_get}
use Rattle.std.specs.Option.{option_map}
use Rattle.std.proofs.Common.{subst}
use Rattle.std.proofs.lemmas.Option.{none-some, same_Some}
use Rattle.hv_base.specs.declared.breach.Breach.{Breach}
use Rattle.hv_base.specs.declared.line.Line.{Line}
use Rattle.hv_base.specs.declared.line.Phase.{Phase}
use Rattle.hv_base.specs.declared.line.Phase.TheVariants.{B, V, H, S}
use Rattle.header_types.specs.SequenceParameterSets.{width_in_ctbs}
use Rattle.plan_types.specs.declared.picture_plan.PicturePlan.{PicturePlan}
use Rattle.flight_unit_laws.specs.SpecFlights.{PlannedFlight}
use Rattle.flight_unit_laws.specs.SpecFlights.{broken_at}
use Rattle.line_words.specs.FlightLines.{HasFewRules}
use Rattle.rule_numbers.specs.Rules.{rule_number}
use Rattle.rule_numbers.proofs.Ruled.{small_rule}
use Rattle.flight_facts.specs.Boards.{board_flight, rule_at, rule_in, rule_of}

-- a rule that is told by its number
pub record IsRule (o : Option Breach) (r : ℕ) : Type 0 where
  pub breach : Breach
  pub is : o ≡ Some breach
  pub number : rule_number breach ≡ r

rule_is : (o : Option Breach) (r : ℕ) → option_map rule_number o ≡ Some r → IsRule o r
rule_is None r e = absurd (none-some r e)
rule_is (Some b) r e = record { breach = b; is = refl; number = same_Some (rule_number b) r e }

-- it is that of a coding tree unit
in_phase : (p : PicturePlan) (phase : Phase) (row x r : ℕ) → rule_in p phase row x ≡ Some r
    → (phase ≡ B) × IsRule (broken_at p (row * width_in_ctbs p.sps + x)) r
in_phase p B row x r e = (refl, rule_is (broken_at p (row * width_in_ctbs p.sps + x)) r e)
in_phase p V row x r e = absurd (none-some r e)
in_phase p H row x r e = absurd (none-some r e)
in_phase p S row x r e = absurd (none-some r e)

-- a rule that is told of a unit of a line
pub record HasRule (f : PlannedFlight) (l : Line) (x r : ℕ) : Type 0 where
  pub plan : PicturePlan
  pub has : slice_get f.pictures l.picture ≡ Some plan
  pub phase : l.phase ≡ B
  pub rule : IsRule (broken_at plan (l.row * width_in_ctbs plan.sps + x)) r

has_rule_by : (f : PlannedFlight) (l : Line) (x r : ℕ) (o : Option PicturePlan) → slice_get f.pictures l.picture ≡ o
    → rule_of o l x ≡ Some r → HasRule f l x r
has_rule_by f l x r None has e = absurd (none-some r e)
has_rule_by f l x r (Some p) has e =
    let is = in_phase p l.phase l.row x r e in
    record { plan = p; has = has; phase = is.0; rule = is.1 }

pub has_rule : (f : PlannedFlight) (l : Line) (x r : ℕ) → rule_at f l x ≡ Some r → HasRule f l x r
unfolding rule_at
has_rule f l x r e = has_rule_by f l x r (slice_get f.pictures l.picture) refl e

pub few_rules : (f : PlannedFlight) → HasFewRules (board_flight f)
few_rules f l x r e =
    let has = has_rule f l x r e in
    subst (λ k. k < 32) has.rule.number (small_rule has.rule.breach)
