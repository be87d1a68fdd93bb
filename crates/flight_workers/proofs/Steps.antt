-- A pass between two lines.
use Rattle.std.proofs.Common.{
  ◌≡◌,
  ℕ,
  ◌+◌,
  ◌<◌,
  ◌≤◌,
  ◌⊎◌,
  true,
  false,
  List,
  Option,
  Some,
  None,
  refl,
  sym,
  ap,
  subst,
  ◌∙◌,
}
use Rattle.std.proofs.Common.{inl, inr, arith}
use Rattle.std.proofs.lemmas.Option.{none-some}
use Rattle.hv_base.specs.declared.line.Line.{Line}
use Rattle.sample_words.specs.declared.sizes.FlightSizes.{FlightSizes}
use Rattle.sample_words.specs.Words.{line_number}
use Rattle.progress_words.specs.declared.pass.Pass.{Pass}
use Rattle.progress_words.specs.declared.view.View.{View}
use Rattle.progress_words.specs.Meanings.{Meaning}
use Rattle.progress_words.specs.Passes.{IsPassOf, Knows, view}
use Rattle.progress_words.specs.Places.{Place}
use Rattle.progress_words.specs.Views.{HasEnded, finding_none, holding, seen_of}
use Rattle.line_words.specs.Passes.{AreAllSound}
use Rattle.flight_waits.specs.FactsOfFlights.{FlightFacts}
use Rattle.flight_waits.specs.FactsOfFlights.{flight_meaning}
use Rattle.flight_waits.specs.FactsOfFlights.{flight_in}
use Rattle.flight_waits.specs.Waits.{AreAllKnown, HasSameParts}
use Rattle.flight_workers.specs.Working.{HasEndedLine, HoldsLine, IsDone, IsFresh}

-- between two lines a pass has ended what it held
pub record IsBetween (b : Place FlightFacts) (p q : Pass FlightFacts) : Type 0 where
  pub own : IsPassOf b q
  pub known : AreAllKnown b.flight (view q)
  pub ended : HasEnded (flight_meaning (flight_in b.flight)) (view q)
  pub same : HasSameParts (view p) (view q)

module _ (b : Place FlightFacts) where
  -- what knows the same facts is of the same board
  pub own_on : (p q : Pass FlightFacts) (v : View FlightFacts) → IsPassOf b p → Knows p q v
      → v.facts ≡ (view p).facts → IsPassOf b q
  own_on p q v own knows facts =
      (knows.0 ∙ own.0, ap (λ (u : View FlightFacts). u.facts) knows.1 ∙ (facts ∙ own.1))

  pub no_job : (m : Meaning) (v : View FlightFacts) → v.job ≡ None → HasEnded m v
  no_job m v none line job = absurd (none-some line (sym none ∙ job))

  pub begins : (p : Pass FlightFacts) → IsFresh b p → IsBetween b p p
  begins p fresh = record {
    own = fresh.own;
    known = fresh.known;
    ended = no_job (flight_meaning (flight_in b.flight)) (view p) fresh.job;
    same = record { none = refl; opens = refl; splits = refl; joins = refl };
  }

  module _ (p q r : Pass FlightFacts) (between : IsBetween b p q) where
    -- it has drawn a line
    pub holds_line : (s : FlightSizes) (line : Line) → Knows q r (holding (view q) (line_number s line))
        → seen_of (view r) (line_number s line) ≡ 0 → HoldsLine b s r line
    holds_line s line knows none =
        let v : View FlightFacts = holding (view q) (line_number s line) in
        let m : Meaning = flight_meaning (flight_in b.flight) in
        record {
          own = own_on q r v between.own knows refl;
          holds = record { job = ap (λ (u : View FlightFacts). u.job) knows.1; next = none };
          written = ap (λ (u : View FlightFacts). u.written) knows.1;
          known = subst (λ (u : View FlightFacts). AreAllSound m u) (sym knows.1) between.known;
        }

    -- and ended it
    pub goes_on : (s : FlightSizes) (line : Line) (t : Pass FlightFacts)
        → Knows q r (holding (view q) (line_number s line)) → HasEndedLine b r t → IsBetween b p t
    goes_on s line t knows end =
        let was : HasSameParts (view p) (view r) =
        subst (λ (u : View FlightFacts). HasSameParts (view p) u) (sym knows.1)
        (record {
          none = between.same.none;
          opens = between.same.opens;
          splits = between.same.splits;
          joins = between.same.joins;
        }) in
        record {
          own = end.own;
          known = end.known;
          ended = end.ended;
          same = record {
            none = end.same.none ∙ was.none;
            opens = end.same.opens ∙ was.opens;
            splits = end.same.splits ∙ was.splits;
            joins = end.same.joins ∙ was.joins;
          };
        }

    -- it has found no line
    pub is_done : Knows q r (finding_none (view q)) → IsDone b p r
    is_done knows =
        let m : Meaning = flight_meaning (flight_in b.flight) in
        let v : View FlightFacts = finding_none (view q) in
        record {
          own = own_on q r v between.own knows refl;
          known = subst (λ (u : View FlightFacts). AreAllSound m u) (sym knows.1) between.known;
          ended = subst (λ (u : View FlightFacts). HasEnded m u) (sym knows.1) between.ended;
          none = ap (λ (u : View FlightFacts). u.none) knows.1;
          opens = ap (λ (u : View FlightFacts). u.opens) knows.1 ∙ between.same.opens;
          splits = ap (λ (u : View FlightFacts). u.splits) knows.1 ∙ between.same.splits;
          joins = ap (λ (u : View FlightFacts). u.joins) knows.1 ∙ between.same.joins;
        }
