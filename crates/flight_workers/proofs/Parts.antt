-- Passes that are split off, and joined again.
use Rattle.std.proofs.Common.{
  ◌≡◌,
  ℕ,
  suc,
  ◌+◌,
  ◌<◌,
  ◌≤◌,
  true,
  false,
  Bool,
  List,
  [],
  ◌∷◌,
  Option,
  All,
  length,
  max,
  get_or,
  refl,
  sym,
  ap,
}
use Rattle.std.proofs.Common.{subst, ◌∙◌, arith, inl, inr}
use Rattle.std.specs.Prelude.{◌||◌}
use Rattle.std.proofs.lemmas.Bool.{cases_lt}
use Rattle.sample_words.specs.declared.sizes.FlightSizes.{FlightSizes}
use Rattle.progress_words.specs.declared.pass.Pass.{Pass}
use Rattle.progress_words.specs.declared.view.View.{View}
use Rattle.progress_words.specs.Counts.{greater}
use Rattle.progress_words.specs.Meanings.{Meaning}
use Rattle.progress_words.specs.Passes.{IsPassOf, Knows, view}
use Rattle.progress_words.specs.Places.{Place}
use Rattle.progress_words.specs.Views.{AllSound, HasEnded, joined, kept_part, new_part, seen_of}
use Rattle.progress_words.proofs.Counts.{greater_at}
use Rattle.line_words.specs.Passes.{AreAllSound}
use Rattle.flight_waits.specs.FactsOfFlights.{FlightFacts}
use Rattle.flight_waits.specs.FactsOfFlights.{flight_meaning}
use Rattle.flight_waits.specs.FactsOfFlights.{flight_in}
use Rattle.flight_workers.specs.Working.{IsDone, IsFresh, IsGathered, MayFan, MayWork}
use Rattle.flight_workers.proofs.Steps.{no_job, own_on}

-- those behind the first of a list
tail_all : {X : Type 0} (P : X → Type 0) (x : X) (xs : List X) → All P (x ∷ xs) → All P xs
tail_all P x xs all k d inside = all (suc k) d (omega (arith, inside))

module _ {X : Type 0} {Stands : X → FlightFacts → (ℕ → ℕ) → Type 0} {b : Place FlightFacts} {s : FlightSizes}
    {p : Pass FlightFacts} {worker : X} {others : List X} (may : MayFan Stands b s p worker others) where
  meaning : Meaning
  meaning = flight_meaning (flight_in b.flight)

  -- the pass that a part was split from
  pub may_fan_on : {q : Pass FlightFacts} {next : X} {rest : List X} → others ≡ next ∷ rest
      → Knows p q (kept_part (view p)) → MayFan Stands b s q next rest
  may_fan_on {q} {next} {rest} list knows =
      let v : View FlightFacts = kept_part (view p) in
      let each : All (λ other. Stands other b.flight (seen_of (view p))) (next ∷ rest) =
      subst (All (λ other. Stands other b.flight (seen_of (view p)))) list may.all in
      let seen : seen_of v ≡ seen_of (view q) = ap seen_of (sym knows.1) in
      let splits : (view q).splits ≡ (view p).splits + 1 = ap (λ (u : View FlightFacts). u.splits) knows.1 in
      let many : length others ≡ suc (length rest) = ap length list in
      let few = may.few in
      record {
        first = record {
          flight = may.first.flight;
          fresh = record {
            own = own_on b p q v may.first.fresh.own knows refl;
            known = subst (λ (u : View FlightFacts). AreAllSound (flight_meaning (flight_in b.flight)) u) (sym knows.1)
                may.first.fresh.known;
            job = ap (λ (u : View FlightFacts). u.job) knows.1 ∙ may.first.fresh.job;
            none = ap (λ (u : View FlightFacts). u.none) knows.1 ∙ may.first.fresh.none;
          };
          stands = subst (Stands next b.flight) seen (each 0 next (omega arith));
        };
        all = subst (λ (count : ℕ → ℕ). All (λ other. Stands other b.flight count) rest) seen
            (tail_all (λ other. Stands other b.flight (seen_of (view p))) next rest each);
        opens = ap (λ (u : View FlightFacts). u.opens) knows.1 ∙ may.opens;
        few = omega (arith, few, splits, many);
      }

  -- and the part
  pub may_work_on : {r : Pass FlightFacts} → IsPassOf b r × (view r ≡ new_part (view p))
      → MayWork Stands b s r worker
  may_work_on {r} new =
      let v : View FlightFacts = new_part (view p) in
      record {
        flight = may.first.flight;
        fresh = record {
          own = new.0;
          known = subst (λ (u : View FlightFacts). AreAllSound (flight_meaning (flight_in b.flight)) u) (sym new.1)
              may.first.fresh.known;
          job = ap (λ (u : View FlightFacts). u.job) new.1;
          none = ap (λ (u : View FlightFacts). u.none) new.1;
        };
        stands = subst (Stands worker b.flight) (ap seen_of (sym new.1)) may.first.stands;
      }

-- what two passes have seen is sound together
greater_sound : (m : Meaning) (l x y n : ℕ) → n ≡ max x y → AllSound m l x → AllSound m l y → AllSound m l n
greater_sound m l x y n e first second k less =
    elim (cases_lt k x) [
      | inl below ↦ first k below
      | inr past ↦ second k (omega (arith, e, less, past))
    ]

or_true : (a c : Bool) → a ≡ true → (a || c) ≡ true
or_true a c e = ap (λ (x : Bool). x || c) e

or_false : (a : Bool) → (a || false) ≡ a
or_false true = refl
or_false false = refl

-- a pass is whole again where it has taken in the one that was split from it
pub gathered : {b : Place FlightFacts} {p q r t u : Pass FlightFacts} → Knows p q (kept_part (view p))
    → IsPassOf b r × (view r ≡ new_part (view p)) → IsGathered b q t → IsDone b r u
    → {w : Pass FlightFacts} → Knows t w (joined (view t) (view u)) → IsGathered b p w
gathered {b} {p} {q} {r} {t} {u} kept new mine theirs {w} knows =
    let m : Meaning = flight_meaning (flight_in b.flight) in
    let v : View FlightFacts = joined (view t) (view u) in
    let qs : (view q).splits ≡ (view p).splits + 1 = ap (λ (x : View FlightFacts). x.splits) kept.1 in
    let qj : (view q).joins ≡ (view p).joins = ap (λ (x : View FlightFacts). x.joins) kept.1 in
    let rs : (view u).splits ≡ 0 = theirs.splits ∙ ap (λ (x : View FlightFacts). x.splits) new.1 in
    let rj : (view u).joins ≡ 0 = theirs.joins ∙ ap (λ (x : View FlightFacts). x.joins) new.1 in
    let ws : (view w).splits ≡ (view t).splits + (view u).splits = ap (λ (x : View FlightFacts). x.splits) knows.1 in
    let wj : (view w).joins ≡ (view t).joins + (view u).joins + 1 = ap (λ (x : View FlightFacts). x.joins) knows.1 in
    let whole = mine.whole in
    let opens : (view q).opens ≡ (view p).opens = ap (λ (x : View FlightFacts). x.opens) kept.1 in
    let none : (view r).opens ≡ false = ap (λ (x : View FlightFacts). x.opens) new.1 in
    record {
      own = own_on b t w v mine.own knows refl;
      known = subst (λ (x : View FlightFacts). AreAllSound m x) (sym knows.1)
          (λ l. greater_sound m l (seen_of (view t) l) (seen_of (view u) l) (seen_of v l)
          (greater_at (view t).seen (view u).seen l) (mine.known l) (theirs.known l));
      ended = no_job b m (view w) (ap (λ (x : View FlightFacts). x.job) knows.1);
      none = ap (λ (x : View FlightFacts). x.none) knows.1 ∙ or_true (view t).none (view u).none mine.none;
      opens = ap (λ (x : View FlightFacts). x.opens) knows.1
          ∙ (ap (λ (x : Bool). (view t).opens || x) (theirs.opens ∙ none)
          ∙ (or_false (view t).opens ∙ (mine.opens ∙ opens)));
      whole = omega (arith, qs, qj, rs, rj, ws, wj, whole);
    }

-- and has been split once more for each worker
pub split_for : {X : Type 0} {b : Place FlightFacts} (p q : Pass FlightFacts) {r : Pass FlightFacts}
    (t : Pass FlightFacts) {u : Pass FlightFacts} (w : Pass FlightFacts) (others : List X) {next : X} {rest : List X}
    → others ≡ next ∷ rest → Knows p q (kept_part (view p)) → IsPassOf b r × (view r ≡ new_part (view p))
    → IsDone b r u → (view t).splits ≡ (view q).splits + length rest → Knows t w (joined (view t) (view u))
    → (view w).splits ≡ (view p).splits + length others
split_for p q {r} t {u} w others {next} {rest} list kept new theirs mine knows =
    let many : length others ≡ suc (length rest) = ap length list in
    let kept_is : (view q).splits ≡ (view p).splits + 1 = ap (λ (x : View FlightFacts). x.splits) kept.1 in
    let none : (view u).splits ≡ 0 = theirs.splits ∙ ap (λ (x : View FlightFacts). x.splits) new.1 in
    let both : (view w).splits ≡ (view t).splits + (view u).splits = ap (λ (x : View FlightFacts). x.splits) knows.1 in
    omega (arith, many, kept_is, none, both, mine)
