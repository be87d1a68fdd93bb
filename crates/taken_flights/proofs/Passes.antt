-- The pass that goes on, and those of shares, which are split off it and joined again.
use Rattle.std.proofs.Common.{◌≡◌, ℕ, ◌+◌, ◌≤◌, true, false, Bool, max, refl, sym, ap, subst, ◌∙◌}
use Rattle.std.proofs.Common.{arith, inl, inr}
use Rattle.std.specs.Prelude.{◌||◌}
use Rattle.std.proofs.lemmas.Bool.{cases_lt}
use Rattle.sample_words.specs.declared.sizes.FlightSizes.{FlightSizes}
use Rattle.progress_words.specs.declared.pass.Pass.{Pass}
use Rattle.progress_words.specs.declared.view.View.{View}
use Rattle.progress_words.specs.Meanings.{Meaning}
use Rattle.progress_words.specs.Passes.{IsPassOf, Knows, view}
use Rattle.progress_words.specs.Places.{Place}
use Rattle.progress_words.specs.Views.{AllSound, HasEnded, joined, kept_part, new_part, seen_of}
use Rattle.progress_words.proofs.Counts.{greater_at}
use Rattle.line_words.specs.Passes.{AreAllSound}
use Rattle.taken_pictures.specs.FlightFacts.{FlightFacts}
use Rattle.taken_pictures.specs.FlightFacts.{flight_meaning}
use Rattle.taken_pictures.specs.FlightFacts.{flight_in}
use Rattle.taken_pictures.specs.FlightFacts.{IsOfFlight}
use Rattle.flight_workers.specs.FlightWaits.{AreAllKnown}
use Rattle.flight_workers.specs.Working.{IsGathered}
use Rattle.flight_workers.proofs.Steps.{no_job, own_on}
use Rattle.taken_pictures.specs.Pictures.{HasSeenMore}
use Rattle.taken_pictures.proofs.Passes.{stays_known, stays_own}
use Rattle.taken_pictures.proofs.Seen.{sees_on, sees_same}
use Rattle.taken_flights.specs.Taken.{HasLookedOn, MayLook, MayTake}

abbrev meaning_at : Place FlightFacts → Meaning
meaning_at b = flight_meaning (flight_in b.flight)

-- a pass that has come back from the work on a flight
module _ {b : Place FlightFacts} {p q : Pass FlightFacts} (back : IsGathered b p q) where
  pub may_take : {s : FlightSizes} {n : ℕ} → IsOfFlight b.flight s → (view p).opens ≡ true → 1 ≤ n
      → (view q).splits + n ≤ 256 → MayTake b s q n
  may_take flight opens some few = record {
    flight = flight;
    own = back.own;
    known = back.known;
    ended = back.ended;
    none = back.none;
    opens = back.opens ∙ opens;
    some = some;
    few = few;
  }

  -- and from more of it
  pub gathered_on : {r : Pass FlightFacts} → IsGathered b q r → IsGathered b p r
  gathered_on on =
      let first = back.whole in
      let second = on.whole in
      record {
        own = on.own;
        known = on.known;
        ended = on.ended;
        none = on.none;
        opens = on.opens ∙ back.opens;
        whole = omega (arith, first, second);
      }

-- a pass that looks on
module _ {b : Place FlightFacts} where
  pub looked_same : {s : FlightSizes} {p : Pass FlightFacts} → MayLook b s p → HasLookedOn b p p
  looked_same {s} {p} may = record { own = may.own; known = may.known; kept = sees_same (view p) }

  pub looked_on : {p q r : Pass FlightFacts} → HasLookedOn b p q → HasLookedOn b q r → HasLookedOn b p r
  looked_on {p} {q} {r} first second = record {
    own = second.own;
    known = second.known;
    kept = sees_on (view p) (view q) (view r) first.kept second.kept;
  }

  pub looked_still : {p q r : Pass FlightFacts} → HasLookedOn b p q → Knows q r (view q) → HasLookedOn b p r
  looked_still {p} {q} {r} first knows = record {
    own = stays_own q r knows b first.own;
    known = stays_known q r knows (meaning_at b) first.known;
    kept = subst (λ (v : View FlightFacts). HasSeenMore (view p) v) (sym knows.1) first.kept;
  }

  pub may_still : {s : FlightSizes} {p q : Pass FlightFacts} → MayLook b s p → HasLookedOn b p q → MayLook b s q
  may_still may looked = record { flight = may.flight; own = looked.own; known = looked.known }

-- the part of a pass that was split off may look
module _ {b : Place FlightFacts} {s : FlightSizes} {p : Pass FlightFacts} {n : ℕ} (may : MayTake b s p n) where
  pub may_look : {r : Pass FlightFacts} → IsPassOf b r × (view r ≡ new_part (view p)) → MayLook b s r
  may_look {r} new = record {
    flight = may.flight;
    own = new.0;
    known = subst (λ (v : View FlightFacts). AreAllSound (meaning_at b) v) (sym new.1) may.known;
  }

-- a part of a pass was split off
module _ {b : Place FlightFacts} {s : FlightSizes} {p : Pass FlightFacts} {n : ℕ} (may : MayTake b s p n)
    (q : Pass FlightFacts) (kept : Knows p q (kept_part (view p))) where
  kept_own : IsPassOf b q
  kept_own = own_on b p q (kept_part (view p)) may.own kept refl

  kept_known : AreAllKnown b.flight (view q)
  kept_known = subst (λ (v : View FlightFacts). AreAllSound (meaning_at b) v) (sym kept.1) may.known

  kept_ended : HasEnded (meaning_at b) (view q)
  kept_ended = subst (λ (v : View FlightFacts). HasEnded (meaning_at b) v) (sym kept.1) may.ended

  kept_none : (view q).none ≡ true
  kept_none = ap (λ (v : View FlightFacts). v.none) kept.1 ∙ may.none

  -- what is left has come back from all
  pub gathered_same : IsGathered b q q
  gathered_same = record {
    own = kept_own;
    known = kept_known;
    ended = kept_ended;
    none = kept_none;
    opens = refl;
    whole = omega arith;
  }

  -- and more can be split off
  pub may_take_more : (k : ℕ) → 1 ≤ k → k + 1 ≤ n → MayTake b s q k
  may_take_more k some less =
      let few = may.few in
      let splits : (view q).splits ≡ (view p).splits + 1 = ap (λ (v : View FlightFacts). v.splits) kept.1 in
      record {
        flight = may.flight;
        own = kept_own;
        known = kept_known;
        ended = kept_ended;
        none = kept_none;
        opens = ap (λ (v : View FlightFacts). v.opens) kept.1 ∙ may.opens;
        some = some;
        few = omega (arith, few, splits, less);
      }

-- one of two was split off
pub may_take_one : {b : Place FlightFacts} {s : FlightSizes} {p : Pass FlightFacts} → MayTake b s p 2
    → (q : Pass FlightFacts) → Knows p q (kept_part (view p)) → MayTake b s q 1
may_take_one may q kept = may_take_more may q kept 1 (omega arith) (omega arith)

-- what two passes have seen is sound together
greater_sound : (m : Meaning) (l x y n : ℕ) → n ≡ max x y → AllSound m l x → AllSound m l y → AllSound m l n
greater_sound m l x y n e first second k less =
    elim (cases_lt k x) [
      | inl below ↦ first k below
      | inr past ↦ second k (omega (arith, e, less, past))
    ]

or_true : (a c : Bool) → a ≡ true → (a || c) ≡ true
or_true a c e = ap (λ (x : Bool). x || c) e

or_false : (a : Bool) → (a || false) ≡ a
or_false true = refl
or_false false = refl

-- the part has looked on
module _ {b : Place FlightFacts} (p : Pass FlightFacts) {r u : Pass FlightFacts}
    (new : IsPassOf b r × (view r ≡ new_part (view p))) (looked : HasLookedOn b r u) where
  pub part_ended : HasEnded (meaning_at b) (view u)
  part_ended =
      no_job b (meaning_at b) (view u)
      (ap (λ (v : View FlightFacts). v.job) looked.kept.same ∙ ap (λ (v : View FlightFacts). v.job) new.1)

  -- the pass is whole again where it has taken it in
  pub gathered : {q t : Pass FlightFacts} → Knows p q (kept_part (view p)) → IsGathered b q t
      → {w : Pass FlightFacts} → Knows t w (joined (view t) (view u)) → IsGathered b p w
  gathered {q} {t} kept mine {w} knows =
      let m : Meaning = meaning_at b in
      let v : View FlightFacts = joined (view t) (view u) in
      let qs : (view q).splits ≡ (view p).splits + 1 = ap (λ (x : View FlightFacts). x.splits) kept.1 in
      let qj : (view q).joins ≡ (view p).joins = ap (λ (x : View FlightFacts). x.joins) kept.1 in
      let us : (view u).splits ≡ 0 =
      ap (λ (x : View FlightFacts). x.splits) looked.kept.same ∙ ap (λ (x : View FlightFacts). x.splits) new.1 in
      let uj : (view u).joins ≡ 0 =
      ap (λ (x : View FlightFacts). x.joins) looked.kept.same ∙ ap (λ (x : View FlightFacts). x.joins) new.1 in
      let uo : (view u).opens ≡ false =
      ap (λ (x : View FlightFacts). x.opens) looked.kept.same ∙ ap (λ (x : View FlightFacts). x.opens) new.1 in
      let ws : (view w).splits ≡ (view t).splits + (view u).splits =
      ap (λ (x : View FlightFacts). x.splits) knows.1 in
      let wj : (view w).joins ≡ (view t).joins + (view u).joins + 1 =
      ap (λ (x : View FlightFacts). x.joins) knows.1 in
      let whole = mine.whole in
      let opens : (view q).opens ≡ (view p).opens = ap (λ (x : View FlightFacts). x.opens) kept.1 in
      record {
        own = own_on b t w v mine.own knows refl;
        known = subst (λ (x : View FlightFacts). AreAllSound m x) (sym knows.1)
            (λ l. greater_sound m l (seen_of (view t) l) (seen_of (view u) l) (seen_of v l)
            (greater_at (view t).seen (view u).seen l) (mine.known l) (looked.known l));
        ended = no_job b m (view w) (ap (λ (x : View FlightFacts). x.job) knows.1);
        none = ap (λ (x : View FlightFacts). x.none) knows.1 ∙ or_true (view t).none (view u).none mine.none;
        opens = ap (λ (x : View FlightFacts). x.opens) knows.1
            ∙ (ap (λ (x : Bool). (view t).opens || x) uo
            ∙ (or_false (view t).opens ∙ (mine.opens ∙ opens)));
        whole = omega (arith, qs, qj, us, uj, ws, wj, whole);
      }
