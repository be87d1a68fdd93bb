-- What a pass knows behind waits and behind writing.
use Rattle.std.proofs.Common.{◌≡◌, refl, ℕ, ◌≤◌, List, get_or, arith, ap, sym, subst, ◌∙◌}
use Rattle.hv_base.specs.declared.line.Line.{Line}
use Rattle.sample_words.specs.declared.sizes.FlightSizes.{FlightSizes}
use Rattle.progress_words.specs.declared.pass.Pass.{Pass}
use Rattle.progress_words.specs.declared.view.View.{View}
use Rattle.progress_words.specs.Meanings.{Meaning}
use Rattle.progress_words.specs.Passes.{IsPassOf, Knows, view}
use Rattle.progress_words.specs.Places.{Place}
use Rattle.progress_words.specs.Rule.{IsNext}
use Rattle.progress_words.specs.Views.{counting, seen_of}
use Rattle.flight_lines.specs.Numbers.{numbered_needs}
use Rattle.line_words.specs.Passes.{writing_run}
use Rattle.line_words.specs.Places.{UnitAt, number_at}
use Rattle.line_words.proofs.Words.{next_still}
use Rattle.sample_lines.specs.FactsOfFlights.{FlightFacts}
use Rattle.flight_waits.specs.Waits.{AreSeen, HasSameParts, HasWaited, HoldsUnit}

module _ {F : Type 0} where
  -- it hasn't waited, or has waited twice
  pub waited_none : (v : View F) (line : ℕ) → HasWaited v line v
  waited_none v line = record { same = refl; more = λ l. omega arith; own = refl }

  pub waited_both : (v w x : View F) (line : ℕ) → HasWaited v line w → HasWaited w line x → HasWaited v line x
  waited_both v w x line first second =
      record {
        same = second.same
            ∙ ap (λ (u : View F).
            record u { seen = x.seen; loads = x.loads; least = x.least; fault_loads = x.fault_loads }) first.same;
        more = λ l. let a = first.more l in let b = second.more l in omega (arith, a, b);
        own = second.own ∙ first.own;
      }

  -- it holds what it held
  pub holds_still : (v w : View F) (at : UnitAt) → HoldsUnit v at → HasWaited v (number_at at) w → HoldsUnit w at
  holds_still v w at holds waited =
      record { job = ap (λ (u : View F). u.job) waited.same ∙ holds.job; next = waited.own ∙ holds.next }

  pub written_still : (v w : View F) (line n : ℕ) → HasWaited v line w → v.written ≡ n → w.written ≡ n
  written_still v w line n waited e = ap (λ (u : View F). u.written) waited.same ∙ e

  -- it has drawn, split and joined as before
  pub parts_still : (v w : View F) (line : ℕ) → HasWaited v line w → HasSameParts v w
  parts_still v w line waited =
      record {
        none = ap (λ (u : View F). u.none) waited.same;
        opens = ap (λ (u : View F). u.opens) waited.same;
        splits = ap (λ (u : View F). u.splits) waited.same;
        joins = ap (λ (u : View F). u.joins) waited.same;
      }

  counted_parts : (v w : View F) (l n : ℕ) → HasSameParts v w → HasSameParts v (counting w l n)
  counted_parts v w l n same =
      record { none = same.none; opens = same.opens; splits = same.splits; joins = same.joins }

  pub parts_counted : (v w x : View F) (line l n : ℕ) → HasWaited v line w → x ≡ counting w l n → HasSameParts v x
  parts_counted v w x line l n waited e =
      subst (HasSameParts v) (sym e) (counted_parts v w l n (parts_still v w line waited))

  -- what is met stays met
  pub seen_more : (facts : FlightFacts) (s : FlightSizes) (v w : View F) (needs : List (Line × ℕ))
      → ((l : ℕ) → seen_of v l ≤ seen_of w l) → AreSeen facts s v needs → AreSeen facts s w needs
  seen_more facts s v w needs more met k d inside =
      let here = met k d inside in
      let count = here.1 in
      let above = more (get_or (numbered_needs s needs) k d).0 in
      (here.0, omega (arith, count, above))

  -- words are written of the unit that it holds
  pub next_written : (m : Meaning) (v w : View F) (l n : ℕ) → w ≡ writing_run v n → IsNext m v l → IsNext m w l
  next_written m v w l n e next = subst (λ (u : View F). IsNext m u l) (sym e) (next_still m v l n next)

  pub seen_written : (v w : View F) (l n k : ℕ) → w ≡ writing_run v n → seen_of v l ≡ k → seen_of w l ≡ k
  seen_written v w l n k e seen = ap (λ (u : View F). seen_of u l) e ∙ seen

  pub all_written : (v w : View F) (n : ℕ) → w ≡ writing_run v n → v.written ≡ 0 → w.written ≡ n
  all_written v w n e none = let now = ap (λ (u : View F). u.written) e in omega (arith, now, none)

  -- and it is counted
  pub counted_written : (v w x : View F) (l n k : ℕ) → w ≡ writing_run v n → x ≡ counting w l k → x ≡ counting v l k
  counted_written v w x l n k e count = count ∙ ap (λ (u : View F). counting u l k) e

  pub own_counted : (b : Place F) (p q : Pass F) (l k : ℕ) → IsPassOf b p → Knows p q (counting (view p) l k)
      → IsPassOf b q
  own_counted b p q l k own knows = (knows.0 ∙ own.0, ap (λ (u : View F). u.facts) knows.1 ∙ own.1)
