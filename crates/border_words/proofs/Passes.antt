-- What a pass knows behind reading words.
use Rattle.std.proofs.Common.{ℕ, ◌<◌, ◌≤◌, refl, sym, subst}
use Rattle.progress_words.specs.declared.pass.Pass.{Pass}
use Rattle.progress_words.specs.declared.view.View.{View}
use Rattle.progress_words.specs.Passes.{IsPassOf, Knows, view}
use Rattle.progress_words.specs.Places.{Place}
use Rattle.progress_words.specs.Views.{seen_of}
use Rattle.line_words.proofs.Words.{still_of}
use Rattle.sample_lines.specs.FactsOfFlights.{FlightFacts}

module _ (p q : Pass FlightFacts) (knows : Knows p q (view p)) where
  pub stays_own : (b : Place FlightFacts) → IsPassOf b p → IsPassOf b q
  stays_own b own = still_of b p q (view p) own knows refl

  pub stays_seen : (l n : ℕ) → n < seen_of (view p) l → n < seen_of (view q) l
  stays_seen l n seen = subst (λ (v : View FlightFacts). n < seen_of v l) (sym knows.1) seen

  pub stays_counted : (l n : ℕ) → n ≤ seen_of (view p) l → n ≤ seen_of (view q) l
  stays_counted l n seen = subst (λ (v : View FlightFacts). n ≤ seen_of v l) (sym knows.1) seen
