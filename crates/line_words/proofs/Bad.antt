-- A unit that breaks a rule, as a board has it.
use Rattle.std.proofs.Common.{◌≡◌, ℕ, ◌<◌, false, Some, sym, ◌∙◌, subst}
use Rattle.std.proofs.lemmas.Bool.{lt-ltb}
use Rattle.std.specs.Prelude.{◌&&◌, not, nat_lt}
use Rattle.hv_base.specs.declared.line.Line.{Line}
use Rattle.board_core.specs.Needs.{read_needs}
use Rattle.board_core.specs.Places.{full_count, IsLine, unit_of}
use Rattle.sample_words.specs.declared.sizes.FlightSizes.{FlightSizes}
use Rattle.sample_words.specs.Words.{IsLine as IsWordLine, line_at, line_number, line_units, lines}
use Rattle.progress_words.specs.declared.view.View.{View}
use Rattle.progress_words.specs.Core.{AreMet}
use Rattle.progress_words.specs.Meanings.{Meaning}
use Rattle.progress_words.specs.Rule.{IsNextBad}
use Rattle.progress_words.specs.Views.{seen_of}
use Rattle.flight_lines.specs.Flights.{BoardFlight, IsSized, bad_at, meaning_of, rule_if}
use Rattle.flight_lines.specs.Numbers.{numbered_needs, unit_number}
use Rattle.flight_lines.proofs.Numbered.{flight_line, number_less, number_line, units_are}
use Rattle.flight_lines.proofs.Placed.{unit_is_number}
use Rattle.line_words.specs.Places.{HasSizes, IsUnit, UnitAt, number_at}

module _ (f : BoardFlight) (sized : IsSized f.plan f.sizes) (l : Line) (x r : ℕ) (line : IsLine f.plan l)
    (inside : x < full_count f.plan l) (unsound : f.sound l x ≡ false) (rule : f.rule l x ≡ Some r) where
  again : line_at f.sizes (line_number f.sizes l) ≡ l
  again = number_line f.plan f.sizes sized l line

  told : bad_at f (line_number f.sizes l) x ≡ Some r
  told =
      let n : ℕ = line_number f.sizes l in
      let a = lt-ltb n (lines f.sizes) (number_less f.plan f.sizes sized l line) in
      let b = lt-ltb x (full_count f.plan l) inside in
      let P : Line → Type 0 = λ k. rule_if
      (nat_lt n (lines f.sizes) && (nat_lt x (full_count f.plan k) && not (f.sound k x))) (f.rule k x) ≡ Some r in
      let here : P l = (λ i. rule_if (a i && (b i && not (unsound i))) (f.rule l x)) ∙ rule in
      subst P (sym again) here

  module _ {F : Type 0} (v : View F) where
    bad_here : v.job ≡ Some (line_number f.sizes l) → seen_of v (line_number f.sizes l) ≡ x
        → AreMet (meaning_of f) (seen_of v) (numbered_needs f.sizes (read_needs f.plan l x))
        → IsNextBad (meaning_of f) v (unit_number f.sizes l x) r
    unfolding meaning_of
    bad_here job unit met =
        let n : ℕ = line_number f.sizes l in
        let P : Line → Type 0 = λ k. (x < full_count f.plan k) × (unit_number f.sizes l x ≡ unit_of f.plan k x)
        × AreMet (meaning_of f) (seen_of v) (numbered_needs f.sizes (read_needs f.plan k x)) in
        let all : P (line_at f.sizes n) =
        subst P (sym again) (inside, sym (unit_is_number f.plan f.sizes sized l x line), met) in
        let at : ℕ → Type 0 = λ k. (k < full_count f.plan (line_at f.sizes n))
        × (unit_number f.sizes l x ≡ unit_of f.plan (line_at f.sizes n) k)
        × AreMet (meaning_of f) (seen_of v) (numbered_needs f.sizes (read_needs f.plan (line_at f.sizes n) k))
        × (bad_at f n k ≡ Some r) in
        let here : at (seen_of v n) = subst at (sym unit) (all.0, all.1, all.2, told) in
        record {
          line = n;
          inside = number_less f.plan f.sizes sized l line;
          job = job;
          left = here.0;
          number = here.1;
          bad = here.3;
          met = here.2;
        }

-- a unit of the flight that a board has
module _ (m : Meaning) (f : BoardFlight) (meant : m ≡ meaning_of f) (u : UnitAt) (has : HasSizes f u.sizes)
    (is : IsUnit u) (r : ℕ) (unsound : f.sound u.line u.unit ≡ false) (rule : f.rule u.line u.unit ≡ Some r) where
  pub bad_next : {F : Type 0} (v : View F) → v.job ≡ Some (number_at u) → seen_of v (number_at u) ≡ u.unit
      → AreMet m (seen_of v) (numbered_needs u.sizes (read_needs f.plan u.line u.unit))
      → (number broken : ℕ) → number ≡ unit_number u.sizes u.line u.unit → broken ≡ r → IsNextBad m v number broken
  bad_next v job unit met number broken number_is broken_is =
      let same = sym has.0 in
      let word_line : IsWordLine f.sizes u.line = subst (λ (s : FlightSizes). IsWordLine s u.line) same is.line in
      let line : IsLine f.plan u.line = flight_line f.plan f.sizes has.1 u.line word_line in
      let few : u.unit < line_units f.sizes u.line.phase =
      subst (λ (s : FlightSizes). u.unit < line_units s u.line.phase) same is.unit in
      let inside : u.unit < full_count f.plan u.line =
      subst (λ (n : ℕ). u.unit < n) (sym (units_are f.plan f.sizes has.1 u.line line)) few in
      let job_there = subst (λ (s : FlightSizes). v.job ≡ Some (line_number s u.line)) same job in
      let unit_there = subst (λ (s : FlightSizes). seen_of v (line_number s u.line) ≡ u.unit) same unit in
      let met_there = subst
      (λ (s : FlightSizes). AreMet (meaning_of f) (seen_of v) (numbered_needs s (read_needs f.plan u.line u.unit)))
      same
      (subst
      (λ (n : Meaning). AreMet n (seen_of v) (numbered_needs u.sizes (read_needs f.plan u.line u.unit))) meant met) in
      let found = bad_here f has.1 u.line u.unit r line inside unsound rule v job_there unit_there met_there in
      let there : IsNextBad m v (unit_number u.sizes u.line u.unit) r =
      subst (λ (n : Meaning). IsNextBad n v (unit_number u.sizes u.line u.unit) r) (sym meant)
      (subst (λ (s : FlightSizes). IsNextBad (meaning_of f) v (unit_number s u.line u.unit) r) has.0 found) in
      subst (λ (n : ℕ). IsNextBad m v n broken) (sym number_is)
      (subst (λ (k : ℕ). IsNextBad m v (unit_number u.sizes u.line u.unit) k) (sym broken_is) there)
