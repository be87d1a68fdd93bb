-- A pass that has met what a unit of a flight needs has seen the units counted that it uses, and they are sound.
use Rattle.std.proofs.Common.{ℕ, ◌≡◌, ◌<◌, List, true, sym, ap, ◌∙◌, subst}
use Rattle.hv_base.specs.declared.line.Line.{Line}
use Rattle.hv_base.specs.declared.line.Phase.{Phase}
use Rattle.hv_base.specs.declared.line.Phase.TheVariants.{B}
use Rattle.flight_plan.specs.Flight.{FlightRows}
use Rattle.board_core.specs.Needs.{read_needs, unit_needs}
use Rattle.board_core.specs.Places.{full_count, IsLine, line_of}
use Rattle.board_core.specs.Uses.{ReadingUses, UnitUses}
use Rattle.sample_words.specs.declared.sizes.FlightSizes.{FlightSizes}
use Rattle.sample_words.specs.Words.{IsLine as IsWordLine, line_number, line_units}
use Rattle.progress_words.specs.declared.view.View.{View}
use Rattle.progress_words.specs.Core.{AreMet}
use Rattle.progress_words.specs.Meanings.{Meaning}
use Rattle.progress_words.specs.Views.{seen_of}
use Rattle.flight_packing_laws.specs.SpecFlights.{flight_rows, is_sound}
use Rattle.flight_waits.specs.FactsOfFlights.{AreUsesSound}
use Rattle.flight_lines.specs.Flights.{IsSized, meaning_of}
use Rattle.flight_lines.specs.Numbers.{numbered_needs}
use Rattle.flight_lines.proofs.Numbered.{flight_line, number_line, units_are, word_line}
use Rattle.line_words.specs.Passes.{AreAllSound}
use Rattle.line_words.specs.Places.{UnitAt}
use Rattle.flight_waits.specs.FactsOfFlights.{FlightFacts}
use Rattle.flight_waits.specs.FactsOfFlights.{flight_meaning, sizes_in}
use Rattle.flight_waits.specs.FactsOfFlights.{flight_in}
use Rattle.flight_waits.proofs.FactsOfFlights.{board_sizes}
use Rattle.flight_waits.specs.Waits.{AreSeen}
use Rattle.done_units.specs.Seen.{HasReached, IsSeenUnit}
use Rattle.done_units.proofs.Uses.{AreMetBy, IsSeen, read_seen, unit_seen}

module _ (facts : FlightFacts) (v : View FlightFacts) (u : UnitAt) (reached : HasReached facts v u) where
  abbrev pub plan : FlightRows
  plan = flight_rows (flight_in facts)

  abbrev pub meaning : Meaning
  meaning = flight_meaning (flight_in facts)

  -- the sizes by which the board is laid out are those of the unit's place
  abbrev laid : FlightSizes
  laid = sizes_in (flight_in facts).pictures

  same : laid ≡ u.sizes
  same = (board_sizes facts u.sizes reached.flight).0

  sized : IsSized plan laid
  sized = (board_sizes facts u.sizes reached.flight).1

  line : IsLine plan u.line
  line =
      flight_line plan laid sized u.line (subst (λ (s : FlightSizes). IsWordLine s u.line) (sym same) reached.unit.line)

  left : u.unit < full_count plan u.line
  left =
      let units = units_are plan laid sized u.line line in
      let e : line_units laid u.line.phase ≡ line_units u.sizes u.line.phase =
      ap (λ (s : FlightSizes). line_units s u.line.phase) same in
      subst (λ (n : ℕ). u.unit < n) (sym (units ∙ e)) reached.unit.unit

  here : seen_of v (line_number laid u.line) ≡ u.unit
  here = ap (λ (s : FlightSizes). seen_of v (line_number s u.line)) same ∙ reached.seen

  met_there : (needs : List (Line × ℕ)) → AreSeen facts u.sizes v needs → AreMetBy plan laid sized (seen_of v) needs
  unfolding meaning_of
  met_there needs met =
      subst (λ (s : FlightSizes). AreMet meaning (seen_of v) (numbered_needs s needs)) (sym same) met

  seen_there : (m : Line) (y : ℕ) → IsSeen plan laid sized (seen_of v) m y → IsSeenUnit u.sizes v m y
  seen_there m y seen = record {
    line = subst (λ (s : FlightSizes). IsWordLine s m) same (word_line plan laid sized m seen.line);
    seen = subst (λ (s : FlightSizes). y < seen_of v (line_number s m)) same seen.counted;
  }

  -- a unit that it has seen counted is sound
  sound_there : AreAllSound meaning v → (m : Line) (y : ℕ) → IsSeen plan laid sized (seen_of v) m y
      → is_sound (flight_in facts) m y ≡ true
  unfolding meaning_of
  sound_there all m y seen =
      ap (λ (l : Line). is_sound (flight_in facts) l y) (sym (number_line plan laid sized m seen.line))
      ∙ all (line_number laid m) y seen.counted

  read_there : u.line.phase ≡ B → AreSeen facts u.sizes v (read_needs plan u.line u.unit) → (m : Line) (y : ℕ)
      → ReadingUses plan u.line u.unit m y → IsSeen plan laid sized (seen_of v) m y
  read_there tree met m y uses =
      read_seen plan laid sized (seen_of v) u.line u.unit line here left tree
      (met_there (read_needs plan u.line u.unit) met) m y uses

  unit_there : AreSeen facts u.sizes v (unit_needs plan u.line u.unit) → (m : Line) (y : ℕ)
      → UnitUses plan u.line u.unit m y → IsSeen plan laid sized (seen_of v) m y
  unit_there met m y uses =
      unit_seen plan laid sized (seen_of v) u.line u.unit line here left
      (met_there (unit_needs plan u.line u.unit) met) m y uses

  pub read_uses_seen : u.line.phase ≡ B → AreSeen facts u.sizes v (read_needs plan u.line u.unit) → (m : Line) (y : ℕ)
      → ReadingUses plan u.line u.unit m y → IsSeenUnit u.sizes v m y
  read_uses_seen tree met m y uses = seen_there m y (read_there tree met m y uses)

  pub unit_uses_seen : AreSeen facts u.sizes v (unit_needs plan u.line u.unit) → (m : Line) (y : ℕ)
      → UnitUses plan u.line u.unit m y → IsSeenUnit u.sizes v m y
  unit_uses_seen met m y uses = seen_there m y (unit_there met m y uses)

  pub read_uses_sound : u.line.phase ≡ B → AreAllSound meaning v
      → AreSeen facts u.sizes v (read_needs plan u.line u.unit)
      → AreUsesSound (flight_in facts) u.line.picture u.line.row u.unit
  read_uses_sound tree all met m y uses =
      let e : line_of B u.line.picture u.line.row ≡ u.line =
      ap (λ (p : Phase). line_of p u.line.picture u.line.row) (sym tree) in
      sound_there all m y (read_there tree met m y (subst (λ (l : Line). ReadingUses plan l u.unit m y) e uses))

  pub unit_uses_sound : AreAllSound meaning v → AreSeen facts u.sizes v (unit_needs plan u.line u.unit)
      → (m : Line) (y : ℕ) → UnitUses plan u.line u.unit m y → is_sound (flight_in facts) m y ≡ true
  unit_uses_sound all met m y uses = sound_there all m y (unit_there met m y uses)
