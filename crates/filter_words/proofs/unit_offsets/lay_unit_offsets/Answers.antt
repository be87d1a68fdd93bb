use Rattle.std.proofs.Common.{◌≡◌, ◌<◌, ◌==◌, ◌&&◌, arith, slice_get, refl, subst, sym, ap, ◌∙◌}
use Rattle.progress_words.specs.declared.view.View.{View}
use Rattle.progress_words.specs.Passes.{view}
use Rattle.progress_words.specs.Views.{seen_of}
use Rattle.ctu_records.specs.declared.offset.Sao.{Sao}
use Rattle.spec_picture_filters.specs.Units.{unit_read}
use Rattle.hv_base.specs.declared.line.Phase.TheVariants.{B}
use Rattle.sample_words.specs.declared.unit_content.UnitContent.TheVariants.{Modes, Offsets}
use Rattle.sample_words.specs.declared.modes.PlaceModes.{PlaceModes}
use Rattle.flight_facts.specs.SpecFlights.{expected}
use Rattle.line_words.specs.Places.{UnitAt, number_at, word_at}
use Rattle.line_words.proofs.Words.{knows_as_much, still_of}
use Rattle.flight_facts.specs.declared.flight_facts.FlightFacts.{FlightFacts}
use Rattle.flight_facts.specs.Facts.{flight_in}
use Rattle.flight_facts.specs.Flights.{IsOfFlight}
use Rattle.filter_words.specs.Placed.{content_index}
use Rattle.filter_words.specs.Regions.{LaysUnits}
use Rattle.filter_words.specs.Units.{unit_at}
use Rattle.filter_words.proofs.Laid.{components_laid, room_units, segment_is_there}
use Rattle.filter_words.proofs.Placed.{some_across, some_down}
use Rattle.filter_words.proofs.Words.{flight_sized}
use Rattle.filter_words.proofs.unit_offsets.lay_unit_offsets.Goals as goal

pub first_modes-modes-requires-clause-flight : goal.first_modes-modes-requires-clause-flight
first_modes-modes-requires-clause-flight c =
    subst (λ (u : UnitAt). IsOfFlight c.args.board.now.flight u.sizes) (sym c.new-placed.ensures)
    c.requires.unit.flight

pub first_modes-modes-requires-clause-phase : goal.first_modes-modes-requires-clause-phase
first_modes-modes-requires-clause-phase c = subst (λ (u : UnitAt). u.line.phase ≡ B) (sym c.new-placed.ensures) refl

pub first_modes-modes-requires-clause-seen : goal.first_modes-modes-requires-clause-seen
first_modes-modes-requires-clause-seen c =
    subst (λ (u : UnitAt). u.unit < seen_of (view c.args.pass.now) (number_at u)) (sym c.new-placed.ensures)
    c.requires.seen

pub offset_words-offsets-requires-clause-own : goal.offset_words-offsets-requires-clause-own
offset_words-offsets-requires-clause-own c =
    still_of c.args.board.now c.args.pass.now c.first_modes-modes.new.pass (view c.args.pass.now) c.requires.own
    c.first_modes-modes.ensures.same refl

pub offset_words-offsets-requires-clause-flight : goal.offset_words-offsets-requires-clause-flight
offset_words-offsets-requires-clause-flight c =
    subst (λ (u : UnitAt). IsOfFlight c.args.board.now.flight u.sizes) (sym c.new-placed.ensures)
    c.requires.unit.flight

pub offset_words-offsets-requires-clause-phase : goal.offset_words-offsets-requires-clause-phase
offset_words-offsets-requires-clause-phase c = subst (λ (u : UnitAt). u.line.phase ≡ B) (sym c.new-placed.ensures) refl

pub offset_words-offsets-requires-clause-seen : goal.offset_words-offsets-requires-clause-seen
offset_words-offsets-requires-clause-seen c =
    subst (λ (v : View FlightFacts). c.new-placed.result.unit < seen_of v (number_at c.new-placed.result))
    (sym c.first_modes-modes.ensures.same.1)
    (subst (λ (u : UnitAt). u.unit < seen_of (view c.args.pass.now) (number_at u)) (sym c.new-placed.ensures)
    c.requires.seen)

pub segment_at-segment-requires : goal.segment_at-segment-requires
segment_at-segment-requires c =
    let s = c.args.layout.now in
    let is = c.requires.unit in
    let facts = c.args.board.now.flight in
    let sized = flight_sized facts s is.flight in
    let there =
    segment_is_there facts c.args.plan.now (unit_at s c.args.line c.args.unit) is c.first_modes-modes.result
    _ _ (some_across s sized c.args.line c.args.unit is.unit) (some_down s sized c.args.line c.args.unit is.unit)
    (c.first_modes-modes.ensures.value
    ∙ ap (λ (u : UnitAt). expected (flight_in facts) (word_at u (content_index u (Modes 0 0)))) c.new-placed.ensures)
    (c.offset_words-offsets.ensures.first
    ∙ ap (λ (u : UnitAt). expected (flight_in facts) (word_at u (content_index u (Offsets 0)))) c.new-placed.ensures)
    (c.offset_words-offsets.ensures.second
    ∙ ap (λ (u : UnitAt). expected (flight_in facts) (word_at u (content_index u (Offsets 1)))) c.new-placed.ensures)
    in
    let same = ap (λ (m : PlaceModes). m.segment) c.unpack_modes.ensures in
    omega (arith, there, same)

pub lay_components-requires-clause-column : goal.lay_components-requires-clause-column
lay_components-requires-clause-column c =
    room_units c.args.board.now.flight c.args.plan.now (unit_at c.args.layout.now c.args.line c.args.unit)
    c.requires.unit c.args.around.now c.requires.room

pub returns-clause-units : goal.returns-clause-units
returns-clause-units c =
    let s = c.args.layout.now in
    let is = c.requires.unit in
    let facts = c.args.board.now.flight in
    let sized = flight_sized facts s is.flight in
    let number = ap (λ (m : PlaceModes). m.segment) c.unpack_modes.ensures in
    components_laid facts c.args.plan.now (unit_at s c.args.line c.args.unit) is c.first_modes-modes.result
    _ _ (some_across s sized c.args.line c.args.unit is.unit) (some_down s sized c.args.line c.args.unit is.unit)
    (c.first_modes-modes.ensures.value
    ∙ ap (λ (u : UnitAt). expected (flight_in facts) (word_at u (content_index u (Modes 0 0)))) c.new-placed.ensures)
    (c.offset_words-offsets.ensures.first
    ∙ ap (λ (u : UnitAt). expected (flight_in facts) (word_at u (content_index u (Offsets 0)))) c.new-placed.ensures)
    (c.offset_words-offsets.ensures.second
    ∙ ap (λ (u : UnitAt). expected (flight_in facts) (word_at u (content_index u (Offsets 1)))) c.new-placed.ensures)
    c.segment_at-segment.result.now
    (ap (slice_get c.args.plan.now.segments) (sym number) ∙ c.segment_at-segment.ensures) c.args.around.now
    c.lay_components.new.around
    (subst
    (λ (sao : Sao). LaysUnits (λ i j. i == c.args.unit && j == c.args.line.row)
    (λ d i j. unit_read c.args.plan.now c.segment_at-segment.result.now sao d) c.args.around.now
    c.lay_components.new.around)
    c.unpack_offsets-sao.ensures c.lay_components.ensures)

pub returns-clause-same : goal.returns-clause-same
returns-clause-same c =
    knows_as_much c.args.pass.now c.first_modes-modes.new.pass c.offset_words-offsets.new.pass
    c.first_modes-modes.ensures.same c.offset_words-offsets.ensures.same
