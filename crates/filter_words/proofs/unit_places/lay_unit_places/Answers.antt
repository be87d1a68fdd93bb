use Rattle.std.proofs.Common.{◌<◌, ◌≤◌, subst, sym}
use Rattle.progress_words.specs.Passes.{view}
use Rattle.progress_words.specs.Views.{seen_of}
use Rattle.line_words.specs.Places.{UnitAt, number_at}
use Rattle.filter_words.specs.Regions.{LaysPlaces}
use Rattle.filter_words.specs.Units.{HasRoom, IsSoundUnit, down_of, is_in_unit, places_at}
use Rattle.filter_words.proofs.unit_places.lay_unit_places.Goals as goal

pub lay_rows-requires-clause-unit : goal.lay_rows-requires-clause-unit
lay_rows-requires-clause-unit c =
    subst (λ (u : UnitAt). IsSoundUnit c.args.board.now.flight c.args.plan.now u) (sym c.new-placed.ensures)
    c.requires.unit

pub lay_rows-requires-clause-seen : goal.lay_rows-requires-clause-seen
lay_rows-requires-clause-seen c =
    subst (λ (u : UnitAt). u.unit < seen_of (view c.args.pass.now) (number_at u)) (sym c.new-placed.ensures)
    c.requires.seen

pub lay_rows-requires-clause-inside : goal.lay_rows-requires-clause-inside
lay_rows-requires-clause-inside c =
    subst (λ (u : UnitAt). c.args.end ≤ down_of u) (sym c.new-placed.ensures) c.requires.inside

pub lay_rows-requires-clause-room : goal.lay_rows-requires-clause-room
lay_rows-requires-clause-room c =
    subst (λ (u : UnitAt). HasRoom c.args.around.now c.args.plan.now u.line.row) (sym c.new-placed.ensures)
    c.requires.room

pub returns-clause-places : goal.returns-clause-places
returns-clause-places c =
    subst
    (λ (u : UnitAt). LaysPlaces (is_in_unit u c.args.first c.args.end) (places_at c.args.board.now.flight u.line)
    c.args.around.now c.lay_rows.new.around)
    c.new-placed.ensures c.lay_rows.ensures.places
