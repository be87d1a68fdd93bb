use Rattle.std.proofs.Common.{refl, ap, ◌∙◌, arith, is_some}
use Rattle.progress_words.specs.Passes.{view}
use Rattle.line_words.specs.Places.{IsUnit}
use Rattle.built_rows.proofs.Counted.{unit_next}
use Rattle.built_rows.proofs.Done.{is_done}
use Rattle.built_rows.proofs.Inside.{of_flight}
use Rattle.built_rows.proofs.Known.{few_segments, number_is}
use Rattle.built_rows.proofs.finishing.count_built.Goals as goal

pub overflow_cast-done : goal.overflow_cast-done
overflow_cast-done c =
    let facts = c.args.board.now.flight in
    let known = c.requires.read.known in
    let there : IsUnit c.args.at.now = c.line.ensures.unit in
    let few = few_segments facts c.args.picture.now c.requires.picture c.args.at.now c.requires.unit there known
    c.requires.read.is in
    let is = number_is facts c.args.picture.now c.requires.picture c.args.at.now c.requires.unit there known
    c.requires.read.is c.requires.read.segment c.args.reader.now.segments.current c.requires.current
    c.segment_number.result c.segment_number.ensures in
    omega (arith, few, is)

pub finish_unit-requires-clause-flight : goal.finish_unit-requires-clause-flight
finish_unit-requires-clause-flight c =
    of_flight c.args.board.now.flight c.args.picture.now c.requires.picture c.args.at.now c.requires.unit
    c.line.ensures.unit

pub finish_unit-requires-clause-done : goal.finish_unit-requires-clause-done
finish_unit-requires-clause-done c =
    let facts = c.args.board.now.flight in
    let known = c.requires.read.known in
    let there : IsUnit c.args.at.now = c.line.ensures.unit in
    is_done facts c.args.picture.now c.requires.picture c.args.at.now c.requires.unit there known c.requires.read.is _
    (ap (λ l. l.row) c.line.ensures.value) c.unit.ensures.value refl
    (number_is facts c.args.picture.now c.requires.picture c.args.at.now c.requires.unit there known c.requires.read.is
    c.requires.read.segment c.args.reader.now.segments.current c.requires.current c.segment_number.result
    c.segment_number.ensures)
    (record {
      read = c.records.ensures ∙ c.requires.read.same.read;
      engine = ap (λ r. r.bins.interval) c.reader.ensures ∙ c.requires.read.same.engine;
      contexts = ap (λ r. r.bins.contexts) c.reader.ensures ∙ c.requires.read.same.contexts;
      last = ap (λ r. r.last) c.reader.ensures ∙ c.requires.read.same.last;
    })
    c.requires.built

pub finish_unit-requires-clause-next : goal.finish_unit-requires-clause-next
finish_unit-requires-clause-next c =
    unit_next c.args.board.now.flight c.args.picture.now c.requires.picture c.args.at.now c.requires.unit
    c.line.ensures.unit (view c.args.pass.now) c.requires.holds (ap is_some c.requires.read.is) c.requires.needs

pub finish_unit-requires-clause-unit : goal.finish_unit-requires-clause-unit
finish_unit-requires-clause-unit c = c.requires.holds.next
