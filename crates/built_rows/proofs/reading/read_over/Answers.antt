use Rattle.std.proofs.Common.{◌<◌, sym, subst}
use Rattle.header_types.specs.SequenceParameterSets.{size_in_ctbs}
use Rattle.plan_types.specs.declared.picture_plan.PicturePlan.{PicturePlan}
use Rattle.row_waits.specs.RowTrees.{StandsBefore}
use Rattle.border_words.specs.FlightFacts.{flight_in}
use Rattle.row_waits.specs.Pictures.{address_in}
use Rattle.built_rows.proofs.Inside.{column_inside, is_shape, row_inside}
use Rattle.built_rows.proofs.Over.{is_under, read_here}
use Rattle.built_rows.proofs.reading.read_over.Goals as goal

pub read-requires-clause-inside : goal.read-requires-clause-inside
read-requires-clause-inside c =
    subst (λ (q : PicturePlan). c.address.result < size_in_ctbs q.sps) (sym c.requires.plan)
    (subst (λ a. a < size_in_ctbs c.args.picture.now.plan.now.sps) (sym c.address.ensures.value) c.requires.inside)

pub read-requires-clause-stands : goal.read-requires-clause-stands
read-requires-clause-stands c =
    let b = c.args.builder.now in
    subst (λ (q : PicturePlan). StandsBefore q c.address.result b.reader.reader b.reader.left) (sym c.requires.plan)
    (subst (λ a. StandsBefore c.args.picture.now.plan.now a b.reader.reader b.reader.left) (sym c.address.ensures.value)
    c.requires.reader)

pub returns-clause-value : goal.returns-clause-value
returns-clause-value c facts is above has known =
    let picture = c.args.picture.now in
    let at = c.args.at.now in
    let p = picture.plan.now in
    let b = c.args.builder.now in
    let there = c.line-line.ensures.unit in
    let row = row_inside facts picture is at c.requires.unit there in
    let column = column_inside facts picture is at c.requires.unit there in
    let under =
    is_under p at.line.row at.unit column (is_shape facts picture is).greatest c.edge_above-edge.result b.stored
    (λ some.
    c.edge_above-edge.ensures (flight_in facts) picture.place p is.flight.range is.plan row column some (above some))
    has in
    read_here b.reader.segments.plan p c.address.result (address_in p at) c.edge_above-edge.result b.stored
    c.read.result c.read.new.self.records c.read.new.self.reader c.read.new.self.left c.requires.plan
    c.address.ensures.value c.read.ensures.value c.read.ensures.stands known under
