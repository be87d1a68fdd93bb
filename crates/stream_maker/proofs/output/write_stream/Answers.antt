use Rattle.stream_maker.proofs.Writings.{exit_is, going_first, going_on, going_all, sets_cut, start_cut, picture_cut}
use Rattle.stream_maker.specs.declared.output.MakeError.TheVariants as error
use Rattle.stream_maker.proofs.output.write_stream.Goals as goal

pub loop-j-init : goal.loop-j-init
loop-j-init g c =
    going_first g.O.Sink.contents g.O.Sink.faults c.args.turned.now c.args.out.now c.write_sets.new.out
    c.args.seed c.args.pictures c.in_ok-making.making c.in_ok-write_sets.ensures c.in_ok-making.ensures

pub loop-j-preserved : goal.loop-j-preserved
loop-j-preserved g c =
    going_on g.O.Sink.contents g.O.Sink.faults c.args.turned.now c.args.out.now c.loop-j.out c.write_picture.new.out
    c.args.seed c.args.pictures c.loop-j.j c.loop-j.making c.in_ok-making-2.making c.loop-j-test.true c.loop-j.invariant
    c.in_ok-making-2.ensures.wrote c.in_ok-making-2.ensures.behind

pub returns-in_err-write_sets : goal.returns-in_err-write_sets
returns-in_err-write_sets g c =
    sets_cut g.O.Sink.contents g.O.Sink.faults c.args.turned.now c.args.out.now c.write_sets.new.out
    c.args.seed c.args.pictures c.from_residual.result c.in_err-write_sets.field-0.0
    (exit_is c.from_residual.result c.in_err-write_sets.field-0.0 c.from_residual.ensures.1) c.in_err-write_sets.ensures

pub returns-in_err-making : goal.returns-in_err-making
returns-in_err-making g c =
    start_cut g.O.Sink.contents g.O.Sink.faults c.args.turned.now c.args.out.now c.write_sets.new.out
    c.args.seed c.args.pictures c.from_residual-in_err-making.result
    (exit_is c.from_residual-in_err-making.result error.Memory c.from_residual-in_err-making.ensures.1)
    c.in_ok-write_sets.ensures

pub returns-in_err-making-2 : goal.returns-in_err-making-2
returns-in_err-making-2 g c =
    picture_cut g.O.Sink.contents g.O.Sink.faults c.args.turned.now c.args.out.now c.loop-j.out c.write_picture.new.out
    c.args.seed c.args.pictures c.loop-j.j c.loop-j.making c.from_residual-in_err-making-2.result
    c.in_err-making-2.field-0.0 c.loop-j-test.true c.loop-j.invariant
    (exit_is c.from_residual-in_err-making-2.result c.in_err-making-2.field-0.0
    c.from_residual-in_err-making-2.ensures.1)
    c.in_err-making-2.ensures.wrote

pub returns : goal.returns
returns g c =
    going_all g.O.Sink.contents g.O.Sink.faults c.args.turned.now c.args.out.now c.loop-j.out c.args.seed
    c.args.pictures c.loop-j.j c.loop-j.making c.loop-j-test.false c.loop-j.invariant
