use Rattle.std.proofs.Common.{[], ◌++◌, Ok, refl, sym, subst, ◌∙◌}
use Rattle.decoder.specs.Headline.{change_of}
use Rattle.decoder.specs.Taking.{TakesUnit, TakesUnits, all_owed}
use Rattle.decoder.specs.declared.stream.Taken.{Taken}
use Rattle.decoder.specs.declared.stream.Taken.TheVariants as taken
use Rattle.decoder.proofs.Takings.{exit-taken, reached-none, reached-then, stops-then}
use Rattle.decoder.proofs.stream.Decoder.take_units.Goals as goal

pub units-init : goal.units-init
units-init g c = record {
  reached = λ ended bytes given later gained t h. (
    later,
    reached-none g.O.Sink.contents g.O.Sink.faults c.args.options c.args.out.now c.args.framer.now c.args.self.now ended
        bytes given later gained t h,
  );
  finished = refl;
}

pub units-preserved : goal.units-preserved
units-preserved g c = record {
  reached = λ ended bytes given later gained t h.
      let r = c.units.invariant.reached ended bytes given later gained t h in
      let q : TakesUnit c.args.options (change_of g.O.Sink.contents g.O.Sink.faults c.units.out c.take_unit.new.out)
      c.take_unit.new.framer c.take_unit.new.self ended bytes (gained ++ r.1.more) (Ok taken.Unit) =
      subst (λ (x : Taken). TakesUnit c.args.options
      (change_of g.O.Sink.contents g.O.Sink.faults c.units.out c.take_unit.new.out)
      c.take_unit.new.framer c.take_unit.new.self ended bytes (gained ++ r.1.more) (Ok x)) c.in-Unit.is
      (c.in_ok-take_unit.ensures.taken ended bytes r.1.given r.0 (gained ++ r.1.more) r.1.tells r.1.taken) in (
        q.0,
        reached-then g.O.Sink.contents g.O.Sink.faults c.args.options c.args.out.now c.units.out c.take_unit.new.out
            c.units.framer c.take_unit.new.framer c.units.self c.take_unit.new.self ended bytes gained r.0 q.0 r.1 q.1,
      );
  finished = c.in_ok-take_unit.ensures.finished ∙ c.units.invariant.finished;
}

pub returns-in-Last-clause-taken : goal.returns-in-Last-clause-taken
returns-in-Last-clause-taken g c = λ ended bytes given later gained t h.
    let r = c.units.invariant.reached ended bytes given later gained t h in
    reached-then g.O.Sink.contents g.O.Sink.faults c.args.options c.args.out.now c.units.out c.take_unit.new.out
    c.units.framer c.take_unit.new.framer c.units.self c.take_unit.new.self ended bytes gained r.0 [] r.1
    (subst (λ (x : Taken). TakesUnit c.args.options
    (change_of g.O.Sink.contents g.O.Sink.faults c.units.out c.take_unit.new.out)
    c.take_unit.new.framer c.take_unit.new.self ended bytes (gained ++ r.1.more) (Ok x)) c.in-Last.is
    (c.in_ok-take_unit.ensures.taken ended bytes r.1.given r.0 (gained ++ r.1.more) r.1.tells r.1.taken))

pub returns-in_err-take_unit-clause-taken : goal.returns-in_err-take_unit-clause-taken
returns-in_err-take_unit-clause-taken g c = λ ended bytes given later gained t h.
    let r = c.units.invariant.reached ended bytes given later gained t h in
    let o = c.in_err-take_unit.field-0.0 in
    subst (TakesUnits c.args.options
    (change_of g.O.Sink.contents g.O.Sink.faults c.args.out.now c.take_unit.new.out) c.take_unit.new.framer
    c.take_unit.new.self ended bytes gained)
    (sym (exit-taken c.from_residual.result o c.from_residual.ensures.1))
    (stops-then g.O.Sink.contents g.O.Sink.faults c.args.options c.args.out.now c.units.out c.take_unit.new.out
    (all_owed c.args.options ended bytes) gained r.1.more o r.1.gains r.1.quiet
    (c.in_err-take_unit.ensures.taken ended bytes r.1.given r.0 (gained ++ r.1.more) r.1.tells r.1.taken))
