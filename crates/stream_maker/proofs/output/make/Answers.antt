use Rattle.std.proofs.Common.{ℕ, List, subst}
use Rattle.hv_io.specs.Streams.{Gains, GainsPrefix}
use Rattle.stream_maker.specs.Writing.{GainsWhole}
use Rattle.stream_maker.proofs.Plain.{plain_is}
use Rattle.stream_maker.proofs.output.make.Goals as goal

pub returns-clause-ok : goal.returns-clause-ok
returns-clause-ok g c = λ is.
    subst
    (λ (s : ℕ → List ℕ). Gains (g.O.Sink.contents c.args.out.now) (g.O.Sink.contents c.make_turned.new.out)
    (s c.args.pictures))
    (plain_is c.args.seed) (c.make_turned.ensures.ok is)

pub returns-clause-front : goal.returns-clause-front
returns-clause-front g c =
    subst
    (λ (s : ℕ → List ℕ). GainsPrefix (g.O.Sink.contents c.args.out.now) (g.O.Sink.contents c.make_turned.new.out)
    (s c.args.pictures))
    (plain_is c.args.seed) c.make_turned.ensures.front

pub returns-clause-whole : goal.returns-clause-whole
returns-clause-whole g c = λ is.
    subst
    (λ (s : ℕ → List ℕ). GainsWhole (g.O.Sink.contents c.args.out.now) (g.O.Sink.contents c.make_turned.new.out) s
    c.args.pictures)
    (plain_is c.args.seed) (c.make_turned.ensures.whole is)
