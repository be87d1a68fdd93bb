use Rattle.std.proofs.Common.{subst}
use Rattle.decoder.specs.declared.options.Options.{Options}
use Rattle.decoder.specs.Headline.{IsComplete, change_of}
use Rattle.decoder.proofs.decoding.decode.Goals as goal

pub returns-in-Ok-zeros-clause-complete : goal.returns-in-Ok-zeros-clause-complete
returns-in-Ok-zeros-clause-complete g c =
    subst (λ (o : Options). IsComplete o.hash
    (change_of g.S.Source.left g.S.Source.faults c.args.src.now c.decode_pieces.new.src)
    (change_of g.O.Sink.contents g.O.Sink.faults c.args.out.now c.decode_pieces.new.out) c.decode_pieces.result)
    c.in-Ok.ensures.options c.decode_pieces.ensures.complete
