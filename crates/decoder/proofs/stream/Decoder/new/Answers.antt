use Rattle.decoder.proofs.Takings.{took-none}
use Rattle.decoder.proofs.stream.Decoder.new.Goals as goal

pub returns : goal.returns
returns c =
    took-none c.args.options _ c.requires c.in_ok-new.ensures c.new-2.ensures.none c.new-2.ensures.first
