use Rattle.std.proofs.Common.{false}
use Rattle.command_line.specs.Making.{decoded_of}
use Rattle.command_line.proofs.Drawn.{summary_is}
use Rattle.command_line.proofs.laws.summaries_tell_drawn_pictures.Goals as goal

pub returns : goal.returns
returns c = λ options.
    summary_is options.seed options.pictures (decoded_of options)
    (c.made_streams_decode_as_drawn.ensures false options.seed options.pictures)
