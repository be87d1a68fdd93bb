use Rattle.std.proofs.Common.{◌∙◌, ap}
use Rattle.sample_words.specs.Offsets.{first_word, second_word}
use Rattle.unit_words.proofs.Held.{offsets_held}
use Rattle.unit_words.proofs.done_unit.DoneUnit.pack_offsets.Goals as goal

pub returns : goal.returns
returns c =
    offsets_held c.args.self.now c.pack_offsets.result (c.pack_offsets.ensures.first ∙ ap first_word c.sao.ensures)
    (c.pack_offsets.ensures.second ∙ ap second_word c.sao.ensures)
