use Rattle.std.proofs.Common.{◌∙◌}
use Rattle.unit_words.proofs.Resumed.{carry_found}
use Rattle.unit_words.proofs.carried.unpack_carry.Goals as goal

pub returns : goal.returns
returns c = λ carry are.
    c.counted.ensures.value
    ∙ carry_found c.of_words-carry.result carry c.counted.ensures.three c.counted.ensures.twenty are.state are.contexts
    (λ k h. c.of_words-carry.ensures k h ∙ are.each k h)
