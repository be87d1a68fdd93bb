use Rattle.std.proofs.Common.{arith}
use Rattle.done_units.proofs.Ends.{few_words}
use Rattle.done_units.proofs.samples.words_across.Goals as goal

pub returns-clause-few : goal.returns-clause-few
returns-clause-few c =
    let value = c.line_words.ensures.value in
    let side = c.component_side.ensures.few in
    let width = c.width.ensures.few in
    let from = c.from.ensures in
    let few = few_words c.args.done.now.layout.now c.from.result (omega (arith, side, width, from)) in
    omega (arith, value, few)
