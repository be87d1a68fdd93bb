use Rattle.std.proofs.Common.{arith}
use Rattle.unit_words.proofs.Held.{vectors_held}
use Rattle.unit_words.proofs.done_unit.DoneUnit.pack_vectors.Goals as goal

pub returns-clause-value : goal.returns-clause-value
returns-clause-value c = λ x below.
    vectors_held c.args.self.now x c.args.y _ (omega (arith, c.requires.few)) c.requires.row
    (c.pack_vectors_row.ensures.value x below)
