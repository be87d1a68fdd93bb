use Rattle.std.proofs.Common.{arith}
use Rattle.unit_words.proofs.Held.{modes_held}
use Rattle.unit_words.proofs.done_unit.DoneUnit.pack_modes.Goals as goal

pub returns-clause-value : goal.returns-clause-value
returns-clause-value c = λ x below.
    modes_held c.args.self.now x c.args.y _ (omega (arith, c.requires.few)) c.requires.row
    (c.pack_modes_row.ensures.value x below)

pub pack_modes_row-requires-clause-modes : goal.pack_modes_row-requires-clause-modes
pack_modes_row-requires-clause-modes c = λ x below.
    c.requires.unit.modes x c.args.y (omega (arith, c.requires.few)) c.requires.row

pub pack_modes_row-requires-clause-motion : goal.pack_modes_row-requires-clause-motion
pack_modes_row-requires-clause-motion c = λ x below.
    c.requires.unit.motion x c.args.y (omega (arith, c.requires.few)) c.requires.row
