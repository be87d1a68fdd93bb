use Rattle.std.proofs.Common.{arith, ◌+◌, ◌*◌}
use Rattle.hv_bits.proofs.Reading.{length-drop-bits}
use Rattle.hv_bits.proofs.bit_reader.BitReader.left.Goals as goal

pub returns-then-self : goal.returns-then-self
returns-then-self c =
    let left = length-drop-bits c.self.inside.bytes.now (8 * c.self.inside.byte + c.self.inside.bit) _ c.self.view_is in
    omega arith

pub returns : goal.returns
returns c =
    let left = length-drop-bits c.self.inside.bytes.now (8 * c.self.inside.byte + c.self.inside.bit) _ c.self.view_is in
    omega (arith, c.saturating_mul.ensures, c.saturating_add.ensures)
