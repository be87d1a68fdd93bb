use Rattle.std.proofs.Common.{arith, ap, length}
use Rattle.hv_bits.proofs.Writing.{length-Holds}
use Rattle.hv_bits.proofs.bit_writer.BitWriter.left_of_byte.Goals as goal

pub returns-then-self-eq0 : goal.returns-then-self-eq0
returns-then-self-eq0 c =
    let total = length-Holds c.self.inside.bytes.items c.self.inside.free _ c.self.invariant in
    omega (arith, ap length c.self.view_is)

pub returns-else-self-eq0 : goal.returns-else-self-eq0
returns-else-self-eq0 c =
    let total = length-Holds c.self.inside.bytes.items c.self.inside.free _ c.self.invariant in
    let low = c.self.invariant.0 in
    omega (arith, ap length c.self.view_is)
