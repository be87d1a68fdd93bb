use Rattle.std.proofs.Common.{arith, ap, ◌∙◌, length}
use Rattle.spec_bits.specs.Bits.{bits}
use Rattle.hv_bits.proofs.Writing.{length-Holds, bytes_filled}
use Rattle.hv_bits.proofs.bit_writer.BitWriter.bytes.Goals as goal

pub returns-clause-value : goal.returns-clause-value
returns-clause-value c =
    ap bits c.deref.ensures.value
    ∙ bytes_filled c.self.inside.bytes.items c.self.inside.free _ _ c.self.invariant c.self.view_is

pub returns-clause-count : goal.returns-clause-count
returns-clause-count c =
    let total = length-Holds c.self.inside.bytes.items c.self.inside.free _ c.self.invariant in
    let low = c.self.invariant.0 in
    omega (arith, ap length c.self.view_is, ap length c.deref.ensures.value)
