use Rattle.std.proofs.Common.{arith, ◌+◌, ◌*◌}
use Rattle.spec_bits.specs.Alignment.{up_to_boundary}
use Rattle.hv_bits.proofs.Reading.{length-drop-bits}
use Rattle.hv_bits.proofs.bit_reader.BitReader.up_to_boundary.Goals as goal

pub returns-clause-value : goal.returns-clause-value
unfolding up_to_boundary
returns-clause-value c =
    let left = length-drop-bits c.self.inside.bytes.now (8 * c.self.inside.byte + c.self.inside.bit) _ c.self.view_is in
    omega arith
