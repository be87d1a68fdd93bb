use Rattle.std.proofs.Common.{arith}
use Rattle.hv_bits.proofs.Reading.{byte_inside, bit_at_place}
use Rattle.hv_bits.proofs.bit_reader.BitReader.bit.Goals as goal

pub bounds-self-inside-self-inside : goal.bounds-self-inside-self-inside
bounds-self-inside-self-inside c =
    byte_inside c.self.inside.bytes.now c.self.inside.byte c.self.inside.bit _ c.self.view_is c.requires

pub invariant_of-self-else-self-eq7 : goal.invariant_of-self-else-self-eq7
invariant_of-self-else-self-eq7 c =
    let inside = byte_inside c.self.inside.bytes.now c.self.inside.byte c.self.inside.bit _ c.self.view_is c.requires in
    (omega arith, omega arith)

pub returns-then-self-eq7 : goal.returns-then-self-eq7
returns-then-self-eq7 c =
    bit_at_place c.self.inside.bytes.now c.self.inside.byte c.self.inside.bit _ _ c.self.view_is c.requires
    c.self.invariant.0 (omega arith)

pub returns-else-self-eq7 : goal.returns-else-self-eq7
returns-else-self-eq7 c =
    bit_at_place c.self.inside.bytes.now c.self.inside.byte c.self.inside.bit _ _ c.self.view_is c.requires
    c.self.invariant.0 (omega arith)
