use Rattle.hv_bits.proofs.Writing.{Holds-none}
use Rattle.hv_bits.proofs.bit_writer.BitWriter.new.Goals as goal

pub invariant_of-result : goal.invariant_of-result
invariant_of-result c = Holds-none c.new.result.items c.new.ensures.items
