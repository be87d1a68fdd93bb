use Rattle.std.proofs.Common.{◌≡◌, ◌++◌, OnOk, subst, length}
use Rattle.hv_bits.proofs.Fields.{aligned_bits-number}
use Rattle.hv_bits.proofs.bit_writer.BitWriter.align.Goals as goal

pub returns-clause-ok : goal.returns-clause-ok
returns-clause-ok c =
    let is = aligned_bits-number (length c.args.self.now) c.left_of_byte-count.result c.left_of_byte-count.ensures in
    subst (λ bs. OnOk c.put.result (c.put.new.self ≡ c.args.self.now ++ bs)) is c.put.ensures.ok
