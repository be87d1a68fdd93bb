use Rattle.std.proofs.Common.{◌≡◌, ◌++◌, OnOk, subst}
use Rattle.hv_bits.proofs.Fields.{code_below, ue_bits-number}
use Rattle.hv_bits.proofs.bit_writer.BitWriter.ue.Goals as goal

pub put-requires-clause-small : goal.put-requires-clause-small
put-requires-clause-small c =
    code_below c.args.v c.ilog2-zeros.result c.from.result c.from.ensures c.ilog2-zeros.ensures.next_power_gt

pub returns-clause-ok : goal.returns-clause-ok
returns-clause-ok c =
    let is =
    ue_bits-number c.args.v c.ilog2-zeros.result c.from.result c.from.ensures c.requires c.ilog2-zeros.ensures.bound
    c.ilog2-zeros.ensures.power_le c.ilog2-zeros.ensures.next_power_gt in
    subst (λ bs. OnOk c.put.result (c.put.new.self ≡ c.args.self.now ++ bs)) is c.put.ensures.ok
