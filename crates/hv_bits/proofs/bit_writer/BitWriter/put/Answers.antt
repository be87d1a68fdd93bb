use Rattle.std.proofs.Common.{arith, ap, ◌∙◌, ◌++◌}
use Rattle.spec_bits.specs.Spelling.{u_bits}
use Rattle.hv_bits.proofs.Writing.{length-Holds, written-Holds, Holds-written}
use Rattle.hv_bits.proofs.bit_writer.BitWriter.put.Goals as goal

pub append-requires-clause-inside : goal.append-requires-clause-inside
append-requires-clause-inside c =
    let total = length-Holds c.self.inside.bytes.items c.self.inside.free _ c.self.invariant in
    omega arith

pub invariant_of-self-2 : goal.invariant_of-self-2
invariant_of-self-2 c = Holds-written _ _ _ (c.in_ok-self-inside.ensures.ok _ c.self.invariant)

pub returns-clause-ok : goal.returns-clause-ok
returns-clause-ok c =
    written-Holds _ _ _ (c.in_ok-self-inside.ensures.ok _ c.self.invariant)
    ∙ ap (λ bs. bs ++ u_bits c.args.n c.args.v) c.self.view_is
