use Rattle.std.proofs.Common.{◌*◌, arith}
use Rattle.std.specs.Int.{w64, from_le_bytes}
use Rattle.std.proofs.lemmas.List.FromFn.{fill_by_all}
use Rattle.cabac_contexts.specs.Packing.{eight_from, packed}
use Rattle.cabac_contexts.proofs.contexts.Contexts.pack.Goals as goal

pub returns : goal.returns
unfolding packed
returns c =
    fill_by_all (λ k. from_le_bytes w64 (eight_from c.args.self.now (8 * k))) c.loop-k.words 20 0
    c.loop-k.invariant.count (λ k h. c.loop-k.invariant.told k (omega arith))
