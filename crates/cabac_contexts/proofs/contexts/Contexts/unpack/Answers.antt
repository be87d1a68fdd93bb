use Rattle.std.proofs.Common.{◌≡◌, ◌/◌, ◌%◌, ◌<◌, All, subst, sym, ◌∙◌, slice_index, arith}
use Rattle.std.specs.Int.{w64, to_le_bytes}
use Rattle.std.proofs.lemmas.List.FromFn.{fill_by_all}
use Rattle.cabac_contexts.specs.Packing.{unpacked}
use Rattle.cabac_contexts.proofs.contexts.Contexts.unpack.Goals as goal

pub of-requires : goal.of-requires
unfolding unpacked
of-requires c =
    let all : c.loop-i.values ≡ unpacked c.args.words =
    fill_by_all (λ i. slice_index (to_le_bytes w64 (slice_index c.args.words (i / 8))) (i % 8)) c.loop-i.values 154 0
    c.loop-i.invariant.count (λ k h. c.loop-i.invariant.told k (omega arith)) in
    subst (All (λ value. value < 126)) (sym all) c.requires

pub returns : goal.returns
unfolding unpacked
returns c =
    c.of.ensures
    ∙ fill_by_all (λ i. slice_index (to_le_bytes w64 (slice_index c.args.words (i / 8))) (i % 8)) c.loop-i.values 154 0
    c.loop-i.invariant.count (λ k h. c.loop-i.invariant.told k (omega arith))
