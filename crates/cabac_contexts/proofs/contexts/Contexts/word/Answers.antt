use Rattle.std.proofs.Common.{◌≡◌, ◌+◌, ap, ◌∙◌, slice_index, arith}
use Rattle.std.specs.Int.{w64, from_le_bytes}
use Rattle.std.proofs.lemmas.List.FromFn.{fill_by_all}
use Rattle.cabac_contexts.specs.Packing.{eight_from}
use Rattle.cabac_contexts.proofs.contexts.Contexts.word.Goals as goal

pub returns : goal.returns
returns c =
    let all : c.loop-j.bytes ≡ eight_from c.args.self.now c.args.first =
    fill_by_all (λ j. slice_index c.args.self.now (c.args.first + j)) c.loop-j.bytes 8 0 c.loop-j.invariant.count
    (λ j h. c.loop-j.invariant.told j (omega arith)) in
    c.from_le_bytes.ensures ∙ ap (from_le_bytes w64) all
