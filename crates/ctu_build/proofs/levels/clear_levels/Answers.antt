use Rattle.std.proofs.Common.{length, pos, replicate, sym, ◌∙◌, arith}
use Rattle.std.proofs.lemmas.List.{ext_get_or, get_or-replicate, length-replicate}
use Rattle.ctu_build.proofs.levels.clear_levels.Goals as goal

pub returns : goal.returns
returns c =
    let n = length c.args.levels.now in
    ext_get_or (pos 0) c.loop-k.levels (replicate n (pos 0))
    (c.loop-k.invariant.count ∙ sym (length-replicate n (pos 0)))
    (λ i h. c.loop-k.invariant.zero i (omega (arith, h, c.loop-k.invariant.count, c.loop-k-test.false))
    ∙ sym (get_or-replicate n i (pos 0) (pos 0) (omega (arith, h, c.loop-k.invariant.count))))
