use Rattle.std.proofs.Common.{ℕ, ◌+◌, ◌*◌, take, ap, ◌∙◌}
use Rattle.ctu_build.proofs.Squares.{predicted_laid}
use Rattle.ctu_build.proofs.transform_units.predict_block.Goals as goal

pub returns : goal.returns
returns c =
    predicted_laid c.args.intra.now.format.now _ c.args.place c.args.mode _ _ _ _ _
    c.lay.ensures c.predict.ensures.value
    (ap (λ (n : ℕ). take (4 * n + 1) c.gather.new.edge) c.side-n.ensures.value ∙ c.gather.ensures)
    c.depth_of-depth.ensures.value
