use Rattle.std.proofs.Common.{◌∙◌, arith, length-drop}
use Rattle.hv_io.proofs.StreamLemmas.{Gains-more}
use Rattle.hv_io.proofs.transfers.write_all.Goals as goal

pub loop-done-preserved : goal.loop-done-preserved
loop-done-preserved g c = record {
  within = omega (arith, c.in_ok-n.ensures.count, length-drop c.loop-done.done c.args.piece.now);
  gained =
      Gains-more _ _ _ c.loop-done.done c.in_ok-n.n c.args.piece.now c.loop-done.invariant.gained
      c.in_ok-n.ensures.gained;
  quiet = c.in_ok-n.ensures.quiet ∙ c.loop-done.invariant.quiet;
}
