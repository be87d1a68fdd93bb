use Rattle.std.proofs.Common.{◌-◌, ◌^◌}
use Rattle.deblock.specs.Samples.{IsBounded}
use Rattle.deblock.specs.Windows.{seen}
use Rattle.deblock.specs.Pairs.{IsPairly}
use Rattle.deblock.specs.Passes.{placed}
use Rattle.deblock.proofs.pairs.filter_chroma.Given as goal

abbrev pub invariant-loop-s : goal.invariant-loop-s
invariant-loop-s g l = record {
  done : IsPairly l.pass (placed l.pass.window.turned (g.V.PlaceView.place_at l.view)) (seen l.pass.window l.fn.out)
      l.s 0 l.out;
  bounded : IsBounded (2 ^ l.pass.bit_depth - 1) l.out;
}
