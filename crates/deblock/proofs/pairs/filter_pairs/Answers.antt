use Rattle.std.proofs.Common.{◌≡◌, arith}
use Rattle.deblock.specs.Passes.{placed}
use Rattle.deblock.proofs.Near.{pairs_none, pairs_all}
use Rattle.deblock.proofs.pairs.filter_pairs.Goals as goal

pub loop-e-init : goal.loop-e-init
loop-e-init g c = record {
  done = λ f old. c.next_edge-e.ensures.done f _ (pairs_none c.args.pass.now
      (placed c.args.pass.now.window.turned (g.V.PlaceView.place_at c.args.view.now)) f c.args.s _ old);
  low = c.next_edge-e.ensures.low;
  high = c.next_edge-e.ensures.high;
  bounded = c.requires.bounded;
}

pub loop-e-preserved : goal.loop-e-preserved
loop-e-preserved g c =
    let low = c.loop-e.invariant.low in
    let next = c.next_edge-e-in-loop-e.ensures.low in
    record {
      done = λ f old. c.next_edge-e-in-loop-e.ensures.done f _
          (c.filter_edge.ensures.done f (c.loop-e.invariant.done f old));
      low = omega (arith, low, next);
      high = c.next_edge-e-in-loop-e.ensures.high;
      bounded = c.filter_edge.ensures.bounded;
    }

pub returns : goal.returns
returns g c =
    let high = c.loop-e.invariant.high in
    let past = c.loop-e-test.false in
    let last : c.loop-e.e ≡ c.args.pass.now.end = omega (arith, high, past) in
    record {
      done = λ f old. pairs_all c.args.pass.now
          (placed c.args.pass.now.window.turned (g.V.PlaceView.place_at c.args.view.now)) f c.args.s c.loop-e.e _ last
          (c.loop-e.invariant.done f old);
      bounded = c.loop-e.invariant.bounded;
    }
