use Rattle.std.proofs.Common.{◌≡◌, ◌/◌, refl, arith}
use Rattle.deblock.specs.Windows.{seen}
use Rattle.deblock.specs.Passes.{placed}
use Rattle.deblock.proofs.Near.{pair_first, pairs_part}
use Rattle.deblock.proofs.pairs.filter_chroma.Goals as goal

pub loop-s-init : goal.loop-s-init
loop-s-init g c = record {
  done = λ i j h. pair_first c.args.pass.now
      (placed c.args.pass.now.window.turned (g.V.PlaceView.place_at c.args.view.now))
      (seen c.args.pass.now.window c.args.out.now) (c.args.pass.now.along_first / 4) i j _
      c.requires.pass.along_first refl refl;
  bounded = c.requires.bounded;
}

pub filter_pairs-requires-clause-along : goal.filter_pairs-requires-clause-along
filter_pairs-requires-clause-along g c =
    let is = c.requires.pass in
    record {
      few = omega (arith, is.along_high, is.window.along, c.loop-s-test.true);
      low = omega (arith, is.along_first, c.loop-s.auto.s);
      high = omega (arith, c.loop-s-test.true);
    }

pub loop-s-preserved : goal.loop-s-preserved
loop-s-preserved g c = record {
  done = c.filter_pairs.ensures.done (seen c.args.pass.now.window c.args.out.now) c.loop-s.invariant.done;
  bounded = c.filter_pairs.ensures.bounded;
}

pub returns : goal.returns
returns g c =
    let is = c.requires.pass in
    let last : c.loop-s.s ≡ c.args.pass.now.along_end / 4 = omega (arith, is.along_order) in
    record {
      value = pairs_part c.args.pass.now
          (placed c.args.pass.now.window.turned (g.V.PlaceView.place_at c.args.view.now))
          (seen c.args.pass.now.window c.args.out.now) c.loop-s.s c.loop-s.out c.requires.chroma is.along_end last
          c.loop-s.invariant.done;
      bounded = c.loop-s.invariant.bounded;
    }
