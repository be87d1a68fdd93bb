use Rattle.std.proofs.Common.{◌≡◌, ℕ, ◌≤◌, ◌/◌, ap, subst, refl, arith}
use Rattle.deblock.specs.Windows.{seen}
use Rattle.deblock.specs.Passes.{placed, IsPartly}
use Rattle.deblock.proofs.Edges.{part_none}
use Rattle.deblock.proofs.Rows.{along_of, ordered_places}
use Rattle.deblock.proofs.row.filter_luma.Goals as goal

pub loop-s-init : goal.loop-s-init
loop-s-init g c = record {
  done = λ i j h. part_none c.args.pass.now
      (placed c.args.pass.now.window.turned (g.V.PlaceView.place_at c.args.view.now))
      (seen c.args.pass.now.window c.args.out.now)
      (c.args.pass.now.along_first / 4) i j _
      c.requires.pass.along_first (ap (λ (n : ℕ). c.args.pass.now.along_first / n) c.requires.same) refl;
  bounded = c.requires.bounded;
}

pub filter_places-requires-clause-along : goal.filter_places-requires-clause-along
filter_places-requires-clause-along g c =
    along_of c.args.pass.now c.loop-s.s c.requires.pass
    (rw c.requires.same at c.loop-s.auto.s) (rw c.requires.same at c.loop-s-test.true)

pub loop-s-preserved : goal.loop-s-preserved
loop-s-preserved g c = record {
  done = c.filter_places.ensures.done (seen c.args.pass.now.window c.args.out.now) c.loop-s.invariant.done;
  bounded = c.filter_places.ensures.bounded;
}

pub returns : goal.returns
returns g c =
    let order : c.args.pass.now.along_first / 4 ≤ c.args.pass.now.along_end / 4 =
    rw c.requires.same
    (ordered_places c.args.pass.now.plane c.args.pass.now.along_first c.args.pass.now.along_end
    c.requires.pass.along_order) in
    let last : c.loop-s.s ≡ c.args.pass.now.along_end / 4 = omega (arith, order) in
    record {
      value = subst (λ (s : ℕ). IsPartly c.args.pass.now
          (placed c.args.pass.now.window.turned (g.V.PlaceView.place_at c.args.view.now))
          (seen c.args.pass.now.window c.args.out.now) s 0 c.loop-s.out)
          (rw c.requires.same at last) c.loop-s.invariant.done;
      bounded = c.loop-s.invariant.bounded;
    }
