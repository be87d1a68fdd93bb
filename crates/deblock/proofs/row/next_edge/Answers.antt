use Rattle.std.proofs.Common.{rules, ◌≡◌, ℕ, subst, arith}
use Rattle.deblock.specs.Passes.{placed, IsPartly}
use Rattle.deblock.proofs.Edges.{edge_still, weak_place}
use Rattle.deblock.proofs.row.next_edge.Goals as goal

pub loop-e-preserved : goal.loop-e-preserved
loop-e-preserved g c = λ f samples old.
    edge_still c.args.pass.now (placed c.args.pass.now.window.turned (g.V.PlaceView.place_at c.args.view.now)) f
    c.args.s c.loop-e.e samples c.requires.pass
    (record { low = omega arith; high = omega arith }) c.requires.along
    (weak_place c.args.pass.now.plane c.args.pass.now.bit_depth 4 c.place-q.result _ c.requires.same
    (rw c.requires.same at c.place-q.ensures) (λ four. c.is_weak.ensures (search rules))
    (λ two. absurd (omega (arith, two))))
    (c.loop-e.invariant f samples old)

pub returns-clause-done : goal.returns-clause-done
returns-clause-done g c = λ f samples old.
    let last : c.loop-e.e ≡ c.args.pass.now.end = omega (arith, c.requires.from) in
    subst (λ (e : ℕ). IsPartly c.args.pass.now
    (placed c.args.pass.now.window.turned (g.V.PlaceView.place_at c.args.view.now)) f c.args.s e samples)
    last (c.loop-e.invariant f samples old)
