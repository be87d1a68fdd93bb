use Rattle.std.proofs.Common.{◌≡◌, ℕ, subst, arith}
use Rattle.deblock.specs.Pairs.{IsPairly}
use Rattle.deblock.specs.Passes.{placed}
use Rattle.deblock.proofs.Near.{pair_still}
use Rattle.deblock.proofs.pairs.next_edge.Goals as goal

pub loop-e-preserved : goal.loop-e-preserved
loop-e-preserved g c = λ f samples old.
    pair_still c.args.pass.now (placed c.args.pass.now.window.turned (g.V.PlaceView.place_at c.args.view.now)) f
    c.args.s c.loop-e.e samples c.place-q.result c.place-r.result c.requires.pass c.requires.chroma
    (record { low = omega arith; high = omega arith }) c.requires.along
    (rw c.requires.chroma c.place-q.ensures) (rw c.requires.chroma c.place-r.ensures)
    (c.is_one_strong.ensures.first c.if-is_one_strong.false)
    (c.is_one_strong.ensures.second c.if-is_one_strong.false)
    (c.loop-e.invariant f samples old)

pub returns-clause-done : goal.returns-clause-done
returns-clause-done g c = λ f samples old.
    let last : c.loop-e.e ≡ c.args.pass.now.end = omega (arith, c.requires.from) in
    subst (λ (e : ℕ). IsPairly c.args.pass.now
    (placed c.args.pass.now.window.turned (g.V.PlaceView.place_at c.args.view.now)) f c.args.s e samples)
    last (c.loop-e.invariant f samples old)
