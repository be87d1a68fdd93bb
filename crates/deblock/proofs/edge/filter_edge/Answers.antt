use Rattle.std.proofs.Common.{◌≡◌, ◌*◌, ◌&&◌, nat_lt, false, inl, inr, arith}
use Rattle.deblock.specs.Passes.{placed}
use Rattle.deblock.proofs.Edges.{edge_more, edge_weak, edge_none, no_edge, weak_of}
use Rattle.deblock.proofs.edge.filter_edge.Goals.{else-e-gt0-via-then-e-gt0+else-e-pass, else-e-gt0-via-else-e-gt0}
use Rattle.deblock.proofs.edge.filter_edge.Goals as goal

pub returns-then-q-ne0-clause-done : goal.returns-then-q-ne0-clause-done
returns-then-q-ne0-clause-done g c = λ f old.
    edge_more c.args.pass.now (placed c.args.pass.now.window.turned (g.V.PlaceView.place_at c.args.view.now)) f
    c.args.s c.args.e c.filter_place.new.out c.args.out.now c.requires.pass c.requires.across c.requires.along
    (omega arith) (omega arith) c.filter_place.ensures.value old

pub returns-else-q-ne0-clause-done : goal.returns-else-q-ne0-clause-done
returns-else-q-ne0-clause-done g c = λ f old.
    edge_weak c.args.pass.now (placed c.args.pass.now.window.turned (g.V.PlaceView.place_at c.args.view.now)) f
    c.args.s c.args.e c.args.out.now c.requires.pass c.requires.across c.requires.along
    (omega arith) (omega arith)
    (weak_of c.args.pass.now.plane c.args.pass.now.bit_depth _ _ (rw c.side.ensures.value at c.place-q.ensures)
    c.if-q-ne0.false) old

pub returns-else-e-gt0-clause-done : goal.returns-else-e-gt0-clause-done
returns-else-e-gt0-clause-done g c = λ f old.
    let none : (nat_lt 0 c.args.e && nat_lt (8 * c.args.e) c.args.pass.now.side) ≡ false =
    elim c.else-e-gt0.branch [
      | else-e-gt0-via-then-e-gt0+else-e-pass w ↦ no_edge _ _ (inr w.if-e-pass.false)
      | else-e-gt0-via-else-e-gt0 w ↦ no_edge _ _ (inl w.if-e-gt0.false)
    ] in
    edge_none c.args.pass.now (placed c.args.pass.now.window.turned (g.V.PlaceView.place_at c.args.view.now)) f
    c.args.s c.args.e c.args.out.now c.requires.across c.requires.along none old
