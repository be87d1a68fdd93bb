use Rattle.std.proofs.Common.{◌≡◌, ◌+◌, ◌*◌, ℕ, ◌&&◌, cond, nat_le, nat_lt, get_or, rules, subst, arith}
use Rattle.place_grid.proofs.Places.{run_at}
use Rattle.place_grid.proofs.grid.Grid.put_run.Goals as goal

pub returns-clause-cells : goal.returns-clause-cells
returns-clause-cells g c = λ outside.
    let end : c.loop-k.k ≡ c.args.count = omega (arith, c.loop-k-test.false, c.loop-k.auto.k-end) in
    let first : ℕ = c.self.inside.across * c.args.y + c.args.x in
    rw (← c.self.view_is) (run_at c.self.inside.across c.self.inside.down c.args.x c.args.y c.args.count
    c.self.inside.cells.items c.loop-k.self-inside.cells.items c.args.value outside c.self.invariant.count
    (search rules) (search rules)
    (λ q. subst (λ (k : ℕ). get_or c.loop-k.self-inside.cells.items q outside
    ≡ cond (nat_le first q && nat_lt q (first + k)) c.args.value (get_or c.self.inside.cells.items q outside))
    end (c.loop-k.invariant.told outside q))
    _ _ c.loop-k.invariant.across c.loop-k.invariant.down)
