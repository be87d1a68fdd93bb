use Rattle.std.proofs.Common.{◌≡◌, ℕ, ◌+◌, ◌≤◌, ◌&&◌, cond, nat_le, nat_lt, length, get_or}
use Rattle.place_grid.proofs.grid.Grid.put_run.Given as goal

abbrev pub invariant-loop-k : goal.invariant-loop-k
invariant-loop-k g l = record {
  across : l.self-inside.across ≡ l.initial.self-inside.across;
  down : l.self-inside.down ≡ l.initial.self-inside.down;
  count : length l.self-inside.cells.items ≡ length l.initial.self-inside.cells.items;
  room : l.first + l.count ≤ length l.initial.self-inside.cells.items;
  told : (outside : g.row.T.Denot) (q : ℕ)
      → get_or l.self-inside.cells.items q outside
      ≡ cond (nat_le l.first q && nat_lt q (l.first + l.k)) l.value
      (get_or l.initial.self-inside.cells.items q outside);
}
