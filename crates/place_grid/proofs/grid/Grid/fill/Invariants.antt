use Rattle.std.proofs.Common.{◌≡◌, ℕ, ◌<◌, length, get_or}
use Rattle.place_grid.proofs.grid.Grid.fill.Given as goal

abbrev pub invariant-loop-place : goal.invariant-loop-place
invariant-loop-place g l = record {
  across : l.self-inside.across ≡ l.initial.self-inside.across;
  down : l.self-inside.down ≡ l.initial.self-inside.down;
  count : length l.self-inside.cells.items ≡ length l.initial.self-inside.cells.items;
  filled : (k : ℕ) → k < l.place → get_or l.self-inside.cells.items k l.value ≡ l.value;
}
