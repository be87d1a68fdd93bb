use Rattle.std.proofs.Common.{◌≡◌, ℕ, ◌<◌, false, length, get_or}
use Rattle.flight_windows.proofs.seen_rows.SeenRows.restart.Given as goal

abbrev pub invariant-loop-place : goal.invariant-loop-place
invariant-loop-place l = record {
  pictures : l.self-inside.pictures ≡ l.initial.self-inside.pictures;
  rows : l.self-inside.rows ≡ l.initial.self-inside.rows;
  count : length l.self-inside.flags.items ≡ length l.initial.self-inside.flags.items;
  none : (k : ℕ) → k < l.place → get_or l.self-inside.flags.items k false ≡ false;
}
