use Rattle.std.proofs.Common.{◌≡◌, ℕ, ◌+◌, ◌&&◌, cond, nat_le, nat_lt, length, slice_index_or, vec_capacity}
use Rattle.picture_buffer.specs.Packed.{no_own}
use Rattle.picture_buffer.proofs.own_field.fill.Given as goal

abbrev pub invariant-loop-k : goal.invariant-loop-k
invariant-loop-k l = record {
  count : length l.cells.items ≡ length l.fn.cells.items;
  capacity : vec_capacity l.cells ≡ vec_capacity l.fn.cells;
  cells : (q : ℕ)
      → slice_index_or l.cells.items q no_own
      ≡ cond (nat_le l.first q && nat_lt q (l.first + l.k)) l.value (slice_index_or l.fn.cells.items q no_own);
}
