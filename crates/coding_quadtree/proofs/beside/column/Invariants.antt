use Rattle.std.proofs.Common.{◌≡◌, ℕ, ◌+◌, ◌*◌, ◌<◌, length, get_or, if◌then◌else◌, nat_lt}
use Rattle.ctu_records.specs.Tree.{no_side}
use Rattle.coding_quadtree.proofs.beside.column.Given as goal

abbrev pub invariant-loop-k : goal.invariant-loop-k
invariant-loop-k g l = record {
  count : length l.sides ≡ 16;
  told : (q : ℕ) → q < l.k
      → get_or l.sides q no_side
      ≡ (if nat_lt q l.count then g.V.Neighbours.side_at l.fn.view l.x (l.y + 4 * q) else no_side);
  sides : g.V.Neighbours.side_at l.view ≡ g.V.Neighbours.side_at l.fn.view;
  offsets : g.V.Neighbours.sao_at l.view ≡ g.V.Neighbours.sao_at l.fn.view;
  covers : g.V.Neighbours.covers l.view ≡ g.V.Neighbours.covers l.fn.view;
  covers_units : g.V.Neighbours.covers_unit l.view ≡ g.V.Neighbours.covers_unit l.fn.view;
}
