use Rattle.std.proofs.Common.{◌≡◌, ℕ, ℤ, List, ◌+◌, ◌-◌, ◌*◌, cond, nat_le, nat_lt, ◌&&◌}
use Rattle.spec_sample_adaptive_offset.specs.Offsets.{edge_moved}
use Rattle.sao_filter.specs.Row.{at}
use Rattle.sao_filter.specs.Units.{AreMoves}
use Rattle.sao_filter.proofs.runs.long_run.Given as goal

abbrev pub invariant-loop-k : goal.invariant-loop-k
invariant-loop-k l = (depth : ℕ) (offsets : List ℤ) → AreMoves depth offsets l.moves.table l.moves.greatest → (q : ℕ)
    → at l.out q
    ≡ cond (nat_le l.run.first q && nat_lt q (l.run.first + 8 * l.k))
    (edge_moved depth offsets (at l.lines (l.run.from + (q - l.run.first)))
    (at l.lines (l.beside.first + (q - l.run.first))) (at l.lines (l.beside.second + (q - l.run.first))))
    (at l.fn.out q)
