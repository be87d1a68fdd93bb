use Rattle.std.proofs.Common.{◌≡◌, ℕ, ℤ, List, ◌+◌, ◌-◌, ◌*◌, cond, nat_le, nat_lt, ◌&&◌}
use Rattle.spec_sample_adaptive_offset.specs.Offsets.{band_moved}
use Rattle.sao_filter.specs.Row.{at}
use Rattle.sao_filter.specs.Moves.{AreBandMoves}
use Rattle.sao_filter.proofs.runs.long_band_run.Given as goal

abbrev pub invariant-loop-k : goal.invariant-loop-k
invariant-loop-k l = (depth position : ℕ) (offsets : List ℤ) → AreBandMoves depth position offsets l.moves → (q : ℕ)
    → at l.out q
    ≡ cond (nat_le l.run.first q && nat_lt q (l.run.first + 8 * l.k))
    (band_moved depth position offsets (at l.lines (l.run.from + (q - l.run.first)))) (at l.fn.out q)
