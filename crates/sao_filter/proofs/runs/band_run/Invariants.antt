use Rattle.std.proofs.Common.{◌≡◌, ℕ, ℤ, List, ◌+◌, ◌-◌, cond, nat_le, nat_lt, ◌&&◌}
use Rattle.spec_sample_adaptive_offset.specs.Offsets.{band_moved}
use Rattle.sao_filter.specs.Row.{at}
use Rattle.sao_filter.specs.Units.{IsBandTable}
use Rattle.sao_filter.proofs.runs.band_run.Given as goal

abbrev pub invariant-loop-k : goal.invariant-loop-k
invariant-loop-k l = (position : ℕ) (offsets : List ℤ) → IsBandTable l.depth position offsets l.table → (q : ℕ)
    → at l.out q
    ≡ cond (nat_le l.run.first q && nat_lt q (l.run.first + l.k))
    (band_moved l.depth position offsets (at l.lines (l.run.from + (q - l.run.first)))) (at l.fn.out q)
