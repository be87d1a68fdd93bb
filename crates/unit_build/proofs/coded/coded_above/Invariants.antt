use Rattle.std.proofs.Common.{◌≡◌, ℕ, ◌+◌, ◌<◌, false, length, slice_index_or}
use Rattle.spec_picture_filters.specs.Units.{coded_near}
use Rattle.unit_build.proofs.coded.coded_above.Given as goal

abbrev pub invariant-loop-k : goal.invariant-loop-k
invariant-loop-k g l = record {
  count : length l.coded ≡ 16;
  told : (q : ℕ) → q < l.k
      → slice_index_or l.coded q false
      ≡ coded_near l.unit.layout l.unit.address (g.B.Beside.coded_at l.beside) (q + 1) 0;
}
