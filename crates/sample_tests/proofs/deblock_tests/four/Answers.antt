use Rattle.std.proofs.Common.{ℕ, zero, suc, ◌≤◌, slice_index_or, arith}
use Rattle.std.specs.Prelude.{replicate}
use Rattle.sample_tests.proofs.deblock_tests.four.Goals as goal

small : (n k : ℕ) → slice_index_or (replicate n 0) k 0 ≤ 255
small zero k = omega arith
small (suc n) zero = omega arith
small (suc n) (suc k) = small n k

pub loop-k-init : goal.loop-k-init
loop-k-init c = λ k. small 64 k
