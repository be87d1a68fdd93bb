-- The factors of a block by a list.
use Rattle.std.specs.Prelude.{ℕ, ◌*◌, ◌/◌, ◌%◌, ◌^◌, ◌≤◌, List, map}
use Rattle.std.specs.List.{range_with_len}
use Rattle.header_types.specs.declared.scaling.ScalingList.{ScalingList}
use Rattle.spec_reconstruction.specs.Factors.{listed_factor}

-- row after row
abbrev pub block_of_list : ScalingList → ℕ → List ℕ
block_of_list list log2 =
    map (λ k. listed_factor list log2 (k % 2 ^ log2) (k / 2 ^ log2)) (range_with_len 0 (2 ^ log2 * 2 ^ log2))

-- the sizes of transform blocks
pub record IsSize (log2 : ℕ) : Type 0 where
  pub least : 2 ≤ log2
  pub greatest : log2 ≤ 5
