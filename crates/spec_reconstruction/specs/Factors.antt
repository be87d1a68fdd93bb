-- The scaling factors of transform blocks (7.4.5, 8.6.3).
use Rattle.std.specs.Prelude.{ℕ, Bool, ◌+◌, ◌-◌, ◌*◌, ◌/◌, ◌%◌, ◌^◌, ◌==◌, ◌&&◌, nat_lt, Option, Some, None, List, []}
use Rattle.std.specs.Prelude.{◌++◌, map, slice_index_or, if◌then◌else◌}
use Rattle.std.specs.List.{range_with_len}
use Rattle.spec_inter_prediction.specs.BlockGeometry.{Diagonal}
use Rattle.spec_inter_prediction.specs.BlockGeometry.{scan_index}
use Rattle.header_types.specs.declared.scaling.ScalingList.{ScalingList}
use Rattle.header_types.specs.declared.scaling.ScalingLists.{ScalingLists}
use Rattle.spec_reconstruction.specs.declared.format.ScalingFactors.{ScalingFactors}

-- where the factors of a component's blocks of 2^log2 samples on a side begin
unfoldable pub first_factor : ℕ → ℕ → ℕ
first_factor log2 c =
    if log2 == 2 then 16 * c
    else (if log2 == 3 then 48 + 64 * c
    else (if log2 == 4 then 240 + 256 * c else 1008))

-- m of a place of such a block, the places counted in rows
abbrev pub factor : ScalingFactors → ℕ → ℕ → ℕ → ℕ
factor factors log2 c place = slice_index_or factors.by_place (first_factor log2 c + place) 16

-- matrixId of a block of a component: cIdx in an intra coding unit, and behind those in an inter one (Table 7-4)
abbrev pub matrix_of : Bool → ℕ → ℕ → ℕ
matrix_of intra log2 c = if intra then c else (if log2 == 5 then c + 1 else c + 3)

-- what stands where there is no list
abbrev pub no_list : ScalingList
no_list = record { factors = []; dc = 16 }

-- the scaling list of a block
abbrev pub list_of : ScalingLists → Bool → ℕ → ℕ → ScalingList
list_of lists intra log2 c = slice_index_or lists.lists (6 * (log2 - 2) + matrix_of intra log2 c) no_list

-- ScalingFactor at column x and line y: a list is spread over blocks of 16x16 and more, whose first place has a factor
-- of its own
unfoldable pub listed_factor : ScalingList → ℕ → ℕ → ℕ → ℕ
listed_factor list log2 x y =
    if log2 == 2 then slice_index_or list.factors (scan_index 2 Diagonal x y) 16
    else (if nat_lt 3 log2 && (x == 0 && y == 0) then list.dc
    else slice_index_or list.factors (scan_index 3 Diagonal (x / 2 ^ (log2 - 3)) (y / 2 ^ (log2 - 3))) 16)

-- the factor by the lists of the picture, 16 where it has none
unfoldable pub scaling_factor : Option ScalingLists → Bool → ℕ → ℕ → ℕ → ℕ → ℕ
scaling_factor None intra log2 c x y = 16
scaling_factor (Some lists) intra log2 c x y = listed_factor (list_of lists intra log2 c) log2 x y

-- those of the blocks of a component and a size, row after row
abbrev pub factors_in_rows : Option ScalingLists → Bool → ℕ → ℕ → List ℕ
factors_in_rows lists intra log2 c =
    map (λ k. scaling_factor lists intra log2 c (k % 2 ^ log2) (k / 2 ^ log2)) (range_with_len 0 (2 ^ log2 * 2 ^ log2))

-- the factors of all blocks of a size, component after component
abbrev pub factors_of_size : Option ScalingLists → Bool → ℕ → List ℕ
factors_of_size lists intra log2 =
    factors_in_rows lists intra log2 0 ++ (factors_in_rows lists intra log2 1 ++ factors_in_rows lists intra log2 2)

-- those of all blocks of intra coding units, or of inter ones
unfoldable pub scaling_factors : Option ScalingLists → Bool → ScalingFactors
scaling_factors lists intra = record {
  by_place =
      factors_of_size lists intra 2
      ++ (factors_of_size lists intra 3 ++ (factors_of_size lists intra 4 ++ factors_in_rows lists intra 5 0));
}
