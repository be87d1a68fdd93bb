-- scaling_list_data (7.3.4, 7.4.5).
use Rattle.std.specs.Prelude.{ℕ, zero, suc, ◌-◌, ◌*◌, ◌%◌, ℤ, pos, ◌+ℤ◌, unsigned_abs, List, [], ◌∷◌, ◌++◌, length}
use Rattle.std.specs.Prelude.{map}
use Rattle.std.specs.Prelude.{replicate, slice_index_or, nat_lt, ◌==◌, if◌then◌else◌}
use Rattle.std.specs.List.{range_with_len}
use Rattle.spec_reference_pictures.specs.HeaderTypes.{ScalingList}
use Rattle.spec_reference_pictures.specs.HeaderTypes.{ScalingLists}
use Rattle.spec_reference_pictures.specs.SpecFormats.{when◌then◌else◌}
use Rattle.spec_reference_pictures.specs.SpecFormats.{Header, ◌>>=◌, give, ranged, flag, ue_to, se_within}
use Rattle.spec_parameter_sets.specs.declared.tables.TheConstants.{DEFAULT_INTRA, DEFAULT_INTER}

-- how many lists a sizeId has, one a matrixId
abbrev pub list_count : ℕ → ℕ
list_count size = if size == 3 then 2 else 6

-- coefNum, which is Min(64, 1 << (4 + (sizeId << 1))): how many factors a list of a sizeId has
abbrev pub coef_num : ℕ → ℕ
coef_num size = if size == 0 then 16 else 64

-- the default factors of a sizeId and a matrixId, whose first half is for intra prediction (Tables 7-5 and 7-6)
unfoldable pub default_factors : ℕ → ℕ → List ℕ
default_factors size matrix =
    if size == 0
    then replicate 16 16
    else (if nat_lt (2 * matrix) (list_count size) then DEFAULT_INTRA else DEFAULT_INTER)

-- the default list of a sizeId and a matrixId
unfoldable pub default_list : ℕ → ℕ → ScalingList
default_list size matrix = record { factors = default_factors size matrix; dc = 16 }

-- the default lists of a sizeId
unfoldable pub default_lists_of : ℕ → List ScalingList
default_lists_of size = map (default_list size) (range_with_len 0 (list_count size))

-- the default lists
unfoldable pub default_lists : ScalingLists
default_lists = record { lists = default_lists_of 0 ++ default_lists_of 1 ++ default_lists_of 2 ++ default_lists_of 3 }

-- where scaling_list_pred_mode_flag is 0: the default list, or among the former lists of its sizeId that of
-- refMatrixId. A list's matrixId is how many lists of its sizeId stand before it.
unfoldable pub predicted_list : ℕ → List ScalingList → Header ScalingList
predicted_list size former = do
  scaling_list_pred_matrix_id_delta ← ue_to (length former)
  give (if scaling_list_pred_matrix_id_delta == 0
      then default_list size (length former)
      else slice_index_or former (length former - scaling_list_pred_matrix_id_delta)
      (default_list size (length former)))

-- nextCoef behind scaling_list_delta_coef
unfoldable pub next_coef : ℕ → ℤ → ℕ
next_coef next delta = unsigned_abs (pos next +ℤ delta +ℤ pos 256) % 256

-- a factor, which is the next nextCoef
unfoldable pub coded_factor : ℕ → Header ℕ
coded_factor next = do
  scaling_list_delta_coef ← se_within 128 127
  above_zero ← ranged (nat_lt 0 (next_coef next scaling_list_delta_coef))
  give (next_coef next scaling_list_delta_coef)

-- so many factors behind a nextCoef
unfoldable pub coded_factors : ℕ → ℕ → Header (List ℕ)
coded_factors zero next = give []
coded_factors (suc n) next = do
  factor ← coded_factor next
  others ← coded_factors n factor
  give (factor ∷ others)

-- scaling_list_dc_coef_minus8 and 8, coded for blocks of 16x16 and more
unfoldable pub coded_dc : ℕ → Header ℕ
coded_dc size =
    when nat_lt 1 size
    then (do
      scaling_list_dc_coef_minus8 ← se_within 7 247
      give (unsigned_abs (scaling_list_dc_coef_minus8 +ℤ pos 8)))
    else give 16

-- where scaling_list_pred_mode_flag is 1: the first nextCoef is the DC factor, where it is coded, or 8
unfoldable pub coded_list : ℕ → Header ScalingList
coded_list size = do
  dc ← coded_dc size
  factors ← coded_factors (coef_num size) (if nat_lt 1 size then dc else 8)
  give (record { factors = factors; dc = dc })

-- a list behind the former ones of its sizeId
unfoldable pub scaling_list : ℕ → List ScalingList → Header ScalingList
scaling_list size former = do
  scaling_list_pred_mode_flag ← flag
  when scaling_list_pred_mode_flag then coded_list size else predicted_list size former

-- the lists of a sizeId, of which so many are left behind the former ones
unfoldable pub lists_behind : ℕ → ℕ → List ScalingList → Header (List ScalingList)
lists_behind size zero former = give former
lists_behind size (suc n) former = do
  list ← scaling_list size former
  lists_behind size n (former ++ list ∷ [])

-- the lists of a sizeId
unfoldable pub lists_of : ℕ → Header (List ScalingList)
lists_of size = lists_behind size (list_count size) []

-- the lists of all four sizes (7.3.4)
unfoldable pub scaling_list_data : Header ScalingLists
scaling_list_data = do
  of_4x4 ← lists_of 0
  of_8x8 ← lists_of 1
  of_16x16 ← lists_of 2
  of_32x32 ← lists_of 3
  give (record { lists = of_4x4 ++ of_8x8 ++ of_16x16 ++ of_32x32 })
