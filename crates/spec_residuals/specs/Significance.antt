-- Which coefficients of a sub-block are coded: coded_sub_block_flag and sig_coeff_flag (7.3.8.11, 9.3.4.2.4,
-- 9.3.4.2.5).
use Rattle.std.specs.Prelude.{ℕ, ◌+◌, ◌-◌, ◌*◌, ◌==◌, Bool, true, false, ◌&&◌, ◌||◌, nat_lt, List, [], ◌∷◌, ◌++◌}
use Rattle.std.specs.Prelude.{slice_index, slice_index_or, if◌then◌else◌}
use Rattle.block_geometry.specs.declared.kind.Scan.{Scan}
use Rattle.block_geometry.specs.declared.kind.Scan.TheVariants.{Diagonal, Horizontal, Vertical}
use Rattle.block_geometry.specs.Scans.{Place, scan_place}
use Rattle.spec_cabac.specs.SpecFormats.{◌>>=◌, give, when◌then◌else◌}
use Rattle.spec_cabac.specs.Bins.{Tree, decision, times}
use Rattle.spec_cabac.specs.declared.init_values.TheConstants.{CODED_SUB_BLOCK_FLAG, SIG_COEFF_FLAG}
use Rattle.spec_residuals.specs.declared.block.ResidualBlock.{ResidualBlock}
use Rattle.spec_residuals.specs.declared.progress.SubBlock.{SubBlock}
use Rattle.spec_residuals.specs.declared.tables.TheConstants.{CTX_IDX_MAP}
use Rattle.spec_residuals.specs.LastPosition.{is_luma, by_component}

-- the sub-block at an index of the scan, by the flags of those read before it
unfoldable pub sub_block_at : ResidualBlock → List Bool → ℕ → SubBlock
sub_block_at block coded i =
    let place = scan_place (block.log2 - 2) block.scan i in
    record {
      index = i;
      x = place.0;
      y = place.1;
      right = slice_index_or coded (9 * place.1 + place.0 + 1) false;
      below = slice_index_or coded (9 * place.1 + place.0 + 9) false;
    }

-- the context of coded_sub_block_flag (9.3.4.2.4)
abbrev pub coded_context : ResidualBlock → SubBlock → ℕ
coded_context block sub =
    by_component block CODED_SUB_BLOCK_FLAG (CODED_SUB_BLOCK_FLAG + 2) + (if sub.right || sub.below then 1 else 0)

-- coded_sub_block_flag, which the first sub-block and that of the last level have without a bin
unfoldable pub coded_sub_block_flag : ResidualBlock → ℕ → SubBlock → Tree Bool
coded_sub_block_flag block last sub =
    when (sub.index == last) || (sub.index == 0) then give true else decision (coded_context block sub)

-- 2 at the first place of a row or column, 1 at the second, 0 behind them
abbrev pub nearness : ℕ → ℕ
nearness n = if n == 0 then 2 else (if n == 1 then 1 else 0)

-- the same of the column and the row together, where the second and the third are alike
abbrev pub diagonal_nearness : ℕ → ℕ
diagonal_nearness n = if n == 0 then 2 else (if nat_lt n 3 then 1 else 0)

-- sigCtx by the flags of the sub-blocks to the right and below
abbrev pub neighbour_context : Bool → Bool → Place → ℕ
neighbour_context false false p = diagonal_nearness (p.0 + p.1)
neighbour_context true false p = nearness p.1
neighbour_context false true p = nearness p.0
neighbour_context true true p = 2

-- whether the scan goes by diagonals
abbrev pub is_diagonal : Scan → Bool
is_diagonal Diagonal = true
is_diagonal Horizontal = false
is_diagonal Vertical = false

-- what is added to it by the size of the block, its scan, and the place of the sub-block
abbrev pub size_context : ResidualBlock → SubBlock → ℕ
size_context block sub =
    if is_luma block
    then (if (sub.x == 0) && (sub.y == 0) then 0 else 3)
    + (if block.log2 == 3 then (if is_diagonal block.scan then 9 else 15) else 21)
    else (if block.log2 == 3 then 9 else 12)

-- sigCtx of a place in a sub-block (9.3.4.2.5)
unfoldable pub sig_ctx : ResidualBlock → SubBlock → Place → ℕ
sig_ctx block sub p =
    if block.log2 == 2
    then slice_index CTX_IDX_MAP (4 * p.1 + p.0)
    else (if ((sub.x == 0) && (sub.y == 0)) && ((p.0 == 0) && (p.1 == 0)) then 0
    else neighbour_context sub.right sub.below p + size_context block sub)

-- the context of sig_coeff_flag at a place
abbrev pub sig_context : ResidualBlock → SubBlock → Place → ℕ
sig_context block sub p = by_component block SIG_COEFF_FLAG (SIG_COEFF_FLAG + 27) + sig_ctx block sub p

-- whether a sub-block has no level
abbrev pub is_none : List ℕ → Bool
is_none [] = true
is_none (x ∷ xs) = false

-- sig_coeff_flag at an index of the scan of a sub-block, behind those found. In a sub-block whose own flag was read,
-- the first place has it without a bin where no other has it.
abbrev pub sig_coeff_flag : ResidualBlock → SubBlock → Bool → ℕ → List ℕ → Tree Bool
sig_coeff_flag block sub flagged n found =
    when flagged && (n == 0) && is_none found then give true
    else decision (sig_context block sub (scan_place 2 block.scan n))

-- the places that have levels, behind one more
abbrev pub sig_coeff : ResidualBlock → SubBlock → Bool → ℕ → List ℕ → Tree (List ℕ)
sig_coeff block sub flagged n found = do
  flag ← sig_coeff_flag block sub flagged n found
  give (if flag then found ++ n ∷ [] else found)

-- the indices below one that have a level, backwards, behind those found
abbrev pub sig_coeffs : ResidualBlock → SubBlock → Bool → ℕ → List ℕ → Tree (List ℕ)
sig_coeffs block sub flagged from found = times 0 from (λ i. sig_coeff block sub flagged (from - 1 - i)) found

-- the indices of a sub-block that have a level, backwards: in that of the last level they begin with the last one's
unfoldable pub coded_indices : ResidualBlock → SubBlock → ℕ → ℕ → Tree (List ℕ)
coded_indices block sub last position =
    when sub.index == last then sig_coeffs block sub false position (position ∷ [])
    else sig_coeffs block sub (nat_lt 0 sub.index) 16 []
