-- The residuals of a coded transform block (8.6.2).
use Rattle.std.specs.Prelude.{ℕ, ◌+◌, ◌*◌, ◌^◌, ◌==◌, ◌&&◌, Bool, ℤ, pos, List, ◌∷◌, replicate, set, if◌then◌else◌}
use Rattle.ctu_records.specs.declared.item.CodedBlock.{CodedBlock}
use Rattle.ctu_records.specs.declared.item.Item.{Item}
use Rattle.ctu_records.specs.declared.item.Item.TheVariants.{Level}
use Rattle.spec_reconstruction.specs.declared.format.ScalingFactors.{ScalingFactors}
use Rattle.spec_reconstruction.specs.declared.format.UnitFormat.{UnitFormat}
use Rattle.spec_reconstruction.specs.declared.unit_mode.UnitMode.{UnitMode}
use Rattle.spec_reconstruction.specs.Factors.{factor}
use Rattle.spec_reconstruction.specs.Parameters.{depth_of, parameter_of}
use Rattle.spec_transforms.specs.Scaling.{scaled}
use Rattle.spec_transforms.specs.Transforms.{Block, block_in, transformed, skipped}

-- levels in rows, and over them those of the items that follow, up to the first item of another kind
unfoldable pub levels_laid : List ℤ → List Item → List ℤ
levels_laid levels (Level place value ∷ items) = levels_laid (set levels place value) items
levels_laid levels other = levels

-- the levels of a block of so many samples, by the items behind it: 0 where none is told
abbrev pub levels_behind : ℕ → List Item → List ℤ
levels_behind count items = levels_laid (replicate count (pos 0)) items

-- the scaling factors of the blocks of a coding unit
abbrev pub factors_of : UnitFormat → UnitMode → ScalingFactors
factors_of format mode = if mode.intra then format.intra_factors else format.inter_factors

-- the scaled coefficients of a block (8.6.3)
abbrev pub scaled_block : UnitFormat → UnitMode → ℕ → ℕ → ℕ → List ℤ → Block
scaled_block format mode c log2 qp levels x y =
    scaled (depth_of format c) log2 qp (factor (factors_of format mode) log2 c (2 ^ log2 * y + x))
    (block_in (2 ^ log2) levels x y)

-- whether a block has the transform of sines: luma of 4x4 samples in an intra coding unit (8.6.4.2)
abbrev pub has_sines : UnitMode → ℕ → ℕ → Bool
has_sines mode c log2 = mode.intra && (c == 0 && log2 == 2)

-- residuals by column and line: the levels themselves where cu_transquant_bypass_flag is 1, else the scaled
-- coefficients transformed, or with the transform skipped
unfoldable pub residuals : UnitFormat → UnitMode → CodedBlock → ℕ → List ℤ → Block
residuals format mode block qp levels x y =
    if mode.transquant_bypass then block_in (2 ^ block.log2_size) levels x y
    else (if block.transform_skip
    then skipped (depth_of format block.component)
    (scaled_block format mode block.component block.log2_size qp levels x y)
    else transformed (depth_of format block.component) (has_sines mode block.component block.log2_size)
    (2 ^ block.log2_size) (scaled_block format mode block.component block.log2_size qp levels) x y)

-- the residuals of a block in a coding unit whose Qp'Y is qp, by the items behind it
abbrev pub residuals_behind : UnitFormat → UnitMode → CodedBlock → ℕ → List Item → Block
residuals_behind format mode block qp items =
    residuals format mode block (parameter_of format block.component qp)
    (levels_behind (2 ^ block.log2_size * 2 ^ block.log2_size) items)
