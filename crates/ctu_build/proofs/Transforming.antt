-- Residuals of a block.
use Rattle.std.proofs.Common.{◌≡◌, ℕ, ◌<◌, ◌^◌, true, false, ℤ, List, ap, ◌∙◌}
use Rattle.ctu_records.specs.declared.item.CodedBlock.{CodedBlock}
use Rattle.spec_reconstruction.specs.declared.format.UnitFormat.{UnitFormat}
use Rattle.spec_reconstruction.specs.declared.unit_mode.UnitMode.{UnitMode}
use Rattle.spec_reconstruction.specs.Parameters.{depth_of}
use Rattle.spec_reconstruction.specs.Residuals.{has_sines, residuals, scaled_block}
use Rattle.spec_transforms.proofs.Sums.{transformed_same}
use Rattle.spec_transforms.specs.Transforms.{block_in, skipped, transformed}

-- where the transform is skipped
pub skipped_block : (format : UnitFormat) (mode : UnitMode) (block : CodedBlock) (qp : ℕ) (levels scaled out : List ℤ)
    → mode.transquant_bypass ≡ false → block.transform_skip ≡ true
    → ((x y : ℕ) → x < 2 ^ block.log2_size → y < 2 ^ block.log2_size
    → block_in (2 ^ block.log2_size) scaled x y
    ≡ scaled_block format mode block.component block.log2_size qp levels x y)
    → ((x y : ℕ) → x < 2 ^ block.log2_size → y < 2 ^ block.log2_size
    → block_in (2 ^ block.log2_size) out x y
    ≡ skipped (depth_of format block.component) (block_in (2 ^ block.log2_size) scaled x y))
    → (x y : ℕ) → x < 2 ^ block.log2_size → y < 2 ^ block.log2_size
    → block_in (2 ^ block.log2_size) out x y ≡ residuals format mode block qp levels x y
unfolding residuals
skipped_block format mode block qp levels scaled out scales skips told gave x y hx hy =
    rw (scales, skips) (gave x y hx hy ∙ ap (λ (d : ℤ). skipped (depth_of format block.component) d) (told x y hx hy))

-- where it is not
pub transformed_block : (format : UnitFormat) (mode : UnitMode) (block : CodedBlock) (qp : ℕ)
    (levels scaled out : List ℤ)
    → mode.transquant_bypass ≡ false → block.transform_skip ≡ false
    → ((x y : ℕ) → x < 2 ^ block.log2_size → y < 2 ^ block.log2_size
    → block_in (2 ^ block.log2_size) scaled x y
    ≡ scaled_block format mode block.component block.log2_size qp levels x y)
    → ((x y : ℕ) → x < 2 ^ block.log2_size → y < 2 ^ block.log2_size
    → block_in (2 ^ block.log2_size) out x y
    ≡ transformed (depth_of format block.component) (has_sines mode block.component block.log2_size)
    (2 ^ block.log2_size) (block_in (2 ^ block.log2_size) scaled) x y)
    → (x y : ℕ) → x < 2 ^ block.log2_size → y < 2 ^ block.log2_size
    → block_in (2 ^ block.log2_size) out x y ≡ residuals format mode block qp levels x y
unfolding residuals
transformed_block format mode block qp levels scaled out scales skips told gave x y hx hy =
    rw (scales, skips) (gave x y hx hy
    ∙ transformed_same (depth_of format block.component) (has_sines mode block.component block.log2_size)
    (2 ^ block.log2_size) _ _ told x y)
