-- A transform tree in the greatest unit keeps what is kept of a unit.
use Rattle.std.proofs.Common.{◌≡◌, ℕ, zero, suc, ◌+◌, ◌≤◌, Bool, true, false, List, [], ◌∷◌, refl, arith}
use Rattle.std.specs.Prelude.{◌==◌, ◌&&◌, ◌||◌, not, nat_le, nat_lt, ◌%◌}
use Rattle.std.specs.List.{fold}
use Rattle.std.proofs.lemmas.Bool.{and_parts, leb-true, ltb-false, eqb-false}
use Rattle.ctu_records.specs.declared.item.Item.TheVariants as item
use Rattle.ctu_records.specs.declared.item.Square.{Square}
use Rattle.ctu_records.specs.Tree.{Ctu, added}
use Rattle.spec_cabac.specs.Bins.{Tree}
use Rattle.spec_picture_build.specs.SpecReconstruction.{UnitFormat}
use Rattle.spec_picture_build.specs.SpecReconstruction.{IsSquare}
use Rattle.spec_slice_data.specs.SpecResiduals.{Level}
use Rattle.spec_slice_data.specs.SpecResiduals.{Residual}
use Rattle.spec_slice_data.specs.declared.syntax.CtuSyntax.{CtuSyntax}
use Rattle.spec_slice_data.specs.declared.syntax.UnitSyntax.{UnitSyntax}
use Rattle.spec_slice_data.specs.declared.syntax.ChromaFlags.{ChromaFlags}
use Rattle.spec_slice_data.specs.declared.syntax.TransformBlock.{TransformBlock}
use Rattle.spec_slice_data.specs.Modes.{upper_left, upper_right, lower_left, lower_right}
use Rattle.spec_slice_data.specs.Residual.{coded, with_level, with_residual, coded_block}
use Rattle.spec_slice_data.specs.Transform.{splits_first, max_depth, split_transform_flag, block_where}
use Rattle.spec_slice_data.specs.Transform.{chroma_transform, chroma_blocks, whole_of_fourth, chroma_of}
use Rattle.spec_slice_data.specs.Transform.{luma_transform}
use Rattle.spec_slice_data.specs.Transform.{any_coded, has_delta, transform_blocks, transform, transform_unit}
use Rattle.spec_slice_data.specs.Transform.{split_or_blocks, transform_tree}
use Rattle.unit_laws.proofs.Formats.{Gives, give_gives, then_gives, after_any, always, when_gives}
use Rattle.unit_laws.proofs.Items.{IsKept, added_kept}
use Rattle.unit_laws.proofs.Quantization.{delta_where_kept}
use Rattle.unit_laws.proofs.Squares.{IsInside, upper_left_inside, upper_right_inside, lower_left_inside}
use Rattle.unit_laws.proofs.Squares.{lower_right_inside, square_inside, IsBlock, luma_block_inside}
use Rattle.unit_laws.proofs.Squares.{chroma_block_inside, fourth_inside}

or_first : (x y : Bool) → (x || y) ≡ false → x ≡ false
or_first true y e = absurd cc
or_first false y e = refl

-- a node of more than 32x32 luma samples is split
split_gives : (syntax : CtuSyntax) (unit : UnitSyntax) (n depth : ℕ) → syntax.log2_max_transform ≤ 3
    → Gives (λ split. split ≡ false → n ≤ 3) (split_transform_flag syntax unit n depth)
unfolding split_transform_flag
split_gives syntax unit n depth small =
    when_gives ((nat_le n syntax.log2_max_transform && nat_lt syntax.log2_min_transform n)
    && (nat_lt depth (max_depth syntax unit) && not (splits_first unit depth)))
    (λ held. always _ (λ split whole.
    let sizes = (and_parts (nat_le n syntax.log2_max_transform && nat_lt syntax.log2_min_transform n) _ held).0 in
    let most = leb-true n syntax.log2_max_transform (and_parts (nat_le n syntax.log2_max_transform) _ sizes).0 in
    omega (arith, most, small)))
    (λ held. give_gives (nat_lt syntax.log2_max_transform n || splits_first unit depth) (λ whole.
    let most =
    ltb-false syntax.log2_max_transform n
    (or_first (nat_lt syntax.log2_max_transform n) (splits_first unit depth) whole) in
    omega (arith, most, small)))

module _ (format : UnitFormat) (greatest : ℕ) where
  levels_kept : (log2 : ℕ) (levels : List Level) (ctu : Ctu) → IsKept format greatest ctu
      → IsKept format greatest (fold (with_level log2) ctu levels)
  levels_kept log2 [] ctu kept = kept
  levels_kept log2 (level ∷ levels) ctu kept =
      levels_kept log2 levels (with_level log2 ctu level)
      (added_kept format greatest ctu (item.Level _ level.value) kept tt tt tt tt)

  residual_kept : (block : TransformBlock) (residual : Residual) (ctu : Ctu) → IsBlock block
      → IsKept format greatest ctu → IsKept format greatest (with_residual block residual ctu)
  unfolding with_residual
  residual_kept block residual ctu inside kept =
      levels_kept block.log2_size residual.levels (added ctu (item.Block (coded block residual.transform_skip)))
      (added_kept format greatest ctu (item.Block (coded block residual.transform_skip)) kept
      (inside residual.transform_skip) tt tt tt)

module _ (format : UnitFormat) (syntax : CtuSyntax) where
  abbrev Kept : Ctu → Type 0
  Kept = IsKept format (51 + syntax.qp_offset)

  block_kept : (unit : UnitSyntax) (there : Bool) (block : TransformBlock) (ctu : Ctu) → IsBlock block → Kept ctu
      → Gives Kept (block_where syntax unit there block ctu)
  unfolding coded_block
  block_kept unit there block ctu inside kept =
      when_gives there
      (λ held. after_any (λ residual. give_gives (with_residual block residual ctu)
      (residual_kept format (51 + syntax.qp_offset) block residual ctu inside kept)))
      (λ held. give_gives ctu kept)

  chroma_kept : (unit : UnitSyntax) (flags : ChromaFlags) (square : Square) (ctu : Ctu) → IsSquare square
      → 1 ≤ square.log2_size → Kept ctu → Gives Kept (chroma_blocks syntax unit flags square ctu)
  unfolding chroma_blocks
  chroma_kept unit flags square ctu inside some kept =
      then_gives (block_kept unit flags.cb (chroma_transform unit 1 square) ctu
      (chroma_block_inside unit 1 square (omega arith) refl some inside) kept)
      (λ with_cb cb_kept. block_kept unit flags.cr (chroma_transform unit 2 square) with_cb
      (chroma_block_inside unit 2 square (omega arith) refl some inside) cb_kept)

  chroma_of_kept : (unit : UnitSyntax) (flags : ChromaFlags) (square : Square) (ctu : Ctu) → IsSquare square → Kept ctu
      → Gives Kept (chroma_of syntax unit flags square ctu)
  unfolding chroma_of
  chroma_of_kept unit flags square ctu inside kept =
      when_gives (square.log2_size == 0)
      (λ least. when_gives (square.x % 2 == 1 && square.y % 2 == 1)
      (λ fourth. chroma_kept unit flags (whole_of_fourth square) ctu (fourth_inside square inside) (omega arith) kept)
      (λ earlier. give_gives ctu kept))
      (λ greater.
      let some = eqb-false square.log2_size 0 greater in
      chroma_kept unit flags square ctu inside (omega (arith, some)) kept)

  blocks_kept : (unit : UnitSyntax) (cbf_luma : Bool) (flags : ChromaFlags) (square : Square) (ctu : Ctu)
      → IsSquare square → Kept ctu → Gives Kept (transform_blocks syntax unit cbf_luma flags square ctu)
  unfolding transform_blocks
  blocks_kept unit cbf_luma flags square ctu inside kept =
      then_gives (delta_where_kept format syntax unit.square (has_delta syntax (any_coded cbf_luma flags) ctu) ctu kept)
      (λ quantized quantized_kept.
      then_gives (block_kept unit cbf_luma (luma_transform square quantized) quantized
      (luma_block_inside square quantized inside) quantized_kept)
      (λ with_luma luma_kept.
      chroma_of_kept unit flags square with_luma inside luma_kept))

  unit_kept : (unit : UnitSyntax) (flags : ChromaFlags) (depth : ℕ) (square : Square) (ctu : Ctu) → IsSquare square
      → Kept ctu → Gives Kept (transform_unit syntax unit flags depth square ctu)
  unfolding transform_unit
  unit_kept unit flags depth square ctu inside kept =
      after_any (λ cbf_luma. blocks_kept unit cbf_luma flags square
      (added ctu (item.Transform (transform square depth cbf_luma flags))) inside
      (added_kept format (51 + syntax.qp_offset) ctu (item.Transform (transform square depth cbf_luma flags))
      kept inside tt tt tt))

  split_kept : (n : ℕ) (quarter : ChromaFlags → Square → Ctu → Tree Ctu)
      → ((flags : ChromaFlags) (s : Square) (c : Ctu) → IsInside n s → Kept c → Gives Kept (quarter flags s c))
      → syntax.log2_max_transform ≤ 3
      → (unit : UnitSyntax) (above : ChromaFlags) (depth : ℕ) (square : Square) (ctu : Ctu) → IsInside (suc n) square
      → Kept ctu → Gives Kept (split_or_blocks quarter syntax unit above depth square ctu)
  split_kept n quarter each small unit above depth square ctu inside kept =
      then_gives (split_gives syntax unit square.log2_size depth small)
      (λ split whole. after_any (λ flags. when_gives split
      (λ held.
      then_gives (each flags (upper_left square) ctu (upper_left_inside n square inside) kept) (λ first first_kept.
      then_gives (each flags (upper_right square) first (upper_right_inside n square inside) first_kept)
      (λ second second_kept.
      then_gives (each flags (lower_left square) second (lower_left_inside n square inside) second_kept)
      (λ third third_kept.
      each flags (lower_right square) third (lower_right_inside n square inside) third_kept))))
      (λ held. unit_kept unit flags depth square ctu (square_inside (suc n) square inside (whole held)) kept)))

  pub transform_tree_kept : syntax.log2_max_transform ≤ 3
      → (unit : UnitSyntax) (above : ChromaFlags) (n depth : ℕ) (square : Square) (ctu : Ctu) → IsInside n square
      → IsKept format (51 + syntax.qp_offset) ctu
      → Gives (IsKept format (51 + syntax.qp_offset)) (transform_tree syntax unit above n depth square ctu)
  unfolding transform_tree
  transform_tree_kept small unit above zero depth square ctu inside kept =
      unit_kept unit above depth square ctu (square_inside zero square inside (omega (arith, inside.size))) kept
  transform_tree_kept small unit above (suc n) depth square ctu inside kept =
      split_kept n (λ flags. transform_tree syntax unit flags n (depth + 1))
      (λ flags s c. transform_tree_kept small unit flags n (depth + 1) s c) small unit above depth
      square ctu inside kept
