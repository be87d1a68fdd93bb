-- A coding unit that is read is one coding unit: nothing that is read behind its beginning begins another.
use Rattle.std.proofs.Common.{◌≡◌, ℕ, zero, suc, ◌+◌, ◌*◌, ◌^◌, Bool, true, List, [], ◌∷◌, ◌++◌, refl, ap}
use Rattle.std.proofs.Common.{◌∙◌, append-nil}
use Rattle.std.specs.Prelude.{⊤, ◌==◌, ◌&&◌, nat_le, ◌%◌}
use Rattle.std.specs.List.{fold}
use Rattle.ctu_records.specs.declared.item.Item.{Item}
use Rattle.ctu_records.specs.declared.item.Item.TheVariants as item
use Rattle.ctu_records.specs.declared.item.Square.{Square}
use Rattle.ctu_records.specs.declared.item.TransformUnit.{TransformUnit}
use Rattle.ctu_records.specs.declared.prediction.PartMode.{PartMode}
use Rattle.ctu_records.specs.declared.prediction.PartMode.TheVariants.{Whole}
use Rattle.ctu_records.specs.declared.prediction.MotionSyntax.{MotionSyntax}
use Rattle.ctu_records.specs.Tree.{Ctu, added}
use Rattle.spec_cabac.specs.Bins.{Tree}
use Rattle.spec_slice_data.specs.SpecResiduals.{Level}
use Rattle.spec_slice_data.specs.SpecResiduals.{Residual}
use Rattle.spec_slice_data.specs.declared.syntax.CtuSyntax.{CtuSyntax}
use Rattle.spec_slice_data.specs.declared.syntax.InterSyntax.{InterSyntax}
use Rattle.spec_slice_data.specs.declared.syntax.PcmSyntax.{PcmSyntax}
use Rattle.spec_slice_data.specs.declared.syntax.UnitStart.{UnitStart}
use Rattle.spec_slice_data.specs.declared.syntax.UnitSyntax.{UnitSyntax}
use Rattle.spec_slice_data.specs.declared.syntax.ChromaFlags.{ChromaFlags}
use Rattle.spec_slice_data.specs.declared.syntax.TransformBlock.{TransformBlock}
use Rattle.spec_slice_data.specs.Inter.{last_two, later_parts, part_count, prediction_unit, with_part}
use Rattle.spec_slice_data.specs.Modes.{luma_block, luma_blocks, luma_modes, luma_quarters, lower_left, lower_right}
use Rattle.spec_slice_data.specs.Modes.{upper_left, upper_right}
use Rattle.spec_slice_data.specs.Quantization.{delta_where, grouped}
use Rattle.spec_slice_data.specs.Residual.{coded, coded_block, with_level, with_residual}
use Rattle.spec_slice_data.specs.Transform.{any_coded, block_where, chroma_blocks, chroma_of, chroma_transform}
use Rattle.spec_slice_data.specs.Transform.{has_delta}
use Rattle.spec_slice_data.specs.Transform.{luma_transform, split_or_blocks, transform, transform_blocks}
use Rattle.spec_slice_data.specs.Transform.{transform_tree}
use Rattle.spec_slice_data.specs.Transform.{transform_unit, whole_of_fourth}
use Rattle.spec_slice_data.specs.Tree.{begun_unit, coding_unit, inter_syntax, inter_unit, intra_body, intra_syntax}
use Rattle.spec_slice_data.specs.Tree.{intra_unit, parts_and_tree, pcm_sample, pcm_samples, pcm_unit, skipped_unit}
use Rattle.spec_slice_data.specs.Tree.{unit_body, unit_start, unit_tree}
use Rattle.unit_laws.proofs.Formats.{Gives, after_any, cond_holds, give_gives, then_gives, times_gives, when_gives}
use Rattle.unit_laws.specs.Order.{coding_squares, with_square}

squares_behind : (item : Item) (xs ys : List Square) → with_square item (xs ++ ys) ≡ with_square item xs ++ ys
squares_behind (item.Unit unit) xs ys = refl
squares_behind (item.Luma luma) xs ys = refl
squares_behind (item.Chroma mode) xs ys = refl
squares_behind (item.Prediction unit) xs ys = refl
squares_behind (item.Pcm square) xs ys = refl
squares_behind (item.Sample value) xs ys = refl
squares_behind (item.Transform unit) xs ys = refl
squares_behind (item.Delta delta) xs ys = refl
squares_behind (item.Block block) xs ys = refl
squares_behind (item.Level place value) xs ys = refl

pub squares_append : (xs ys : List Item) → coding_squares (xs ++ ys) ≡ coding_squares xs ++ coding_squares ys
squares_append [] ys = refl
squares_append (item ∷ xs) ys =
    ap (with_square item) (squares_append xs ys) ∙ squares_behind item (coding_squares xs) (coding_squares ys)

-- an item with which no samples are laid but those of a prediction unit, whose coding unit has begun
abbrev pub IsQuiet : Item → Type 0
IsQuiet (item.Unit unit) = ⊥
IsQuiet (item.Pcm square) = ⊥
IsQuiet (item.Transform unit) = ⊥
IsQuiet other = ⊤

-- what holds of items stays with each item that is quiet
module _ (Kept : List Item → Type 0)
    (stays : (items : List Item) (item : Item) → IsQuiet item → Kept items → Kept (items ++ item ∷ [])) where
  abbrev Has : Ctu → Type 0
  Has ctu = Kept ctu.items

  added_has : (ctu : Ctu) (item : Item) → IsQuiet item → Has ctu → Has (added ctu item)
  added_has ctu item quiet has = stays ctu.items item quiet has

  levels_have : (log2 : ℕ) (levels : List Level) (ctu : Ctu) → Has ctu → Has (fold (with_level log2) ctu levels)
  levels_have log2 [] ctu has = has
  levels_have log2 (level ∷ levels) ctu has =
      levels_have log2 levels (with_level log2 ctu level) (added_has ctu (item.Level _ level.value) tt has)

  residual_has : (block : TransformBlock) (residual : Residual) (ctu : Ctu) → Has ctu
      → Has (with_residual block residual ctu)
  unfolding with_residual
  residual_has block residual ctu has =
      levels_have block.log2_size residual.levels (added ctu (item.Block (coded block residual.transform_skip)))
      (added_has ctu (item.Block (coded block residual.transform_skip)) tt has)

  module _ (syntax : CtuSyntax) where
    block_has : (unit : UnitSyntax) (there : Bool) (block : TransformBlock) (ctu : Ctu) → Has ctu
        → Gives Has (block_where syntax unit there block ctu)
    unfolding coded_block
    block_has unit there block ctu has =
        when_gives there
        (λ held. after_any (λ residual. give_gives (with_residual block residual ctu)
        (residual_has block residual ctu has)))
        (λ held. give_gives ctu has)

    chroma_has : (unit : UnitSyntax) (flags : ChromaFlags) (square : Square) (ctu : Ctu) → Has ctu
        → Gives Has (chroma_blocks syntax unit flags square ctu)
    unfolding chroma_blocks
    chroma_has unit flags square ctu has =
        then_gives (block_has unit flags.cb (chroma_transform unit 1 square) ctu has)
        (λ with_cb cb_has. block_has unit flags.cr (chroma_transform unit 2 square) with_cb cb_has)

    chroma_of_has : (unit : UnitSyntax) (flags : ChromaFlags) (square : Square) (ctu : Ctu) → Has ctu
        → Gives Has (chroma_of syntax unit flags square ctu)
    unfolding chroma_of
    chroma_of_has unit flags square ctu has =
        when_gives (square.log2_size == 0)
        (λ least. when_gives (square.x % 2 == 1 && square.y % 2 == 1)
        (λ fourth. chroma_has unit flags (whole_of_fourth square) ctu has) (λ earlier. give_gives ctu has))
        (λ greater. chroma_has unit flags square ctu has)

    delta_has : (square : Square) (there : Bool) (ctu : Ctu) → Has ctu → Gives Has (delta_where syntax square there ctu)
    unfolding delta_where
    delta_has square there ctu has =
        when_gives there (λ held. after_any (λ delta. give_gives _ (added_has ctu (item.Delta _) tt has)))
        (λ held. give_gives ctu has)

    pub blocks_have : (unit : UnitSyntax) (cbf_luma : Bool) (flags : ChromaFlags) (square : Square) (ctu : Ctu)
        → Has ctu → Gives Has (transform_blocks syntax unit cbf_luma flags square ctu)
    unfolding transform_blocks
    blocks_have unit cbf_luma flags square ctu has =
        then_gives (delta_has unit.square (has_delta syntax (any_coded cbf_luma flags) ctu) ctu has)
        (λ quantized quantized_has.
        then_gives (block_has unit cbf_luma (luma_transform square quantized) quantized quantized_has)
        (λ with_luma luma_has. chroma_of_has unit flags square with_luma luma_has))

  mode_has : (square : Square) (most_probable : Bool) (ctu : Ctu) → Has ctu
      → Gives Has (luma_block square most_probable ctu)
  unfolding luma_block
  mode_has square most_probable ctu has = after_any (λ mode. give_gives _ (added_has ctu (item.Luma _) tt has))

  pub modes_have : (split : Bool) (square : Square) (ctu : Ctu) → Has ctu → Gives Has (luma_modes split square ctu)
  unfolding luma_quarters luma_blocks
  modes_have split square ctu has =
      when_gives split
      (λ held. after_any (λ flag_0. after_any (λ flag_1. after_any (λ flag_2. after_any (λ flag_3.
      then_gives (mode_has (upper_left square) flag_0 ctu has) (λ first first_has.
      then_gives (mode_has (upper_right square) flag_1 first first_has) (λ second second_has.
      then_gives (mode_has (lower_left square) flag_2 second second_has) (λ third third_has.
      mode_has (lower_right square) flag_3 third third_has))))))))
      (λ held. after_any (λ most_probable. mode_has square most_probable ctu has))

  samples_have : (bits count : ℕ) (ctu : Ctu) → Has ctu → Gives Has (pcm_samples bits count ctu)
  samples_have bits count ctu has =
      times_gives (pcm_sample bits)
      (λ i c c_has. after_any (λ value. give_gives _ (added_has c (item.Sample value) tt c_has))) 0 count ctu has

  pub pcm_has : (pcm : PcmSyntax) (square : Square) (ctu : Ctu) → Kept (added ctu (item.Pcm square)).items
      → Gives (λ (read : Ctu). Kept read.items) (pcm_unit pcm square ctu)
  unfolding pcm_unit
  pcm_has pcm square ctu has =
      after_any (λ began.
      then_gives (samples_have pcm.luma_bits (16 * 4 ^ square.log2_size) (added ctu (item.Pcm square)) has)
      (λ luma luma_has.
      then_gives (samples_have pcm.chroma_bits (8 * 4 ^ square.log2_size) luma luma_has) (λ chroma chroma_has.
      after_any (λ ended. give_gives chroma chroma_has))))

  pub part_has : (square : Square) (mode : PartMode) (part : ℕ) (told : MotionSyntax) (ctu : Ctu) → Has ctu
      → Has (with_part square mode part told ctu)
  part_has square mode part told ctu has = added_has ctu (item.Prediction _) tt has

  prediction_has : (inter : InterSyntax) (start : UnitStart) (mode : PartMode) (part : ℕ) (ctu : Ctu) → Has ctu
      → Gives Has (prediction_unit inter start mode part ctu)
  unfolding prediction_unit
  prediction_has inter start mode part ctu has =
      after_any (λ told. give_gives _ (part_has start.square mode part told ctu has))

  parts_have : (inter : InterSyntax) (start : UnitStart) (mode : PartMode) (ctu : Ctu) → Has ctu
      → Gives Has (later_parts inter start mode ctu)
  unfolding later_parts last_two
  parts_have inter start mode ctu has =
      when_gives (part_count mode == 1) (λ held. give_gives ctu has)
      (λ held. then_gives (prediction_has inter start mode 1 ctu has) (λ second second_has.
      when_gives (part_count mode == 4)
      (λ four. then_gives (prediction_has inter start mode 2 second second_has)
      (λ third third_has. prediction_has inter start mode 3 third third_has))
      (λ two. give_gives second second_has)))

  -- and with each transform unit
  module _ (transforms : (items : List Item) (unit : TransformUnit) → Kept items
      → Kept (items ++ item.Transform unit ∷ [])) where
    module _ (syntax : CtuSyntax) where
      transform_has : (unit : UnitSyntax) (flags : ChromaFlags) (depth : ℕ) (square : Square) (ctu : Ctu) → Has ctu
          → Gives Has (transform_unit syntax unit flags depth square ctu)
      unfolding transform_unit
      transform_has unit flags depth square ctu has =
          after_any (λ cbf_luma. blocks_have syntax unit cbf_luma flags square
          (added ctu (item.Transform (transform square depth cbf_luma flags)))
          (transforms ctu.items (transform square depth cbf_luma flags) has))

      split_has : (quarter : ChromaFlags → Square → Ctu → Tree Ctu)
          → ((flags : ChromaFlags) (s : Square) (c : Ctu) → Has c → Gives Has (quarter flags s c))
          → (unit : UnitSyntax) (above : ChromaFlags) (depth : ℕ) (square : Square) (ctu : Ctu) → Has ctu
          → Gives Has (split_or_blocks quarter syntax unit above depth square ctu)
      split_has quarter each unit above depth square ctu has =
          after_any (λ split. after_any (λ flags. when_gives split
          (λ held.
          then_gives (each flags (upper_left square) ctu has) (λ first first_has.
          then_gives (each flags (upper_right square) first first_has) (λ second second_has.
          then_gives (each flags (lower_left square) second second_has) (λ third third_has.
          each flags (lower_right square) third third_has))))
          (λ held. transform_has unit flags depth square ctu has)))

      tree_has : (unit : UnitSyntax) (above : ChromaFlags) (n depth : ℕ) (square : Square) (ctu : Ctu) → Has ctu
          → Gives Has (transform_tree syntax unit above n depth square ctu)
      unfolding transform_tree
      tree_has unit above zero depth square ctu has = transform_has unit above depth square ctu has
      tree_has unit above (suc n) depth square ctu has =
          split_has (λ flags. transform_tree syntax unit flags n (depth + 1))
          (λ flags s c. tree_has unit flags n (depth + 1) s c) unit above depth square ctu has

    module _ (syntax : CtuSyntax) (start : UnitStart) where
      unit_tree_has : (unit : UnitSyntax) (ctu : Ctu) → Has ctu → Gives Has (unit_tree syntax unit ctu)
      unit_tree_has unit ctu has =
          tree_has syntax unit (record { cb = true; cr = true }) unit.square.log2_size 0 unit.square ctu has

      pub intra_has : (split : Bool) (ctu : Ctu) → Has ctu → Gives Has (intra_unit syntax start split ctu)
      unfolding intra_unit
      intra_has split ctu has =
          then_gives (modes_have split start.square ctu has) (λ predicted predicted_has.
          after_any (λ mode. unit_tree_has (intra_syntax start split mode) (added predicted (item.Chroma mode))
          (added_has predicted (item.Chroma mode) tt predicted_has)))

      pub skipped_has : (ctu : Ctu) → Has ctu → Gives Has (skipped_unit syntax start ctu)
      unfolding skipped_unit
      skipped_has ctu has = after_any (λ told. give_gives _ (part_has start.square Whole 0 told ctu has))

      pub inter_has : (ctu : Ctu) → Has ctu → Gives Has (inter_unit syntax start ctu)
      unfolding inter_unit parts_and_tree
      inter_has ctu has =
          after_any (λ mode. after_any (λ first.
          then_gives (parts_have syntax.inter start mode (with_part start.square mode 0 first ctu)
          (part_has start.square mode 0 first ctu has)) (λ predicted predicted_has.
          after_any (λ coded. when_gives coded
          (λ held. unit_tree_has (inter_syntax syntax start mode) predicted predicted_has)
          (λ held. give_gives predicted predicted_has)))))

-- ---- coding units

module _ (squares : List Square) where
  -- the coding units so far have these squares
  abbrev AreCoded : List Item → Type 0
  AreCoded items = coding_squares items ≡ squares

  none_behind : (items : List Item) (item : Item) → coding_squares (item ∷ []) ≡ [] → AreCoded items
      → AreCoded (items ++ item ∷ [])
  none_behind items item none are =
      squares_append items (item ∷ []) ∙ ap (λ xs. coding_squares items ++ xs) none
      ∙ append-nil (coding_squares items) ∙ are

  quiet_coded : (items : List Item) (item : Item) → IsQuiet item → AreCoded items → AreCoded (items ++ item ∷ [])
  quiet_coded items (item.Unit unit) quiet are = absurd quiet
  quiet_coded items (item.Luma luma) quiet are = none_behind items (item.Luma luma) refl are
  quiet_coded items (item.Chroma mode) quiet are = none_behind items (item.Chroma mode) refl are
  quiet_coded items (item.Prediction unit) quiet are = none_behind items (item.Prediction unit) refl are
  quiet_coded items (item.Pcm square) quiet are = absurd quiet
  quiet_coded items (item.Sample value) quiet are = none_behind items (item.Sample value) refl are
  quiet_coded items (item.Transform unit) quiet are = absurd quiet
  quiet_coded items (item.Delta delta) quiet are = none_behind items (item.Delta delta) refl are
  quiet_coded items (item.Block block) quiet are = none_behind items (item.Block block) refl are
  quiet_coded items (item.Level place value) quiet are = none_behind items (item.Level place value) refl are

  transform_coded : (items : List Item) (unit : TransformUnit) → AreCoded items
      → AreCoded (items ++ item.Transform unit ∷ [])
  transform_coded items unit are = none_behind items (item.Transform unit) refl are

  abbrev Coded : Ctu → Type 0
  Coded ctu = AreCoded ctu.items

  body_coded : (syntax : CtuSyntax) (start : UnitStart) (ctu : Ctu) → Coded ctu
      → Gives Coded (unit_body syntax start ctu)
  unfolding intra_body
  body_coded syntax start ctu are =
      when_gives start.intra
      (λ held. after_any (λ split. after_any (λ pcm. when_gives pcm
      (λ is. pcm_has AreCoded quiet_coded syntax.pcm start.square ctu
      (none_behind ctu.items (item.Pcm start.square) refl are))
      (λ other. intra_has AreCoded quiet_coded transform_coded syntax start split ctu are))))
      (λ other. when_gives start.skipped
      (λ held. skipped_has AreCoded quiet_coded transform_coded syntax start ctu are)
      (λ held. inter_has AreCoded quiet_coded transform_coded syntax start ctu are))

pub start_gives : (syntax : CtuSyntax) (depth : ℕ) (square : Square) (ctu : Ctu)
    → Gives (λ start. start.square ≡ square) (unit_start syntax depth square ctu)
unfolding unit_start
start_gives syntax depth square ctu =
    after_any (λ bypass. after_any (λ skipped. after_any (λ intra. give_gives _ refl)))

begun_has : (start : UnitStart) (square : Square) (ctu : Ctu) → start.square ≡ square
    → coding_squares (begun_unit start ctu).items ≡ coding_squares ctu.items ++ square ∷ []
unfolding begun_unit
begun_has start square ctu is =
    squares_append ctu.items (item.Unit _ ∷ []) ∙ ap (λ s. coding_squares ctu.items ++ s ∷ []) is

-- one coding unit is read, and its square is this
pub unit_gives : (syntax : CtuSyntax) (depth : ℕ) (square : Square) (ctu : Ctu)
    → Gives (λ (read : Ctu). coding_squares read.items ≡ coding_squares ctu.items ++ square ∷ [])
    (coding_unit syntax depth square ctu)
unfolding coding_unit
unit_gives syntax depth square ctu =
    then_gives (start_gives syntax depth square ctu)
    (λ start is. body_coded (coding_squares ctu.items ++ square ∷ []) syntax start (begun_unit start ctu)
    (begun_has start square ctu is))

-- a quantization group begins no coding unit
pub grouped_same : (syntax : CtuSyntax) (square : Square) (ctu : Ctu) → (grouped syntax square ctu).items ≡ ctu.items
unfolding grouped
grouped_same syntax square ctu =
    cond_holds (λ (c : Ctu). c.items ≡ ctu.items) (nat_le syntax.log2_group square.log2_size) _ ctu refl refl
