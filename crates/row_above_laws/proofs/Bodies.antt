-- A coding unit that is read: what of it is laid, and where.
use Rattle.std.proofs.Common.{◌≡◌, ℕ, zero, suc, ◌+◌, ◌*◌, ◌^◌, ◌<◌, ◌≤◌, Bool, true, false, List, [], ◌∷◌, ◌++◌}
use Rattle.std.proofs.Common.{All, fold, refl, ap, sym, ◌∙◌, arith, append_assoc}
use Rattle.std.specs.Prelude.{◌==◌, ◌&&◌, ◌%◌}
use Rattle.std.proofs.lemmas.Bool.{eqb-false, eqb-true, or_left, or_right}
use Rattle.std.proofs.lemmas.List.Elements.{All-append, All-cons, All-nil}
use Rattle.ctu_records.specs.declared.item.CodingUnit.{CodingUnit}
use Rattle.ctu_records.specs.declared.item.Item.{Item}
use Rattle.ctu_records.specs.declared.item.Item.TheVariants as item
use Rattle.ctu_records.specs.declared.item.Square.{Square}
use Rattle.ctu_records.specs.declared.prediction.MotionSyntax.{MotionSyntax}
use Rattle.ctu_records.specs.declared.prediction.PartMode.{PartMode}
use Rattle.ctu_records.specs.declared.prediction.PartMode.TheVariants.{Whole, TwoNxN, Nx2N, NxN, TwoNxnU, TwoNxnD}
use Rattle.ctu_records.specs.declared.prediction.PartMode.TheVariants.{NLx2N, NRx2N}
use Rattle.ctu_records.specs.Prediction.{is_inside, part_block}
use Rattle.ctu_records.specs.Tree.{Ctu, added}
use Rattle.spec_cabac.specs.Bins.{Tree}
use Rattle.spec_residuals.specs.declared.block.Level.{Level}
use Rattle.spec_residuals.specs.Levels.{Residual}
use Rattle.spec_slice_data.specs.declared.syntax.ChromaFlags.{ChromaFlags}
use Rattle.spec_slice_data.specs.declared.syntax.CtuSyntax.{CtuSyntax}
use Rattle.spec_slice_data.specs.declared.syntax.PcmSyntax.{PcmSyntax}
use Rattle.spec_slice_data.specs.declared.syntax.TransformBlock.{TransformBlock}
use Rattle.spec_slice_data.specs.declared.syntax.UnitStart.{UnitStart}
use Rattle.spec_slice_data.specs.declared.syntax.UnitSyntax.{UnitSyntax}
use Rattle.spec_slice_data.specs.Inter.{last_two, later_parts, part_count, prediction_unit, unit_of_part, with_part}
use Rattle.spec_slice_data.specs.Modes.{luma_block, luma_blocks, luma_modes, luma_quarters, lower_left, lower_right}
use Rattle.spec_slice_data.specs.Modes.{upper_left, upper_right}
use Rattle.spec_slice_data.specs.Quantization.{delta_where}
use Rattle.spec_slice_data.specs.Residual.{coded, coded_block, with_level, with_residual}
use Rattle.spec_slice_data.specs.Transform.{any_coded, block_where, chroma_blocks, chroma_of, chroma_transform}
use Rattle.spec_slice_data.specs.Transform.{has_delta, luma_transform, split_or_blocks, transform, transform_blocks}
use Rattle.spec_slice_data.specs.Transform.{transform_tree, transform_unit, whole_of_fourth}
use Rattle.spec_slice_data.specs.Tree.{begun_unit, coding_unit, inter_syntax, inter_unit, intra_body, intra_syntax}
use Rattle.spec_slice_data.specs.Tree.{intra_unit, parts_and_tree, pcm_sample, pcm_samples, pcm_unit, skipped_unit}
use Rattle.spec_slice_data.specs.Tree.{unit_at as started, unit_body, unit_tree}
use Rattle.unit_laws.proofs.Bodies.{start_gives}
use Rattle.unit_laws.proofs.Formats.{Gives, after_any, give_gives, then_gives, times_gives, when_gives}
use Rattle.unit_laws.specs.Order.{is_in}
use Rattle.row_above_laws.proofs.Laying.{IsOf, IsWithin, is_predicted, predicted_append}
use Rattle.row_above_laws.proofs.Parts.{lower_left_within, lower_right_within, no_both, part_within, parts_hold}
use Rattle.row_above_laws.proofs.Parts.{same_within, upper_left_within, upper_right_within}

-- what holds of items stays with each item of a coding unit
module _ (start : UnitStart) (some : 1 ≤ start.square.log2_size) (Kept : List Item → Type 0)
    (stays : (items : List Item) (i : Item) → IsOf start.square start.intra i → Kept items → Kept (items ++ i ∷ []))
  where
    abbrev Has : Ctu → Type 0
    Has ctu = Kept ctu.items

    added_has : (ctu : Ctu) (i : Item) → IsOf start.square start.intra i → Has ctu → Has (added ctu i)
    added_has ctu i of has = stays ctu.items i of has

    levels_have : (log2 : ℕ) (levels : List Level) (ctu : Ctu) → Has ctu → Has (fold (with_level log2) ctu levels)
    levels_have log2 [] ctu has = has
    levels_have log2 (level ∷ levels) ctu has =
        levels_have log2 levels (with_level log2 ctu level) (added_has ctu (item.Level _ level.value) tt has)

    residual_has : (block : TransformBlock) (residual : Residual) (ctu : Ctu) → Has ctu
        → Has (with_residual block residual ctu)
    unfolding with_residual
    residual_has block residual ctu has =
        levels_have block.log2_size residual.levels (added ctu (item.Block (coded block residual.transform_skip)))
        (added_has ctu (item.Block (coded block residual.transform_skip)) tt has)

    module _ (syntax : CtuSyntax) where
      block_has : (unit : UnitSyntax) (there : Bool) (block : TransformBlock) (ctu : Ctu) → Has ctu
          → Gives Has (block_where syntax unit there block ctu)
      unfolding coded_block
      block_has unit there block ctu has =
          when_gives there
          (λ held. after_any (λ residual. give_gives (with_residual block residual ctu)
          (residual_has block residual ctu has)))
          (λ held. give_gives ctu has)

      chroma_has : (unit : UnitSyntax) (flags : ChromaFlags) (square : Square) (ctu : Ctu) → Has ctu
          → Gives Has (chroma_blocks syntax unit flags square ctu)
      unfolding chroma_blocks
      chroma_has unit flags square ctu has =
          then_gives (block_has unit flags.cb (chroma_transform unit 1 square) ctu has)
          (λ with_cb cb_has. block_has unit flags.cr (chroma_transform unit 2 square) with_cb cb_has)

      chroma_of_has : (unit : UnitSyntax) (flags : ChromaFlags) (square : Square) (ctu : Ctu) → Has ctu
          → Gives Has (chroma_of syntax unit flags square ctu)
      unfolding chroma_of
      chroma_of_has unit flags square ctu has =
          when_gives (square.log2_size == 0)
          (λ least. when_gives (square.x % 2 == 1 && square.y % 2 == 1)
          (λ fourth. chroma_has unit flags (whole_of_fourth square) ctu has) (λ earlier. give_gives ctu has))
          (λ greater. chroma_has unit flags square ctu has)

      delta_has : (square : Square) (there : Bool) (ctu : Ctu) → IsWithin square start.square → Has ctu
          → Gives Has (delta_where syntax square there ctu)
      unfolding delta_where
      delta_has square there ctu within has =
          when_gives there (λ held. after_any (λ delta. give_gives _ (added_has ctu (item.Delta _) within has)))
          (λ held. give_gives ctu has)

      blocks_have : (unit : UnitSyntax) (cbf_luma : Bool) (flags : ChromaFlags) (square : Square) (ctu : Ctu)
          → IsWithin unit.square start.square → Has ctu
          → Gives Has (transform_blocks syntax unit cbf_luma flags square ctu)
      unfolding transform_blocks
      blocks_have unit cbf_luma flags square ctu within has =
          then_gives (delta_has unit.square (has_delta syntax (any_coded cbf_luma flags) ctu) ctu within has)
          (λ quantized quantized_has.
          then_gives (block_has unit cbf_luma (luma_transform square quantized) quantized quantized_has)
          (λ with_luma luma_has. chroma_of_has unit flags square with_luma luma_has))

      transform_has : (unit : UnitSyntax) (flags : ChromaFlags) (depth : ℕ) (square : Square) (ctu : Ctu)
          → IsWithin unit.square start.square → Has ctu
          → Gives Has (transform_unit syntax unit flags depth square ctu)
      unfolding transform_unit
      transform_has unit flags depth square ctu within has =
          after_any (λ cbf_luma. blocks_have unit cbf_luma flags square
          (added ctu (item.Transform (transform square depth cbf_luma flags))) within
          (added_has ctu (item.Transform (transform square depth cbf_luma flags)) tt has))

      split_has : (quarter : ChromaFlags → Square → Ctu → Tree Ctu)
          → ((flags : ChromaFlags) (s : Square) (c : Ctu) → Has c → Gives Has (quarter flags s c))
          → (unit : UnitSyntax) (above : ChromaFlags) (depth : ℕ) (square : Square) (ctu : Ctu)
          → IsWithin unit.square start.square → Has ctu
          → Gives Has (split_or_blocks quarter syntax unit above depth square ctu)
      split_has quarter each unit above depth square ctu within has =
          after_any (λ split. after_any (λ flags. when_gives split
          (λ held.
          then_gives (each flags (upper_left square) ctu has) (λ first first_has.
          then_gives (each flags (upper_right square) first first_has) (λ second second_has.
          then_gives (each flags (lower_left square) second second_has) (λ third third_has.
          each flags (lower_right square) third third_has))))
          (λ held. transform_has unit flags depth square ctu within has)))

      tree_has : (unit : UnitSyntax) (above : ChromaFlags) (n depth : ℕ) (square : Square) (ctu : Ctu)
          → IsWithin unit.square start.square → Has ctu
          → Gives Has (transform_tree syntax unit above n depth square ctu)
      unfolding transform_tree
      tree_has unit above zero depth square ctu within has = transform_has unit above depth square ctu within has
      tree_has unit above (suc n) depth square ctu within has =
          split_has (λ flags. transform_tree syntax unit flags n (depth + 1))
          (λ flags s c. tree_has unit flags n (depth + 1) s c within) unit above depth square ctu within has

      unit_tree_has : (unit : UnitSyntax) (ctu : Ctu) → IsWithin unit.square start.square → Has ctu
          → Gives Has (unit_tree syntax unit ctu)
      unit_tree_has unit ctu within has =
          tree_has unit (record { cb = true; cr = true }) unit.square.log2_size 0 unit.square ctu within has

    mode_has : (square : Square) (most_probable : Bool) (ctu : Ctu) → IsWithin square start.square → Has ctu
        → Gives Has (luma_block square most_probable ctu)
    unfolding luma_block
    mode_has square most_probable ctu within has =
        after_any (λ mode. give_gives _ (added_has ctu (item.Luma _) within has))

    modes_have : (split : Bool) (ctu : Ctu) → Has ctu → Gives Has (luma_modes split start.square ctu)
    unfolding luma_quarters luma_blocks
    modes_have split ctu has =
        let s = start.square in
        when_gives split
        (λ held. after_any (λ flag_0. after_any (λ flag_1. after_any (λ flag_2. after_any (λ flag_3.
        then_gives (mode_has (upper_left s) flag_0 ctu (upper_left_within s some) has) (λ first first_has.
        then_gives (mode_has (upper_right s) flag_1 first (upper_right_within s some) first_has) (λ second second_has.
        then_gives (mode_has (lower_left s) flag_2 second (lower_left_within s some) second_has) (λ third third_has.
        mode_has (lower_right s) flag_3 third (lower_right_within s some) third_has))))))))
        (λ held. after_any (λ most_probable. mode_has s most_probable ctu (same_within s) has))

    samples_have : (bits count : ℕ) (ctu : Ctu) → Has ctu → Gives Has (pcm_samples bits count ctu)
    samples_have bits count ctu has =
        times_gives (pcm_sample bits)
        (λ i c c_has. after_any (λ value. give_gives _ (added_has c (item.Sample value) tt c_has))) 0 count ctu has

    pcm_has : (pcm : PcmSyntax) (square : Square) (ctu : Ctu) → Has ctu → Gives Has (pcm_unit pcm square ctu)
    unfolding pcm_unit
    pcm_has pcm square ctu has =
        let first = added_has ctu (item.Pcm square) tt has in
        after_any (λ began.
        then_gives (samples_have pcm.luma_bits (16 * 4 ^ square.log2_size) (added ctu (item.Pcm square)) first)
        (λ luma luma_has.
        then_gives (samples_have pcm.chroma_bits (8 * 4 ^ square.log2_size) luma luma_has) (λ chroma chroma_has.
        after_any (λ ended. give_gives chroma chroma_has))))

    module _ (syntax : CtuSyntax) where
      intra_has : (split : Bool) (ctu : Ctu) → Has ctu → Gives Has (intra_unit syntax start split ctu)
      unfolding intra_unit
      intra_has split ctu has =
          then_gives (modes_have split ctu has) (λ predicted predicted_has.
          after_any (λ mode. unit_tree_has syntax (intra_syntax start split mode) (added predicted (item.Chroma mode))
          (same_within start.square) (added_has predicted (item.Chroma mode) tt predicted_has)))

      body_has : (ctu : Ctu) → Has ctu → Gives Has (intra_body syntax start ctu)
      unfolding intra_body
      body_has ctu has =
          after_any (λ split. after_any (λ pcm. when_gives pcm
          (λ is. pcm_has syntax.pcm start.square ctu has)
          (λ other. intra_has split ctu has)))

      -- the parts of one in inter mode
      module _ (inter : start.intra ≡ false) (mode : PartMode) where
        part_has : (part : ℕ) (told : MotionSyntax) (ctu : Ctu) → part < 4 → Has ctu
            → Has (with_part start.square mode part told ctu)
        part_has part told ctu few has =
            added_has ctu (item.Prediction (unit_of_part start.square mode part told))
            (inter, part_within start.square mode part few) has

        prediction_has : (part : ℕ) (ctu : Ctu) → part < 4 → Has ctu
            → Gives Has (prediction_unit syntax.inter start mode part ctu)
        unfolding prediction_unit
        prediction_has part ctu few has =
            after_any (λ told. give_gives _ (part_has part told ctu few has))

        parts_have : (ctu : Ctu) → Has ctu → Gives Has (later_parts syntax.inter start mode ctu)
        unfolding later_parts last_two
        parts_have ctu has =
            when_gives (part_count mode == 1) (λ held. give_gives ctu has)
            (λ held. then_gives (prediction_has 1 ctu (omega arith) has) (λ second second_has.
            when_gives (part_count mode == 4)
            (λ four. then_gives (prediction_has 2 second (omega arith) second_has)
            (λ third third_has. prediction_has 3 third (omega arith) third_has))
            (λ two. give_gives second second_has)))

-- ---- places that prediction units have

module _ (s : Square) (some : 1 ≤ s.log2_size) where
  abbrev Covers : PartMode → ℕ → List Item → Type 0
  Covers mode part items = (i j : ℕ) → is_inside (part_block s mode part) i j ≡ true → is_predicted items i j ≡ true

  abbrev pub AreCovered : List Item → Type 0
  AreCovered items = (i j : ℕ) → is_in s i j ≡ true → is_predicted items i j ≡ true

  pub covered_more : (items : List Item) (i : Item) → AreCovered items → AreCovered (items ++ i ∷ [])
  covered_more items i are x y held =
      predicted_append items (i ∷ []) x y ∙ or_left (is_predicted items x y) _ (are x y held)

  covers_more : (mode : PartMode) (part : ℕ) (items : List Item) (i : Item) → Covers mode part items
      → Covers mode part (items ++ i ∷ [])
  covers_more mode part items i covers x y held =
      predicted_append items (i ∷ []) x y ∙ or_left (is_predicted items x y) _ (covers x y held)

  covers_new : (mode : PartMode) (part : ℕ) (told : MotionSyntax) (items : List Item)
      → Covers mode part (items ++ item.Prediction (unit_of_part s mode part told) ∷ [])
  covers_new mode part told items x y held =
      predicted_append items (item.Prediction (unit_of_part s mode part told) ∷ []) x y
      ∙ or_right (is_predicted items x y) _ (or_left (is_inside (part_block s mode part) x y) false held)

  module _ (mode : PartMode) (items : List Item) where
    abbrev Covering : ℕ → Type 0
    Covering part = Covers mode part items

    covered : ((part : ℕ) → part < part_count mode → Covering part) → AreCovered items
    covered each = parts_hold s some (λ i j. is_predicted items i j ≡ true) mode each

    of_one : Covering 0 → (part : ℕ) → part < 1 → Covering part
    of_one first zero few = first
    of_one first (suc k) few = absurd (omega (arith, few))

    of_two : Covering 0 → Covering 1 → (part : ℕ) → part < 2 → Covering part
    of_two first second zero few = first
    of_two first second (suc zero) few = second
    of_two first second (suc (suc k)) few = absurd (omega (arith, few))

    of_four : Covering 0 → Covering 1 → Covering 2 → Covering 3 → (part : ℕ) → part < 4 → Covering part
    of_four first second third fourth zero few = first
    of_four first second third fourth (suc zero) few = second
    of_four first second third fourth (suc (suc zero)) few = third
    of_four first second third fourth (suc (suc (suc zero))) few = fourth
    of_four first second third fourth (suc (suc (suc (suc k)))) few = absurd (omega (arith, few))

  two_or : (mode : PartMode) → (part_count mode ≡ 1 → ⊥) → (part_count mode ≡ 4 → ⊥) → part_count mode ≡ 2
  unfolding part_count
  two_or Whole not_one not_four = absurd (not_one refl)
  two_or TwoNxN not_one not_four = refl
  two_or Nx2N not_one not_four = refl
  two_or NxN not_one not_four = absurd (not_four refl)
  two_or TwoNxnU not_one not_four = refl
  two_or TwoNxnD not_one not_four = refl
  two_or NLx2N not_one not_four = refl
  two_or NRx2N not_one not_four = refl

whole_one : part_count Whole ≡ 1
unfolding part_count
whole_one = refl

-- the parts behind the first one
module _ (syntax : CtuSyntax) (start : UnitStart) (some : 1 ≤ start.square.log2_size) (mode : PartMode) where
  abbrev s : Square
  s = start.square

  abbrev Two : Ctu → Type 0
  Two ctu = Covers s some mode 0 ctu.items × Covers s some mode 1 ctu.items

  abbrev Three : Ctu → Type 0
  Three ctu = Two ctu × Covers s some mode 2 ctu.items

  abbrev All_four : Ctu → Type 0
  All_four ctu = Three ctu × Covers s some mode 3 ctu.items

  abbrev Item_of : ℕ → MotionSyntax → Item
  Item_of part told = item.Prediction (unit_of_part s mode part told)

  second_gives : (ctu : Ctu) → Covers s some mode 0 ctu.items
      → Gives Two (prediction_unit syntax.inter start mode 1 ctu)
  unfolding prediction_unit
  second_gives ctu first =
      after_any (λ told. give_gives _ (
        covers_more s some mode 0 ctu.items (Item_of 1 told) first,
        covers_new s some mode 1 told ctu.items,
      ))

  third_gives : (ctu : Ctu) → Two ctu → Gives Three (prediction_unit syntax.inter start mode 2 ctu)
  unfolding prediction_unit
  third_gives ctu two =
      after_any (λ told. give_gives _ (
        (
          covers_more s some mode 0 ctu.items (Item_of 2 told) two.0,
          covers_more s some mode 1 ctu.items (Item_of 2 told) two.1,
        ),
        covers_new s some mode 2 told ctu.items,
      ))

  fourth_gives : (ctu : Ctu) → Three ctu → Gives All_four (prediction_unit syntax.inter start mode 3 ctu)
  unfolding prediction_unit
  fourth_gives ctu three =
      after_any (λ told. give_gives _ (
        (
          (
            covers_more s some mode 0 ctu.items (Item_of 3 told) three.0.0,
            covers_more s some mode 1 ctu.items (Item_of 3 told) three.0.1,
          ),
          covers_more s some mode 2 ctu.items (Item_of 3 told) three.1,
        ),
        covers_new s some mode 3 told ctu.items,
      ))

  abbrev Covered : Ctu → Type 0
  Covered ctu = AreCovered s some ctu.items

  four_covered : (ctu : Ctu) → part_count mode ≡ 4 → All_four ctu → Covered ctu
  four_covered ctu four all =
      covered s some mode ctu.items (λ part few.
      of_four s some mode ctu.items all.0.0.0 all.0.0.1 all.0.1 all.1 part (omega (arith, few, four)))

  two_covered : (ctu : Ctu) → part_count mode ≡ 2 → Two ctu → Covered ctu
  two_covered ctu two all =
      covered s some mode ctu.items (λ part few.
      of_two s some mode ctu.items all.0 all.1 part (omega (arith, few, two)))

  one_covered : (ctu : Ctu) → part_count mode ≡ 1 → Covers s some mode 0 ctu.items → Covered ctu
  one_covered ctu one first =
      covered s some mode ctu.items (λ part few. of_one s some mode ctu.items first part (omega (arith, few, one)))

  weaker : {P Q : Ctu → Type 0} {m : Tree Ctu} → Gives P m → ((c : Ctu) → P c → Q c) → Gives Q m
  weaker gives less = record { gives = λ u v x e. less x (gives.gives u v x e) }

  later_covered : (ctu : Ctu) → Covers s some mode 0 ctu.items
      → Gives Covered (later_parts syntax.inter start mode ctu)
  unfolding later_parts last_two
  later_covered ctu first =
      when_gives (part_count mode == 1)
      (λ held. give_gives ctu (one_covered ctu (eqb-true (part_count mode) 1 held) first))
      (λ not_one. then_gives (second_gives ctu first) (λ second two.
      when_gives (part_count mode == 4)
      (λ held. then_gives (third_gives second two) (λ third three.
      weaker (fourth_gives third three) (λ c all. four_covered c (eqb-true (part_count mode) 4 held) all)))
      (λ not_four. give_gives second (two_covered second
      (two_or s some mode (eqb-false (part_count mode) 1 not_one) (eqb-false (part_count mode) 4 not_four)) two))))

-- ---- a coding unit as a whole

-- items that were read behind others, of one coding unit
pub record AreTold (square : Square) (intra : Bool) (before items : List Item) : Type 0 where
  pub body : List Item
  pub is : items ≡ before ++ body
  pub each : All (IsOf square intra) body

told_more : (square : Square) (intra : Bool) (before items : List Item) (i : Item) → IsOf square intra i
    → AreTold square intra before items → AreTold square intra before (items ++ i ∷ [])
told_more square intra before items i of told = record {
  body = told.body ++ i ∷ [];
  is = ap (λ xs. xs ++ i ∷ []) told.is ∙ append_assoc before told.body (i ∷ []);
  each =
      All-append (IsOf square intra) told.body (i ∷ []) told.each
      (All-cons (IsOf square intra) i [] of (All-nil (IsOf square intra)));
}

both_give : {P Q : Ctu → Type 0} {m : Tree Ctu} → Gives P m → Gives Q m → Gives (λ c. P c × Q c) m
both_give first second = record { gives = λ u v x e. (first.gives u v x e, second.gives u v x e) }

module _ (syntax : CtuSyntax) (start : UnitStart) (some : 1 ≤ start.square.log2_size) (before : List Item) where
  abbrev Told : List Item → Type 0
  Told items = AreTold start.square start.intra before items

  abbrev Both : List Item → Type 0
  Both items = Told items × AreCovered start.square some items

  told_stays : (items : List Item) (i : Item) → IsOf start.square start.intra i → Told items → Told (items ++ i ∷ [])
  told_stays items i of told = told_more start.square start.intra before items i of told

  both_stay : (items : List Item) (i : Item) → IsOf start.square start.intra i → Both items → Both (items ++ i ∷ [])
  both_stay items i of both = (told_stays items i of both.0, covered_more start.square some items i both.1)

  -- in inter mode all places are predicted
  abbrev Whole_told : Ctu → Type 0
  Whole_told ctu = Told ctu.items × (start.intra ≡ false → AreCovered start.square some ctu.items)

  intra_told : (ctu : Ctu) → start.intra ≡ true → Told ctu.items → Gives Whole_told (intra_body syntax start ctu)
  intra_told ctu intra told =
      weaker syntax start some Whole (body_has start some Told told_stays syntax ctu told)
      (λ c has. (has, λ inter. absurd (no_both start.intra intra inter)))

  skipped_told : (ctu : Ctu) → start.intra ≡ false → Told ctu.items → Gives Whole_told (skipped_unit syntax start ctu)
  unfolding skipped_unit
  skipped_told ctu inter told =
      after_any (λ motion. give_gives _ (
        part_has start some Told told_stays syntax inter Whole 0 motion ctu (omega arith) told,
        λ e. one_covered syntax start some Whole (with_part start.square Whole 0 motion ctu) whole_one
            (covers_new start.square some Whole 0 motion ctu.items),
      ))

  inter_told : (ctu : Ctu) → start.intra ≡ false → Told ctu.items → Gives Whole_told (inter_unit syntax start ctu)
  unfolding inter_unit parts_and_tree
  inter_told ctu inter told =
      after_any (λ mode. after_any (λ first.
      let begun : Ctu = with_part start.square mode 0 first ctu in
      then_gives
      (both_give
      (parts_have start some Told told_stays syntax inter mode begun
      (part_has start some Told told_stays syntax inter mode 0 first ctu (omega arith) told))
      (later_covered syntax start some mode begun (covers_new start.square some mode 0 first ctu.items)))
      (λ predicted both. after_any (λ coded. when_gives coded
      (λ held. weaker syntax start some mode
      (unit_tree_has start some Both both_stay syntax (inter_syntax syntax start mode) predicted
      (same_within start.square) both)
      (λ c all. (all.0, λ e. all.1)))
      (λ held. give_gives predicted (both.0, λ e. both.1))))))

  body_told : (ctu : Ctu) → Told ctu.items → Gives Whole_told (unit_body syntax start ctu)
  body_told ctu told =
      when_gives start.intra (λ intra. intra_told ctu intra told)
      (λ inter. when_gives start.skipped (λ held. skipped_told ctu inter told) (λ held. inter_told ctu inter told))

-- one more coding unit, of this square: in inter mode its places are predicted
pub record IsUnitMore (before : List Item) (square : Square) (items : List Item) : Type 0 where
  pub unit : CodingUnit
  pub here : unit.square ≡ square
  pub body : List Item
  pub is : items ≡ before ++ item.Unit unit ∷ body
  pub each : All (IsOf unit.square unit.intra) body
  pub covered : unit.intra ≡ false → (i j : ℕ) → is_in unit.square i j ≡ true → is_predicted items i j ≡ true

pub unit_more : (syntax : CtuSyntax) (depth : ℕ) (square : Square) (ctu : Ctu) → 1 ≤ square.log2_size
    → Gives (λ (read : Ctu). IsUnitMore ctu.items square read.items) (coding_unit syntax depth square ctu)
unfolding coding_unit begun_unit
unit_more syntax depth square ctu some =
    then_gives (start_gives syntax depth square ctu) (λ start is.
    let unit : CodingUnit = started start ctu in
    let size : 1 ≤ start.square.log2_size =
    omega (arith, some, ap (λ (q : Square). q.log2_size) is) in
    let begun : List Item = ctu.items ++ item.Unit unit ∷ [] in
    weaker syntax start size Whole
    (body_told syntax start size begun (begun_unit start ctu) (record {
      body = [];
      is = sym (append_nothing begun);
      each = All-nil (IsOf start.square start.intra);
    }))
    (λ c all. record {
      unit = unit;
      here = is;
      body = all.0.body;
      is = all.0.is ∙ append_assoc ctu.items (item.Unit unit ∷ []) all.0.body;
      each = all.0.each;
      covered = all.1;
    }))
  where
    append_nothing : (xs : List Item) → xs ++ [] ≡ xs
    append_nothing [] = refl
    append_nothing (x ∷ xs) = ap (λ ys. x ∷ ys) (append_nothing xs)
