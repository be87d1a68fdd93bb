-- A coding tree unit that is read is kept.
use Rattle.std.proofs.Common.{◌≡◌, ℕ, zero, suc, ◌+◌, ◌-◌, ◌*◌, ◌^◌, ◌<◌, ◌≤◌, Bool, true, false, refl, sym, subst}
use Rattle.std.proofs.Common.{arith}
use Rattle.std.specs.Prelude.{◌==◌, ◌&&◌, not, nat_le, nat_lt}
use Rattle.std.proofs.lemmas.Bool.{and_parts, leb-true, ltb-true, eqb-false}
use Rattle.ctu_records.specs.declared.item.Item.TheVariants.{Chroma, Pcm}
use Rattle.ctu_records.specs.declared.item.Square.{Square}
use Rattle.ctu_records.specs.declared.offset.Sao.{Sao}
use Rattle.ctu_records.specs.declared.prediction.PartMode.{PartMode}
use Rattle.ctu_records.specs.declared.prediction.PartMode.TheVariants.{Whole}
use Rattle.ctu_records.specs.Prediction.{part_block}
use Rattle.ctu_records.specs.Tree.{Ctu, IsPlaced, added, with_sao}
use Rattle.spec_cabac.specs.Bins.{Tree}
use Rattle.spec_picture_build.specs.SpecReconstruction.{UnitFormat}
use Rattle.spec_picture_build.specs.SpecReconstruction.{IsSquare}
use Rattle.spec_slice_data.specs.declared.syntax.CtuSyntax.{CtuSyntax}
use Rattle.spec_slice_data.specs.declared.syntax.End.{End}
use Rattle.spec_slice_data.specs.declared.syntax.UnitStart.{UnitStart}
use Rattle.spec_slice_data.specs.declared.syntax.UnitSyntax.{UnitSyntax}
use Rattle.spec_slice_data.specs.Inter.{with_part}
use Rattle.spec_slice_data.specs.Modes.{upper_left, upper_right, lower_left, lower_right}
use Rattle.spec_slice_data.specs.Quantization.{grouped}
use Rattle.spec_slice_data.specs.Tree.{pcm_unit, pcm_flag, split_cu_flag, begun_unit, unit_tree, intra_syntax}
use Rattle.spec_slice_data.specs.Tree.{intra_unit, intra_body, skipped_unit, inter_syntax, parts_and_tree, inter_unit}
use Rattle.spec_slice_data.specs.Tree.{unit_body, unit_start, coding_unit, split_or_unit, where_reached}
use Rattle.spec_slice_data.specs.Tree.{coding_quadtree, whole_unit, coding_tree_unit, unit_and_end}
use Rattle.unit_laws.proofs.Formats.{Gives, give_gives, then_gives, after_any, always, when_gives}
use Rattle.unit_laws.proofs.Items.{IsKept, added_read, read_of, added_kept, sao_kept}
use Rattle.unit_laws.proofs.Modes.{luma_modes_kept, chroma_modes-gives}
use Rattle.unit_laws.proofs.Predictions.{FitsInter, FitsIn, part_mode_gives, merged_gives, motion_gives}
use Rattle.unit_laws.proofs.Predictions.{some_parts, part_kept, later_kept}
use Rattle.unit_laws.proofs.Pulses.{samples_run, pulses_kept}
use Rattle.unit_laws.proofs.Quantization.{grouped_kept, begun_kept}
use Rattle.unit_laws.proofs.Squares.{IsInside, whole_inside, upper_left_inside, upper_right_inside}
use Rattle.unit_laws.proofs.Squares.{lower_left_inside, lower_right_inside, square_inside}
use Rattle.unit_laws.proofs.Transforms.{transform_tree_kept}

-- transform blocks of up to 32x32, and pulse code modulation of 8x8 to 32x32
pub record Fits (format : UnitFormat) (syntax : CtuSyntax) : Type 0 where
  pub transform : syntax.log2_max_transform ≤ 3
  pub luma_pulses : syntax.pcm.luma_bits ≡ format.pcm_luma_bits
  pub chroma_pulses : syntax.pcm.chroma_bits ≡ format.pcm_chroma_bits
  pub least : syntax.pcm.enabled ≡ true → 1 ≤ syntax.pcm.log2_least
  pub greatest : syntax.pcm.log2_greatest ≤ 3
  pub coding : 1 ≤ syntax.log2_min_coding
  pub inter : FitsInter syntax.inter

-- the sizes of pulse code modulation
abbrev IsPcmSize : ℕ → Bool → Type 0
IsPcmSize n pcm = pcm ≡ true → (1 ≤ n) × (n ≤ 3)

module _ (format : UnitFormat) (syntax : CtuSyntax) (fits : Fits format syntax) where
  abbrev Kept : Ctu → Type 0
  Kept = IsKept format (51 + syntax.qp_offset)

  pcm_kept : (square : Square) (ctu : Ctu) → IsSquare square → 1 ≤ square.log2_size → Kept ctu
      → Gives Kept (pcm_unit syntax.pcm square ctu)
  unfolding pcm_unit
  pcm_kept square ctu inside some kept =
      let greatest = 51 + syntax.qp_offset in
      after_any (λ began.
      then_gives (samples_run format greatest syntax.pcm.luma_bits (16 * 4 ^ square.log2_size) (added ctu (Pcm square))
      (added_read format greatest ctu (Pcm square) (read_of format greatest ctu kept) (inside, some) tt tt))
      (λ luma first.
      then_gives (samples_run format greatest syntax.pcm.chroma_bits (8 * 4 ^ square.log2_size) luma
      first.read)
      (λ chroma second.
      after_any (λ ended. give_gives chroma
      (pulses_kept format greatest square ctu luma chroma syntax.pcm.luma_bits syntax.pcm.chroma_bits kept
      fits.luma_pulses fits.chroma_pulses first second)))))

  pcm_flag-gives : (split : Bool) (n : ℕ) → Gives (IsPcmSize n) (pcm_flag syntax.pcm split n)
  pcm_flag-gives split n =
      let pcm = syntax.pcm in
      when_gives ((pcm.enabled && not split) && (nat_le pcm.log2_least n && nat_le n pcm.log2_greatest))
      (λ held. always _ (λ flag set.
      let parts = and_parts (pcm.enabled && not split) _ held in
      let sizes = and_parts (nat_le pcm.log2_least n) _ parts.1 in
      let least = fits.least (and_parts pcm.enabled _ parts.0).0 in
      let above = leb-true pcm.log2_least n sizes.0 in
      let below = leb-true n pcm.log2_greatest sizes.1 in
      (omega (arith, least, above), omega (arith, below, fits.greatest))))
      (λ held. give_gives false (λ set. absurd cc))

  square_placed : (n : ℕ) (square : Square) → IsInside n square → IsInside square.log2_size square
  square_placed n square inside = record {
    size = refl;
    x = subst (λ k. square.x + 2 ^ k ≤ 16) (sym inside.size) inside.x;
    y = subst (λ k. square.y + 2 ^ k ≤ 16) (sym inside.size) inside.y;
  }

  tree_kept : (n : ℕ) (unit : UnitSyntax) (ctu : Ctu) → IsInside n unit.square → Kept ctu
      → Gives Kept (unit_tree syntax unit ctu)
  tree_kept n unit ctu inside kept =
      transform_tree_kept format syntax fits.transform unit (record { cb = true; cr = true }) unit.square.log2_size 0
      unit.square ctu (square_placed n unit.square inside) kept

  intra_kept : (n : ℕ) (start : UnitStart) (split : Bool) (ctu : Ctu) → IsInside n start.square → Kept ctu
      → Gives Kept (intra_unit syntax start split ctu)
  unfolding intra_unit
  intra_kept n start split ctu inside kept =
      then_gives (luma_modes_kept format (51 + syntax.qp_offset) split start.square ctu kept)
      (λ predicted predicted_kept.
      then_gives
      (chroma_modes-gives format (51 + syntax.qp_offset) start.square.x start.square.y predicted predicted_kept)
      (λ mode small.
      tree_kept n (intra_syntax start split mode) (added predicted (Chroma mode)) inside
      (added_kept format (51 + syntax.qp_offset) predicted (Chroma mode) predicted_kept small tt tt tt)))

  intra_body_kept : (n : ℕ) (start : UnitStart) (ctu : Ctu) → IsInside n start.square → Kept ctu
      → Gives Kept (intra_body syntax start ctu)
  unfolding intra_body
  intra_body_kept n start ctu inside kept =
      after_any (λ split. then_gives (pcm_flag-gives split start.square.log2_size) (λ pcm sizes. when_gives pcm
      (λ held. pcm_kept start.square ctu (square_inside n start.square inside (sizes held).1) (sizes held).0 kept)
      (λ held. intra_kept n start split ctu inside kept)))

  -- a coding unit that isn't smaller than a least one
  module _ (n : ℕ) (start : UnitStart) (inside : IsInside n start.square) (most : n ≤ 4)
      (least : syntax.log2_min_coding ≤ n) where
    placed : IsPlaced start.square
    placed =
        let same = square_placed n start.square inside in
        record { size = omega (arith, inside.size, most); x = same.x; y = same.y }

    some : 1 ≤ start.square.log2_size
    some = omega (arith, inside.size, least, fits.coding)

    skipped_kept : (ctu : Ctu) → Kept ctu → Gives Kept (skipped_unit syntax start ctu)
    unfolding skipped_unit
    skipped_kept ctu kept =
        then_gives (merged_gives syntax.inter fits.inter) (λ told is.
        give_gives _
        (part_kept format (51 + syntax.qp_offset) syntax.inter fits.inter start placed Whole some 0 told ctu
        (some_parts Whole) is kept))

    parts_kept : (mode : PartMode) (ctu : Ctu) → FitsIn start.square.log2_size mode → Kept ctu
        → Gives Kept (parts_and_tree syntax start mode ctu)
    unfolding parts_and_tree
    parts_kept mode ctu size kept =
        then_gives (motion_gives syntax.inter fits.inter start.depth (part_block start.square mode 0)) (λ first is.
        then_gives (later_kept format (51 + syntax.qp_offset) syntax.inter fits.inter start placed mode size
        (with_part start.square mode 0 first ctu)
        (part_kept format (51 + syntax.qp_offset) syntax.inter fits.inter start placed mode size 0 first ctu
        (some_parts mode) is kept))
        (λ predicted predicted_kept.
        after_any (λ coded. when_gives coded
        (λ held. tree_kept n (inter_syntax syntax start mode) predicted inside predicted_kept)
        (λ held. give_gives predicted predicted_kept))))

    inter_kept : (ctu : Ctu) → Kept ctu → Gives Kept (inter_unit syntax start ctu)
    unfolding inter_unit
    inter_kept ctu kept =
        let more : (start.square.log2_size == syntax.log2_min_coding) ≡ false → 2 ≤ start.square.log2_size = λ e.
        let other = eqb-false start.square.log2_size syntax.log2_min_coding e in
        omega (arith, other, inside.size, least, fits.coding) in
        then_gives (part_mode_gives syntax.inter (start.square.log2_size == syntax.log2_min_coding)
        start.square.log2_size some more)
        (λ mode size. parts_kept mode ctu size kept)

    body_kept : (ctu : Ctu) → Kept ctu → Gives Kept (unit_body syntax start ctu)
    body_kept ctu kept =
        when_gives start.intra (λ held. intra_body_kept n start ctu inside kept)
        (λ held. when_gives start.skipped (λ skipped. skipped_kept ctu kept) (λ coded. inter_kept ctu kept))

  start_gives : (depth : ℕ) (square : Square) (ctu : Ctu)
      → Gives (λ (start : UnitStart). start.square ≡ square) (unit_start syntax depth square ctu)
  unfolding unit_start
  start_gives depth square ctu =
      after_any (λ transquant_bypass. after_any (λ skipped. after_any (λ intra. give_gives _ refl)))

  unit_kept : (n depth : ℕ) (square : Square) (ctu : Ctu) → IsInside n square → n ≤ 4 → syntax.log2_min_coding ≤ n
      → Kept ctu → Gives Kept (coding_unit syntax depth square ctu)
  unfolding coding_unit
  unit_kept n depth square ctu inside most least kept =
      then_gives (start_gives depth square ctu) (λ start same.
      body_kept n start (subst (λ s. IsInside n s) (sym same) inside) most least (begun_unit start ctu)
      (begun_kept format (51 + syntax.qp_offset) start ctu kept))

  -- only a block that is greater than a least coding unit is split
  split_gives : (depth : ℕ) (square : Square) (ctu : Ctu)
      → Gives (λ split. split ≡ true → syntax.log2_min_coding < square.log2_size)
      (split_cu_flag syntax depth square ctu)
  unfolding split_cu_flag
  split_gives depth square ctu =
      when_gives (nat_lt syntax.log2_min_coding square.log2_size)
      (λ held. always _ (λ split e. ltb-true syntax.log2_min_coding square.log2_size held))
      (λ held. give_gives false (λ e. absurd cc))

  split_kept : (n : ℕ) (quarter : Square → Ctu → Tree Ctu)
      → (syntax.log2_min_coding ≤ n → (s : Square) (c : Ctu) → IsInside n s → Kept c → Gives Kept (quarter s c))
      → (depth : ℕ) (square : Square) (ctu : Ctu) → IsInside (suc n) square → suc n ≤ 4 → syntax.log2_min_coding ≤ suc n
      → Kept ctu → Gives Kept (split_or_unit syntax quarter depth square ctu)
  split_kept n quarter each depth square ctu inside most least kept =
      then_gives (split_gives depth square ctu) (λ split greater. when_gives split
      (λ held.
      let above = greater held in
      let less : syntax.log2_min_coding ≤ n = omega (arith, above, inside.size) in
      then_gives (each less (upper_left square) ctu (upper_left_inside n square inside) kept) (λ first first_kept.
      then_gives (each less (upper_right square) first (upper_right_inside n square inside) first_kept)
      (λ second second_kept.
      then_gives (each less (lower_left square) second (lower_left_inside n square inside) second_kept)
      (λ third third_kept.
      each less (lower_right square) third (lower_right_inside n square inside) third_kept))))
      (λ held. unit_kept (suc n) depth square ctu inside most least kept))

  reached_kept : (square : Square) (ctu : Ctu) (tree : Tree Ctu) → Kept ctu → Gives Kept tree
      → Gives Kept (where_reached syntax square ctu tree)
  reached_kept square ctu tree kept gives =
      when_gives (nat_lt square.x syntax.right && nat_lt square.y syntax.lower) (λ held. gives)
      (λ held. give_gives ctu kept)

  quadtree_kept : (n depth : ℕ) (square : Square) (ctu : Ctu) → IsInside n square → n ≤ 4 → syntax.log2_min_coding ≤ n
      → Kept ctu → Gives Kept (coding_quadtree syntax n depth square ctu)
  unfolding coding_quadtree
  quadtree_kept zero depth square ctu inside most least kept =
      reached_kept square ctu _ kept
      (unit_kept zero depth square (grouped syntax square ctu) inside most least
      (grouped_kept format (51 + syntax.qp_offset) syntax square ctu kept))
  quadtree_kept (suc n) depth square ctu inside most least kept =
      reached_kept square ctu _ kept
      (split_kept n (coding_quadtree syntax n (depth + 1))
      (λ less s c i k. quadtree_kept n (depth + 1) s c i (omega (arith, most)) less k) depth square
      (grouped syntax square ctu) inside most least
      (grouped_kept format (51 + syntax.qp_offset) syntax square ctu kept))

  tree_unit_kept : (left above : Sao) (ctu : Ctu) → ctu.size ≤ 4 → syntax.log2_min_coding ≤ ctu.size → Kept ctu
      → Gives Kept (coding_tree_unit syntax left above ctu)
  unfolding coding_tree_unit
  tree_unit_kept left above ctu small least kept =
      after_any (λ offsets.
      quadtree_kept ctu.size 0 (whole_unit ctu.size) (with_sao ctu offsets) (whole_inside ctu.size small) small least
      (sao_kept format (51 + syntax.qp_offset) ctu offsets kept))

  -- a unit and what follows it
  pub unit_and_end_kept : (left above : Sao) (is_last ends_subset : Bool) (ctu : Ctu) → ctu.size ≤ 4
      → syntax.log2_min_coding ≤ ctu.size → IsKept format (51 + syntax.qp_offset) ctu
      → Gives (λ (read : Ctu × End). IsKept format (51 + syntax.qp_offset) read.0)
      (unit_and_end syntax left above is_last ends_subset ctu)
  unfolding unit_and_end
  unit_and_end_kept left above is_last ends_subset ctu small least kept =
      then_gives (tree_unit_kept left above ctu small least kept)
      (λ read read_kept. after_any (λ follows. give_gives (read, follows) read_kept))
