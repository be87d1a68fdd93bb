-- What is read of a coding tree unit fits its words: depths of coding units, vectors, and sample adaptive offset.
use Rattle.std.proofs.Common.{◌≡◌, ℕ, zero, suc, ◌+◌, ◌-◌, ◌*◌, ◌%◌, ◌^◌, ◌<◌, ◌≤◌, ◌==◌, ◌&&◌, not, Bool, true}
use Rattle.std.proofs.Common.{false}
use Rattle.std.proofs.Common.{List, [], ◌∷◌, All, Option, Some, None, cond, nat_le, nat_lt, refl, sym, ap, subst}
use Rattle.std.proofs.Common.{arith, ◌∙◌}
use Rattle.std.specs.Prelude.{⊤}
use Rattle.std.specs.List.{fold}
use Rattle.std.proofs.lemmas.Bool.{eqb-true, ltb-true}
use Rattle.std.proofs.lemmas.List.Elements.{All-append, All-cons, All-head, All-nil, All-tail}
use Rattle.ctu_records.specs.declared.item.CodingPlace.{CodingPlace}
use Rattle.ctu_records.specs.declared.item.Item.{Item}
use Rattle.ctu_records.specs.declared.item.Item.TheVariants as item
use Rattle.ctu_records.specs.declared.item.Square.{Square}
use Rattle.ctu_records.specs.declared.offset.Sao.{Sao}
use Rattle.ctu_records.specs.declared.prediction.MotionSyntax.{MotionSyntax}
use Rattle.ctu_records.specs.declared.prediction.MotionSyntax.TheVariants.{Merge, Vectors}
use Rattle.ctu_records.specs.declared.prediction.PartMode.{PartMode}
use Rattle.ctu_records.specs.declared.prediction.PartMode.TheVariants.{Whole}
use Rattle.ctu_records.specs.declared.prediction.Rectangle.{Rectangle}
use Rattle.ctu_records.specs.declared.prediction.VectorSyntax.{VectorSyntax}
use Rattle.ctu_records.specs.declared.records.Quantization.{Quantization}
use Rattle.ctu_records.specs.Places.{inside}
use Rattle.ctu_records.specs.Prediction.{part_block}
use Rattle.ctu_records.specs.Tree.{Ctu, added, coding_at, coding_laid, coding_place, no_codings, with_quantization}
use Rattle.ctu_records.specs.Tree.{with_sao}
use Rattle.spec_cabac.specs.Bins.{Tree}
use Rattle.spec_slice_data.specs.SpecResiduals.{Level}
use Rattle.spec_slice_data.specs.SpecResiduals.{Residual}
use Rattle.spec_slice_data.specs.declared.syntax.ChromaFlags.{ChromaFlags}
use Rattle.spec_slice_data.specs.declared.syntax.CtuSyntax.{CtuSyntax}
use Rattle.spec_slice_data.specs.declared.syntax.End.{End}
use Rattle.spec_slice_data.specs.declared.syntax.InterSyntax.{InterSyntax}
use Rattle.spec_slice_data.specs.declared.syntax.PcmSyntax.{PcmSyntax}
use Rattle.spec_slice_data.specs.declared.syntax.TransformBlock.{TransformBlock}
use Rattle.spec_slice_data.specs.declared.syntax.UnitStart.{UnitStart}
use Rattle.spec_slice_data.specs.declared.syntax.UnitSyntax.{UnitSyntax}
use Rattle.spec_slice_data.specs.Inter.{cu_skip_flag, merge_bin, pred_mode_flag}
use Rattle.spec_slice_data.specs.Inter.{last_two, later_parts, merged, motion, part_count, prediction_unit}
use Rattle.spec_slice_data.specs.Inter.{vector_where}
use Rattle.spec_slice_data.specs.Inter.{vectors, with_part}
use Rattle.spec_slice_data.specs.Modes.{lower_left, lower_right, luma_block, luma_blocks, luma_modes, luma_quarters}
use Rattle.spec_slice_data.specs.Modes.{upper_left, upper_right}
use Rattle.spec_slice_data.specs.Quantization.{delta_coded, delta_where, group_at, grouped, unit_begun}
use Rattle.spec_slice_data.specs.Residual.{coded, coded_block, with_level, with_residual}
use Rattle.spec_slice_data.specs.Transform.{any_coded, block_where, chroma_blocks, chroma_of, chroma_transform}
use Rattle.spec_slice_data.specs.Transform.{has_delta}
use Rattle.spec_slice_data.specs.Transform.{luma_transform, split_or_blocks, transform, transform_blocks}
use Rattle.spec_slice_data.specs.Transform.{transform_tree}
use Rattle.spec_slice_data.specs.Transform.{transform_unit, whole_of_fourth}
use Rattle.spec_slice_data.specs.Tree.{begun_unit, coding_quadtree, coding_tree_unit, coding_unit, inter_syntax}
use Rattle.spec_slice_data.specs.Tree.{inter_unit, intra_body, intra_syntax, intra_unit, parts_and_tree, pcm_sample}
use Rattle.spec_slice_data.specs.Tree.{pcm_samples, pcm_unit, skipped_unit, split_cu_flag, split_or_unit}
use Rattle.spec_slice_data.specs.Tree.{unit_and_end}
use Rattle.spec_slice_data.specs.Tree.{unit_at, unit_body, unit_start, unit_tree, where_reached, whole_unit}
use Rattle.sample_words.specs.Offsets.{IsSao}
use Rattle.sample_laws.proofs.UnitLawsLemmas.{Gives, after_any, always, give_gives, then_gives, times_gives}
use Rattle.sample_laws.proofs.UnitLawsLemmas.{truncated_gives}
use Rattle.sample_laws.proofs.UnitLawsLemmas.{when_gives}
use Rattle.flight_value_laws.proofs.Offsets.{sao_gives}

-- one of two vectors is there
abbrev pub IsOneThere : Option VectorSyntax → Option VectorSyntax → Type 0
IsOneThere None None = ⊥
IsOneThere None (Some second) = ⊤
IsOneThere (Some first) second = ⊤

-- motion that merges with one of so many candidates, or has a vector
abbrev pub HasVector : InterSyntax → MotionSyntax → Type 0
HasVector inter (Merge index) = index ≤ inter.max_merge - 1
HasVector inter (Vectors first second) = IsOneThere first second

-- an item whose values fit
abbrev pub FitsWords : InterSyntax → Item → Type 0
FitsWords inter (item.Unit unit) = unit.depth < 4
FitsWords inter (item.Prediction unit) = (inter.is_inter ≡ true) × HasVector inter unit.motion
FitsWords inter other = ⊤

pub record IsFit (inter : InterSyntax) (ctu : Ctu) : Type 0 where
  pub each : All (FitsWords inter) ctu.items
  pub sao : IsSao ctu.sao

-- ---- vectors that are there

abbrev IsThere : Option VectorSyntax → Type 0
IsThere None = ⊥
IsThere (Some vector) = ⊤

vector_gives : (there : Bool) (active : ℕ) (coded : Bool)
    → Gives (λ v. there ≡ true → IsThere v) (vector_where there active coded)
unfolding vector_where
vector_gives there active coded =
    when_gives there (λ held. after_any (λ vector. give_gives (Some vector) (λ e. tt)))
    (λ held. give_gives None (λ e. let no : true ≡ false = sym e ∙ held in absurd cc))

first_there : (first second : Option VectorSyntax) → IsThere first → IsOneThere first second
first_there None second is = absurd is
first_there (Some first) second is = tt

second_there : (first second : Option VectorSyntax) → IsThere second → IsOneThere first second
second_there first None is = absurd is
second_there None (Some second) is = tt
second_there (Some first) (Some second) is = tt

one_there : (not_first not_second : Bool) (first second : Option VectorSyntax)
    → (not_first ≡ true → not_second ≡ true → ⊥) → (not not_first ≡ true → IsThere first)
    → (not not_second ≡ true → IsThere second) → IsOneThere first second
one_there false not_second first second never has_first has_second = first_there first second (has_first refl)
one_there true false first second never has_first has_second = second_there first second (has_second refl)
one_there true true first second never has_first has_second = absurd (never refl refl)

vectors_gives : (inter : InterSyntax) (depth : ℕ) (block : Rectangle)
    → Gives (HasVector inter) (vectors inter depth block)
unfolding vectors
vectors_gives inter depth block =
    after_any (λ lists.
    then_gives (vector_gives (not (lists == 1)) inter.active_0 true) (λ first has_first.
    then_gives (vector_gives (not (lists == 0)) inter.active_1 _) (λ second has_second.
    give_gives (Vectors first second)
    (one_there (lists == 1) (lists == 0) first second
    (λ e f. let one = eqb-true lists 1 e in let none = eqb-true lists 0 f in omega (arith, one, none)) has_first
    has_second))))

-- with the syntax of inter coding units of a slice
module _ (inter : InterSyntax) where
  abbrev Has : MotionSyntax → Type 0
  Has = HasVector inter

  abbrev Fits : Item → Type 0
  Fits = FitsWords inter

  abbrev Fit : Ctu → Type 0
  Fit = IsFit inter

  added_fit : (ctu : Ctu) (item : Item) → Fits item → Fit ctu → Fit (added ctu item)
  added_fit ctu item fits fit = record {
    each = All-append Fits ctu.items (item ∷ []) fit.each (All-cons Fits item [] fits (All-nil Fits));
    sao = fit.sao;
  }

  quantized_fit : (ctu : Ctu) (q : Quantization) → Fit ctu → Fit (with_quantization ctu q)
  quantized_fit ctu q fit = record { each = fit.each; sao = fit.sao }

  either_fit : (b : Bool) (x y : Ctu) → Fit x → Fit y → Fit (cond b x y)
  either_fit true x y fit other = fit
  either_fit false x y fit other = other

  -- ---- transform trees

  levels_fit : (log2 : ℕ) (levels : List Level) (ctu : Ctu) → Fit ctu → Fit (fold (with_level log2) ctu levels)
  levels_fit log2 [] ctu fit = fit
  levels_fit log2 (level ∷ levels) ctu fit =
      levels_fit log2 levels (with_level log2 ctu level) (added_fit ctu (item.Level _ level.value) tt fit)

  residual_fit : (block : TransformBlock) (residual : Residual) (ctu : Ctu) → Fit ctu
      → Fit (with_residual block residual ctu)
  unfolding with_residual
  residual_fit block residual ctu fit =
      levels_fit block.log2_size residual.levels (added ctu (item.Block (coded block residual.transform_skip)))
      (added_fit ctu (item.Block (coded block residual.transform_skip)) tt fit)

  module _ (syntax : CtuSyntax) where
    block_fit : (unit : UnitSyntax) (there : Bool) (block : TransformBlock) (ctu : Ctu) → Fit ctu
        → Gives Fit (block_where syntax unit there block ctu)
    unfolding coded_block
    block_fit unit there block ctu fit =
        when_gives there
        (λ held. after_any (λ residual. give_gives (with_residual block residual ctu)
        (residual_fit block residual ctu fit)))
        (λ held. give_gives ctu fit)

    chroma_fit : (unit : UnitSyntax) (flags : ChromaFlags) (square : Square) (ctu : Ctu) → Fit ctu
        → Gives Fit (chroma_blocks syntax unit flags square ctu)
    unfolding chroma_blocks
    chroma_fit unit flags square ctu fit =
        then_gives (block_fit unit flags.cb (chroma_transform unit 1 square) ctu fit)
        (λ with_cb cb_fit. block_fit unit flags.cr (chroma_transform unit 2 square) with_cb cb_fit)

    chroma_of_fit : (unit : UnitSyntax) (flags : ChromaFlags) (square : Square) (ctu : Ctu) → Fit ctu
        → Gives Fit (chroma_of syntax unit flags square ctu)
    unfolding chroma_of
    chroma_of_fit unit flags square ctu fit =
        when_gives (square.log2_size == 0)
        (λ least. when_gives (square.x % 2 == 1 && square.y % 2 == 1)
        (λ fourth. chroma_fit unit flags (whole_of_fourth square) ctu fit) (λ earlier. give_gives ctu fit))
        (λ greater. chroma_fit unit flags square ctu fit)

    delta_fit : (square : Square) (there : Bool) (ctu : Ctu) → Fit ctu
        → Gives Fit (delta_where syntax square there ctu)
    unfolding delta_where
    delta_fit square there ctu fit =
        when_gives there
        (λ held. after_any (λ delta. give_gives _
        (added_fit (with_quantization ctu (delta_coded ctu.quantization _)) (item.Delta _) tt
        (quantized_fit ctu (delta_coded ctu.quantization _) fit))))
        (λ held. give_gives ctu fit)

    blocks_fit : (unit : UnitSyntax) (cbf_luma : Bool) (flags : ChromaFlags) (square : Square) (ctu : Ctu)
        → Fit ctu → Gives Fit (transform_blocks syntax unit cbf_luma flags square ctu)
    unfolding transform_blocks
    blocks_fit unit cbf_luma flags square ctu fit =
        then_gives (delta_fit unit.square (has_delta syntax (any_coded cbf_luma flags) ctu) ctu fit)
        (λ quantized quantized_fit.
        then_gives (block_fit unit cbf_luma (luma_transform square quantized) quantized quantized_fit)
        (λ with_luma luma_fit. chroma_of_fit unit flags square with_luma luma_fit))

    transform_fit : (unit : UnitSyntax) (flags : ChromaFlags) (depth : ℕ) (square : Square) (ctu : Ctu) → Fit ctu
        → Gives Fit (transform_unit syntax unit flags depth square ctu)
    unfolding transform_unit
    transform_fit unit flags depth square ctu fit =
        after_any (λ cbf_luma. blocks_fit unit cbf_luma flags square
        (added ctu (item.Transform (transform square depth cbf_luma flags)))
        (added_fit ctu (item.Transform (transform square depth cbf_luma flags)) tt fit))

    split_fit : (quarter : ChromaFlags → Square → Ctu → Tree Ctu)
        → ((flags : ChromaFlags) (s : Square) (c : Ctu) → Fit c → Gives Fit (quarter flags s c))
        → (unit : UnitSyntax) (above : ChromaFlags) (depth : ℕ) (square : Square) (ctu : Ctu) → Fit ctu
        → Gives Fit (split_or_blocks quarter syntax unit above depth square ctu)
    split_fit quarter each unit above depth square ctu fit =
        after_any (λ split. after_any (λ flags. when_gives split
        (λ held.
        then_gives (each flags (upper_left square) ctu fit) (λ first first_fit.
        then_gives (each flags (upper_right square) first first_fit) (λ second second_fit.
        then_gives (each flags (lower_left square) second second_fit) (λ third third_fit.
        each flags (lower_right square) third third_fit))))
        (λ held. transform_fit unit flags depth square ctu fit)))

    tree_fit : (unit : UnitSyntax) (above : ChromaFlags) (n depth : ℕ) (square : Square) (ctu : Ctu) → Fit ctu
        → Gives Fit (transform_tree syntax unit above n depth square ctu)
    unfolding transform_tree
    tree_fit unit above zero depth square ctu fit = transform_fit unit above depth square ctu fit
    tree_fit unit above (suc n) depth square ctu fit =
        split_fit (λ flags. transform_tree syntax unit flags n (depth + 1))
        (λ flags s c. tree_fit unit flags n (depth + 1) s c) unit above depth square ctu fit

    unit_tree_fit : (unit : UnitSyntax) (ctu : Ctu) → Fit ctu → Gives Fit (unit_tree syntax unit ctu)
    unit_tree_fit unit ctu fit =
        tree_fit unit (record { cb = true; cr = true }) unit.square.log2_size 0 unit.square ctu fit

  -- ---- modes, and samples by pulse code modulation

  mode_fit : (square : Square) (most_probable : Bool) (ctu : Ctu) → Fit ctu
      → Gives Fit (luma_block square most_probable ctu)
  unfolding luma_block
  mode_fit square most_probable ctu fit = after_any (λ mode. give_gives _ (added_fit ctu (item.Luma _) tt fit))

  modes_fit : (split : Bool) (square : Square) (ctu : Ctu) → Fit ctu → Gives Fit (luma_modes split square ctu)
  unfolding luma_quarters luma_blocks
  modes_fit split square ctu fit =
      when_gives split
      (λ held. after_any (λ flag_0. after_any (λ flag_1. after_any (λ flag_2. after_any (λ flag_3.
      then_gives (mode_fit (upper_left square) flag_0 ctu fit) (λ first first_fit.
      then_gives (mode_fit (upper_right square) flag_1 first first_fit) (λ second second_fit.
      then_gives (mode_fit (lower_left square) flag_2 second second_fit) (λ third third_fit.
      mode_fit (lower_right square) flag_3 third third_fit))))))))
      (λ held. after_any (λ most_probable. mode_fit square most_probable ctu fit))

  samples_fit : (bits count : ℕ) (ctu : Ctu) → Fit ctu → Gives Fit (pcm_samples bits count ctu)
  samples_fit bits count ctu fit =
      times_gives (pcm_sample bits)
      (λ i c c_fit. after_any (λ value. give_gives _ (added_fit c (item.Sample value) tt c_fit))) 0 count ctu fit

  pcm_fit : (pcm : PcmSyntax) (square : Square) (ctu : Ctu) → Fit ctu → Gives Fit (pcm_unit pcm square ctu)
  unfolding pcm_unit
  pcm_fit pcm square ctu fit =
      after_any (λ began.
      then_gives (samples_fit pcm.luma_bits (16 * 4 ^ square.log2_size) (added ctu (item.Pcm square))
      (added_fit ctu (item.Pcm square) tt fit))
      (λ luma luma_fit.
      then_gives (samples_fit pcm.chroma_bits (8 * 4 ^ square.log2_size) luma luma_fit) (λ chroma chroma_fit.
      after_any (λ ended. give_gives chroma chroma_fit))))

  -- ---- prediction units

  merged_gives : Gives Has (merged inter)
  merged_gives =
      then_gives (truncated_gives merge_bin (inter.max_merge - 1)) (λ index few. give_gives (Merge index) few)

  motion_gives : (depth : ℕ) (block : Rectangle) → Gives Has (motion inter depth block)
  unfolding motion
  motion_gives depth block =
      after_any (λ is_merged. when_gives is_merged (λ held. merged_gives)
      (λ held. vectors_gives inter depth block))

  part_fit : (square : Square) (mode : PartMode) (part : ℕ) (told : MotionSyntax) (ctu : Ctu) → inter.is_inter ≡ true
      → Has told → Fit ctu → Fit (with_part square mode part told ctu)
  part_fit square mode part told ctu on has fit = added_fit ctu (item.Prediction _) (on, has) fit

  prediction_fit : (start : UnitStart) (mode : PartMode) (part : ℕ) (ctu : Ctu) → inter.is_inter ≡ true → Fit ctu
      → Gives Fit (prediction_unit inter start mode part ctu)
  unfolding prediction_unit
  prediction_fit start mode part ctu on fit =
      then_gives (motion_gives start.depth (part_block start.square mode part))
      (λ told has. give_gives _ (part_fit start.square mode part told ctu on has fit))

  parts_fit : (start : UnitStart) (mode : PartMode) (ctu : Ctu) → inter.is_inter ≡ true → Fit ctu
      → Gives Fit (later_parts inter start mode ctu)
  unfolding later_parts last_two
  parts_fit start mode ctu on fit =
      when_gives (part_count mode == 1) (λ held. give_gives ctu fit)
      (λ held. then_gives (prediction_fit start mode 1 ctu on fit) (λ second second_fit.
      when_gives (part_count mode == 4)
      (λ four. then_gives (prediction_fit start mode 2 second on second_fit)
      (λ third third_fit. prediction_fit start mode 3 third on third_fit))
      (λ two. give_gives second second_fit)))

  -- ---- coding units

  module _ (syntax : CtuSyntax) (same : syntax.inter ≡ inter) where
    intra_fit : (start : UnitStart) (split : Bool) (ctu : Ctu) → Fit ctu
        → Gives Fit (intra_unit syntax start split ctu)
    unfolding intra_unit
    intra_fit start split ctu fit =
        then_gives (modes_fit split start.square ctu fit) (λ predicted predicted_fit.
        after_any (λ mode. unit_tree_fit syntax (intra_syntax start split mode) (added predicted (item.Chroma mode))
        (added_fit predicted (item.Chroma mode) tt predicted_fit)))

    intra_body_fit : (start : UnitStart) (ctu : Ctu) → Fit ctu → Gives Fit (intra_body syntax start ctu)
    unfolding intra_body
    intra_body_fit start ctu fit =
        after_any (λ split. after_any (λ pcm. when_gives pcm
        (λ is. pcm_fit syntax.pcm start.square ctu fit)
        (λ other. intra_fit start split ctu fit)))

    skipped_fit : (start : UnitStart) (ctu : Ctu) → inter.is_inter ≡ true → Fit ctu
        → Gives Fit (skipped_unit syntax start ctu)
    unfolding skipped_unit
    skipped_fit start ctu on fit =
        then_gives (subst (λ i. Gives Has (merged i)) (sym same) merged_gives)
        (λ told has. give_gives _ (part_fit start.square Whole 0 told ctu on has fit))

    inter_fit : (start : UnitStart) (ctu : Ctu) → inter.is_inter ≡ true → Fit ctu
        → Gives Fit (inter_unit syntax start ctu)
    unfolding inter_unit parts_and_tree
    inter_fit start ctu on fit =
        after_any (λ mode.
        then_gives
        (subst (λ i. Gives Has (motion i start.depth (part_block start.square mode 0))) (sym same)
        (motion_gives start.depth (part_block start.square mode 0))) (λ first has.
        then_gives
        (subst (λ i. Gives Fit (later_parts i start mode (with_part start.square mode 0 first ctu))) (sym same)
        (parts_fit start mode (with_part start.square mode 0 first ctu) on
        (part_fit start.square mode 0 first ctu on has fit))) (λ predicted predicted_fit.
        after_any (λ coded. when_gives coded
        (λ held. unit_tree_fit syntax (inter_syntax syntax start mode) predicted predicted_fit)
        (λ held. give_gives predicted predicted_fit)))))

    body_fit : (start : UnitStart) (ctu : Ctu) → (start.intra ≡ false → inter.is_inter ≡ true) → Fit ctu
        → Gives Fit (unit_body syntax start ctu)
    body_fit start ctu on fit =
        when_gives start.intra (λ held. intra_body_fit start ctu fit)
        (λ other. when_gives start.skipped (λ held. skipped_fit start ctu (on other) fit)
        (λ held. inter_fit start ctu (on other) fit))

    -- only where there are inter coding units one is skipped, or isn't intra
    skip_gives : (square : Square) (ctu : Ctu)
        → Gives (λ skipped. skipped ≡ true → inter.is_inter ≡ true)
        (cu_skip_flag syntax.inter square.x square.y ctu)
    skip_gives square ctu =
        when_gives syntax.inter.is_inter
        (λ held. always _ (λ skipped e. ap (λ (i : InterSyntax). i.is_inter) (sym same) ∙ held))
        (λ held. give_gives false (λ e. absurd cc))

    intra_gives : (skipped : Bool) → (skipped ≡ true → inter.is_inter ≡ true)
        → Gives (λ intra. intra ≡ false → inter.is_inter ≡ true) (pred_mode_flag syntax.inter skipped)
    intra_gives skipped on =
        when_gives skipped (λ held. give_gives false (λ e. on held))
        (λ other. when_gives syntax.inter.is_inter
        (λ held. always _ (λ intra e. ap (λ (i : InterSyntax). i.is_inter) (sym same) ∙ held))
        (λ held. give_gives true (λ e. absurd cc)))

    abbrev Starts : ℕ → UnitStart → Type 0
    Starts depth start = (start.depth ≡ depth) × (start.intra ≡ false → inter.is_inter ≡ true)

    start_gives : (depth : ℕ) (square : Square) (ctu : Ctu) → Gives (Starts depth) (unit_start syntax depth square ctu)
    unfolding unit_start
    start_gives depth square ctu =
        after_any (λ bypass.
        then_gives (skip_gives square ctu) (λ skipped on.
        then_gives (intra_gives skipped on) (λ intra needs. give_gives _ (refl, needs))))

    begun_fit : (start : UnitStart) (ctu : Ctu) → start.depth < 4 → Fit ctu → Fit (begun_unit start ctu)
    unfolding begun_unit
    begun_fit start ctu small fit =
        let begun : Ctu = with_quantization ctu (unit_begun ctu.quantization) in
        added_fit begun (item.Unit (unit_at start ctu)) small (quantized_fit ctu (unit_begun ctu.quantization) fit)

    unit_fit : (depth : ℕ) (square : Square) (ctu : Ctu) → depth < 4 → Fit ctu
        → Gives Fit (coding_unit syntax depth square ctu)
    unfolding coding_unit
    unit_fit depth square ctu small fit =
        then_gives (start_gives depth square ctu) (λ start is.
        body_fit start (begun_unit start ctu) is.1 (begun_fit start ctu (omega (arith, is.0, small)) fit))

    grouped_fit : (square : Square) (ctu : Ctu) → Fit ctu → Fit (grouped syntax square ctu)
    unfolding grouped
    grouped_fit square ctu fit =
        either_fit (nat_le syntax.log2_group square.log2_size) _ ctu
        (quantized_fit ctu (group_at ctu square.x square.y) fit) fit

    -- only a block that is greater than a least coding unit is split
    split_gives : (depth : ℕ) (square : Square) (ctu : Ctu)
        → Gives (λ split. split ≡ true → syntax.log2_min_coding < square.log2_size)
        (split_cu_flag syntax depth square ctu)
    unfolding split_cu_flag
    split_gives depth square ctu =
        when_gives (nat_lt syntax.log2_min_coding square.log2_size)
        (λ held. always _ (λ split e. ltb-true syntax.log2_min_coding square.log2_size held))
        (λ held. give_gives false (λ e. absurd cc))

    module _ (some : 1 ≤ syntax.log2_min_coding) where
      quarters_fit : (n depth : ℕ) (quarter : Square → Ctu → Tree Ctu)
          → (1 ≤ n → (s : Square) (c : Ctu) → s.log2_size ≡ n → Fit c → Gives Fit (quarter s c))
          → (square : Square) (ctu : Ctu) → square.log2_size ≡ suc n → depth < 4 → Fit ctu
          → Gives Fit (split_or_unit syntax quarter depth square ctu)
      quarters_fit n depth quarter each square ctu size small fit =
          then_gives (split_gives depth square ctu) (λ split greater. when_gives split
          (λ held.
          let above = greater held in
          let least : 1 ≤ n = omega (arith, above, size, some) in
          let quarter_size : square.log2_size - 1 ≡ n = omega (arith, size) in
          then_gives (each least (upper_left square) ctu quarter_size fit) (λ first first_fit.
          then_gives (each least (upper_right square) first quarter_size first_fit) (λ second second_fit.
          then_gives (each least (lower_left square) second quarter_size second_fit) (λ third third_fit.
          each least (lower_right square) third quarter_size third_fit))))
          (λ held. unit_fit depth square ctu small fit))

      reached_fit : (square : Square) (ctu : Ctu) (tree : Tree Ctu) → Fit ctu → Gives Fit tree
          → Gives Fit (where_reached syntax square ctu tree)
      reached_fit square ctu tree fit gives =
          when_gives (nat_lt square.x syntax.right && nat_lt square.y syntax.lower) (λ held. gives)
          (λ held. give_gives ctu fit)

      quadtree_fit : (n depth : ℕ) (square : Square) (ctu : Ctu) → square.log2_size ≡ n → 1 ≤ n → n + depth ≤ 4
          → Fit ctu → Gives Fit (coding_quadtree syntax n depth square ctu)
      unfolding coding_quadtree
      quadtree_fit zero depth square ctu size least few fit = absurd (omega (arith, least))
      quadtree_fit (suc n) depth square ctu size least few fit =
          reached_fit square ctu _ fit
          (quarters_fit n depth (coding_quadtree syntax n (depth + 1))
          (λ more s c e f. quadtree_fit n (depth + 1) s c e more (omega (arith, few)) f) square
          (grouped syntax square ctu) size (omega (arith, few)) (grouped_fit square ctu fit))

      tree_unit_fit : (left above : Sao) (ctu : Ctu) → IsSao left → IsSao above → ctu.size ≤ 4 → 1 ≤ ctu.size → Fit ctu
          → Gives Fit (coding_tree_unit syntax left above ctu)
      unfolding coding_tree_unit
      tree_unit_fit left above ctu is too small least fit =
          then_gives (sao_gives syntax left above is too) (λ offsets fits.
          quadtree_fit ctu.size 0 (whole_unit ctu.size) (with_sao ctu offsets) refl least (omega (arith, small))
          (record { each = fit.each; sao = fits }))

      -- a unit and what follows it
      pub unit_and_end_fit : (left above : Sao) (is_last ends_subset : Bool) (ctu : Ctu) → IsSao left → IsSao above
          → ctu.size ≤ 4 → 1 ≤ ctu.size → IsFit inter ctu
          → Gives (λ (read : Ctu × End). IsFit inter read.0) (unit_and_end syntax left above is_last ends_subset ctu)
      unfolding unit_and_end
      unit_and_end_fit left above is_last ends_subset ctu is too small least fit =
          then_gives (tree_unit_fit left above ctu is too small least fit)
          (λ read read_fit. after_any (λ follows. give_gives (read, follows) read_fit))

  -- ---- depths by place

  depth_if : (b : Bool) (v w : CodingPlace) → v.depth < 4 → w.depth < 4 → (cond b v w).depth < 4
  depth_if true v w first second = first
  depth_if false v w first second = second

  depth_laid : (places : ℕ → ℕ → CodingPlace) (item : Item) → Fits item → ((i j : ℕ) → (places i j).depth < 4)
      → (i j : ℕ) → (coding_laid places item i j).depth < 4
  depth_laid places (item.Unit unit) fits below i j =
      depth_if (inside unit.square.x unit.square.y _ i j) (coding_place unit) (places i j) fits (below i j)
  depth_laid places (item.Luma luma) fits below i j = below i j
  depth_laid places (item.Chroma mode) fits below i j = below i j
  depth_laid places (item.Prediction unit) fits below i j = below i j
  depth_laid places (item.Pcm square) fits below i j = below i j
  depth_laid places (item.Sample value) fits below i j = below i j
  depth_laid places (item.Transform unit) fits below i j = below i j
  depth_laid places (item.Delta delta) fits below i j = below i j
  depth_laid places (item.Block block) fits below i j = below i j
  depth_laid places (item.Level place value) fits below i j = below i j

  depths_laid : (items : List Item) (places : ℕ → ℕ → CodingPlace) → All Fits items
      → ((i j : ℕ) → (places i j).depth < 4) → (i j : ℕ) → (fold coding_laid places items i j).depth < 4
  depths_laid [] places fit below i j = below i j
  depths_laid (item ∷ items) places fit below i j =
      depths_laid items (coding_laid places item) (All-tail Fits item items fit)
      (depth_laid places item (All-head Fits item items fit) below) i j

  -- CtDepth of each place is below 4
  pub depths_fit : (items : List Item) → All (FitsWords inter) items → (i j : ℕ) → (coding_at items i j).depth < 4
  unfolding coding_at
  depths_fit items fit i j = depths_laid items no_codings fit (λ x y. omega arith) i j
