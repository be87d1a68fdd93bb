-- Prediction units that are read are in range.
use Rattle.std.proofs.Common.{◌≡◌, ℕ, ◌-◌, ◌<◌, ◌≤◌, Bool, true, false, Some, None, refl, arith}
use Rattle.std.specs.Prelude.{◌==◌, ◌&&◌, not, nat_lt}
use Rattle.std.proofs.lemmas.Bool.{and_parts, ltb-true, eqb-true, eqb-false}
use Rattle.ctu_records.specs.declared.item.Item.TheVariants.{Prediction}
use Rattle.ctu_records.specs.declared.prediction.MotionSyntax.{MotionSyntax}
use Rattle.ctu_records.specs.declared.prediction.MotionSyntax.TheVariants.{Merge, Vectors}
use Rattle.ctu_records.specs.declared.prediction.PartMode.{PartMode}
use Rattle.ctu_records.specs.declared.prediction.PartMode.TheVariants.{Whole, TwoNxN, Nx2N, NxN, TwoNxnU, TwoNxnD}
use Rattle.ctu_records.specs.declared.prediction.PartMode.TheVariants.{NLx2N, NRx2N}
use Rattle.ctu_records.specs.declared.prediction.Rectangle.{Rectangle}
use Rattle.ctu_records.specs.declared.prediction.VectorSyntax.{VectorSyntax}
use Rattle.ctu_records.specs.Prediction.{part_block}
use Rattle.ctu_records.specs.Tree.{Ctu, IsPlaced}
use Rattle.spec_picture_build.specs.SpecReconstruction.{UnitFormat}
use Rattle.spec_picture_build.specs.SpecReconstruction.{IsMotion, IsVector, least_size}
use Rattle.spec_slice_data.specs.declared.syntax.InterSyntax.{InterSyntax}
use Rattle.spec_slice_data.specs.declared.syntax.UnitStart.{UnitStart}
use Rattle.spec_slice_data.specs.Inter.{two_parts, beside_or_four, may_have_four, beside_parts, more_parts, part_mode}
use Rattle.spec_slice_data.specs.Inter.{merge_bin, merged, reference_bin, vector_in, vector_where, has_difference_1}
use Rattle.spec_slice_data.specs.Inter.{vectors, motion, unit_of_part, with_part, prediction_unit, part_count}
use Rattle.spec_slice_data.specs.Inter.{last_two}
use Rattle.spec_slice_data.specs.Inter.{later_parts}
use Rattle.unit_laws.proofs.Formats.{Gives, give_gives, then_gives, after_any, always, when_gives, cond_holds}
use Rattle.unit_laws.proofs.Formats.{truncated_gives}
use Rattle.unit_laws.proofs.Items.{IsKept, added_kept}

-- at most five candidates and 16 references
pub record FitsInter (inter : InterSyntax) : Type 0 where
  pub merge : inter.max_merge ≤ 5
  pub active_0 : inter.active_0 ≤ 16
  pub active_1 : inter.active_1 ≤ 16

-- the parts of a coding unit of 2^n places on a side
abbrev pub FitsIn : ℕ → PartMode → Type 0
FitsIn n mode = least_size mode ≤ n

not_true : (b : Bool) → not b ≡ true → b ≡ false
not_true true e = absurd cc
not_true false e = refl

two_gives : (n : ℕ) (amp : Bool) (halves lesser greater : PartMode) → FitsIn n halves → (amp ≡ true → FitsIn n lesser)
    → (amp ≡ true → FitsIn n greater) → Gives (FitsIn n) (two_parts amp halves lesser greater)
unfolding two_parts
two_gives n amp halves lesser greater half first second =
    then_gives (when_gives {P = λ even. even ≡ false → amp ≡ true} amp (λ held. always _ (λ even e. held))
    (λ held. give_gives true (λ e. absurd cc)))
    (λ even uneven. when_gives even
    (λ held. give_gives halves half)
    (λ held. after_any (λ last. give_gives _
    (cond_holds (FitsIn n) last greater lesser (second (uneven held)) (first (uneven held))))))

module _ (inter : InterSyntax) (least : Bool) (n : ℕ) (some : 1 ≤ n) (more : least ≡ false → 2 ≤ n) where
  by_amp : (inter.amp_enabled && not least) ≡ true → 2 ≤ n
  by_amp e = more (not_true least (and_parts inter.amp_enabled (not least) e).1)

  beside_gives : Gives (FitsIn n) (beside_parts inter least n)
  unfolding beside_parts beside_or_four
  beside_gives =
      when_gives (may_have_four least n)
      (λ held.
      let size = ltb-true 1 n (and_parts least (nat_lt 1 n) held).1 in
      after_any (λ two. give_gives _ (cond_holds (FitsIn n) two Nx2N NxN some (omega (arith, size)))))
      (λ held. two_gives n (inter.amp_enabled && not least) Nx2N NLx2N NRx2N some by_amp by_amp)

  more_gives : Gives (FitsIn n) (more_parts inter least n)
  unfolding more_parts
  more_gives =
      after_any (λ over. when_gives over
      (λ held. two_gives n (inter.amp_enabled && not least) TwoNxN TwoNxnU TwoNxnD some by_amp by_amp)
      (λ held. beside_gives))

  pub part_mode_gives : Gives (FitsIn n) (part_mode inter least n)
  unfolding part_mode
  part_mode_gives = after_any (λ whole. when_gives whole (λ held. give_gives Whole some) (λ held. more_gives))

abbrev IsIndexed : VectorSyntax → Type 0
IsIndexed vector = vector.ref_idx < 16

vector_gives : (active : ℕ) (coded : Bool) → active ≤ 16 → Gives IsIndexed (vector_in active coded)
unfolding vector_in
vector_gives active coded small =
    then_gives (truncated_gives reference_bin (active - 1))
    (λ index below. after_any (λ mvd. after_any (λ mvp. give_gives _ (omega (arith, below, small)))))

where_gives : (there : Bool) (active : ℕ) (coded : Bool) → active ≤ 16
    → Gives IsVector (vector_where there active coded)
unfolding vector_where
where_gives there active coded small =
    when_gives there (λ held. then_gives (vector_gives active coded small) (λ vector is. give_gives (Some vector) is))
    (λ held. give_gives None tt)

module _ (inter : InterSyntax) (fits : FitsInter inter) where
  pub merged_gives : Gives IsMotion (merged inter)
  merged_gives =
      then_gives (truncated_gives merge_bin (inter.max_merge - 1))
      (λ index below. give_gives (Merge index) (omega (arith, below, fits.merge)))

  vectors_gives : (depth : ℕ) (block : Rectangle) → Gives IsMotion (vectors inter depth block)
  unfolding vectors
  vectors_gives depth block =
      after_any (λ lists.
      then_gives (where_gives (not (lists == 1)) inter.active_0 true fits.active_0) (λ first first_is.
      then_gives (where_gives (not (lists == 0)) inter.active_1 (has_difference_1 inter lists) fits.active_1)
      (λ second second_is.
      give_gives (Vectors first second) (first_is, second_is))))

  pub motion_gives : (depth : ℕ) (block : Rectangle) → Gives IsMotion (motion inter depth block)
  unfolding motion
  motion_gives depth block =
      after_any (λ is_merged. when_gives is_merged (λ held. merged_gives) (λ held. vectors_gives depth block))

pub some_parts : (mode : PartMode) → 0 < part_count mode
unfolding part_count
some_parts Whole = omega arith
some_parts TwoNxN = omega arith
some_parts Nx2N = omega arith
some_parts NxN = omega arith
some_parts TwoNxnU = omega arith
some_parts TwoNxnD = omega arith
some_parts NLx2N = omega arith
some_parts NRx2N = omega arith

module _ (format : UnitFormat) (greatest : ℕ) (inter : InterSyntax) (fits : FitsInter inter) (start : UnitStart)
    (placed : IsPlaced start.square) (mode : PartMode) (size : FitsIn start.square.log2_size mode) where
  abbrev Kept : Ctu → Type 0
  Kept = IsKept format greatest

  pub part_kept : (part : ℕ) (told : MotionSyntax) (ctu : Ctu) → part < part_count mode → IsMotion told
      → IsKept format greatest ctu → IsKept format greatest (with_part start.square mode part told ctu)
  part_kept part told ctu below is kept =
      added_kept format greatest ctu (Prediction (unit_of_part start.square mode part told)) kept
      (record { placed = placed; size = size; part = below; motion = is }) tt tt tt

  unit_kept : (part : ℕ) (ctu : Ctu) → part < part_count mode → Kept ctu
      → Gives Kept (prediction_unit inter start mode part ctu)
  unfolding prediction_unit
  unit_kept part ctu below kept =
      then_gives (motion_gives inter fits start.depth (part_block start.square mode part))
      (λ told is. give_gives _ (part_kept part told ctu below is kept))

  last_two_kept : (ctu : Ctu) → Kept ctu → Gives Kept (last_two inter start mode ctu)
  unfolding last_two
  last_two_kept ctu kept =
      when_gives (part_count mode == 4)
      (λ held.
      let four = eqb-true (part_count mode) 4 held in
      then_gives (unit_kept 2 ctu (omega (arith, four)) kept)
      (λ third third_kept. unit_kept 3 third (omega (arith, four)) third_kept))
      (λ held. give_gives ctu kept)

  pub later_kept : (ctu : Ctu) → IsKept format greatest ctu
      → Gives (IsKept format greatest) (later_parts inter start mode ctu)
  unfolding later_parts
  later_kept ctu kept =
      when_gives (part_count mode == 1)
      (λ held. give_gives ctu kept)
      (λ held.
      let more = eqb-false (part_count mode) 1 held in
      then_gives (unit_kept 1 ctu (omega (arith, more, some_parts mode)) kept)
      (λ second second_kept. last_two_kept second second_kept))
