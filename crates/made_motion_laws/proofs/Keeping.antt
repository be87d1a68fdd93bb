-- Where all motion beside a block is the same, the block's is too.
use Rattle.std.proofs.Common.{◌≡◌, ◌⊎◌, inl, inr, ℕ, zero, suc, ◌+◌, ◌-◌, ◌/◌, ◌^◌, Bool, true, false, cond}
use Rattle.std.proofs.Common.{List, [], ◌∷◌, ◌++◌, Option, Some, None, refl, sym, ap, subst, ◌∙◌, arith}
use Rattle.std.specs.Prelude.{◌==◌, ◌&&◌, ◌||◌, nat_lt, slice_index_or, map, option_to_list}
use Rattle.std.proofs.Common.{take}
use Rattle.std.proofs.lemmas.Option.{none-some}
use Rattle.std.proofs.lemmas.Bool.{lt-ltb}
use Rattle.std.proofs.lemmas.Bool.Decides.{nat_tests}
use Rattle.ctu_records.specs.Prediction.{part_of, part_block}
use Rattle.ctu_records.specs.declared.prediction.Mv.{Mv}
use Rattle.ctu_records.specs.declared.prediction.PredictionUnit.{PredictionUnit}
use Rattle.ctu_records.specs.declared.prediction.Rectangle.{Rectangle}
use Rattle.spec_motion.specs.declared.slice_motion.SliceMotion.{SliceMotion}
use Rattle.spec_motion.specs.declared.vectors.Motion.{Motion}
use Rattle.spec_motion.specs.declared.vectors.Reference.{Reference}
use Rattle.spec_motion.specs.declared.vectors.Vector.{Vector}
use Rattle.spec_motion.specs.Merging.{merged, merge_candidates, completed, found_candidates, spatial_candidates}
use Rattle.spec_motion.specs.Merging.{spatial_of}
use Rattle.spec_motion.specs.Merging.{merge_motion, is_in_region, restricted}
use Rattle.spec_motion.specs.Vectors.{Beneath, Known, in_list, no_motion, reference_in, or_else, zero_mv}
use Rattle.spec_motion.specs.VectorPrediction.{predicted_mv, mv_predictors, spatial_predictors, spatial_mvs, pointing}
use Rattle.spec_motion.specs.VectorPrediction.{reaching, first_of, is_there, distinct}
use Rattle.spec_motion.specs.Temporal.{temporal_mv}
use Rattle.made_motion_laws.specs.Uniform.{IsOrNone, IsBeside, IsPlain, IsWhole, block_of}

-- a list that begins with a motion
pub record Begins {X : Type 0} (m : X) (found : List X) : Type 0 where
  pub rest : List X
  pub is : found ≡ m ∷ rest

spatial_begins : (m : Motion) (a1 b1 b0 a0 b2 : Option Motion) → IsOrNone m a1
    → (a1 ≡ Some m) ⊎ (b1 ≡ Some m) → Begins m (spatial_of a1 b1 b0 a0 b2)
unfolding spatial_of
spatial_begins m a1 b1 b0 a0 b2 first (inl e) =
    subst (λ a. Begins m (spatial_of a b1 b0 a0 b2)) (sym e) (record { rest = _; is = refl })
spatial_begins m a1 b1 b0 a0 b2 (inr e) some =
    subst (λ a. Begins m (spatial_of a b1 b0 a0 b2)) (sym e) (record { rest = _; is = refl })
spatial_begins m a1 b1 b0 a0 b2 (inl none) (inr e) =
    subst (λ a. Begins m (spatial_of a b1 b0 a0 b2)) (sym none)
    (subst (λ b. Begins m (spatial_of None b b0 a0 b2)) (sym e) (record { rest = _; is = refl }))

-- a place beside a block isn't in its region
not_before : (x : ℕ) → (nat_lt 0 x && (x / 1 == (x - 1) / 1)) ≡ false
not_before zero = refl
not_before (suc x) =
    let some : nat_lt 0 (suc x) ≡ true = lt-ltb 0 (suc x) (omega arith) in
    let e : (suc x / 1 == (suc x - 1) / 1) ≡ false = grind (arith, nat_tests) in
    rw some e

and_false : (a b : Bool) → b ≡ false → (a && b) ≡ false
and_false true b e = e
and_false false b e = refl

left_apart : (block : Rectangle) (row : ℕ) → is_in_region 2 block block.x row ≡ false
unfolding is_in_region
left_apart block row =
    ap (λ b. b && (nat_lt 0 row && block.y / 2 ^ 0 == (row - 1) / 2 ^ 0)) (not_before block.x)

above_apart : (block : Rectangle) (column : ℕ) → is_in_region 2 block column block.y ≡ false
unfolding is_in_region
above_apart block column =
    and_false (nat_lt 0 column && block.x / 2 ^ 0 == (column - 1) / 2 ^ 0) _ (not_before block.y)

or_none : (m : Motion) (b : Bool) (place : Option Motion) → IsOrNone m place → IsOrNone m (cond b None place)
or_none m true place is = inl refl
or_none m false place is = is

merge_or_none : (slice : SliceMotion) (known : Known) (block : Rectangle) (m : Motion) (column row : ℕ)
    → IsOrNone m (known column row) → IsOrNone m (merge_motion slice known block column row)
unfolding merge_motion
merge_or_none slice known block m column row is =
    or_none m (is_in_region slice.log2_parallel block column row) (known column row) is

left_known : (slice : SliceMotion) (known : Known) (block : Rectangle) (row : ℕ) → slice.log2_parallel ≡ 2
    → merge_motion slice known block block.x row ≡ known block.x row
unfolding merge_motion
left_known slice known block row e =
    ap (λ k. cond (is_in_region k block block.x row) None (known block.x row)) e
    ∙ ap (λ b. cond b None (known block.x row)) (left_apart block row)

above_known : (slice : SliceMotion) (known : Known) (block : Rectangle) (column : ℕ) → slice.log2_parallel ≡ 2
    → merge_motion slice known block column block.y ≡ known column block.y
unfolding merge_motion
above_known slice known block column e =
    ap (λ k. cond (is_in_region k block column block.y) None (known column block.y)) e
    ∙ ap (λ b. cond b None (known column block.y)) (above_apart block column)

begins_append : {X : Type 0} (m : X) (xs ys : List X) → Begins m xs → Begins m (xs ++ ys)
begins_append m xs ys b = record { rest = b.rest ++ ys; is = ap (λ l. l ++ ys) b.is }

begins_first : {X : Type 0} (m d : X) (xs : List X) → Begins m xs → slice_index_or xs 0 d ≡ m
begins_first m d xs b = ap (λ l. slice_index_or l 0 d) b.is

-- of a whole unit the block is a square, and its motion is kept
no_three : (n : ℕ) → (n + n == 3) ≡ false
no_three n = grind (arith, nat_tests)

spatial_at : (slice : SliceMotion) (known : Known) (block : Rectangle) (m : Motion) (b0 a0 b2 : Option Motion)
    → slice.log2_parallel ≡ 2 → IsBeside m known block
    → Begins m (spatial_of (merge_motion slice known block block.x (block.y + block.height))
    (merge_motion slice known block (block.x + block.width) block.y) b0 a0 b2)
spatial_at slice known block m b0 a0 b2 parallel beside =
    spatial_begins m (merge_motion slice known block block.x (block.y + block.height))
    (merge_motion slice known block (block.x + block.width) block.y) b0 a0 b2
    (merge_or_none slice known block m block.x (block.y + block.height)
    (beside.each block.x (block.y + block.height)))
    (elim beside.some [
      | inl e ↦ inl (left_known slice known block (block.y + block.height) parallel ∙ e)
      | inr e ↦ inr (above_known slice known block (block.x + block.width) parallel ∙ e)
    ])

spatial_found : (slice : SliceMotion) (known : Known) (unit : PredictionUnit) (m : Motion) → IsPlain slice
    → IsWhole unit → IsBeside m known (block_of unit) → Begins m (spatial_candidates slice known unit)
unfolding spatial_candidates
spatial_found slice known unit m plain whole beside =
    rw (plain.parallel, whole.part)
    (spatial_at (record slice { log2_parallel = 2 }) known (part_block unit.unit unit.part_mode 0) m _ _ _ refl
    (rw whole.part at beside))

whole_kept : (unit : PredictionUnit) (m : Motion) → IsWhole unit → restricted (block_of unit) m ≡ m
unfolding part_of
whole_kept unit m whole = rw (whole.mode, no_three (2 ^ unit.unit.log2_size)) refl

pub merging : (slice : SliceMotion) (beneath : Beneath) (known : Known) (unit : PredictionUnit) (m : Motion)
    → IsPlain slice → IsWhole unit → IsBeside m known (block_of unit) → merged slice beneath known unit 0 ≡ m
unfolding merged merge_candidates completed found_candidates
merging slice beneath known unit m plain whole beside =
    let found = spatial_found slice known unit m plain whole beside in
    let all = begins_append m (spatial_candidates slice known unit) _ found in
    let more = begins_append m _ _ (begins_append m _ _ all) in
    ap (restricted (block_of unit)) (begins_first m no_motion _ more) ∙ whole_kept unit m whole

-- ---- predictors

same_number : (n : ℕ) → (n == n) ≡ true
same_number n = grind (arith, nat_tests)

-- the motion points to the picture of its own vector
points : (slice : SliceMotion) (list : ℕ) (v : Vector) (m : Motion) → in_list list m ≡ Some v
    → pointing slice list (reference_in slice list v.ref_idx) (Some m) ≡ Some v.mv
unfolding pointing
points slice list v m e =
    rw (e, same_number (reference_in slice list v.ref_idx).picture) refl

none_points : (slice : SliceMotion) (list : ℕ) (target : Reference) → pointing slice list target None ≡ None
unfolding pointing
none_points slice list target = refl

pointed : (slice : SliceMotion) (list : ℕ) (v : Vector) (m : Motion) (place : Option Motion) → in_list list m ≡ Some v
    → IsOrNone m place
    → (pointing slice list (reference_in slice list v.ref_idx) place ≡ None)
    ⊎ (pointing slice list (reference_in slice list v.ref_idx) place ≡ Some v.mv)
pointed slice list v m place e (inl none) =
    inl (ap (pointing slice list (reference_in slice list v.ref_idx)) none
    ∙ none_points slice list (reference_in slice list v.ref_idx))
pointed slice list v m place e (inr some) =
    inr (ap (pointing slice list (reference_in slice list v.ref_idx)) some ∙ points slice list v m e)

or_else_is : (a b : Option Mv) (mv : Mv) → (a ≡ None) ⊎ (a ≡ Some mv) → b ≡ Some mv → or_else a b ≡ Some mv
or_else_is a b mv (inl none) e = ap (λ o. or_else o b) none ∙ e
or_else_is a b mv (inr some) e = ap (λ o. or_else o b) some

begins_distinct : (mv : Mv) (first second : Option Mv) → first ≡ Some mv → Begins mv (distinct first second)
begins_distinct mv first second e =
    subst (λ o. Begins mv (distinct o second)) (sym e) (record { rest = _; is = refl })

there_right : (a b : Option Motion) (m : Motion) → b ≡ Some m → (is_there a || is_there b) ≡ true
there_right None b m e = ap is_there e
there_right (Some x) b m e = refl

-- of two places one of which has it, and whatever is there besides
first_two : (mv : Mv) (p q : Option Mv) (later : List (Option Mv)) → (p ≡ None) ⊎ (p ≡ Some mv) → q ≡ Some mv
    → first_of (p ∷ q ∷ later) ≡ Some mv
first_two mv p q later is e = or_else_is p (first_of (q ∷ later)) mv is (ap (λ o. or_else o (first_of later)) e)

first_one : (mv : Mv) (p : Option Mv) (later : List (Option Mv)) → p ≡ Some mv → first_of (p ∷ later) ≡ Some mv
first_one mv p later e = ap (λ o. or_else o (first_of later)) e

at_left : (slice : SliceMotion) (list : ℕ) (target : Reference) (mv : Mv) (left above : List (Option Motion))
    → first_of (map (pointing slice list target) left) ≡ Some mv
    → Begins mv (spatial_mvs slice list target left above true)
unfolding spatial_mvs
at_left slice list target mv left above e =
    begins_distinct mv
    (or_else (first_of (map (pointing slice list target) left)) (first_of (map (reaching slice list target) left)))
    (first_of (map (pointing slice list target) above))
    (ap (λ o. or_else o (first_of (map (reaching slice list target) left))) e)

at_above : (slice : SliceMotion) (list : ℕ) (target : Reference) (mv : Mv) (left above : List (Option Motion))
    → first_of (map (pointing slice list target) above) ≡ Some mv
    → Begins mv (spatial_mvs slice list target left above false)
unfolding spatial_mvs
at_above slice list target mv left above e =
    begins_distinct mv (first_of (map (pointing slice list target) above))
    (first_of (map (reaching slice list target) above)) e

-- at the left, or else above, some place has the motion
left_first : (slice : SliceMotion) (list : ℕ) (v : Vector) (m : Motion) (a0 a1 b0 b1 b2 : Option Motion)
    → in_list list m ≡ Some v → IsOrNone m a0 → IsOrNone m a1 → IsOrNone m b0 → (a1 ≡ Some m) ⊎ (b1 ≡ Some m)
    → Begins v.mv (spatial_mvs slice list (reference_in slice list v.ref_idx) (a0 ∷ a1 ∷ []) (b0 ∷ b1 ∷ b2 ∷ [])
    (is_there a0 || is_there a1))
left_first slice list v m a0 a1 b0 b1 b2 e is0 (inr some1) isb some =
    let target : Reference = reference_in slice list v.ref_idx in
    let at : Option Motion → Option Mv = pointing slice list target in
    rw (there_right a0 a1 m some1)
    (at_left slice list target v.mv (a0 ∷ a1 ∷ []) (b0 ∷ b1 ∷ b2 ∷ [])
    (first_two v.mv (at a0) (at a1) [] (pointed slice list v m a0 e is0) (ap at some1 ∙ points slice list v m e)))
left_first slice list v m a0 a1 b0 b1 b2 e (inr some0) (inl none1) isb some =
    let target : Reference = reference_in slice list v.ref_idx in
    let at : Option Motion → Option Mv = pointing slice list target in
    let there : (is_there a0 || is_there a1) ≡ true = ap (λ o. is_there o || is_there a1) some0 in
    rw there
    (at_left slice list target v.mv (a0 ∷ a1 ∷ []) (b0 ∷ b1 ∷ b2 ∷ [])
    (first_one v.mv (at a0) (at a1 ∷ []) (ap at some0 ∙ points slice list v m e)))
left_first slice list v m a0 a1 b0 b1 b2 e (inl none0) (inl none1) isb (inl some1) =
    absurd (none-some m (sym none1 ∙ some1))
left_first slice list v m a0 a1 b0 b1 b2 e (inl none0) (inl none1) isb (inr some) =
    let target : Reference = reference_in slice list v.ref_idx in
    let at : Option Motion → Option Mv = pointing slice list target in
    let there : (is_there a0 || is_there a1) ≡ false =
    ap (λ o. is_there o || is_there a1) none0 ∙ ap is_there none1 in
    rw there
    (at_above slice list target v.mv (a0 ∷ a1 ∷ []) (b0 ∷ b1 ∷ b2 ∷ [])
    (first_two v.mv (at b0) (at b1) (at b2 ∷ []) (pointed slice list v m b0 e isb)
    (ap at some ∙ points slice list v m e)))

pub predicting : (slice : SliceMotion) (beneath : Beneath) (known : Known) (block : Rectangle) (m : Motion) (list : ℕ)
    (v : Vector) → IsBeside m known block → in_list list m ≡ Some v
    → predicted_mv slice beneath known block list v.ref_idx false ≡ v.mv
unfolding predicted_mv mv_predictors spatial_predictors
predicting slice beneath known block m list v beside e =
    let first =
    left_first slice list v m (known block.x (block.y + block.height + 1)) (known block.x (block.y + block.height))
    (known (block.x + block.width + 1) block.y) (known (block.x + block.width) block.y) (known block.x block.y) e
    (beside.each block.x (block.y + block.height + 1)) (beside.each block.x (block.y + block.height))
    (beside.each (block.x + block.width + 1) block.y) beside.some in
    ap (λ l. slice_index_or (take 2 (l ++ option_to_list (temporal_mv slice beneath block list v.ref_idx) ++ zero_mv
    ∷ zero_mv ∷ [])) 0 zero_mv) first.is
