-- The prediction units of a coding tree unit keep the motion beside it.
use Rattle.std.proofs.Common.{◌≡◌, inl, inr, ℕ, ◌+◌, ◌*◌, ◌<◌, ◌≤◌, cond, Bool, true, false}
use Rattle.std.proofs.Common.{[], ◌∷◌, Option, Some, None, refl, sym, ap, ◌∙◌}
use Rattle.std.proofs.Common.{arith, pos, ◌+ℤ◌}
use Rattle.std.specs.Int.RustNames.{FitsSigned}
use Rattle.std.proofs.lemmas.Int.{ints, int_wrap_fits}
use Rattle.std.proofs.lemmas.Bool.{cases_lt, le-leb, lt-ltb}
use mir.Syntax.{w16}
use Rattle.ctu_records.specs.Prediction.{is_inside, part_of, rectangle}
use Rattle.ctu_records.specs.declared.item.Square.{Square}
use Rattle.ctu_records.specs.declared.prediction.MotionSyntax.{MotionSyntax}
use Rattle.ctu_records.specs.declared.prediction.MotionSyntax.TheVariants.{Merge, Vectors}
use Rattle.ctu_records.specs.declared.prediction.Mv.{Mv}
use Rattle.ctu_records.specs.declared.prediction.Rectangle.{Rectangle}
use Rattle.spec_motion.specs.declared.slice_motion.SliceMotion.{SliceMotion}
use Rattle.spec_motion.specs.declared.vectors.Motion.{Motion}
use Rattle.spec_motion.specs.declared.vectors.Reference.{Reference}
use Rattle.spec_motion.specs.declared.vectors.Vector.{Vector}
use Rattle.spec_motion.specs.Derivation.{coded_vector, motion_laid, motion_over, prediction_motion, sum_of}
use Rattle.spec_motion.specs.Temporal.{temporal_mv}
use Rattle.spec_motion.specs.Vectors.{Beneath, Known, in_list, reference_in, zero_mv}
use Rattle.spec_motion.specs.VectorPrediction.{mv_predictors, pointing, predicted_mv, reaching, spatial_mvs}
use Rattle.spec_motion.specs.VectorPrediction.{spatial_predictors}
use Rattle.made_motion_laws.specs.Keeping.{AreFirst, IsBesideUnit, Keeps, coded_where, four_laid}
use Rattle.made_motion_laws.specs.Keeping.{quarter_square, same_where, whole_part, whole_square}
use Rattle.made_motion_laws.specs.Uniform.{IsBeside, IsOrNone, IsPlain, block_of}
use Rattle.made_motion_laws.proofs.Keeping.{merging, predicting}

-- ---- one prediction unit

-- a unit that merges
pub merge_keeps : (slice : SliceMotion) (beneath : Beneath) (m : Motion) (square : Square) → IsPlain slice
    → Keeps slice beneath m (whole_part square (Merge 0))
unfolding prediction_motion
merge_keeps slice beneath m square plain known beside =
    merging slice beneath known (whole_part square (Merge 0)) m plain (record { mode = refl; part = refl }) beside

sum_none : (mv : Mv) → FitsSigned w16 mv.x → FitsSigned w16 mv.y → sum_of mv (record { x = pos 0; y = pos 0 }) ≡ mv
sum_none mv x y =
    let across : mv.x +ℤ pos 0 ≡ mv.x = omega (arith, ints) in
    let down : mv.y +ℤ pos 0 ≡ mv.y = omega (arith, ints) in
    rw (across, down, int_wrap_fits w16 mv.x x, int_wrap_fits w16 mv.y y) refl

vector_is : (v w : Vector) → v.mv ≡ w.mv → v.ref_idx ≡ w.ref_idx → v ≡ w
vector_is v w a b =
    ap (λ (mv : Mv). record { mv = mv; ref_idx = v.ref_idx }) a ∙ ap (λ (k : ℕ). record { mv = w.mv; ref_idx = k }) b

vector_keeps : (slice : SliceMotion) (beneath : Beneath) (known : Known) (block : Rectangle) (m : Motion) (list : ℕ)
    (v : Option Vector) → in_list list m ≡ v → AreFirst v → IsBeside m known block
    → coded_vector slice beneath known block list (same_where v) ≡ v
unfolding coded_vector
vector_keeps slice beneath known block m list None e first beside = refl
vector_keeps slice beneath known block m list (Some v) e first beside =
    let p : predicted_mv slice beneath known block list 0 false ≡ v.mv =
    ap (λ k. predicted_mv slice beneath known block list k false) (sym first.index)
    ∙ predicting slice beneath known block m list v beside e in
    ap Some (vector_is (record {
      mv = sum_of (predicted_mv slice beneath known block list 0 false) (record { x = pos 0; y = pos 0 });
      ref_idx = 0;
    }) v (ap (λ q. sum_of q (record { x = pos 0; y = pos 0 })) p ∙ sum_none v.mv first.x first.y) (sym first.index))

motion_is : (a b : Option Vector) (m : Motion) → a ≡ m.list_0 → b ≡ m.list_1
    → record { list_0 = a; list_1 = b } ≡ m
motion_is a b m e f =
    ap (λ (o : Option Vector). record { list_0 = o; list_1 = b }) e
    ∙ ap (λ (o : Option Vector). record { list_0 = m.list_0; list_1 = o }) f

-- a unit whose vectors don't differ from their predictors
pub vectors_keep : (slice : SliceMotion) (beneath : Beneath) (m : Motion) (square : Square) → AreFirst m.list_0
    → AreFirst m.list_1 → Keeps slice beneath m (whole_part square (Vectors (same_where m.list_0) (same_where
    m.list_1)))
unfolding prediction_motion
vectors_keep slice beneath m square first second known beside =
    let block : Rectangle = block_of (whole_part square (Merge 0)) in
    motion_is (coded_vector slice beneath known block 0 (same_where m.list_0))
    (coded_vector slice beneath known block 1 (same_where m.list_1)) m
    (vector_keeps slice beneath known block m 0 m.list_0 refl first beside)
    (vector_keeps slice beneath known block m 1 m.list_1 refl second beside)

-- ---- the first one of a picture, beside which there is no motion

no_spatial : (slice : SliceMotion) (list : ℕ) (target : Reference)
    → spatial_mvs slice list target (None ∷ None ∷ []) (None ∷ None ∷ None ∷ []) false ≡ []
unfolding spatial_mvs pointing reaching
no_spatial slice list target = refl

no_temporal : (slice : SliceMotion) (beneath : Beneath) (block : Rectangle) (list : ℕ) → IsPlain slice
    → temporal_mv slice beneath block list 0 ≡ None
unfolding temporal_mv
no_temporal slice beneath block list plain = rw plain.temporal refl

no_predictors : (slice : SliceMotion) (known : Known) (block : Rectangle) (list : ℕ) (target : Reference)
    → ((column row : ℕ) → known column row ≡ None) → spatial_predictors slice known block list target ≡ []
unfolding spatial_predictors
no_predictors slice known block list target none =
    rw (
      none block.x (block.y + block.height + 1),
      none block.x (block.y + block.height),
      none (block.x + block.width + 1) block.y,
      none (block.x + block.width) block.y,
      none block.x block.y,
    )
    (no_spatial slice list target)

pub no_prediction : (slice : SliceMotion) (beneath : Beneath) (known : Known) (block : Rectangle) (list : ℕ)
    → IsPlain slice → ((column row : ℕ) → known column row ≡ None)
    → predicted_mv slice beneath known block list 0 false ≡ zero_mv
unfolding predicted_mv mv_predictors
no_prediction slice beneath known block list plain none =
    rw (
      no_predictors slice known block list (reference_in slice list 0) none,
      no_temporal slice beneath block list plain,
    ) refl

sum_zero : (mv : Mv) → FitsSigned w16 mv.x → FitsSigned w16 mv.y → sum_of zero_mv mv ≡ mv
sum_zero mv x y =
    let across : pos 0 +ℤ mv.x ≡ mv.x = omega (arith, ints) in
    let down : pos 0 +ℤ mv.y ≡ mv.y = omega (arith, ints) in
    rw (across, down, int_wrap_fits w16 mv.x x, int_wrap_fits w16 mv.y y) refl

vector_first : (slice : SliceMotion) (beneath : Beneath) (known : Known) (block : Rectangle) (list : ℕ)
    (v : Option Vector) → AreFirst v → IsPlain slice → ((column row : ℕ) → known column row ≡ None)
    → coded_vector slice beneath known block list (coded_where v) ≡ v
unfolding coded_vector
vector_first slice beneath known block list None first plain none = refl
vector_first slice beneath known block list (Some v) first plain none =
    ap Some (vector_is (record {
      mv = sum_of (predicted_mv slice beneath known block list 0 false) v.mv;
      ref_idx = 0;
    }) v
    (ap (λ q. sum_of q v.mv) (no_prediction slice beneath known block list plain none)
    ∙ sum_zero v.mv first.x first.y) (sym first.index))

pub first_is : (slice : SliceMotion) (beneath : Beneath) (known : Known) (m : Motion) (square : Square)
    → AreFirst m.list_0 → AreFirst m.list_1 → IsPlain slice → ((column row : ℕ) → known column row ≡ None)
    → prediction_motion slice beneath known (whole_part square (Vectors (coded_where m.list_0) (coded_where m.list_1)))
    ≡ m
unfolding prediction_motion
first_is slice beneath known m square first second plain none =
    let block : Rectangle = block_of (whole_part square (Merge 0)) in
    motion_is (coded_vector slice beneath known block 0 (coded_where m.list_0))
    (coded_vector slice beneath known block 1 (coded_where m.list_1)) m
    (vector_first slice beneath known block 0 m.list_0 first plain none)
    (vector_first slice beneath known block 1 m.list_1 second plain none)

-- ---- units

over_in : (block : Rectangle) (m : Motion) (known : Known) (column row : ℕ)
    → is_inside (rectangle (block.x + 1) (block.y + 1) block.width block.height) column row ≡ true
    → motion_over block m known column row ≡ Some m
unfolding motion_over
over_in block m known column row is = rw is refl

some_cond : (b : Bool) (m : Motion) (place : Option Motion) → place ≡ Some m → cond b (Some m) place ≡ Some m
some_cond true m place e = refl
some_cond false m place e = e

over_keeps : (block : Rectangle) (m : Motion) (known : Known) (column row : ℕ) → known column row ≡ Some m
    → motion_over block m known column row ≡ Some m
unfolding motion_over
over_keeps block m known column row e = some_cond _ m (known column row) e

each_cond : (b : Bool) (m : Motion) (place : Option Motion) → IsOrNone m place → IsOrNone m (cond b (Some m) place)
each_cond true m place e = inr refl
each_cond false m place e = e

over_each : (block : Rectangle) (m : Motion) (known : Known) → ((column row : ℕ) → IsOrNone m (known column row))
    → (column row : ℕ) → IsOrNone m (motion_over block m known column row)
unfolding motion_over
over_each block m known each column row = each_cond _ m (known column row) (each column row)

in_block : (x y n column row : ℕ) → x ≤ column → column < x + n → y ≤ row → row < y + n
    → is_inside (rectangle x y n n) column row ≡ true
in_block x y n column row left right above below =
    rw (le-leb x column left, lt-ltb column (x + n) right, le-leb y row above, lt-ltb row (y + n) below) refl

module _ (slice : SliceMotion) (beneath : Beneath) (m : Motion) where
  -- what is known behind each of four coding units
  abbrev block : ℕ → ℕ → Rectangle
  block column row = rectangle (2 * column) (2 * row) 2 2

  abbrev k0 : Known → Known
  k0 known = motion_over (block 0 0) m known

  abbrev k1 : Known → Known
  k1 known = motion_over (block 1 0) m (k0 known)

  abbrev k2 : Known → Known
  k2 known = motion_over (block 0 1) m (k1 known)

  abbrev k3 : Known → Known
  k3 known = motion_over (block 1 1) m (k2 known)

  quarter_over : (known : Known) (column row : ℕ) (a : MotionSyntax)
      → prediction_motion slice beneath known (whole_part (quarter_square column row) a) ≡ m
      → motion_laid slice beneath known (whole_part (quarter_square column row) a)
      ≡ motion_over (block column row) m known
  unfolding motion_laid part_of
  quarter_over known column row a e = ap (λ n. motion_over (block column row) n known) e

  all_over : (known : Known) (a b c d : MotionSyntax) → ((column row : ℕ) → IsOrNone m (known column row))
      → prediction_motion slice beneath known (whole_part (quarter_square 0 0) a) ≡ m
      → Keeps slice beneath m (whole_part (quarter_square 1 0) b)
      → Keeps slice beneath m (whole_part (quarter_square 0 1) c)
      → Keeps slice beneath m (whole_part (quarter_square 1 1) d)
      → four_laid slice beneath a b c d known ≡ k3 known
  unfolding part_of
  all_over known a b c d each e0 e1 e2 e3 =
      let each0 = over_each (block 0 0) m known each in
      let each1 = over_each (block 1 0) m (k0 known) each0 in
      let each2 = over_each (block 0 1) m (k1 known) each1 in
      let beside1 : IsBeside m (k0 known) (block 1 0) =
      record { each = each0; some = inl (over_in (block 0 0) m known 2 2 refl) } in
      let beside2 : IsBeside m (k1 known) (block 0 1) = record {
        each = each1;
        some = inr (over_keeps (block 1 0) m (k0 known) 2 2 (over_in (block 0 0) m known 2 2 refl));
      } in
      let beside3 : IsBeside m (k2 known) (block 1 1) = record {
        each = each2;
        some = inr (over_keeps (block 0 1) m (k1 known) 4 2 (over_in (block 1 0) m (k0 known) 4 2 refl));
      } in
      let l0 = quarter_over known 0 0 a e0 in
      let l1 = quarter_over (k0 known) 1 0 b (e1 (k0 known) beside1) in
      let l2 = quarter_over (k1 known) 0 1 c (e2 (k1 known) beside2) in
      let l3 = quarter_over (k2 known) 1 1 d (e3 (k2 known) beside3) in
      ap (λ (k : Known). motion_laid slice beneath (motion_laid slice beneath (motion_laid slice beneath k
      (whole_part (quarter_square 1 0) b)) (whole_part (quarter_square 0 1) c)) (whole_part (quarter_square 1 1) d)) l0
      ∙ ap (λ (k : Known). motion_laid slice beneath (motion_laid slice beneath k (whole_part (quarter_square 0 1) c))
      (whole_part (quarter_square 1 1) d)) l1
      ∙ ap (λ (k : Known). motion_laid slice beneath k (whole_part (quarter_square 1 1) d)) l2
      ∙ l3

  covered : (known : Known) (column row : ℕ) → 1 ≤ column → column ≤ 4 → 1 ≤ row → row ≤ 4
      → k3 known column row ≡ Some m
  covered known column row left right above below =
      elim (cases_lt column 3) [
        | inl west ↦ elim (cases_lt row 3) [
          | inl north ↦
              over_keeps (block 1 1) m (k2 known) column row (over_keeps (block 0 1) m (k1 known) column row
              (over_keeps (block 1 0) m (k0 known) column row (over_in (block 0 0) m known column row
              (in_block 1 1 2 column row left west above north))))
          | inr south ↦
              over_keeps (block 1 1) m (k2 known) column row (over_in (block 0 1) m (k1 known) column row
              (in_block 1 3 2 column row left west south (omega arith)))
        ]
        | inr east ↦ elim (cases_lt row 3) [
          | inl north ↦
              over_keeps (block 1 1) m (k2 known) column row (over_keeps (block 0 1) m (k1 known) column row
              (over_in (block 1 0) m (k0 known) column row
              (in_block 3 1 2 column row east (omega arith) above north)))
          | inr south ↦
              over_in (block 1 1) m (k2 known) column row
              (in_block 3 3 2 column row east (omega arith) south (omega arith))
        ]
      ]

  -- behind four coding units all places have the motion
  pub four_keep : (known : Known) (a b c d : MotionSyntax) (column row : ℕ)
      → ((column row : ℕ) → IsOrNone m (known column row))
      → prediction_motion slice beneath known (whole_part (quarter_square 0 0) a) ≡ m
      → Keeps slice beneath m (whole_part (quarter_square 1 0) b)
      → Keeps slice beneath m (whole_part (quarter_square 0 1) c)
      → Keeps slice beneath m (whole_part (quarter_square 1 1) d)
      → 1 ≤ column → column ≤ 4 → 1 ≤ row → row ≤ 4
      → four_laid slice beneath a b c d known column row ≡ Some m
  four_keep known a b c d column row each e0 e1 e2 e3 left right above below =
      ap (λ (k : Known). k column row) (all_over known a b c d each e0 e1 e2 e3)
      ∙ covered known column row left right above below

  -- behind one they have, too
  pub one_keeps : (known : Known) (a : MotionSyntax) (column row : ℕ)
      → prediction_motion slice beneath known (whole_part whole_square a) ≡ m
      → 1 ≤ column → column ≤ 4 → 1 ≤ row → row ≤ 4
      → motion_laid slice beneath known (whole_part whole_square a) column row ≡ Some m
  unfolding motion_laid part_of
  one_keeps known a column row e left right above below =
      ap (λ (n : Motion). motion_over (rectangle 0 0 4 4) n known column row) e
      ∙ over_in (rectangle 0 0 4 4) m known column row
      (in_block 1 1 4 column row left (omega arith) above (omega arith))

  -- the first coding unit of a unit beside which there is motion
  pub whole_beside : (known : Known) (a : MotionSyntax) → IsBesideUnit m known
      → IsBeside m known (block_of (whole_part whole_square a))
  unfolding part_of
  whole_beside known a beside = record {
    each = beside.each;
    some = elim beside.some [
      | inl at ↦ inl (at 4 (omega arith) (omega arith))
      | inr at ↦ inr (at 4 (omega arith) (omega arith))
    ];
  }

  pub quarter_beside : (known : Known) (a : MotionSyntax) → IsBesideUnit m known
      → IsBeside m known (block_of (whole_part (quarter_square 0 0) a))
  unfolding part_of
  quarter_beside known a beside = record {
    each = beside.each;
    some = elim beside.some [
      | inl at ↦ inl (at 2 (omega arith) (omega arith))
      | inr at ↦ inr (at 2 (omega arith) (omega arith))
    ];
  }
