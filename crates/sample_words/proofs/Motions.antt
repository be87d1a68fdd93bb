-- The motion and the modes of a place are taken out of its words as they were put in.
use Rattle.std.proofs.Common.{◌≡◌, ℕ, ◌+◌, ◌*◌, ◌/◌, ◌%◌, ◌<◌, ◌==◌, ℤ, pos, refl, ap, ◌∙◌, arith, Option, Some, None}
use Rattle.std.proofs.Common.{IfSome}
use Rattle.std.proofs.Common.{◌++◌, lit<}
use Rattle.std.specs.Int.{w16, cast_signed, cast_unsigned}
use Rattle.std.specs.Int.RustNames.{FitsSigned}
use Rattle.std.proofs.Math.Facts.{Fits-of_z}
use Rattle.std.proofs.lemmas.Int.{to_z-of_z}
use Rattle.spec_motion.specs.CtuRecords.{Mv}
use Rattle.spec_motion.specs.declared.vectors.Motion.{Motion}
use Rattle.spec_motion.specs.declared.vectors.Vector.{Vector}
use Rattle.sample_words.specs.declared.modes.PlaceModes.{PlaceModes}
use Rattle.sample_words.specs.Packing.{joined}
use Rattle.sample_words.specs.Values.{IsModes, IsMotion, IsVector, list_code, mode_fields, modes_in, modes_word}
use Rattle.sample_words.specs.Values.{motion_in}
use Rattle.sample_words.specs.Values.{mv_fields, mv_in, mv_of, vector_in, vectors_word}
use Rattle.sample_words.proofs.Fields.{AllFit, bool_again, bool_fits, field_found}

pub unsigned_16 : (z : ℤ) → FitsSigned w16 z → cast_unsigned w16 z < 65536
unsigned_16 z fits = omega (arith, Fits-of_z fits)

record IsMv (mv : Mv) : Type 0 where
  x : FitsSigned w16 mv.x
  y : FitsSigned w16 mv.y

zero_fits : FitsSigned w16 (pos 0)
zero_fits = record { sfits = lit< tt }

is_mv : (v : Option Vector) → IfSome v IsVector → IsMv (mv_of v)
is_mv None is = record { x = zero_fits; y = zero_fits }
is_mv (Some v) is = record { x = is.x; y = is.y }

-- both vectors
mvs_fit : (a b : Mv) → IsMv a → IsMv b → AllFit (mv_fields a ++ mv_fields b)
mvs_fit a b is too =
    (unsigned_16 a.x is.x, (unsigned_16 a.y is.y, (unsigned_16 b.x too.x, (unsigned_16 b.y too.y, tt))))

same_mv : (mv : Mv) (x y : ℤ) → x ≡ mv.x → y ≡ mv.y → record { x = x; y = y } ≡ mv
same_mv mv x y p q = rw (p, q) refl

coordinate : (z : ℤ) (n : ℕ) → FitsSigned w16 z → n ≡ cast_unsigned w16 z → cast_signed w16 n ≡ z
coordinate z n fits e = ap (cast_signed w16) e ∙ to_z-of_z w16 z fits

lower_found : (a b : Mv) → IsMv a → IsMv b → mv_in 0 (joined (mv_fields a ++ mv_fields b)) ≡ a
lower_found a b is too =
    let fits = mvs_fit a b is too in
    same_mv a _ _ (coordinate a.x _ is.x (field_found (mv_fields a ++ mv_fields b) 0 fits))
    (coordinate a.y _ is.y (field_found (mv_fields a ++ mv_fields b) 1 fits))

upper_found : (a b : Mv) → IsMv a → IsMv b → mv_in 32 (joined (mv_fields a ++ mv_fields b)) ≡ b
upper_found a b is too =
    let fits = mvs_fit a b is too in
    same_mv b _ _ (coordinate b.x _ too.x (field_found (mv_fields a ++ mv_fields b) 2 fits))
    (coordinate b.y _ too.y (field_found (mv_fields a ++ mv_fields b) 3 fits))

-- a vector by the code of its list
vector_found : (v : Option Vector) → vector_in (list_code v) (mv_of v) ≡ v
vector_found None = refl
vector_found (Some v) =
    let odd : (2 * v.ref_idx + 1) % 2 ≡ 1 = omega arith in
    let half : (2 * v.ref_idx + 1) / 2 ≡ v.ref_idx = omega arith in
    rw (odd, half) refl

code_fits : (v : Option Vector) → IfSome v IsVector → list_code v < 32
code_fits None is = omega arith
code_fits (Some v) is = let small = is.ref_idx in omega arith

modes_fit : (p : PlaceModes) (m : Motion) → IsModes p → IsMotion m → AllFit (mode_fields p m)
modes_fit p m is motion = (
  is.qp,
  (
    is.luma_mode,
    (
      is.depth,
      (
        bool_fits p.side.skipped,
        (
          bool_fits p.side.intra,
          (
            is.left_strength,
            (
              is.top_strength,
              (
                bool_fits p.kept,
                (
                  bool_fits p.coded,
                  (
                    code_fits m.list_0 motion.list_0,
                    (code_fits m.list_1 motion.list_1, (is.segment, tt)),
                  ),
                ),
              ),
            ),
          ),
        ),
      ),
    ),
  ),
)

same_motion : (m : Motion) (a b : Option Vector) → a ≡ m.list_0 → b ≡ m.list_1 → record { list_0 = a; list_1 = b } ≡ m
same_motion m a b p q = rw (p, q) refl

vector_of : (v : Option Vector) (code : ℕ) (mv : Mv) → code ≡ list_code v → mv ≡ mv_of v → vector_in code mv ≡ v
vector_of v code mv p q = rw (p, q) (vector_found v)

pub motion_found : (p : PlaceModes) (m : Motion) → IsModes p → IsMotion m
    → motion_in (vectors_word m) (modes_word p m) ≡ m
motion_found p m is motion =
    let fits = modes_fit p m is motion in
    let a = is_mv m.list_0 motion.list_0 in
    let b = is_mv m.list_1 motion.list_1 in
    same_motion m _ _
    (vector_of m.list_0 _ _ (field_found (mode_fields p m) 9 fits) (lower_found (mv_of m.list_0) (mv_of m.list_1) a b))
    (vector_of m.list_1 _ _ (field_found (mode_fields p m) 10 fits) (upper_found (mv_of m.list_0) (mv_of m.list_1) a b))

pub modes_found : (p : PlaceModes) (m : Motion) → IsModes p → IsMotion m → modes_in (modes_word p m) ≡ p
modes_found p m is motion =
    let fits = modes_fit p m is motion in
    let found = λ (k : ℕ). field_found (mode_fields p m) k fits in
    let qp = found 0 in
    let luma_mode = found 1 in
    let depth = found 2 in
    let skipped = ap (λ (n : ℕ). n == 1) (found 3) ∙ bool_again p.side.skipped in
    let intra = ap (λ (n : ℕ). n == 1) (found 4) ∙ bool_again p.side.intra in
    let left = found 5 in
    let top = found 6 in
    let kept = ap (λ (n : ℕ). n == 1) (found 7) ∙ bool_again p.kept in
    let coded = ap (λ (n : ℕ). n == 1) (found 8) ∙ bool_again p.coded in
    let segment = found 11 in
    rw (qp, luma_mode, depth, skipped, intra, left, top, kept, coded, segment) refl
