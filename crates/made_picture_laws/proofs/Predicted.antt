-- P and B pictures are decoded as they are drawn: each sample is one of the reference, or the mean of two.
use Rattle.std.proofs.Common.{◌≡◌, ℕ, zero, suc, ◌+◌, ◌/◌, ◌<◌, cond, Bool, true, false, List, [], ◌∷◌}
use Rattle.std.proofs.Common.{get_or, length, Some, None, ℤ, pos, ◌+ℤ◌, ◌*ℤ◌, refl, ap, ◌∙◌, arith}
use Rattle.std.specs.Prelude.{◌==◌}
use Rattle.spec_inter_prediction.specs.declared.tables.SliceWeighting.{SliceWeighting}
use Rattle.spec_inter_prediction.specs.declared.tables.SliceWeighting.TheVariants as slice_weights
use Rattle.spec_inter_prediction.specs.Chroma.{chroma_sample}
use Rattle.spec_inter_prediction.specs.Luma.{luma_sample}
use Rattle.spec_inter_prediction.specs.Tables.{weighting_of}
use Rattle.spec_inter_prediction.specs.Weighting.{default_one, default_two, weighted_one, weighted_two}
use Rattle.spec_motion.specs.Vectors.{reference_in}
use Rattle.spec_reconstruction.specs.declared.format.UnitFormat.{UnitFormat}
use Rattle.spec_reconstruction.specs.Inter.{InterUnit, Pictures, inter_sample, predicted_by, sample_by}
use Rattle.spec_reconstruction.specs.Parameters.{depth_of}
use Rattle.spec_made.specs.declared.units.Shift.{Shift}
use Rattle.spec_made.specs.Planes.{mean_of}
use Rattle.made_sample_laws.specs.Units.{HasEightBits}
use Rattle.made_sample_laws.proofs.Copying.{chroma, luma, one, two}
use Rattle.made_picture_laws.specs.Motion.{motion_drawn, vector_at}
use Rattle.made_picture_laws.proofs.Vectors.{chroma_step, luma_step, steps}

both_eight : (b : Bool) (v w : ℕ) → v ≡ 8 → w ≡ 8 → cond b v w ≡ 8
both_eight true v w e f = e
both_eight false v w e f = f

depth_is : (format : UnitFormat) (c : ℕ) → HasEightBits format → depth_of format c ≡ 8
depth_is format c eight = both_eight (c == 0) format.luma_depth format.chroma_depth eight.luma eight.chroma

-- the sample of a reference that a vector leads to
abbrev pub led_to : Pictures → ℕ → ℕ → Shift → ℕ → ℕ → ℕ
led_to pictures place c s x y = pictures place c (pos x +ℤ steps c s.across) (pos y +ℤ steps c s.down)

luma_copied : (reference : ℤ → ℤ → ℕ) (depth : ℕ) (across down : ℤ) (s : Shift) (x y : ℕ) → depth ≡ 8
    → across ≡ pos 4 *ℤ steps 0 s.across → down ≡ pos 4 *ℤ steps 0 s.down
    → luma_sample depth reference across down x y
    ≡ pos 64 *ℤ pos (reference (pos x +ℤ steps 0 s.across) (pos y +ℤ steps 0 s.down))
luma_copied reference depth across down s x y e a b =
    rw (e, a, b) (luma reference (steps 0 s.across) (steps 0 s.down) x y)

chroma_copied : (reference : ℤ → ℤ → ℕ) (depth : ℕ) (across down : ℤ) (s : Shift) (x y : ℕ) → depth ≡ 8
    → across ≡ pos 8 *ℤ steps 1 s.across → down ≡ pos 8 *ℤ steps 1 s.down
    → chroma_sample depth reference across down x y
    ≡ pos 64 *ℤ pos (reference (pos x +ℤ steps 1 s.across) (pos y +ℤ steps 1 s.down))
chroma_copied reference depth across down s x y e a b =
    rw (e, a, b) (chroma reference (steps 1 s.across) (steps 1 s.down) x y)

copied : (format : UnitFormat) (inter : InterUnit) (list c : ℕ) (s : Shift) (x y : ℕ) → HasEightBits format → c < 3
    → predicted_by format inter list c (vector_at s) x y
    ≡ pos 64 *ℤ pos (led_to inter.pictures (reference_in inter.slice list 0).picture c s x y)
unfolding predicted_by
copied format inter list zero s x y eight least =
    luma_copied (inter.pictures (reference_in inter.slice list 0).picture 0) format.luma_depth _ _ s x y eight.luma
    (luma_step s.across) (luma_step s.down)
copied format inter list (suc zero) s x y eight least =
    chroma_copied (inter.pictures (reference_in inter.slice list 0).picture 1) format.chroma_depth _ _ s x y
    eight.chroma (chroma_step s.across) (chroma_step s.down)
copied format inter list (suc (suc zero)) s x y eight least =
    chroma_copied (inter.pictures (reference_in inter.slice list 0).picture 2) format.chroma_depth _ _ s x y
    eight.chroma (chroma_step s.across) (chroma_step s.down)
copied format inter list (suc (suc (suc c))) s x y eight least = absurd (omega arith)

default_weights : (w : SliceWeighting) (depth c i j list : ℕ) (p : ℤ) → w ≡ slice_weights.Default
    → weighted_one depth (weighting_of w c i j) list p ≡ default_one depth p
unfolding weighted_one
default_weights w depth c i j list p e = rw e refl

default_both : (w : SliceWeighting) (depth c i j : ℕ) (p q : ℤ) → w ≡ slice_weights.Default
    → weighted_two depth (weighting_of w c i j) p q ≡ default_two depth p q
unfolding weighted_two
default_both w depth c i j p q e = rw e refl

-- a sample by one vector, and by two
pub by_one : (format : UnitFormat) (inter : InterUnit) (c : ℕ) (s : Shift) (x y v : ℕ) → HasEightBits format → c < 3
    → inter.weighting ≡ slice_weights.Default
    → led_to inter.pictures (reference_in inter.slice 0 0).picture c s x y ≡ v → v < 256
    → inter_sample format inter c (motion_drawn (record { first = s; second = None })) x y ≡ v
unfolding sample_by
by_one format inter c s x y v eight least weighting is small =
    default_weights inter.weighting (depth_of format c) c 0 0 0 (predicted_by format inter 0 c (vector_at s) x y)
    weighting
    ∙ ap (λ d. default_one d (predicted_by format inter 0 c (vector_at s) x y)) (depth_is format c eight)
    ∙ ap (default_one 8) (copied format inter 0 c s x y eight least ∙ ap (λ k. pos 64 *ℤ pos k) is)
    ∙ one v small

pub by_two : (format : UnitFormat) (inter : InterUnit) (c : ℕ) (s t : Shift) (x y v w : ℕ) → HasEightBits format → c < 3
    → inter.weighting ≡ slice_weights.Default
    → led_to inter.pictures (reference_in inter.slice 0 0).picture c s x y ≡ v → v < 256
    → led_to inter.pictures (reference_in inter.slice 1 0).picture c t x y ≡ w → w < 256
    → inter_sample format inter c (motion_drawn (record { first = s; second = Some t })) x y ≡ (v + w + 1) / 2
unfolding sample_by
by_two format inter c s t x y v w eight least weighting is small also few =
    let p : ℤ = predicted_by format inter 0 c (vector_at s) x y in
    let q : ℤ = predicted_by format inter 1 c (vector_at t) x y in
    default_both inter.weighting (depth_of format c) c 0 0 p q weighting
    ∙ ap (λ d. default_two d p q) (depth_is format c eight)
    ∙ ap (λ k. default_two 8 k q) (copied format inter 0 c s x y eight least ∙ ap (λ k. pos 64 *ℤ pos k) is)
    ∙ ap (λ k. default_two 8 (pos 64 *ℤ pos v) k) (copied format inter 1 c t x y eight least ∙ ap (λ k. pos 64 *ℤ pos
    k) also)
    ∙ two v w small few

-- ---- the mean of planes

pub mean_at : (first second : List ℕ) (k : ℕ) → k < length first → k < length second
    → get_or (mean_of first second) k 0 ≡ (get_or first k 0 + get_or second k 0 + 1) / 2
mean_at [] second k a b = absurd (omega arith)
mean_at (v ∷ first) [] k a b = absurd (omega arith)
mean_at (v ∷ first) (w ∷ second) zero a b = refl
mean_at (v ∷ first) (w ∷ second) (suc k) a b = mean_at first second k (omega arith) (omega arith)
