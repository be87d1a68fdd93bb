-- What is laid over samples in range is in range.
use Rattle.std.proofs.Common.{◌≡◌, ℕ, ◌+◌, ◌-◌, ◌*◌, ◌^◌, ◌<◌, ◌≤◌, ℤ, pos, ◌+ℤ◌, true, List, Option, Some, None}
use Rattle.std.proofs.Common.{ap, sym, subst, ◌∙◌, arith}
use Rattle.std.specs.Prelude.{◌==◌, ◌&&◌, nat_le, nat_lt}
use Rattle.std.proofs.Math.Nat.{mul_comm, mul-lt-mul_of_pos_right, mul-mul-mul_comm}
use Rattle.std.proofs.Math.Pow.{lt_of_le_ones}
use Rattle.std.proofs.lemmas.Bool.{and_parts, leb-true, ltb-true, eqb-true}
use Rattle.std.proofs.lemmas.Nat.{pow-add, pow_pos, mul-add-lt, mul-pow}
use Rattle.spec_arithmetic.specs.Clipping.{clip1}
use Rattle.ctu_records.specs.declared.item.Item.{Item}
use Rattle.ctu_records.specs.declared.item.Square.{Square}
use Rattle.ctu_records.specs.declared.prediction.PredictionUnit.{PredictionUnit}
use Rattle.ctu_records.specs.declared.prediction.Rectangle.{Rectangle}
use Rattle.ctu_records.specs.Places.{inside}
use Rattle.ctu_records.specs.Prediction.{is_inside, part_block, rectangle}
use Rattle.spec_motion.specs.declared.vectors.Motion.{Motion}
use Rattle.spec_motion.specs.declared.vectors.Vector.{Vector}
use Rattle.spec_inter_prediction.specs.declared.weighting.Weighting.{Weighting}
use Rattle.spec_inter_prediction.specs.declared.weighting.Weighting.TheVariants.{Default, Explicit}
use Rattle.spec_inter_prediction.specs.Weighting.{weighted_one, weighted_two, default_one, default_two, explicit_one}
use Rattle.spec_inter_prediction.specs.Weighting.{explicit_two}
use Rattle.unit_laws.specs.SpecReconstruction.{UnitFormat}
use Rattle.unit_laws.specs.SpecReconstruction.{InterUnit, motion_weighting, sample_by, samples_of, rectangle_laid}
use Rattle.unit_laws.specs.SpecReconstruction.{component_predicted, block_predicted_by, prediction_laid}
use Rattle.unit_laws.specs.SpecReconstruction.{Known, changed, laid, with_residual, constructed}
use Rattle.unit_laws.specs.SpecReconstruction.{depth_of}
use Rattle.unit_laws.specs.SpecReconstruction.{pulses_laid}
use Rattle.unit_laws.specs.SpecReconstruction.{IsFormat, HasPulses}
use Rattle.sample_laws.specs.Ranges.{IsInRange, AreInRange}
use Rattle.sample_laws.proofs.Means.{case_holds, clip_most}

record IsPlace (n i j : ℕ) : Type 0 where
  column : i < n
  line : j < n

place_in_square : (x y n column line : ℕ) → inside x y n column line ≡ true → IsPlace n (column - x) (line - y)
place_in_square x y n column line held =
    let parts = and_parts (nat_le x column && nat_lt column (x + n)) _ held in
    let across = and_parts (nat_le x column) _ parts.0 in
    let down = and_parts (nat_le y line) _ parts.1 in
    let left = leb-true x column across.0 in
    let right = ltb-true column (x + n) across.1 in
    let above = leb-true y line down.0 in
    let below = ltb-true line (y + n) down.1 in
    record { column = omega (arith, left, right); line = omega (arith, above, below) }

-- a part of a component that is in range
part_in_range : (format : UnitFormat) (c component : ℕ) (part : Option ℕ) → (component == c) ≡ true
    → IsInRange (depth_of format c) part → IsInRange (depth_of format component) part
part_in_range format c component part same is =
    subst (λ k. IsInRange (depth_of format k) part) (sym (eqb-true component c same)) is

changed_in_range : (format : UnitFormat) (c x y n : ℕ) (change : ℕ → ℕ → Option ℕ → Option ℕ) (known : Known)
    → ((i j : ℕ) (before : Option ℕ) → i < n → j < n → IsInRange (depth_of format c) before
    → IsInRange (depth_of format c) (change i j before))
    → AreInRange format known → AreInRange format (changed c x y n change known)
unfolding changed
changed_in_range format c x y n change known each ranged component column line =
    case_holds (IsInRange (depth_of format component)) (component == c && inside (x + 1) (y + 1) n column line) _
    (known component column line)
    (λ held.
    let parts = and_parts (component == c) _ held in
    let place = place_in_square (x + 1) (y + 1) n column line parts.1 in
    let before =
    subst (λ k. IsInRange (depth_of format k) (known component column line)) (eqb-true component c parts.0)
    (ranged component column line) in
    part_in_range format c component _ parts.0
    (each (column - (x + 1)) (line - (y + 1)) (known component column line) place.column place.line before))
    (λ held. ranged component column line)

pub laid_in_range : (format : UnitFormat) (c x y n : ℕ) (block : ℕ → ℕ → ℕ) (known : Known)
    → ((i j : ℕ) → i < n → j < n → block i j < 2 ^ depth_of format c)
    → AreInRange format known → AreInRange format (laid c x y n block known)
laid_in_range format c x y n block known each ranged =
    changed_in_range format c x y n (λ i j before. Some (block i j)) known
    (λ i j before column line is. each i j column line) ranged

-- a sample is clipped
clip_below : (depth : ℕ) (v : ℤ) → clip1 depth v < 2 ^ depth
clip_below depth v = lt_of_le_ones depth (clip_most (2 ^ depth - 1) v)

residual_in_range : (depth : ℕ) (residual : ℤ) (before : Option ℕ)
    → IsInRange depth (with_residual depth residual before)
residual_in_range depth residual None = tt
residual_in_range depth residual (Some sample) = clip_below depth (pos sample +ℤ residual)

pub constructed_in_range : (format : UnitFormat) (c x y n : ℕ) (residuals : ℕ → ℕ → ℤ) (known : Known)
    → AreInRange format known → AreInRange format (constructed (depth_of format c) c x y n residuals known)
constructed_in_range format c x y n residuals known ranged =
    changed_in_range format c x y n (λ i j before. with_residual (depth_of format c) (residuals i j) before) known
    (λ i j before column line is. residual_in_range (depth_of format c) (residuals i j) before) ranged

one_in_range : (depth : ℕ) (w : Weighting) (list : ℕ) (p : ℤ) → weighted_one depth w list p < 2 ^ depth
unfolding weighted_one default_one explicit_one
one_in_range depth Default list p = clip_below depth _
one_in_range depth (Explicit w) list p = clip_below depth _

two_in_range : (depth : ℕ) (w : Weighting) (p q : ℤ) → weighted_two depth w p q < 2 ^ depth
unfolding weighted_two default_two explicit_two
two_in_range depth Default p q = clip_below depth _
two_in_range depth (Explicit w) p q = clip_below depth _

sample_in_range : (format : UnitFormat) (inter : InterUnit) (c : ℕ) (w : Weighting) (first second : Option Vector)
    (x y : ℕ)
    → sample_by format inter c w first second x y < 2 ^ depth_of format c
unfolding sample_by
sample_in_range format inter c w None None x y = pow_pos (depth_of format c)
sample_in_range format inter c w (Some v) None x y = one_in_range (depth_of format c) w 0 _
sample_in_range format inter c w None (Some v) x y = one_in_range (depth_of format c) w 1 _
sample_in_range format inter c w (Some v) (Some u) x y = two_in_range (depth_of format c) w _ _

rectangle_in_range : (format : UnitFormat) (c : ℕ) (block : Rectangle) (samples : ℕ → ℕ → ℕ) (known : Known)
    → ((x y : ℕ) → samples x y < 2 ^ depth_of format c)
    → AreInRange format known → AreInRange format (rectangle_laid c block samples known)
unfolding rectangle_laid
rectangle_in_range format c block samples known each ranged component column line =
    case_holds (IsInRange (depth_of format component))
    (component == c && is_inside (rectangle (block.x + 1) (block.y + 1) block.width block.height) column line) _
    (known component column line)
    (λ held.
    let parts = and_parts (component == c) _ held in
    part_in_range format c component (Some (samples (column - 1) (line - 1))) parts.0 (each (column - 1) (line - 1)))
    (λ held. ranged component column line)

component_in_range : (format : UnitFormat) (inter : InterUnit) (block : Rectangle) (motion : Motion) (c : ℕ)
    (known : Known)
    → AreInRange format known → AreInRange format (component_predicted format inter block motion c known)
unfolding component_predicted
component_in_range format inter block motion c known ranged =
    rectangle_in_range format c (samples_of c block) _ known
    (λ x y. sample_in_range format inter c (motion_weighting inter c motion) motion.list_0 motion.list_1 _ _) ranged

predicted_by_in_range : (format : UnitFormat) (inter : InterUnit) (block : Rectangle) (motion : Option Motion)
    (known : Known)
    → AreInRange format known → AreInRange format (block_predicted_by format inter block motion known)
predicted_by_in_range format inter block None known ranged = ranged
predicted_by_in_range format inter block (Some motion) known ranged =
    component_in_range format inter block motion 2 _
    (component_in_range format inter block motion 1 _ (component_in_range format inter block motion 0 known ranged))

pub prediction_in_range : (format : UnitFormat) (inter : InterUnit) (unit : PredictionUnit) (known : Known)
    → AreInRange format known → AreInRange format (prediction_laid format inter unit known)
unfolding prediction_laid
prediction_in_range format inter unit known ranged =
    predicted_by_in_range format inter (part_block unit.unit unit.part_mode unit.part) _ known ranged

-- samples by pulse code modulation
pulse_in_range : (depth bits value : ℕ) → bits ≤ depth → value < 2 ^ bits → value * 2 ^ (depth - bits) < 2 ^ depth
pulse_in_range depth bits value few below =
    let whole : bits + (depth - bits) ≡ depth = omega (arith, few) in
    let power : 2 ^ bits * 2 ^ (depth - bits) ≡ 2 ^ depth =
    sym (pow-add 2 bits (depth - bits)) ∙ ap (λ k. 2 ^ k) whole in
    subst (λ k. value * 2 ^ (depth - bits) < k) power (mul-lt-mul_of_pos_right below (pow_pos (depth - bits)))

in_rows : (n i j : ℕ) → i < n → j < n → n * j + i < n * n
in_rows n i j column line =
    let e : n * j ≡ j * n = mul_comm n j in
    let below : j * n + i < n * n = mul-add-lt j n i n line column in
    omega (arith, e, below)

-- how many samples a square of so many places has
squares : (a k : ℕ) → a * 2 ^ k * (a * 2 ^ k) ≡ a * a * 4 ^ k
squares a k = mul-mul-mul_comm a (2 ^ k) a (2 ^ k) ∙ ap (λ p. a * a * p) (sym (mul-pow 2 2 k))

pub pulses_in_range : (format : UnitFormat) (square : Square) (items : List Item) (known : Known) → IsFormat format
    → HasPulses format square items → AreInRange format known
    → AreInRange format (pulses_laid format square items known)
unfolding pulses_laid
pulses_in_range format square items known fits has ranged =
    let n : ℕ = 4 * 2 ^ square.log2_size in
    let half : ℕ = 2 * 2 ^ square.log2_size in
    let luma : n * n ≡ 16 * 4 ^ square.log2_size = squares 4 square.log2_size in
    let chroma : half * half ≡ 4 * 4 ^ square.log2_size = squares 2 square.log2_size in
    laid_in_range format 2 (2 * square.x) (2 * square.y) half _ _
    (λ i j column line.
    let place = in_rows half i j column line in
    pulse_in_range format.chroma_depth format.pcm_chroma_bits _ fits.pcm_chroma
    (has.chroma (n * n + half * half + half * j + i) (omega (arith, luma)) (omega (arith, luma, chroma, place))))
    (laid_in_range format 1 (2 * square.x) (2 * square.y) half _ _
    (λ i j column line.
    let place = in_rows half i j column line in
    pulse_in_range format.chroma_depth format.pcm_chroma_bits _ fits.pcm_chroma
    (has.chroma (n * n + half * j + i) (omega (arith, luma)) (omega (arith, luma, chroma, place))))
    (laid_in_range format 0 (4 * square.x) (4 * square.y) n _ known
    (λ i j column line.
    let place = in_rows n i j column line in
    pulse_in_range format.luma_depth format.pcm_luma_bits _ fits.pcm_luma
    (has.luma (0 + n * j + i) (omega (arith, luma, place))))
    ranged))
