-- Samples of pulse code modulation fit in 16 bits.
use Rattle.std.proofs.Common.{◌≡◌, ◌∙◌, ℕ, ◌+◌, ◌-◌, ◌*◌, ◌^◌, ◌<◌, ◌≤◌, List, get_or, ap, sym, subst, arith}
use Rattle.std.proofs.Math.Nat.{mul-lt-mul_of_pos_right, mul-mul-mul_comm}
use Rattle.std.proofs.Math.Nat.{pow-le-pow_right}
use Rattle.std.proofs.lemmas.Nat.{pow-add, pow_pos, mul-pow}
use Rattle.ctu_build.proofs.Sizes.{chroma_side, luma_side}
use Rattle.ctu_records.specs.declared.item.Item.{Item}
use Rattle.ctu_records.specs.declared.item.Item.TheVariants.{Sample}
use Rattle.ctu_records.specs.declared.item.Square.{Square}
use Rattle.spec_reconstruction.specs.declared.format.UnitFormat.{UnitFormat}
use Rattle.spec_reconstruction.specs.Pulses.{sample_of}
use Rattle.spec_reconstruction.specs.Sound.{HasPulses, IsFormat}

-- a sample that is shifted up to its bit depth
pulse_small : (depth bits value places : ℕ) → depth ≤ 14 → bits ≤ depth → places ≡ depth - bits → value < 2 ^ bits
    → value * 2 ^ places < 65536
pulse_small depth bits value places deep few e below =
    let whole : bits + places ≡ depth = omega (arith, few, e) in
    let power : 2 ^ bits * 2 ^ places ≡ 2 ^ depth = sym (pow-add 2 bits places) ∙ ap (λ k. 2 ^ k) whole in
    let most : 2 ^ depth ≤ 2 ^ 14 = pow-le-pow_right {n = 2} (omega arith) deep in
    let product : value * 2 ^ places < 2 ^ bits * 2 ^ places = mul-lt-mul_of_pos_right below (pow_pos places) in
    omega (arith, power, most, product)

-- how many samples a square of so many places has
squares : (a k : ℕ) → a * 2 ^ k * (a * 2 ^ k) ≡ a * a * 4 ^ k
squares a k = mul-mul-mul_comm a (2 ^ k) a (2 ^ k) ∙ ap (λ p. a * a * p) (sym (mul-pow 2 2 k))

pub luma_area : (k : ℕ) → 2 ^ (k + 2) * 2 ^ (k + 2) ≡ 16 * 4 ^ k
luma_area k = ap (λ n. n * n) (luma_side k) ∙ squares 4 k

pub chroma_area : (k : ℕ) → 2 ^ (k + 1) * 2 ^ (k + 1) ≡ 4 * 4 ^ k
chroma_area k = ap (λ n. n * n) (chroma_side k) ∙ squares 2 k

-- those of a component, by how many it has and where they begin
pub luma_small : (format : UnitFormat) (square : Square) (items : List Item) (places log2 : ℕ) → IsFormat format
    → HasPulses format square items → places ≡ format.luma_depth - format.pcm_luma_bits → log2 ≡ square.log2_size + 2
    → (k : ℕ) → k < 2 ^ log2 * 2 ^ log2
    → sample_of (get_or items (0 + k) (Sample 0)) * 2 ^ places < 65536
luma_small format square items places log2 fits has e size k below =
    let area : 2 ^ log2 * 2 ^ log2 ≡ 16 * 4 ^ square.log2_size =
    ap (λ n. 2 ^ n * 2 ^ n) size ∙ luma_area square.log2_size in
    pulse_small format.luma_depth format.pcm_luma_bits _ places fits.luma.1 fits.pcm_luma e
    (has.luma (0 + k) (omega (arith, area, below)))

pub chroma_small : (format : UnitFormat) (square : Square) (items : List Item) (places first log2 : ℕ)
    → IsFormat format → HasPulses format square items → places ≡ format.chroma_depth - format.pcm_chroma_bits
    → log2 ≡ square.log2_size + 1 → 16 * 4 ^ square.log2_size ≤ first → first ≤ 20 * 4 ^ square.log2_size
    → (k : ℕ) → k < 2 ^ log2 * 2 ^ log2
    → sample_of (get_or items (first + k) (Sample 0)) * 2 ^ places < 65536
chroma_small format square items places first log2 fits has e size begins ends k below =
    let area : 2 ^ log2 * 2 ^ log2 ≡ 4 * 4 ^ square.log2_size =
    ap (λ n. 2 ^ n * 2 ^ n) size ∙ chroma_area square.log2_size in
    pulse_small format.chroma_depth format.pcm_chroma_bits _ places fits.chroma.1 fits.pcm_chroma e
    (has.chroma (first + k) (omega (arith, begins)) (omega (arith, area, below, ends)))
