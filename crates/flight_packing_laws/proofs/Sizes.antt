-- A unit's samples and places, counted from its first ones, by those of its picture.
use Rattle.std.proofs.Common.{◌≡◌, ℕ, zero, suc, ◌+◌, ◌-◌, ◌*◌, ◌/◌, ◌%◌, ◌^◌, ◌<◌, ◌≤◌, ◌==◌, min, Bool, true, false}
use Rattle.std.proofs.Common.{ap, ◌∙◌, arith, if◌then◌else◌}
use Rattle.std.proofs.Math.Nat.{mul-le-mul_left}
use Rattle.std.proofs.lemmas.Nat.{div_below, div-mul-add}
use Rattle.spec_slice_data.specs.Residual.{samples_of_place}
use Rattle.sample_words.specs.Contents.{component_side}

-- a multiple of a smallest coding block's side is one of eight
pub eighth : (n m : ℕ) → m ≤ 3 → n % 2 ^ (m + 3) ≡ 0 → n % 8 ≡ 0
eighth n zero few e = e
eighth n (suc zero) few e = let h : n % 16 ≡ 0 = e in omega (arith, h)
eighth n (suc (suc zero)) few e = let h : n % 32 ≡ 0 = e in omega (arith, h)
eighth n (suc (suc (suc zero))) few e = let h : n % 64 ≡ 0 = e in omega (arith, h)
eighth n (suc (suc (suc (suc m)))) few e = absurd (omega (arith, few))

-- so many blocks cover a side of up to 8192 samples
pub few_blocks : (side samples k : ℕ) → 16 ≤ side → samples ≤ 8192 → k < (samples + (side - 1)) / side → k < 512
few_blocks side samples k wide few less =
    let most : 512 * 16 ≤ 512 * side = mul-le-mul_left 512 wide in
    let more : 513 * side ≡ 512 * side + side = omega arith in
    let room : samples + (side - 1) < 513 * side = omega (arith, most, more, few, wide) in
    let below = div_below (samples + (side - 1)) side 513 (omega (arith, wide)) room in
    omega (arith, below, less)

-- the first place of the unit in a column
pub place_at : (n c i : ℕ) → c * (4 * n) / 4 + i ≡ n * c + i
place_at n c i =
    let e : c * (4 * n) ≡ n * c * 4 + 0 = grind arith in
    ap (λ m. m / 4 + i) e ∙ ap (λ m. m + i) (div-mul-add (n * c) 4 0 (omega arith))

-- a place of it lies in the picture
pub record IsPlaceIn (n c w i : ℕ) : Type 0 where
  pub small : i < n
  pub there : n * c + i < w / 4

pub place_in : (n c w i : ℕ) → i < min (4 * n) (w - c * (4 * n)) / 4 → IsPlaceIn n c w i
place_in n c w i less =
    let e : c * (4 * n) ≡ 4 * (n * c) = grind arith in
    record { small = omega (arith, less, e); there = omega (arith, less, e) }

-- the same of samples of a component, of which a place has s on a side, and the unit's first one
pub record IsSampleAt (s n c w i start : ℕ) : Type 0 where
  pub small : i < s * n
  pub there : s * n * c + i < s * (w / 4)
  pub first : start ≡ s * n * c

abbrev pub IsSampleIn : ℕ → ℕ → ℕ → ℕ → ℕ → Type 0
IsSampleIn component n c w i =
    IsSampleAt (samples_of_place component) n c w i (component_side component (c * (4 * n)))

sample_by : (b : Bool) (n c w i : ℕ) → w % 8 ≡ 0
    → i < (if b then min (4 * n) (w - c * (4 * n)) else min (4 * n) (w - c * (4 * n)) / 2)
    → IsSampleAt (if b then 4 else 2) n c w i (if b then c * (4 * n) else c * (4 * n) / 2)
sample_by true n c w i whole less =
    let e : c * (4 * n) ≡ 4 * n * c = grind arith in
    let few : i < min (4 * n) (w - c * (4 * n)) = less in
    record { small = omega (arith, few); there = omega (arith, few, e, whole); first = e }
sample_by false n c w i whole less =
    let e : c * (4 * n) ≡ 2 * (2 * n * c) = grind arith in
    let few : i < min (4 * n) (w - c * (4 * n)) / 2 = less in
    record { small = omega (arith, few); there = omega (arith, few, e, whole); first = omega (arith, e) }

pub sample_in : (component n c w i : ℕ) → w % 8 ≡ 0 → i < component_side component (min (4 * n) (w - c * (4 * n)))
    → IsSampleIn component n c w i
sample_in component n c w i whole less = sample_by (component == 0) n c w i whole less
