-- The bytes of a sample spell it.
use Rattle.std.proofs.Common.{◌≡◌, ℕ, zero, suc, ◌+◌, ◌-◌, ◌^◌, ◌<◌, ◌≤◌, Bool, true, false, refl, sym, ◌∙◌, arith}
use Rattle.std.specs.Prelude.{◌==◌, ◌||◌, nat_lt, if◌then◌else◌}
use Rattle.std.proofs.Math.Nat.{pow-le-pow_right}
use Rattle.std.proofs.lemmas.Bool.Decides.{nat_tests}
use Rattle.header_types.specs.declared.sps.PictureFormat.{PictureFormat}
use Rattle.header_types.specs.SequenceParameterSets.{IsPictureFormat}
use Rattle.unit_laws.specs.SpecPictureBuild.{has_two_bytes, sample_bytes}
use Rattle.unit_laws.specs.SpecPictureBuild.{greatest_sample}
use Rattle.sample_laws.specs.Ranges.{number_of}

-- as one byte, or as two
bytes_spell : (two_bytes : Bool) (s : ℕ) → (two_bytes ≡ false → s < 256) → s < 65536
    → number_of (sample_bytes two_bytes s) ≡ s
bytes_spell true s low few = omega (arith, few)
bytes_spell false s low few = omega (arith, low refl)

-- a sample of so many bits has two bytes
in_two_bytes : (depth s : ℕ) → depth ≤ 16 → s ≤ 2 ^ depth - 1 → s < 65536
in_two_bytes depth s least is =
    let most : 2 ^ depth ≤ 2 ^ 16 = pow-le-pow_right (omega arith) least in omega (arith, most, is)

over_8 : (n : ℕ) → nat_lt 0 (suc n) ≡ false → ⊥
over_8 n e =
    let is : nat_lt 0 (suc n) ≡ true = grind (arith, nat_tests) in
    let never : true ≡ false = sym is ∙ e in absurd cc

first_false : (a b : Bool) → (a || b) ≡ false → a ≡ false
first_false true b e = absurd cc
first_false false b e = refl

-- where neither depth is over 8 it has one
in_one_byte : (luma chroma s : ℕ) (first : Bool) → (nat_lt 0 luma || nat_lt 0 chroma) ≡ false
    → s ≤ 2 ^ (if first then 8 + luma else 8 + chroma) - 1 → s < 256
in_one_byte zero zero s true e is = omega (arith, is)
in_one_byte zero zero s false e is = omega (arith, is)
in_one_byte (suc luma) chroma s first e is =
    absurd (over_8 luma (first_false (nat_lt 0 (suc luma)) (nat_lt 0 chroma) e))
in_one_byte zero (suc chroma) s first e is = absurd (over_8 chroma e)

least_of : (first : Bool) (luma chroma : ℕ) → luma ≤ 8 → chroma ≤ 8 → (if first then 8 + luma else 8 + chroma) ≤ 16
least_of true luma chroma p q = omega (arith, p)
least_of false luma chroma p q = omega (arith, q)

pub written_whole : (format : PictureFormat) (c s : ℕ) → IsPictureFormat format → s ≤ greatest_sample format c
    → number_of (sample_bytes (has_two_bytes format) s) ≡ s
written_whole format c s is below =
    let luma : format.bit_depth_luma_minus8 ≤ 8 = omega (arith, is.luma_depth) in
    let chroma : format.bit_depth_chroma_minus8 ≤ 8 = omega (arith, is.chroma_depth) in
    bytes_spell (has_two_bytes format) s
    (λ e. in_one_byte format.bit_depth_luma_minus8 format.bit_depth_chroma_minus8 s (c == 0) e below)
    (in_two_bytes _ s (least_of (c == 0) _ _ luma chroma) below)
