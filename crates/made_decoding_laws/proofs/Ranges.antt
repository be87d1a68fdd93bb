-- The pictures that others refer to have samples of 8 bits.
use Rattle.std.proofs.Common.{ℕ, zero, suc, ◌+◌, ◌-◌, ◌*◌, ◌/◌, ◌%◌, ◌<◌, cond, Bool, true, false}
use Rattle.std.proofs.Common.{List, get_or, length, replicate, All, sym, subst, arith, inl, inr}
use Rattle.std.specs.Prelude.{◌==◌}
use Rattle.std.proofs.lemmas.List.{get_or_past}
use Rattle.std.proofs.lemmas.Bool.{cases_lt}
use Rattle.spec_made.specs.declared.units.PcmUnit.{PcmUnit}
use Rattle.spec_made.specs.Draws.{motion_of, pcm_units_of, shift_of}
use Rattle.spec_made.specs.PcmRows.{no_samples}
use Rattle.spec_made.specs.Planes.{Component, blank, cb, cr, luma, no_planes, pcm_planes, pcm_sample, place_in_unit}
use Rattle.spec_made.specs.Stream.{Making, idr_made, inter_made, picture_made}
use Rattle.made_laws.specs.Streams.{making_at}
use Rattle.made_row_laws.specs.Units.{ArePcmUnits}
use Rattle.made_row_laws.proofs.Ranges.{are_drawn}
use Rattle.made_picture_laws.specs.Pictures.{AreBytes}
use Rattle.made_picture_laws.proofs.Planes.{plane_at_16, plane_at_8}
use Rattle.made_picture_laws.proofs.Vectors.{moved_bytes}
use Rattle.made_decoding_laws.specs.References.{AreMade}

-- ---- before the first picture

zeros : (n k : ℕ) → get_or (replicate n 0) k 0 < 256
zeros zero k = omega arith
zeros (suc n) zero = omega arith
zeros (suc n) (suc k) = zeros n k

blank_low : (n k : ℕ) → get_or (blank n) k 0 < 256
unfolding blank
blank_low n k = zeros n k

none_bytes : AreBytes no_planes
unfolding no_planes
none_bytes zero x y least few low = blank_low 12288 (128 * y + x)
none_bytes (suc zero) x y least few low = blank_low 3072 (64 * y + x)
none_bytes (suc (suc zero)) x y least few low = blank_low 3072 (64 * y + x)
none_bytes (suc (suc (suc c))) x y least few low = absurd (omega arith)

-- ---- IDR pictures

any_byte : (samples : List ℕ) → All (λ v. v < 256) samples → (k : ℕ) → get_or samples k 0 < 256
any_byte samples bytes k =
    elim (cases_lt k (length samples)) [
      | inl inside ↦ bytes k 0 inside
      | inr past ↦ subst (λ v. v < 256) (sym (get_or_past samples k 0 past)) (omega arith)
    ]

unit_byte : (units : List PcmUnit) → ArePcmUnits units → (i k : ℕ) → i < 48
    → get_or (get_or units i no_samples).samples k 0 < 256
unit_byte units are i k inside =
    any_byte (get_or units i no_samples).samples (are.each i no_samples (omega (arith, are.count))).bytes k

sample_byte : (units : List PcmUnit) → ArePcmUnits units → (c : Component) (x y : ℕ)
    → 8 * (y / c.side) + x / c.side < 48 → pcm_sample units c x y < 256
unfolding pcm_sample
sample_byte units are c x y inside =
    let i : ℕ = 8 * (y / c.side) + x / c.side in
    unit_byte units are i (place_in_unit c (get_or units i no_samples) (x % c.side) (y % c.side)) inside

pub pcm_bytes : (units : List PcmUnit) → ArePcmUnits units → AreBytes (pcm_planes units)
pcm_bytes units are zero x y least few low =
    subst (λ v. v < 256) (sym (plane_at_16 (pcm_sample units luma) x y few low))
    (sample_byte units are luma x y (omega arith))
pcm_bytes units are (suc zero) x y least few low =
    subst (λ v. v < 256) (sym (plane_at_8 (pcm_sample units cb) x y few low))
    (sample_byte units are cb x y (omega arith))
pcm_bytes units are (suc (suc zero)) x y least few low =
    subst (λ v. v < 256) (sym (plane_at_8 (pcm_sample units cr) x y few low))
    (sample_byte units are cr x y (omega arith))
pcm_bytes units are (suc (suc (suc c))) x y least few low = absurd (omega arith)

-- ---- one picture behind the other

next_made : (idr p : Bool) (one two : ℕ) (m : Making) → AreMade m
    → AreMade (cond {A = List ℕ × Making} idr (idr_made m)
    (cond {A = List ℕ × Making} p (inter_made false one m) (inter_made true two m))).1
unfolding idr_made inter_made motion_of
next_made true p one two m made = record {
  older = made.older;
  last = pcm_bytes (pcm_units_of m.generator).0 (are_drawn m.generator);
}
next_made false true one two m made =
    record { older = made.last; last = moved_bytes m.last (shift_of m.generator).0 made.last }
next_made false false one two m made = record { older = made.older; last = made.last }

behind_made : (g : ℕ) (m : Making) → AreMade m → AreMade (picture_made g m).1
unfolding picture_made
behind_made g m made = next_made (g == 0) (g % 2 == 1) (g + 1) (g - 1) m made

pub are_made : (seed j : ℕ) → AreMade (making_at seed j)
unfolding making_at
are_made seed zero = record { older = none_bytes; last = none_bytes }
are_made seed (suc j) = behind_made (j % 8) (making_at seed j) (are_made seed j)
