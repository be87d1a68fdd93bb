-- What is drawn is in its ranges.
use Rattle.std.proofs.Common.{◌≡◌, ℕ, zero, suc, ◌<◌, true, false, Bool, List, [], ◌∷◌, length, map, All}
use Rattle.std.proofs.Common.{refl, ap, arith}
use Rattle.std.proofs.lemmas.List.Elements.{All-nil, All-cons}
use Rattle.rand_pcg.specs.Lcg.{Lcg}
use Rattle.spec_made.specs.Draws.{draws, low_bits, pcm_unit_of, all_of, shift_of, motion_of}
use Rattle.made_row_laws.specs.Units.{HasSamples, ArePcmUnits, IsShift, IsMotion}
use Rattle.made_row_laws.proofs.Short.{unit_samples}

low_all : (words : List ℕ) → All (λ v. v < 256) (map low_bits words)
low_all [] = All-nil (λ v. v < 256)
low_all (w ∷ words) = All-cons (λ v. v < 256) (low_bits w) (map low_bits words) (omega arith) (low_all words)

unit_bytes : (g : Lcg) → All (λ v. v < 256) (pcm_unit_of g).0.samples
unfolding pcm_unit_of
unit_bytes g = low_all (draws 384 _).0

units_all : (n : ℕ) (g : Lcg) → All HasSamples (all_of pcm_unit_of n g).0
unfolding all_of
units_all zero g = All-nil HasSamples
units_all (suc n) g =
    let unit : HasSamples (pcm_unit_of g).0 = record { count = unit_samples g; bytes = unit_bytes g } in
    All-cons HasSamples (pcm_unit_of g).0 (all_of pcm_unit_of n (pcm_unit_of g).1).0 unit
    (units_all n (pcm_unit_of g).1)

units_count : (n : ℕ) (g : Lcg) → length (all_of pcm_unit_of n g).0 ≡ n
unfolding all_of
units_count zero g = refl
units_count (suc n) g = ap suc (units_count n (pcm_unit_of g).1)

pub are_drawn : (g : Lcg) → ArePcmUnits (all_of pcm_unit_of 48 g).0
are_drawn g = record { count = units_count 48 g; each = units_all 48 g }

shift_small : (g : Lcg) → IsShift (shift_of g).0
unfolding shift_of
shift_small g = (omega arith, omega arith)

pub motion_small : (both : Bool) (g : Lcg) → IsMotion (motion_of both g).0
unfolding motion_of
motion_small false g = (shift_small g, tt)
motion_small true g = (shift_small g, shift_small (shift_of g).1)
