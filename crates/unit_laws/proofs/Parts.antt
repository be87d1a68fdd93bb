-- The parts of a coding unit see those before them.
use Rattle.std.proofs.Common.{◌≡◌, ℕ, ◌/◌, ◌%◌, ◌^◌, ◌<◌, ◌≤◌, Bool, true, false, not, ◌&&◌, ◌||◌, refl, arith}
use Rattle.std.specs.Prelude.{nat_le, nat_lt}
use Rattle.std.specs.List.{list_all, range_with_len}
use Rattle.std.proofs.lemmas.Bool.{and_from, le-leb, lt-ltb}
use Rattle.std.proofs.lemmas.List.Sums.{AllPass-from_list_all}
use Rattle.ctu_records.specs.declared.prediction.PartMode.{PartMode}
use Rattle.ctu_records.specs.declared.prediction.PartMode.TheVariants.{Whole, TwoNxN, Nx2N, NxN, TwoNxnU, TwoNxnD}
use Rattle.ctu_records.specs.declared.prediction.PartMode.TheVariants.{NLx2N, NRx2N}
use Rattle.ctu_records.specs.Prediction.{part_of}
use Rattle.spec_slice_data.specs.Inter.{part_count}
use Rattle.unit_laws.proofs.ScanOrder.{implied, tested_pair}
use Rattle.unit_laws.specs.Parts.{AreLaidBefore, Beside, block_of, candidate_places, is_in_parts, is_part_available}
use Rattle.unit_laws.specs.Parts.{is_same_unit, least_side}

same : Bool → Bool → Bool
same true b = b
same false b = not b

same_is : (a b : Bool) → same a b ≡ true → a ≡ b
unfolding same
same_is true true e = refl
same_is true false e = absurd cc
same_is false true e = absurd cc
same_is false false e = refl

place_ok : ℕ → PartMode → ℕ → Beside → Bool
place_ok side mode part place =
    not (is_same_unit side place) || same (is_in_parts side mode part place) (is_part_available side mode part place)

part_ok : PartMode → ℕ → ℕ → Bool
part_ok mode log2 part =
    not (nat_le (least_side mode) log2 && (nat_le log2 4 && nat_lt part (part_count mode)))
    || list_all (place_ok (2 ^ log2) mode part) (candidate_places (block_of (2 ^ log2) mode part))

parts_all : (mode : PartMode) → list_all (λ j. part_ok mode (j / 16) (j % 16)) (range_with_len 0 256) ≡ true
unfolding part_ok place_ok same part_of part_count
parts_all Whole = refl
parts_all TwoNxN = refl
parts_all Nx2N = refl
parts_all NxN = refl
parts_all TwoNxnU = refl
parts_all TwoNxnD = refl
parts_all NLx2N = refl
parts_all NRx2N = refl

few_parts : (mode : PartMode) → part_count mode ≤ 4
unfolding part_count
few_parts Whole = omega arith
few_parts TwoNxN = omega arith
few_parts Nx2N = omega arith
few_parts NxN = omega arith
few_parts TwoNxnU = omega arith
few_parts TwoNxnD = omega arith
few_parts NLx2N = omega arith
few_parts NRx2N = omega arith

pub laid_before : (mode : PartMode) (log2 part : ℕ) → least_side mode ≤ log2 → log2 ≤ 4 → part < part_count mode
    → AreLaidBefore (2 ^ log2) mode part
unfolding part_ok place_ok
laid_before mode log2 part least most inside =
    let few = few_parts mode in
    let ok = tested_pair (part_ok mode) (parts_all mode) log2 part (omega (arith, most)) (omega (arith, inside, few)) in
    let asked =
    and_from _ _ (le-leb (least_side mode) log2 least) (and_from _ _ (le-leb log2 4 most) (lt-ltb _ _ inside)) in
    let all = AllPass-from_list_all (place_ok (2 ^ log2) mode part)
    (candidate_places (block_of (2 ^ log2) mode part)) (implied _ _ asked ok) in
    λ k d below held. same_is _ _ (implied _ _ held (all k d below))
