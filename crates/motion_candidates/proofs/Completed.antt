-- The list of merging candidates, by place.
use Rattle.std.proofs.Common.{◌≡◌, ℕ, ◌+◌, ◌-◌, ◌<◌, ◌≤◌, Bool, true, false, option_to_list, List, [], ◌++◌, length}
use Rattle.std.proofs.Common.{take, map, get_or, if◌then◌else◌, refl, sym, ap, ◌∙◌, arith, length-append, IfOk, IfErr}
use Rattle.std.specs.Prelude.{Result, Ok, Err}
use Rattle.std.specs.List.{range_with_len}
use Rattle.std.proofs.Math.ListN.{get_or-eq_default}
use Rattle.std.proofs.lemmas.Bool.Decides.{nat_tests}
use Rattle.std.proofs.lemmas.List.{get_or_append_left, get_or-append_right, get_or-take, get_or-append-add}
use Rattle.std.proofs.lemmas.List.{length-take}
use Rattle.std.proofs.lemmas.List.FromFn.{get_or-map-range_with_len, length-map-range_with_len}
use Rattle.spec_motion.specs.declared.slice_motion.SliceMotion.{SliceMotion}
use Rattle.spec_motion.specs.declared.vectors.Motion.{Motion}
use Rattle.ctu_records.specs.declared.prediction.PredictionUnit.{PredictionUnit}
use Rattle.spec_motion.specs.Merging.{combinations, combined_candidates, completed, found_candidates, merge_block}
use Rattle.spec_motion.specs.Merging.{merge_candidates, spatial_candidates, temporal_candidate, zero_candidate}
use Rattle.spec_motion.specs.Vectors.{Beneath, Known, no_motion}

-- a place of a list, of what fills it, and behind it
front : (full zeros : List Motion) (i : ℕ) (d : Motion) → i < length full → get_or (full ++ zeros) i d ≡ get_or full i d
front full zeros i d lt = get_or_append_left full zeros d i lt

tail : (full : List Motion) (f : ℕ → Motion) (max i : ℕ) (d : Motion) → length full ≤ i → i < max
    → get_or (full ++ map f (range_with_len 0 (max - length full))) i d ≡ f (i - length full)
tail full f max i d le lt =
    get_or-append_right full _ (length full) i d refl le
    ∙ get_or-map-range_with_len f 0 (max - length full) (i - length full) (i - length full) d (omega arith)
    (omega arith)

behind : (full : List Motion) (f : ℕ → Motion) (max i : ℕ) (d : Motion) → length full ≤ i → max ≤ i
    → get_or (full ++ map f (range_with_len 0 (max - length full))) i d ≡ d
behind full f max i d le over =
    let n = length-map-range_with_len f 0 (max - length full) in
    let few : length (map f (range_with_len 0 (max - length full))) ≤ i - length full = omega arith in
    get_or-append_right full _ (length full) i d refl le ∙ get_or-eq_default _ d few

-- the combined candidates
pub are_none : (slice : SliceMotion) (found : List Motion) → slice.is_b ≡ false → combined_candidates slice found ≡ []
unfolding combined_candidates
are_none slice found is = rw is refl

pub are_few : (slice : SliceMotion) (found : List Motion) → length found ≤ 1 → combined_candidates slice found ≡ []
unfolding combined_candidates
are_few slice found few = grind (arith, nat_tests)

are_full : (slice : SliceMotion) (found : List Motion) → slice.max_candidates ≤ length found
    → combined_candidates slice found ≡ []
unfolding combined_candidates
are_full slice found few = grind (arith, nat_tests)

are_taken : (slice : SliceMotion) (found : List Motion) → slice.is_b ≡ true → 1 < length found
    → length found < slice.max_candidates
    → combined_candidates slice found ≡ take (slice.max_candidates - length found) (combinations slice found)
unfolding combined_candidates
are_taken slice found is some few = rw is (grind (arith, nat_tests))

-- a spatial candidate
pub spatial_at : (slice : SliceMotion) (spatial temporal : List Motion) (i : ℕ) → i < length spatial
    → get_or (completed slice (spatial ++ temporal)) i no_motion ≡ get_or spatial i no_motion
unfolding completed
spatial_at slice spatial temporal i lt =
    let a = length-append spatial temporal in
    let b = length-append (spatial ++ temporal) (combined_candidates slice (spatial ++ temporal)) in
    front _ _ i no_motion (omega arith) ∙ front _ _ i no_motion (omega arith) ∙ front _ _ i no_motion lt

-- one of those found
pub found_at : (slice : SliceMotion) (found : List Motion) (i : ℕ) → i < length found
    → get_or (completed slice found) i no_motion ≡ get_or found i no_motion
unfolding completed
found_at slice found i lt =
    let b = length-append found (combined_candidates slice found) in
    front _ _ i no_motion (omega arith) ∙ front _ _ i no_motion lt

-- behind all of them
few_if : (b : Bool) (xs : List Motion) (n : ℕ) → length (if b then take n xs else []) ≤ n
few_if true xs n = let e = length-take n xs in omega arith
few_if false xs n = omega arith

few_combined : (slice : SliceMotion) (found : List Motion)
    → length (combined_candidates slice found) ≤ slice.max_candidates - length found
unfolding combined_candidates
few_combined slice found = few_if _ (combinations slice found) (slice.max_candidates - length found)

pub none_at : (slice : SliceMotion) (found : List Motion) (i : ℕ) → length found ≤ i → slice.max_candidates ≤ i
    → get_or (completed slice found) i no_motion ≡ no_motion
unfolding completed
none_at slice found i le over =
    let a = length-append found (combined_candidates slice found) in
    let b = few_combined slice found in
    behind (found ++ combined_candidates slice found) (zero_candidate slice) slice.max_candidates i no_motion
    (omega arith) over

-- a combined candidate, and a zero candidate
pub combined_at : (slice : SliceMotion) (found : List Motion) (place : ℕ) (m : Motion)
    → (place < length (combined_candidates slice found))
    × (m ≡ get_or (combined_candidates slice found) place no_motion)
    → m ≡ get_or (completed slice found) (length found + place) no_motion
unfolding completed
combined_at slice found place m (lt, is) =
    let a = length-append found (combined_candidates slice found) in
    is
    ∙ sym (front (found ++ combined_candidates slice found) _ (length found + place) no_motion (omega arith)
    ∙ get_or-append-add found (combined_candidates slice found) place no_motion)

pub zero_at : (slice : SliceMotion) (found : List Motion) (place count : ℕ) (m : Motion)
    → length found + place < slice.max_candidates
    → (count ≡ length (combined_candidates slice found)) × (count ≤ place) → m ≡ zero_candidate slice (place - count)
    → m ≡ get_or (completed slice found) (length found + place) no_motion
unfolding completed
zero_at slice found place count m lt (is, few) told =
    let a = length-append found (combined_candidates slice found) in
    told ∙ ap (zero_candidate slice) (omega arith)
    ∙ sym (tail (found ++ combined_candidates slice found) (zero_candidate slice) slice.max_candidates
    (length found + place) no_motion (omega arith) lt)

-- what is told of all combinations is told of those for which there is room
pub ok_taken : (slice : SliceMotion) (found : List Motion) (wanted : ℕ) (r : Result Motion ℕ) → slice.is_b ≡ true
    → 1 < length found → length found + wanted < slice.max_candidates
    → IfOk r
    (λ m. (wanted < length (combinations slice found)) × (m ≡ get_or (combinations slice found) wanted no_motion))
    → IfOk r (λ m. (wanted < length (combined_candidates slice found))
    × (m ≡ get_or (combined_candidates slice found) wanted no_motion))
ok_taken slice found wanted (Err n) b some lt told = told
ok_taken slice found wanted (Ok m) b some lt (less, is) =
    let room : ℕ = slice.max_candidates - length found in
    let e = are_taken slice found b some (omega arith) in
    let n = length-take room (combinations slice found) in
    rw e (omega arith, is ∙ sym (get_or-take room (combinations slice found) wanted no_motion (omega arith)))

pub err_taken : (slice : SliceMotion) (found : List Motion) (wanted : ℕ) (r : Result Motion ℕ) → slice.is_b ≡ true
    → 1 < length found → length found + wanted < slice.max_candidates
    → IfErr r (λ n. (n ≡ length (combinations slice found)) × (n ≤ wanted))
    → IfErr r (λ n. (n ≡ length (combined_candidates slice found)) × (n ≤ wanted))
err_taken slice found wanted (Ok m) b some lt told = told
err_taken slice found wanted (Err count) b some lt (is, few) =
    let room : ℕ = slice.max_candidates - length found in
    let e = are_taken slice found b some (omega arith) in
    let n = length-take room (combinations slice found) in
    rw e (omega arith, few)

pub empty : (slice : SliceMotion) (found : List Motion) (wanted : ℕ) → combined_candidates slice found ≡ []
    → (0 ≡ length (combined_candidates slice found)) × (0 ≤ wanted)
empty slice found wanted is = rw is (refl, omega arith)

-- the candidates of a unit
pub merge_front : (slice : SliceMotion) (beneath : Beneath) (known : Known) (unit : PredictionUnit) (i : ℕ)
    → i < length (spatial_candidates slice known unit)
    → get_or (merge_candidates slice beneath known unit) i no_motion
    ≡ get_or (spatial_candidates slice known unit) i no_motion
unfolding merge_candidates found_candidates
merge_front slice beneath known unit i lt = spatial_at slice (spatial_candidates slice known unit) _ i lt

pub merge_whole : (slice : SliceMotion) (beneath : Beneath) (known : Known) (unit : PredictionUnit)
    → merge_candidates slice beneath known unit
    ≡ completed slice
    (spatial_candidates slice known unit ++ option_to_list (temporal_candidate slice beneath (merge_block slice unit)))
unfolding merge_candidates found_candidates
merge_whole slice beneath known unit = refl
