-- The ends of filtered neighbours, and which filter they get.
use Rattle.std.proofs.Common.{◌≡◌, ℕ, ◌-◌, ◌<◌, ◌≤◌, Bool, true, false, List, length, slice_set, if◌then◌else◌, refl}
use Rattle.std.proofs.Common.{arith}
use Rattle.std.proofs.lemmas.Grind.{common_steps}
use Rattle.std.proofs.lemmas.Bool.Decides.{nat_tests}
use Rattle.spec_intra_prediction.specs.Neighbours.{at}
use Rattle.spec_intra_prediction.specs.Smoothing.{is_filtered, is_strong, smoothed, smoothed_at, straightened}
use Rattle.spec_intra_prediction.specs.Smoothing.{filtered}

pub end_stays : (edge before : List ℕ) (j k : ℕ) → 2 ≤ length edge → length edge ≤ 129 → length before ≡ 129 →
    length edge - 1 ≤ j →
    ((q : ℕ) → q < j → at before q ≡ smoothed_at edge q) → k < length edge →
    at (slice_set before (length edge - 1) (at edge (length edge - 1))) k ≡ smoothed_at edge k
end_stays edge before j k some few long over told h =
    let t = told k in
    grind (arith, common_steps, nat_tests)

pub strong_is_32 : (log2 : ℕ) (strong : Bool) (depth : ℕ) (p : List ℕ) → is_strong log2 strong depth p ≡ true → log2 ≡ 5
unfolding is_strong
strong_is_32 log2 strong depth p is = grind (arith, common_steps, nat_tests)

pub filtered_is : (c log2 mode : ℕ) (strong : Bool) (depth : ℕ) (p : List ℕ) → is_filtered c log2 mode ≡ true →
    (if is_strong log2 strong depth p then straightened p else smoothed p) ≡ filtered c log2 mode strong depth p
unfolding filtered
filtered_is c log2 mode strong depth p is = rw is refl

pub unfiltered_is : (c log2 mode : ℕ) (strong : Bool) (depth : ℕ) (p : List ℕ) → is_filtered c log2 mode ≡ false
    → p ≡ filtered c log2 mode strong depth p
unfolding filtered
unfiltered_is c log2 mode strong depth p is = rw is refl
