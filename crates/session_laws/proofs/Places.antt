-- Of a buffer no more pictures stay than places are named.
use Rattle.std.proofs.Common.{◌≡◌, ℕ, suc, ◌+◌, ◌≤◌, Bool, true, false, ◌||◌, ◌==◌, cond, List, [], ◌∷◌, length}
use Rattle.std.proofs.Common.{nat_le, if◌then◌else◌, refl, arith}
use Rattle.std.specs.List.{count_by}
use Rattle.std.proofs.lemmas.Bool.{eqb-true, le-leb, leb-true}
use Rattle.std.proofs.lemmas.List.Sums.{count_by-le-length}
use Rattle.spec_output_order.proofs.Counts.{count-cons}
use Rattle.spec_decoder.specs.Decoder.{BufferPicture, is_among, kept_from}

-- whether a place is this one or behind it
abbrev is_from : ℕ → ℕ → Bool
is_from k place = nat_le k place

counts_less : (a b : Bool) → (a ≡ true → b ≡ true) → cond a 1 0 ≤ cond b 1 0
counts_less true true implied = omega arith
counts_less true false implied = let e : false ≡ true = implied refl in absurd cc
counts_less false b implied = omega arith

still_from : (k place : ℕ) → is_from (suc k) place ≡ true → is_from k place ≡ true
still_from k place e = let behind = leb-true (suc k) place e in le-leb k place (omega (arith, behind))

one_less : (k place : ℕ) → cond (is_from (suc k) place) 1 0 ≤ cond (is_from k place) 1 0
one_less k place = counts_less (is_from (suc k) place) (is_from k place) (still_from k place)

counts_one : (a b : Bool) → (a ≡ true → ⊥) → b ≡ true → cond a 1 0 + 1 ≤ cond b 1 0
counts_one true b none some = absurd (none refl)
counts_one false true none some = omega arith
counts_one false false none some = absurd cc

-- the place itself isn't behind itself
one_here : (k place : ℕ) → (place == k) ≡ true → cond (is_from (suc k) place) 1 0 + 1 ≤ cond (is_from k place) 1 0
one_here k place e =
    let same : place ≡ k = eqb-true place k e in
    counts_one (is_from (suc k) place) (is_from k place)
    (λ behind. let later = leb-true (suc k) place behind in omega (arith, later, same))
    (le-leb k place (omega (arith, same)))

fewer_behind : (k : ℕ) (places : List ℕ) → count_by (is_from (suc k)) places ≤ count_by (is_from k) places
fewer_behind k [] = omega arith
fewer_behind k (place ∷ places) =
    let one = count-cons (is_from (suc k)) place places in
    let all = count-cons (is_from k) place places in
    let here = one_less k place in
    let rest = fewer_behind k places in
    omega (arith, one, all, here, rest)

named_by : (k place : ℕ) (places : List ℕ) (here : Bool) → (place == k) ≡ here → (here || is_among places k) ≡ true
    → (is_among places k ≡ true → count_by (is_from (suc k)) places + 1 ≤ count_by (is_from k) places)
    → count_by (is_from (suc k)) (place ∷ places) + 1 ≤ count_by (is_from k) (place ∷ places)
named_by k place places true is e later =
    let one = count-cons (is_from (suc k)) place places in
    let all = count-cons (is_from k) place places in
    let here = one_here k place is in
    let rest = fewer_behind k places in
    omega (arith, one, all, here, rest)
named_by k place places false is e later =
    let one = count-cons (is_from (suc k)) place places in
    let all = count-cons (is_from k) place places in
    let here = one_less k place in
    let rest = later e in
    omega (arith, one, all, here, rest)

-- where a place is named, fewer are behind it
one_fewer : (k : ℕ) (places : List ℕ) → is_among places k ≡ true
    → count_by (is_from (suc k)) places + 1 ≤ count_by (is_from k) places
one_fewer k [] e = absurd cc
one_fewer k (place ∷ places) e = named_by k place places (place == k) refl e (one_fewer k places)

stays_by : (places : List ℕ) (k : ℕ) (picture : BufferPicture) (later : List BufferPicture) (stays : Bool)
    → is_among places k ≡ stays → length later ≤ count_by (is_from (suc k)) places
    → length (if stays then picture ∷ later else later) ≤ count_by (is_from k) places
stays_by places k picture later true is few = let one = one_fewer k places is in omega (arith, few, one)
stays_by places k picture later false is few = let less = fewer_behind k places in omega (arith, few, less)

few_from : (places : List ℕ) (k : ℕ) (buffer : List BufferPicture)
    → length (kept_from places k buffer) ≤ count_by (is_from k) places
unfolding kept_from
few_from places k [] = omega arith
few_from places k (picture ∷ later) =
    stays_by places k picture (kept_from places (suc k) later) (is_among places k) refl
    (few_from places (suc k) later)

pub few_places : (places : List ℕ) (k : ℕ) (buffer : List BufferPicture)
    → length (kept_from places k buffer) ≤ length places
few_places places k buffer =
    let kept = few_from places k buffer in
    let all = count_by-le-length (is_from k) places in
    omega (arith, kept, all)
