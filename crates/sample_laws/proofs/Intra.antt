-- Samples that are predicted from samples of a depth have that depth.
use Rattle.std.proofs.Common.{◌≡◌, ℕ, ◌+◌, ◌-◌, ◌*◌, ◌/◌, ◌%◌, ◌^◌, ◌<◌, ◌≤◌, Bool, List, [], ◌∷◌, Option, Some, None}
use Rattle.std.proofs.Common.{ap, sym, subst, ◌∙◌, arith}
use Rattle.std.specs.Prelude.{◌==◌, nat_le, nat_lt, ⊤}
use Rattle.std.specs.List.{All, range_with_len}
use Rattle.std.proofs.Math.Nat.{mul-le-mul_left}
use Rattle.std.proofs.lemmas.Bool.{leb-true, leb-false}
use Rattle.std.proofs.lemmas.List.{get_or-drop}
use Rattle.std.proofs.lemmas.List.Elements.{All-nil, All-cons, All-head, All-tail, All-map}
use Rattle.std.proofs.lemmas.Nat.{pow_pos}
use Rattle.spec_arithmetic.specs.Sums.{sum_below}
use Rattle.spec_bits.proofs.Numbers.{two_pow-succ}
use Rattle.spec_intra_prediction.specs.Neighbours.{at, left_at, above_at, left_side, above_side, known_beside, beside}
use Rattle.spec_intra_prediction.specs.Substitution.{first_available, sample_or, following, substituted}
use Rattle.spec_intra_prediction.specs.Smoothing.{is_filtered, is_strong, smoothed_at, smoothed, straight_at}
use Rattle.spec_intra_prediction.specs.Smoothing.{straightened, filtered}
use Rattle.spec_intra_prediction.specs.PlanarDc.{planar, mean_beside, levelled, dc}
use Rattle.spec_intra_prediction.specs.Angular.{angle, inverse_angle, reference, met, between, met_sample, stepped}
use Rattle.spec_intra_prediction.specs.Angular.{angular}
use Rattle.spec_intra_prediction.specs.Prediction.{has_filtered_edges, directed, predicted_from, predicted}
use Rattle.sample_laws.proofs.Means.{case_holds, case_most, mean_most, shares, weighted_most, sum_most}
use Rattle.sample_laws.proofs.Means.{clip_most, AreMost, element_most, map_most}

-- a sample up to a greatest one, where there is one
abbrev pub IsMost : ℕ → Option ℕ → Type 0
IsMost m None = ⊤
IsMost m (Some sample) = sample ≤ m

first_most : (m otherwise : ℕ) (ns : List (Option ℕ)) → otherwise ≤ m → All (IsMost m) ns
    → first_available otherwise ns ≤ m
unfolding first_available
first_most m otherwise [] small each = small
first_most m otherwise (Some sample ∷ ns) small each = All-head (IsMost m) (Some sample) ns each
first_most m otherwise (None ∷ ns) small each = first_most m otherwise ns small (All-tail (IsMost m) None ns each)

or_most : (m former : ℕ) (next : Option ℕ) → former ≤ m → IsMost m next → sample_or next former ≤ m
or_most m former None small is = small
or_most m former (Some sample) small is = is

following_most : (m former : ℕ) (ns : List (Option ℕ)) → former ≤ m → All (IsMost m) ns
    → All (λ v. v ≤ m) (following former ns)
unfolding following
following_most m former [] small each = All-nil (λ v. v ≤ m)
following_most m former (next ∷ ns) small each =
    let here = or_most m former next small (All-head (IsMost m) next ns each) in
    All-cons (λ v. v ≤ m) (sample_or next former) (following (sample_or next former) ns) here
    (following_most m (sample_or next former) ns here (All-tail (IsMost m) next ns each))

half_most : (depth : ℕ) → 1 ≤ depth → 2 ^ (depth - 1) ≤ 2 ^ depth - 1
half_most depth some =
    let less : depth - 1 + 1 ≡ depth = omega (arith, some) in
    let twice : 2 ^ depth ≡ 2 * 2 ^ (depth - 1) = ap (λ k. 2 ^ k) (sym less) ∙ two_pow-succ (depth - 1) in
    let least : 0 < 2 ^ (depth - 1) = pow_pos (depth - 1) in
    omega (arith, twice, least)

pub substituted_most : (depth : ℕ) (ns : List (Option ℕ)) → 1 ≤ depth → All (IsMost (2 ^ depth - 1)) ns
    → AreMost (2 ^ depth - 1) (substituted depth ns)
substituted_most depth ns some each =
    element_most (2 ^ depth - 1) _
    (following_most (2 ^ depth - 1) (first_available (2 ^ (depth - 1)) ns) ns
    (first_most (2 ^ depth - 1) (2 ^ (depth - 1)) ns (half_most depth some) each) each)

pub beside_most : (m : ℕ) (known : ℕ → ℕ → Option ℕ) (n x y : ℕ) → ((column line : ℕ) → IsMost m (known column line))
    → All (IsMost m) (beside known n x y)
unfolding beside
beside_most m known n x y small =
    All-map (IsMost m) (known_beside known n x y) (range_with_len 0 (4 * n + 1))
    (λ k d inside. case_holds (IsMost m) (nat_le _ (2 * n)) _ _ (λ held. small _ _) (λ held. small _ _))

smoothed_at_most : (m : ℕ) (p : List ℕ) (k : ℕ) → AreMost m p → smoothed_at p k ≤ m
smoothed_at_most m p k low =
    case_most m (k == 0) (at p k) _ (low k)
    (case_most m _ (at p k) ((at p (k - 1) + 2 * at p k + at p (k + 1) + 2) / 4) (low k)
    (omega (arith, low (k - 1), low k, low (k + 1))))

straight_at_most : (m : ℕ) (p : List ℕ) (k : ℕ) → k < 129 → AreMost m p → straight_at p k ≤ m
straight_at_most m p k inside low =
    case_holds (λ v. v ≤ m) (nat_le k 64) _ _
    (λ held. let le = leb-true k 64 held in
    weighted_most m (64 - k) k 64 (at p 0) (at p 64) 32 (low 0) (low 64) (omega (arith, le)) (omega arith))
    (λ held. let lt = leb-false k 64 held in
    weighted_most m (128 - k) (k - 64) 64 (at p 64) (at p 128) 32 (low 64) (low 128) (omega (arith, lt, inside))
    (omega arith))

smoothed_most : (m : ℕ) (p : List ℕ) → AreMost m p → AreMost m (smoothed p)
unfolding smoothed
smoothed_most m p low = map_most m _ (smoothed_at p) (λ k inside. smoothed_at_most m p k low)

straightened_most : (m : ℕ) (p : List ℕ) → AreMost m p → AreMost m (straightened p)
unfolding straightened
straightened_most m p low = map_most m 129 (straight_at p) (λ k inside. straight_at_most m p k inside low)

filtered_most : (m c log2 mode : ℕ) (strong : Bool) (depth : ℕ) (p : List ℕ) → AreMost m p
    → AreMost m (filtered c log2 mode strong depth p)
unfolding filtered
filtered_most m c log2 mode strong depth p low =
    case_holds (AreMost m) (is_filtered c log2 mode) _ p
    (λ held. case_holds (AreMost m) (is_strong log2 strong depth p) (straightened p) (smoothed p)
    (λ also. straightened_most m p low) (λ also. smoothed_most m p low))
    (λ held. low)

twice_pow : (log2 : ℕ) → 2 ^ (log2 + 1) ≡ 2 ^ log2 + 2 ^ log2
twice_pow log2 = omega (arith, two_pow-succ log2)

planar_most : (m log2 : ℕ) (p : List ℕ) (x y : ℕ) → x < 2 ^ log2 → y < 2 ^ log2 → AreMost m p → planar log2 p x y ≤ m
unfolding planar
planar_most m log2 p x y left above low =
    let n : ℕ = 2 ^ log2 in
    let d : ℕ = 2 ^ (log2 + 1) in
    let double : d ≡ n + n = twice_pow log2 in
    let one : (n - 1 - x) * left_at n p y ≤ (n - 1 - x) * m = mul-le-mul_left (n - 1 - x) (low _) in
    let two : (x + 1) * above_at n p n ≤ (x + 1) * m = mul-le-mul_left (x + 1) (low _) in
    let three : (n - 1 - y) * above_at n p x ≤ (n - 1 - y) * m = mul-le-mul_left (n - 1 - y) (low _) in
    let four : (y + 1) * left_at n p n ≤ (y + 1) * m = mul-le-mul_left (y + 1) (low _) in
    let columns = shares (n - 1 - x) (x + 1) n m (omega (arith, left)) in
    let lines = shares (n - 1 - y) (y + 1) n m (omega (arith, above)) in
    let whole = shares n n d m (sym double) in
    mean_most m _ n d (omega (arith, one, two, three, four, columns, lines, whole)) (omega (arith, double, left))

mean_beside_most : (m log2 : ℕ) (p : List ℕ) → AreMost m p → mean_beside log2 p ≤ m
unfolding mean_beside
mean_beside_most m log2 p low =
    let n : ℕ = 2 ^ log2 in
    let d : ℕ = 2 ^ (log2 + 1) in
    let double : d ≡ n + n = twice_pow log2 in
    let least : 0 < n = pow_pos log2 in
    let above : sum_below n (above_at n p) ≤ n * m = sum_most m n (above_at n p) (λ k. low _) in
    let left : sum_below n (left_at n p) ≤ n * m = sum_most m n (left_at n p) (λ k. low _) in
    let whole = shares n n d m (sym double) in
    mean_most m _ n d (omega (arith, above, left, whole)) (omega (arith, double, least))

levelled_most : (m : ℕ) (edges : Bool) (n : ℕ) (p : List ℕ) (mean x y : ℕ) → mean ≤ m → AreMost m p
    → levelled edges n p mean x y ≤ m
levelled_most m edges n p mean x y small low =
    case_most m edges _ mean
    (case_most m (y == 0) _ _
    (case_most m (x == 0) _ _ (omega (arith, small, low (2 * n - 1), low (2 * n + 1)))
    (omega (arith, small, low (2 * n + 1 + x))))
    (case_most m (x == 0) _ mean (omega (arith, small, low (2 * n - (y + 1)))) small))
    small

dc_most : (m : ℕ) (edges : Bool) (log2 : ℕ) (p : List ℕ) (x y : ℕ) → AreMost m p → dc edges log2 p x y ≤ m
unfolding dc
dc_most m edges log2 p x y low =
    levelled_most m edges (2 ^ log2) p (mean_beside log2 p) x y (mean_beside_most m log2 p low) low

between_most : (m part first second : ℕ) → part ≤ 32 → first ≤ m → second ≤ m → between part first second ≤ m
between_most m part first second few low other =
    case_most m (part == 0) first _ low
    (weighted_most m (32 - part) part 32 first second 16 low other (omega (arith, few)) (omega arith))

reference_most : (m n inverse : ℕ) (main side : List ℕ) (i : ℕ) → AreMost m main → AreMost m side
    → reference n inverse main side i ≤ m
reference_most m n inverse main side i low other = case_most m (nat_lt i n) _ _ (other _) (low _)

met_most : (m n inverse : ℕ) (main side : List ℕ) (place x : ℕ) → AreMost m main → AreMost m side
    → met_sample n inverse main side place x ≤ m
met_most m n inverse main side place x low other =
    between_most m (place % 32) _ _ (omega arith)
    (reference_most m n inverse main side (place / 32 + x + 1) low other)
    (reference_most m n inverse main side (place / 32 + x + 2) low other)

angular_most : (edges : Bool) (log2 mode depth : ℕ) (main side : List ℕ) (x y : ℕ) → AreMost (2 ^ depth - 1) main
    → AreMost (2 ^ depth - 1) side
    → angular edges log2 mode depth main side x y ≤ 2 ^ depth - 1
unfolding angular
angular_most edges log2 mode depth main side x y low other =
    case_most (2 ^ depth - 1) _ (stepped depth (at main 1) (at side (y + 1)) (at main 0)) _
    (clip_most (2 ^ depth - 1) _)
    (met_most (2 ^ depth - 1) (2 ^ log2) (inverse_angle mode) main side (met (2 ^ log2) (angle mode) y) x low other)

left_side_most : (m n : ℕ) (p : List ℕ) → AreMost m p → AreMost m (left_side n p)
unfolding left_side
left_side_most m n p low = map_most m (2 * n + 1) (λ k. at p (2 * n - k)) (λ k inside. low (2 * n - k))

above_side_most : (m n : ℕ) (p : List ℕ) → AreMost m p → AreMost m (above_side n p)
above_side_most m n p low k = subst (λ v. v ≤ m) (sym (get_or-drop (2 * n) p k 0)) (low (2 * n + k))

directed_most : (edges : Bool) (log2 mode depth : ℕ) (p : List ℕ) (x y : ℕ) → AreMost (2 ^ depth - 1) p
    → directed edges log2 mode depth p x y ≤ 2 ^ depth - 1
directed_most edges log2 mode depth p x y low =
    let left = left_side_most (2 ^ depth - 1) (2 ^ log2) p low in
    let above = above_side_most (2 ^ depth - 1) (2 ^ log2) p low in
    case_most (2 ^ depth - 1) (nat_lt mode 18) _ _
    (angular_most edges log2 mode depth (left_side (2 ^ log2) p) (above_side (2 ^ log2) p) y x left above)
    (angular_most edges log2 mode depth (above_side (2 ^ log2) p) (left_side (2 ^ log2) p) x y above left)

predicted_from_most : (c log2 mode depth : ℕ) (p : List ℕ) (x y : ℕ) → x < 2 ^ log2 → y < 2 ^ log2
    → AreMost (2 ^ depth - 1) p → predicted_from c log2 mode depth p x y ≤ 2 ^ depth - 1
unfolding predicted_from
predicted_from_most c log2 mode depth p x y left above low =
    let m : ℕ = 2 ^ depth - 1 in
    case_most m (mode == 0) _ _ (planar_most m log2 p x y left above low)
    (case_most m (mode == 1) _ _ (dc_most m (has_filtered_edges c log2) log2 p x y low)
    (directed_most (has_filtered_edges c log2) log2 mode depth p x y low))

-- a sample of a block by its substituted neighbours
pub predicted_most : (c log2 mode : ℕ) (strong : Bool) (depth : ℕ) (p : List ℕ) (x y : ℕ) → x < 2 ^ log2 → y < 2 ^ log2
    → AreMost (2 ^ depth - 1) p
    → predicted c log2 mode strong depth p x y ≤ 2 ^ depth - 1
predicted_most c log2 mode strong depth p x y left above low =
    predicted_from_most c log2 mode depth (filtered c log2 mode strong depth p) x y left above
    (filtered_most (2 ^ depth - 1) c log2 mode strong depth p low)
