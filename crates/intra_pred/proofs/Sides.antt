-- The samples of the sides that a direction meets.
use Rattle.std.proofs.Common.{◌≡◌, ℕ, zero, suc, ◌+◌, ◌-◌, ◌*◌, ◌/◌, ◌%◌, ◌^◌, ◌<◌, ◌≤◌, ℤ, pos, negsuc, ◌<ℤ◌, Bool}
use Rattle.std.proofs.Common.{true, false, List, length, slice_set, cond, nat_le, nat_lt, ◌&&◌, ◌||◌, ◌==◌, refl, sym}
use Rattle.std.proofs.Common.{ap, ◌∙◌, arith}
use Rattle.std.specs.Int.RustNames.{unsigned_abs}
use Rattle.std.proofs.lemmas.Grind.{common_steps}
use Rattle.std.proofs.lemmas.Int.{ints}
use Rattle.std.proofs.lemmas.Bool.Decides.{nat_tests}
use Rattle.std.proofs.Math.Nat.{mul-le-mul_left, mul-le-mul_right, mul_assoc}
use Rattle.spec_intra_prediction.specs.Neighbours.{at}
use Rattle.spec_intra_prediction.specs.Angular.{angle, inverse_angle, reference, met, met_sample, between, stepped}
use Rattle.spec_intra_prediction.specs.Angular.{angular}
use Rattle.intra_pred.specs.Reference.{IsReference}

-- the place on the side is not past its end
pub side_inside : (n size inverse j : ℕ) → n ≤ 32 → 32 * j < n * size → size * inverse ≤ 8208
    → (j * inverse + 128) / 256 < 2 * n + 1
side_inside n size inverse j few below product =
    let one : 32 * j * inverse ≤ n * size * inverse = mul-le-mul_right inverse (omega arith) in
    let two : n * (size * inverse) ≤ n * 8208 = mul-le-mul_left n product in
    let three : 32 * j * inverse ≡ 32 * (j * inverse) = mul_assoc 32 j inverse in
    let four : n * size * inverse ≡ n * (size * inverse) = mul_assoc n size inverse in
    omega arith

-- one more sample before the corner
pub side_more : (n j v inverse : ℕ) (side start before : List ℕ) → 0 < j → j < n → n ≤ length before →
    v ≡ at side ((j * inverse + 128) / 256) →
    ((q : ℕ)
    → at before q ≡ cond (nat_lt q n && nat_lt (n - q) j) (at side (((n - q) * inverse + 128) / 256)) (at start q)) →
    (q : ℕ) → at (slice_set before (n - j) v) q
    ≡ cond (nat_lt q n && nat_lt (n - q) (j + 1)) (at side (((n - q) * inverse + 128) / 256)) (at start q)
side_more n j v inverse side start before some below room is told q =
    let t = told q in
    let here : q ≡ n - j → n - q ≡ j = λ e. omega arith in
    grind (arith, common_steps, nat_tests)

pub side_end : (n j whole inverse : ℕ) (side start now : List ℕ) → 1 ≤ j → (whole + 31) / 32 ≤ j →
    j ≤ 1 + ((whole + 31) / 32 - 1) →
    ((q : ℕ)
    → at now q ≡ cond (nat_lt q n && nat_lt (n - q) j) (at side (((n - q) * inverse + 128) / 256)) (at start q)) →
    (q : ℕ) → at now q
    ≡ cond (nat_lt q n && nat_lt (32 * (n - q)) whole) (at side (((n - q) * inverse + 128) / 256)) (at start q)
side_end n j whole inverse side start now some over last told q =
    let t = told q in
    grind (arith, nat_tests)

-- the sides, laid behind one another, are what the lines meet
pub laid : (n inverse size : ℕ) (z : ℤ) (main side start before now : List ℕ) → z <ℤ pos 0 → size ≡ unsigned_abs z →
    ((q : ℕ) → at before q ≡ cond (nat_le n q && nat_lt q (n + (2 * n + 1))) (at main (q - n)) (at start q)) →
    ((q : ℕ)
    → at now q
    ≡ cond (nat_lt q n && nat_lt (32 * (n - q)) (n * size)) (at side (((n - q) * inverse + 128) / 256)) (at before q)) →
    (y i : ℕ) → y < n → met n z y < 32 * i → i ≤ 3 * n → at now i ≡ reference n inverse main side i
laid n inverse size (pos a) main side start before now neg is first second y i h k l = absurd (omega (arith, ints))
laid n inverse size (negsuc a) main side start before now neg is first second y i h k l =
    let far : (y + 1) * suc a ≤ n * suc a = mul-le-mul_right (suc a) (omega arith) in
    let e : n * size ≡ n * suc a = ap (λ (s : ℕ). n * s) is in
    let f = first i in
    let s = second i in
    grind (arith, nat_tests)

between_same : (part a b c d : ℕ) → a ≡ c → (0 < part → b ≡ d) → between part a b ≡ between part c d
between_same zero a b c d e f = e
between_same (suc part) a b c d e f = let g : b ≡ d = f (omega arith) in rw (e, g) refl

-- a line meets these samples
pub met_is : (n mode place y x : ℕ) (main side held : List ℕ) → x < n → y < n → IsReference n mode main side held →
    place ≡ met n (angle mode) y → place ≤ 64 * n →
    between (place % 32) (at held (place / 32 + x + 1)) (at held (place / 32 + x + 2))
    ≡ met_sample n (inverse_angle mode) main side (met n (angle mode) y) x
met_is n mode place y x main side held h k is e small =
    let one : at held (place / 32 + x + 1) ≡ reference n (inverse_angle mode) main side (place / 32 + x + 1) =
    is y (place / 32 + x + 1) k (rw (sym e) (omega arith)) (omega arith) in
    let two : 0 < place % 32
    → at held (place / 32 + x + 2) ≡ reference n (inverse_angle mode) main side (place / 32 + x + 2) =
    λ some. is y (place / 32 + x + 2) k (rw (sym e) (omega arith)) (omega arith) in
    between_same (place % 32) _ _ _ _ one two ∙ ap (λ (p : ℕ). met_sample n (inverse_angle mode) main side p x) e

cond_same : (b : Bool) (a c r : ℕ) → (b ≡ true → a ≡ c) → cond b a r ≡ cond b c r
cond_same true a c r f = f refl
cond_same false a c r f = refl

in_line : (first n q : ℕ) → (nat_le first q && nat_lt q (first + n)) ≡ true → q - first < n
in_line first n q t = grind (arith, nat_tests)

-- a sample that is on no filtered edge
pub off_edge : (edges : Bool) (log2 mode depth : ℕ) (main side : List ℕ) (x y : ℕ) →
    ((edges && (mode == 10 || mode == 26)) && x == 0) ≡ false →
    angular edges log2 mode depth main side x y
    ≡ met_sample (2 ^ log2) (inverse_angle mode) main side (met (2 ^ log2) (angle mode) y) x
unfolding angular
off_edge edges log2 mode depth main side x y plain = rw plain refl

pub on_edge : (edges : Bool) (log2 mode depth : ℕ) (main side : List ℕ) (y : ℕ) →
    (edges && (mode == 10 || mode == 26)) ≡ true →
    angular edges log2 mode depth main side 0 y ≡ stepped depth (at main 1) (at side (y + 1)) (at main 0)
unfolding angular
on_edge edges log2 mode depth main side y edge = rw edge refl

and_false : (b c : Bool) → b ≡ false → (b && c) ≡ false
and_false b c e = rw e refl

and_later : (b : Bool) (x : ℕ) → 0 < x → (b && x == 0) ≡ false
and_later true x h = grind (arith, nat_tests)
and_later false x h = refl

-- a line without a filtered edge
pub line_plain : (edges : Bool) (log2 n mode depth place y : ℕ) (main side held start now : List ℕ) → n ≡ 2 ^ log2 →
    y < n → IsReference n mode main side held →
    place ≡ met n (angle mode) y → place ≤ 64 * n → (edges && (mode == 10 || mode == 26)) ≡ false →
    ((q : ℕ)
    → at now q
    ≡ cond (nat_le (n * y) q && nat_lt q (n * y + n))
    (between (place % 32) (at held (place / 32 + (q - n * y) + 1)) (at held (place / 32 + (q - n * y) + 2)))
    (at start q)) →
    (q : ℕ) → at now q
    ≡ cond (nat_le (n * y) q && nat_lt q (n * y + n)) (angular edges log2 mode depth main side (q - n * y) y)
    (at start q)
line_plain edges log2 n mode depth place y main side held start now size h is e small plain wrote q =
    wrote q ∙ cond_same _ _ _ (at start q) (λ t.
    met_is n mode place y (q - n * y) main side held (in_line (n * y) n q t) h is e small
    ∙ ap (λ (m : ℕ). met_sample m (inverse_angle mode) main side (met m (angle mode) y) (q - n * y)) size
    ∙ sym (off_edge edges log2 mode depth main side (q - n * y) y (and_false _ _ plain)))

edged : (at_first n v q other_value : ℕ) (start now : List ℕ) (f : ℕ → ℕ) → at_first + n ≤ length now → 0 < n →
    v ≡ f 0 →
    at now q ≡ cond (nat_le at_first q && nat_lt q (at_first + n)) other_value (at start q) →
    (0 < q - at_first
    → at now q ≡ cond (nat_le at_first q && nat_lt q (at_first + n)) (f (q - at_first)) (at start q)) →
    at (slice_set now at_first v) q
    ≡ cond (nat_le at_first q && nat_lt q (at_first + n)) (f (q - at_first)) (at start q)
edged at_first n v q other_value start now f room some first wrote other =
    let same : q ≡ at_first → f (q - at_first) ≡ f 0 = λ e. let z : q - at_first ≡ 0 = omega arith in ap f z in
    grind (arith, common_steps, nat_tests)

-- a line with one
pub line_edged : (edges : Bool) (log2 n mode depth place y v : ℕ) (main side held start now : List ℕ) → n ≡ 2 ^ log2 →
    y < n → n * y + n ≤ length now → IsReference n mode main side held →
    place ≡ met n (angle mode) y → place ≤ 64 * n → (edges && (mode == 10 || mode == 26)) ≡ true →
    v ≡ stepped depth (at main 1) (at side (y + 1)) (at main 0) →
    ((q : ℕ)
    → at now q
    ≡ cond (nat_le (n * y) q && nat_lt q (n * y + n))
    (between (place % 32) (at held (place / 32 + (q - n * y) + 1)) (at held (place / 32 + (q - n * y) + 2)))
    (at start q)) →
    (q : ℕ) → at (slice_set now (n * y) v) q
    ≡ cond (nat_le (n * y) q && nat_lt q (n * y + n)) (angular edges log2 mode depth main side (q - n * y) y)
    (at start q)
line_edged edges log2 n mode depth place y v main side held start now size h room is e small edge step wrote q =
    let other : 0 < q - n * y
    → at now q
    ≡ cond (nat_le (n * y) q && nat_lt q (n * y + n)) (angular edges log2 mode depth main side (q - n * y) y)
    (at start q) =
    λ later. wrote q ∙ cond_same _ _ _ (at start q) (λ t.
    met_is n mode place y (q - n * y) main side held (in_line (n * y) n q t) h is e small
    ∙ ap (λ (m : ℕ). met_sample m (inverse_angle mode) main side (met m (angle mode) y) (q - n * y)) size
    ∙ sym (off_edge edges log2 mode depth main side (q - n * y) y (and_later _ _ later))) in
    let first : v ≡ angular edges log2 mode depth main side 0 y =
    step ∙ sym (on_edge edges log2 mode depth main side y edge) in
    edged (n * y) n v q _ start now (λ x. angular edges log2 mode depth main side x y) room (omega arith) first
    (wrote q) other
