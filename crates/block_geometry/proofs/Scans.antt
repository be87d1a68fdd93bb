-- What the tables and the formulas of scans say, compared with the orders.
use Rattle.std.proofs.Common.{◌≡◌, ℕ, ◌+◌, ◌*◌, ◌/◌, ◌%◌, ◌^◌, ◌<◌, ◌≤◌, Bool, true, false, not, ◌&&◌, ◌||◌, length}
use Rattle.std.proofs.Common.{get_or, refl, sym, subst, ◌∙◌, zero-add, arith}
use Rattle.std.specs.Prelude.{slice_index, nat_lt, nat_eq}
use Rattle.std.specs.List.{list_all, range_with_len}
use Rattle.std.proofs.lemmas.Bool.{lt-ltb, ltb-true, eqb-true, and_parts}
use Rattle.std.proofs.lemmas.List.Sums.{AllPass-from_list_all}
use Rattle.std.proofs.lemmas.List.FromFn.{length-range_with_len, get_or-range_with_len}
use Rattle.block_geometry.specs.declared.kind.Scan.{Scan}
use Rattle.block_geometry.specs.declared.kind.Scan.TheVariants.{Diagonal, Horizontal, Vertical}
use Rattle.block_geometry.specs.declared.diagonal.TheConstants.{DIAGONAL_X, DIAGONAL_Y, DIAGONAL_INDEX}
use Rattle.block_geometry.specs.Scans.{Place, is_at, scan_order, scan_place, scan_index, first_of}

-- a test of each number below n, once it was computed
tested : (p : ℕ → Bool) (n : ℕ) → list_all p (range_with_len 0 n) ≡ true → (k : ℕ) → k < n → p k ≡ true
tested p n computed k below =
    let all = AllPass-from_list_all p (range_with_len 0 n) computed in
    let at : get_or (range_with_len 0 n) k 0 ≡ k = get_or-range_with_len 0 n k 0 below ∙ zero-add k in
    let inside : k < length (range_with_len 0 n) = omega (arith, length-range_with_len 0 n) in
    subst (λ (i : ℕ). p i ≡ true) at (all k 0 inside)

-- a test of two numbers, the first up to 3 and the second below 64
tested_pair : (p : ℕ → ℕ → Bool) → list_all (λ j. p (j / 64) (j % 64)) (range_with_len 0 256) ≡ true → (a b : ℕ) → a ≤ 3
    → b < 64 → p a b ≡ true
tested_pair p computed a b few small =
    let at = tested (λ j. p (j / 64) (j % 64)) 256 computed (64 * a + b) (omega arith) in
    let d : (64 * a + b) / 64 ≡ a = omega arith in
    let m : (64 * a + b) % 64 ≡ b = omega arith in
    subst (λ (i : ℕ). p a i ≡ true) m (subst (λ (i : ℕ). p i ((64 * a + b) % 64) ≡ true) d at)

-- how many places a block has
area_all : list_all (λ log2. nat_lt (2 ^ log2 * 2 ^ log2) 65) (range_with_len 0 4) ≡ true
area_all = refl

pub area : (log2 : ℕ) → log2 ≤ 3 → 2 ^ log2 * 2 ^ log2 ≤ 64
area log2 few =
    let lt = ltb-true _ _ (tested (λ log2. nat_lt (2 ^ log2 * 2 ^ log2) 65) 4 area_all log2 (omega arith)) in
    omega arith

side_all : list_all (λ log2. nat_lt (2 ^ log2) 9) (range_with_len 0 4) ≡ true
side_all = refl

pub side : (log2 : ℕ) → log2 ≤ 3 → 2 ^ log2 ≤ 8
side log2 few =
    let lt = ltb-true _ _ (tested (λ log2. nat_lt (2 ^ log2) 9) 4 side_all log2 (omega arith)) in omega arith

table_all : list_all (λ log2. nat_lt (first_of log2 + 2 ^ log2 * 2 ^ log2) 86) (range_with_len 0 4) ≡ true
unfolding first_of
table_all = refl

-- the tables have each place
pub in_table : (log2 i first : ℕ) → first ≡ first_of log2 → log2 ≤ 3 → i < 2 ^ log2 * 2 ^ log2 → first + i < 85
in_table log2 i first is few inside =
    let lt =
    ltb-true _ _ (tested (λ log2. nat_lt (first_of log2 + 2 ^ log2 * 2 ^ log2) 86) 4 table_all log2 (omega arith)) in
    omega (arith, is)

-- where a test is only asked of places inside
implied : (a b : Bool) → a ≡ true → (not a || b) ≡ true → b ≡ true
implied true b e h = h
implied false b e h = absurd cc

-- the place that the code answers
abbrev pub place_of : Scan → ℕ → ℕ → Place
place_of Diagonal log2 i = (slice_index DIAGONAL_X (first_of log2 + i), slice_index DIAGONAL_Y (first_of log2 + i))
place_of Horizontal log2 i = (i % 2 ^ log2, i / 2 ^ log2)
place_of Vertical log2 i = (i / 2 ^ log2, i % 2 ^ log2)

abbrev place_ok : Scan → ℕ → ℕ → Bool
place_ok kind log2 i =
    not (nat_lt i (2 ^ log2 * 2 ^ log2))
    || (is_at (place_of kind log2 i).0 (place_of kind log2 i).1 (scan_place log2 kind i)
    && (nat_lt (place_of kind log2 i).0 (2 ^ log2) && nat_lt (place_of kind log2 i).1 (2 ^ log2)))

places_all : (kind : Scan) → list_all (λ j. place_ok kind (j / 64) (j % 64)) (range_with_len 0 256) ≡ true
unfolding scan_place scan_order first_of
places_all Diagonal = refl
places_all Horizontal = refl
places_all Vertical = refl

-- these are the column and the row at an index
pub record IsPlace (kind : Scan) (log2 i x y : ℕ) : Type 0 where
  pub value : ◌≡◌ {A = Place} (x, y) (scan_place log2 kind i)
  pub left : x < 2 ^ log2
  pub above : y < 2 ^ log2
  pub few_left : x < 8
  pub few_above : y < 8

same_place : (x y : ℕ) (q : Place) → q.0 ≡ x → q.1 ≡ y → ◌≡◌ {A = Place} (x, y) q
same_place x y q e f = rw (sym e, sym f) refl

place_is : (kind : Scan) (log2 i : ℕ) → log2 ≤ 3 → i < 2 ^ log2 * 2 ^ log2
    → IsPlace kind log2 i (place_of kind log2 i).0 (place_of kind log2 i).1
place_is kind log2 i few inside =
    let small : i < 64 = omega (arith, area log2 few) in
    let all = implied _ _ (lt-ltb _ _ inside) (tested_pair (place_ok kind) (places_all kind) log2 i few small) in
    let parts = and_parts _ _ all in
    let at = and_parts _ _ parts.0 in
    let low = and_parts _ _ parts.1 in
    let left = ltb-true _ _ low.0 in
    let above = ltb-true _ _ low.1 in
    let most = side log2 few in
    record {
      value = same_place _ _ _ (eqb-true _ _ at.0) (eqb-true _ _ at.1);
      left = left;
      above = above;
      few_left = omega arith;
      few_above = omega arith;
    }

pub diagonal_is : (kind : Scan) (log2 i first x y : ℕ) → kind ≡ Diagonal → first ≡ first_of log2
    → x ≡ slice_index DIAGONAL_X (first + i) → y ≡ slice_index DIAGONAL_Y (first + i)
    → log2 ≤ 3 → i < 2 ^ log2 * 2 ^ log2 → IsPlace kind log2 i x y
diagonal_is kind log2 i first x y k f ex ey few inside = rw (ex, ey, f, k) (place_is Diagonal log2 i few inside)

pub horizontal_is : (kind : Scan) (log2 i side : ℕ) → kind ≡ Horizontal → side ≡ 2 ^ log2 → log2 ≤ 3
    → i < 2 ^ log2 * 2 ^ log2 → IsPlace kind log2 i (i % side) (i / side)
horizontal_is kind log2 i side k s few inside = rw (k, s) (place_is Horizontal log2 i few inside)

pub vertical_is : (kind : Scan) (log2 i side : ℕ) → kind ≡ Vertical → side ≡ 2 ^ log2 → log2 ≤ 3
    → i < 2 ^ log2 * 2 ^ log2 → IsPlace kind log2 i (i / side) (i % side)
vertical_is kind log2 i side k s few inside = rw (k, s) (place_is Vertical log2 i few inside)

-- the index that the code answers
abbrev pub index_of : Scan → ℕ → ℕ → ℕ → ℕ
index_of Diagonal log2 x y = slice_index DIAGONAL_INDEX (first_of log2 + 2 ^ log2 * y + x)
index_of Horizontal log2 x y = 2 ^ log2 * y + x
index_of Vertical log2 x y = 2 ^ log2 * x + y

abbrev index_ok : Scan → ℕ → ℕ → Bool
index_ok kind log2 j =
    not (nat_lt (j % 8) (2 ^ log2) && nat_lt (j / 8) (2 ^ log2))
    || (nat_eq (index_of kind log2 (j % 8) (j / 8)) (scan_index log2 kind (j % 8) (j / 8))
    && nat_lt (index_of kind log2 (j % 8) (j / 8)) (2 ^ log2 * 2 ^ log2))

indices_all : (kind : Scan) → list_all (λ j. index_ok kind (j / 64) (j % 64)) (range_with_len 0 256) ≡ true
unfolding scan_index scan_order first_of
indices_all Diagonal = refl
indices_all Horizontal = refl
indices_all Vertical = refl

both : (a b : Bool) → a ≡ true → b ≡ true → (a && b) ≡ true
both true b e h = h
both false b e h = e

-- this is the index of a place
pub record IsIndex (kind : Scan) (log2 x y i : ℕ) : Type 0 where
  pub value : i ≡ scan_index log2 kind x y
  pub inside : i < 2 ^ log2 * 2 ^ log2
  pub few : i < 64

index_is : (kind : Scan) (log2 x y : ℕ) → log2 ≤ 3 → x < 2 ^ log2 → y < 2 ^ log2
    → IsIndex kind log2 x y (index_of kind log2 x y)
index_is kind log2 x y few left above =
    let most = side log2 few in
    let small : 8 * y + x < 64 = omega arith in
    let d : (8 * y + x) / 8 ≡ y = omega arith in
    let m : (8 * y + x) % 8 ≡ x = omega arith in
    let test = tested_pair (index_ok kind) (indices_all kind) log2 (8 * y + x) few small in
    let at : ℕ → ℕ → Type 0 = λ a b. (not (nat_lt a (2 ^ log2) && nat_lt b (2 ^ log2))
    || (nat_eq (index_of kind log2 a b) (scan_index log2 kind a b)
    && nat_lt (index_of kind log2 a b) (2 ^ log2 * 2 ^ log2)))
    ≡ true in
    let here : at x y = subst (λ (b : ℕ). at x b) d (subst (λ (a : ℕ). at a ((8 * y + x) / 8)) m test) in
    let parts = and_parts _ _ (implied _ _ (both _ _ (lt-ltb _ _ left) (lt-ltb _ _ above)) here) in
    let inside = ltb-true _ _ parts.1 in
    let all = area log2 few in
    record { value = eqb-true _ _ parts.0; inside = inside; few = omega arith }

pub row_index_is : (kind : Scan) (log2 x y side : ℕ) → kind ≡ Horizontal → side ≡ 2 ^ log2 → log2 ≤ 3 → x < 2 ^ log2
    → y < 2 ^ log2 → IsIndex kind log2 x y (side * y + x)
row_index_is kind log2 x y side k s few left above = rw (k, s) (index_is Horizontal log2 x y few left above)

pub column_index_is : (kind : Scan) (log2 x y side : ℕ) → kind ≡ Vertical → side ≡ 2 ^ log2 → log2 ≤ 3 → x < 2 ^ log2
    → y < 2 ^ log2 → IsIndex kind log2 x y (side * x + y)
column_index_is kind log2 x y side k s few left above = rw (k, s) (index_is Vertical log2 x y few left above)

pub diagonal_index_is : (kind : Scan) (log2 x y side first i : ℕ) → kind ≡ Diagonal → side ≡ 2 ^ log2
    → first ≡ first_of log2 → i ≡ slice_index DIAGONAL_INDEX (first + side * y + x)
    → log2 ≤ 3 → x < 2 ^ log2 → y < 2 ^ log2 → IsIndex kind log2 x y i
diagonal_index_is kind log2 x y side first i k s f e few left above =
    rw (e, k, s, f) (index_is Diagonal log2 x y few left above)

-- the tables have the index of each place
pub index_in_table : (log2 x y side first : ℕ) → side ≡ 2 ^ log2 → first ≡ first_of log2 → log2 ≤ 3 → x < 2 ^ log2
    → y < 2 ^ log2 → first + side * y + x < 85
index_in_table log2 x y side first s f few left above =
    let row = (row_index_is Horizontal log2 x y side refl s few left above).inside in
    let all = in_table log2 (side * y + x) first f few row in
    omega (arith, all)
