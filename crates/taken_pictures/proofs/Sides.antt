-- The sides of coding tree units, in samples of a component and in places.
use Rattle.std.proofs.Common.{◌≡◌, ℕ, ◌+◌, ◌-◌, ◌*◌, ◌/◌, ◌^◌, ◌<◌, ◌≤◌, ◌==◌, ◌&&◌, min, arith, ap, sym}
use Rattle.std.proofs.Common.{◌∙◌, Bool, true, false, cond, nat_le, nat_lt, refl}
use Rattle.std.proofs.lemmas.Nat.{div-add-mod', mod_below, pow-add}
use Rattle.std.proofs.Math.Nat.{div-mul-le_self, mul-le-mul_right}
use Rattle.sample_words.specs.declared.sizes.FlightSizes.{FlightSizes}
use Rattle.sample_words.specs.Contents.{component_side}
use Rattle.sample_words.specs.Sizes.{IsFlight, columns, ctb_size, height_of, rows, width_of}
use Rattle.sample_words.proofs.Extents.{some_side}
use Rattle.sample_words.proofs.Parts.{next_part}
use Rattle.taken_pictures.specs.Rows.{first_line, is_line_of_row, side_places}
use Rattle.taken_pictures.proofs.Tests.{below_cut}

-- CtbSizeY is a multiple of 4
pub four : (s : FlightSizes) → IsFlight s → ctb_size s ≡ 4 * side_places s
four s is =
    let e : s.ctb_log2 ≡ 2 + (s.ctb_log2 - 2) = omega (arith, is.least_unit) in
    let p : ctb_size s ≡ 4 * 2 ^ (s.ctb_log2 - 2) = ap (λ (k : ℕ). 2 ^ k) e ∙ pow-add 2 2 (s.ctb_log2 - 2) in
    omega (arith, p)

pub four_start : (s : FlightSizes) (k : ℕ) → IsFlight s → k * ctb_size s ≡ 4 * (side_places s * k)
four_start s k is =
    let e = ap (λ (n : ℕ). k * n) (four s is) in
    let turned : k * (4 * side_places s) ≡ 4 * (side_places s * k) = grind arith in
    e ∙ turned

-- units cover all samples
covered : (side samples : ℕ) → 0 < side → samples ≤ (samples + (side - 1)) / side * side
covered side samples some =
    let whole = div-add-mod' (samples + (side - 1)) side in
    let rest = mod_below (samples + (side - 1)) side some in
    omega (arith, some, whole, rest)

-- and each of them has some
begun : (side samples k : ℕ) → 0 < side → k < (samples + (side - 1)) / side → k * side < samples
begun side samples k some less =
    let all = div-mul-le_self (samples + (side - 1)) side in
    let le : (k + 1) * side ≤ (samples + (side - 1)) / side * side = mul-le-mul_right side (omega (arith, less)) in
    let next = next_part k side in
    omega (arith, some, all, le, next)

pub columns_cover : (s : FlightSizes) → s.width ≤ columns s * ctb_size s
unfolding columns
columns_cover s = covered (ctb_size s) s.width (some_side s)

pub rows_cover : (s : FlightSizes) → s.height ≤ rows s * ctb_size s
unfolding rows
rows_cover s = covered (ctb_size s) s.height (some_side s)

pub column_begun : (s : FlightSizes) (k : ℕ) → k < columns s → k * ctb_size s < s.width
unfolding columns
column_begun s k less = begun (ctb_size s) s.width k (some_side s) less

pub row_begun : (s : FlightSizes) (k : ℕ) → k < rows s → k * ctb_size s < s.height
unfolding rows
row_begun s k less = begun (ctb_size s) s.height k (some_side s) less

-- the places of a unit, of those of the picture
cut_places : (t p all n k : ℕ) → t ≡ 4 * n → p ≡ 4 * k → min t (all - p) / 4 ≡ min n (all / 4 - k)
cut_places t p all n k e f = omega (arith, e, f)

pub columns_are : (s : FlightSizes) (k : ℕ) → IsFlight s
    → width_of s k / 4 ≡ min (side_places s) (s.width / 4 - side_places s * k)
unfolding width_of
columns_are s k is =
    cut_places (ctb_size s) (k * ctb_size s) s.width (side_places s) (side_places s * k) (four s is) (four_start s k is)

pub rows_are : (s : FlightSizes) (k : ℕ) → IsFlight s
    → height_of s k / 4 ≡ min (side_places s) (s.height / 4 - side_places s * k)
unfolding height_of
rows_are s k is =
    cut_places (ctb_size s) (k * ctb_size s) s.height (side_places s) (side_places s * k) (four s is)
    (four_start s k is)

-- all of them are in the picture
pub columns_inside : (s : FlightSizes) (k : ℕ) → IsFlight s → k < columns s
    → side_places s * k + width_of s k / 4 ≤ s.width / 4
columns_inside s k is less =
    omega (arith, columns_are s k is, column_begun s k less, four_start s k is)

pub row_inside : (s : FlightSizes) (k y : ℕ) → IsFlight s → k < rows s → y < height_of s k / 4
    → side_places s * k + y < s.height / 4
row_inside s k y is less below =
    omega (arith, rows_are s k is, row_begun s k less, four_start s k is, below)

-- a place of the picture is among those that it has of a unit where it is among all of the unit
pub column_among : (s : FlightSizes) (k w i : ℕ) → IsFlight s → w ≡ width_of s k / 4 → i < s.width / 4
    → (nat_le (side_places s * k) i && nat_lt i (side_places s * k + w))
    ≡ (nat_le (side_places s * k) i && nat_lt i (side_places s * k + side_places s))
column_among s k w i is e inside =
    ap (λ n. nat_le (side_places s * k) i && nat_lt i (side_places s * k + n)) (e ∙ columns_are s k is)
    ∙ ap (λ b. nat_le (side_places s * k) i && b)
    (below_cut (side_places s * k) (side_places s) (s.width / 4) i inside)

pub row_among : (s : FlightSizes) (k h j : ℕ) → IsFlight s → h ≡ height_of s k / 4 → j < s.height / 4
    → (nat_le (side_places s * k) j && nat_lt j (side_places s * k + h))
    ≡ (nat_le (side_places s * k) j && nat_lt j (side_places s * k + side_places s))
row_among s k h j is e inside =
    ap (λ n. nat_le (side_places s * k) j && nat_lt j (side_places s * k + n)) (e ∙ rows_are s k is)
    ∙ ap (λ b. nat_le (side_places s * k) j && b)
    (below_cut (side_places s * k) (side_places s) (s.height / 4) j inside)

-- all places are among those of the units
pub column_before_end : (s : FlightSizes) (i : ℕ) → IsFlight s → i < s.width / 4 → i < side_places s * columns s
column_before_end s i is inside = omega (arith, columns_cover s, four_start s (columns s) is, inside)

pub place_before_end : (s : FlightSizes) (j : ℕ) → IsFlight s → j < s.height / 4 → j < side_places s * rows s
place_before_end s j is inside = omega (arith, rows_cover s, four_start s (rows s) is, inside)

-- lines of a component: those of a row, of those of the picture
side_most : (luma : Bool) (a b : ℕ) → a ≤ b → cond luma a (a / 2) ≤ cond luma b (b / 2)
side_most true a b le = le
side_most false a b le = omega (arith, le)

cut_lines : (luma : Bool) (t p all n k : ℕ) → t ≡ 4 * n → p ≡ 4 * k
    → cond luma (min t (all - p)) (min t (all - p) / 2)
    ≡ min (cond luma t (t / 2)) (cond luma all (all / 2) - cond luma p (p / 2))
cut_lines true t p all n k e f = refl
cut_lines false t p all n k e f = omega (arith, e, f)

next_line : (luma : Bool) (t p q n k : ℕ) → t ≡ 4 * n → p ≡ 4 * k → q ≡ p + t
    → cond luma q (q / 2) ≡ cond luma p (p / 2) + cond luma t (t / 2)
next_line true t p q n k e f g = g
next_line false t p q n k e f g = omega (arith, e, f, g)

pub lines_are : (s : FlightSizes) (c row : ℕ) → IsFlight s
    → component_side c (height_of s row)
    ≡ min (component_side c (ctb_size s)) (component_side c s.height - first_line s c row)
unfolding height_of
lines_are s c row is =
    cut_lines (c == 0) (ctb_size s) (row * ctb_size s) s.height (side_places s) (side_places s * row) (four s is)
    (four_start s row is)

pub next_first : (s : FlightSizes) (c row : ℕ) → IsFlight s
    → first_line s c (row + 1) ≡ first_line s c row + component_side c (ctb_size s)
next_first s c row is =
    next_line (c == 0) (ctb_size s) (row * ctb_size s) ((row + 1) * ctb_size s) (side_places s)
    (side_places s * row) (four s is) (four_start s row is) (next_part row (ctb_size s))

pub lines_inside : (s : FlightSizes) (c row : ℕ) → IsFlight s → row < rows s
    → first_line s c row + component_side c (height_of s row) ≤ component_side c s.height
lines_inside s c row is less =
    let begins = row_begun s row less in
    let low = side_most (c == 0) (row * ctb_size s) s.height (omega (arith, begins)) in
    let are = lines_are s c row is in
    omega (arith, low, are)

-- a line of the picture is among those that it has of a row where it is one of the row
pub line_among : (s : FlightSizes) (c row h y : ℕ) → IsFlight s → h ≡ component_side c (height_of s row)
    → y < component_side c s.height
    → (nat_le (first_line s c row) y && nat_lt y (first_line s c row + h)) ≡ is_line_of_row s c row y
line_among s c row h y is e inside =
    ap (λ n. nat_le (first_line s c row) y && nat_lt y (first_line s c row + n)) (e ∙ lines_are s c row is)
    ∙ (ap (λ b. nat_le (first_line s c row) y && b)
    (below_cut (first_line s c row) (component_side c (ctb_size s)) (component_side c s.height) y inside)
    ∙ ap (λ n. nat_le (first_line s c row) y && nat_lt y n) (sym (next_first s c row is)))

-- all lines are among those of the rows
pub line_before_end : (s : FlightSizes) (c y : ℕ) → y < component_side c s.height → y < first_line s c (rows s)
line_before_end s c y inside =
    let most = side_most (c == 0) s.height (rows s * ctb_size s) (rows_cover s) in
    omega (arith, most, inside)

-- none stands before the first row
pub side_of_none : (luma : Bool) (n : ℕ) → n ≡ 0 → cond luma n (n / 2) ≡ 0
side_of_none true n e = e
side_of_none false n e = omega (arith, e)

pub no_lines : (s : FlightSizes) (c y : ℕ) → y < first_line s c 0 → ⊥
no_lines s c y above =
    let none = side_of_none (c == 0) (0 * ctb_size s) (omega arith) in
    omega (arith, above, none)
