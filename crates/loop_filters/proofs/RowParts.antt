-- Rows of coding tree blocks in a plane.
use Rattle.std.proofs.Common.{◌^◌, Bool, false, ◌≡◌, ℕ, ◌+◌, ◌-◌, ◌*◌, ◌/◌, ◌<◌, ◌≤◌, List, get_or, ap, sym, subst}
use Rattle.std.proofs.Common.{◌∙◌, arith}
use Rattle.std.specs.Prelude.{min}
use Rattle.std.proofs.Math.Nat.{mul-le-mul_left, mul-le-mul, lt_of_mul-lt-mul_left, mul-add-div}
use Rattle.spec_loop_filters.specs.SpecDeblocking.{Place}
use Rattle.spec_loop_filters.specs.SpecDeblocking.{Plane}
use Rattle.spec_loop_filters.specs.SpecDeblocking.{Luma, Chroma}
use Rattle.spec_loop_filters.specs.SpecDeblocking.{side}
use Rattle.loop_filters.proofs.Copied.{line_below}

-- each row begins in the plane
pub row_begins : (s row rows h : ℕ) → s * rows < h + s → row < rows → s * row < h
row_begins s row rows h high lt = let le = line_below s row rows lt in omega (arith, le, high)

-- a row that begins in the plane is one of its rows
pub row_is_one : (s row rows h : ℕ) → h ≤ s * rows → s * row + s < h → row + 1 < rows
row_is_one s row rows h covers lt =
    let e : s * (row + 1) ≡ s * row + s = grind arith in
    let less : s * (row + 1) < s * rows = omega (arith, e, lt, covers) in
    lt_of_mul-lt-mul_left s less

pub block_is_one : (s u n w : ℕ) → w ≤ s * n → s * u < w → u < n
block_is_one s u n w covers lt = let less : s * u < s * n = omega (arith, lt, covers) in lt_of_mul-lt-mul_left s less

pub lines_inside : (w a h : ℕ) → a ≤ h → w * a ≤ w * h
lines_inside w a h le = mul-le-mul_left w le

pub few : (w h : ℕ) → w ≤ 8192 → h ≤ 8192 → w * h ≤ 67108864
few w h a b = mul-le-mul a b

pub times_next : (s n : ℕ) → s * (n + 1) ≡ s * n + s
times_next s n = grind arith

pub times_sum : (w a b : ℕ) → w * (a + b) ≡ w * a + w * b
times_sum w a b = grind arith

apart : (d s m row j : ℕ) → s ≡ d * m → s * row + j ≡ d * (m * row) + j
apart d s m row j is = rw is (grind arith)

some : (p : Plane) → 0 < side p
some Luma = omega arith
some (Chroma offset) = omega arith

-- the line of places of a line of a row
pub place_line : (p : Plane) (s m row j : ℕ) → s ≡ side p * m → (s * row + j) / side p ≡ m * row + j / side p
place_line p s m row j is =
    let e : s * row + j ≡ side p * (m * row) + j = apart (side p) s m row j is in
    ap (λ (k : ℕ). k / side p) e ∙ mul-add-div (some p) (m * row) j

-- the place of a sample
pub place_inside : (p : Plane) (x w n : ℕ) → w ≡ side p * n → x < w → x / side p < n
place_inside Luma x w n e lt = omega (arith, e, lt)
place_inside (Chroma offset) x w n e lt = omega (arith, e, lt)

-- whether a sample is kept, by the places of its row
pub kept_among : (p q : Plane) (log2 places s row w h x j fw m fh : ℕ) (K : List Bool) (P : ℕ → ℕ → Place) → p ≡ q →
    2 ^ log2 ≡ side p → places ≡ fw → w ≡ side p * fw → h ≡ side p * fh → s ≡ side p * m →
    ((i l : ℕ) → i < fw → l < m → m * row + l < fh → get_or K (fw * l + i) false ≡ (P i (m * row + l)).kept) →
    x < w → j < min s (h - s * row) →
    (P (x / side q) ((s * row + j) / side q)).kept
    ≡ get_or K (places * ((s * row + j - s * row) / 2 ^ log2) + x / 2 ^ log2) false
kept_among p q log2 places s row w h x j fw m fh K P same power count across down block known column line =
    let back : s * row + j - s * row ≡ j = omega arith in
    let e = place_line p s m row j block in
    let inside_x = place_inside p x w fw across column in
    let inside_j = place_inside p j s m block (omega (arith, line)) in
    let inside_y = place_inside p (s * row + j) h fh down (omega (arith, line)) in
    let inside : m * row + j / side p < fh = subst (λ n. n < fh) e inside_y in
    ap (λ (v : Plane). (P (x / side v) ((s * row + j) / side v)).kept) (sym same)
    ∙ ap (λ (k : ℕ). (P (x / side p) k).kept) e
    ∙ sym (known (x / side p) (j / side p) inside_x inside_j inside)
    ∙ ap (λ (n : ℕ). get_or K (n * (j / side p) + x / side p) false) (sym count)
    ∙ ap (λ (d : ℕ). get_or K (places * (j / d) + x / d) false) (sym power)
    ∙ ap (λ (l : ℕ). get_or K (places * (l / 2 ^ log2) + x / 2 ^ log2) false) (sym back)
