-- A row of coding tree blocks with its offsets, in memory.
use Rattle.std.proofs.Common.{◌≡◌, ℕ, ◌+◌, ◌-◌, ◌*◌, ◌/◌, ◌<◌, ◌≤◌, Bool, true, false, nat_le, nat_lt, ◌&&◌}
use Rattle.std.proofs.Common.{List, get_or, length, take, drop, refl, sym, ap, ◌∙◌, arith}
use Rattle.std.specs.Prelude.{min}
use Rattle.std.proofs.lemmas.Bool.Decides.{nat_tests}
use Rattle.std.proofs.lemmas.List.{length-drop, length-take-le}
use Rattle.std.proofs.Math.Nat.{mul-le-mul_left}
use borrow.Rule.Slice.PartMut.{put_mid}
use Rattle.spec_deblocking.specs.declared.place.Place.{Place}
use Rattle.spec_loop_filters.specs.declared.format.FilterFormat.{FilterFormat}
use Rattle.filter_locality_laws.specs.Rows.{IsPlaceOfRow}
use Rattle.deblock.specs.Windows.{at}
use Rattle.deblock.proofs.Laying.{cond_yes}
use Rattle.loop_filters.specs.Formats.{IsFormat}
use Rattle.loop_filters.specs.declared.component.Component.{Component}
use Rattle.loop_filters.proofs.Copied.{line_below}
use Rattle.loop_filters.proofs.Gathered.{part_sample, row_written}
use Rattle.row_filters.specs.Known.{AreKept}
use Rattle.row_filters.specs.Lines.{HoldLines, HoldRow, count_of, end_line, first_line}

-- a row's places, counted from its first ones
own_place : (format : FilterFormat) (row l : ℕ) → IsFormat format → l < format.ctb_size / 4
    → IsPlaceOfRow format row 0 (format.ctb_size / 4 * row + l)
own_place format row l is less =
    let m : ℕ = format.ctb_size / 4 in
    let four : format.ctb_size ≡ 4 * m = omega (arith, is.grid) in
    let all : format.ctb_size * row ≡ 4 * (m * row) =
    let turned : 4 * m * row ≡ 4 * (m * row) = grind arith in
    ap (λ n. n * row) four ∙ turned in
    (omega (arith, all), omega (arith, all, four, less))

-- whether their samples stay, by the flags of a view
pub known_kept : (format : FilterFormat) (row : ℕ) (places known : ℕ → ℕ → Place) (flags : List Bool)
    → IsFormat format → AreKept format row places known
    → ((i l : ℕ) → i < format.width / 4 → l < format.ctb_size / 4
    → format.ctb_size / 4 * row + l < format.height / 4
    → get_or flags (format.width / 4 * l + i) false ≡ (known i (format.ctb_size / 4 * row + l)).kept)
    → (i l : ℕ) → i < format.width / 4 → l < format.ctb_size / 4
    → format.ctb_size / 4 * row + l < format.height / 4
    → get_or flags (format.width / 4 * l + i) false ≡ (places i (format.ctb_size / 4 * row + l)).kept
known_kept format row places known flags is are told i l left few inside =
    told i l left few inside
    ∙ sym (are i (format.ctb_size / 4 * row + l) left inside (own_place format row l is few))

-- a sample of a row that was written into memory, counted by lines from the first one there
pub own_written : (w skip end n k : ℕ) (samples out : List ℕ) (F : ℕ → ℕ → ℕ) (x l : ℕ) → skip < n → end ≤ n
    → skip ≤ end → k ≡ w * end - w * skip → length samples ≡ w * n → length out ≡ k
    → ((i j : ℕ) → i < w → j < end - skip → at w out i j ≡ F i (skip + j)) → x < w → skip ≤ l → l < end
    → at w (put_mid (w * skip) k samples out) x l ≡ F x l
own_written w skip end n k samples out F x l some most low many count size value column first last =
    let t : (nat_le skip l && nat_lt l (skip + (end - skip))) ≡ true = grind (arith, nat_tests) in
    cond_yes _ _ _ _
    (row_written w skip end (end - skip) n k samples out F x l (omega (arith, most, low)) some many count size value
    column (omega (arith, last, most)))
    t

module _ (k : Component) (row above own : ℕ) (samples : List ℕ) (first : above ≡ min (k.size * row) 1)
    (count : own ≡ min k.size (k.height - k.size * row)) (begins : k.size * row < k.height)
    (many : length samples ≡ count_of k row 1) where
  abbrev lines : ℕ
  lines = end_line k row 1 - first_line k row 1

  own_fit : above + own ≤ lines
  own_fit = omega (arith, first, count, begins)

  -- the row's lines are in memory
  pub own_inside : k.width * (above + own) ≤ length samples
  own_inside =
      let le : k.width * (above + own) ≤ k.width * lines = mul-le-mul_left k.width own_fit in
      omega (arith, le, many)

  -- those before
  pub own_before : (f : ℕ → ℕ → ℕ) → HoldLines k row 1 f samples → (i j : ℕ) → i < k.width → j < own
      → at k.width (take (k.width * (above + own) - k.width * above) (drop (k.width * above) samples)) i j
      ≡ f i (k.size * row + j)
  own_before f held i j left few =
      let line : above + j ≡ k.size * row + j - first_line k row 1 = omega (arith, first) in
      part_sample k.width above (above + own) i j _ samples (omega arith) left (omega (arith, few)) refl
      ∙ ap (λ (l : ℕ). at k.width samples i l) line
      ∙ held i (k.size * row + j) left (omega arith) (omega (arith, few, count, begins))

  -- and behind
  pub own_behind : (f : ℕ → ℕ → ℕ) (out : List ℕ) → length out ≡ k.width * (above + own) - k.width * above
      → ((i j : ℕ) → i < k.width → j < own → at k.width out i j ≡ f i (k.size * row + j))
      → HoldRow k row 1 f
      (put_mid (k.width * above) (k.width * (above + own) - k.width * above) samples out)
  own_behind f out size told x y column low high =
      let fit = own_fit in
      let back : y - first_line k row 1 + first_line k row 1 ≡ y = omega (arith, low) in
      let some : above < lines = omega (arith, first, begins) in
      own_written k.width above (above + own) lines _ samples out (λ i l. f i (l + first_line k row 1)) x
      (y - first_line k row 1) some fit (omega arith) refl many size
      (λ i j left few.
      let line : k.size * row + j ≡ above + j + first_line k row 1 = omega (arith, first) in
      told i j left (omega (arith, few)) ∙ ap (f i) line)
      column (omega (arith, first, low)) (omega (arith, first, count, low, high))
      ∙ ap (f x) back

-- the lines of a row with one on each side, among those with four on each side
module _ (k : Component) (row above count : ℕ) (samples : List ℕ)
    (first : above ≡ min (k.size * row) 4 - min (k.size * row) 1)
    (is : count ≡ end_line k row 1 - first_line k row 1) (begins : k.size * row < k.height)
    (many : length samples ≡ count_of k row 4) where
  abbrev all : ℕ
  all = end_line k row 4 - first_line k row 4

  among_fit : above + count ≤ all
  among_fit = omega (arith, first, is, begins)

  -- they are in memory, so many of them
  pub among_inside : k.width * (above + count) ≤ length samples
  among_inside =
      let le : k.width * (above + count) ≤ k.width * all = mul-le-mul_left k.width among_fit in
      omega (arith, le, many)

  pub among_count : length (take (k.width * (above + count) - k.width * above) (drop (k.width * above) samples))
      ≡ count_of k row 1
  among_count =
      let e : k.width * (above + count) ≡ k.width * above + k.width * count = grind arith in
      let f : k.width * count ≡ count_of k row 1 = ap (λ n. k.width * n) is in
      let inside = among_inside in
      length-take-le (k.width * (above + count) - k.width * above) (drop (k.width * above) samples)
      (omega (arith, length-drop (k.width * above) samples, inside))
      ∙ omega (arith, e, f)

  -- before
  pub among_before : (f : ℕ → ℕ → ℕ) → HoldLines k row 4 f samples → HoldLines k row 1 f
      (take (k.width * (above + count) - k.width * above) (drop (k.width * above) samples))
  among_before f held x y column low high =
      let line : above + (y - first_line k row 1) ≡ y - first_line k row 4 = omega (arith, first, low) in
      part_sample k.width above (above + count) x (y - first_line k row 1) _ samples (omega arith) column
      (omega (arith, is, low, high)) refl
      ∙ ap (λ (l : ℕ). at k.width samples x l) line
      ∙ held x y column (omega (arith, low)) (omega (arith, high))

  -- and behind
  pub among_behind : (f : ℕ → ℕ → ℕ) (out : List ℕ) → length out ≡ k.width * (above + count) - k.width * above
      → HoldRow k row 1 f out
      → HoldRow k row 4 f (put_mid (k.width * above) (k.width * (above + count) - k.width * above) samples out)
  among_behind f out size held x y column low high =
      let fit = among_fit in
      let some : above < all = omega (arith, first, begins) in
      let line : y - first_line k row 4 - above ≡ y - first_line k row 1 = omega (arith, first, low) in
      own_written k.width above (above + count) all _ samples out (λ i l. at k.width out i (l - above)) x
      (y - first_line k row 4) some fit (omega arith) refl many size
      (λ i j left few.
      let back : j ≡ above + j - above = omega arith in
      ap (λ (l : ℕ). at k.width out i l) back)
      column (omega (arith, first, low)) (omega (arith, first, is, low, high))
      ∙ ap (λ (l : ℕ). at k.width out x l) line
      ∙ held x y column low high

-- lines that are copied
pub copied : (k : Component) (row : ℕ) (samples lines : List ℕ) (f : ℕ → ℕ → ℕ) → length samples ≡ count_of k row 1
    → ((q : ℕ) → q < length samples → get_or lines q 0 ≡ get_or samples q 0) → HoldLines k row 1 f samples
    → HoldLines k row 1 f lines
copied k row samples lines f many same held x y column low high =
    let below = line_below k.width (y - first_line k row 1) (end_line k row 1 - first_line k row 1)
    (omega (arith, low, high)) in
    same (k.width * (y - first_line k row 1) + x) (omega (arith, below, column, many)) ∙ held x y column low high
