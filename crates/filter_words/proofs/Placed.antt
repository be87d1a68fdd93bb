-- Which of a unit's words have the modes of its places, and its offsets.
use Rattle.std.proofs.Common.{◌≡◌, ℕ, ◌+◌, ◌*◌, ◌/◌, ◌<◌, ◌≤◌, sym, ap, subst, ◌∙◌, arith}
use Rattle.std.proofs.Math.Nat.{mul-le-mul_right}
use Rattle.std.proofs.lemmas.Nat.{mul-le}
use Rattle.hv_base.specs.declared.line.Line.{Line}
use Rattle.hv_base.specs.declared.line.Phase.{Phase}
use Rattle.hv_base.specs.declared.line.Phase.TheVariants.{B}
use Rattle.sample_words.specs.declared.sizes.FlightSizes.{FlightSizes}
use Rattle.sample_words.specs.declared.unit_content.UnitContent.TheVariants.{Modes, Offsets}
use Rattle.sample_words.specs.Contents.{index_of}
use Rattle.sample_words.specs.Sizes.{IsFlight, carry_words, common_words, context_words, height_of}
use Rattle.sample_words.specs.Sizes.{width_of}
use Rattle.sample_words.specs.Words.{phase_words}
use Rattle.sample_words.proofs.Bounds.{few_common_words, few_rows, small_height, small_width}
use Rattle.line_words.specs.Places.{IsUnit, UnitAt, words_at}
use Rattle.filter_words.specs.Placed.{IsPlaced, content_index}
use Rattle.filter_words.specs.Units.{across_of, down_of, unit_at, unit_side}
use Rattle.filter_words.proofs.Sizes.{column_along, few_places, row_along}

-- the modes of a row of places follow one another
pub row_modes : (s : FlightSizes) (width height column x y : ℕ)
    → index_of s width height column (Modes 0 0) + y * (width / 4) + x
    ≡ index_of s width height column (Modes x y)
unfolding index_of
row_modes s width height column x y = omega arith

offsets_behind : (s : FlightSizes) (width height column : ℕ)
    → index_of s width height column (Modes 0 0) + width / 4 * (height / 4)
    ≡ index_of s width height column (Offsets 0)
unfolding index_of
offsets_behind s width height column = omega arith

next_offset : (s : FlightSizes) (width height column : ℕ)
    → index_of s width height column (Offsets 0) + 1 ≡ index_of s width height column (Offsets 1)
unfolding index_of
next_offset s width height column = omega arith

module _ (s : FlightSizes) (width height column more : ℕ) where
  -- they are words of the unit
  modes_inside : (y : ℕ) → y < height / 4
      → index_of s width height column (Modes 0 0) + y * (width / 4) + width / 4
      ≤ common_words s width height + more
  unfolding index_of common_words
  modes_inside y less =
      let m : (y + 1) * (width / 4) ≤ height / 4 * (width / 4) = mul-le-mul_right (width / 4) (omega (arith, less)) in
      let e : (y + 1) * (width / 4) ≡ y * (width / 4) + width / 4 = grind arith in
      let t : height / 4 * (width / 4) ≡ width / 4 * (height / 4) = grind arith in
      omega (arith, m, e, t)

  first_inside : index_of s width height column (Modes 0 0) + 1 ≤ common_words s width height + more
  unfolding index_of common_words
  first_inside = omega arith

  offsets_inside : index_of s width height column (Offsets 0) + 2 ≤ common_words s width height + more
  unfolding index_of common_words
  offsets_inside = omega arith

-- few words stand before them
few_before : (s : FlightSizes) (width height column : ℕ) → width ≤ 64 → height ≤ 64
    → index_of s width height column (Offsets 0) ≤ 8192
few_before s width height column narrow low =
    let few = few_common_words s width height narrow low in
    let inside = offsets_inside s width height column 0 in
    omega (arith, few, inside)

module _ (u : UnitAt) (phase : u.line.phase ≡ B) where
  abbrev wide : ℕ
  wide = width_of u.sizes u.unit

  abbrev high : ℕ
  high = height_of u.sizes u.line.row

  abbrev more : ℕ
  more = context_words u.unit + carry_words u.sizes u.unit

  words_are : words_at u ≡ common_words u.sizes wide high + more
  words_are = ap (λ (t : Phase). phase_words u.sizes t high u.unit) phase

  pub row_fits : (y first count : ℕ) → y < down_of u → first ≡ content_index u (Modes 0 0) + y * across_of u
      → count ≡ across_of u → first + count ≤ words_at u
  row_fits y first count less at many =
      let inside = modes_inside u.sizes wide high u.unit more y less in
      let e = words_are in
      omega (arith, inside, e, at, many)

  pub first_fits : (first count : ℕ) → first ≡ content_index u (Modes 0 0) → count ≡ 1 → first + count ≤ words_at u
  first_fits first count at many =
      let inside = first_inside u.sizes wide high u.unit more in
      let e = words_are in
      omega (arith, inside, e, at, many)

  pub offsets_fit : (first count : ℕ) → first ≡ content_index u (Offsets 0) → count ≡ 2 → first + count ≤ words_at u
  offsets_fit first count at many =
      let inside = offsets_inside u.sizes wide high u.unit more in
      let e = words_are in
      omega (arith, inside, e, at, many)

pub second_offset : (u : UnitAt) → content_index u (Offsets 0) + 1 ≡ content_index u (Offsets 1)
second_offset u = next_offset u.sizes (width_of u.sizes u.unit) (height_of u.sizes u.line.row) u.unit

-- the numbers of a unit
few_times : (side k : ℕ) → side ≤ 16 → k ≤ 512 → side * k ≤ 8192
few_times side k narrow few = mul-le side k 16 512 narrow few

module _ (s : FlightSizes) (is : IsFlight s) (l : Line) (x : ℕ) (unit : IsUnit (unit_at s l x)) where
  abbrev u : UnitAt
  u = unit_at s l x

  -- a unit has places
  pub some_across : 0 < width_of s x / 4
  some_across = let along = column_along s is x unit.unit in omega (arith, along.some)

  pub some_down : 0 < height_of s l.row / 4
  some_down = let along = row_along s is l.row unit.line.row in omega (arith, along.some)

  -- its column is in the picture
  pub column_few : unit_side s * x + width_of s x / 4 ≤ 2048
  column_few = let along = column_along s is x unit.unit in omega (arith, along.ends, is.width)

  pub column_low : unit_side s * x ≤ 8192
  column_low = let few = column_few in omega (arith, few)

  pub row_low : unit_side s * l.row ≤ 8192
  row_low =
      let most = few_rows s is in
      few_times (unit_side s) l.row (few_places s is) (omega (arith, most, unit.line.row))

  pub placed_is : (modes offsets across column row : ℕ)
      → modes ≡ index_of s (width_of s x) (height_of s l.row) x (Modes 0 0)
      → offsets ≡ modes + across * (height_of s l.row / 4) → across ≡ width_of s x / 4
      → column ≡ unit_side s * x → row ≡ unit_side s * l.row
      → IsPlaced (unit_at s l x) modes offsets across column row
  placed_is modes offsets across column row modes_is offsets_is across_is column_is row_is =
      let along = column_along s is x unit.unit in
      let down = row_along s is l.row unit.line.row in
      let side = few_places s is in
      let behind = offsets_behind s (width_of s x) (height_of s l.row) x in
      let times : across * (height_of s l.row / 4) ≡ width_of s x / 4 * (height_of s l.row / 4) =
      ap (λ n. n * (height_of s l.row / 4)) across_is in
      let at : offsets ≡ index_of s (width_of s x) (height_of s l.row) x (Offsets 0) =
      omega (arith, offsets_is, times, modes_is, behind) in
      let few = few_before s (width_of s x) (height_of s l.row) x (small_width s x is) (small_height s l.row is) in
      let right = column_few in
      let low = row_low in
      record {
        modes_at = modes_is;
        offsets_at = at;
        few_words = (omega (arith, modes_is, behind, few), omega (arith, at, few));
        width = across_is;
        some = omega (arith, along.some, across_is);
        few = omega (arith, along.few, across_is, side);
        high = omega (arith, down.few, side);
        left = column_is;
        top = row_is;
        right = omega (arith, right, column_is, across_is);
        low = omega (arith, low, row_is);
      }

  -- by the numbers that it is reckoned from
  pub few_offsets : (n w h place modes : ℕ) → n ≡ x → w ≡ width_of s n → h ≡ height_of s l.row → place ≡ n
      → modes ≡ index_of s w h place (Modes 0 0) → modes + w / 4 * (h / 4) ≤ 8192
  few_offsets n w h place modes n_is w_is h_is place_is modes_is =
      let wide : w ≡ width_of s x = w_is ∙ ap (width_of s) n_is in
      let narrow = small_width s x is in
      let low = small_height s l.row is in
      let behind = offsets_behind s w h place in
      let few = few_before s w h place (omega (arith, wide, narrow)) (omega (arith, h_is, low)) in
      omega (arith, modes_is, behind, few)

  pub placed_by : (at : UnitAt) (n w h place modes across side : ℕ) → at ≡ unit_at s l x → n ≡ x → w ≡ width_of s n
      → h ≡ height_of s l.row → place ≡ n → modes ≡ index_of s w h place (Modes 0 0) → across ≡ w / 4
      → side ≡ unit_side s
      → IsPlaced at modes (modes + across * (h / 4)) across (side * x) (side * l.row)
  placed_by at n w h place modes across side at_is n_is w_is h_is place_is modes_is across_is side_is =
      let wide : w ≡ width_of s x = w_is ∙ ap (width_of s) n_is in
      let index : modes ≡ index_of s (width_of s x) (height_of s l.row) x (Modes 0 0) =
      modes_is ∙ ap (λ m. index_of s m h place (Modes 0 0)) wide
      ∙ ap (λ m. index_of s (width_of s x) m place (Modes 0 0)) h_is
      ∙ ap (λ m. index_of s (width_of s x) (height_of s l.row) m (Modes 0 0)) (place_is ∙ n_is) in
      subst (λ (v : UnitAt). IsPlaced v modes (modes + across * (h / 4)) across (side * x) (side * l.row)) (sym at_is)
      (placed_is modes (modes + across * (h / 4)) across (side * x) (side * l.row) index
      (ap (λ m. modes + across * (m / 4)) h_is) (across_is ∙ ap (λ m. m / 4) wide) (ap (λ m. m * x) side_is)
      (ap (λ m. m * l.row) side_is))
