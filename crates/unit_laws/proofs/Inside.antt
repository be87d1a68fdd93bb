-- Places of a coding tree unit are available for its coding units as they are read before them.
use Rattle.std.proofs.Common.{◌≡◌, ℕ, ◌+◌, ◌-◌, ◌*◌, ◌/◌, ◌%◌, ◌^◌, ◌<◌, ◌≤◌, Bool, true, false, List}
use Rattle.std.proofs.Common.{refl, sym, ap, ◌∙◌, arith, inl, inr}
use Rattle.std.specs.Prelude.{◌&&◌, ◌||◌, nat_le, nat_lt, slice_index_or}
use Rattle.std.proofs.Math.Nat.{div-add-mod', mul-add-mod_self_left, mul_assoc, mul_comm, pow-le-pow_right}
use Rattle.std.proofs.lemmas.Bool.{and_from, and_parts, cases_Bool, cases_lt, le-leb, lt-leb, lt-ltb, ltb-true}
use Rattle.std.proofs.lemmas.Nat.{div-mul-add, mod-mul-add, pow-add, pow_pos}
use Rattle.block_geometry.specs.Availability.{available, block_start, min_transform_order, spread, unit_of_place}
use Rattle.block_geometry.specs.Availability.{width_in_units, z_scan_order}
use Rattle.block_geometry.specs.CodingTreeBlocks.{is_from}
use Rattle.block_geometry.specs.declared.availability.SliceArea.{SliceArea}
use Rattle.ctu_records.specs.declared.item.Square.{Square}
use Rattle.spec_picture_build.specs.SpecPictureTrees.{first_column, first_row}
use Rattle.spec_slice_data.specs.Segment.{PictureShape, column_of, row_of}
use Rattle.unit_laws.proofs.ScanOrder.{IsAligned, block_order, side_small}
use Rattle.unit_laws.specs.Order.{AreAvailable, AreScanned, IsWhole, is_in, no_square, slice_area, unit_order}

below_both : (a u v : ℕ) → nat_le (256 * a + u) (256 * a + v) ≡ nat_le u v
below_both a u v = elim (cases_lt v u) [
  | inl greater ↦ lt-leb _ _ (omega (arith, greater)) ∙ sym (lt-leb _ _ greater)
  | inr least ↦ le-leb _ _ (omega (arith, least)) ∙ sym (le-leb _ _ least)
]

differ : (b : Bool) → b ≡ true → b ≡ false → ⊥
differ true t f = absurd cc
differ false t f = absurd cc

-- a block of 2^m places on a side at the first place of a square
block_aligned : (least unit m : ℕ) (s : Square) → IsWhole least unit s → m ≤ s.log2_size → unit ≤ 4
    → IsAligned unit m (record { x = s.x; y = s.y; log2_size = m })
block_aligned least unit m s whole few small = record {
  size = refl;
  few = few_places;
  small = small;
  a = s.x / 2 ^ s.log2_size * 2 ^ (s.log2_size - m);
  b = s.y / 2 ^ s.log2_size * 2 ^ (s.log2_size - m);
  x = multiple s.x whole.column;
  y = multiple s.y whole.row;
  across = omega (arith, whole.across, smaller);
  down = omega (arith, whole.down, smaller);
}
  where
    smaller : 2 ^ m ≤ 2 ^ s.log2_size
    smaller = pow-le-pow_right {n = 2} (omega arith) few

    -- a square in a unit of 16 places on a side has no more
    few_places : m ≤ 4
    few_places = elim (cases_lt 4 m) [
      | inl more ↦
          let least_five : 5 ≤ m = omega (arith, more) in
          let five : 2 ^ 5 ≤ 2 ^ m = pow-le-pow_right {n = 2} (omega arith) least_five in
          absurd (omega (arith, five, smaller, whole.across, side_small unit small))
      | inr most ↦ most
    ]

    multiple : (x : ℕ) → x % 2 ^ s.log2_size ≡ 0 → x ≡ x / 2 ^ s.log2_size * 2 ^ (s.log2_size - m) * 2 ^ m
    multiple x none =
        let parts = div-add-mod' x (2 ^ s.log2_size) in
        let all : x ≡ x / 2 ^ s.log2_size * 2 ^ s.log2_size = omega (arith, parts, none) in
        let cut : 2 ^ s.log2_size ≡ 2 ^ (s.log2_size - m) * 2 ^ m =
        ap (λ k. 2 ^ k) (omega (arith, few)) ∙ pow-add 2 (s.log2_size - m) m in
        all ∙ ap (λ k. x / 2 ^ s.log2_size * k) cut
        ∙ sym (mul_assoc (x / 2 ^ s.log2_size) (2 ^ (s.log2_size - m)) (2 ^ m))

-- a place of a square's first block is in the square
smaller_in : (m : ℕ) (s : Square) (i j : ℕ) → m ≤ s.log2_size → is_in s i j ≡ false
    → is_in (record { x = s.x; y = s.y; log2_size = m }) i j ≡ false
smaller_in m s i j few outside = elim (cases_Bool (is_in (record { x = s.x; y = s.y; log2_size = m }) i j)) [
  | inl held ↦
      let smaller : 2 ^ m ≤ 2 ^ s.log2_size = pow-le-pow_right {n = 2} (omega arith) few in
      let both = and_parts (nat_le s.x i && nat_lt i (s.x + 2 ^ m)) _ held in
      let columns = and_parts (nat_le s.x i) _ both.0 in
      let rows = and_parts (nat_le s.y j) _ both.1 in
      let right : i < s.x + 2 ^ m = ltb-true _ _ columns.1 in
      let bottom : j < s.y + 2 ^ m = ltb-true _ _ rows.1 in
      let across : i < s.x + 2 ^ s.log2_size = omega (arith, right, smaller) in
      let down : j < s.y + 2 ^ s.log2_size = omega (arith, bottom, smaller) in
      absurd (differ (is_in s i j)
      (and_from _ _ (and_from _ _ columns.0 (lt-ltb _ _ across)) (and_from _ _ rows.0 (lt-ltb _ _ down)))
      outside)
  | inr other ↦ other
]

block_whole : (m : ℕ) (s : Square) (x : ℕ) → m ≤ s.log2_size → x % 2 ^ s.log2_size ≡ 0 → block_start m x ≡ x
block_whole m s x few none =
    let parts = div-add-mod' x (2 ^ s.log2_size) in
    let all : x ≡ 2 ^ s.log2_size * (x / 2 ^ s.log2_size) + 0 =
    omega (arith, parts, none, mul_comm (2 ^ s.log2_size) (x / 2 ^ s.log2_size)) in
    let cut : 2 ^ s.log2_size ≡ 2 ^ m * 2 ^ (s.log2_size - m) =
    ap (λ k. 2 ^ k) (omega (arith, few)) ∙ pow-add 2 m (s.log2_size - m) in
    let by : x ≡ 2 ^ m * (2 ^ (s.log2_size - m) * (x / 2 ^ s.log2_size)) + 0 =
    all ∙ ap (λ k. k * (x / 2 ^ s.log2_size) + 0) cut
    ∙ ap (λ k. k + 0) (mul_assoc (2 ^ m) (2 ^ (s.log2_size - m)) (x / 2 ^ s.log2_size)) in
    let some : 0 < 2 ^ m = pow_pos m in
    let rest : x % 2 ^ m ≡ 0 % 2 ^ m =
    ap (λ k. k % 2 ^ m) by ∙ mul-add-mod_self_left (2 ^ m) (2 ^ (s.log2_size - m) * (x / 2 ^ s.log2_size)) 0 in
    let none_times : 0 ≡ 0 * 2 ^ m + 0 = omega arith in
    let zero : 0 % 2 ^ m ≡ 0 = ap (λ k. k % 2 ^ m) none_times ∙ mod-mul-add 0 (2 ^ m) 0 some in
    omega (arith, rest, zero)

module _ (picture : PictureShape) (m slice address : ℕ) (few : m ≤ picture.size)
    (width : picture.width ≡ width_in_units (slice_area picture m slice)) where
  abbrev Side : ℕ
  Side = 2 ^ picture.size

  abbrev Area : SliceArea
  Area = slice_area picture m slice

  column_at : (c i : ℕ) → i < Side → (Side * c + i) / Side ≡ c
  column_at c i inside = ap (λ k. (k + i) / Side) (mul_comm Side c) ∙ div-mul-add c Side i inside

  rest_at : (c i : ℕ) → i < Side → (Side * c + i) % Side ≡ i
  rest_at c i inside = ap (λ k. (k + i) % Side) (mul_comm Side c) ∙ mod-mul-add c Side i inside

  -- a place of the unit
  unit_here : (i j : ℕ) → i < Side → j < Side
      → unit_of_place Area (first_column picture address + i) (first_row picture address + j) ≡ address
  unfolding unit_of_place
  unit_here i j across down =
      ap (λ k. width_in_units Area * k + (first_column picture address + i) / Side)
      (column_at (row_of picture address) j down)
      ∙ ap (λ k. width_in_units Area * row_of picture address + k) (column_at (column_of picture address) i across)
      ∙ ap (λ k. k * row_of picture address + column_of picture address) (sym width)
      ∙ ap (λ k. k + column_of picture address) (mul_comm picture.width (row_of picture address))
      ∙ div-add-mod' address picture.width

  block_here : (c i : ℕ) → block_start m (Side * c + i) ≡ Side * c + block_start m i
  block_here c i =
      let cut : Side ≡ 2 ^ m * 2 ^ (picture.size - m) =
      ap (λ k. 2 ^ k) (omega (arith, few)) ∙ pow-add 2 m (picture.size - m) in
      let whole : Side * c ≡ 2 ^ m * (2 ^ (picture.size - m) * c) =
      ap (λ k. k * c) cut ∙ mul_assoc (2 ^ m) (2 ^ (picture.size - m)) c in
      let rest : (Side * c + i) % 2 ^ m ≡ i % 2 ^ m =
      ap (λ k. (k + i) % 2 ^ m) whole ∙ mul-add-mod_self_left (2 ^ m) (2 ^ (picture.size - m) * c) i in
      let parts = div-add-mod' i (2 ^ m) in
      omega (arith, rest, parts)

  less : (i : ℕ) → i < Side → block_start m i < Side
  less i inside = omega (arith, inside)

  order_here : (i j : ℕ) → i < Side → j < Side
      → min_transform_order Area (first_column picture address + i) (first_row picture address + j)
      ≡ 256 * address + unit_order (block_start m i) (block_start m j)
  unfolding z_scan_order
  order_here i j across down =
      ap (λ k. z_scan_order Area k (block_start m (first_row picture address + j)))
      (block_here (column_of picture address) i)
      ∙ ap (λ k. z_scan_order Area (first_column picture address + block_start m i) k)
      (block_here (row_of picture address) j)
      ∙ ap (λ k. 256 * k + (spread ((first_column picture address + block_start m i) % Side)
      + 2 * spread ((first_row picture address + block_start m j) % Side)))
      (unit_here (block_start m i) (block_start m j) (less i across) (less j down))
      ∙ ap (λ k. 256 * address + (spread k + 2 * spread ((first_row picture address + block_start m j) % Side)))
      (rest_at (column_of picture address) (block_start m i) (less i across))
      ∙ ap (λ k. 256 * address + (spread (block_start m i) + 2 * spread k))
      (rest_at (row_of picture address) (block_start m j) (less j down))

  all_true : (a b c d : Bool) → a ≡ true → b ≡ true → c ≡ true → ((a && b) && (c && d)) ≡ d
  all_true true true true d ea eb ec = refl
  all_true false b c d ea eb ec = absurd cc
  all_true true false c d ea eb ec = absurd cc
  all_true true true false d ea eb ec = absurd cc

  pub available_inside : (least : ℕ) (squares : List Square) → m ≤ least → picture.size ≤ 4
      → is_from slice address ≡ true
      → AreScanned least picture.size (picture.across - first_column picture address)
      (picture.down - first_row picture address) squares
      → AreAvailable picture m slice address squares
  unfolding available
  available_inside least squares small greatest from scan k i j below across down inside above outside =
      let s : Square = slice_index_or squares k no_square in
      let whole : IsWhole least picture.size s = scan.each k no_square below in
      let side = side_small picture.size greatest in
      let some : 0 < 2 ^ s.log2_size = pow_pos s.log2_size in
      let blocks : m ≤ s.log2_size = omega (arith, small, whole.least) in
      let i_small : i < 16 = omega (arith, across, side) in
      let j_small : j < 16 = omega (arith, down, side) in
      let x_in : s.x < Side = omega (arith, whole.across, some) in
      let y_in : s.y < Side = omega (arith, whole.down, some) in
      let right : i < picture.across - first_column picture address = omega (arith, inside) in
      let lower : j < picture.down - first_row picture address = omega (arith, above) in
      let block : Square = record { x = s.x; y = s.y; log2_size = m } in
      let aligned : IsAligned picture.size m block =
      block_aligned least picture.size m s whole blocks greatest in
      let by_block : nat_le (unit_order (block_start m i) (block_start m j)) (unit_order s.x s.y)
      ≡ nat_lt (unit_order i j) (unit_order s.x s.y) =
      block_order m block aligned i j i_small j_small
      ∙ ap (λ b. b || nat_lt (unit_order i j) (unit_order s.x s.y)) (smaller_in m s i j blocks outside) in
      let here : min_transform_order Area (first_column picture address + s.x) (first_row picture address + s.y)
      ≡ 256 * address + unit_order s.x s.y =
      order_here s.x s.y x_in y_in
      ∙ ap (λ k. 256 * address + unit_order k (block_start m s.y)) (block_whole m s s.x blocks whole.column)
      ∙ ap (λ k. 256 * address + unit_order s.x k) (block_whole m s s.y blocks whole.row) in
      let order : nat_le
      (min_transform_order Area (first_column picture address + i) (first_row picture address + j))
      (min_transform_order Area (first_column picture address + s.x) (first_row picture address + s.y))
      ≡ nat_le (unit_order (block_start m i) (block_start m j)) (unit_order s.x s.y) =
      ap (λ q. nat_le q (min_transform_order Area (first_column picture address + s.x)
      (first_row picture address + s.y))) (order_here i j across down)
      ∙ ap (nat_le (256 * address + unit_order (block_start m i) (block_start m j))) here
      ∙ below_both address (unit_order (block_start m i) (block_start m j)) (unit_order s.x s.y) in
      let same_slice : is_from slice
      (unit_of_place Area (first_column picture address + i) (first_row picture address + j)) ≡ true =
      ap (is_from slice) (unit_here i j across down) ∙ from in
      scan.order k below i j i_small j_small right lower
      ∙ sym (all_true _ _ _ _ (lt-ltb _ _ inside) (lt-ltb _ _ above) same_slice ∙ order ∙ by_block)
