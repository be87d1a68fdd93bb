-- The prediction units of a coding unit have its places, and no others.
use Rattle.std.proofs.Common.{◌≡◌, ℕ, zero, suc, ◌+◌, ◌-◌, ◌*◌, ◌/◌, ◌^◌, ◌<◌, ◌≤◌, ◌⊎◌, Bool, true, false, ◌&&◌}
use Rattle.std.proofs.Common.{if◌then◌else◌, nat_le, nat_lt, ap, ◌∙◌, arith, inl, inr, pow-suc}
use Rattle.std.specs.Prelude.{◌==◌}
use Rattle.std.proofs.lemmas.Bool.{and_from, and_parts, cases_Bool, cases_lt, le-leb, leb-true, lt-ltb, ltb-true}
use Rattle.ctu_records.specs.declared.item.Square.{Square}
use Rattle.ctu_records.specs.declared.prediction.PartMode.{PartMode}
use Rattle.ctu_records.specs.declared.prediction.PartMode.TheVariants.{Whole, TwoNxN, Nx2N, NxN, TwoNxnU, TwoNxnD}
use Rattle.ctu_records.specs.declared.prediction.PartMode.TheVariants.{NLx2N, NRx2N}
use Rattle.ctu_records.specs.declared.prediction.Rectangle.{Rectangle}
use Rattle.ctu_records.specs.Prediction.{is_inside, part_block, part_of, rectangle}
use Rattle.spec_slice_data.specs.Inter.{part_count}
use Rattle.spec_slice_data.specs.Modes.{lower_left, lower_right, upper_left, upper_right}
use Rattle.unit_laws.specs.Order.{is_in}
use Rattle.row_above_laws.proofs.Laying.{IsWithin}

-- a place of a rectangle
pub record HasPlace (x y w h i j : ℕ) : Type 0 where
  pub left : x ≤ i
  pub right : i < x + w
  pub top : y ≤ j
  pub bottom : j < y + h

abbrev pub tests : ℕ → ℕ → ℕ → ℕ → ℕ → ℕ → Bool
tests x y w h i j = (nat_le x i && nat_lt i (x + w)) && (nat_le y j && nat_lt j (y + h))

pub place_of : (x y w h i j : ℕ) → tests x y w h i j ≡ true → HasPlace x y w h i j
place_of x y w h i j held =
    let both = and_parts (nat_le x i && nat_lt i (x + w)) _ held in
    let columns = and_parts (nat_le x i) _ both.0 in
    let rows = and_parts (nat_le y j) _ both.1 in
    record {
      left = leb-true _ _ columns.0;
      right = ltb-true _ _ columns.1;
      top = leb-true _ _ rows.0;
      bottom = ltb-true _ _ rows.1;
    }

pub has_place : (x y w h i j : ℕ) → HasPlace x y w h i j → tests x y w h i j ≡ true
has_place x y w h i j has =
    and_from _ _ (and_from _ _ (le-leb _ _ has.left) (lt-ltb _ _ has.right))
    (and_from _ _ (le-leb _ _ has.top) (lt-ltb _ _ has.bottom))

pub no_both : (b : Bool) → b ≡ true → b ≡ false → ⊥
no_both true e f = absurd cc
no_both false e f = absurd cc

-- a rectangle in a square
pub record IsAmong (x y n : ℕ) (b : Rectangle) : Type 0 where
  pub left : x ≤ b.x
  pub right : b.x + b.width ≤ x + n
  pub top : y ≤ b.y
  pub bottom : b.y + b.height ≤ y + n

pub out_of : (x y n : ℕ) (b : Rectangle) → IsAmong x y n b → (i j : ℕ) → tests x y n n i j ≡ false
    → is_inside b i j ≡ false
out_of x y n b among i j out = elim (cases_Bool (is_inside b i j)) [
  | inl held ↦
      let has = place_of b.x b.y b.width b.height i j held in
      absurd (no_both (tests x y n n i j) (has_place x y n n i j (record {
        left = omega (arith, has.left, among.left);
        right = omega (arith, has.right, among.right);
        top = omega (arith, has.top, among.top);
        bottom = omega (arith, has.bottom, among.bottom);
      })) out)
  | inr other ↦ other
]

-- ---- the parts lie in the coding unit

rows_among : (x y n cut : ℕ) (b : Bool) → cut ≤ n
    → IsAmong x y n (if b then rectangle x y n cut else rectangle x (y + cut) n (n - cut))
rows_among x y n cut true less =
    record { left = omega arith; right = omega arith; top = omega arith; bottom = omega (arith, less) }
rows_among x y n cut false less =
    record { left = omega arith; right = omega arith; top = omega arith; bottom = omega (arith, less) }

columns_among : (x y n cut : ℕ) (b : Bool) → cut ≤ n
    → IsAmong x y n (if b then rectangle x y cut n else rectangle (x + cut) y (n - cut) n)
columns_among x y n cut true less =
    record { left = omega arith; right = omega (arith, less); top = omega arith; bottom = omega arith }
columns_among x y n cut false less =
    record { left = omega arith; right = omega (arith, less); top = omega arith; bottom = omega arith }

abbrev quarter : ℕ → ℕ → ℕ → ℕ → Rectangle
quarter x y n part = rectangle (x + n / 2 * (part - part / 2 * 2)) (y + n / 2 * (part / 2)) (n / 2) (n / 2)

-- where a quarter stands
half_times : (h part : ℕ) → part ≤ 1 → h * part ≤ h
half_times h zero few = omega arith
half_times h (suc zero) few = omega arith
half_times h (suc (suc k)) few = absurd (omega (arith, few))

quarter_among : (x y n part : ℕ) → part < 4 → IsAmong x y n (quarter x y n part)
quarter_among x y n part few =
    let across = half_times (n / 2) (part - part / 2 * 2) (omega arith) in
    let down = half_times (n / 2) (part / 2) (omega (arith, few)) in
    record {
      left = omega arith;
      right = omega (arith, across);
      top = omega arith;
      bottom = omega (arith, down);
    }

part_among : (x y n : ℕ) (mode : PartMode) (part : ℕ) → part < 4 → IsAmong x y n (part_of x y n mode part)
unfolding part_of
part_among x y n Whole part few =
    record { left = omega arith; right = omega arith; top = omega arith; bottom = omega arith }
part_among x y n TwoNxN part few = rows_among x y n (n / 2) (part == 0) (omega arith)
part_among x y n Nx2N part few = columns_among x y n (n / 2) (part == 0) (omega arith)
part_among x y n NxN part few = quarter_among x y n part few
part_among x y n TwoNxnU part few = rows_among x y n (n / 4) (part == 0) (omega arith)
part_among x y n TwoNxnD part few = rows_among x y n (n - n / 4) (part == 0) (omega arith)
part_among x y n NLx2N part few = columns_among x y n (n / 4) (part == 0) (omega arith)
part_among x y n NRx2N part few = columns_among x y n (n - n / 4) (part == 0) (omega arith)

pub part_within : (s : Square) (mode : PartMode) (part : ℕ) → part < 4 → (i j : ℕ) → is_in s i j ≡ false
    → is_inside (part_block s mode part) i j ≡ false
part_within s mode part few i j out =
    out_of s.x s.y (2 ^ s.log2_size) (part_block s mode part)
    (part_among s.x s.y (2 ^ s.log2_size) mode part few) i j out

-- ---- and have all its places

even : (l : ℕ) → 1 ≤ l → 2 ^ l ≡ 2 ^ (l - 1) * 2
even l some = let e : l ≡ suc (l - 1) = omega (arith, some) in ap (λ k. 2 ^ k) e ∙ pow-suc 2 (l - 1)

module _ (x y n i j : ℕ) (has : HasPlace x y n n i j) where
  by_rows : (cut : ℕ) → cut ≤ n
      → (is_inside (rectangle x y n cut) i j ≡ true) ⊎ (is_inside (rectangle x (y + cut) n (n - cut)) i j ≡ true)
  by_rows cut less = elim (cases_lt j (y + cut)) [
    | inl above ↦
        inl (has_place x y n cut i j (record {
          left = has.left;
          right = has.right;
          top = has.top;
          bottom = above;
        }))
    | inr below ↦
        inr (has_place x (y + cut) n (n - cut) i j (record {
          left = has.left;
          right = has.right;
          top = below;
          bottom = omega (arith, has.bottom, less);
        }))
  ]

  by_columns : (cut : ℕ) → cut ≤ n
      → (is_inside (rectangle x y cut n) i j ≡ true) ⊎ (is_inside (rectangle (x + cut) y (n - cut) n) i j ≡ true)
  by_columns cut less = elim (cases_lt i (x + cut)) [
    | inl before ↦
        inl (has_place x y cut n i j (record {
          left = has.left;
          right = before;
          top = has.top;
          bottom = has.bottom;
        }))
    | inr behind ↦
        inr (has_place (x + cut) y (n - cut) n i j (record {
          left = behind;
          right = omega (arith, has.right, less);
          top = has.top;
          bottom = has.bottom;
        }))
  ]

  -- of a side that is cut in halves
  module _ (h : ℕ) (half : n ≡ h * 2) where
    pub record InQuarter (part : ℕ) : Type 0 where
      pub few : part < 4
      pub held : is_inside (quarter x y n part) i j ≡ true

    in_quarter : (part across down : ℕ) → part < 4 → n / 2 * (part - part / 2 * 2) ≡ across
        → n / 2 * (part / 2) ≡ down → HasPlace (x + across) (y + down) h h i j → InQuarter part
    in_quarter part across down few a d place =
        let side : n / 2 ≡ h = omega (arith, half) in
        record {
          few = few;
          held = has_place (x + n / 2 * (part - part / 2 * 2)) (y + n / 2 * (part / 2)) (n / 2) (n / 2) i j (record {
            left = omega (arith, place.left, a);
            right = omega (arith, place.right, a, side);
            top = omega (arith, place.top, d);
            bottom = omega (arith, place.bottom, d, side);
          });
        }

    by_quarters : (part : ℕ) × InQuarter part
    by_quarters = elim (cases_lt i (x + h)) [
      | inl before ↦ elim (cases_lt j (y + h)) [
        | inl above ↦ (
          0,
          in_quarter 0 0 0 (omega arith) (omega arith) (omega arith) (record {
            left = omega (arith, has.left);
            right = omega (arith, before);
            top = omega (arith, has.top);
            bottom = omega (arith, above);
          }),
        )
        | inr below ↦ (
          2,
          in_quarter 2 0 h (omega arith) (omega arith) (omega (arith, half)) (record {
            left = omega (arith, has.left);
            right = omega (arith, before);
            top = omega (arith, below);
            bottom = omega (arith, has.bottom, half);
          }),
        )
      ]
      | inr behind ↦ elim (cases_lt j (y + h)) [
        | inl above ↦ (
          1,
          in_quarter 1 h 0 (omega arith) (omega (arith, half)) (omega arith) (record {
            left = omega (arith, behind);
            right = omega (arith, has.right, half);
            top = omega (arith, has.top);
            bottom = omega (arith, above);
          }),
        )
        | inr below ↦ (
          3,
          in_quarter 3 h h (omega arith) (omega (arith, half)) (omega (arith, half)) (record {
            left = omega (arith, behind);
            right = omega (arith, has.right, half);
            top = omega (arith, below);
            bottom = omega (arith, has.bottom, half);
          }),
        )
      ]
    ]

-- what holds of the places of each part holds of those of the coding unit
module _ (s : Square) (some : 1 ≤ s.log2_size) (P : ℕ → ℕ → Type 0) where
  abbrev Holds : PartMode → Type 0
  Holds mode =
      (part : ℕ) → part < part_count mode → (i j : ℕ) → is_inside (part_block s mode part) i j ≡ true → P i j

  abbrev side : ℕ
  side = 2 ^ s.log2_size

  two_parts : (first second : Rectangle) (i j : ℕ)
      → (is_inside first i j ≡ true) ⊎ (is_inside second i j ≡ true)
      → (is_inside first i j ≡ true → P i j) → (is_inside second i j ≡ true → P i j) → P i j
  two_parts first second i j which one two = elim which [ inl held ↦ one held | inr held ↦ two held ]

  pub parts_hold : (mode : PartMode) → Holds mode → (i j : ℕ) → is_in s i j ≡ true → P i j
  unfolding part_of part_count
  parts_hold Whole each i j held = each 0 (omega arith) i j held
  parts_hold TwoNxN each i j held =
      two_parts _ _ i j
      (by_rows s.x s.y side i j (place_of s.x s.y side side i j held) (side / 2) (omega arith))
      (each 0 (omega arith) i j) (each 1 (omega arith) i j)
  parts_hold Nx2N each i j held =
      two_parts _ _ i j
      (by_columns s.x s.y side i j (place_of s.x s.y side side i j held) (side / 2) (omega arith))
      (each 0 (omega arith) i j) (each 1 (omega arith) i j)
  parts_hold NxN each i j held =
      let found =
      by_quarters s.x s.y side i j (place_of s.x s.y side side i j held) (2 ^ (s.log2_size - 1))
      (even s.log2_size some) in
      each found.0 found.1.few i j found.1.held
  parts_hold TwoNxnU each i j held =
      two_parts _ _ i j
      (by_rows s.x s.y side i j (place_of s.x s.y side side i j held) (side / 4) (omega arith))
      (each 0 (omega arith) i j) (each 1 (omega arith) i j)
  parts_hold TwoNxnD each i j held =
      two_parts _ _ i j
      (by_rows s.x s.y side i j (place_of s.x s.y side side i j held) (side - side / 4) (omega arith))
      (each 0 (omega arith) i j) (each 1 (omega arith) i j)
  parts_hold NLx2N each i j held =
      two_parts _ _ i j
      (by_columns s.x s.y side i j (place_of s.x s.y side side i j held) (side / 4) (omega arith))
      (each 0 (omega arith) i j) (each 1 (omega arith) i j)
  parts_hold NRx2N each i j held =
      two_parts _ _ i j
      (by_columns s.x s.y side i j (place_of s.x s.y side side i j held) (side - side / 4) (omega arith))
      (each 0 (omega arith) i j) (each 1 (omega arith) i j)

-- ---- quarters of a square

pub same_within : (s : Square) → IsWithin s s
same_within s i j out = out

among_within : (s inner : Square)
    → IsAmong s.x s.y (2 ^ s.log2_size) (rectangle inner.x inner.y (2 ^ inner.log2_size) (2 ^ inner.log2_size))
    → IsWithin inner s
among_within s inner among i j out =
    out_of s.x s.y (2 ^ s.log2_size) (rectangle inner.x inner.y (2 ^ inner.log2_size) (2 ^ inner.log2_size)) among i j
    out

module _ (s : Square) (some : 1 ≤ s.log2_size) where
  pub upper_left_within : IsWithin (upper_left s) s
  upper_left_within =
      let two = even s.log2_size some in
      among_within s (upper_left s) (record {
        left = omega arith;
        right = omega (arith, two);
        top = omega arith;
        bottom = omega (arith, two);
      })

  pub upper_right_within : IsWithin (upper_right s) s
  upper_right_within =
      let two = even s.log2_size some in
      among_within s (upper_right s) (record {
        left = omega arith;
        right = omega (arith, two);
        top = omega arith;
        bottom = omega (arith, two);
      })

  pub lower_left_within : IsWithin (lower_left s) s
  lower_left_within =
      let two = even s.log2_size some in
      among_within s (lower_left s) (record {
        left = omega arith;
        right = omega (arith, two);
        top = omega arith;
        bottom = omega (arith, two);
      })

  pub lower_right_within : IsWithin (lower_right s) s
  lower_right_within =
      let two = even s.log2_size some in
      among_within s (lower_right s) (record {
        left = omega arith;
        right = omega (arith, two);
        top = omega arith;
        bottom = omega (arith, two);
      })
