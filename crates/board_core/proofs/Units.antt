-- Each coding tree unit of a flight has its place, and each unit only one.
use Rattle.std.proofs.Common.{ℕ, ◌≡◌, ◌+◌, ◌-◌, ◌*◌, ◌/◌, ◌%◌, ◌<◌, ◌≤◌, List, inl, inr, length, take, get_or, arith}
use Rattle.std.proofs.Common.{refl, sym, ap, ◌∙◌, subst}
use Rattle.std.proofs.lemmas.Bool.{cases_lt, cases_order}
use Rattle.std.proofs.Math.Nat.{mod-lt}
use Rattle.std.proofs.lemmas.Nat.{div-add-mod'}
use Rattle.flight_plan.specs.Flight.{FlightRows, IsTreeUnit, PictureRows, picture_at, picture_units, tree_units}
use Rattle.flight_plan.specs.Flight.{units_of, no_picture}
use Rattle.hv_base.specs.declared.line.Line.{Line}
use Rattle.hv_base.specs.declared.line.Phase.TheVariants.{B}
use Rattle.board_core.specs.Places.{delay, full_count, line_of, IsPlaceOf, phase_start, phase_units}
use Rattle.board_core.proofs.Drawing.{same_phase}
use Rattle.board_core.proofs.Order.{before_more, earlier_phase, earlier_row, earlier_unit, line_inside, same_fields}
use Rattle.board_core.proofs.Order.{unit_inside, within_rows}
use Rattle.board_core.specs.Needs.{read_needs}

-- a place of a rectangle by its row and column
pub row_and_column : (w r v : ℕ) → v < r * w → (0 < w) × (v / w < r) × (v % w < w) × (v ≡ v / w * w + v % w)
row_and_column w r v h =
    let some : 0 < w =
    elim (cases_lt 0 w) [
      | inl lt ↦ lt
      | inr le ↦ let e : w ≡ 0 = omega arith in let none : r * w ≡ r * 0 = ap (λ n. r * n) e in absurd (omega arith)
    ] in
    let parts : v / w * w + v % w ≡ v = div-add-mod' v w in
    let row : v / w < r =
    elim (cases_lt (v / w) r) [
      | inl lt ↦ lt
      | inr le ↦ let d : ℕ = v / w - r in
          let e : v / w ≡ r + d = omega arith in
          let wide : (r + d) * w ≡ r * w + d * w = omega arith in
          let same : v / w * w ≡ (r + d) * w = ap (λ n. n * w) e in
          absurd (omega arith)
    ] in
    (some, row, mod-lt v some, sym parts)

-- each coding tree unit of the flight has a place
pub tree_place : (plan : FlightRows) (u : ℕ) → IsTreeUnit plan.pictures u
    → (l : Line) × (x : ℕ) × IsPlaceOf plan u l x × (l.phase ≡ B)
tree_place plan u (k, unit) =
    let w : ℕ = (picture_at plan k).width in
    let v : ℕ = u - units_of (take k plan.pictures) in
    let inside : v < (picture_at plan k).rows * w = omega (arith, unit.from, unit.below) in
    let place = row_and_column w (picture_at plan k).rows v inside in (
      line_of B k (v / w),
      v % w,
      record { line = place.1; inside = place.2; unit = omega (arith, unit.from, place.3) },
      refl,
    )

-- a place of a B line is of a coding tree unit
pub place_tree : (plan : FlightRows) (u : ℕ) (l : Line) (x : ℕ) → IsPlaceOf plan u l x → l.phase ≡ B
    → IsTreeUnit plan.pictures u
place_tree plan u l x place tree =
    let picture : PictureRows = picture_at plan l.picture in
    let start : phase_start l.phase picture ≡ 0 = ap (λ p. phase_start p picture) tree in
    let size : full_count plan l ≡ picture.width = ap (λ p. phase_units p picture) tree in
    let low = within_rows (full_count plan l) picture.rows l.row x place.line place.inside in
    let wide : picture.rows * full_count plan l ≡ picture.rows * picture.width = ap (λ w. picture.rows * w) size in (
      l.picture,
      record {
        picture = line_inside plan l place.line;
        from = omega (arith, place.unit);
        below = omega (arith, place.unit, start, low, wide);
      },
    )

not_less : (u v w : ℕ) → u ≡ v → u ≡ w → v < w → ⊥
not_less u v w p q h = omega arith

same_rest : (u a b s t c d x y : ℕ) → u ≡ a + (s + (c + x)) → u ≡ b + (t + (d + y)) → a ≡ b → s ≡ t → c ≡ d → x ≡ y
same_rest u a b s t c d x y p q e f g = omega arith

-- a unit has one place
pub place_unique : (plan : FlightRows) (u : ℕ) (l m : Line) (x y : ℕ) → IsPlaceOf plan u l x → IsPlaceOf plan u m y
    → (l ≡ m) × (x ≡ y)
place_unique plan u l m x y at_l at_m =
    elim (cases_order l.picture m.picture) [
      | inl picture ↦
          elim (cases_order (delay l.phase) (delay m.phase)) [
            | inl delays ↦ let phase = same_phase l.phase m.phase delays in
                elim (cases_order l.row m.row) [
                  | inl row ↦ let line = same_fields l m phase picture row in (
                    line,
                    same_rest u _ _ _ _ _ _ x y at_l.unit at_m.unit
                        (ap (λ (k : Line). units_of (take k.picture plan.pictures)) line)
                        (ap (λ (k : Line). phase_start k.phase (picture_at plan k.picture)) line)
                        (ap (λ (k : Line). k.row * full_count plan k) line),
                  )
                  | inr (inl h) ↦
                      absurd (not_less u _ _ at_l.unit at_m.unit (earlier_row plan l m x y at_l.inside picture phase h))
                  | inr (inr h) ↦
                      absurd (not_less u _ _ at_m.unit at_l.unit
                      (earlier_row plan m l y x at_m.inside (sym picture) (sym phase) h))
                ]
            | inr (inl h) ↦
                absurd (not_less u _ _ at_l.unit at_m.unit (earlier_phase plan l m x y at_l.line at_l.inside picture h))
            | inr (inr h) ↦
                absurd (not_less u _ _ at_m.unit at_l.unit
                (earlier_phase plan m l y x at_m.line at_m.inside (sym picture) h))
          ]
      | inr (inl h) ↦ absurd (not_less u _ _ at_l.unit at_m.unit (earlier_unit plan l m x y at_l.line at_l.inside h))
      | inr (inr h) ↦ absurd (not_less u _ _ at_m.unit at_l.unit (earlier_unit plan m l y x at_m.line at_m.inside h))
    ]

-- a unit of another phase is no coding tree unit
pub filter_unit : (plan : FlightRows) (u : ℕ) (l : Line) (x : ℕ) → IsPlaceOf plan u l x → ¬ (l.phase ≡ B)
    → ¬ IsTreeUnit plan.pictures u
filter_unit plan u l x place filter = λ tree.
    let found = tree_place plan u tree in
    let same = place_unique plan u l found.0 x found.1 place found.2 in
    filter (ap (λ (k : Line). k.phase) same.0 ∙ found.3)

-- the needs of a coding tree unit are those of its place
pub needs_at_place : (plan : FlightRows) (u : ℕ) (l m : Line) (x y : ℕ) → IsPlaceOf plan u l x → IsPlaceOf plan u m y
    → read_needs plan m y ≡ read_needs plan l x
needs_at_place plan u l m x y at_l at_m =
    let same = place_unique plan u m l y x at_m at_l in
    ap (λ (k : Line). read_needs plan k y) same.0 ∙ ap (read_needs plan l) same.1

-- a place is of a unit of the flight
pub place_inside : (plan : FlightRows) (u : ℕ) (l : Line) (x : ℕ) → IsPlaceOf plan u l x → u < units_of plan.pictures
place_inside plan u l x place =
    let lt = unit_inside plan l x place.line place.inside in
    let e = place.unit in
    omega arith

-- a unit of a picture past its coding tree units is none of another picture's
pub past_tree : (ps : List PictureRows) (u k : ℕ) → k < length ps
    → units_of (take k ps) + tree_units (get_or ps k no_picture) ≤ u
    → u < units_of (take k ps) + picture_units (get_or ps k no_picture) → ¬ IsTreeUnit ps u
past_tree ps u k inside low high = λ (j, unit).
    elim (cases_order j k) [
      | inl same ↦
          let below : u < units_of (take k ps) + tree_units (get_or ps k no_picture) =
          subst (λ i. u < units_of (take i ps) + tree_units (get_or ps i no_picture)) same unit.below in
          omega arith
      | inr (inl h) ↦ let more = before_more picture_units ps j k unit.picture h in omega (arith, unit.below, more)
      | inr (inr h) ↦ let more = before_more picture_units ps k j inside h in omega (arith, unit.from, more)
    ]
