-- A unit of a flight that isn't bad, and whose needs and the earlier units of its line are sound, is sound.
use Rattle.std.proofs.Common.{◌≡◌, ◌≢◌, ℕ, zero, suc, ◌+◌, ◌-◌, ◌*◌, ◌%◌, ◌<◌, ◌≤◌, ◌==◌, ◌&&◌, ◌||◌, not, Bool}
use Rattle.std.proofs.Common.{true, false, nat_eq, nat_le, nat_lt, min, List, [], ◌∷◌, ◌++◌, All}
use Rattle.std.proofs.Common.{Some, None, is_some, Result, Ok, Err, slice_get, if◌then◌else◌, inl, inr}
use Rattle.std.proofs.Common.{refl, sym, ap, subst, ◌∙◌, arith, lt-ltb}
use Rattle.std.specs.List.{list_all}
use Rattle.std.proofs.lemmas.Bool.{and_from, cases_lt, eq-eqb, eqb-true, leb-true, ltb-true, ne_eqb}
use Rattle.std.proofs.lemmas.List.Elements.{All-head}
use Rattle.std.proofs.lemmas.List.Folds.{list_all-append}
use Rattle.std.proofs.lemmas.Nat.{mod-mul-add}
use Rattle.hv_base.specs.declared.breach.Breach.{Breach}
use Rattle.hv_base.specs.declared.line.Line.{Line}
use Rattle.hv_base.specs.declared.line.Phase.TheVariants.{B}
use Rattle.header_types.specs.SequenceParameterSets.{height_in_ctbs, size_in_ctbs, width_in_ctbs}
use Rattle.plan_types.specs.declared.picture_plan.PicturePlan.{PicturePlan}
use Rattle.known_picture_laws.specs.SpecSliceData.{begins_row, has_above, has_left, has_stored, unit_step}
use Rattle.known_picture_laws.specs.SpecPictureTrees.{SegmentAt}
use Rattle.known_picture_laws.specs.SpecPictureTrees.{picture_shape}
use Rattle.known_picture_laws.specs.SpecKnownUnits.{KnownUnit, behind_step, between_from, entries_before, goes_on}
use Rattle.known_picture_laws.specs.SpecKnownUnits.{if_used}
use Rattle.known_picture_laws.specs.SpecKnownUnits.{known_of}
use Rattle.known_picture_laws.specs.SpecKnownUnits.{picture_segments, read_in, read_uses, segment_having}
use Rattle.known_picture_laws.specs.SpecKnownUnits.{takes_stored, unit_read}
use Rattle.known_picture_laws.specs.SpecKnownUnits.{units_known}
use Rattle.known_picture_laws.proofs.KnownUnitLawsBeside.{first_of_two, second_of_two}
use Rattle.known_picture_laws.proofs.KnownUnitLawsEntries.{known_step}
use Rattle.flight_plan.specs.Flight.{FlightRows, picture_at}
use Rattle.board_core.specs.Places.{IsLine, line_of, unit_of, width_of}
use Rattle.board_core.specs.Needs.{above_needs, collocated_of, reach_needs, row_needs}
use Rattle.board_core.specs.Needs.{unit_needs}
use Rattle.board_core.specs.SoundUnits.{AreNeedsSound, AreSoundTo}
use Rattle.board_core.specs.States.{IsBad}
use Rattle.board_core.proofs.Counting.{left_part}
use Rattle.board_core.proofs.Order.{within_rows}
use Rattle.known_picture_laws.specs.SpecFlights.{PlannedFlight}
use Rattle.known_picture_laws.specs.SpecFlights.{broken_at, broken_by, flight_rows, is_sound}
use Rattle.known_picture_laws.specs.SpecFlights.{is_sound_of}
use Rattle.known_picture_laws.specs.SpecFlights.{unit_number}
use Rattle.flight_unit_laws.proofs.Bad.{bad_has}
use Rattle.flight_unit_laws.proofs.Having.{unit_has_segment}
use Rattle.flight_unit_laws.proofs.Pictures.{height_is, sync_is, width_is}

all_if : (test : ℕ → Bool) (used : Bool) (a : ℕ) → (used ≡ true → test a ≡ true) → list_all test (if_used used a) ≡ true
all_if test true a h = and_from (test a) true (h refl) refl
all_if test false a h = refl

both_all : (test : ℕ → Bool) (xs ys : List ℕ) → list_all test xs ≡ true → list_all test ys ≡ true
    → list_all test (xs ++ ys) ≡ true
both_all test xs ys e f = list_all-append test xs ys ∙ and_from _ _ e f

not_true : (a b : Bool) → not (a || b) ≡ true → a ≡ true → ⊥
not_true true b e t = absurd cc
not_true false b e t = absurd cc

-- the unit before the first one of a row is the last one of the row above
last_above : (row w : ℕ) → 0 < row → 1 ≤ w → row * w - 1 ≡ (row - 1) * w + (w - 1)
last_above zero w some wide = absurd (omega (arith, some))
last_above (suc r) w some wide =
    let e : suc r - 1 ≡ r = omega arith in
    let f : suc r * w ≡ r * w + w = grind arith in
    let g : (suc r - 1) * w ≡ r * w = ap (λ n. n * w) e in
    omega (arith, f, g, wide)

row_above : (row w x : ℕ) → 0 < row → row * w + x - w ≡ (row - 1) * w + x
row_above zero w x some = absurd (omega (arith, some))
row_above (suc r) w x some =
    let e : suc r - 1 ≡ r = omega arith in
    let f : suc r * w ≡ r * w + w = grind arith in
    let g : (suc r - 1) * w ≡ r * w = ap (λ n. n * w) e in
    omega (arith, f, g)

some_row : (row w x : ℕ) → x < w → w ≤ row * w + x → 0 < row
some_row zero w x inside le = let e : 0 * w ≡ 0 = grind arith in absurd (omega (arith, e, inside, le))
some_row (suc r) w x inside le = omega arith

some_row_from : (row w : ℕ) → 0 < row * w + 0 → 0 < row
some_row_from zero w h = let e : 0 * w ≡ 0 = grind arith in absurd (omega (arith, e, h))
some_row_from (suc r) w h = omega arith

-- a coding tree unit
module _ (f : PlannedFlight) (k row x : ℕ) (p : PicturePlan) (has : slice_get f.pictures k ≡ Some p)
    (row_inside : row < height_in_ctbs p.sps) (inside : x < width_in_ctbs p.sps) where
  abbrev plan : FlightRows
  plan = flight_rows f

  abbrev w : ℕ
  w = width_in_ctbs p.sps

  abbrev line : Line
  line = line_of B k row

  abbrev address : ℕ
  address = row * w + x

  pub in_picture : address < size_in_ctbs p.sps
  in_picture =
      let less = within_rows w (height_in_ctbs p.sps) row x row_inside inside in
      let turned : height_in_ctbs p.sps * width_in_ctbs p.sps ≡ width_in_ctbs p.sps * height_in_ctbs p.sps =
      grind arith in
      omega (arith, less, turned)

  number_is : unit_of plan line x ≡ unit_number f k address
  number_is =
      let e : row * (picture_at plan k).width ≡ row * w = ap (λ n. row * n) (width_is f k p has) in omega (arith, e)

  sound_is : (r y : ℕ) → is_sound f (line_of B k r) y ≡ is_some (units_known p (r * w + y))
  unfolding is_sound
  sound_is r y = ap (λ o. is_sound_of o (line_of B k r) y) has

  abbrev test : ℕ → Bool
  test used = is_some (entries_before (units_known p) address used)

  entry : (a : ℕ) → a < address → is_some (units_known p a) ≡ true → test a ≡ true
  entry a less known =
      ap (λ b. is_some (if b then units_known p a else None)) (lt-ltb a address less) ∙ known

  module _ (needs : AreNeedsSound plan (is_sound f) (unit_needs plan line x))
      (earlier : AreSoundTo (is_sound f) line x) where
    abbrev count : ℕ
    count = if (picture_at plan k).sync then min (x + 2) (width_of plan line) else width_of plan line

    abbrev Sound : Line × ℕ → Type 0
    Sound need = IsLine plan need.0 → AreSoundTo (is_sound f) need.0 need.1

    above_sound : 0 < row → AreSoundTo (is_sound f) (line_of B k (row - 1)) count
    above_sound some =
        let above = left_part Sound (above_needs plan line x)
        (row_needs plan (collocated_of plan line x) row ++ reach_needs plan line x) needs in
        let not_top : nat_eq row 0 ≡ false = ne_eqb row 0 (λ e. absurd (omega (arith, e, some))) in
        let P : Bool → Type 0 =
        λ top. All Sound (if top then [] else ((line_of B k (row - 1), count) ∷ [])) in
        let high : row < (picture_at plan k).rows = let e = height_is f k p has in omega (arith, e, row_inside) in
        let up : row - 1 < (picture_at plan k).rows = omega (arith, high) in
        All-head Sound (line_of B k (row - 1), count) [] (subst P not_top above) up

    above_known : (y : ℕ) → 0 < row → y < count → is_some (units_known p ((row - 1) * w + y)) ≡ true
    above_known y some less = sym (sound_is (row - 1) y) ∙ above_sound some y less

    earlier_known : (y : ℕ) → y < x → is_some (units_known p (row * w + y)) ≡ true
    earlier_known y less = sym (sound_is row y) ∙ earlier y less

    in_count : (sync : Bool) (y : ℕ) → y ≤ x + 1 → y < w
        → y < (if sync then min (x + 2) (width_of plan line) else width_of plan line)
    in_count true y near less = let e = width_is f k p has in omega (arith, e, near, less)
    in_count false y near less = let e = width_is f k p has in omega (arith, e, less)

    near_known : (y : ℕ) → 0 < row → y ≤ x + 1 → y < w → is_some (units_known p ((row - 1) * w + y)) ≡ true
    near_known y some near less = above_known y some (in_count (picture_at plan k).sync y near less)

    last_known : (picture_at plan k).sync ≡ false → 0 < row → is_some (units_known p ((row - 1) * w + (w - 1))) ≡ true
    last_known off some =
        let e = width_is f k p has in
        let less : w - 1 < count =
        subst (λ b. w - 1 < (if b then min (x + 2) (width_of plan line) else width_of plan line)) (sym off)
        (omega (arith, e, inside)) in
        above_known (w - 1) some less

    module _ (at : SegmentAt) (shape : at.picture ≡ picture_shape p.sps p.pps) where
      wide_is : at.picture.width ≡ w
      unfolding picture_shape
      wide_is = ap (λ s. s.width) shape

      sync_there : at.picture.sync ≡ (picture_at plan k).sync
      unfolding picture_shape
      sync_there = ap (λ s. s.sync) shape ∙ sym (sync_is f k p has)

      column_is : address % at.picture.width ≡ x
      column_is = ap (λ n. address % n) wide_is ∙ mod-mul-add row w x inside

      -- the unit on the left
      left_known : 0 < x → test (address - 1) ≡ true
      left_known some =
          let e : address - 1 ≡ row * w + (x - 1) = omega (arith, some) in
          entry (address - 1) (omega (arith, some))
          (ap (λ a. is_some (units_known p a)) e ∙ earlier_known (x - 1) (omega (arith, some)))

      former_known : goes_on at address ≡ true → test (address - 1) ≡ true
      former_known t =
          elim (cases_lt 0 x) [
            | inl some ↦ left_known some
            | inr none ↦
                let first : x ≡ 0 = omega (arith, none) in
                let start : 0 < address = ltb-true 0 address (first_of_two (nat_lt 0 address) _ t) in
                let starts : 0 < row * w + 0 = omega (arith, start, first) in
                let some : 0 < row = some_row_from row w starts in
                let at_first : (address % at.picture.width == 0) ≡ true =
                eq-eqb (address % at.picture.width) 0 (column_is ∙ first) in
                let off : (picture_at plan k).sync ≡ false =
                off_if (picture_at plan k).sync (λ on.
                not_true (begins_row at.picture address) _ (second_of_two (nat_lt 0 address) _ t)
                (and_from at.picture.sync _ (sync_there ∙ on) at_first)) in
                let e : address - 1 ≡ (row - 1) * w + (w - 1) =
                let last = last_above row w some (omega (arith, inside)) in omega (arith, first, last) in
                entry (address - 1) (omega (arith, start))
                (ap (λ a. is_some (units_known p a)) e ∙ last_known off some)
          ]
        where
          off_if : (sync : Bool) → (sync ≡ true → ⊥) → sync ≡ false
          off_if true never = absurd (never refl)
          off_if false never = refl

      left_used : has_left at.picture at.shape address ≡ true → test (address - 1) ≡ true
      left_used t =
          let some : 0 < address % at.picture.width = ltb-true _ _ (first_of_two _ _ t) in
          left_known (omega (arith, some, column_is))

      above_used : has_above at.picture at.shape address ≡ true → test (address - at.picture.width) ≡ true
      above_used t =
          let le : at.picture.width ≤ address = leb-true _ _ (first_of_two _ _ t) in
          let some : 0 < row = some_row row w x inside (omega (arith, le, wide_is)) in
          let up = row_above row w x some in
          let e : address - at.picture.width ≡ (row - 1) * w + x = omega (arith, up, wide_is) in
          entry (address - at.picture.width) (omega (arith, le, wide_is, inside))
          (ap (λ a. is_some (units_known p a)) e ∙ near_known x some (omega arith) inside)

      second_used : takes_stored at address ≡ true → test (address - at.picture.width + 1) ≡ true
      second_used t =
          let there : has_stored at.picture at.shape address ≡ true =
          second_of_two (begins_row at.picture address) (has_stored at.picture at.shape address) t in
          let both : (nat_le 2 at.picture.width && nat_le at.picture.width address) ≡ true =
          first_of_two (nat_le 2 at.picture.width && nat_le at.picture.width address) _ there in
          let wider : 2 ≤ at.picture.width =
          leb-true 2 at.picture.width (first_of_two (nat_le 2 at.picture.width) _ both) in
          let le : at.picture.width ≤ address =
          leb-true at.picture.width address (second_of_two (nat_le 2 at.picture.width) _ both) in
          let begins : (address % at.picture.width == 0) ≡ true =
          second_of_two at.picture.sync _ (first_of_two (begins_row at.picture address) _ t) in
          let zero_column : address % at.picture.width ≡ 0 = eqb-true (address % at.picture.width) 0 begins in
          let first : x ≡ 0 = omega (arith, column_is, zero_column) in
          let some : 0 < row = some_row row w x inside (omega (arith, le, wide_is)) in
          let up = row_above row w x some in
          let e : address - at.picture.width + 1 ≡ (row - 1) * w + 1 = omega (arith, up, wide_is, first) in
          entry (address - at.picture.width + 1) (omega (arith, wider, le))
          (ap (λ a. is_some (units_known p a)) e
          ∙ near_known 1 some (omega arith) (omega (arith, wider, wide_is)))

      -- all that reading the unit uses is known
      all_used : list_all test (read_uses at address) ≡ true
      unfolding read_uses
      all_used =
          let former : List ℕ = if_used (goes_on at address) (address - 1) in
          let left : List ℕ = if_used (has_left at.picture at.shape address) (address - 1) in
          let above : List ℕ = if_used (has_above at.picture at.shape address) (address - at.picture.width) in
          let second : List ℕ = if_used (takes_stored at address) (address - at.picture.width + 1) in
          both_all test former (left ++ (above ++ second)) (all_if test (goes_on at address) (address - 1) former_known)
          (both_all test left (above ++ second)
          (all_if test (has_left at.picture at.shape address) (address - 1) left_used)
          (both_all test above second
          (all_if test (has_above at.picture at.shape address) (address - at.picture.width) above_used)
          (all_if test (takes_stored at address) (address - at.picture.width + 1) second_used)))

      module _ (having : segment_having (picture_segments p) address ≡ Some at)
          (good : ¬ IsBad plan (unit_of plan line x)) where
        abbrev result : Result KnownUnit Breach
        result =
            behind_step at address
            (unit_step at.syntax at.picture at.shape address
            (between_from (entries_before (units_known p) address) at.picture address))

        read_is : unit_read p (units_known p) address ≡ Some result
        unfolding unit_read read_in
        read_is =
            ap (read_in (entries_before (units_known p) address) address) having
            ∙ ap (λ b. if b then Some result else None) all_used

        by_result : (r : Result KnownUnit Breach) → unit_read p (units_known p) address ≡ Some r
            → is_some (known_of (unit_read p (units_known p) address)) ≡ true
        unfolding broken_at
        by_result (Ok known) e = ap (λ o. is_some (known_of o)) e
        by_result (Err breach) e =
            let bad = bad_has f k p has address in_picture breach (ap broken_by e) in
            absurd (good (subst (IsBad plan) (sym number_is) bad))

        now_known : is_some (units_known p address) ≡ true
        now_known = ap is_some (known_step p address in_picture) ∙ by_result result read_is

    pub unit_sound : p.segments ≢ [] → ¬ IsBad plan (unit_of plan line x) → is_sound f line x ≡ true
    unit_sound some good =
        let found = unit_has_segment p address some in_picture in
        sound_is row x ∙ now_known found.0 found.2 found.1 good
