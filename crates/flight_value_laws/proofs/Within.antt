-- What reading a coding tree unit of a flight uses lies within `ReadingUses`.
use Rattle.std.proofs.Common.{◌≡◌, ℕ, zero, suc, ◌+◌, ◌-◌, ◌*◌, ◌%◌, ◌<◌, ◌≤◌, ◌==◌, ◌&&◌, ◌||◌, not, Bool, true}
use Rattle.std.proofs.Common.{false}
use Rattle.std.proofs.Common.{List, [], ◌∷◌, ◌++◌, All, Option, Some, None, is_some, Result, Ok, Err, slice_get}
use Rattle.std.proofs.Common.{nat_le, nat_lt, if◌then◌else◌, inl, inr, refl, sym, ap, subst, ◌∙◌, arith, lt-ltb}
use Rattle.std.specs.List.{list_all}
use Rattle.std.proofs.lemmas.Bool.{and_from, cases_lt, eq-eqb, eqb-true, leb-true, ltb-true}
use Rattle.std.proofs.lemmas.List.Elements.{All-append, All-cons, All-head, All-nil, All-tail}
use Rattle.std.proofs.lemmas.Nat.{mod-mul-add}
use Rattle.hv_base.specs.declared.breach.Breach.{Breach}
use Rattle.hv_base.specs.declared.line.Line.{Line}
use Rattle.hv_base.specs.declared.line.Phase.TheVariants.{B}
use Rattle.header_types.specs.SequenceParameterSets.{height_in_ctbs, size_in_ctbs, width_in_ctbs}
use Rattle.plan_types.specs.declared.picture_plan.PicturePlan.{PicturePlan}
use Rattle.plan_types.specs.declared.segment_plan.SegmentPlan.{SegmentPlan}
use Rattle.spec_slice_data.specs.Segment.{Between, begins_row, has_above, has_left, has_stored, unit_step}
use Rattle.spec_known_units.specs.SpecPictureTrees.{SegmentAt, segment_at}
use Rattle.spec_known_units.specs.SpecPictureTrees.{end_of, picture_shape}
use Rattle.spec_known_units.specs.Known.{Entries, KnownUnit, behind_step, between_from, entries_before, goes_on}
use Rattle.spec_known_units.specs.Known.{if_used}
use Rattle.spec_known_units.specs.Known.{is_in, known_of, picture_segments, read_in, read_uses, segment_having}
use Rattle.spec_known_units.specs.Known.{segments_from, takes_stored, unit_read, units_known}
use Rattle.known_picture_laws.proofs.KnownUnitLaws.{first_of_two, second_of_two}
use Rattle.known_picture_laws.proofs.KnownUnitLaws.{known_step}
use Rattle.flight_plan.specs.Flight.{FlightRows, picture_at}
use Rattle.known_picture_laws.specs.BoardCore.{line_of, width_of}
use Rattle.known_picture_laws.specs.BoardCore.{Above, Carried, Former, ReadingUses}
use Rattle.known_picture_laws.specs.SpecFlights.{PlannedFlight}
use Rattle.known_picture_laws.specs.SpecFlights.{broken_at, broken_by, flight_rows, is_sound, is_sound_of}
use Rattle.known_picture_laws.specs.UnitTrees.{Edge}
use Rattle.flight_value_laws.specs.Reading.{AgreeWhereRead, AreUsesSound, IsKnownAs, IsLeftBefore, IsUsed, read_over}
use Rattle.flight_value_laws.proofs.Over.{read_is}
use Rattle.flight_value_laws.proofs.Rows.{in_picture, sync_is, width_is}
use Rattle.flight_value_laws.proofs.Used.{AgreeOnUses}

-- a segment of a picture has its shape
module _ (p : PicturePlan) where
  if_here : (t : Bool) (here at : SegmentAt) (rest : Option SegmentAt) → here.picture ≡ picture_shape p.sps p.pps
      → (rest ≡ Some at → at.picture ≡ picture_shape p.sps p.pps) → (if t then Some here else rest) ≡ Some at
      → at.picture ≡ picture_shape p.sps p.pps
  if_here true here at rest shape later e =
      let is : here ≡ at = cc in ap (λ (s : SegmentAt). s.picture) (sym is) ∙ shape
  if_here false here at rest shape later e = later e

  shape_in : (segments : List SegmentPlan) (number first address : ℕ) (at : SegmentAt)
      → segment_having (segments_from p number first segments) address ≡ Some at
      → at.picture ≡ picture_shape p.sps p.pps
  unfolding segments_from segment_having
  shape_in [] number first address at e = absurd cc
  shape_in (s ∷ later) number first address at e =
      if_here (is_in (segment_at p number first s later) address) (segment_at p number first s later) at
      (segment_having (segments_from p (number + 1) (end_of (size_in_ctbs p.sps) first later) later) address) refl
      (shape_in later (number + 1) (end_of (size_in_ctbs p.sps) first later) address at) e

  pub shape_of : (address : ℕ) (at : SegmentAt) → segment_having (picture_segments p) address ≡ Some at
      → at.picture ≡ picture_shape p.sps p.pps
  shape_of address at e = shape_in p.segments 0 0 address at e

neither_true : (a b : Bool) → not (a || b) ≡ true → a ≡ true → ⊥
neither_true true b e t = absurd cc
neither_true false b e t = absurd cc

off_if : (sync : Bool) → (sync ≡ true → ⊥) → sync ≡ false
off_if true never = absurd (never refl)
off_if false never = refl

-- the unit before the first one of a row is the last one of the row above
last_above : (row w : ℕ) → 0 < row → 1 ≤ w → row * w - 1 ≡ (row - 1) * w + (w - 1)
last_above zero w some wide = absurd (omega (arith, some))
last_above (suc r) w some wide =
    let e : suc r - 1 ≡ r = omega arith in
    let f : suc r * w ≡ r * w + w = grind arith in
    let g : (suc r - 1) * w ≡ r * w = ap (λ n. n * w) e in
    omega (arith, f, g, wide)

row_above : (row w x : ℕ) → 0 < row → row * w + x - w ≡ (row - 1) * w + x
row_above zero w x some = absurd (omega (arith, some))
row_above (suc r) w x some =
    let e : suc r - 1 ≡ r = omega arith in
    let f : suc r * w ≡ r * w + w = grind arith in
    let g : (suc r - 1) * w ≡ r * w = ap (λ n. n * w) e in
    omega (arith, f, g)

row_up : (row w : ℕ) → 0 < row → row * w ≡ (row - 1) * w + w
row_up zero w some = absurd (omega (arith, some))
row_up (suc r) w some =
    let e : suc r - 1 ≡ r = omega arith in
    let f : suc r * w ≡ r * w + w = grind arith in
    let g : (suc r - 1) * w ≡ r * w = ap (λ n. n * w) e in
    omega (arith, f, g)

some_row : (row w x : ℕ) → x < w → w ≤ row * w + x → 0 < row
some_row zero w x inside le = let e : 0 * w ≡ 0 = grind arith in absurd (omega (arith, e, inside, le))
some_row (suc r) w x inside le = omega arith

some_row_from : (row w : ℕ) → 0 < row * w + 0 → 0 < row
some_row_from zero w h = let e : 0 * w ≡ 0 = grind arith in absurd (omega (arith, e, h))
some_row_from (suc r) w h = omega arith

module _ (f : PlannedFlight) (k row x : ℕ) (p : PicturePlan) (has : slice_get f.pictures k ≡ Some p)
    (inside : x < width_in_ctbs p.sps) where
  abbrev plan : FlightRows
  plan = flight_rows f

  abbrev w : ℕ
  w = width_in_ctbs p.sps

  abbrev line : Line
  line = line_of B k row

  abbrev above_line : Line
  above_line = line_of B k (row - 1)

  abbrev address : ℕ
  address = row * w + x

  abbrev Used : ℕ → Type 0
  Used = IsUsed f k row x p

  width_there : width_of plan line ≡ w
  width_there = width_is f k p has

  module _ (at : SegmentAt) (shape : at.picture ≡ picture_shape p.sps p.pps) where
    wide_is : at.picture.width ≡ w
    unfolding picture_shape
    wide_is = ap (λ s. s.width) shape

    sync_there : at.picture.sync ≡ (picture_at plan k).sync
    unfolding picture_shape
    sync_there = ap (λ s. s.sync) shape ∙ sym (sync_is f k p has)

    column_is : address % at.picture.width ≡ x
    column_is = ap (λ n. address % n) wide_is ∙ mod-mul-add row w x inside

    on_left : 0 < x → Used (address - 1)
    on_left some = record {
      line = line;
      unit = x - 1;
      uses = Former refl (omega (arith, some));
      is = omega (arith, some);
    }

    former_used : goes_on at address ≡ true → Used (address - 1)
    former_used t =
        elim (cases_lt 0 x) [
          | inl some ↦ on_left some
          | inr none ↦
              let first : x ≡ 0 = omega (arith, none) in
              let start : 0 < address = ltb-true 0 address (first_of_two (nat_lt 0 address) _ t) in
              let starts : 0 < row * w + 0 = omega (arith, start, first) in
              let some : 0 < row = some_row_from row w starts in
              let at_first : (address % at.picture.width == 0) ≡ true =
              eq-eqb (address % at.picture.width) 0 (column_is ∙ first) in
              let off : (picture_at plan k).sync ≡ false =
              off_if (picture_at plan k).sync (λ on.
              neither_true (begins_row at.picture address) _ (second_of_two (nat_lt 0 address) _ t)
              (and_from at.picture.sync _ (sync_there ∙ on) at_first)) in
              let last = last_above row w some (omega (arith, inside)) in
              record {
                line = above_line;
                unit = w - 1;
                uses = Carried refl some off first (omega (arith, width_there, inside));
                is = omega (arith, first, last);
              }
        ]

    left_used : has_left at.picture at.shape address ≡ true → Used (address - 1)
    left_used t =
        let some : 0 < address % at.picture.width = ltb-true _ _ (first_of_two _ _ t) in
        on_left (omega (arith, some, column_is))

    above_used : has_above at.picture at.shape address ≡ true → Used (address - at.picture.width)
    above_used t =
        let le : at.picture.width ≤ address = leb-true _ _ (first_of_two _ _ t) in
        let some : 0 < row = some_row row w x inside (omega (arith, le, wide_is)) in
        let up = row_above row w x some in
        record {
          line = above_line;
          unit = x;
          uses = Above refl some (omega arith) (omega arith) (omega (arith, width_there, inside));
          is = omega (arith, up, wide_is);
        }

    second_used : takes_stored at address ≡ true → Used (address - at.picture.width + 1)
    second_used t =
        let there : has_stored at.picture at.shape address ≡ true =
        second_of_two (begins_row at.picture address) (has_stored at.picture at.shape address) t in
        let both : (nat_le 2 at.picture.width && nat_le at.picture.width address) ≡ true =
        first_of_two (nat_le 2 at.picture.width && nat_le at.picture.width address) _ there in
        let wider : 2 ≤ at.picture.width =
        leb-true 2 at.picture.width (first_of_two (nat_le 2 at.picture.width) _ both) in
        let le : at.picture.width ≤ address =
        leb-true at.picture.width address (second_of_two (nat_le 2 at.picture.width) _ both) in
        let begins : (address % at.picture.width == 0) ≡ true =
        second_of_two at.picture.sync _ (first_of_two (begins_row at.picture address) _ t) in
        let zero_column : address % at.picture.width ≡ 0 = eqb-true (address % at.picture.width) 0 begins in
        let first : x ≡ 0 = omega (arith, column_is, zero_column) in
        let some : 0 < row = some_row row w x inside (omega (arith, le, wide_is)) in
        let up = row_above row w x some in
        record {
          line = above_line;
          unit = 1;
          uses =
              Above refl some (omega (arith, first)) (omega (arith, first))
              (omega (arith, width_there, wider, wide_is));
          is = omega (arith, up, wide_is, first, le);
        }

    all_if : (used : Bool) (a : ℕ) → (used ≡ true → Used a) → All Used (if_used used a)
    all_if true a h = All-cons Used a [] (h refl) (All-nil Used)
    all_if false a h = All-nil Used

    pub all_within : All Used (read_uses at address)
    unfolding read_uses
    all_within =
        let former : List ℕ = if_used (goes_on at address) (address - 1) in
        let left : List ℕ = if_used (has_left at.picture at.shape address) (address - 1) in
        let above : List ℕ = if_used (has_above at.picture at.shape address) (address - at.picture.width) in
        let second : List ℕ = if_used (takes_stored at address) (address - at.picture.width + 1) in
        All-append Used former (left ++ (above ++ second)) (all_if (goes_on at address) (address - 1) former_used)
        (All-append Used left (above ++ second)
        (all_if (has_left at.picture at.shape address) (address - 1) left_used)
        (All-append Used above second
        (all_if (has_above at.picture at.shape address) (address - at.picture.width) above_used)
        (all_if (takes_stored at address) (address - at.picture.width + 1) second_used)))

    same_there : (a b : Entries) → AgreeWhereRead f k row x p a b → (u : ℕ) → Used u → a u ≡ b u
    same_there a b h u used = ap a used.is ∙ h used.line used.unit used.uses ∙ sym (ap b used.is)

    pub agree_on_uses : (a b : Entries) → AgreeWhereRead f k row x p a b → AgreeOnUses at address a b
    agree_on_uses a b h = record {
      former = λ t. same_there a b h (address - 1) (former_used t);
      left = λ t. same_there a b h (address - 1) (left_used t);
      above = λ t. same_there a b h (address - at.picture.width) (above_used t);
      second = λ t. same_there a b h (address - at.picture.width + 1) (second_used t);
    }

  -- what is used is of the same picture
  of_picture : (m : Line) (y : ℕ) → ReadingUses plan line x m y → m ≡ line_of B k m.row
  of_picture m y (Former is lt) = is ∙ ap (line_of B k) (sym (ap (λ (l : Line). l.row) is))
  of_picture m y (Above is some low high inside) = is ∙ ap (line_of B k) (sym (ap (λ (l : Line). l.row) is))
  of_picture m y (Carried is some off first last) = is ∙ ap (line_of B k) (sym (ap (λ (l : Line). l.row) is))

  sound_is : (r y : ℕ) → is_sound f (line_of B k r) y ≡ is_some (units_known p (r * w + y))
  unfolding is_sound
  sound_is r y = ap (λ o. is_sound_of o (line_of B k r) y) has

  module _ (sound : AreUsesSound f k row x) where
    used_known : (u : ℕ) → Used u → is_some (units_known p u) ≡ true
    used_known u used =
        ap (λ a. is_some (units_known p a)) used.is ∙ sym (sound_is used.line.row used.unit)
        ∙ ap (λ l. is_sound f l used.unit) (sym (of_picture used.line used.unit used.uses))
        ∙ sound used.line used.unit used.uses

    -- and is decoded before the unit
    is_before : (m : Line) (y : ℕ) → ReadingUses plan line x m y → m.row * w + y < address
    is_before m y (Former is lt) =
        let e : m.row * w ≡ row * w = ap (λ (l : Line). l.row * w) is in omega (arith, e, lt)
    is_before m y (Above is some low high less) =
        let e : m.row * w ≡ (row - 1) * w = ap (λ (l : Line). l.row * w) is in
        let up = row_up row w some in
        omega (arith, e, up, less, width_there)
    is_before m y (Carried is some off first last) =
        let e : m.row * w ≡ (row - 1) * w = ap (λ (l : Line). l.row * w) is in
        let up = row_up row w some in
        omega (arith, e, up, last, width_there)

    test_used : (u : ℕ) → Used u → is_some (entries_before (units_known p) address u) ≡ true
    test_used u used =
        let less : u < address =
        let lt = is_before used.line used.unit used.uses in omega (arith, lt, used.is) in
        ap (λ b. is_some (if b then units_known p u else None)) (lt-ltb u address less) ∙ used_known u used

    all_tested : (us : List ℕ) → All Used us
        → list_all (λ u. is_some (entries_before (units_known p) address u)) us ≡ true
    all_tested [] h = refl
    all_tested (u ∷ us) h =
        and_from _ _ (test_used u (All-head Used u us h)) (all_tested us (All-tail Used u us h))

    module _ (row_inside : row < height_in_ctbs p.sps) (at : SegmentAt)
        (having : segment_having (picture_segments p) address ≡ Some at) where
      abbrev result : Result KnownUnit Breach
      result =
          behind_step at address
          (unit_step at.syntax at.picture at.shape address
          (between_from (entries_before (units_known p) address) at.picture address))

      pub read_there : unit_read p (units_known p) address ≡ Some result
      unfolding unit_read read_in
      read_there =
          ap (read_in (entries_before (units_known p) address) address) having
          ∙ ap (λ b. if b then Some result else None)
          (all_tested (read_uses at address) (all_within at (shape_of p address at having)))

      by_result : (r : Result KnownUnit Breach) → unit_read p (units_known p) address ≡ Some r → IsKnownAs p address r
      unfolding broken_at
      by_result (Ok known) e = (
        known_step p address (in_picture p row x row_inside inside) ∙ ap known_of e,
        ap broken_by e,
      )
      by_result (Err breach) e = (
        known_step p address (in_picture p row x row_inside inside) ∙ ap known_of e,
        ap broken_by e,
      )

      pub known_as : (before : Between) (left above : Edge)
          → IsLeftBefore at (entries_before (units_known p) address) address before left above
          → IsKnownAs p address (read_over at address left above before)
      known_as before left above h =
          subst (IsKnownAs p address)
          (sym (read_is (units_known p) at address before left above h p result having read_there))
          (by_result result read_there)
