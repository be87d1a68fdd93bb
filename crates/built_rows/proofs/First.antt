-- The first coding tree unit of a row, and what it goes on with from the row above.
use Rattle.std.proofs.Common.{◌≡◌, ℕ, ◌+◌, ◌-◌, ◌*◌, ◌%◌, ◌<◌, ◌≤◌, true, false, List, Some, None, Option, is_some}
use Rattle.std.proofs.Common.{refl, sym, ap, subst, ◌∙◌, arith, zero-mul, slice_get}
use Rattle.std.specs.Prelude.{if◌then◌else◌}
use Rattle.std.proofs.lemmas.Bool.{and_parts, leb-true, lt-ltb}
use Rattle.std.proofs.lemmas.Nat.{mod-mul-add}
use Rattle.hv_base.specs.declared.line.Phase.TheVariants.{B}
use Rattle.header_types.specs.SequenceParameterSets.{width_in_ctbs}
use Rattle.plan_types.specs.declared.picture_plan.PicturePlan.{PicturePlan}
use Rattle.spec_slice_data.specs.Segment.{PictureShape, column_of}
use Rattle.spec_picture_build.specs.Border.{unit_side}
use Rattle.spec_picture_trees.specs.Picture.{SegmentAt}
use Rattle.spec_picture_trees.specs.Places.{unit_places}
use Rattle.spec_picture_trees.specs.Shapes.{picture_shape}
use Rattle.spec_known_units.specs.Known.{contexts_behind, units_known}
use Rattle.spec_decoded_pictures.specs.Decoded.{DecodedUnits}
use Rattle.board_core.specs.Places.{line_of}
use Rattle.sample_words.specs.declared.carry.Carry.{Carry}
use Rattle.spec_flights.specs.Pictures.{PlannedFlight}
use Rattle.spec_flights.specs.Rows.{is_sound, is_sound_of}
use Rattle.spec_flights.specs.Words.{carried_behind}
use Rattle.border_words.proofs.FlightValueLawsLemmas.{shape_of}
use Rattle.border_words.specs.UnitTrees.{Edge}
use Rattle.border_words.specs.UnitTrees.{UnitReader}
use Rattle.row_waits.specs.RowTrees.{BeginsAlone, CarriesBehind, OfSegment, StandsBefore, known_to}
use Rattle.border_words.specs.RowBorders.{Bordering}
use Rattle.built_rows.specs.Stages.{IsLeftOf, IsStored}

-- no place is on the left of the first column
no_columns : (n c : ℕ) → c ≡ 0 → 1 ≤ n * c → ⊥
no_columns n c none left =
    let e : n * c ≡ n * 0 = ap (λ m. n * m) none in
    let f : n * 0 ≡ 0 = grind arith in
    omega (arith, left, e, f)

there : {X : Type 0} (o : Option X) → is_some o ≡ true → (x : X) × (o ≡ Some x)
there None e = absurd cc
there (Some x) e = (x, refl)

module _ (p : PicturePlan) (row x : ℕ) (first : x ≡ 0) (some : 0 < width_in_ctbs p.sps) where
  abbrev wide : ℕ
  wide = width_in_ctbs p.sps

  abbrev here : ℕ
  here = row * width_in_ctbs p.sps + x

  pub begins_here : (row * width_in_ctbs p.sps + x) % width_in_ctbs p.sps ≡ 0
  begins_here = mod-mul-add row (width_in_ctbs p.sps) x (omega (arith, first, some)) ∙ first

  column_is : column_of (picture_shape p.sps p.pps) (row * width_in_ctbs p.sps + x) ≡ 0
  unfolding picture_shape
  column_is = begins_here

  -- nothing stands on its left
  pub nothing_left : (border : Bordering) (units : DecodedUnits)
      → IsLeftOf (picture_shape p.sps p.pps) (row * width_in_ctbs p.sps + x) border units
  nothing_left border units slice = record {
    column = λ c k few left. absurd (no_columns (unit_side (picture_shape p.sps p.pps) c) _ column_is left);
    motion = λ k left. absurd (no_columns (unit_places (picture_shape p.sps p.pps)) _ column_is left);
    flags = λ k left. absurd (no_columns (unit_places (picture_shape p.sps p.pps)) _ column_is left);
  }

  -- a row with a substream of its own begins by itself, and so does the first one
  pub begins_alone : p.pps.prediction.entropy_coding_sync_enabled_flag ≡ true
      → BeginsAlone p (row * width_in_ctbs p.sps + x)
  begins_alone sync behind = sync

  nothing_above : row ≡ 0 → row * width_in_ctbs p.sps + x ≡ 0
  nothing_above top =
      let e : row * wide ≡ 0 * wide = ap (λ n. n * wide) top in
      let f : 0 * wide ≡ 0 = zero-mul wide in
      omega (arith, e, f, first)

  pub top_begins_alone : row ≡ 0 → BeginsAlone p (row * width_in_ctbs p.sps + x)
  top_begins_alone top behind = let e = nothing_above top in absurd (omega (arith, e, behind))

  -- the row above
  up : 0 < row → row * width_in_ctbs p.sps ≡ (row - 1) * width_in_ctbs p.sps + width_in_ctbs p.sps
  up below =
      let e : (row - 1 + 1) * wide ≡ (row - 1) * wide + wide = grind arith in
      let f : row - 1 + 1 ≡ row = omega (arith, below) in
      ap (λ n. n * wide) (sym f) ∙ e

  -- contexts from the row above, of a segment
  module _ (stored : List ℕ) where
    wide_is : (at : SegmentAt) → at.picture ≡ picture_shape p.sps p.pps → at.picture.width ≡ width_in_ctbs p.sps
    unfolding picture_shape
    wide_is at picture = ap (λ (q : PictureShape). q.width) picture

    sync_is : (at : SegmentAt) → at.picture ≡ picture_shape p.sps p.pps
        → at.picture.sync ≡ p.pps.prediction.entropy_coding_sync_enabled_flag
    unfolding picture_shape
    sync_is at picture = ap (λ (q : PictureShape). q.sync) picture

    pub none_at_top : row ≡ 0
        → OfSegment p (row * width_in_ctbs p.sps + x) (IsStored p (row * width_in_ctbs p.sps + x) stored)
    none_at_top top at having begins has =
        let w = wide_is at (shape_of p here at having) in
        let over : at.picture.width ≤ here = leb-true at.picture.width here (and_parts _ _ (and_parts _ _ has).0).1 in
        let e = nothing_above top in
        absurd (omega (arith, w, over, e, some))

    pub none_if_narrow : width_in_ctbs p.sps < 2
        → OfSegment p (row * width_in_ctbs p.sps + x) (IsStored p (row * width_in_ctbs p.sps + x) stored)
    none_if_narrow narrow at having begins has =
        let w = wide_is at (shape_of p here at having) in
        let two : 2 ≤ at.picture.width = leb-true _ _ (and_parts _ _ (and_parts _ _ has).0).0 in
        absurd (omega (arith, w, two, narrow))

    pub none_if_carried : p.pps.prediction.entropy_coding_sync_enabled_flag ≡ false
        → OfSegment p (row * width_in_ctbs p.sps + x) (IsStored p (row * width_in_ctbs p.sps + x) stored)
    none_if_carried off at having begins has =
        let on : at.picture.sync ≡ true = (and_parts _ _ begins).0 in
        let e : true ≡ false = sym on ∙ (sync_is at (shape_of p here at having) ∙ off) in
        absurd cc

    pub stored_is : 0 < row → 2 ≤ width_in_ctbs p.sps
        → stored ≡ contexts_behind (units_known p ((row - 1) * width_in_ctbs p.sps + 1))
        → OfSegment p (row * width_in_ctbs p.sps + x) (IsStored p (row * width_in_ctbs p.sps + x) stored)
    stored_is below two is at having begins has =
        let w = wide_is at (shape_of p here at having) in
        let above = up below in
        let second : ℕ = (row - 1) * wide + 1 in
        let place : here - at.picture.width + 1 ≡ (row - 1) * wide + 1 = omega (arith, above, w, first) in
        let entry : known_to p here ((row - 1) * wide + 1) ≡ units_known p ((row - 1) * wide + 1) =
        ap (λ t. if t then units_known p ((row - 1) * wide + 1) else None)
        (lt-ltb ((row - 1) * wide + 1) here (omega (arith, above, two, first))) in
        is ∙ sym (ap (λ a. contexts_behind (known_to p here a)) place ∙ ap (λ o. contexts_behind o) entry)

  -- what the last unit of the row above carries on
  pub carries : (carry : Carry) → 0 < row
      → carry ≡ carried_behind (units_known p ((row - 1) * width_in_ctbs p.sps + (width_in_ctbs p.sps - 1)))
      → is_some (units_known p ((row - 1) * width_in_ctbs p.sps + (width_in_ctbs p.sps - 1))) ≡ true
      → CarriesBehind p (row * width_in_ctbs p.sps + x) carry
  carries carry below is sound =
      let above = up below in
      let known = there (units_known p ((row - 1) * wide + (wide - 1))) sound in
      let place : here - 1 ≡ (row - 1) * wide + (wide - 1) = omega (arith, above, first, some) in
      record {
        known = known.0;
        is = ap (units_known p) place ∙ known.1;
        carried = is ∙ ap (λ o. carried_behind o) known.1;
      }

-- a sound unit of a row is known
pub sound_known : (f : PlannedFlight) (k row x : ℕ) (p : PicturePlan) → slice_get f.pictures k ≡ Some p
    → is_sound f (line_of B k row) x ≡ true → is_some (units_known p (row * width_in_ctbs p.sps + x)) ≡ true
unfolding is_sound
sound_known f k row x p has sound = sym (ap (λ o. is_sound_of o (line_of B k row) x) has) ∙ sound

-- a reader that begins a row by itself
pub stands_alone : (q p : PicturePlan) (a : ℕ) (reader : UnitReader) (left : Edge) → q ≡ p
    → ((address : ℕ) → address % width_in_ctbs q.sps ≡ 0 → BeginsAlone q address → StandsBefore q address reader left)
    → a % width_in_ctbs p.sps ≡ 0 → BeginsAlone p a → StandsBefore p a reader left
stands_alone q p a reader left same each =
    subst
    (λ (r : PicturePlan). a % width_in_ctbs r.sps ≡ 0 → BeginsAlone r a → StandsBefore r a reader left)
    same (each a)
