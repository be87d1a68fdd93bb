-- The rows of the pictures of a flight.
use Rattle.std.proofs.Common.{◌≡◌, ℕ, ◌<◌, Option, Some, None, length, slice_get}
use Rattle.std.proofs.Common.{inl, inr}
use Rattle.std.proofs.Common.{refl, sym, ap, subst, ◌∙◌, arith}
use Rattle.std.proofs.lemmas.Bool.{cases_lt}
use Rattle.std.proofs.lemmas.List.{get_or_past}
use Rattle.std.proofs.lemmas.List.FromFn.{get_or-map-range_with_len, length-map-range_with_len}
use Rattle.std.proofs.lemmas.Option.{slice_get_past}
use Rattle.header_types.specs.SequenceParameterSets.{height_in_ctbs, width_in_ctbs}
use Rattle.plan_types.specs.declared.picture_plan.PicturePlan.{PicturePlan}
use Rattle.hv_base.specs.declared.line.Line.{Line}
use Rattle.flight_plan.specs.Flight.{PictureRows, no_picture, picture_at}
use Rattle.board_core.specs.Places.{IsLine}
use Rattle.known_picture_laws.specs.SpecFlights.{PlannedFlight}
use Rattle.known_picture_laws.specs.SpecFlights.{flight_rows, picture_rows, rows_in, rows_of}

module _ (f : PlannedFlight) where
  abbrev row_at : ℕ → PictureRows
  row_at k = rows_of f k (slice_get f.pictures k)

  pub as_many : length (picture_rows f) ≡ length f.pictures
  unfolding picture_rows
  as_many = length-map-range_with_len row_at 0 (length f.pictures)

  pub rows_at : (k : ℕ) → picture_at (flight_rows f) k ≡ row_at k
  unfolding picture_rows
  rows_at k =
      elim (cases_lt k (length f.pictures)) [
        | inl less ↦ get_or-map-range_with_len row_at 0 (length f.pictures) k k no_picture less (omega arith)
        | inr past ↦ get_or_past (picture_rows f) k no_picture (omega (arith, past, as_many))
            ∙ sym (ap (rows_of f k) (slice_get_past f.pictures k past))
      ]

  module _ (k : ℕ) (p : PicturePlan) (has : slice_get f.pictures k ≡ Some p) where
    pub rows_are : picture_at (flight_rows f) k ≡ rows_in f k p
    rows_are = rows_at k ∙ ap (rows_of f k) has

    pub width_is : (picture_at (flight_rows f) k).width ≡ width_in_ctbs p.sps
    unfolding rows_in
    width_is = ap (λ (r : PictureRows). r.width) rows_are

    pub height_is : (picture_at (flight_rows f) k).rows ≡ height_in_ctbs p.sps
    unfolding rows_in
    height_is = ap (λ (r : PictureRows). r.rows) rows_are

    pub sync_is : (picture_at (flight_rows f) k).sync ≡ p.pps.prediction.entropy_coding_sync_enabled_flag
    unfolding rows_in
    sync_is = ap (λ (r : PictureRows). r.sync) rows_are

  -- a line is of a picture
  plan_of : (l : Line) → IsLine (flight_rows f) l → (o : Option PicturePlan) → slice_get f.pictures l.picture ≡ o
      → (p : PicturePlan) × (slice_get f.pictures l.picture ≡ Some p)
  plan_of l line (Some p) e = (p, e)
  plan_of l line None e =
      let none : picture_at (flight_rows f) l.picture ≡ no_picture = rows_at l.picture ∙ ap (rows_of f l.picture) e in
      let no : l.row < 0 = subst (λ (r : PictureRows). l.row < r.rows) none line in
      absurd (omega (arith, no))

  pub has_plan : (l : Line) → IsLine (flight_rows f) l
      → (p : PicturePlan) × (slice_get f.pictures l.picture ≡ Some p)
  has_plan l line = plan_of l line (slice_get f.pictures l.picture) refl
