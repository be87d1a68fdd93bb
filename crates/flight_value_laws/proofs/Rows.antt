-- The rows of a picture of a flight, and the coding tree units in them.
use Rattle.std.proofs.Common.{◌≡◌, ℕ, ◌+◌, ◌*◌, ◌<◌, ◌≤◌, length, Some, slice_get, ap, ◌∙◌, arith}
use Rattle.std.proofs.Math.Nat.{mul-le-mul_right}
use Rattle.std.proofs.lemmas.List.FromFn.{get_or-map-range_with_len}
use Rattle.std.proofs.lemmas.Option.{slice_get_within}
use Rattle.header_types.specs.SequenceParameterSets.{height_in_ctbs, size_in_ctbs, width_in_ctbs}
use Rattle.plan_types.specs.declared.picture_plan.PicturePlan.{PicturePlan}
use Rattle.flight_plan.specs.Flight.{PictureRows, no_picture, picture_at}
use Rattle.known_picture_laws.specs.SpecFlights.{PlannedFlight}
use Rattle.known_picture_laws.specs.SpecFlights.{flight_rows, picture_rows, rows_in, rows_of}

module _ (f : PlannedFlight) (k : ℕ) (p : PicturePlan) (has : slice_get f.pictures k ≡ Some p) where
  abbrev row_at : ℕ → PictureRows
  row_at j = rows_of f j (slice_get f.pictures j)

  rows_are : picture_at (flight_rows f) k ≡ rows_in f k p
  unfolding picture_rows
  rows_are =
      get_or-map-range_with_len row_at 0 (length f.pictures) k k no_picture (slice_get_within f.pictures k p has)
      (omega arith)
      ∙ ap (rows_of f k) has

  pub width_is : (picture_at (flight_rows f) k).width ≡ width_in_ctbs p.sps
  unfolding rows_in
  width_is = ap (λ (r : PictureRows). r.width) rows_are

  pub sync_is : (picture_at (flight_rows f) k).sync ≡ p.pps.prediction.entropy_coding_sync_enabled_flag
  unfolding rows_in
  sync_is = ap (λ (r : PictureRows). r.sync) rows_are

in_rows : (w h row x : ℕ) → row < h → x < w → row * w + x < w * h
in_rows w h row x row_inside inside =
    let most : (row + 1) * w ≤ h * w = mul-le-mul_right {m = row + 1} {n = h} w (omega (arith, row_inside)) in
    let one : (row + 1) * w ≡ row * w + w = grind arith in
    let turned : h * w ≡ w * h = grind arith in
    omega (arith, most, one, turned, inside)

pub in_picture : (p : PicturePlan) (row x : ℕ) → row < height_in_ctbs p.sps → x < width_in_ctbs p.sps
    → row * width_in_ctbs p.sps + x < size_in_ctbs p.sps
in_picture p row x row_inside inside =
    in_rows (width_in_ctbs p.sps) (height_in_ctbs p.sps) row x row_inside inside
