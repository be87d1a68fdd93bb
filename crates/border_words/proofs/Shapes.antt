-- The shape of a picture of a flight, by the sizes of the flight.
use Rattle.std.proofs.Common.{◌≡◌, ℕ, ◌+◌, ◌-◌, ◌*◌, ◌/◌, ◌^◌, ◌<◌, ◌≤◌, min, arith, ap, ◌∙◌, subst, refl, zero, suc}
use Rattle.std.proofs.Math.Nat.{lt-div-mul-add, mul-le-mul_right, one-le-pow}
use Rattle.std.proofs.lemmas.Nat.{div_below, pow-add}
use Rattle.header_types.specs.SequenceParameterSets.{IsSps, blocks_across, ctb_log2, height_in_ctbs}
use Rattle.header_types.specs.SequenceParameterSets.{size_in_ctbs, width_in_ctbs}
use Rattle.plan_types.specs.declared.picture_plan.PicturePlan.{PicturePlan}
use Rattle.spec_picture_trees.specs.Places.{unit_places}
use Rattle.spec_picture_trees.specs.Shapes.{picture_shape}
use Rattle.spec_slice_data.specs.Segment.{row_of}
use Rattle.sample_words.specs.declared.sizes.FlightSizes.{FlightSizes}
use Rattle.sample_words.specs.Sizes.{columns, ctb_size, height_of, rows, width_of}
use Rattle.spec_flights.specs.Words.{flight_sizes}

-- how many places a unit has of a side
places_in : (n c w : ℕ) → min (4 * n) (w - c * (4 * n)) / 4 ≡ min n (w / 4 - n * c)
places_in n c w = let e : c * (4 * n) ≡ 4 * (n * c) = grind arith in omega (arith, e)

-- units that cover a side have all its places
covered : (n w x : ℕ) → 1 ≤ n → (w + (4 * n - 1)) / (4 * n) ≤ x → w / 4 ≤ n * x
covered n w x some most =
    let near = lt-div-mul-add {a = w + (4 * n - 1)} {b = 4 * n} (omega (arith, some)) in
    let far : (w + (4 * n - 1)) / (4 * n) * (4 * n) ≤ x * (4 * n) = mul-le-mul_right (4 * n) most in
    let e : x * (4 * n) ≡ 4 * (n * x) = grind arith in
    omega (arith, near, far, e, some)

module _ (p : PicturePlan) (sps : IsSps p.sps) (pictures : ℕ) where
  abbrev n : ℕ
  n = unit_places (picture_shape p.sps p.pps)

  pub some_places : 1 ≤ unit_places (picture_shape p.sps p.pps)
  some_places = one-le-pow (picture_shape p.sps p.pps).size 2 (omega arith)

  pub side_is : ctb_size (flight_sizes p.sps pictures) ≡ 4 * unit_places (picture_shape p.sps p.pps)
  unfolding picture_shape
  side_is =
      let e : ctb_log2 p.sps.blocks ≡ 2 + (ctb_log2 p.sps.blocks - 2) = omega (arith, sps.blocks.least_ctb) in
      ap (λ k. 2 ^ k) e ∙ pow-add 2 2 (ctb_log2 p.sps.blocks - 2)

  -- as many as the picture has
  pub across_is : (x : ℕ) → width_of (flight_sizes p.sps pictures) x / 4
      ≡ min (unit_places (picture_shape p.sps p.pps))
      ((picture_shape p.sps p.pps).across - unit_places (picture_shape p.sps p.pps) * x)
  unfolding width_of picture_shape
  across_is x =
      ap (λ m. min m (p.sps.format.pic_width_in_luma_samples - x * m) / 4) side_is
      ∙ places_in n x p.sps.format.pic_width_in_luma_samples

  pub down_is : (row : ℕ) → height_of (flight_sizes p.sps pictures) row / 4
      ≡ min (unit_places (picture_shape p.sps p.pps))
      ((picture_shape p.sps p.pps).down - unit_places (picture_shape p.sps p.pps) * row)
  unfolding height_of picture_shape
  down_is row =
      ap (λ m. min m (p.sps.format.pic_height_in_luma_samples - row * m) / 4) side_is
      ∙ places_in n row p.sps.format.pic_height_in_luma_samples

  -- no places stand in a column of units that the picture hasn't
  pub past_columns : (x : ℕ) → columns (flight_sizes p.sps pictures) ≤ x
      → (picture_shape p.sps p.pps).across ≤ unit_places (picture_shape p.sps p.pps) * x
  unfolding columns picture_shape
  past_columns x most =
      let w : ℕ = p.sps.format.pic_width_in_luma_samples in
      covered n w x some_places (subst (λ m. (w + (m - 1)) / m ≤ x) side_is most)

-- pictures of one flight have units of one size
pub same_side : (p q : PicturePlan) (pictures : ℕ) → flight_sizes p.sps pictures ≡ flight_sizes q.sps pictures
    → unit_places (picture_shape p.sps p.pps) ≡ unit_places (picture_shape q.sps q.pps)
unfolding picture_shape
same_side p q pictures same = ap (λ (s : FlightSizes). 2 ^ (s.ctb_log2 - 2)) same

-- as many units stand across
pub columns_is : (p : PicturePlan) (pictures : ℕ) → width_in_ctbs p.sps ≡ columns (flight_sizes p.sps pictures)
unfolding blocks_across columns
columns_is p pictures = refl

-- the row of a unit of a picture is one of the flight
module _ (p : PicturePlan) (pictures address : ℕ) (inside : address < size_in_ctbs p.sps) where
  pub row_there : row_of (picture_shape p.sps p.pps) address < rows (flight_sizes p.sps pictures)
  unfolding picture_shape rows blocks_across
  row_there =
      let turned : width_in_ctbs p.sps * height_in_ctbs p.sps ≡ height_in_ctbs p.sps * width_in_ctbs p.sps =
      grind arith in
      div_below address (width_in_ctbs p.sps) (height_in_ctbs p.sps) some_columns (omega (arith, inside, turned))
    where
      some_of : (w h : ℕ) → address < w * h → 0 < w
      some_of zero h less = let none : 0 * h ≡ 0 = grind arith in absurd (omega (arith, less, none))
      some_of (suc w) h less = omega arith

      some_columns : 0 < width_in_ctbs p.sps
      some_columns = some_of (width_in_ctbs p.sps) (height_in_ctbs p.sps) inside
