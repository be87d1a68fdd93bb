-- What was read of the places of a unit, and its offsets, are in the values of its picture.
use Rattle.std.proofs.Common.{◌≡◌, ◌^◌, refl, ℕ, zero, suc, ◌+◌, ◌-◌, ◌*◌, ◌/◌, ◌<◌, ◌≤◌, ap, subst, ◌∙◌, arith}
use Rattle.std.proofs.Math.Nat.{one-le-pow, pow-le-pow_right}
use Rattle.std.proofs.lemmas.Nat.{div-mul-add, mod-mul-add}
use Rattle.header_types.specs.SequenceParameterSets.{width_in_ctbs}
use Rattle.plan_types.specs.declared.picture_plan.PicturePlan.{PicturePlan}
use Rattle.ctu_records.specs.declared.side.Side.{Side}
use Rattle.ctu_records.specs.Tree.{Ctu}
use Rattle.spec_slice_data.specs.Segment.{PictureShape, column_of, row_of, side_of}
use Rattle.spec_known_units.specs.SpecPictureTrees.{first_column, first_row, unit_at, unit_places}
use Rattle.spec_known_units.specs.SpecPictureTrees.{picture_shape}
use Rattle.spec_known_units.specs.Known.{ctu_of, units_known}
use Rattle.known_picture_laws.specs.UnitTrees.{Edge}
use Rattle.known_picture_laws.specs.UnitTrees.{bottom_of, place_of, right_of}
use Rattle.known_picture_laws.proofs.UnitTreesLemmas.{at_side}
use Rattle.sample_laws.specs.SpecDecodedPictures.{DecodedUnits}
use Rattle.known_picture_laws.specs.SpecFlights.{modes_at, values_in}
use Rattle.flight_value_laws.specs.Reading.{IsLeftEdge, IsTopEdge}

turned : (a b : ℕ) → a * b ≡ b * a
turned a b = grind arith

-- a place by the unit that has it
cell_is : (n c i : ℕ) → i < n → (n * c + i) / n ≡ c
cell_is n c i small = ap (λ k. (k + i) / n) (turned n c) ∙ div-mul-add c n i small

more_is : (a i : ℕ) → a + i - a ≡ i
more_is a i = omega arith

module _ (p : PicturePlan) (units : DecodedUnits) (row x : ℕ) (inside : x < width_in_ctbs p.sps) where
  abbrev shape : PictureShape
  shape = picture_shape p.sps p.pps

  abbrev n : ℕ
  n = unit_places (picture_shape p.sps p.pps)

  abbrev address : ℕ
  address = row * width_in_ctbs p.sps + x

  column_is : column_of shape address ≡ x
  unfolding picture_shape
  column_is = mod-mul-add row (width_in_ctbs p.sps) x inside

  row_is : row_of shape address ≡ row
  unfolding picture_shape
  row_is = div-mul-add row (width_in_ctbs p.sps) x inside

  module _ (i j : ℕ) (across : i < n) (down : j < n) where
    unit_is : unit_at shape (unit_places shape) (n * x + i) (n * row + j) ≡ address
    unfolding unit_at picture_shape
    unit_is =
        ap (λ k. width_in_ctbs p.sps * k + (n * x + i) / n) (cell_is n row j down)
        ∙ ap (λ k. width_in_ctbs p.sps * row + k) (cell_is n x i across)
        ∙ ap (λ k. k + x) (turned (width_in_ctbs p.sps) row)

    -- the place in the unit at an address
    abbrev side_in : ℕ → Side
    side_in a =
        side_of (ctu_of shape (units_known p a)) (n * x + i - first_column shape a) (n * row + j - first_row shape a)

    abbrev unit : Ctu
    unit = ctu_of shape (units_known p address)

    pub side_is : ((values_in p units).modes (n * x + i) (n * row + j)).side
        ≡ side_of (ctu_of shape (units_known p address)) i j
    unfolding values_in modes_at
    side_is =
        ap side_in unit_is
        ∙ ap (λ c. side_of unit (n * x + i - n * c) (n * row + j - first_row shape address)) column_is
        ∙ ap (λ r. side_of unit (n * x + i - n * x) (n * row + j - n * r)) row_is
        ∙ ap (λ k. side_of unit k (n * row + j - n * row)) (more_is (n * x) i)
        ∙ ap (λ k. side_of unit i k) (more_is (n * row) j)

-- the last row of places above a row of units
last_row : (n row : ℕ) → 1 ≤ n → 0 < row → n * row - 1 ≡ n * (row - 1) + (n - 1)
last_row n zero some more = absurd (omega (arith, more))
last_row n (suc row) some more =
    let e : n * suc row ≡ n * row + n = grind arith in
    let f : suc row - 1 ≡ row = omega arith in
    let g : n * (suc row - 1) ≡ n * row = ap (λ k. n * k) f in
    omega (arith, e, g, some)

module _ (p : PicturePlan) (units : DecodedUnits) (row x : ℕ) (inside : x < width_in_ctbs p.sps) (edge : Edge) where
  abbrev here : PictureShape
  here = picture_shape p.sps p.pps

  abbrev side : ℕ
  side = unit_places (picture_shape p.sps p.pps)

  wide : 1 ≤ unit_places (picture_shape p.sps p.pps)
  wide = one-le-pow here.size 2 (omega arith)

  -- an edge whose places and offsets are those of the unit above
  pub top_is : 0 < row → edge.sao ≡ (values_in p units).offsets x (row - 1)
      → ((k : ℕ) → k < unit_places (picture_shape p.sps p.pps)
      → unit_places (picture_shape p.sps p.pps) * x + k < (picture_shape p.sps p.pps).across
      → place_of edge k
      ≡ ((values_in p units).modes (unit_places (picture_shape p.sps p.pps) * x + k)
      (unit_places (picture_shape p.sps p.pps) * row - 1)).side)
      → IsTopEdge (picture_shape p.sps p.pps) (row * width_in_ctbs p.sps + x)
      (ctu_of (picture_shape p.sps p.pps) (units_known p ((row - 1) * width_in_ctbs p.sps + x))) edge
  unfolding values_in
  top_is some sao places = record {
    sao = sao;
    places = λ k small there.
        let reached : side * x + k < here.across =
        subst (λ c. side * c + k < here.across) (column_is p units row x inside) there in
        places k small reached
        ∙ ap (λ y. ((values_in p units).modes (side * x + k) y).side) (last_row side row wide some)
        ∙ side_is p units (row - 1) x inside k (side - 1) small (omega (arith, wide));
  }

-- an edge as a unit leaves it whole
few_places : (size : ℕ) → size ≤ 4 → 2 ^ size ≤ 16
few_places size small = pow-le-pow_right {n = 2} (omega arith) small

pub right_is : (picture : PictureShape) (beside : ℕ) (ctu : Ctu) → picture.size ≤ 4
    → IsLeftEdge picture beside ctu (right_of (2 ^ picture.size) ctu)
right_is picture beside ctu small = record {
  sao = refl;
  places = λ k few there.
      let most = few_places picture.size small in
      at_side (λ i. side_of ctu (2 ^ picture.size - 1) i) k (omega (arith, few, most));
}

pub bottom_is : (picture : PictureShape) (beside : ℕ) (ctu : Ctu) → picture.size ≤ 4
    → IsTopEdge picture beside ctu (bottom_of (2 ^ picture.size) ctu)
bottom_is picture beside ctu small = record {
  sao = refl;
  places = λ k few there.
      let most = few_places picture.size small in
      at_side (λ i. side_of ctu i (2 ^ picture.size - 1)) k (omega (arith, few, most));
}
