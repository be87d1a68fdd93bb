-- The words of the row above are those of what its units leave.
use Rattle.std.proofs.Common.{◌≡◌, ℕ, zero, suc, ◌+◌, ◌-◌, ◌*◌, ◌<◌, ◌≤◌, true, Option, Some, None, is_none}
use Rattle.std.proofs.Common.{List, length, slice_get, not, refl, sym, ap, subst, ◌∙◌, arith}
use Rattle.std.specs.Option.{unwrap_or}
use Rattle.std.proofs.Math.Nat.{one-le-pow}
use Rattle.std.proofs.lemmas.Bool.{and_parts, leb-true, ltb-true}
use Rattle.std.proofs.lemmas.List.Elements.{All-nil}
use Rattle.std.proofs.lemmas.Nat.{mod-mul-add}
use Rattle.header_types.specs.SequenceParameterSets.{IsSps, height_in_ctbs, size_in_ctbs, width_in_ctbs}
use Rattle.plan_types.specs.declared.picture_plan.PicturePlan.{PicturePlan}
use Rattle.flight_value_laws.specs.PlanLaws.{IsPlan}
use Rattle.ctu_records.specs.Tree.{Ctu, no_side}
use Rattle.spec_slice_data.specs.Segment.{Between, PictureShape, column_of, no_group, nothing_read, side_of}
use Rattle.spec_slice_data.specs.Segment.{unit_at as unit_elements}
use Rattle.spec_slice_data.specs.declared.syntax.CtuSyntax.{CtuSyntax}
use Rattle.spec_slice_data.specs.declared.syntax.End.{End}
use Rattle.spec_picture_trees.specs.Picture.{SegmentAt}
use Rattle.spec_picture_trees.specs.Places.{first_column, first_row, has_place, is_of_unit, unit_places}
use Rattle.spec_picture_trees.specs.Shapes.{picture_shape}
use Rattle.spec_known_units.specs.Known.{KnownUnit, ctu_of, units_known}
use Rattle.spec_picture_motion.specs.Field.{motion_of}
use Rattle.flight_value_laws.specs.SpecDecodedPictures.{DecodedUnits}
use Rattle.flight_value_laws.proofs.LocalityLawsLemmas.{place_is}
use Rattle.sample_words.specs.Contents.{PictureValues}
use Rattle.sample_words.specs.Offsets.{IsSao, first_word, second_word}
use Rattle.sample_words.specs.Values.{IsMotion, modes_word, vectors_word}
use Rattle.unit_words.specs.Above.{AreBottom, ArePlace}
use Rattle.unit_words.specs.Units.{no_motion}
use Rattle.flight_value_laws.specs.SpecFlights.{PlannedFlight, folded_at, pictures_before}
use Rattle.flight_value_laws.specs.SpecFlights.{flight_sizes, modes_at, values_in}
use Rattle.flight_value_laws.specs.Ranges.{FitWords, IsInRange}
use Rattle.flight_value_laws.proofs.Known.{IsKnownFit}
use Rattle.flight_value_laws.proofs.Rows.{in_picture}
use Rattle.flight_value_laws.proofs.Segments.{IsAt, found_at}
use Rattle.flight_value_laws.proofs.Sides.{side_is}
use Rattle.flight_value_laws.proofs.Values.{fit_at, folded_is, values_fit}
use Rattle.unit_laws.proofs.Formats.{Gives}
use Rattle.row_above_laws.specs.Above.{AreAbove, places_across}
use Rattle.row_above_laws.proofs.Known.{known_has}
use Rattle.row_above_laws.proofs.Laying.{Misses, is_predicted, side_missed}
use Rattle.row_above_laws.proofs.Motion.{motion_none}
use Rattle.row_above_laws.proofs.Quadtree.{IsHere}
use Rattle.row_above_laws.proofs.Within.{IsLaidAt, laid_at}

-- ---- what is laid of a known unit

module _ (p : PicturePlan) (sps : IsSps p.sps) where
  abbrev shape : PictureShape
  shape = picture_shape p.sps p.pps

  abbrev n : ℕ
  n = unit_places (picture_shape p.sps p.pps)

  abbrev GivesLaid : ℕ → CtuSyntax → PictureShape → SegmentAt → Between → Type 0
  GivesLaid address common picture at between =
      Gives (λ (read : Ctu × End). IsLaidAt p sps address read.0)
      (unit_elements common picture at.shape address between)

  given : (address : ℕ) (at : SegmentAt) (between : Between) → IsAt p p.segments 0 at
      → GivesLaid address at.syntax at.picture at between
  given address at between is =
      subst (λ q. GivesLaid address at.syntax q at between) (sym is.picture)
      (subst (λ c. GivesLaid address c shape at between) (sym is.syntax) (laid_at p sps is.s at.shape address between))

  known_laid : (address : ℕ) (known : KnownUnit) → address < size_in_ctbs p.sps → units_known p address ≡ Some known
      → IsLaidAt p sps address known.read
  known_laid address known inside is =
      known_has (IsLaidAt p sps address) p address known inside is
      (λ at having between. given address at between (found_at p address at having))

  -- a place that the picture hasn't
  module _ (row x i j : ℕ) (lower : row < height_in_ctbs p.sps) (less : x < width_in_ctbs p.sps)
      (out : places_across (picture_shape p.sps p.pps) x ≤ i) where
    abbrev there : ℕ
    there = row * width_in_ctbs p.sps + x

    column_is : column_of shape there ≡ x
    unfolding picture_shape
    column_is = mod-mul-add row (width_in_ctbs p.sps) x less

    not_here : IsHere shape.size (shape.across - first_column shape there) (shape.down - first_row shape there) i j
        → ⊥
    not_here here =
        let first : first_column shape there ≡ n * x = ap (λ c. n * c) column_is in
        omega (arith, here.column, here.across, first, out)

    by_entry : (o : Option KnownUnit) → units_known p there ≡ o → side_of (ctu_of shape o) i j ≡ no_side
    by_entry None is = side_missed (nothing_read shape.size no_group) i j (All-nil (Misses i j))
    by_entry (Some known) is =
        side_missed known.read i j
        ((known_laid there known (in_picture p row x lower less) is).outside i j not_here)

    pub nothing_there : side_of (ctu_of (picture_shape p.sps p.pps) (units_known p (row * width_in_ctbs p.sps + x))) i j
        ≡ no_side
    nothing_there = by_entry (units_known p there) refl

-- ---- places of a unit

record IsPlaceOf (picture : PictureShape) (address x y : ℕ) : Type 0 where
  across : x < picture.across
  down : y < picture.down
  left : first_column picture address ≤ x
  right : x < first_column picture address + unit_places picture
  top : first_row picture address ≤ y
  bottom : y < first_row picture address + unit_places picture

place_of : (picture : PictureShape) (address x y : ℕ) → is_of_unit picture address x y ≡ true
    → IsPlaceOf picture address x y
place_of picture address x y mine =
    let both = and_parts (has_place picture x y) _ mine in
    let there = and_parts _ _ both.0 in
    let sides = and_parts _ _ both.1 in
    let columns = and_parts _ _ sides.0 in
    let rows = and_parts _ _ sides.1 in
    record {
      across = ltb-true _ _ there.0;
      down = ltb-true _ _ there.1;
      left = leb-true _ _ columns.0;
      right = ltb-true _ _ columns.1;
      top = leb-true _ _ rows.0;
      bottom = ltb-true _ _ rows.1;
    }

-- the last row of places above a row of units
pub last_row : (n row : ℕ) → 1 ≤ n → 0 < row → n * row - 1 ≡ n * (row - 1) + (n - 1)
last_row n zero some more = absurd (omega (arith, more))
last_row n (suc row) some more =
    let e : n * suc row ≡ n * row + n = grind arith in
    let f : suc row - 1 ≡ row = omega arith in
    let g : n * (suc row - 1) ≡ n * row = ap (λ k. n * k) f in
    omega (arith, e, g, some)

-- ---- in a flight

module _ (f : PlannedFlight) (range : IsInRange f) (k : ℕ) (p : PicturePlan)
    (has : slice_get f.pictures k ≡ Some p) where
  plan : IsPlan p
  plan = range.plans k p has

  abbrev here_shape : PictureShape
  here_shape = picture_shape p.sps p.pps

  abbrev side : ℕ
  side = unit_places (picture_shape p.sps p.pps)

  abbrev values : PictureValues
  values = values_in p (folded_at f k)

  fits : FitWords (flight_sizes p.sps (length f.pictures)) (values_in p (folded_at f k))
  fits = values_fit f range k p has

  -- a place of a known unit is intra where it has no motion
  module _ (address : ℕ) (known : KnownUnit) (inside : address < size_in_ctbs p.sps)
      (is : units_known p address ≡ Some known) (x y : ℕ)
      (mine : is_of_unit (picture_shape p.sps p.pps) address x y ≡ true) where
    abbrev i : ℕ
    i = x - first_column here_shape address

    abbrev j : ℕ
    j = y - first_row here_shape address

    here : IsHere here_shape.size (here_shape.across - first_column here_shape address)
        (here_shape.down - first_row here_shape address) i j
    here =
        let place = place_of here_shape address x y mine in
        record {
          column = omega (arith, place.left, place.right);
          row = omega (arith, place.top, place.bottom);
          across = omega (arith, place.left, place.across);
          down = omega (arith, place.top, place.down);
        }

    abbrev IntraAt : ℕ → Type 0
    IntraAt a =
        (side_of (ctu_of here_shape (units_known p a)) (x - first_column here_shape a)
        (y - first_row here_shape a)).intra ≡ not (is_predicted known.read.items i j)

    read_intra : IntraAt address
    read_intra =
        ap (λ o. (side_of (ctu_of here_shape o) i j).intra) is
        ∙ (known_laid p plan.sps address known inside is).told i j here

    modes_intra : (values.modes x y).side.intra ≡ not (is_predicted known.read.items i j)
    unfolding values_in modes_at
    modes_intra = subst IntraAt (sym (place_is here_shape address x y mine)) read_intra

    motion_is : is_none (motion_of ((folded_at f k).motions x y)) ≡ not (is_predicted known.read.items i j)
    motion_is =
        let fit : IsKnownFit p plan.sps known = fit_at p plan address known is in
        ap (λ (d : DecodedUnits). is_none (motion_of (d.motions x y))) (folded_is f range k p has)
        ∙ motion_none p (pictures_before f k) address known inside is fit.segment fit.has x y mine

    pub intra_is : ((values_in p (folded_at f k)).modes x y).side.intra
        ≡ is_none (motion_of ((folded_at f k).motions x y))
    intra_is = modes_intra ∙ sym motion_is

    motion_value : values.motion x y ≡ unwrap_or (motion_of ((folded_at f k).motions x y)) no_motion
    unfolding values_in
    motion_value = refl

    pub place_words : (first second : ℕ) → first ≡ vectors_word ((values_in p (folded_at f k)).motion x y)
        → second
        ≡ modes_word ((values_in p (folded_at f k)).modes x y) ((values_in p (folded_at f k)).motion x y)
        → ArePlace (motion_of ((folded_at f k).motions x y)) ((values_in p (folded_at f k)).modes x y) first second
    place_words first second vectors modes = record {
      intra = intra_is;
      modes_fit = fits.modes x y;
      motion_fits = subst IsMotion motion_value (fits.motion x y);
      vectors = vectors ∙ ap vectors_word motion_value;
      modes = modes ∙ ap (modes_word (values.modes x y)) motion_value;
    }

  -- the lowest places of the unit above
  module _ (row x : ℕ) (some : 0 < row) (lower : row < height_in_ctbs p.sps) (less : x < width_in_ctbs p.sps)
      (modes offsets : List ℕ)
      (are : AreAbove (picture_shape p.sps p.pps) (values_in p (folded_at f k)) row x modes offsets) where
    abbrev above : Ctu
    above = ctu_of here_shape (units_known p ((row - 1) * width_in_ctbs p.sps + x))

    abbrev last : ℕ
    last = side * row - 1

    wide : 1 ≤ unit_places (picture_shape p.sps p.pps)
    wide = one-le-pow here_shape.size 2 (omega arith)

    sides_are : (i : ℕ) → i < length modes → (values.modes (side * x + i) last).side ≡ side_of above i (side - 1)
    sides_are i inside =
        ap (λ y. (values.modes (side * x + i) y).side) (last_row side row wide some)
        ∙ side_is p (folded_at f k) (row - 1) x less i (side - 1) (omega (arith, inside, are.count))
        (omega (arith, wide))

    offset_is : values.offsets x (row - 1) ≡ above.sao
    unfolding values_in
    offset_is = refl

    pub bottom_words : AreBottom (unit_places (picture_shape p.sps p.pps))
        (ctu_of (picture_shape p.sps p.pps) (units_known p ((row - 1) * width_in_ctbs p.sps + x))) modes offsets
    bottom_words = record {
      place = λ i. values.modes (side * x + i) last;
      motion = λ i. values.motion (side * x + i) last;
      words = are.each;
      modes_fit = λ i inside. fits.modes (side * x + i) last;
      motion_fits = λ i inside. fits.motion (side * x + i) last;
      sides = sides_are;
      behind = λ i past.
          nothing_there p plan.sps (row - 1) x i (side - 1) (omega (arith, lower)) less
          (omega (arith, past, are.count));
      offsets_fit = subst IsSao offset_is (fits.offsets x (row - 1));
      first = are.first ∙ ap first_word offset_is;
      second = are.second ∙ ap second_word offset_is;
    }
