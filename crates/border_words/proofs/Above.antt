-- The words that are kept of the unit above.
use Rattle.std.proofs.Common.{◌≡◌, ℕ, ◌+◌, ◌-◌, ◌*◌, ◌/◌, ◌<◌, ◌≤◌, arith, ap, sym, ◌∙◌, subst, length, take}
use Rattle.std.proofs.Common.{slice_index}
use Rattle.std.proofs.lemmas.List.{get_or-take, length-take}
use Rattle.header_types.specs.SequenceParameterSets.{width_in_ctbs}
use Rattle.plan_types.specs.declared.picture_plan.PicturePlan.{PicturePlan}
use Rattle.spec_known_units.specs.Known.{ctu_of, units_known}
use Rattle.spec_picture_trees.specs.Places.{unit_places}
use Rattle.spec_picture_trees.specs.Shapes.{picture_shape}
use Rattle.spec_flights.specs.SpecDecodedPictures.{DecodedUnits}
use Rattle.sample_words.specs.declared.sizes.FlightSizes.{FlightSizes}
use Rattle.sample_words.specs.declared.unit_content.UnitContent.{UnitContent}
use Rattle.sample_words.specs.declared.unit_content.UnitContent.TheVariants.{Modes, Offsets}
use Rattle.sample_words.specs.Sizes.{width_of}
use Rattle.row_above_laws.specs.Above.{content_in, expected_content}
use Rattle.spec_flights.specs.Pictures.{PlannedFlight}
use Rattle.spec_flights.specs.Words.{flight_sizes}
use Rattle.line_words.specs.Places.{UnitAt}
use Rattle.border_words.specs.declared.unit_above.UnitAbove.{UnitAbove}
use Rattle.border_words.specs.Kept.{AreOfPlace}
use Rattle.border_words.specs.Units.{IsAboveOf, word_in}

-- the same place by other numbers
pub place_moved : (p : PicturePlan) (units : DecodedUnits) (a b x u y v first one second two : ℕ) → a ≡ b → x ≡ u
    → y ≡ v → first ≡ one → second ≡ two
    → AreOfPlace p b (units.motions u v) (units.filters.coded u v) one two
    → AreOfPlace p a (units.motions x y) (units.filters.coded x y) first second
place_moved p units a b x u y v first one second two address column row vectors modes are =
    subst (λ i. AreOfPlace p i (units.motions x y) (units.filters.coded x y) first second) (sym address)
    (subst (λ i. AreOfPlace p b (units.motions i y) (units.filters.coded i y) first second) (sym column)
    (subst (λ i. AreOfPlace p b (units.motions u i) (units.filters.coded u i) first second) (sym row)
    (subst (λ i. AreOfPlace p b (units.motions u v) (units.filters.coded u v) i second) (sym vectors)
    (subst (λ i. AreOfPlace p b (units.motions u v) (units.filters.coded u v) one i) (sym modes) are))))

-- words of a unit are those above the row below it
module _ (f : PlannedFlight) (p : PicturePlan) (u : UnitAt) (above : UnitAbove) (n : ℕ)
    (sized : u.sizes ≡ flight_sizes p.sps (length f.pictures))
    (side : n ≡ unit_places (picture_shape p.sps p.pps))
    (count : above.count ≡ width_of u.sizes u.unit / 4) (few : above.count ≤ 16) (long : length above.modes ≡ 16)
    (modes : (i : ℕ) → i < above.count → slice_index above.modes i ≡ word_in f u (Modes i (n - 1)))
    (offsets : (k : ℕ) → k < 2 → slice_index above.offsets k ≡ word_in f u (Offsets k)) where
  turned : (content : UnitContent)
      → word_in f u content ≡ expected_content f u.line.picture p (u.line.row + 1 - 1) u.unit content
  turned content =
      let e : u.line.row ≡ u.line.row + 1 - 1 = omega arith in
      ap (λ (s : FlightSizes). content_in f s u.line.picture u.line.row u.unit content) sized
      ∙ ap (λ r. content_in f (flight_sizes p.sps (length f.pictures)) u.line.picture r u.unit content) e

  taken : length (take above.count above.modes) ≡ above.count
  taken = length-take above.count above.modes ∙ omega (arith, few, long)

  each : (i : ℕ) → i < length (take above.count above.modes)
      → slice_index (take above.count above.modes) i
      ≡ expected_content f u.line.picture p (u.line.row + 1 - 1) u.unit
      (Modes i (unit_places (picture_shape p.sps p.pps) - 1))
  each i inside =
      let less : i < above.count = omega (arith, inside, taken) in
      get_or-take above.count above.modes i 0 less
      ∙ (modes i less
      ∙ (ap (λ m. word_in f u (Modes i (m - 1))) side
      ∙ turned (Modes i (unit_places (picture_shape p.sps p.pps) - 1))))

  pub is_above : IsAboveOf f u.line.picture p u.line.row u.unit above
  is_above = record {
    few = few;
    words = record {
      count = taken ∙ (count ∙ ap (λ (s : FlightSizes). width_of s u.unit / 4) sized);
      each = each;
      first = offsets 0 (omega arith) ∙ turned (Offsets 0);
      second = offsets 1 (omega arith) ∙ turned (Offsets 1);
    };
  }

-- what the unit above leaves
pub unit_above : (p : PicturePlan) (row x : ℕ)
    → ctu_of (picture_shape p.sps p.pps) (units_known p ((row + 1 - 1) * width_in_ctbs p.sps + x))
    ≡ ctu_of (picture_shape p.sps p.pps) (units_known p (row * width_in_ctbs p.sps + x))
unit_above p row x =
    let e : row + 1 - 1 ≡ row = omega arith in
    ap (λ r. ctu_of (picture_shape p.sps p.pps) (units_known p (r * width_in_ctbs p.sps + x))) e
