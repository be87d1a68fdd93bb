-- Where the decoding of a flight stops, by the number of a unit.
use Rattle.std.proofs.Common.{◌≡◌, ℕ, ◌+◌, ◌*◌, ◌/◌, ◌%◌, ◌<◌, List, Option, Some, None, Result, Ok, Err, length}
use Rattle.std.proofs.Common.{slice_get, refl, sym, ap, subst, ◌∙◌, arith, mul_comm}
use Rattle.std.proofs.lemmas.Bool.{eq-eqb, ne_eqb}
use Rattle.std.proofs.lemmas.Nat.{div-mul-add, mod-mul-add}
use Rattle.std.proofs.lemmas.Option.{slice_get_within}
use Rattle.hv_base.specs.declared.breach.Breach.{Breach}
use Rattle.hv_base.specs.declared.line.Line.{Line}
use Rattle.hv_base.specs.declared.line.Phase.TheVariants.{B}
use Rattle.hv_base.specs.declared.refusal.Stop.{Stop}
use Rattle.hv_base.specs.Stops.{stopped_at}
use Rattle.header_types.specs.SequenceParameterSets.{height_in_ctbs, size_in_ctbs, width_in_ctbs}
use Rattle.plan_types.specs.declared.picture_plan.PicturePlan.{PicturePlan}
use Rattle.spec_picture_trees.specs.Picture.{PictureBroken, SegmentAt}
use Rattle.spec_known_units.specs.Known.{picture_segments, segment_having}
use Rattle.spec_picture_build.specs.References.{DecodedPicture}
use Rattle.row_trees.specs.SpecDecodedPictures.{picture_decoded}
use Rattle.row_trees.specs.SpecDecoder.{told}
use Rattle.rule_numbers.specs.Rules.{IsNumbered, breach_of}
use Rattle.rule_numbers.proofs.Ruled.{breach_again}
use Rattle.board_core.specs.Places.{IsLine, line_of}
use Rattle.board_core.proofs.Units.{row_and_column}
use Rattle.sample_words.specs.declared.sizes.FlightSizes.{FlightSizes}
use Rattle.sample_words.specs.Sizes.{columns, rows}
use Rattle.progress_words.specs.Faults.{no_fault, unit_in}
use Rattle.row_trees.specs.SpecFlights.{PlannedFlight, pictures_before}
use Rattle.row_trees.specs.SpecFlights.{flight_rows, unit_number}
use Rattle.row_trees.specs.KnownPictureLaws.{IsDecodedAsKnown, IsFirstBad}
use Rattle.flight_facts.proofs.FlightUnitLawsPictures.{as_many, height_is, width_is}
use Rattle.flight_lines.specs.Flights.{IsSized}
use Rattle.flight_lines.specs.Numbers.{units_a_picture}
use Rattle.flight_lines.specs.Shown.{least_in}
use Rattle.flight_lines.proofs.Placed.{unit_is_number}
use Rattle.flight_facts.specs.Held.{StopsByRule}
use Rattle.flight_results.specs.Stopped.{StopsFlight, TellsStop}

none_in : (word : ℕ) → word ≡ no_fault → least_in word ≡ None
none_in word e = let yes = eq-eqb word no_fault e in rw yes refl

some_in : (word : ℕ) → (word ≡ no_fault → ⊥) → least_in word ≡ Some (unit_in word)
some_in word apart = let no = ne_eqb word no_fault apart in rw no refl

pub breach_found : (r : ℕ) (b : Breach) → IsNumbered r b → breach_of r ≡ Some b
breach_found r b is = subst (λ n. breach_of n ≡ Some b) is.number (breach_again b is.data_rule)

module _ (f : PlannedFlight) (s : FlightSizes) (sized : IsSized (flight_rows f) s) where
  -- the number of a coding tree unit of the flight
  record HasNumber (k address : ℕ) : Type 0 where
    pub number : unit_number f k address ≡ k * units_a_picture s + address
    pub small : address < units_a_picture s

  has_number : (k address : ℕ) (p : PicturePlan) → slice_get f.pictures k ≡ Some p → address < size_in_ctbs p.sps
      → HasNumber k address
  has_number k address p has less =
      let there : k < length (flight_rows f).pictures =
      omega (arith, slice_get_within f.pictures k p has, as_many f) in
      let w = width_is f k p has in
      let h = height_is f k p has in
      let wide = sized.widths k there in
      let high = sized.heights k there in
      let across : width_in_ctbs p.sps ≡ columns s = sym w ∙ wide in
      let down : height_in_ctbs p.sps ≡ rows s = sym h ∙ high in
      let turned : size_in_ctbs p.sps ≡ rows s * columns s =
      (λ i. across i * down i) ∙ mul_comm (columns s) (rows s) in
      let swapped : width_in_ctbs p.sps * height_in_ctbs p.sps ≡ height_in_ctbs p.sps * width_in_ctbs p.sps =
      mul_comm (width_in_ctbs p.sps) (height_in_ctbs p.sps) in
      let place = row_and_column (width_in_ctbs p.sps) (height_in_ctbs p.sps) address (omega (arith, less, swapped)) in
      let line : Line = line_of B k 0 in
      let row : IsLine (flight_rows f) line = omega (arith, place.1, h) in
      let number = unit_is_number (flight_rows f) s sized line address row in
      record { number = omega (arith, number); small = omega (arith, less, turned) }

inside_by : (f : PlannedFlight) (k : ℕ) (p : PicturePlan) (broken : PictureBroken)
    (r : Result DecodedPicture PictureBroken) → r ≡ Err broken → IsDecodedAsKnown (pictures_before f k) p r
    → IsFirstBad p broken
inside_by f k p broken r e known = subst (IsDecodedAsKnown (pictures_before f k) p) e known

module _ (f : PlannedFlight) (word : ℕ) (tells : TellsStop f word) where
  pub stops_nowhere : word ≡ no_fault → (count : ℕ) → count ≡ length f.pictures → StopsFlight f count None
  stops_nowhere none count all = record {
    few = omega (arith, all);
    before = λ k p less has. tells.all (none_in word none) k p has;
    stops = all;
  }

  module _ (known : (buffer : List DecodedPicture) (p : PicturePlan)
      → IsDecodedAsKnown buffer p (picture_decoded buffer p))
      (s : FlightSizes) (sized : IsSized (flight_rows f) s) (some : word ≡ no_fault → ⊥) where
    by_rule : StopsByRule f (unit_in word) (word % 32)
    by_rule = tells.some (unit_in word) (some_in word some)

    -- what is told of the unit stops the flight at its picture
    pub stops_there : (count address : ℕ) (fault : Option Stop)
        → count ≡ unit_in word / units_a_picture s → address ≡ unit_in word % units_a_picture s
        → ((plan : PicturePlan) (at : SegmentAt) (breach : Breach) → slice_get f.pictures count ≡ Some plan
        → segment_having (picture_segments plan) address ≡ Some at → IsNumbered (word % 32) breach
        → fault ≡ Some (stopped_at at.nal (Some address) breach))
        → StopsFlight f count fault
    stops_there count address fault place unit is =
        let d = by_rule.stops in
        let first : IsFirstBad d.plan d.broken =
        inside_by f d.picture d.plan d.broken (picture_decoded (pictures_before f d.picture) d.plan) d.stops
        (known (pictures_before f d.picture) d.plan) in
        let number = has_number f s sized d.picture d.broken.ctu d.plan d.has first.inside in
        let sum : unit_in word ≡ d.picture * units_a_picture s + d.broken.ctu = d.number ∙ number.number in
        let here : d.picture ≡ count =
        sym (place ∙ (ap (λ n. n / units_a_picture s) sum
        ∙ div-mul-add d.picture (units_a_picture s) d.broken.ctu number.small)) in
        let at : d.broken.ctu ≡ address =
        sym (unit ∙ (ap (λ n. n % units_a_picture s) sum
        ∙ mod-mul-add d.picture (units_a_picture s) d.broken.ctu number.small)) in
        let has : slice_get f.pictures count ≡ Some d.plan =
        subst (λ k. slice_get f.pictures k ≡ Some d.plan) here d.has in
        let having : segment_having (picture_segments d.plan) address ≡ Some first.at =
        subst (λ a. segment_having (picture_segments d.plan) a ≡ Some first.at) at first.segment in
        let stops : picture_decoded (pictures_before f count) d.plan ≡ Err d.broken =
        subst (λ k. picture_decoded (pictures_before f k) d.plan ≡ Err d.broken) here d.stops in
        let tells : stopped_at first.at.nal (Some address) d.broken.breach ≡ told d.broken =
        λ i. stopped_at (first.nal i) (Some (sym at i)) d.broken.breach in
        let fault_is = is d.plan first.at d.broken.breach has having by_rule.rule in
        subst (StopsFlight f count) (sym fault_is)
        (record {
          few = omega (arith, slice_get_within f.pictures count d.plan has);
          before = λ k p less got. d.before k p (omega (arith, less, here)) got;
          stops = (d.plan, d.broken, has, stops, tells);
        })
