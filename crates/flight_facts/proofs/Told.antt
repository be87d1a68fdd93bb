-- The rules that the units of a flight of pictures break.
use Rattle.std.proofs.Common.{◌≡◌, refl, ℕ, ◌+◌, ◌*◌, ◌/◌, ◌%◌, ◌<◌, arith, ap, sym, subst, ◌∙◌, false}
use Rattle.std.proofs.Common.{Option, Some, None, is_some, slice_get, Result, Ok, Err}
use Rattle.std.proofs.lemmas.Option.{none-some}
use Rattle.std.specs.Option.{option_map}
use Rattle.hv_base.specs.declared.breach.Breach.{Breach}
use Rattle.hv_base.specs.declared.line.Line.{Line}
use Rattle.hv_base.specs.declared.line.Phase.TheVariants.{B}
use Rattle.header_types.specs.SequenceParameterSets.{height_in_ctbs, size_in_ctbs, width_in_ctbs}
use Rattle.plan_types.specs.declared.picture_plan.PicturePlan.{PicturePlan}
use Rattle.breach_laws.specs.SpecKnownUnits.{KnownUnit, known_of, unit_read, units_known}
use Rattle.flight_unit_laws.proofs.KnownUnitLaws.{known_step}
use Rattle.flight_plan.specs.Flight.{FlightRows, picture_at}
use Rattle.board_core.specs.Places.{full_count, IsLine, IsPlaceOf, line_of, phase_start, phase_units, unit_of}
use Rattle.board_core.specs.States.{IsBad}
use Rattle.board_core.proofs.Order.{within_rows}
use Rattle.board_core.proofs.Units.{place_unique, row_and_column}
use Rattle.flight_unit_laws.specs.SpecFlights.{PlannedFlight}
use Rattle.flight_unit_laws.specs.SpecFlights.{broken_at, broken_by, flight_rows, is_sound, is_sound_of, unit_number}
use Rattle.flight_unit_laws.specs.Planned.{IsPlanned}
use Rattle.flight_unit_laws.proofs.Bad.{bad_has, bad_is}
use Rattle.flight_unit_laws.proofs.Pictures.{height_is, width_is}
use Rattle.line_words.specs.FlightLines.{IsOnBoard, TellsBad}
use Rattle.rule_numbers.specs.Rules.{rule_number}
use Rattle.flight_facts.specs.Boards.{board_flight, rule_at, rule_of}
use Rattle.flight_facts.specs.Lawful.{few_rules, has_rule}
use Rattle.flight_facts.proofs.Sized.{flight_sized}

-- where a rule is broken a unit isn't known
unknown_by : (o : Option (Result KnownUnit Breach)) (b : Breach) → broken_by o ≡ Some b
    → is_some (known_of o) ≡ false
unknown_by None b e = absurd (none-some b e)
unknown_by (Some (Ok known)) b e = absurd (none-some b e)
unknown_by (Some (Err breach)) b e = refl

unknown : (p : PicturePlan) (address : ℕ) (b : Breach) → address < size_in_ctbs p.sps → broken_at p address ≡ Some b
    → is_some (units_known p address) ≡ false
unfolding broken_at
unknown p address b inside e =
    ap is_some (known_step p address inside) ∙ unknown_by (unit_read p (units_known p) address) b e

module _ (f : PlannedFlight) where
  abbrev plan : FlightRows
  plan = flight_rows f

  -- the address of a unit of a line
  record HasAddress (p : PicturePlan) (l : Line) (x : ℕ) : Type 0 where
    pub inside : l.row * width_in_ctbs p.sps + x < size_in_ctbs p.sps
    pub number : unit_of plan l x ≡ unit_number f l.picture (l.row * width_in_ctbs p.sps + x)

  address_of : (p : PicturePlan) (l : Line) (x : ℕ) → slice_get f.pictures l.picture ≡ Some p → l.phase ≡ B
      → IsLine plan l → x < full_count plan l → HasAddress p l x
  address_of p l x has tree line inside =
      let w = width_is f l.picture p has in
      let h = height_is f l.picture p has in
      let start : phase_start l.phase (picture_at plan l.picture) ≡ 0 =
      ap (λ k. phase_start k (picture_at plan l.picture)) tree in
      let full : full_count plan l ≡ width_in_ctbs p.sps =
      ap (λ k. phase_units k (picture_at plan l.picture)) tree ∙ w in
      let low = within_rows (width_in_ctbs p.sps) (height_in_ctbs p.sps) l.row x (omega (arith, line, h))
      (omega (arith, inside, full)) in
      let turned : height_in_ctbs p.sps * width_in_ctbs p.sps ≡ width_in_ctbs p.sps * height_in_ctbs p.sps =
      grind arith in
      let rows : l.row * full_count plan l ≡ l.row * width_in_ctbs p.sps = ap (λ k. l.row * k) full in
      record { inside = omega (arith, low, turned); number = omega (arith, start, rows) }

  -- what is told is bad
  rule_bad : (l : Line) (x r : ℕ) → IsLine plan l → x < full_count plan l → rule_at f l x ≡ Some r
      → IsBad plan (unit_of plan l x)
  rule_bad l x r line inside e =
      let has = has_rule f l x r e in
      let p : PicturePlan = has.plan in
      let at = address_of p l x has.has has.phase line inside in
      subst (IsBad plan) (sym at.number)
      (bad_has f l.picture p has.has (l.row * width_in_ctbs p.sps + x) at.inside has.rule.breach has.rule.is)

  rule_unsound : (l : Line) (x r : ℕ) → IsLine plan l → x < full_count plan l → rule_at f l x ≡ Some r
      → is_sound f l x ≡ false
  unfolding is_sound
  rule_unsound l x r line inside e =
      let has = has_rule f l x r e in
      let p : PicturePlan = has.plan in
      let at = address_of p l x has.has has.phase line inside in
      let no = unknown p (l.row * width_in_ctbs p.sps + x) has.rule.breach at.inside has.rule.is in
      let tree : Line = line_of B l.picture l.row in
      let same : l ≡ tree =
      Rattle.board_core.proofs.Order.same_fields l tree has.phase refl refl in
      ap (λ o. is_sound_of o l x) has.has ∙ (ap (λ (k : Line). is_sound_of (Some p) k x) same ∙ no)

  tree_rule : (k : ℕ) (p : PicturePlan) (row x : ℕ) (b : Breach) → slice_get f.pictures k ≡ Some p
      → broken_at p (row * width_in_ctbs p.sps + x) ≡ Some b
      → rule_at f (line_of B k row) x ≡ Some (rule_number b)
  unfolding rule_at
  tree_rule k p row x b has e =
      ap (λ o. rule_of o (line_of B k row) x) has ∙ ap (option_map rule_number) e

  -- the line and the place there of a coding tree unit that breaks a rule
  pub record HasPlace (k address : ℕ) (breach : Breach) : Type 0 where
    pub line : Line
    pub x : ℕ
    pub place : IsPlaceOf plan (unit_number f k address) line x
    pub rule : rule_at f line x ≡ Some (rule_number breach)

  pub has_place : (k : ℕ) (p : PicturePlan) (address : ℕ) (breach : Breach) → slice_get f.pictures k ≡ Some p
      → address < size_in_ctbs p.sps → broken_at p address ≡ Some breach → HasPlace k address breach
  has_place k p address breach has less rule =
      let turned : width_in_ctbs p.sps * height_in_ctbs p.sps ≡ height_in_ctbs p.sps * width_in_ctbs p.sps =
      grind arith in
      let place = row_and_column (width_in_ctbs p.sps) (height_in_ctbs p.sps) address (omega (arith, less, turned)) in
      let row : ℕ = address / width_in_ctbs p.sps in
      let column : ℕ = address % width_in_ctbs p.sps in
      let m : Line = line_of B k row in
      let wide = width_is f k p has in
      let tall = height_is f k p has in
      let line : IsLine plan m = omega (arith, place.1, tall) in
      let inside : column < full_count plan m = omega (arith, place.2, wide) in
      let at = address_of p m column has refl line inside in
      let same : row * width_in_ctbs p.sps + column ≡ address = sym place.3 in
      let unit : unit_number f k address ≡ unit_of plan m column =
      ap (unit_number f k) (sym same) ∙ sym at.number in
      record {
        line = m;
        x = column;
        place = record { line = line; inside = inside; unit = unit };
        rule = tree_rule k p row column breach has (ap (broken_at p) same ∙ rule);
      }

  -- a unit that has a place has the rule that is told there
  pub same_rule : (k address : ℕ) (breach : Breach) (l : Line) (x : ℕ) → HasPlace k address breach
      → IsPlaceOf plan (unit_number f k address) l x → rule_at f l x ≡ Some (rule_number breach)
  same_rule k address breach l x there here =
      let same = place_unique plan (unit_number f k address) l there.line x there.x here there.place in
      ap (λ (n : Line). rule_at f n x) same.0 ∙ (ap (rule_at f there.line) same.1 ∙ there.rule)

  -- what is bad is told
  record TellsRule (l : Line) (x : ℕ) : Type 0 where
    pub rule : ℕ
    pub is : rule_at f l x ≡ Some rule

  bad_rule : (l : Line) (x : ℕ) → IsLine plan l → x < full_count plan l → IsBad plan (unit_of plan l x)
      → TellsRule l x
  bad_rule l x line inside is =
      let bad = bad_is f (unit_of plan l x) is in
      let here : IsPlaceOf plan (unit_number f bad.picture bad.address) l x =
      record { line = line; inside = inside; unit = sym bad.number } in
      let there = has_place bad.picture bad.plan bad.address bad.breach bad.has bad.inside bad.rule in
      record {
        rule = rule_number bad.breach;
        is = same_rule bad.picture bad.address bad.breach l x there here;
      }

  pub tells_bad : TellsBad (board_flight f)
  tells_bad = record {
    few = few_rules f;
    told = λ l x line inside is. let told = bad_rule l x line inside is in (told.rule, told.is);
    bad = rule_bad;
    phase = λ l x r e. (has_rule f l x r e).phase;
    unsound = rule_unsound;
  }

pub on_board : (f : PlannedFlight) → IsPlanned f → IsOnBoard (board_flight f)
on_board f planned = record { sized = flight_sized f planned; tells = tells_bad f }
