-- The words of a flight are laid out as a board asks.
use Rattle.std.proofs.Common.{◌≡◌, ℕ, suc, ◌+◌, ◌-◌, ◌*◌, ◌^◌, ◌<◌, ◌≤◌, inl, inr, arith, ap, sym}
use Rattle.std.proofs.Common.{◌∙◌, List, [], ◌∷◌, length, subst}
use Rattle.std.proofs.lemmas.Bool.{cases_lt}
use Rattle.std.proofs.lemmas.List.{get_or_past}
use Rattle.std.proofs.lemmas.List.Sums.{sum_by-cons}
use Rattle.std.proofs.Math.Nat.{mul-le-mul}
use Rattle.std.specs.Prelude.{All}
use Rattle.hv_base.specs.declared.line.Line.{Line}
use Rattle.hv_base.specs.declared.line.Phase.{Phase}
use Rattle.hv_base.specs.declared.line.Phase.TheVariants.{B, V, H, S}
use Rattle.flight_plan.specs.Flight.{FlightRows, IsFlight, IsInRange, PictureRows, no_picture, picture_at}
use Rattle.flight_plan.specs.Flight.{picture_units, units_of}
use Rattle.board_core.specs.Places.{full_count, IsLine, phase_units, unit_of}
use Rattle.board_core.proofs.Order.{unit_inside}
use Rattle.sample_words.specs.declared.sizes.FlightSizes.{FlightSizes}
use Rattle.sample_words.specs.declared.unit_word.UnitWord.{UnitWord}
use Rattle.sample_words.specs.declared.unit_word.WordOwner.TheVariants.{Unit}
use Rattle.sample_words.specs.Words.{IsUnitWord, first_unit_word, line_at, line_number, lines, owner, unit_word_at}
use Rattle.sample_words.specs.Words.{unit_words, word_of, words}
use Rattle.sample_words.proofs.Bounds.{few_words}
use Rattle.sample_words.proofs.Owners.{unit_word_found}
use Rattle.sample_words.proofs.PictureWords.{unit_owned}
use Rattle.progress_words.specs.Meanings.{IsLaid, Spot}
use Rattle.flight_lines.specs.Flights.{BoardFlight, IsSized, meaning_of}
use Rattle.flight_lines.specs.Numbers.{spot_by, spot_of}
use Rattle.flight_lines.proofs.Numbered.{line_is, number_less, number_line, same_number, units_are}
use Rattle.flight_lines.proofs.Numbered.{flight_line}
use Rattle.flight_lines.proofs.Ticketed.{line_by_ticket, ticket_is_found, ticket_less}

-- the units of a line are few
few_by : (p : Phase) (picture : PictureRows) → picture.width ≤ 512 → phase_units p picture ≤ 512
few_by B picture few = few
few_by V picture few = omega arith
few_by H picture few = omega arith
few_by S picture few = omega arith

few_in_line : (plan : FlightRows) (l : Line) → IsFlight plan → full_count plan l ≤ 512
few_in_line plan l flight =
    elim (cases_lt l.picture (length plan.pictures)) [
      | inl inside ↦ few_by l.phase (picture_at plan l.picture) (flight.sizes l.picture no_picture inside).width
      | inr past ↦
          let e : picture_at plan l.picture ≡ no_picture = get_or_past plan.pictures l.picture no_picture past in
          few_by l.phase (picture_at plan l.picture)
          (subst (λ (p : PictureRows). p.width ≤ 512) (sym e) (omega arith))
    ]

-- and so are those of all pictures
few_units : (xs : List PictureRows) → All IsInRange xs → units_of xs ≤ 263680 * length xs
few_units [] each = omega arith
few_units (x ∷ xs) each =
    let first : IsInRange x = each 0 no_picture (omega arith) in
    let rest = few_units xs (λ k d less. each (suc k) d (omega arith)) in
    let square : x.rows * x.width ≤ 512 * 512 = mul-le-mul first.rows first.width in
    let tall = first.rows in
    let one : picture_units x ≤ 263680 = omega (arith, square, tall) in
    let whole : units_of (x ∷ xs) ≡ picture_units x + units_of xs = sum_by-cons picture_units x xs in
    omega (arith, rest, one, whole)

some_words : (s : FlightSizes) → 8 * lines s + 16 ≤ words s
unfolding words first_unit_word
some_words s = omega arith

data_word : (s : FlightSizes) (w : ℕ) → 8 * lines s + 16 ≤ w → first_unit_word s ≤ w
unfolding first_unit_word
data_word s w h = omega arith

small_words : (s : FlightSizes) → words s < 2 ^ 50 → words s < 2305843009213693952
small_words s h = omega arith

-- the unit of a data word
pub record HasUnit (s : FlightSizes) (w : ℕ) : Type 0 where
  pub unit : UnitWord
  pub is : IsUnitWord s unit
  pub owner_is : owner s w ≡ Unit unit
  pub word_is : word_of s unit ≡ w

spot_parts : (a b : UnitWord) → a.line ≡ b.line → a.unit ≡ b.unit → a.index ≡ b.index → a ≡ b
spot_parts a b line unit index =
    λ i. record { line = line i; unit = unit i; index = index i }

module _ (plan : FlightRows) (s : FlightSizes) (sized : IsSized plan s) where
  pub has_unit : (w : ℕ) → first_unit_word s ≤ w → w < words s → HasUnit s w
  has_unit w behind less =
      let is = unit_owned s w sized.sizes behind less in
      let u : UnitWord = unit_word_at s (w - first_unit_word s) in
      record {
        unit = u;
        is = is.is;
        owner_is = ap (owner s) (sym is.word_is) ∙ unit_word_found s u sized.sizes is.is;
        word_is = is.word_is;
      }

  -- the place of a word in the numbers of its line and unit
  pub spot_is : (w : ℕ) (has : HasUnit s w) → spot_by s (owner s w) ≡ spot_of s has.unit
  spot_is w has = ap (spot_by s) has.owner_is

  pub unit_is_of_line : (u : UnitWord) → IsUnitWord s u → (IsLine plan u.line) × (u.unit < full_count plan u.line)
  unit_is_of_line u is =
      let line = flight_line plan s sized u.line is.line in
      let count = units_are plan s sized u.line line in
      let unit = is.unit in
      (line, omega (arith, count, unit))

  -- units of one spot are one
  same_unit : (u v : UnitWord) → IsUnitWord s u → IsUnitWord s v → spot_of s u ≡ spot_of s v → u ≡ v
  same_unit u v is_u is_v same =
      let number : line_number s u.line ≡ line_number s v.line = ap (λ (o : Spot). o.line) same in
      let line =
      same_number plan s sized u.line v.line (unit_is_of_line u is_u).0 (unit_is_of_line v is_v).0 number in
      spot_parts u v line (ap (λ (o : Spot). o.unit) same) (ap (λ (o : Spot). o.index) same)

  same_word : (w x : ℕ) (has_w : HasUnit s w) (has_x : HasUnit s x)
      → spot_by s (owner s w) ≡ spot_by s (owner s x) → w ≡ x
  same_word w x has_w has_x same =
      let spots : spot_of s has_w.unit ≡ spot_of s has_x.unit =
      sym (spot_is w has_w) ∙ (same ∙ spot_is x has_x) in
      let units = same_unit has_w.unit has_x.unit has_w.is has_x.is spots in
      sym has_w.word_is ∙ (ap (word_of s) units ∙ has_x.word_is)

  -- a unit with its line by number
  of_unit : (u : UnitWord) → IsUnitWord s u → (line_number s u.line < lines s)
      × (u.unit < full_count plan (line_at s (line_number s u.line)))
      × (u.index < unit_words s (line_at s (line_number s u.line)) u.unit)
  of_unit u is =
      let line = unit_is_of_line u is in
      let again = number_line plan s sized u.line line.0 in
      let P : Line → Type 0 = λ l. (u.unit < full_count plan l) × (u.index < unit_words s l u.unit) in
      let rest : P (line_at s (line_number s u.line)) = subst P (sym again) (line.1, is.index) in
      (number_less plan s sized u.line line.0, rest.0, rest.1)

  at_spot : (w : ℕ) → HasUnit s w → ((spot_by s (owner s w)).line < lines s)
      × ((spot_by s (owner s w)).unit < full_count plan (line_at s (spot_by s (owner s w)).line))
      × ((spot_by s (owner s w)).index
      < unit_words s (line_at s (spot_by s (owner s w)).line) (spot_by s (owner s w)).unit)
  at_spot w has =
      let P : Spot → Type 0 = λ o. (o.line < lines s)
      × (o.unit < full_count plan (line_at s o.line)) × (o.index < unit_words s (line_at s o.line) o.unit) in
      subst P (sym (spot_is w has)) (of_unit has.unit has.is)

  pub few_numbers : (l : Line) (x : ℕ) → IsLine plan l → x < full_count plan l → unit_of plan l x < 576460752303423487
  few_numbers l x line inside =
      let low = unit_inside plan l x line inside in
      let few = few_units plan.pictures sized.flight.sizes in
      let pictures = sized.flight.few in
      omega (arith, low, few, pictures)

ordered_units : (plan : FlightRows) (l : Line) (j k : ℕ) → j ≤ k → unit_of plan l j ≤ unit_of plan l k
ordered_units plan l j k le = omega arith

small_by : (n : ℕ) → n ≤ 512 → n < 2305843009213693952
small_by n le = omega arith

pub laid : (f : BoardFlight) → IsSized f.plan f.sizes → IsLaid (meaning_of f)
unfolding meaning_of
laid f sized =
    let plan : FlightRows = f.plan in
    let s : FlightSizes = f.sizes in
    record {
      room = some_words s;
      small = small_words s (few_words s sized.sizes);
      narrow = λ n. small_by _ (few_in_line plan (line_at s n) sized.flight);
      ticketed = λ n less. (ticket_less plan s sized n less, line_by_ticket plan s sized n less);
      drawn = λ t less. let is = ticket_is_found plan s sized t less in (is.inside, is.is);
      few = λ n x less inside. few_numbers plan s sized (line_at s n) x (line_is plan s sized n less) inside;
      ordered = λ n j k less le inside. ordered_units plan (line_at s n) j k le;
      inside = λ w is. at_spot plan s sized w (has_unit plan s sized w (data_word s w is.0) is.1);
      once = λ w x is_w is_x same.
          same_word plan s sized w x (has_unit plan s sized w (data_word s w is_w.0) is_w.1)
          (has_unit plan s sized x (data_word s x is_x.0) is_x.1) same;
    }
