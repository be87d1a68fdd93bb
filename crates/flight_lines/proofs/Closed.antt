-- What the words of a closed board hold.
use Rattle.std.proofs.Common.{◌≡◌, refl, ℕ, ◌+◌, ◌*◌, ◌%◌, ◌<◌, ◌≤◌, inl, inr, arith, ap, sym, subst, ◌∙◌, List}
use Rattle.std.proofs.Common.{Some, None}
use Rattle.std.proofs.lemmas.Bool.{cases_eq, eq-eqb, ne_eqb}
use Rattle.std.proofs.lemmas.Option.{none-some, same_Some}
use Rattle.std.specs.Prelude.{slice_index}
use Rattle.hv_base.specs.declared.line.Line.{Line}
use Rattle.flight_plan.specs.Flight.{IsTreeUnit}
use Rattle.board_core.specs.Places.{full_count, IsLine, IsPlaceOf, unit_of}
use Rattle.board_core.specs.Runs.{IsLeastBad}
use Rattle.board_core.specs.States.{IsBad, IsBefore}
use Rattle.board_core.proofs.Units.{tree_place}
use Rattle.sample_words.specs.declared.sizes.FlightSizes.{FlightSizes}
use Rattle.sample_words.specs.declared.unit_word.UnitWord.{UnitWord}
use Rattle.sample_words.specs.declared.unit_word.WordOwner.{WordOwner}
use Rattle.sample_words.specs.declared.unit_word.WordOwner.TheVariants.{Unit}
use Rattle.sample_words.specs.Words.{IsUnitWord, first_unit_word, line_at, line_number, lines, owner, word_of}
use Rattle.sample_words.proofs.Owners.{unit_word_found}
use Rattle.sample_words.proofs.PictureWords.{unit_behind, unit_below}
use Rattle.progress_words.specs.Core.{count_in, fault_in}
use Rattle.progress_words.specs.Faults.{IsFirstFault, no_fault, packed, unit_in}
use Rattle.flight_lines.specs.Flights.{BoardFlight, IsOnBoard, bad_at, meaning_of}
use Rattle.flight_lines.specs.Held.{BreaksRule, HoldsFlight, IsClosed}
use Rattle.flight_lines.specs.Numbers.{expected_by, spot_by}
use Rattle.flight_lines.specs.Shown.{least_in}
use Rattle.flight_lines.proofs.Laid.{few_numbers, unit_is_of_line}
use Rattle.flight_lines.proofs.Meant.{bad_is_told, tell_at, told_at}
use Rattle.flight_lines.proofs.Numbered.{line_is, number_less, number_line}

-- a unit before the fault that a word tells has a lower number than that of the word
before_word : (word v : ℕ) → v < 576460752303423487 → IsBefore v (least_in word) → v < unit_in word
before_word word v few before =
    elim (cases_eq word no_fault) [
      | inl none ↦ omega (arith, none, few)
      | inr some ↦
          let no = ne_eqb word no_fault some in
          let here : IsBefore v (Some (unit_in word)) = rw no at before in
          here
    ]

none_in : (word : ℕ) → word ≡ no_fault → least_in word ≡ None
none_in word e = let yes = eq-eqb word no_fault e in rw yes refl

some_in : (word u r : ℕ) → word ≡ packed u r → u < 576460752303423487 → r < 32
    → (least_in word ≡ Some u) × (unit_in word ≡ u) × (word % 32 ≡ r)
some_in word u r e few small =
    let apart : word ≡ no_fault → ⊥ = λ h. absurd (omega arith) in
    let no = ne_eqb word no_fault apart in
    let unit : unit_in word ≡ u = omega arith in
    let rest : word % 32 ≡ r = omega arith in
    (rw no (ap (λ (k : ℕ). Some k) unit), unit, rest)

behind_all : (s : FlightSizes) (u : UnitWord) → 8 * lines s + 16 ≤ word_of s u
unfolding first_unit_word
behind_all s u = let behind = unit_behind s u in omega (arith, behind)

module _ (f : BoardFlight) (on : IsOnBoard f) where
  -- a bad unit is a coding tree unit, and told
  bad_told : (u : ℕ) → IsBad f.plan u
      → (l : Line) × (x : ℕ) × (r : ℕ) × (IsPlaceOf f.plan u l x) × (bad_at f (line_number f.sizes l) x ≡ Some r)
  bad_told u (k, inside, is) =
      let tree : IsTreeUnit f.plan.pictures u =
      subst (IsTreeUnit f.plan.pictures) is (on.sized.flight.bad k u inside) in
      let place = tree_place f.plan u tree in
      let at = place.2 in
      let bad : IsBad f.plan (unit_of f.plan place.0 place.1) = subst (IsBad f.plan) at.unit (k, inside, is) in
      let told = tell_at f on place.0 place.1 at.line at.inside bad in
      (place.0, place.1, told.0, at, told.2)

  abbrev number_at : Line → ℕ → ℕ
  number_at l x = unit_of f.plan (line_at f.sizes (line_number f.sizes l)) x

  number_at_is : (l : Line) (x : ℕ) → IsLine f.plan l → number_at l x ≡ unit_of f.plan l x
  number_at_is l x line = ap (λ (k : Line). unit_of f.plan k x) (number_line f.plan f.sizes on.sized l line)

  -- the first fault of the flight
  record TellsFirst (word : ℕ) : Type 0 where
    pub least : IsLeastBad f.plan (least_in word)
    pub rule : (u : ℕ) → least_in word ≡ Some u → BreaksRule f u (word % 32)

  told_none : (word : ℕ) → word ≡ no_fault → ((n x : ℕ) → bad_at f n x ≡ None) → TellsFirst word
  told_none word none good =
      let e = none_in word none in
      let all : IsLeastBad f.plan None = λ u bad.
      let told = bad_told u bad in
      absurd (none-some told.2 (sym (good (line_number f.sizes told.0) told.1) ∙ told.4)) in
      record {
        least = subst (IsLeastBad f.plan) (sym e) all;
        rule = λ u is. absurd (none-some u (sym e ∙ is));
      }

  told_some : (word n x r : ℕ) → bad_at f n x ≡ Some r → word ≡ packed (unit_of f.plan (line_at f.sizes n) x) r
      → ((m y q : ℕ) → bad_at f m y ≡ Some q → unit_in word ≤ unit_of f.plan (line_at f.sizes m) y)
      → TellsFirst word
  told_some word n x r bad word_is least =
      let at = told_at f n x r bad in
      let l : Line = line_at f.sizes n in
      let u : ℕ = unit_of f.plan l x in
      let line = line_is f.plan f.sizes on.sized n at.inside in
      let few = few_numbers f.plan f.sizes on.sized l x line at.unit in
      let small = on.tells.few l x r at.rule in
      let is = some_in word u r word_is few small in
      let place : IsPlaceOf f.plan u l x = record { line = line; inside = at.unit; unit = refl } in
      let lowest : (v : ℕ) → IsBad f.plan v → u ≤ v = λ v bad_v.
      let told = bad_told v bad_v in
      let low = least (line_number f.sizes told.0) told.1 told.2 told.4 in
      let same = number_at_is told.0 told.1 told.3.line in
      let unit = told.3.unit in
      let here = is.1 in
      omega (arith, low, same, unit, here) in
      let whole : IsLeastBad f.plan (Some u) = (bad_is_told f on n x r bad, lowest) in
      let breaks : BreaksRule f u r = record { line = l; x = x; place = place; rule = at.rule } in
      record {
        least = subst (IsLeastBad f.plan) (sym is.0) whole;
        rule = λ v e.
            let same : u ≡ v = same_Some u v (sym is.0 ∙ e) in
            let there : BreaksRule f v r = subst (λ (k : ℕ). BreaksRule f k r) same breaks in
            subst (BreaksRule f v) (sym is.2) there;
      }

  told : (word : ℕ) → IsFirstFault (meaning_of f) word → TellsFirst word
  unfolding meaning_of
  told word first =
      elim first [
        | inl (none, good) ↦ told_none word none good
        | inr (names, least) ↦ told_some word names.line names.unit names.rule names.bad names.word_is least
      ]

  counted_before : (given : List ℕ) → IsClosed (meaning_of f) given → (l : Line) (x : ℕ) → IsLine f.plan l
      → x < full_count f.plan l → IsBefore (unit_of f.plan l x) (least_in (fault_in (meaning_of f) given))
      → x < count_in given (line_number f.sizes l)
  unfolding meaning_of
  counted_before given closed l x line inside before =
      let again = number_line f.plan f.sizes on.sized l line in
      let few = few_numbers f.plan f.sizes on.sized l x line inside in
      let less = before_word (fault_in (meaning_of f) given) (unit_of f.plan l x) few before in
      let wide : x < full_count f.plan (line_at f.sizes (line_number f.sizes l)) =
      subst (λ (k : Line). x < full_count f.plan k) (sym again) inside in
      let low : number_at l x < unit_in (fault_in (meaning_of f) given) =
      subst (λ (k : ℕ). k < unit_in (fault_in (meaning_of f) given)) (sym (number_at_is l x line)) less in
      closed.counted (line_number f.sizes l) x (number_less f.plan f.sizes on.sized l line) wide low

  words_before : (given : List ℕ) → IsClosed (meaning_of f) given → (u : UnitWord) → IsUnitWord f.sizes u
      → IsBefore (unit_of f.plan u.line u.unit) (least_in (fault_in (meaning_of f) given))
      → slice_index given (word_of f.sizes u) ≡ f.expected u
  unfolding meaning_of
  words_before given closed u is before =
      let s : FlightSizes = f.sizes in
      let w : ℕ = word_of s u in
      let of_line = unit_is_of_line f.plan s on.sized u is in
      let few = few_numbers f.plan s on.sized u.line u.unit of_line.0 of_line.1 in
      let less = before_word (fault_in (meaning_of f) given) (unit_of f.plan u.line u.unit) few before in
      let owned : owner s w ≡ Unit u = unit_word_found s u on.sized.sizes is in
      let low : number_at u.line u.unit < unit_in (fault_in (meaning_of f) given) =
      subst (λ (k : ℕ). k < unit_in (fault_in (meaning_of f) given))
      (sym (number_at_is u.line u.unit of_line.0)) less in
      let P : WordOwner → Type 0 = λ o.
      unit_of f.plan (line_at s (spot_by s o).line) (spot_by s o).unit < unit_in (fault_in (meaning_of f) given) in
      closed.words_are w (behind_all s u, unit_below s u is) (subst P (sym owned) low)
      ∙ ap (expected_by f.expected) owned

  pub closed_holds : (given : List ℕ) → IsClosed (meaning_of f) given → HoldsFlight f given
  closed_holds given closed =
      let is = told (fault_in (meaning_of f) given) closed.fault in
      record {
        least = is.least;
        rule = is.rule;
        counted = counted_before given closed;
        words_are = words_before given closed;
      }
