-- The words of a unit as a board has them, and what reading and writing them asks and leaves.
use Rattle.std.proofs.Common.{◌≡◌, ℕ, ◌+◌, ◌<◌, ◌≤◌, ◌^◌, inl, inr, sym, ap, ◌∙◌, subst, arith}
use Rattle.std.proofs.Common.{List, length, get_or, set}
use Rattle.std.proofs.lemmas.Bool.{cases_eq}
use Rattle.std.proofs.lemmas.List.{get_or-set_other, get_or-set_same}
use Rattle.hv_base.specs.declared.line.Line.{Line}
use Rattle.board_core.specs.Places.{IsLine}
use Rattle.sample_words.specs.declared.sizes.FlightSizes.{FlightSizes}
use Rattle.sample_words.specs.declared.unit_word.UnitWord.{UnitWord}
use Rattle.sample_words.specs.Sizes.{IsFlight as AreSizes}
use Rattle.sample_words.specs.Words.{IsLine as IsWordLine, IsUnitWord, line_number, unit_words, word_of}
use Rattle.sample_words.proofs.Bounds.{few_words}
use Rattle.sample_words.proofs.Owners.{unit_word_found}
use Rattle.sample_words.proofs.PictureWords.{unit_behind, unit_below}
use Rattle.progress_words.specs.declared.pass.Pass.{Pass}
use Rattle.progress_words.specs.declared.view.View.{View}
use Rattle.progress_words.specs.Meanings.{IsData, Meaning, Spot}
use Rattle.progress_words.specs.Passes.{IsPassOf, IsSeen, Knows, view}
use Rattle.progress_words.specs.Places.{Place}
use Rattle.progress_words.specs.Rule.{IsNext, IsNextWord}
use Rattle.progress_words.specs.Views.{seen_of, writing}
use Rattle.flight_lines.specs.Flights.{BoardFlight, IsSized, meaning_of}
use Rattle.flight_lines.specs.Numbers.{expected_by, spot_of}
use Rattle.flight_lines.proofs.Numbered.{flight_line, number_line}
use Rattle.flight_lines.proofs.Placed.{data_place, unit_place}
use Rattle.line_words.specs.Passes.{writing_run}
use Rattle.line_words.specs.Places.{HasSizes, IsUnit, UnitAt, number_at, start_at, word_at, words_at}

-- one more word of a run is laid
pub one_laid : (xs : List ℕ) (k x : ℕ) (value : ℕ → ℕ) → k < length xs
    → ((j : ℕ) → j < k → get_or xs j 0 ≡ value j) → x ≡ value k
    → (j : ℕ) → j < k + 1 → get_or (set xs k x) j 0 ≡ value j
one_laid xs k x value inside laid is j less =
    elim (cases_eq j k) [
      | inl same ↦
          subst (λ (m : ℕ). get_or (set xs k x) m 0 ≡ value m) (sym same) (get_or-set_same xs k x 0 inside ∙ is)
      | inr other ↦ get_or-set_other xs k j x 0 other ∙ laid j (omega (arith, less, other))
    ]

-- a word of a unit has few words before it
few_before : (s : FlightSizes) (u : UnitWord) → AreSizes s → IsUnitWord s u → word_of s u < 2 ^ 50
few_before s u sizes is =
    let below = unit_below s u is in
    let few = few_words s sizes in
    omega (arith, below, few)

is_unit_word : (u : UnitAt) (k : ℕ) → IsUnit u → k < words_at u → IsUnitWord u.sizes (word_at u k)
is_unit_word u k is inside = record { line = is.line; unit = is.unit; index = inside }

-- the index of a word of a unit is a number of 64 bits, and so is its place
module _ (f : BoardFlight) (u : UnitAt) (has : HasSizes f u.sizes) (is : IsUnit u) (first count k : ℕ)
    (few : first + count ≤ words_at u) (test : k < count) where
  fits : start_at u + (first + k) < 2 ^ 50
  fits =
      let inside : first + k < words_at u = omega (arith, few, test) in
      let sizes : AreSizes u.sizes = subst (λ (s : FlightSizes). AreSizes s) has.0 has.1.sizes in
      few_before u.sizes (word_at u (first + k)) sizes (is_unit_word u (first + k) is inside)

  pub index_fits : first + k < 2 ^ 64
  index_fits = omega (arith, fits)

  pub place_fits : (start : ℕ) → start ≡ start_at u → start + (first + k) < 2 ^ 64
  place_fits start at = omega (arith, fits, at)

module _ (f : BoardFlight) (sized : IsSized f.plan f.sizes) (u : UnitWord) (is : IsUnitWord f.sizes u) where
  is_data : IsData (meaning_of f) (word_of f.sizes u)
  unfolding meaning_of
  is_data = (
    subst (λ (n : ℕ). n ≤ word_of f.sizes u) (data_place f) (unit_behind f.sizes u),
    unit_below f.sizes u is,
  )

  owned : (meaning_of f).owner (word_of f.sizes u) ≡ spot_of f.sizes u
  owned = unit_place f u sized is

  expected_is : (meaning_of f).expected (word_of f.sizes u) ≡ f.expected u
  unfolding meaning_of
  expected_is = ap (expected_by f.expected) (unit_word_found f.sizes u sized.sizes is)

  module _ {F : Type 0} (v : View F) where
    seen_word : u.unit < seen_of v (line_number f.sizes u.line) → IsSeen (meaning_of f) v (word_of f.sizes u)
    seen_word seen = (is_data, subst (λ (o : Spot). o.unit < seen_of v o.line) (sym owned) seen)

    next_word : IsNext (meaning_of f) v (line_number f.sizes u.line)
        → seen_of v (line_number f.sizes u.line) ≡ u.unit → v.written ≡ u.index
        → IsNextWord (meaning_of f) v (word_of f.sizes u)
    next_word next unit index =
        let o = sym owned in
        record {
          word = is_data;
          next = subst (λ (x : Spot). IsNext (meaning_of f) v x.line) o next;
          unit = subst (λ (x : Spot). x.unit ≡ seen_of v x.line) o (sym unit);
          index = subst (λ (x : Spot). x.index ≡ v.written) o (sym index);
        }

-- a flight with the meaning that a board has for it, a unit of it with its first word, and one of its words
module _ (m : Meaning) (f : BoardFlight) (meant : m ≡ meaning_of f) (u : UnitAt) (has : HasSizes f u.sizes)
    (is : IsUnit u) (start : ℕ) (at : start ≡ start_at u) (k : ℕ) (inside : k < words_at u) where
  unit_word_is : IsUnitWord f.sizes (word_at u k)
  unit_word_is =
      subst (λ (s : FlightSizes). IsUnitWord s (word_at u k)) (sym has.0) (is_unit_word u k is inside)

  place_is : word_of f.sizes (word_at u k) ≡ start + k
  place_is = ap (λ (s : FlightSizes). word_of s (word_at u k)) has.0 ∙ ap (λ (n : ℕ). n + k) (sym at)

  number_is : line_number f.sizes u.line ≡ number_at u
  number_is = ap (λ (s : FlightSizes). line_number s u.line) has.0

  -- what the word is to hold
  pub expected_at : m.expected (start + k) ≡ f.expected (word_at u k)
  expected_at =
      ap (λ (n : Meaning). n.expected (start + k)) meant
      ∙ (ap (meaning_of f).expected (sym place_is) ∙ expected_is f has.1 (word_at u k) unit_word_is)

  -- it is seen where the unit is counted
  pub seen_at : {F : Type 0} (v w : View F) → w ≡ v → u.unit < seen_of v (number_at u) → IsSeen m w (start + k)
  seen_at {F = F} v w same seen =
      let there : u.unit < seen_of v (line_number f.sizes u.line) =
      subst (λ (n : ℕ). u.unit < seen_of v n) (sym number_is) seen in
      let found = seen_word f has.1 (word_at u k) unit_word_is v there in
      subst (λ (x : View F). IsSeen m x (start + k)) (sym same)
      (subst (λ (n : Meaning). IsSeen n v (start + k)) (sym meant)
      (subst (λ (p : ℕ). IsSeen (meaning_of f) v p) place_is found))

  -- it is the next one where as many are written
  pub next_at : {F : Type 0} (v w : View F) → w ≡ v → IsNext m v (number_at u) → seen_of v (number_at u) ≡ u.unit
      → v.written ≡ k → IsNextWord m w (start + k)
  next_at {F = F} v w same next unit written =
      let here : IsNext (meaning_of f) v (line_number f.sizes u.line) =
      subst (λ (n : ℕ). IsNext (meaning_of f) v n) (sym number_is)
      (subst (λ (n : Meaning). IsNext n v (number_at u)) meant next) in
      let there : seen_of v (line_number f.sizes u.line) ≡ u.unit =
      subst (λ (n : ℕ). seen_of v n ≡ u.unit) (sym number_is) unit in
      let found = next_word f has.1 (word_at u k) unit_word_is v here there written in
      subst (λ (x : View F). IsNextWord m x (start + k)) (sym same)
      (subst (λ (n : Meaning). IsNextWord n v (start + k)) (sym meant)
      (subst (λ (p : ℕ). IsNextWord (meaning_of f) v p) place_is found))

-- how many words a unit has
size_at : (m : Meaning) (f : BoardFlight) → m ≡ meaning_of f → (u : UnitAt) → HasSizes f u.sizes → IsUnit u
    → m.size (number_at u) u.unit ≡ words_at u
unfolding meaning_of
size_at m f meant u has is =
    let same = sym has.0 in
    let word_line : IsWordLine f.sizes u.line = subst (λ (s : FlightSizes). IsWordLine s u.line) same is.line in
    let line : IsLine f.plan u.line = flight_line f.plan f.sizes has.1 u.line word_line in
    let again = number_line f.plan f.sizes has.1 u.line line in
    let number : line_number u.sizes u.line ≡ line_number f.sizes u.line =
    ap (λ (s : FlightSizes). line_number s u.line) same in
    let there : (meaning_of f).size (line_number f.sizes u.line) u.unit ≡ unit_words f.sizes u.line u.unit =
    ap (λ (l : Line). unit_words f.sizes l u.unit) again in
    ap (λ (n : Meaning). n.size (number_at u) u.unit) meant
    ∙ (ap (λ (n : ℕ). (meaning_of f).size n u.unit) number
    ∙ (there ∙ ap (λ (s : FlightSizes). unit_words s u.line u.unit) has.0))

-- all words of the next unit are written
pub all_written : {F : Type 0} (m : Meaning) (f : BoardFlight) → m ≡ meaning_of f → (u : UnitAt)
    → HasSizes f u.sizes → IsUnit u → (v : View F) (n : ℕ) → n ≡ number_at u → seen_of v (number_at u) ≡ u.unit
    → v.written ≡ words_at u → v.written ≡ m.size n (seen_of v n)
all_written m f meant u has is v n number unit written =
    let size = size_at m f meant u has is in
    subst (λ (l : ℕ). v.written ≡ m.size l (seen_of v l)) (sym number)
    (written ∙ (sym size ∙ ap (λ (x : ℕ). m.size (number_at u) x) (sym unit)))

module _ {F : Type 0} where
  -- the next unit stays the next one while its words are written
  pub next_still : (m : Meaning) (v : View F) (l n : ℕ) → IsNext m v l → IsNext m (writing_run v n) l
  next_still m v l n next =
      record { line = next.line; job = next.job; left = next.left; sound = next.sound; met = next.met }

  pub none_written : (v : View F) → v ≡ writing_run v 0
  none_written v = let e : v.written ≡ v.written + 0 = omega arith in λ i. record v { written = e i }

  pub one_written : (v : View F) (n : ℕ) → writing (writing_run v n) ≡ writing_run v (n + 1)
  one_written v n =
      let e : v.written + n + 1 ≡ v.written + (n + 1) = omega arith in λ i. record v { written = e i }

  -- a pass of a board stays one
  pub still_of : (b : Place F) (p q : Pass F) (v : View F) → IsPassOf b p → Knows p q v → v.facts ≡ (view p).facts
      → IsPassOf b q
  still_of b p q v own knows same =
      (knows.0 ∙ own.0, ap (λ (x : View F). x.facts) knows.1 ∙ (same ∙ own.1))

  -- it knows what it knew
  pub knows_as_much : (p q r : Pass F) → Knows p q (view p) → Knows q r (view q) → Knows p r (view p)
  knows_as_much p q r first second = (second.0 ∙ first.0, second.1 ∙ first.1)

  -- or that one more word is written
  pub knows_one_more : (p q r : Pass F) (n : ℕ) → Knows p q (writing_run (view p) n) → Knows q r (writing (view q))
      → Knows p r (writing_run (view p) (n + 1))
  knows_one_more p q r n first second =
      (second.0 ∙ first.0, second.1 ∙ (ap (λ (x : View F). writing x) first.1 ∙ one_written (view p) n))
