-- What the words of lines of samples are expected to have, by the samples of the flight.
use Rattle.std.proofs.Common.{◌≡◌, ℕ, ◌+◌, ◌*◌, ◌/◌, ◌%◌, ◌^◌, ◌<◌, arith, ap, sym, subst, ◌∙◌, pow_pos}
use Rattle.std.proofs.Common.{Option, Some, List, length, slice_get, slice_index}
use Rattle.std.proofs.lemmas.Nat.{mod_below}
use Rattle.plan_types.specs.declared.picture_plan.PicturePlan.{PicturePlan}
use Rattle.unit_words.specs.SpecPictureBuild.{Samples as PictureSamples}
use Rattle.sample_words.specs.declared.sizes.FlightSizes.{FlightSizes}
use Rattle.sample_words.specs.declared.unit_content.UnitContent.TheVariants.{Samples}
use Rattle.sample_words.specs.Contents.{content_value, expected_word, there}
use Rattle.sample_words.specs.Packing.{lane}
use Rattle.sample_words.specs.Sizes.{line_words, samples_a_word}
use Rattle.sample_words.specs.Values.{sample_bits, samples_word}
use Rattle.sample_words.proofs.Contents.{content_found}
use Rattle.sample_words.proofs.Fields.{lane_found}
use Rattle.unit_words.proofs.Again.{some_a_word}
use Rattle.unit_words.proofs.Parts.{same_lanes, there_below, there_is, value_there}
use Rattle.flight_facts.specs.SpecFlights.{folded_at}
use Rattle.flight_facts.specs.SpecFlights.{expected, values_in}
use Rattle.flight_facts.proofs.FlightValueLaws.{values_fit}
use Rattle.line_words.specs.Places.{IsUnit, UnitAt, word_at}
use Rattle.flight_facts.specs.declared.flight_facts.FlightFacts.{FlightFacts}
use Rattle.flight_facts.specs.Facts.{flight_in}
use Rattle.flight_facts.specs.Flights.{IsOfFlight, samples_at, samples_of}
use Rattle.flight_facts.proofs.Laid.{each_there, picture_sizes, word_is}
use Rattle.sample_lines.specs.Lines.{height_at, left_at, luma_height, luma_width, sample_index, sample_of, top_at}
use Rattle.sample_lines.specs.Lines.{width_at}
use Rattle.sample_lines.proofs.Indexes.{index_more}
use Rattle.sample_lines.proofs.LineWords.{sample_of_word, word_of_line}

-- the word of a sample of a line is one of the line's
word_among : (s : FlightSizes) (width word i : ℕ) → samples_a_word s * word + i < width
    → word + i / samples_a_word s < line_words s width
unfolding line_words
word_among s width word i inside = word_of_line s.deep width word i inside

-- a unit of a flight
module _ (facts : FlightFacts) (at : UnitAt) (is : IsOfFlight facts at.sizes) (unit : IsUnit at) where
  there_is_plan : (p : PicturePlan) × (slice_get (flight_in facts).pictures at.line.picture ≡ Some p)
  there_is_plan = each_there facts at.sizes at.line.picture is unit.line.picture

  -- the samples of its picture are those of the picture's values
  samples_are : samples_at (flight_in facts) at.line.picture at.line.phase
      ≡ (values_in there_is_plan.0 (folded_at (flight_in facts) at.line.picture)).samples at.line.phase
  unfolding samples_at values_in
  samples_are =
      ap (λ (o : Option PicturePlan). samples_of o (folded_at (flight_in facts) at.line.picture) at.line.phase)
      there_is_plan.1

  -- they fit words
  pub sample_fits : (c x y : ℕ) → sample_of (flight_in facts) at c x y < 2 ^ sample_bits at.sizes
  unfolding sample_of
  sample_fits c x y =
      let p : PicturePlan = there_is_plan.0 in
      let has = there_is_plan.1 in
      let fit = values_fit (flight_in facts) is.range at.line.picture p has in
      let sizes = picture_sizes facts at.sizes at.line.picture p is has in
      let values : PictureSamples =
      (values_in p (folded_at (flight_in facts) at.line.picture)).samples at.line.phase in
      let small : values c (left_at at c + x) (top_at at c + y) < 2 ^ sample_bits at.sizes =
      subst (λ (s : FlightSizes). values c (left_at at c + x) (top_at at c + y) < 2 ^ sample_bits s) (sym sizes)
      (fit.samples at.line.phase c (left_at at c + x) (top_at at c + y)) in
      subst
      (λ (g : PictureSamples). g c (left_at at c + x) (top_at at c + y) < 2 ^ sample_bits at.sizes)
      (sym samples_are) small

  -- what a word of a line has
  pub word_value : (c line word : ℕ) → c < 3 → line < height_at at c → word < line_words at.sizes (width_at at c)
      → expected (flight_in facts) (word_at at (sample_index at c line word))
      ≡ samples_word at.sizes (λ j. there (width_at at c) (λ x. sample_of (flight_in facts) at c x line)
      (samples_a_word at.sizes * word + j))
  unfolding expected_word sample_index sample_of
  word_value c line word few below inside =
      let s : FlightSizes = at.sizes in
      let p : PicturePlan = there_is_plan.0 in
      let has = there_is_plan.1 in
      word_is facts s p (word_at at (sample_index at c line word)) is has
      ∙ (ap (content_value s (values_in p (folded_at (flight_in facts) at.line.picture)) at.line at.unit)
      (content_found s (luma_width at) (luma_height at) at.unit (Samples c line word) (few, below, inside))
      ∙ ap (λ (g : PictureSamples). samples_word s (λ j. there (width_at at c)
      (λ x. g c (left_at at c + x) (top_at at c + line)) (samples_a_word s * word + j))) (sym samples_are))

  -- a sample of a line out of its word, by the words from one of the line on
  sample_in_word : (c line word first i : ℕ) → c < 3 → line < height_at at c
      → samples_a_word at.sizes * word + i < width_at at c → first ≡ sample_index at c line word
      → lane (sample_bits at.sizes)
      (expected (flight_in facts) (word_at at (first + i / samples_a_word at.sizes))) (i % samples_a_word at.sizes)
      ≡ sample_of (flight_in facts) at c (samples_a_word at.sizes * word + i) line
  sample_in_word c line word first i few below inside is_first =
      let s : FlightSizes = at.sizes in
      let n : ℕ = samples_a_word s in
      let bits : ℕ = sample_bits s in
      let width : ℕ = width_at at c in
      let k : ℕ = word + i / n in
      let g : ℕ → ℕ = λ x. sample_of (flight_in facts) at c x line in
      let h : ℕ → ℕ = λ j. there width g (n * k + j) in
      let index : first + i / n ≡ sample_index at c line k =
      ap (λ (m : ℕ). m + i / n) is_first ∙ index_more at c line word (i / n) in
      let among : k < line_words s width = word_among at.sizes width word i inside in
      let some : 0 < n = some_a_word s.deep in
      let value : expected (flight_in facts) (word_at at (first + i / n)) ≡ samples_word s h =
      ap (λ (m : ℕ). expected (flight_in facts) (word_at at m)) index ∙ word_value c line k few below among in
      let small : (j : ℕ) → h j < 2 ^ bits = λ j. there_below width (2 ^ bits) g (pow_pos bits)
      (λ x _. sample_fits c x line) (n * k + j) in
      ap (λ (w : ℕ). lane bits w (i % n)) value
      ∙ (lane_found bits n h (i % n) small (mod_below i n some)
      ∙ (ap (there width g) (sample_of_word s.deep word i) ∙ there_is width g (n * word + i) inside))

-- the same over the sizes of a layout
pub sample_read : (facts : FlightFacts) (at : UnitAt) (s : FlightSizes) → at.sizes ≡ s → IsOfFlight facts s → IsUnit at
    → (c line word first i : ℕ) → c < 3 → line < height_at at c → samples_a_word s * word + i < width_at at c
    → first ≡ sample_index at c line word
    → lane (sample_bits s) (expected (flight_in facts) (word_at at (first + i / samples_a_word s)))
    (i % samples_a_word s)
    ≡ sample_of (flight_in facts) at c (samples_a_word s * word + i) line
sample_read facts at s place is unit c line word first i few below inside is_first =
    subst
    (λ (t : FlightSizes). IsOfFlight facts t → samples_a_word t * word + i < width_at at c
    → lane (sample_bits t) (expected (flight_in facts) (word_at at (first + i / samples_a_word t)))
    (i % samples_a_word t)
    ≡ sample_of (flight_in facts) at c (samples_a_word t * word + i) line)
    place
    (λ own less. sample_in_word facts at own unit c line word first i few below less is_first)
    is inside

-- samples of a line that fit words, and whose words are expected
module _ (facts : FlightFacts) (at : UnitAt) (s : FlightSizes) (place : at.sizes ≡ s) (is : IsOfFlight facts s)
    (unit : IsUnit at) (c line : ℕ) (few : c < 3) (below : line < height_at at c) (xs : List ℕ)
    (count : length xs ≡ width_at at c)
    (are : (x : ℕ) → x < width_at at c → slice_index xs x ≡ sample_of (flight_in facts) at c x line) where
  own : IsOfFlight facts at.sizes
  own = subst (λ (t : FlightSizes). IsOfFlight facts t) (sym place) is

  there_are : (i : ℕ) → slice_index xs i ≡ there (width_at at c) (λ x. sample_of (flight_in facts) at c x line) i
  there_are = value_there xs (width_at at c) (λ x. sample_of (flight_in facts) at c x line) count are

  pub line_fits : (i : ℕ) → slice_index xs i < 2 ^ sample_bits s
  line_fits i =
      let bits : ℕ = sample_bits at.sizes in
      subst (λ (t : FlightSizes). slice_index xs i < 2 ^ sample_bits t) place
      (subst (λ (n : ℕ). n < 2 ^ bits) (sym (there_are i))
      (there_below (width_at at c) (2 ^ bits) (λ x. sample_of (flight_in facts) at c x line) (pow_pos bits)
      (λ x _. sample_fits facts at own unit c x line) i))

  pub line_value : (first : ℕ) → first ≡ sample_index at c line 0 → (k : ℕ) → k < line_words s (length xs)
      → samples_word s (λ j. slice_index xs (samples_a_word s * k + j))
      ≡ expected (flight_in facts) (word_at at (first + k))
  line_value first is_first k less =
      let n : ℕ = samples_a_word at.sizes in
      let g : ℕ → ℕ = λ x. sample_of (flight_in facts) at c x line in
      let inside : k < line_words at.sizes (width_at at c) =
      subst (λ (t : FlightSizes). k < line_words t (width_at at c)) (sym place)
      (subst (λ (n : ℕ). k < line_words s n) count less) in
      let zero_and : 0 + k ≡ k = omega arith in
      let index : first + k ≡ sample_index at c line k =
      ap (λ (n : ℕ). n + k) is_first ∙ (index_more at c line 0 k ∙ ap (sample_index at c line) zero_and) in
      subst
      (λ (t : FlightSizes). samples_word t (λ j. slice_index xs (samples_a_word t * k + j))
      ≡ expected (flight_in facts) (word_at at (first + k)))
      place
      (same_lanes (sample_bits at.sizes) n (λ j. slice_index xs (n * k + j)) (λ j. there (width_at at c) g (n * k + j))
      (λ j. there_are (n * k + j))
      ∙ (sym (word_value facts at own unit c line k few below inside)
      ∙ ap (λ (n : ℕ). expected (flight_in facts) (word_at at n)) (sym index)))
