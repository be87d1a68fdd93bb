-- The words that a unit is packed into are those that its flight expects at its place.
use Rattle.std.proofs.Common.{◌≡◌, ◌≢◌, ℕ, ◌+◌, ◌*◌, ◌/◌, ◌^◌, ◌<◌, ◌≤◌, List, length, slice_index, arith, refl}
use Rattle.std.proofs.Common.{ap, sym, ◌∙◌, subst}
use Rattle.std.proofs.lemmas.Bool.{eq-eqb, ne_eqb}
use Rattle.hv_base.specs.declared.line.Phase.{Phase}
use Rattle.hv_base.specs.declared.line.Phase.TheVariants.{B}
use Rattle.sample_words.specs.declared.sizes.FlightSizes.{FlightSizes}
use Rattle.sample_words.specs.declared.unit_content.UnitContent.{UnitContent}
use Rattle.sample_words.specs.declared.unit_content.UnitContent.TheVariants.{Samples, Vectors, Modes, Offsets}
use Rattle.sample_words.specs.declared.unit_content.UnitContent.TheVariants.{Contexts, Carried}
use Rattle.sample_words.specs.Contents.{IsContent, component_side, components_before, index_of}
use Rattle.sample_words.specs.Sizes.{IsFlight, carry_words, columns, common_words, context_words, height_of}
use Rattle.sample_words.specs.Sizes.{line_words}
use Rattle.sample_words.specs.Sizes.{places, sample_words, tree_words}
use Rattle.sample_words.specs.Words.{phase_words, unit_word}
use Rattle.sample_words.proofs.Bounds.{few_tree_words, small_height}
use Rattle.flight_packing_laws.specs.UnitWords.{DoneUnit}
use Rattle.flight_packing_laws.specs.UnitWords.{HasContent, HasWord, IsPackable, height, width}
use Rattle.flight_packing_laws.proofs.UnitWordsLemmas.{words_stand}
use Rattle.flight_packing_laws.specs.SpecFlights.{expected}
use Rattle.flight_packing_laws.proofs.Packed.{packable, word_is}
use Rattle.line_words.specs.Places.{UnitAt, word_at, words_at}
use Rattle.flight_waits.specs.FactsOfFlights.{FlightFacts}
use Rattle.flight_waits.specs.FactsOfFlights.{flight_in}
use Rattle.flight_waits.specs.FactsOfFlights.{IsOfFlight}
use Rattle.flight_waits.proofs.FactsOfFlights.{board_sizes, picture_sizes}
use Rattle.done_units.specs.Done.{HaveWords, IsDoneAt, size_of}
use Rattle.done_units.proofs.Indices.{carried_index, contexts_index, modes_index, offsets_index, samples_index}
use Rattle.done_units.proofs.Indices.{vectors_index}

-- how many words the second unit of a row has of contexts, and its last one of what it carries on
pub contexts_are : (column : ℕ) → column ≡ 1 → context_words column ≡ 20
contexts_are column second = let t = eq-eqb column 1 second in rw t refl

pub carry_is : (s : FlightSizes) (column : ℕ) → column + 1 ≡ columns s → carry_words s column ≡ 24
carry_is s column last = let t = eq-eqb (column + 1) (columns s) last in rw t refl

pub no_contexts : (column : ℕ) → column ≢ 1 → context_words column ≡ 0
no_contexts column other = let t = ne_eqb column 1 other in rw t refl

pub no_carry : (s : FlightSizes) (column : ℕ) → column + 1 ≢ columns s → carry_words s column ≡ 0
no_carry s column other = let t = ne_eqb (column + 1) (columns s) other in rw t refl

-- a word with a content of a unit is the one at the index of that content
pub stands : (d : DoneUnit) (content : UnitContent) (index word : ℕ)
    → IsContent d.layout.now (width d) (height d) d.column content
    → index_of d.layout.now (width d) (height d) d.column content ≡ index → HasContent d content word
    → HasWord d index word
stands d content index word is at has =
    subst (λ (i : ℕ). HasWord d i word) at (words_stand d content word is has)

module _ (d : DoneUnit) (first : ℕ) (words : List ℕ) where
  abbrev pub samples : ℕ
  samples = sample_words d.layout.now (width d) (height d)

  abbrev pub commons : ℕ
  commons = common_words d.layout.now (width d) (height d)

  -- the words of a line of samples
  pub samples_have : (c line : ℕ) → c < 3 → line < component_side c (height d)
      → length words ≡ line_words d.layout.now (component_side c (width d))
      → first ≡ components_before d.layout.now (width d) (height d) c + line * length words
      → ((k : ℕ) → k < length words → HasContent d (Samples c line k) (slice_index words k)) → HaveWords d first words
  samples_have c line few less many at has k inside =
      stands d (Samples c line k) (first + k) (slice_index words k) (few, less, subst (λ (n : ℕ). k < n) many inside)
      (samples_index d.layout.now (width d) (height d) d.column c line k (length words) first many at) (has k inside)

  -- those of a row of places
  pub vectors_have : (y : ℕ) → y < height d / 4 → length words ≡ width d / 4 → first ≡ samples + y * length words
      → ((k : ℕ) → k < length words → HasContent d (Vectors k y) (slice_index words k)) → HaveWords d first words
  vectors_have y less many at has k inside =
      stands d (Vectors k y) (first + k) (slice_index words k) (subst (λ (n : ℕ). k < n) many inside, less)
      (vectors_index d.layout.now (width d) (height d) d.column k y (length words) first many at) (has k inside)

  pub modes_have : (y : ℕ) → y < height d / 4 → length words ≡ width d / 4
      → first ≡ samples + places (width d) (height d) + y * length words
      → ((k : ℕ) → k < length words → HasContent d (Modes k y) (slice_index words k)) → HaveWords d first words
  modes_have y less many at has k inside =
      stands d (Modes k y) (first + k) (slice_index words k) (subst (λ (n : ℕ). k < n) many inside, less)
      (modes_index d.layout.now (width d) (height d) d.column k y (length words) first many at) (has k inside)

  -- and those behind them
  pub offsets_have : length words ≡ 2 → first ≡ samples + 2 * places (width d) (height d)
      → ((k : ℕ) → k < 2 → HasContent d (Offsets k) (slice_index words k)) → HaveWords d first words
  offsets_have many at has k inside =
      let less : k < 2 = subst (λ (n : ℕ). k < n) many inside in
      stands d (Offsets k) (first + k) (slice_index words k) less
      (offsets_index d.layout.now (width d) (height d) d.column k first at) (has k less)

  pub contexts_have : length words ≡ 20 → d.column ≡ 1 → first ≡ commons
      → ((k : ℕ) → k < 20 → HasContent d (Contexts k) (slice_index words k)) → HaveWords d first words
  contexts_have many second at has k inside =
      let less : k < 20 = subst (λ (n : ℕ). k < n) many inside in
      let e : context_words d.column ≡ 20 = contexts_are d.column second in
      stands d (Contexts k) (first + k) (slice_index words k) (subst (λ (n : ℕ). k < n) (sym e) less)
      (contexts_index d.layout.now (width d) (height d) d.column k first at) (has k less)

  pub carried_have : length words ≡ 24 → d.column + 1 ≡ columns d.layout.now → first ≡ commons + context_words d.column
      → ((k : ℕ) → k < 24 → HasContent d (Carried k) (slice_index words k)) → HaveWords d first words
  carried_have many last at has k inside =
      let less : k < 24 = subst (λ (n : ℕ). k < n) many inside in
      let e : carry_words d.layout.now d.column ≡ 24 = carry_is d.layout.now d.column last in
      stands d (Carried k) (first + k) (slice_index words k) (subst (λ (n : ℕ). k < n) (sym e) less)
      (carried_index d.layout.now (width d) (height d) d.column k first at) (has k less)

module _ (facts : FlightFacts) (u : UnitAt) (d : DoneUnit) (flight : IsOfFlight facts u.sizes)
    (is : IsDoneAt (flight_in facts) u d) where
  -- its layout is that of its place
  layout_is : d.layout.now ≡ u.sizes
  layout_is = is.done.layout ∙ sym (picture_sizes facts u.sizes u.line.picture is.plan flight is.done.picture)

  pub size_is : words_at u ≡ size_of d
  size_is =
      ap (λ (p : Phase). phase_words u.sizes p (height_of u.sizes u.line.row) u.unit) is.phase
      ∙ (ap (λ (r : ℕ). tree_words u.sizes (height_of u.sizes r) u.unit) (sym is.row)
      ∙ (ap (λ (c : ℕ). tree_words u.sizes (height_of u.sizes d.row) c) (sym is.column)
      ∙ ap (λ (s : FlightSizes). tree_words s (height_of s d.row) d.column) (sym layout_is)))

  word_place : (i : ℕ) → unit_word B u.line.picture d.row d.column i ≡ word_at u i
  word_place i =
      ap (λ (p : Phase). unit_word p u.line.picture d.row d.column i) (sym is.phase)
      ∙ (ap (λ (r : ℕ). unit_word u.line.phase u.line.picture r d.column i) is.row
      ∙ ap (λ (c : ℕ). unit_word u.line.phase u.line.picture u.line.row c i) is.column)

  pub expected_there : (i word : ℕ) → HasWord d i word → word ≡ expected (flight_in facts) (word_at u i)
  expected_there i word has =
      word_is (flight_in facts) flight.range u.line.picture is.plan is.known d is.done i word has
      ∙ ap (expected (flight_in facts)) (word_place i)

  pub may_pack : IsPackable d
  may_pack = packable (flight_in facts) flight.range u.line.picture is.plan is.known d is.done

  sizes_are : IsFlight d.layout.now
  sizes_are =
      let has = board_sizes facts u.sizes flight in
      subst (λ (s : FlightSizes). IsFlight s) (has.0 ∙ sym layout_is) has.1.sizes

  -- it has few words
  pub few : size_of d ≤ 6702
  few = few_tree_words d.layout.now d.column (height d) sizes_are (small_height d.layout.now d.row sizes_are)

  pub index_fits : (n : ℕ) → n ≤ size_of d → n < 2 ^ 64
  index_fits n inside = omega (arith, few, inside)
