-- The words of what goes on from row to row.
use Rattle.std.proofs.Common.{
  ◌≡◌,
  ℕ,
  ◌+◌,
  ◌-◌,
  ◌*◌,
  ◌<◌,
  ◌≤◌,
  List,
  Some,
  length,
  slice_get,
  get_or,
  ap,
  sym,
  ◌∙◌,
  arith,
}
use Rattle.std.proofs.Common.{All, refl, subst}
use Rattle.std.specs.Prelude.{◌==◌, if◌then◌else◌, slice_index}
use Rattle.std.proofs.lemmas.Bool.{eq-eqb}
use Rattle.std.proofs.lemmas.List.{same_lists}
use Rattle.std.proofs.lemmas.Grind.{get_or_default_zero}
use Rattle.hv_base.specs.declared.line.Phase.TheVariants.{B}
use Rattle.header_types.specs.SequenceParameterSets.{width_in_ctbs}
use Rattle.plan_types.specs.declared.picture_plan.PicturePlan.{PicturePlan}
use Rattle.cabac_contexts.specs.Packing.{packed}
use Rattle.spec_known_units.specs.Known.{contexts_behind, units_known}
use Rattle.board_core.specs.Places.{line_of}
use Rattle.sample_words.specs.declared.sizes.FlightSizes.{FlightSizes}
use Rattle.sample_words.specs.declared.unit_content.UnitContent.{UnitContent}
use Rattle.sample_words.specs.declared.unit_content.UnitContent.TheVariants.{Carried, Contexts}
use Rattle.sample_words.specs.Contents.{IsContent, PictureValues, content_value, expected_word, index_of}
use Rattle.sample_words.specs.Sizes.{columns, height_of, width_of}
use Rattle.sample_words.specs.Words.{unit_word}
use Rattle.sample_words.proofs.Contents.{content_found}
use Rattle.unit_reach.specs.SpecFlights.{PlannedFlight, folded_at}
use Rattle.unit_reach.specs.SpecFlights.{carried_behind, expected, expected_in, flight_sizes, values_in}
use Rattle.row_trees.specs.UnitWords.{AreOfCarry}
use Rattle.std.specs.Int.{w64, from_le_bytes}
use Rattle.std.proofs.lemmas.List.FromFn.{length-map-range_with_len}
use Rattle.cabac_contexts.specs.Packing.{eight_from}
use Rattle.header_types.specs.SequenceParameterSets.{IsSps}
use Rattle.cabac_contexts.specs.Packing.{unpacked}
use Rattle.sample_words.specs.Sizes.{carry_words, common_words, context_words, tree_words}
use Rattle.row_trees.specs.UnitWords.{AreContexts}
use Rattle.row_trees.proofs.UnitWordsLemmas.{contexts_found}
use Rattle.flight_waits.proofs.FactsOfFlights.{contexts_fit, last_fits}
use Rattle.line_words.specs.Places.{HasSizes, UnitAt, word_at, words_at}
use Rattle.flight_waits.specs.FactsOfFlights.{FlightFacts}
use Rattle.flight_waits.specs.FactsOfFlights.{board_flight}
use Rattle.flight_waits.specs.FactsOfFlights.{flight_in}
use Rattle.flight_waits.specs.FactsOfFlights.{IsOfFlight}
use Rattle.flight_waits.proofs.FactsOfFlights.{board_sizes, picture_sizes}

twenty_words : (contexts : List ℕ) → length (packed contexts) ≡ 20
unfolding packed
twenty_words contexts = length-map-range_with_len (λ k. from_le_bytes w64 (eight_from contexts (8 * k))) 0 20

-- a place of a list tells the same by whichever default
get_or_any : (xs : List ℕ) (i d : ℕ) → i < length xs → get_or xs i d ≡ slice_index xs i
get_or_any xs i d inside = get_or_default_zero xs i d inside

module _ (f : PlannedFlight) (k row x : ℕ) (p : PicturePlan) (has : slice_get f.pictures k ≡ Some p) where
  abbrev sizes : FlightSizes
  sizes = flight_sizes p.sps (length f.pictures)

  abbrev values : PictureValues
  values = values_in p (folded_at f k)

  abbrev index : UnitContent → ℕ
  index content =
      index_of (flight_sizes p.sps (length f.pictures)) (width_of (flight_sizes p.sps (length f.pictures)) x)
      (height_of (flight_sizes p.sps (length f.pictures)) row) x content

  -- the word that is expected of a content
  content_is : (content : UnitContent) → IsContent sizes (width_of sizes x) (height_of sizes row) x content
      → expected f (unit_word B k row x (index content)) ≡ content_value sizes values (line_of B k row) x content
  unfolding expected expected_word
  content_is content is =
      ap (λ o. expected_in f o (unit_word B k row x (index content))) has
      ∙ ap (content_value sizes values (line_of B k row) x)
      (content_found sizes (width_of sizes x) (height_of sizes row) x content is)

  next_index : (first : ℕ) → index (Contexts 0) ≡ first → (i : ℕ) → index (Contexts i) ≡ first + i
  unfolding index_of
  next_index first at i = omega (arith, at)

  next_carried : (first : ℕ) → index (Carried 0) ≡ first → (i : ℕ) → index (Carried i) ≡ first + i
  unfolding index_of
  next_carried first at i = omega (arith, at)

  -- the contexts behind the second unit of a row
  pub stored_words : (first : ℕ) (words : List ℕ) → x ≡ 1 → length words ≡ 20 → index (Contexts 0) ≡ first
      → ((i : ℕ) → i < length words → slice_index words i ≡ expected f (unit_word B k row x (first + i)))
      → words ≡ packed (contexts_behind (units_known p (row * width_in_ctbs p.sps + 1)))
  unfolding values_in
  stored_words first words second many at each =
      let contexts = contexts_behind (units_known p (row * width_in_ctbs p.sps + 1)) in
      let twenty = twenty_words contexts in
      same_lists words (packed contexts) (omega (arith, many, twenty))
      (λ i d inside.
      let there : IsContent sizes (width_of sizes x) (height_of sizes row) x (Contexts i) =
      in_contexts i (omega (arith, inside, many)) in
      let place = next_index first at i in
      get_or_any words i d inside
      ∙ (each i inside
      ∙ (ap (λ n. expected f (unit_word B k row x n)) (sym place)
      ∙ (content_is (Contexts i) there
      ∙ sym (get_or_any (packed contexts) i d (omega (arith, inside, many, twenty)))))))
    where
      in_contexts : (i : ℕ) → i < 20 → i < (if x == 1 then 20 else 0)
      in_contexts i less = subst (λ n. i < (if n == 1 then 20 else 0)) (sym second) less

  -- what the last unit of a row carries on
  pub carried_words : (first : ℕ) (words : List ℕ) → x + 1 ≡ columns sizes → length words ≡ 24
      → index (Carried 0) ≡ first
      → ((i : ℕ) → i < length words → slice_index words i ≡ expected f (unit_word B k row x (first + i)))
      → AreOfCarry words
      (carried_behind (units_known p (row * width_in_ctbs p.sps + (width_in_ctbs p.sps - 1))))
  unfolding values_in
  carried_words first words last many at each =
      let unit = units_known p (row * width_in_ctbs p.sps + (width_in_ctbs p.sps - 1)) in
      record {
        state = refl;
        contexts = twenty_words (contexts_behind unit);
        each = λ i less.
            let there : IsContent sizes (width_of sizes x) (height_of sizes row) x (Carried i) = in_carried i less in
            let place = next_carried first at i in
            each i (omega (arith, less, many))
            ∙ (ap (λ n. expected f (unit_word B k row x n)) (sym place) ∙ content_is (Carried i) there);
      }
    where
      when_same : (i : ℕ) → i < 24 → i < (if x + 1 == x + 1 then 24 else 0)
      when_same i less =
          subst (λ t. i < (if t then 24 else 0)) (sym (eq-eqb (x + 1) (x + 1) refl)) less

      in_carried : (i : ℕ) → i < 24 → i < (if x + 1 == columns sizes then 24 else 0)
      in_carried i less = subst (λ n. i < (if x + 1 == n then 24 else 0)) last (when_same i less)

-- where a content of a unit stands
pub place_is : (s : FlightSizes) (row x y first width height column : ℕ) (content : UnitContent)
    → first ≡ index_of s width height column content → width ≡ width_of s y → height ≡ height_of s row → column ≡ y
    → y ≡ x → first ≡ index_of s (width_of s x) (height_of s row) x content
place_is s row x y first width height column content at wide high across same =
    at
    ∙ (ap (λ w. index_of s w height column content) (wide ∙ ap (width_of s) same)
    ∙ (ap (λ h. index_of s (width_of s x) h column content) high
    ∙ ap (λ n. index_of s (width_of s x) (height_of s row) n content) (across ∙ same)))

-- a unit of a row of a picture of a flight
module _ (facts : FlightFacts) (s : FlightSizes) (of_flight : IsOfFlight facts s) (k row x : ℕ) (u : UnitAt)
    (is : u ≡ record { sizes = s; line = line_of B k row; unit = x }) where
  pub unit_sizes : HasSizes (board_flight (flight_in facts)) u.sizes
  unit_sizes =
      subst (HasSizes (board_flight (flight_in facts))) (sym (ap (λ (w : UnitAt). w.sizes) is))
      (board_sizes facts s of_flight)

  all_words : words_at u ≡ tree_words s (height_of s row) x
  all_words = ap (λ (w : UnitAt). words_at w) is

  pub contexts_inside : x ≡ 1 → (first : ℕ) → first ≡ index_of s (width_of s x) (height_of s row) x (Contexts 0)
      → first + 20 ≤ words_at u
  unfolding index_of common_words
  contexts_inside second first at =
      let all = all_words in
      let twenty : context_words x ≡ 20 = ap context_words second in
      omega (arith, all, twenty, at)

  pub carried_inside : x + 1 ≡ columns s → (first : ℕ)
      → first ≡ index_of s (width_of s x) (height_of s row) x (Carried 0) → first + 24 ≤ words_at u
  unfolding index_of common_words
  carried_inside last first at =
      let all = all_words in
      let some : carry_words s x ≡ 24 = ap (λ t. if t then 24 else 0) (eq-eqb (x + 1) (columns s) last) in
      omega (arith, all, some, at)

  module _ (p : PicturePlan) (has : slice_get (flight_in facts).pictures k ≡ Some p) (words : List ℕ) (first n : ℕ)
      (many : length words ≡ n)
      (each : (i : ℕ) → i < n → slice_index words i ≡ expected (flight_in facts) (word_at u (first + i))) where
    same_sizes : s ≡ flight_sizes p.sps (length (flight_in facts).pictures)
    same_sizes = picture_sizes facts s k p of_flight has

    each_word : (i : ℕ) → i < length words
        → slice_index words i ≡ expected (flight_in facts) (unit_word B k row x (first + i))
    each_word i less =
        each i (omega (arith, less, many)) ∙ ap (λ (w : UnitAt). expected (flight_in facts) (word_at w (first + i))) is

    sps_is : IsSps p.sps
    sps_is = of_flight.planned.sps k p has

    pub stored_are : x ≡ 1 → n ≡ 20
        → first ≡ index_of s (width_of s x) (height_of s row) x (Contexts 0)
        → words ≡ packed (contexts_behind (units_known p (row * width_in_ctbs p.sps + 1)))
    stored_are second twenty at =
        stored_words (flight_in facts) k row x p has first words second (many ∙ twenty)
        (ap (λ (t : FlightSizes). index_of t (width_of t x) (height_of t row) x (Contexts 0)) (sym same_sizes)
        ∙ sym at)
        each_word

    pub carry_are : x + 1 ≡ columns s → n ≡ 24
        → first ≡ index_of s (width_of s x) (height_of s row) x (Carried 0)
        → AreOfCarry words
        (carried_behind (units_known p (row * width_in_ctbs p.sps + (width_in_ctbs p.sps - 1))))
    carry_are last all at =
        carried_words (flight_in facts) k row x p has first words
        (last ∙ ap (λ (t : FlightSizes). columns t) same_sizes) (many ∙ all)
        (ap (λ (t : FlightSizes). index_of t (width_of t x) (height_of t row) x (Carried 0)) (sym same_sizes)
        ∙ sym at)
        each_word

    pub behind_are : (a : ℕ) → AreContexts (contexts_behind (units_known p a))
    behind_are a =
        let fit = contexts_fit p sps_is a in record { count = fit.count; small = fit.small }

    pub stored_small : (a : ℕ) → words ≡ packed (contexts_behind (units_known p a))
        → All (λ value. value < 126) (unpacked words)
    stored_small a same =
        subst (All (λ value. value < 126))
        (sym (contexts_found words (contexts_behind (units_known p a)) (behind_are a) same)) (behind_are a).small

    pub last_small : (a : ℕ) → AreOfCarry words (carried_behind (units_known p a)) → slice_index words 23 < 256
    last_small a are =
        let e = are.each 23 (omega arith) in
        let small = last_fits p sps_is a in
        let few = sps_is.format.luma_depth in
        omega (arith, e, small, few)
