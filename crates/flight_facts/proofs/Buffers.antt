-- What a flight is depends on the decoded pictures of the buffer before it alone.
use Rattle.std.proofs.Common.{◌≡◌, refl, ℕ, zero, suc, ◌+◌, List, [], ◌∷◌, ◌++◌, ap, sym, ◌∙◌}
use Rattle.std.proofs.Common.{Option, Some, None, length, map, take, slice_get, inl, inr}
use Rattle.std.proofs.lemmas.Bool.{cases_Bool}
use Rattle.std.proofs.lemmas.List.{length-map, map-append}
use Rattle.std.specs.List.{flat_map, range_with_len}
use Rattle.header_types.specs.SequenceParameterSets.{height_in_ctbs, size_in_ctbs, width_in_ctbs}
use Rattle.plan_types.specs.declared.picture_plan.PicturePlan.{PicturePlan}
use Rattle.picture_build.specs.SpecPictureBuild.{DecodedPicture}
use Rattle.flight_unit_laws.specs.SpecDecoder.{BufferPicture, is_among, kept_as, kept_from, pictures_in}
use Rattle.flight_plan.specs.declared.row_range.Reference.{Reference}
use Rattle.flight_plan.specs.declared.row_range.Reference.TheVariants.{Base}
use Rattle.flight_plan.specs.Flight.{units_of}
use Rattle.board_core.specs.Reach.{reach_of}
use Rattle.sample_words.specs.declared.unit_word.UnitWord.{UnitWord}
use Rattle.sample_words.specs.Contents.{expected_word}
use Rattle.flight_unit_laws.specs.SpecFlights.{PlannedFlight, buffer_before, buffer_behind, folded_at, folded_in}
use Rattle.flight_unit_laws.specs.SpecFlights.{known_decoded, pictures_before}
use Rattle.flight_unit_laws.specs.SpecFlights.{blocks_at, blocks_in, collocated_at, names_before, names_behind}
use Rattle.flight_unit_laws.specs.SpecFlights.{staying}
use Rattle.flight_unit_laws.specs.SpecFlights.{bad_units, broken_units, is_sound, is_sound_of, luma_lines}
use Rattle.flight_unit_laws.specs.SpecFlights.{picture_rows, rows_in, rows_of}
use Rattle.flight_unit_laws.specs.SpecFlights.{expected, expected_in, flight_sizes, values_in}
use Rattle.flight_facts.specs.Boards.{as_base, board_flight, rule_at, rule_of, sizes_in}

kept_pictures : (places : List ℕ) (n : ℕ) (xs : List BufferPicture)
    → pictures_in (kept_from places n xs) ≡ staying places n (pictures_in xs)
unfolding kept_from staying
kept_pictures places n [] = refl
kept_pictures places n (x ∷ xs) =
    elim (cases_Bool (is_among places n)) [
      | inl stays ↦ rw stays (ap (λ (l : List DecodedPicture). x.picture ∷ l) (kept_pictures places (suc n) xs))
      | inr goes ↦ rw goes (kept_pictures places (suc n) xs)
    ]

behind_same : (o : Option PicturePlan) (xs ys : List BufferPicture) → pictures_in xs ≡ pictures_in ys
    → pictures_in (buffer_behind xs o) ≡ pictures_in (buffer_behind ys o)
unfolding buffer_behind
behind_same None xs ys e = e
behind_same (Some p) xs ys e =
    let added : List BufferPicture → List BufferPicture =
    λ zs. zs ++ kept_as p (known_decoded (pictures_in zs) p) ∷ [] in
    let shown : (zs : List BufferPicture)
    → pictures_in (added zs) ≡ pictures_in zs ++ known_decoded (pictures_in zs) p ∷ [] =
    λ zs. map-append (λ (b : BufferPicture). b.picture) zs (kept_as p (known_decoded (pictures_in zs) p) ∷ []) in
    let middle : pictures_in (added xs) ≡ pictures_in (added ys) =
    shown xs ∙ ((λ i. e i ++ known_decoded (e i) p ∷ []) ∙ sym (shown ys)) in
    kept_pictures p.outputs.kept 0 (added xs)
    ∙ (ap (staying p.outputs.kept 0) middle ∙ sym (kept_pictures p.outputs.kept 0 (added ys)))

pub bases_again : (bases : List DecodedPicture) → pictures_in (map as_base bases) ≡ bases
bases_again [] = refl
bases_again (b ∷ later) = ap (λ (l : List DecodedPicture). b ∷ l) (bases_again later)

module _ (pictures : List PicturePlan) (b c : List BufferPicture) (same : pictures_in b ≡ pictures_in c) where
  abbrev f : PlannedFlight
  f = record { pictures = pictures; buffer = b }

  abbrev g : PlannedFlight
  g = record { pictures = pictures; buffer = c }

  before : (k : ℕ) → pictures_before f k ≡ pictures_before g k
  unfolding buffer_before
  before zero = same
  before (suc k) = behind_same (slice_get pictures k) (buffer_before f k) (buffer_before g k) (before k)

  names : (k : ℕ) → names_before f k ≡ names_before g k
  unfolding names_before
  names zero =
      let long : length b ≡ length c =
      sym (length-map b (λ (x : BufferPicture). x.picture)) ∙ (ap length same
      ∙ length-map c (λ (x : BufferPicture). x.picture)) in
      ap (λ n. map Base (range_with_len 0 n)) long
  names (suc k) = ap (λ (n : List Reference). names_behind n k (slice_get pictures k)) (names k)

  blocks : (k address : ℕ) → blocks_at f k address ≡ blocks_at g k address
  unfolding blocks_at
  blocks k address = λ i. blocks_in (names k i) (before k i) address (slice_get pictures k)

  rows_same : (k : ℕ) (o : Option PicturePlan) → rows_of f k o ≡ rows_of g k o
  unfolding rows_in
  rows_same k None = refl
  rows_same k (Some p) = λ i. record {
    width = width_in_ctbs p.sps;
    rows = height_in_ctbs p.sps;
    sync = p.pps.prediction.entropy_coding_sync_enabled_flag;
    collocated = map (collocated_at (names k i) p) (range_with_len 0 (size_in_ctbs p.sps));
    reach = map (λ address. reach_of (luma_lines p) (blocks k address i)) (range_with_len 0 (size_in_ctbs p.sps));
  }

  all_rows : picture_rows f ≡ picture_rows g
  unfolding picture_rows
  all_rows = λ i. map (λ k. rows_same k (slice_get pictures k) i) (range_with_len 0 (length pictures))

  all_bad : bad_units f ≡ bad_units g
  unfolding bad_units
  all_bad = λ i.
      flat_map (λ k. map (λ address. units_of (take k (all_rows i)) + address) (broken_units (slice_get pictures k)))
      (range_with_len 0 (length pictures))

  pub folded_same : (k : ℕ) → folded_at f k ≡ folded_at g k
  unfolding folded_at
  folded_same k = ap (λ (buffer : List DecodedPicture). folded_in buffer (slice_get pictures k)) (before k)

  expected_by : (o : Option PicturePlan) (u : UnitWord) → expected_in f o u ≡ expected_in g o u
  expected_by None u = refl
  expected_by (Some p) u = λ i.
      expected_word (flight_sizes p.sps (length pictures)) (λ k. values_in p (folded_same k i)) u

  expected_same : (u : UnitWord) → expected f u ≡ expected g u
  unfolding expected
  expected_same u = expected_by (slice_get pictures u.line.picture) u

  pub board_same : board_flight f ≡ board_flight g
  unfolding is_sound rule_at
  board_same = λ i. record {
    plan = record { pictures = all_rows i; bad = all_bad i };
    sizes = sizes_in pictures;
    expected = λ u. expected_same u i;
    sound = λ l x. is_sound_of (slice_get pictures l.picture) l x;
    rule = λ l x. rule_of (slice_get pictures l.picture) l x;
  }
