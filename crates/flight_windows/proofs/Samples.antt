-- Samples of pictures of a flight as others refer to them.
use Rattle.std.proofs.Common.{◌≡◌, refl, ℕ, ◌+◌, ◌*◌, ◌/◌, ◌^◌, ◌<◌, ◌≤◌, ◌&&◌, Bool, true, false, min, nat_lt, ℤ}
use Rattle.std.proofs.Common.{if◌then◌else◌, Option, Some, None, slice_get, length, sym, ap, subst, ◌∙◌, arith}
use Rattle.std.proofs.lemmas.Bool.{le-ltb}
use Rattle.hv_base.specs.declared.line.Phase.TheVariants.{S}
use Rattle.header_types.specs.declared.sps.PictureFormat.{PictureFormat}
use Rattle.header_types.specs.SequenceParameterSets.{ctb_log2}
use Rattle.plan_types.specs.declared.picture_plan.PicturePlan.{PicturePlan}
use Rattle.spec_inter_prediction.specs.Taps.{clamped}
use Rattle.spec_picture_build.specs.SpecPictureTrees.{picture_shape}
use Rattle.spec_picture_build.specs.Border.{has_sample}
use Rattle.spec_picture_build.specs.References.{DecodedPicture, format_height, format_width, greatest_sample}
use Rattle.spec_picture_build.specs.References.{reference_sample}
use Rattle.sample_lines.specs.SpecDecodedPictures.{decoded_by, samples_filtered}
use Rattle.inter_pred.proofs.Inside.{clamped_below}
use Rattle.sample_lines.specs.LocalityLaws.{luma_line}
use Rattle.flight_plan.specs.declared.row_range.Reference.TheVariants.{Flight}
use Rattle.board_core.specs.Places.{line_of}
use Rattle.sample_words.specs.declared.sizes.FlightSizes.{FlightSizes}
use Rattle.sample_words.specs.Contents.{component_side}
use Rattle.sample_words.specs.Sizes.{IsFlight as AreSizes, ctb_size}
use Rattle.sample_words.specs.Words.{IsLine}
use Rattle.sample_lines.specs.SpecFlights.{PlannedFlight, folded_at, folded_in, known_decoded}
use Rattle.sample_lines.specs.SpecFlights.{pictures_before}
use Rattle.sample_lines.specs.SpecFlights.{flight_sizes}
use Rattle.sample_lines.proofs.FactsOfFlights.{last_phase}
use Rattle.line_words.specs.Places.{HasSizes, UnitAt}
use Rattle.sample_lines.specs.FactsOfFlights.{FlightFacts}
use Rattle.sample_lines.specs.FactsOfFlights.{board_flight}
use Rattle.sample_lines.specs.FactsOfFlights.{flight_in}
use Rattle.sample_lines.specs.FactsOfFlights.{IsOfFlight, samples_at, samples_of}
use Rattle.sample_lines.proofs.FactsOfFlights.{board_sizes, each_there, picture_sizes}
use Rattle.flight_windows.specs.Lines.{final_unit, height_in, width_in}
use Rattle.flight_windows.specs.Pictures.{flight_picture, seen_picture, seen_samples, with_seen}
use Rattle.flight_windows.specs.Seen.{SeenFlags, is_seen}
use Rattle.sample_lines.specs.Lines.{sample_of}
use Rattle.flight_windows.proofs.Sides.{from_first, has_it, some_side}

none_held : (g : ℕ) → min 0 g ≡ 0
none_held g = grind arith

none_there : (b rest : Bool) (v : ℕ) → b ≡ false → (if b && rest then v else 0) ≡ 0
none_there b rest v e = ap (λ t. if t && rest then v else 0) e

none_if : (t : Bool) (v : ℕ) → v ≡ 0 → (if t then v else 0) ≡ 0
none_if true v e = e
none_if false v e = refl

module _ (facts : FlightFacts) (s : FlightSizes) (is : IsOfFlight facts s) (seen : SeenFlags) (j : ℕ) where
  abbrev f : PlannedFlight
  f = flight_in facts

  are_sizes : AreSizes s
  are_sizes = let has : HasSizes (board_flight f) s = board_sizes facts s is in subst AreSizes has.0 has.1.sizes

  module _ (q : PicturePlan) (has : slice_get f.pictures j ≡ Some q) where
    abbrev a : DecodedPicture
    a = known_decoded (pictures_before f j) q

    abbrev mine : PictureFormat
    mine = q.sps.format

    same : s ≡ flight_sizes q.sps (length f.pictures)
    same = picture_sizes facts s j q is has

    named : seen_picture f seen (Flight j) ≡ with_seen seen j q a
    unfolding seen_picture
    named = ap (flight_picture f seen j) has

    -- the samples of the last phase
    final_is : (c x y : ℕ) → has_sample (picture_shape q.sps q.pps) c x y ≡ true
        → a.samples c x y ≡ samples_at f j S c x y
    unfolding samples_at folded_at
    final_is c x y there =
        last_phase (pictures_before f j) q c x y there
        ∙ sym (ap (λ (o : Option PicturePlan). samples_of o (folded_in (pictures_before f j) o) S c x y) has)

    inside : (c : ℕ) → c < 3 → (x y : ℤ)
        → has_sample (picture_shape q.sps q.pps) c (clamped x (format_width mine c))
        (clamped y (format_height mine c)) ≡ true
    inside c three x y =
        let sizes : AreSizes (flight_sizes q.sps (length f.pictures)) = subst AreSizes same are_sizes in
        has_it q.sps q.pps c (clamped x (format_width mine c)) (clamped y (format_height mine c))
        sizes.whole_columns sizes.whole_rows three
        (clamped_below x (format_width mine c) (some_side c mine.pic_width_in_luma_samples sizes.some_width))
        (clamped_below y (format_height mine c) (some_side c mine.pic_height_in_luma_samples sizes.some_height))

    -- a sample of a row that is seen
    seen_there : (c row line : ℕ) → c < 3 → (x y : ℤ) → is_seen seen j row ≡ true
        → row ≡ luma_line c (clamped y (height_in s c)) / 2 ^ s.ctb_log2
        → component_side c (row * ctb_size s) + line ≡ clamped y (height_in s c)
        → (with_seen seen j q a).samples c (clamped x (format_width mine c)) (clamped y (format_height mine c))
        ≡ sample_of f (final_unit s j row) c (clamped x (width_in s c)) line
    unfolding seen_samples sample_of
    seen_there c row line three x y told row_is line_is =
        let X : ℕ = clamped x (format_width mine c) in
        let Y : ℕ = clamped y (format_height mine c) in
        let low : clamped y (height_in s c) ≡ Y =
        ap (λ (t : FlightSizes). clamped y (height_in t c)) same in
        let right : clamped x (width_in s c) ≡ X =
        ap (λ (t : FlightSizes). clamped x (width_in t c)) same in
        let row_here : row ≡ luma_line c Y / 2 ^ ctb_log2 q.sps.blocks =
        row_is ∙ ap (λ (t : FlightSizes). luma_line c (clamped y (height_in t c)) / 2 ^ t.ctb_log2) same in
        let told_here : is_seen seen j (luma_line c Y / 2 ^ ctb_log2 q.sps.blocks) ≡ true =
        subst (λ r. is_seen seen j r ≡ true) row_here told in
        ap (λ t. if t then a.samples c X Y else 0) told_here
        ∙ (final_is c X Y (inside c three x y)
        ∙ (ap (λ n. samples_at f j S c n Y) (sym (from_first c (clamped x (width_in s c)) ∙ right))
        ∙ ap (λ n. samples_at f j S c (component_side c 0 + clamped x (width_in s c)) n) (sym (line_is ∙ low))))

  -- as another picture refers to it
  pub seen_sample : (format : PictureFormat) (c row line : ℕ) → c < 3 → (x y : ℤ) → is_seen seen j row ≡ true
      → IsLine s (line_of S j row) → row ≡ luma_line c (clamped y (height_in s c)) / 2 ^ s.ctb_log2
      → component_side c (row * ctb_size s) + line ≡ clamped y (height_in s c)
      → min (sample_of f (final_unit s j row) c (clamped x (width_in s c)) line) (greatest_sample format c)
      ≡ reference_sample format (Some (seen_picture f seen (Flight j))) c x y
  unfolding reference_sample decoded_by
  seen_sample format c row line three x y told there row_is line_is =
      let plan = each_there facts s j is there.picture in
      let e = seen_there plan.0 plan.1 c row line three x y told row_is line_is in
      sym (ap (λ (d : DecodedPicture). reference_sample format (Some d) c x y) (named plan.0 plan.1)
      ∙ ap (λ n. min n (greatest_sample format c)) e)

  -- the same by what is read of the row's unit
  pub read_sample : (format : PictureFormat) (greatest c row line n : ℕ) (at : UnitAt) → c < 3 → (x y : ℤ)
      → at ≡ final_unit s j row → is_seen seen j row ≡ true → IsLine s (line_of S j row)
      → row ≡ luma_line c (clamped y (height_in s c)) / 2 ^ s.ctb_log2
      → component_side c (row * ctb_size s) + line ≡ clamped y (height_in s c)
      → n ≡ clamped x (width_in s c) → greatest ≡ greatest_sample format c
      → min (sample_of f at c n line) greatest
      ≡ reference_sample format (Some (seen_picture f seen (Flight j))) c x y
  read_sample format greatest c row line n at three x y at_is told there row_is line_is n_is greatest_is =
      (λ i. min (sample_of f (at_is i) c (n_is i) line) (greatest_is i))
      ∙ seen_sample format c row line three x y told there row_is line_is

  -- a sample of a row that isn't seen
  not_there : (format : PictureFormat) (c row : ℕ) (x y : ℤ) → is_seen seen j row ≡ false
      → row ≡ luma_line c (clamped y (height_in s c)) / 2 ^ s.ctb_log2
      → (o : Option PicturePlan) → slice_get f.pictures j ≡ o
      → reference_sample format (Some (flight_picture f seen j o)) c x y ≡ 0
  unfolding reference_sample seen_samples decoded_by
  not_there format c row x y untold row_is None has = none_held (greatest_sample format c)
  not_there format c row x y untold row_is (Some q) has =
      let X : ℕ = clamped x (format_width q.sps.format c) in
      let Y : ℕ = clamped y (format_height q.sps.format c) in
      let row_here : row ≡ luma_line c Y / 2 ^ ctb_log2 q.sps.blocks =
      row_is ∙ ap (λ (t : FlightSizes). luma_line c (clamped y (height_in t c)) / 2 ^ t.ctb_log2) (same q has) in
      let untold_here : is_seen seen j (luma_line c Y / 2 ^ ctb_log2 q.sps.blocks) ≡ false =
      subst (λ r. is_seen seen j r ≡ false) row_here untold in
      ap (λ t. min (if t then (known_decoded (pictures_before f j) q).samples c X Y else 0) (greatest_sample format c))
      untold_here
      ∙ none_held (greatest_sample format c)

  pub unseen_sample : (format : PictureFormat) (c row : ℕ) (x y : ℤ) → is_seen seen j row ≡ false
      → row ≡ luma_line c (clamped y (height_in s c)) / 2 ^ s.ctb_log2
      → 0 ≡ reference_sample format (Some (seen_picture f seen (Flight j))) c x y
  unfolding seen_picture
  unseen_sample format c row x y untold row_is =
      sym (not_there format c row x y untold row_is (slice_get f.pictures j) refl)

-- there are three components
module _ (f : PlannedFlight) (seen : SeenFlags) (j : ℕ) where
  no_more_by : (format : PictureFormat) (c : ℕ) → 3 ≤ c → (x y : ℤ) (o : Option PicturePlan)
      → reference_sample format (Some (flight_picture f seen j o)) c x y ≡ 0
  unfolding reference_sample seen_samples decoded_by samples_filtered has_sample
  no_more_by format c past x y None = none_held (greatest_sample format c)
  no_more_by format c past x y (Some q) =
      let a : DecodedPicture = known_decoded (pictures_before f j) q in
      let X : ℕ = clamped x (format_width q.sps.format c) in
      let Y : ℕ = clamped y (format_height q.sps.format c) in
      let none : a.samples c X Y ≡ 0 = none_there (nat_lt c 3) _ _ (le-ltb c 3 past) in
      let t : Bool = is_seen seen j (luma_line c Y / 2 ^ ctb_log2 q.sps.blocks) in
      ap (λ n. min n (greatest_sample format c)) (none_if t (a.samples c X Y) none)
      ∙ none_held (greatest_sample format c)

  pub no_component : (format : PictureFormat) (c : ℕ) → 3 ≤ c → (x y : ℤ)
      → 0 ≡ reference_sample format (Some (seen_picture f seen (Flight j))) c x y
  unfolding seen_picture
  no_component format c past x y = sym (no_more_by format c past x y (slice_get f.pictures j))
