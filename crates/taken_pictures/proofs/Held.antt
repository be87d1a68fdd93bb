-- What planes and a field hold that were taken from the words of a picture.
use Rattle.std.proofs.Common.{◌≡◌, ℕ, ◌*◌, ◌/◌, ◌%◌, ◌<◌, Bool, true, false, ◌&&◌, ◌==◌, cond, nat_lt, refl}
use Rattle.std.proofs.Common.{sym, ap}
use Rattle.std.proofs.Common.{◌∙◌, inl, inr, Some, slice_get, length, arith}
use Rattle.std.proofs.lemmas.Bool.{cases_Bool}
use Rattle.std.proofs.lemmas.Bool.Decides.{nat_tests}
use Rattle.hv_base.specs.declared.line.Phase.TheVariants.{S}
use Rattle.plan_types.specs.declared.picture_plan.PicturePlan.{PicturePlan}
use Rattle.picture_buffer.specs.Motion.{FieldPlaces, HasPlaces, motions_of}
use Rattle.picture_buffer.specs.Planes.{HasSides, PictureSamples, samples_of}
use Rattle.sample_lines.specs.FactsOfFlights.{decoded_of}
use Rattle.sample_words.specs.declared.sizes.FlightSizes.{FlightSizes}
use Rattle.sample_words.specs.Contents.{component_side}
use Rattle.sample_words.specs.Sizes.{IsFlight}
use Rattle.row_above_laws.specs.SpecPictureBuild.{has_sample}
use Rattle.spec_picture_trees.specs.Places.{has_place}
use Rattle.spec_picture_trees.specs.Shapes.{picture_shape}
use Rattle.spec_flights.specs.SpecDecodedPictures.{DecodedUnits, decoded_by, samples_filtered}
use Rattle.spec_flights.specs.Phases.{phase_samples}
use Rattle.spec_flights.specs.Pictures.{PlannedFlight, folded_at, folded_in, known_decoded, known_folded}
use Rattle.spec_flights.specs.Pictures.{pictures_before}
use Rattle.spec_flights.specs.Words.{flight_sizes}
use Rattle.sample_lines.specs.FactsOfFlights.{samples_at, samples_of as samples_by}
use Rattle.taken_pictures.specs.Pictures.{held_picture}
use Rattle.taken_pictures.proofs.Outside.{none_held, none_kept, none_lies}

-- both sides of a picture are multiples of 8
side_by : (luma : Bool) (w : ℕ) → w % 8 ≡ 0 → cond luma 4 2 * (w / 4) ≡ cond luma w (w / 2)
side_by true w e = omega (arith, e)
side_by false w e = omega (arith, e)

side_of_places : (c w : ℕ) → w % 8 ≡ 0 → cond (c == 0) 4 2 * (w / 4) ≡ component_side c w
side_of_places c w e = side_by (c == 0) w e

-- a sample that a picture has not is 0
none_filtered : (b : Bool) (v : ℕ) → b ≡ false → cond b v 0 ≡ 0
none_filtered false v e = refl
none_filtered true v e = absurd cc

both : (a b : Bool) → (a && b) ≡ true → (a ≡ true) × (b ≡ true)
both true b e = (refl, e)
both false b e = absurd cc

module _ (f : PlannedFlight) (k : ℕ) (p : PicturePlan) (has : slice_get f.pictures k ≡ Some p) where
  -- what the known units of the picture make of it
  pub folded_is : folded_at f k ≡ known_folded (pictures_before f k) p
  unfolding folded_at
  folded_is = ap (folded_in (pictures_before f k)) has

  pub final_is : (c x y : ℕ) → samples_at f k S c x y ≡ phase_samples p (known_folded (pictures_before f k) p) S c x y
  unfolding samples_at
  final_is c x y =
      ap (λ o. samples_by o (folded_at f k) S c x y) has
      ∙ ap (λ (u : DecodedUnits). phase_samples p u S c x y) folded_is

  module _ (s : FlightSizes) (sized : s ≡ flight_sizes p.sps (length f.pictures)) (sizes : IsFlight s) where
    wide : p.sps.format.pic_width_in_luma_samples ≡ s.width
    wide = sym (ap (λ (t : FlightSizes). t.width) sized)

    high : p.sps.format.pic_height_in_luma_samples ≡ s.height
    high = sym (ap (λ (t : FlightSizes). t.height) sized)

    test_is : (c x y : ℕ) → has_sample (picture_shape p.sps p.pps) c x y
        ≡ (nat_lt c 3 && (nat_lt x (component_side c s.width) && nat_lt y (component_side c s.height)))
    unfolding has_sample picture_shape
    test_is c x y =
        let across : cond (c == 0) 4 2 * (p.sps.format.pic_width_in_luma_samples / 4) ≡ component_side c s.width =
        ap (λ w. cond (c == 0) 4 2 * (w / 4)) wide ∙ side_of_places c s.width sizes.whole_columns in
        let down : cond (c == 0) 4 2 * (p.sps.format.pic_height_in_luma_samples / 4) ≡ component_side c s.height =
        ap (λ h. cond (c == 0) 4 2 * (h / 4)) high ∙ side_of_places c s.height sizes.whole_rows in
        λ t. nat_lt c 3 && (nat_lt x (across t) && nat_lt y (down t))

    place_is : (x y : ℕ) → has_place (picture_shape p.sps p.pps) x y
        ≡ (nat_lt x (s.width / 4) && nat_lt y (s.height / 4))
    unfolding picture_shape
    place_is x y = λ t. nat_lt x (wide t / 4) && nat_lt y (high t / 4)

    pub samples_there : (planes : PictureSamples) → HasSides planes s.width s.height
        → ((c x y : ℕ) → has_sample (picture_shape p.sps p.pps) c x y ≡ true
        → (known_decoded (pictures_before f k) p).samples c x y
        ≡ phase_samples p (known_folded (pictures_before f k) p) S c x y)
        → ((c x y : ℕ) → c < 3 → x < component_side c s.width → y < component_side c s.height
        → samples_of planes c x y ≡ samples_at f k S c x y)
        → (c x y : ℕ) → samples_of planes c x y ≡ (known_decoded (pictures_before f k) p).samples c x y
    unfolding decoded_by samples_filtered
    samples_there planes sides last taken c x y =
        let across : Bool = nat_lt x (component_side c s.width) in
        let down : Bool = nat_lt y (component_side c s.height) in
        elim (cases_Bool (nat_lt c 3 && (across && down))) [
          | inl here ↦
              let parts = both (nat_lt c 3) (across && down) here in
              let inside = both across down parts.1 in
              let few : c < 3 = let t = parts.0 in grind (arith, nat_tests) in
              let column : x < component_side c s.width = let t = inside.0 in grind (arith, nat_tests) in
              let line : y < component_side c s.height = let t = inside.1 in grind (arith, nat_tests) in
              taken c x y few column line ∙ (final_is c x y ∙ sym (last c x y (test_is c x y ∙ here)))
          | inr out ↦
              none_lies planes s.width s.height c x y sides out
              ∙ sym (none_filtered (has_sample (picture_shape p.sps p.pps) c x y) _ (test_is c x y ∙ out))
        ]

    pub motion_there : (field : FieldPlaces) → HasPlaces field (s.width / 4) (s.height / 4)
        → ((x y : ℕ) → x < s.width / 4 → y < s.height / 4 → motions_of field x y ≡ (folded_at f k).motions x y)
        → (x y : ℕ) → motions_of field x y ≡ (known_decoded (pictures_before f k) p).motions x y
    unfolding decoded_by
    motion_there field places taken x y =
        elim (cases_Bool (nat_lt x (s.width / 4) && nat_lt y (s.height / 4))) [
          | inl here ↦
              let inside = both (nat_lt x (s.width / 4)) (nat_lt y (s.height / 4)) here in
              let column : x < s.width / 4 = let t = inside.0 in grind (arith, nat_tests) in
              let row : y < s.height / 4 = let t = inside.1 in grind (arith, nat_tests) in
              taken x y column row ∙ ap (λ (u : DecodedUnits). u.motions x y) folded_is
          | inr out ↦
              none_held field (s.width / 4) (s.height / 4) x y places out
              ∙ (sym (none_kept f k p x y has (place_is x y ∙ out))
              ∙ ap (λ (u : DecodedUnits). u.motions x y) folded_is)
        ]

-- planes with its samples and a field with its motion hold a picture
pub held_is : (f : PlannedFlight) (k : ℕ) (p : PicturePlan) (planes : PictureSamples) (field : FieldPlaces)
    → ((c x y : ℕ) → samples_of planes c x y ≡ (known_decoded (pictures_before f k) p).samples c x y)
    → ((x y : ℕ) → motions_of field x y ≡ (known_decoded (pictures_before f k) p).motions x y)
    → decoded_of (held_picture p.sps.format planes field) ≡ known_decoded (pictures_before f k) p
unfolding decoded_by
held_is f k p planes field samples motion = λ t.
    record {
      format = p.sps.format;
      samples = λ c x y. samples c x y t;
      motions = λ x y. motion x y t;
    }
