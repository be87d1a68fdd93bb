-- The motion of the pictures of the buffer before a picture of a flight, by their names.
use Rattle.std.proofs.Common.{◌≡◌, ℕ, refl, sym, ap, ◌∙◌, List, map, Option, Some, None, slice_get}
use Rattle.std.specs.Option.{option_map}
use Rattle.std.proofs.lemmas.Option.{slice_get-map}
use Rattle.plan_types.specs.declared.picture_plan.PicturePlan.{PicturePlan}
use Rattle.picture_buffer.specs.Pictures.{HeldPicture}
use Rattle.sample_lines.specs.FactsOfFlights.{buffer_of, decoded_of}
use Rattle.spec_picture_build.specs.References.{DecodedPicture, motions_in}
use Rattle.spec_picture_motion.specs.Field.{Motions, no_motions}
use Rattle.spec_flights.specs.SpecDecodedPictures.{decoded_by}
use Rattle.spec_flights.specs.SpecDecoderDecoder.{BufferPicture, kept_as}
use Rattle.flight_plan.specs.declared.row_range.Reference.{Reference}
use Rattle.flight_plan.specs.declared.row_range.Reference.TheVariants.{Base, Flight}
use Rattle.spec_flights.specs.Pictures.{PlannedFlight, buffer_before, folded_at, folded_in, known_decoded}
use Rattle.spec_flights.specs.Pictures.{pictures_before}
use Rattle.spec_flights.specs.References.{names_before, picture_named}
use Rattle.sample_lines.specs.FactsOfFlights.{as_base}
use Rattle.border_words.specs.Beneath.{base_motions, flight_motions, named_motions}

-- an option of an option
abbrev flat : {X : Type 0} → Option (Option X) → Option X
flat None = None
flat (Some o) = o

flat_some : {X : Type 0} (o : Option X) → flat (option_map Some o) ≡ o
flat_some None = refl
flat_some (Some x) = refl

abbrev picture_of : BufferPicture → DecodedPicture
picture_of b = b.picture

-- the motion that a name stands for
abbrev motions_named : PlannedFlight → Option Reference → Motions
motions_named f None = no_motions
motions_named f (Some r) = motions_in (option_map picture_of (picture_named f r))

named_is : (f : PlannedFlight) (o : Option Reference)
    → motions_in (option_map picture_of (flat (option_map (picture_named f) o))) ≡ motions_named f o
named_is f None = refl
named_is f (Some r) = refl

module _ (f : PlannedFlight) (k : ℕ)
    (all : map (picture_named f) (names_before f k) ≡ map Some (buffer_before f k)) where
  buffer_at : (i : ℕ) → slice_get (buffer_before f k) i
      ≡ flat (option_map (picture_named f) (slice_get (names_before f k) i))
  buffer_at i =
      sym (flat_some (slice_get (buffer_before f k) i))
      ∙ (ap flat (sym (slice_get-map Some (buffer_before f k) i))
      ∙ (ap (λ l. flat (slice_get l i)) (sym all)
      ∙ ap flat (slice_get-map (picture_named f) (names_before f k) i)))

  motions_at : (i : ℕ) (o : Option Reference) → slice_get (names_before f k) i ≡ o
      → motions_in (slice_get (pictures_before f k) i) ≡ motions_named f o
  motions_at i o is =
      ap motions_in (slice_get-map picture_of (buffer_before f k) i)
      ∙ (ap (λ b. motions_in (option_map picture_of b)) (buffer_at i)
      ∙ (ap (λ n. motions_in (option_map picture_of (flat (option_map (picture_named f) n)))) is
      ∙ named_is f o))

  pub no_name : (i : ℕ) → slice_get (names_before f k) i ≡ None
      → motions_in (slice_get (pictures_before f k) i) ≡ no_motions
  no_name i is = motions_at i None is

  -- a base
  module _ (bases held : List HeldPicture) (before : f.buffer ≡ map as_base (buffer_of held))
      (same : buffer_of bases ≡ buffer_of held) (place : ℕ) where
    by_base : (o : Option HeldPicture)
        → motions_in (option_map picture_of (option_map as_base (option_map decoded_of o))) ≡ base_motions o
    by_base None = refl
    by_base (Some p) = refl

    base_name : (i : ℕ) → slice_get (names_before f k) i ≡ Some (Base place)
        → motions_in (slice_get (pictures_before f k) i) ≡ base_motions (slice_get bases place)
    base_name i is =
        motions_at i (Some (Base place)) is
        ∙ (ap (λ b. motions_in (option_map picture_of (slice_get b place)))
        (before ∙ ap (map as_base) (sym same))
        ∙ (ap (λ b. motions_in (option_map picture_of b)) (slice_get-map as_base (buffer_of bases) place)
        ∙ (ap (λ b. motions_in (option_map picture_of (option_map as_base b))) (slice_get-map decoded_of bases place)
        ∙ by_base (slice_get bases place))))

  -- a picture of the flight
  by_plan : (j : ℕ) (o : Option PicturePlan) → slice_get f.pictures j ≡ o
      → motions_in (option_map picture_of
      (option_map (λ p. kept_as p (known_decoded (pictures_before f j) p)) o))
      ≡ flight_motions f j o
  unfolding folded_at decoded_by
  by_plan j None is = refl
  by_plan j (Some p) is = sym (ap (λ o. (folded_in (pictures_before f j) o).motions) is)

  flight_name : (i j : ℕ) → slice_get (names_before f k) i ≡ Some (Flight j)
      → motions_in (slice_get (pictures_before f k) i) ≡ flight_motions f j (slice_get f.pictures j)
  flight_name i j is = motions_at i (Some (Flight j)) is ∙ by_plan j (slice_get f.pictures j) refl

  -- any of them
  pub reference_name : (bases held : List HeldPicture) → f.buffer ≡ map as_base (buffer_of held)
      → buffer_of bases ≡ buffer_of held → (i : ℕ) (r : Reference) → slice_get (names_before f k) i ≡ Some r
      → motions_in (slice_get (pictures_before f k) i) ≡ named_motions f bases r
  reference_name bases held before same i (Base place) is = base_name bases held before same place i is
  reference_name bases held before same i (Flight j) is = flight_name i j is
