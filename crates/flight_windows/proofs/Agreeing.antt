-- Pictures with the rows that are seen agree with those of the buffer, where the rows that are used are seen.
use Rattle.std.proofs.Common.{◌≡◌, refl, ℕ, ◌/◌, ◌^◌, true, if◌then◌else◌, List, length, ap, sym, subst, ◌∙◌}
use Rattle.std.proofs.Common.{Option, Some, None, slice_get, option_map}
use Rattle.std.proofs.lemmas.List.{length-map}
use Rattle.std.proofs.lemmas.Option.{none-some, same_Some, slice_get-map}
use Rattle.hv_base.specs.declared.line.Line.{Line}
use Rattle.hv_base.specs.declared.line.Phase.TheVariants.{S}
use Rattle.header_types.specs.declared.sps.BlockSizes.{BlockSizes}
use Rattle.header_types.specs.SequenceParameterSets.{ctb_log2}
use Rattle.plan_types.specs.declared.picture_plan.PicturePlan.{PicturePlan}
use Rattle.spec_picture_build.specs.References.{DecodedPicture, motions_in, motions_of}
use Rattle.sample_lines.specs.SpecDecoder.{BufferPicture, kept_as}
use Rattle.sample_lines.specs.LocalityLaws.{luma_line}
use Rattle.flight_plan.specs.declared.row_range.Reference.{Reference}
use Rattle.flight_plan.specs.declared.row_range.Reference.TheVariants.{Base, Flight}
use Rattle.board_core.specs.Places.{line_of}
use Rattle.board_core.specs.Uses.{UnitUses}
use Rattle.sample_lines.specs.SpecFlights.{PlannedFlight, buffer_before, known_decoded, pictures_before}
use Rattle.sample_lines.specs.SpecFlights.{names_before, picture_named}
use Rattle.sample_lines.specs.SpecFlights.{flight_rows}
use Rattle.sample_lines.specs.FactsOfFlights.{IsPlanned}
use Rattle.sample_lines.specs.FactsOfFlights.{BuffersAgree, NamedAgree, PicturesAgree}
use Rattle.sample_lines.proofs.FactsOfFlights.{all_named}
use Rattle.flight_windows.specs.Pictures.{base_picture, flight_picture, seen_picture, seen_pictures, seen_samples}
use Rattle.flight_windows.specs.Pictures.{with_seen}
use Rattle.flight_windows.specs.Seen.{SeenFlags, is_seen}

module _ (f : PlannedFlight) (k : ℕ) (seen : SeenFlags) where
  abbrev names : List Reference
  names = names_before f k

  abbrev buffer : List BufferPicture
  buffer = buffer_before f k

  -- a name stands for the picture of the buffer at its place
  named_at : (i : ℕ) → option_map (picture_named f) (slice_get names i) ≡ option_map Some (slice_get buffer i)
  named_at i =
      sym (slice_get-map (picture_named f) names i)
      ∙ (ap (λ (l : List (Option BufferPicture)). slice_get l i) (all_named f k) ∙ slice_get-map Some buffer i)

  -- and has its motion
  flight_motion : (j : ℕ) (o : Option PicturePlan) (b : BufferPicture)
      → option_map (λ (p : PicturePlan). kept_as p (known_decoded (pictures_before f j) p)) o ≡ Some b
      → (flight_picture f seen j o).motions ≡ b.picture.motions
  flight_motion j None b e = absurd (none-some b e)
  flight_motion j (Some q) b e =
      ap (λ (z : BufferPicture). z.picture.motions)
      (same_Some (kept_as q (known_decoded (pictures_before f j) q)) b e)

  named_motion : (r : Reference) (b : BufferPicture) → picture_named f r ≡ Some b
      → (seen_picture f seen r).motions ≡ b.picture.motions
  unfolding seen_picture
  named_motion (Base place) b e = ap (λ (o : Option BufferPicture). (base_picture o).motions) e
  named_motion (Flight j) b e = flight_motion j (slice_get f.pictures j) b e

  motion_by : (r : Option Reference) (o : Option BufferPicture)
      → option_map (picture_named f) r ≡ option_map Some o
      → motions_in (option_map (seen_picture f seen) r) ≡ motions_in (option_map (λ (b : BufferPicture). b.picture) o)
  motion_by None None e = refl
  motion_by None (Some b) e = absurd (none-some (Some b) e)
  motion_by (Some r) None e = absurd (none-some (picture_named f r) (sym e))
  motion_by (Some r) (Some b) e = named_motion r b (same_Some (picture_named f r) (Some b) e)

  motion_at : (i : ℕ)
      → motions_in (slice_get (seen_pictures f k seen) i) ≡ motions_in (slice_get (pictures_before f k) i)
  motion_at i =
      ap (λ (o : Option DecodedPicture). motions_in o) (slice_get-map (seen_picture f seen) names i)
      ∙ (motion_by (slice_get names i) (slice_get buffer i) (named_at i)
      ∙ sym (ap (λ (o : Option DecodedPicture). motions_in o)
      (slice_get-map (λ (b : BufferPicture). b.picture) buffer i)))

  pub same_motions : motions_of (seen_pictures f k seen) ≡ motions_of (pictures_before f k)
  same_motions = λ t i. motion_at i t

  -- the picture of the buffer that a name stands for
  picture_by : (i : ℕ) (r : Reference) (a : DecodedPicture) (o : Option BufferPicture) → slice_get names i ≡ Some r
      → slice_get buffer i ≡ o → option_map (λ (b : BufferPicture). b.picture) o ≡ Some a
      → (b : BufferPicture) × (picture_named f r ≡ Some b) × (b.picture ≡ a)
  picture_by i r a None name is e = absurd (none-some a e)
  picture_by i r a (Some b) name is e =
      let told : Some (picture_named f r) ≡ Some (Some b) =
      sym (ap (option_map (picture_named f)) name) ∙ (named_at i ∙ ap (option_map Some) is) in
      (b, same_Some (picture_named f r) (Some b) told, same_Some b.picture a e)

  picture_is : (i : ℕ) (r : Reference) (a : DecodedPicture) → slice_get names i ≡ Some r
      → slice_get (pictures_before f k) i ≡ Some a
      → (b : BufferPicture) × (picture_named f r ≡ Some b) × (b.picture ≡ a)
  picture_is i r a name has =
      picture_by i r a (slice_get buffer i) name refl
      (sym (slice_get-map (λ (b : BufferPicture). b.picture) buffer i) ∙ has)

  module _ (planned : IsPlanned f) (p : PicturePlan) (has : slice_get f.pictures k ≡ Some p) (l : Line) (x : ℕ)
      (all : (j row : ℕ) → UnitUses (flight_rows f) l x (line_of S j row) 0 → is_seen seen j row ≡ true) where
    -- a picture of the flight
    samples_same : (j : ℕ) (q : PicturePlan) → slice_get f.pictures j ≡ Some q → (a : DecodedPicture) (c y z : ℕ)
        → UnitUses (flight_rows f) l x (line_of S j (luma_line c z / 2 ^ ctb_log2 p.sps.blocks)) 0
        → a.samples c y z ≡ (with_seen seen j q a).samples c y z
    unfolding seen_samples
    samples_same j q there a c y z uses =
        let here : is_seen seen j (luma_line c z / 2 ^ ctb_log2 q.sps.blocks) ≡ true =
        subst (λ (b : BlockSizes). is_seen seen j (luma_line c z / 2 ^ ctb_log2 b) ≡ true)
        (planned.blocks k j p q has there) (all j (luma_line c z / 2 ^ ctb_log2 p.sps.blocks) uses) in
        ap (λ t. if t then a.samples c y z else 0) (sym here)

    flight_agrees : (j : ℕ) (b : BufferPicture) (o : Option PicturePlan) → slice_get f.pictures j ≡ o
        → option_map (λ (q : PicturePlan). kept_as q (known_decoded (pictures_before f j) q)) o ≡ Some b
        → PicturesAgree f l x j p b.picture (flight_picture f seen j o)
    flight_agrees j b None there e = absurd (none-some b e)
    flight_agrees j b (Some q) there e =
        let a : DecodedPicture = known_decoded (pictures_before f j) q in
        let same : a ≡ b.picture = ap (λ (z : BufferPicture). z.picture) (same_Some (kept_as q a) b e) in
        let agree : PicturesAgree f l x j p a (with_seen seen j q a) = record {
          format = refl;
          samples = samples_same j q there a;
          motions = λ y z uses. refl;
        } in
        subst (λ (d : DecodedPicture). PicturesAgree f l x j p d (with_seen seen j q a)) same agree

    named_agrees : (r : Reference) (b : BufferPicture) → picture_named f r ≡ Some b
        → NamedAgree f l x p r b.picture (seen_picture f seen r)
    unfolding seen_picture
    named_agrees (Base place) b e = sym (ap base_picture e)
    named_agrees (Flight j) b e = flight_agrees j b (slice_get f.pictures j) refl e

    each_agrees : (i : ℕ) (r : Reference) (a b : DecodedPicture) → slice_get names i ≡ Some r
        → slice_get (pictures_before f k) i ≡ Some a → slice_get (seen_pictures f k seen) i ≡ Some b
        → NamedAgree f l x p r a b
    each_agrees i r a b name mine other =
        let found = picture_is i r a name mine in
        let seen_is : seen_picture f seen r ≡ b =
        same_Some (seen_picture f seen r) b
        (sym (slice_get-map (seen_picture f seen) names i ∙ ap (option_map (seen_picture f seen)) name) ∙ other) in
        subst (λ (d : DecodedPicture). NamedAgree f l x p r d b) found.2
        (subst (λ (d : DecodedPicture). NamedAgree f l x p r found.0.picture d) seen_is
        (named_agrees r found.0 found.1))

    as_many : length (seen_pictures f k seen) ≡ length (pictures_before f k)
    as_many =
        length-map names (seen_picture f seen)
        ∙ (sym (length-map names (picture_named f))
        ∙ (ap (λ (n : List (Option BufferPicture)). length n) (all_named f k)
        ∙ (length-map buffer Some ∙ sym (length-map buffer (λ (b : BufferPicture). b.picture)))))

    pub seen_agree : BuffersAgree f l x k p (seen_pictures f k seen)
    seen_agree = record { long = as_many; each = each_agrees }
