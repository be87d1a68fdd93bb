-- A flight that is decoded, beside the definitions of flights.
use Rattle.std.proofs.Common.{◌≡◌, ℕ, zero, suc, ◌+◌, ◌<◌, ◌≤◌, true, false, Bool, List, [], ◌∷◌, ◌++◌, length}
use Rattle.std.proofs.Common.{drop, Option, Some, None, Result, Ok, Err, slice_get, if◌then◌else◌, inl, inr}
use Rattle.std.proofs.Common.{refl, sym, ap, subst, ◌∙◌, arith}
use Rattle.std.specs.Option.{unwrap_or}
use Rattle.std.specs.Prelude.{IsErrAnd}
use Rattle.std.proofs.lemmas.Bool.{cases_lt}
use Rattle.std.proofs.lemmas.List.{length-drop, map-append}
use Rattle.std.proofs.lemmas.Option.{slice_get_within}
use Rattle.std.proofs.lemmas.Result.{err_from_is_err_and}
use Rattle.hv_base.specs.declared.refusal.Stop.{Stop}
use Rattle.plan_types.specs.declared.picture_plan.PicturePlan.{PicturePlan}
use Rattle.picture_buffer.specs.Pictures.{HeldPicture}
use Rattle.flight_facts.specs.PictureBuildPictures.{decoded_of}
use Rattle.spec_picture_trees.specs.Picture.{PictureBroken}
use Rattle.spec_picture_build.specs.References.{DecodedPicture}
use Rattle.row_trees.specs.SpecDecodedPictures.{picture_decoded}
use Rattle.row_trees.specs.SpecDecoder.{BufferPicture, is_among, kept_as, kept_from, pictures_in, told}
use Rattle.board_core.specs.Runs.{IsLeastBad}
use Rattle.row_trees.specs.SpecFlights.{PlannedFlight, buffer_before, buffer_behind, known_decoded, pictures_before}
use Rattle.row_trees.specs.SpecFlights.{staying}
use Rattle.row_trees.specs.SpecFlights.{flight_rows, unit_number}
use Rattle.row_trees.specs.KnownPictureLaws.{IsDecodedAsKnown}
use Rattle.flight_facts.specs.FlightUnitLaws.{HaveSegments, IsDecodedAt, StopsDecoding}
use Rattle.flight_facts.specs.Boards.{flight_of}
use Rattle.flight_facts.proofs.Buffers.{bases_again}
use Rattle.flight_results.specs.Decoding.{Decodes, buffer_with}
use Rattle.flight_results.specs.Flights.{DecodesFlight, StopsAt, TellsLeast, TellsUnit}

-- the pictures that stay of a buffer
pub kept_pictures : (places : List ℕ) (n : ℕ) (buffer : List BufferPicture)
    → pictures_in (kept_from places n buffer) ≡ staying places n (pictures_in buffer)
unfolding staying kept_from
kept_pictures places n [] = refl
kept_pictures places n (b ∷ later) = by_place (is_among places n) (kept_pictures places (suc n) later)
  where
    by_place : (t : Bool)
        → pictures_in (kept_from places (suc n) later) ≡ staying places (suc n) (pictures_in later)
        → pictures_in (if t then b ∷ kept_from places (suc n) later else kept_from places (suc n) later)
        ≡ (if t then b.picture ∷ staying places (suc n) (pictures_in later)
        else staying places (suc n) (pictures_in later))
    by_place true e = ap (λ (ps : List DecodedPicture). b.picture ∷ ps) e
    by_place false e = e

-- what stands first behind a place
at_front : {X : Type 0} (xs : List X) (k : ℕ) (x : X) (later : List X) → drop k xs ≡ x ∷ later
    → (slice_get xs k ≡ Some x) × (drop (suc k) xs ≡ later) × (suc k ≤ length xs)
at_front [] zero x later e = absurd cc
at_front [] (suc k) x later e = absurd cc
at_front (y ∷ xs) zero x later e = (ap (λ l. slice_get l 0) e, ap (λ l. drop 1 l) e, omega arith)
at_front (y ∷ xs) (suc k) x later e =
    let r = at_front xs k x later e in
    (r.0, r.1, omega (arith, r.2))

item_at : {X : Type 0} (xs : List X) (k : ℕ) → k < length xs → (x : X) × (slice_get xs k ≡ Some x)
item_at [] k less = absurd (omega (arith, less))
item_at (x ∷ xs) zero less = (x, refl)
item_at (x ∷ xs) (suc k) less = let more : k < length xs = omega (arith, less) in item_at xs k more

pub not_both : {X Y : Type 0} (r : Result X Y) (x : X) (y : Y) → r ≡ Ok x → r ≡ Err y → ⊥
not_both {X} {Y} r x y e f =
    let ok : Result X Y = Ok x in
    let err : Result X Y = Err y in
    let h : ok ≡ err = sym e ∙ f in
    absurd cc

abbrev error_or : {X Y : Type 0} → Y → Result X Y → Y
error_or y (Ok x) = y
error_or y (Err z) = z

module _ (f : PlannedFlight)
    (known : (buffer : List DecodedPicture) (p : PicturePlan) → IsDecodedAsKnown buffer p (picture_decoded buffer p))
  where
    is_known : (buffer : List DecodedPicture) (p : PicturePlan) (picture : DecodedPicture)
        → picture_decoded buffer p ≡ Ok picture → picture ≡ known_decoded buffer p
    is_known buffer p picture e = (subst (IsDecodedAsKnown buffer p) e (known buffer p)).picture_is

    -- the pictures of the buffer behind one that is decoded
    behind : (k : ℕ) (p : PicturePlan) (picture : DecodedPicture) → slice_get f.pictures k ≡ Some p
        → picture_decoded (pictures_before f k) p ≡ Ok picture
        → pictures_before f (suc k) ≡ buffer_with p (pictures_before f k) picture
    unfolding buffer_before buffer_behind
    behind k p picture has e =
        let last : BufferPicture = kept_as p (known_decoded (pictures_before f k) p) in
        ap (λ (o : Option PicturePlan). pictures_in (buffer_behind (buffer_before f k) o)) has
        ∙ kept_pictures p.outputs.kept 0 (buffer_before f k ++ last ∷ [])
        ∙ ap (staying p.outputs.kept 0)
        (map-append (λ (b : BufferPicture). b.picture) (buffer_before f k) (last ∷ []))
        ∙ ap (λ (d : DecodedPicture). staying p.outputs.kept 0 (pictures_before f k ++ d ∷ []))
        (sym (is_known (pictures_before f k) p picture e))

    -- from a place on
    record From (k : ℕ) (pictures : List HeldPicture) (fault : Option Stop) : Type 0 where
      pub few : k + length pictures ≤ length f.pictures
      pub decoded : (j : ℕ) (p : PicturePlan) (picture : HeldPicture) → slice_get f.pictures (k + j) ≡ Some p
          → slice_get pictures j ≡ Some picture
          → picture_decoded (pictures_before f (k + j)) p ≡ Ok (decoded_of picture)
      pub stops : StopsAt f (k + length pictures) fault

    first_of : (k j : ℕ) (p q : PicturePlan) (picture first : HeldPicture) (later : List HeldPicture)
        → slice_get f.pictures k ≡ Some p → picture_decoded (pictures_before f k) p ≡ Ok (decoded_of first)
        → ((i : ℕ) (r : PicturePlan) (h : HeldPicture) → slice_get f.pictures (suc k + i) ≡ Some r
        → slice_get later i ≡ Some h → picture_decoded (pictures_before f (suc k + i)) r ≡ Ok (decoded_of h))
        → slice_get f.pictures (k + j) ≡ Some q → slice_get (first ∷ later) j ≡ Some picture
        → picture_decoded (pictures_before f (k + j)) q ≡ Ok (decoded_of picture)
    first_of k zero p q picture first later has e more other got =
        let none : k + 0 ≡ k = omega arith in
        let at_k : slice_get f.pictures k ≡ Some q = subst (λ n. slice_get f.pictures n ≡ Some q) none other in
        let same : p ≡ q = ap (λ o. unwrap_or o p) (sym has ∙ at_k) in
        let held : first ≡ picture = ap (λ o. unwrap_or o first) got in
        subst (λ n. picture_decoded (pictures_before f n) q ≡ Ok (decoded_of picture)) (sym none)
        (subst (λ (r : PicturePlan). picture_decoded (pictures_before f k) r ≡ Ok (decoded_of picture)) same
        (subst (λ (h : HeldPicture). picture_decoded (pictures_before f k) p ≡ Ok (decoded_of h)) held e))
    first_of k (suc j) p q picture first later has e more other got =
        let on : k + suc j ≡ suc k + j = omega arith in
        subst (λ n. picture_decoded (pictures_before f n) q ≡ Ok (decoded_of picture)) (sym on)
        (more j q picture (subst (λ n. slice_get f.pictures n ≡ Some q) on other) got)

    from : (k : ℕ) (plan : List PicturePlan) (pictures : List HeldPicture) (fault : Option Stop)
        → k ≤ length f.pictures → drop k f.pictures ≡ plan → Decodes (pictures_before f k) plan pictures fault
        → From k pictures fault
    from k [] [] fault le e d =
        let end : k + 0 ≡ length f.pictures = omega (arith, le, length-drop k f.pictures, ap length e) in
        record {
          few = omega (arith, le);
          decoded = λ j p picture has got. absurd cc;
          stops = subst (StopsAt f (k + 0)) (sym d) end;
        }
    from k [] (picture ∷ pictures) fault le e d = absurd d
    from k (p ∷ plan) [] fault le e d =
        let at = at_front f.pictures k p plan e in
        let r = err_from_is_err_and (picture_decoded (pictures_before f k) p) d in
        let none : k ≡ k + 0 = omega arith in
        record {
          few = omega (arith, le);
          decoded = λ j q picture has got. absurd cc;
          stops =
              subst (λ n. StopsAt f n fault) none
              (subst (StopsAt f k) (sym r.2) (p, r.0, at.0, r.1, refl));
        }
    from k (p ∷ plan) (picture ∷ pictures) fault le e d =
        let at = at_front f.pictures k p plan e in
        let rest = from (suc k) plan pictures fault at.2 at.1
        (subst (λ (b : List DecodedPicture). Decodes b plan pictures fault)
        (sym (behind k p (decoded_of picture) at.0 d.0)) d.1) in
        let on : suc k + length pictures ≡ k + length (picture ∷ pictures) = omega arith in
        record {
          few = omega (arith, rest.few);
          decoded = λ j q held has got.
              first_of k j p q held picture pictures at.0 d.0 rest.decoded has got;
          stops = subst (λ n. StopsAt f n fault) on rest.stops;
        }

    whole : (pictures : List HeldPicture) (fault : Option Stop)
        → Decodes (pictures_before f 0) f.pictures pictures fault
        → DecodesFlight f pictures fault
    whole pictures fault d =
        let r = from 0 f.pictures pictures fault (omega arith) refl d in
        let zero_on : (n : ℕ) → 0 + n ≡ n = λ n. omega arith in
        record {
          few = omega (arith, r.few);
          decoded = λ k p picture has got.
              subst (λ n. picture_decoded (pictures_before f n) p ≡ Ok (decoded_of picture)) (zero_on k)
              (r.decoded k p picture (subst (λ n. slice_get f.pictures n ≡ Some p) (sym (zero_on k)) has) got);
          stops = subst (λ n. StopsAt f n fault) (zero_on (length pictures)) r.stops;
        }

    -- and the other way round
    no_more : (k : ℕ) (fault : Option Stop) → length f.pictures ≤ k → StopsAt f (k + 0) fault → fault ≡ None
    no_more k None past stops = refl
    no_more k (Some s) past (p, broken, has, e, is) =
        absurd (omega (arith, past, slice_get_within f.pictures (k + 0) p has))

    stopped : (k : ℕ) (p : PicturePlan) (fault : Option Stop) → k < length f.pictures → slice_get f.pictures k ≡ Some p
        → StopsAt f (k + 0) fault
        → IsErrAnd (picture_decoded (pictures_before f k) p) (λ broken. fault ≡ Some (told broken))
    stopped k p None less has stops = absurd (omega (arith, less, stops))
    stopped k p (Some s) less has (q, broken, other, e, is) =
        let none : k + 0 ≡ k = omega arith in
        let at_k : slice_get f.pictures k ≡ Some q = subst (λ n. slice_get f.pictures n ≡ Some q) none other in
        let same : q ≡ p = ap (λ o. unwrap_or o q) (sym at_k ∙ has) in
        let stops : picture_decoded (pictures_before f k) p ≡ Err broken =
        subst (λ n. picture_decoded (pictures_before f n) p ≡ Err broken) none
        (subst (λ (r : PicturePlan). picture_decoded (pictures_before f (k + 0)) r ≡ Err broken) same e) in
        subst (λ (r : Result DecodedPicture PictureBroken). IsErrAnd r (λ b. Some s ≡ Some (told b))) (sym stops)
        (ap (λ (t : Stop). let o : Option Stop = Some t in o) is)

    from_next : (k : ℕ) (picture : HeldPicture) (pictures : List HeldPicture) (fault : Option Stop)
        → From k (picture ∷ pictures) fault → From (suc k) pictures fault
    from_next k picture pictures fault r =
        let on : (n : ℕ) → k + suc n ≡ suc k + n = λ n. omega arith in
        record {
          few = omega (arith, r.few);
          decoded = λ j p held has got.
              subst (λ n. picture_decoded (pictures_before f n) p ≡ Ok (decoded_of held)) (on j)
              (r.decoded (suc j) p held (subst (λ n. slice_get f.pictures n ≡ Some p) (sym (on j)) has) got);
          stops = subst (λ n. StopsAt f n fault) (on (length pictures)) r.stops;
        }

    in_order : (k : ℕ) (plan : List PicturePlan) (pictures : List HeldPicture) (fault : Option Stop)
        → drop k f.pictures ≡ plan → From k pictures fault → Decodes (pictures_before f k) plan pictures fault
    in_order k [] [] fault e r =
        let past : length f.pictures ≤ k = omega (arith, length-drop k f.pictures, ap length e) in
        no_more k fault past r.stops
    in_order k [] (picture ∷ pictures) fault e r =
        absurd (omega (arith, r.few, length-drop k f.pictures, ap length e))
    in_order k (p ∷ plan) [] fault e r =
        let at = at_front f.pictures k p plan e in
        stopped k p fault (omega (arith, at.2)) at.0 r.stops
    in_order k (p ∷ plan) (picture ∷ pictures) fault e r =
        let at = at_front f.pictures k p plan e in
        let none : k + 0 ≡ k = omega arith in
        let here : picture_decoded (pictures_before f k) p ≡ Ok (decoded_of picture) =
        subst (λ n. picture_decoded (pictures_before f n) p ≡ Ok (decoded_of picture)) none
        (r.decoded 0 p picture (subst (λ n. slice_get f.pictures n ≡ Some p) (sym none) at.0) refl) in
        let rest = in_order (suc k) plan pictures fault at.1 (from_next k picture pictures fault r) in (
          here,
          subst (λ (b : List DecodedPicture). Decodes b plan pictures fault)
              (behind k p (decoded_of picture) at.0 here) rest,
        )

    ordered : (pictures : List HeldPicture) (fault : Option Stop) → DecodesFlight f pictures fault
        → Decodes (pictures_before f 0) f.pictures pictures fault
    ordered pictures fault d =
        let zero_on : (n : ℕ) → n ≡ 0 + n = λ n. omega arith in
        in_order 0 f.pictures pictures fault refl (record {
          few = omega (arith, d.few);
          decoded = λ k p picture has got.
              subst (λ n. picture_decoded (pictures_before f n) p ≡ Ok (decoded_of picture)) (zero_on k)
              (d.decoded k p picture (subst (λ n. slice_get f.pictures n ≡ Some p) (sym (zero_on k)) has) got);
          stops = subst (λ n. StopsAt f n fault) (zero_on (length pictures)) d.stops;
        })

module _ (plan : List PicturePlan) (bases : List DecodedPicture) (pictures : List HeldPicture) (fault : Option Stop)
    (known : (buffer : List DecodedPicture) (p : PicturePlan) → IsDecodedAsKnown buffer p (picture_decoded buffer p))
  where
    first : pictures_before (flight_of plan bases) 0 ≡ bases
    unfolding buffer_before
    first = bases_again bases

    pub flight_decoded : Decodes bases plan pictures fault → DecodesFlight (flight_of plan bases) pictures fault
    flight_decoded d =
        whole (flight_of plan bases) known pictures fault
        (subst (λ (b : List DecodedPicture). Decodes b plan pictures fault) (sym first) d)

    pub decoded_in_order : DecodesFlight (flight_of plan bases) pictures fault → Decodes bases plan pictures fault
    decoded_in_order d =
        subst (λ (b : List DecodedPicture). Decodes b plan pictures fault) first
        (ordered (flight_of plan bases) known pictures fault d)

-- ---- the least bad unit

module _ (f : PlannedFlight) (pictures : List HeldPicture) where
  no_stop : (fault : Option Stop) → StopsAt f (length pictures) fault
      → ((k : ℕ) (p : PicturePlan) → slice_get f.pictures k ≡ Some p → IsDecodedAt f k p)
      → TellsLeast f pictures fault None
  no_stop None stops all = (refl, stops)
  no_stop (Some s) (p, broken, has, e, is) all =
      absurd (not_both (picture_decoded (pictures_before f (length pictures)) p)
      (known_decoded (pictures_before f (length pictures)) p) broken (all (length pictures) p has) e)

  module _ (u : ℕ) (s : StopsDecoding f u) where
    -- the picture of the unit wasn't decoded
    not_before : (fault : Option Stop) → DecodesFlight f pictures fault → s.picture < length pictures → ⊥
    not_before fault d less =
        let at = item_at pictures s.picture less in
        not_both (picture_decoded (pictures_before f s.picture) s.plan) (decoded_of at.0) s.broken
        (d.decoded s.picture s.plan at.0 s.has at.1) s.stops

    tells_it : (fault : Option Stop) → StopsAt f (length pictures) fault → length pictures ≤ s.picture
        → TellsUnit f pictures fault u
    tells_it None stops le = absurd (omega (arith, stops, le, slice_get_within f.pictures s.picture s.plan s.has))
    tells_it (Some x) (p, broken, has, e, is) le =
        elim (cases_lt (length pictures) s.picture) [
          | inl less ↦
              absurd (not_both (picture_decoded (pictures_before f (length pictures)) p)
              (known_decoded (pictures_before f (length pictures)) p) broken
              (s.before (length pictures) p less has) e)
          | inr most ↦ let n : ℕ = length pictures in
              let here : s.picture ≡ n = omega (arith, le, most) in
              let plan_at : slice_get f.pictures n ≡ Some s.plan =
              subst (λ k. slice_get f.pictures k ≡ Some s.plan) here s.has in
              let same : p ≡ s.plan = ap (λ o. unwrap_or o p) (sym has ∙ plan_at) in
              let stops : picture_decoded (pictures_before f n) s.plan ≡ Err s.broken =
              subst (λ k. picture_decoded (pictures_before f k) s.plan ≡ Err s.broken) here s.stops in
              let other : picture_decoded (pictures_before f n) s.plan ≡ Err broken =
              subst (λ (q : PicturePlan). picture_decoded (pictures_before f n) q ≡ Err broken) same e in
              let broken_is : broken ≡ s.broken = ap (error_or broken) (sym other ∙ stops) in
              record {
                plan = s.plan;
                broken = s.broken;
                has = plan_at;
                number = s.number ∙ ap (λ k. unit_number f k s.broken.ctu) here;
                rule = s.rule;
                tells = ap (λ (t : Stop). let o : Option Stop = Some t in o) (is ∙ ap told broken_is);
              }
        ]

  pub least_told : (fault : Option Stop) (u : Option ℕ) → DecodesFlight f pictures fault
      → ((g : PlannedFlight) → IsLeastBad (flight_rows g) None → (k : ℕ) (p : PicturePlan)
      → slice_get g.pictures k ≡ Some p → IsDecodedAt g k p)
      → ((g : PlannedFlight) (v : ℕ) → HaveSegments g → IsLeastBad (flight_rows g) (Some v) → StopsDecoding g v)
      → HaveSegments f → IsLeastBad (flight_rows f) u → TellsLeast f pictures fault u
  least_told fault None d none some segments least = no_stop fault d.stops (none f least)
  least_told fault (Some u) d none some segments least =
      let s = some f u segments least in
      elim (cases_lt s.picture (length pictures)) [
        | inl less ↦ absurd (not_before u s fault d less)
        | inr most ↦ tells_it u s fault d.stops most
      ]
