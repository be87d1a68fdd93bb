-- A flight that is worked off on a board.
use Rattle.std.proofs.Common.{◌≡◌, ℕ, zero, suc, ◌+◌, ◌<◌, ◌≤◌, inl, inr, List, [], ◌∷◌, ◌++◌, All, Option, Some}
use Rattle.std.proofs.Common.{length, slice_get, take, drop, refl, sym, ap, subst, ◌∙◌, arith}
use Rattle.std.specs.Prelude.{slice_index}
use Rattle.std.proofs.lemmas.Bool.{cases_lt}
use Rattle.std.proofs.lemmas.Option.{slice_get_within}
use Rattle.std.proofs.Math.Seq.{take-append_seam}
use Rattle.hv_base.specs.declared.refusal.Stop.{Stop}
use Rattle.plan_types.specs.declared.picture_plan.PicturePlan.{PicturePlan}
use Rattle.picture_buffer.specs.Pictures.{HeldPicture}
use Rattle.flight_ranges.specs.PictureBuild.{decoded_of}
use Rattle.sample_words.specs.declared.sizes.FlightSizes.{FlightSizes}
use Rattle.sample_words.specs.Words.{fault_word, first_unit_word, lines, words}
use Rattle.row_workers.specs.SpecDecodedPictures.{picture_decoded}
use Rattle.progress_words.specs.declared.pass.Pass.{Pass}
use Rattle.progress_words.specs.declared.view.View.{View}
use Rattle.progress_words.specs.Core.{fault_in}
use Rattle.progress_words.specs.Meanings.{fault_word as board_fault_word}
use Rattle.progress_words.specs.Passes.{view}
use Rattle.progress_words.specs.Places.{Place}
use Rattle.progress_words.specs.Views.{opener, seen_of}
use Rattle.flight_ranges.specs.FlightUnitLaws.{IsPlanned}
use Rattle.flight_lines.specs.Flights.{meaning_of}
use Rattle.flight_lines.specs.Held.{IsClosed}
use Rattle.flight_lines.proofs.Placed.{fault_place as fault_place_of}
use Rattle.line_words.specs.Passes.{AreAllSound}
use Rattle.row_workers.specs.SpecFlights.{PlannedFlight, known_decoded, pictures_before}
use Rattle.flight_ranges.specs.FlightFacts.{FlightFacts}
use Rattle.flight_ranges.specs.FlightFacts.{board_flight, flight_meaning}
use Rattle.flight_ranges.specs.FlightFacts.{flight_in}
use Rattle.flight_ranges.specs.FlightFacts.{IsOfFlight}
use Rattle.flight_ranges.specs.FlightFacts.{HoldsPictures}
use Rattle.row_workers.specs.FlightWorkers.{MayFan}
use Rattle.flight_results.specs.Flights.{DecodesFlight}
use Rattle.flight_results.specs.Stopped.{AreHeld, StopsFlight, TellsStop}
use Rattle.flight_results.proofs.Flights.{not_both}
use Rattle.row_workers.specs.FlightViews.{FlightViews}
use Rattle.row_workers.specs.FlightViews.{IsViewOf}
use Rattle.row_workers.specs.declared.row_worker.RowWorker.{RowWorker}
use Rattle.row_workers.specs.Workers.{IsReadyIn}
use Rattle.taken_flights.specs.TakenPictures.{held_picture}
use Rattle.taken_flights.specs.Taken.{AreDecoded, AreParts, AreSized, AreTaken, IsBroken, Part, StopsInside}
use Rattle.row_jobs.specs.Boards.{ArePictures, IsFaultWord, IsOpener, IsWorkedOff, MayBegin}

-- an item of a list
item_at : {X : Type 0} (xs : List X) (k : ℕ) → k < length xs → (x : X) × (slice_get xs k ≡ Some x)
item_at [] k less = absurd (omega (arith, less))
item_at (x ∷ xs) zero less = (x, refl)
item_at (x ∷ xs) (suc k) less = let more : k < length xs = omega (arith, less) in item_at xs k more

-- ---- how a board is laid out

fault_below : (s : FlightSizes) → fault_word s < words s
unfolding fault_word words first_unit_word
fault_below s = omega arith

module _ (facts : FlightFacts) (s : FlightSizes) (is : IsOfFlight facts s) where
  pub as_many_lines : lines s ≡ (flight_meaning (flight_in facts)).lines
  unfolding meaning_of
  as_many_lines = ap lines is.sizes

  pub as_many_words : words s ≡ (flight_meaning (flight_in facts)).total
  unfolding meaning_of
  as_many_words = ap words is.sizes

  pub fault_inside : fault_word s < (flight_meaning (flight_in facts)).total
  fault_inside = subst (λ n. fault_word s < n) as_many_words (fault_below s)

  pub fault_place : fault_word s ≡ board_fault_word (flight_meaning (flight_in facts))
  fault_place = ap fault_word is.sizes ∙ fault_place_of (board_flight (flight_in facts))

  -- the fault word of the closed board
  pub fault_of : (given : List ℕ) → IsClosed (flight_meaning (flight_in facts)) given
      → ((f : PlannedFlight) → IsPlanned f → (words : List ℕ) → IsClosed (flight_meaning f) words
      → HoldsPictures f words)
      → (place : ℕ) → place ≡ fault_word s → (word : ℕ) → word ≡ slice_index given place
      → IsFaultWord (flight_in facts) word
  fault_of given closed holds place at word told =
      record {
        words = given;
        holds = holds (flight_in facts) is.planned given closed;
        is = told ∙ ap (slice_index given) (at ∙ fault_place);
      }

-- ---- the pass of a board

module _ (b : Place FlightFacts) (s : FlightSizes) (p : Pass FlightFacts) (first : IsOpener b s p) where
  sound_first : AreAllSound (flight_meaning (flight_in b.flight)) (opener b.flight)
  sound_first l k less = absurd (omega (arith, less))

  pub may_fan : (views : FlightViews) (worker : RowWorker) (others : List RowWorker) → IsViewOf b.flight views
      → MayBegin views worker → All (MayBegin views) others → length others + 1 ≤ 64
      → MayFan (λ w facts seen. IsReadyIn w facts seen) b s p worker others
  may_fan views worker others is ready all few =
      let splits : (view p).splits ≡ 0 = ap (λ (v : View FlightFacts). v.splits) first.opens in
      record {
        first = record {
          flight = first.flight;
          fresh = record {
            own = first.own;
            known =
                subst (λ (v : View FlightFacts). AreAllSound (flight_meaning (flight_in b.flight)) v)
                (sym first.opens) sound_first;
            job = ap (λ (v : View FlightFacts). v.job) first.opens;
            none = ap (λ (v : View FlightFacts). v.none) first.opens;
          };
          stands = ready b.flight (seen_of (view p)) is;
        };
        all = λ k d inside. all k d inside b.flight (seen_of (view p)) is;
        opens = ap (λ (v : View FlightFacts). v.opens) first.opens;
        few = omega (arith, splits, few);
      }

  -- the same for a board and a layout that are lent
  pub may_fan_on : (c : Place FlightFacts) → c ≡ b → (t : FlightSizes) → t ≡ s → (views : FlightViews)
      (worker : RowWorker) (others : List RowWorker) → IsViewOf b.flight views → MayBegin views worker
      → All (MayBegin views) others → length others + 1 ≤ 64
      → MayFan (λ w facts seen. IsReadyIn w facts seen) c t p worker others
  may_fan_on c lent t laid views worker others is ready all few =
      let fan = may_fan views worker others is ready all few in
      let there : MayFan (λ w facts seen. IsReadyIn w facts seen) c s p worker others =
      subst (λ (d : Place FlightFacts). MayFan (λ w facts seen. IsReadyIn w facts seen) d s p worker others) (sym lent)
      fan in
      subst (λ (r : FlightSizes). MayFan (λ w facts seen. IsReadyIn w facts seen) c r p worker others) (sym laid) there

-- ---- what a closed board tells

module _ (f : PlannedFlight) (word : ℕ) (fault : IsFaultWord f word)
    (closed : (words : List ℕ) → HoldsPictures f words → TellsStop f (fault_in (flight_meaning f) words)) where
  pub tells : TellsStop f word
  tells = subst (TellsStop f) (sym fault.is) (closed fault.words fault.holds)

  module _ (plans : List PicturePlan) (parts taken : List Part) (n : ℕ) (are : AreTaken f 0 plans parts taken n)
      (inside : (words : List ℕ) (picture : ℕ) → HoldsPictures f words → IsBroken f picture
      → StopsInside f words picture) where
    -- no more pictures are decoded than were taken
    few : (count : ℕ) (stop : Option Stop) → StopsFlight f count stop → n < length parts → count ≤ n
    few count stop stops less =
        let here : 0 + n ≡ n = omega arith in
        let at = inside fault.words n fault.holds (subst (IsBroken f) here (are.stopped less)) in
        let d = at.rule.stops in
        elim (cases_lt n count) [
          | inl more ↦
              absurd (not_both (picture_decoded (pictures_before f d.picture) d.plan)
              (known_decoded (pictures_before f d.picture) d.plan) d.broken
              (stops.before d.picture d.plan (omega (arith, more, at.inside)) d.has) d.stops)
          | inr most ↦ most
        ]

    held : (count : ℕ) (stop : Option Stop) → StopsFlight f count stop → AreDecoded f 0 plans taken count
    held count stop stops k p part less has got =
        elim (cases_lt n (length parts)) [
          | inl some ↦ are.decoded k p part (omega (arith, less, few count stop stops some)) has got
          | inr all ↦
              are.decoded k p part
              (omega (arith, all, are.as_many, slice_get_within taken k part got)) has got
        ]

    pub worked_off : IsWorkedOff f plans parts taken word
    worked_off = record { as_many = are.as_many; sized = are.sized; tells = tells; held = held }

-- ---- the pictures

pub are_held : (f : PlannedFlight) (parts : List Part) (count : ℕ) (pictures : List HeldPicture)
    → count ≤ length parts → AreDecoded f 0 f.pictures parts count → ArePictures f.pictures parts count pictures
    → AreHeld f pictures
are_held f parts count pictures few decoded are k p picture has got =
    let less : k < count = omega (arith, slice_get_within pictures k picture got, are.as_many) in
    let at = item_at parts k (omega (arith, less, few)) in
    let here : 0 + k ≡ k = omega arith in
    ap decoded_of (are.each k p at.0 picture has at.1 got)
    ∙ subst
    (λ (n : ℕ). decoded_of (held_picture p.sps.format at.0.0 at.0.1) ≡ known_decoded (pictures_before f n) p) here
    (decoded k p at.0 less has at.1)

-- what stands in a vector whose items were lent as a slice
pub lent_back : {X : Type 0} (xs ws : List X) (n : ℕ) → length ws ≡ length xs → n ≡ length xs
    → take n (ws ++ drop (length ws) xs) ≡ ws
lent_back {X} xs ws n e many =
    subst (λ (k : ℕ). take k (ws ++ drop (length ws) xs) ≡ ws) (e ∙ sym many)
    (take-append_seam ws (drop (length ws) xs))

-- parts of the sizes of the pictures of a flight
pub are_parts : (f g : PlannedFlight) → f ≡ g → (plans : List PicturePlan) → plans ≡ g.pictures → (parts : List Part)
    → length parts ≡ length plans → AreSized plans parts → AreParts f 0 plans parts
are_parts f g stands plans same parts count sized =
    record {
      count = sym count;
      planned = λ k p has.
          let here : k ≡ 0 + k = omega arith in
          let pictures : plans ≡ f.pictures = same ∙ ap (λ (h : PlannedFlight). h.pictures) (sym stands) in
          subst (λ (n : ℕ). slice_get f.pictures n ≡ Some p) here
          (subst (λ (ps : List PicturePlan). slice_get ps k ≡ Some p) pictures has);
      sized = sized;
    }

-- the pictures of a flight that was worked off, up to where it stops
pub on_board : (f g : PlannedFlight) → f ≡ g → (plans : List PicturePlan) → plans ≡ g.pictures
    → (parts taken : List Part) (word count : ℕ) (stop : Option Stop) (pictures : List HeldPicture)
    → length parts ≡ length plans → IsWorkedOff f plans parts taken word → StopsFlight g count stop
    → ArePictures plans taken count pictures
    → ((h : PlannedFlight) (held : List HeldPicture) (fault : Option Stop) → StopsFlight h (length held) fault
    → AreHeld h held → DecodesFlight h held fault)
    → DecodesFlight g pictures stop
on_board f g stands plans same parts taken word count stop pictures many worked stops are decodes =
    let within : StopsFlight f count stop =
    subst (λ (h : PlannedFlight). StopsFlight h count stop) (sym stands) stops in
    let decoded : AreDecoded g 0 plans taken count =
    subst (λ (h : PlannedFlight). AreDecoded h 0 plans taken count) stands (worked.held count stop within) in
    let few : count ≤ length g.pictures = stops.few in
    let sizes : length plans ≡ length g.pictures = ap length same in
    let taken_many = worked.as_many in
    decodes g pictures stop
    (subst (λ (n : ℕ). StopsFlight g n stop) (sym are.as_many) stops)
    (are_held g taken count pictures (omega (arith, few, sizes, taken_many, many))
    (subst (λ (ps : List PicturePlan). AreDecoded g 0 ps taken count) same decoded)
    (subst (λ (ps : List PicturePlan). ArePictures ps taken count pictures) same are))
