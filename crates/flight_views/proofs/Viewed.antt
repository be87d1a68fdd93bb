-- What is shared of a flight, and its pictures.
use Rattle.std.proofs.Common.{◌≡◌, refl, ℕ, ◌<◌, List, [], length, get_or, Some, slice_get, ap, sym, subst, ◌∙◌}
use Rattle.std.proofs.Common.{arith, inl, inr}
use Rattle.std.proofs.lemmas.List.{length-map}
use Rattle.std.proofs.lemmas.Option.{slice_get_cases, slice_get_read}
use Rattle.plan_types.specs.declared.picture_plan.PicturePlan.{PicturePlan}
use Rattle.picture_buffer.specs.Pictures.{HeldPicture}
use Rattle.row_waits.specs.PictureBuild.{buffer_of, decoded_of}
use Rattle.loop_filters.specs.Formats.{IsFormat}
use Rattle.flight_names.specs.SpecDecoder.{pictures_in}
use Rattle.flight_plan.specs.declared.row_range.Reference.{Reference}
use Rattle.flight_names.specs.SpecFlights.{PlannedFlight}
use Rattle.flight_names.specs.SpecFlights.{names_before}
use Rattle.row_waits.specs.FlightFacts.{FlightFacts}
use Rattle.row_waits.specs.FlightFacts.{as_base}
use Rattle.row_waits.specs.FlightFacts.{flight_in}
use Rattle.row_waits.specs.FlightFacts.{IsOfFlight}
use Rattle.row_waits.proofs.FlightFactsLemmas.{bases_again}
use Rattle.row_waits.specs.FlightWaits.{frame_rows}
use Rattle.flight_names.specs.Names.{all_names}
use Rattle.flight_names.proofs.Named.{named}
use Rattle.row_waits.specs.declared.picture_view.PictureView.{PictureView}
use Rattle.row_waits.specs.Pictures.{IsPictureOf}
use Rattle.flight_views.specs.declared.flight_views.FlightViews.{FlightViews}
use Rattle.flight_views.specs.declared.picture_formats.PictureFormats.{PictureFormats}
use Rattle.flight_views.specs.Layouts.{StandsFor}
use Rattle.flight_views.specs.Views.{AreFormats, IsFormatOf, IsShared, IsViewOf}

module _ (facts : FlightFacts) (plans : List PicturePlan) (bases : List HeldPicture)
    (stands : StandsFor facts plans bases) where
  same_plans : plans ≡ (flight_in facts).pictures
  same_plans = ap (λ (f : PlannedFlight). f.pictures) (sym stands)

  same_bases : buffer_of bases ≡ buffer_of facts.bases.value
  same_bases =
      sym (bases_again (buffer_of bases))
      ∙ (ap (λ (f : PlannedFlight). pictures_in f.buffer) (sym stands) ∙ bases_again (buffer_of facts.bases.value))

  as_many : length bases ≡ length (flight_in facts).buffer
  as_many =
      sym (length-map bases decoded_of)
      ∙ (sym (length-map (buffer_of bases) as_base) ∙ ap (λ (f : PlannedFlight). length f.buffer) (sym stands))

  -- what is read of plans and bases is of the flight that stands for them
  pub viewed : (views : FlightViews) → IsOfFlight facts views.layout → views.plans.now ≡ plans
      → views.bases.now ≡ bases → views.names ≡ all_names plans (length bases) → views.frame ≡ frame_rows plans
      → AreFormats plans views.formats.items → IsViewOf facts views
  viewed views flight own_plans own_bases names frame formats = record {
    flight = flight;
    plans = own_plans ∙ same_plans;
    bases = ap buffer_of own_bases ∙ same_bases;
    names =
        names
        ∙ (ap (λ (ps : List PicturePlan). all_names ps (length bases)) same_plans
        ∙ ap (λ (n : ℕ). all_names (flight_in facts).pictures n) as_many);
    frame = frame ∙ ap frame_rows same_plans;
    formats = subst (λ (ps : List PicturePlan). AreFormats ps views.formats.items) same_plans formats;
  }

module _ (views : FlightViews) where
  -- there are formats of as many pictures
  pub as_many_formats : IsShared views → length views.formats.items ≡ length views.plans.now
  as_many_formats shared = shared.view.formats.count ∙ ap length (sym shared.view.plans)

  module _ (facts : FlightFacts) (view : IsViewOf facts views) (place : ℕ) (inside : place < length views.plans.now)
    where
      within : place < length (flight_in facts).pictures
      within = let many = ap length view.plans in omega (arith, inside, many)

      plan_there : (p : PicturePlan) → p ≡ get_or views.plans.now place p
          → slice_get (flight_in facts).pictures place ≡ Some p
      plan_there p is =
          ap (λ (ps : List PicturePlan). slice_get ps place) (sym view.plans)
          ∙ slice_get_read views.plans.now (length views.plans.now) place p refl inside is

      -- the formats at its place are those of its plan
      pub format_there : (p : PicturePlan) (f : PictureFormats) → slice_get views.plans.now place ≡ Some p
          → f ≡ get_or views.formats.items place f → IsFormatOf p f
      format_there p f plan is =
          let many = view.formats.count in
          let low : place < length views.formats.items =
          let less = within in
          omega (arith, less, many) in
          view.formats.each place p f (ap (λ (ps : List PicturePlan). slice_get ps place) (sym view.plans) ∙ plan)
          (slice_get_read views.formats.items (length views.formats.items) place f refl low is)

      -- they are in range
      pub filters_there : (f : PictureFormats) → f ≡ get_or views.formats.items place f → IsFormat f.filters
      filters_there f is =
          elim ((slice_get_cases views.plans.now place).1) [
            | inl there ↦ (format_there there.0 f there.2 is).filter_range
            | inr past ↦ absurd (omega (arith, past.0, inside))
          ]

      -- a view of it is of a picture of the flight
      pub picture_viewed : (picture : PictureView) (f : PictureFormats) → picture.place ≡ place
          → picture.plans.now ≡ views.plans.now → picture.plan.now ≡ get_or views.plans.now place picture.plan.now
          → picture.names.now ≡ get_or views.names place [] → f ≡ get_or views.formats.items place f
          → picture.format.now ≡ f.units → picture.layout.now ≡ views.layout → picture.frame.now ≡ views.frame
          → picture.bases.now ≡ views.bases.now → IsPictureOf facts picture
      picture_viewed picture f here plans plan names own format layout frame bases =
          let there = slice_get_read views.plans.now (length views.plans.now) place picture.plan.now refl inside plan in
          let formats = format_there picture.plan.now f there own in
          let listed : get_or views.names place [] ≡ names_before (flight_in facts) place =
          ap (λ (ns : List (List Reference)). get_or ns place []) view.names ∙ named (flight_in facts) place within in
          record {
            flight = subst (IsOfFlight facts) (sym layout) view.flight;
            plans = plans ∙ view.plans;
            plan =
                subst (λ (k : ℕ). slice_get (flight_in facts).pictures k ≡ Some picture.plan.now) (sym here)
                (plan_there picture.plan.now plan);
            names = names ∙ (listed ∙ ap (names_before (flight_in facts)) (sym here));
            frame = frame ∙ view.frame;
            bases = ap buffer_of bases ∙ view.bases;
            common = rw format formats.common;
            depths = rw format formats.depths;
          }
