-- A builder that is made for the pictures of a flight.
use Rattle.std.proofs.Common.{◌≡◌, ℕ, true, false, Bool, List, [], ◌∷◌, length, refl, ap, sym, ◌∙◌}
use Rattle.plan_types.specs.declared.picture_plan.PicturePlan.{PicturePlan}
use Rattle.sample_words.specs.declared.sizes.FlightSizes.{FlightSizes}
use Rattle.sample_words.specs.Sizes.{rows}
use Rattle.spec_slice_data.specs.Segment.{PictureShape}
use Rattle.progress_words.specs.declared.view.View.{View}
use Rattle.border_words.specs.FlightFacts.{FlightFacts}
use Rattle.border_words.specs.FlightFacts.{sizes_in}
use Rattle.border_words.specs.FlightFacts.{flight_in}
use Rattle.row_waits.specs.FlightWindows.{HasRows, is_seen}
use Rattle.row_waits.specs.declared.picture_view.PictureView.{PictureView}
use Rattle.row_waits.specs.Pictures.{IsPictureOf}
use Rattle.built_rows.specs.declared.row_builder.RowBuilder.{RowBuilder}
use Rattle.built_rows.specs.Stages.{IsReadyFor, shape_of}

none_true : (a : Bool) → a ≡ false → a ≡ true → ⊥
none_true a none is = let e : true ≡ false = sym is ∙ none in cc

pictures_of : (ps : List PicturePlan) → length ps ≡ (sizes_in ps).pictures
pictures_of [] = refl
pictures_of (p ∷ later) = refl

module _ (facts : FlightFacts) (picture : PictureView) (is : IsPictureOf facts picture) (v : View FlightFacts)
    (b : RowBuilder) where
  as_many : length picture.plans.now ≡ picture.layout.now.pictures
  as_many =
      ap (λ (ps : List PicturePlan). length ps) is.plans
      ∙ (pictures_of (flight_in facts).pictures ∙ ap (λ (s : FlightSizes). s.pictures) (sym is.flight.sizes))

  pub ready_first : b.border.unit.layout ≡ shape_of picture
      → HasRows b.seen (length picture.plans.now) (rows picture.layout.now)
      → ((j r : ℕ) → is_seen b.seen j r ≡ false) → IsReadyFor picture v b
  ready_first layout sizes none = record {
    across = ap (λ (q : PictureShape). q.across) layout;
    rows = record {
      sizes = (sizes.0 ∙ as_many, sizes.1);
      counted = λ j row is. absurd (none_true (is_seen b.seen j row) (none j row) is);
    };
  }
