-- A worker that may work on rows of one picture of a flight may work on those of each.
use Rattle.std.proofs.Common.{◌≡◌, ℕ, ◌/◌, ◌*◌, ◌^◌, ◌≤◌, List, Some, slice_get, vec_len, ap, sym, subst, ◌∙◌}
use Rattle.header_types.specs.SequenceParameterSets.{ctb_log2}
use Rattle.plan_types.specs.declared.picture_plan.PicturePlan.{PicturePlan}
use Rattle.spec_picture_trees.specs.Shapes.{picture_shape}
use Rattle.spec_loop_filters.specs.declared.format.FilterFormat.{FilterFormat}
use Rattle.filtered_rows.specs.SpecPictureFilters.{filter_format}
use Rattle.sample_words.specs.declared.sizes.FlightSizes.{FlightSizes}
use Rattle.sample_words.specs.Sizes.{rows}
use Rattle.built_rows.specs.SpecFlights.{PlannedFlight}
use Rattle.progress_words.specs.declared.view.View.{View}
use Rattle.progress_words.specs.Views.{seen_of}
use Rattle.filtered_rows.specs.FlightUnitLaws.{IsPlanned}
use Rattle.filtered_rows.specs.FlightFacts.{FlightFacts}
use Rattle.filtered_rows.specs.FlightFacts.{flight_in}
use Rattle.built_rows.specs.FlightWindows.{AreFlagsSeen, HasRows}
use Rattle.built_rows.proofs.FlightWindowsLemmas.{later_seen}
use Rattle.filtered_rows.specs.declared.memory.FilterMemory.{FilterMemory}
use Rattle.filtered_rows.specs.Memory.{HasRoomFor}
use Rattle.built_rows.specs.RowWaits.{PictureView}
use Rattle.built_rows.specs.RowWaits.{IsPictureOf}
use Rattle.flight_views.specs.declared.flight_views.FlightViews.{FlightViews}
use Rattle.flight_views.specs.Views.{IsViewOf}
use Rattle.built_rows.specs.declared.row_builder.RowBuilder.{RowBuilder}
use Rattle.built_rows.specs.Stages.{IsReadyFor, shape_of}

-- pictures of a flight have as many places across
same_across : (facts : FlightFacts) (p q : PictureView) → IsPictureOf facts p → IsPictureOf facts q
    → (shape_of p).across ≡ (shape_of q).across
unfolding picture_shape
same_across facts p q one other =
    let same = one.flight.planned.formats p.place q.place p.plan.now q.plan.now one.plan other.plan in
    λ i. (same i).pic_width_in_luma_samples / 4

-- and rows of it that a pass has seen stay seen
pub ready_more : (facts : FlightFacts) (p q : PictureView) (v w : View FlightFacts) (b : RowBuilder)
    → IsPictureOf facts p → IsPictureOf facts q → ((l : ℕ) → seen_of v l ≤ seen_of w l) → IsReadyFor p v b
    → IsReadyFor q w b
ready_more facts p q v w b one other more ready =
    let sizes : p.layout.now ≡ q.layout.now = one.flight.sizes ∙ sym other.flight.sizes in
    record {
      across = ready.across ∙ same_across facts p q one other;
      rows = record {
        sizes = subst (λ (s : FlightSizes). HasRows b.seen s.pictures (rows s)) sizes ready.rows.sizes;
        counted =
            subst (λ (s : FlightSizes). AreFlagsSeen s w b.seen) sizes
            (later_seen p.layout.now v w b.seen more ready.rows.counted);
      };
    }

-- room to filter one picture is room to filter each
pub same_room : (f : PlannedFlight) → IsPlanned f → (j k : ℕ) (p q : PicturePlan) → slice_get f.pictures j ≡ Some p
    → slice_get f.pictures k ≡ Some q → (m : FilterMemory) → HasRoomFor (filter_format p) m
    → HasRoomFor (filter_format q) m
unfolding filter_format
same_room f planned j k p q one other m room =
    let format = planned.formats j k p q one other in
    let blocks = planned.blocks j k p q one other in
    let wide : (filter_format p).width ≡ (filter_format q).width = λ i. (format i).pic_width_in_luma_samples in
    let side : (filter_format p).ctb_size ≡ (filter_format q).ctb_size = λ i. 2 ^ ctb_log2 (blocks i) in
    record {
      width = room.width ∙ wide;
      ctb_size = room.ctb_size ∙ side;
      lines = subst (λ (n : ℕ). n * 72 ≤ vec_len m.lines) wide room.lines;
      copy = subst (λ (n : ℕ). n * 66 ≤ vec_len m.copy) wide room.copy;
    }

-- what the loop filters of a picture depend on is what is kept at its place
pub format_of : (facts : FlightFacts) (views : FlightViews) → IsViewOf facts views → (picture : PictureView)
    → IsPictureOf facts picture → (place : ℕ) → picture.place ≡ place → (format : FilterFormat)
    → ((p : PicturePlan) → slice_get views.plans.now place ≡ Some p → format ≡ filter_format p)
    → format ≡ filter_format picture.plan.now
format_of facts views view picture is place here format each =
    each picture.plan.now
    (ap (λ (ps : List PicturePlan). slice_get ps place) view.plans
    ∙ (ap (λ (k : ℕ). slice_get (flight_in facts).pictures k) (sym here) ∙ is.plan))

-- so room by it is room to filter each picture
pub room_for_all : (facts : FlightFacts) (picture : PictureView) → IsPictureOf facts picture → (format : FilterFormat)
    → format ≡ filter_format picture.plan.now → (m : FilterMemory) → HasRoomFor format m
    → (k : ℕ) (p : PicturePlan) → slice_get (flight_in facts).pictures k ≡ Some p → HasRoomFor (filter_format p) m
room_for_all facts picture is format same m room k p has =
    same_room (flight_in facts) is.flight.planned picture.place k picture.plan.now p is.plan has m
    (subst (λ (f : FilterFormat). HasRoomFor f m) same room)
