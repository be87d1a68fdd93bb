-- The frame of a flight, picture by picture.
use Rattle.std.proofs.Common.{◌≡◌, ℕ, ◌<◌, ◌≤◌, refl, sym, ap, subst, ◌∙◌, arith, inl, inr}
use Rattle.std.proofs.Common.{List, length, get_or, All, Option, Some, None, slice_get}
use Rattle.std.specs.Prelude.{map}
use Rattle.std.proofs.lemmas.List.{get_or-map, get_or_default, get_or_past, length-map}
use Rattle.std.proofs.lemmas.List.Elements.{All-nil}
use Rattle.std.proofs.lemmas.Option.{slice_get_cases}
use Rattle.hv_base.specs.declared.line.Line.{Line}
use Rattle.plan_types.specs.declared.picture_plan.PicturePlan.{PicturePlan}
use Rattle.flight_plan.specs.Flight.{IsEarlier, IsFlight, IsInRange, IsNoneOrEarlier, IsTreeUnit, PictureRows}
use Rattle.flight_plan.specs.Flight.{ReadsEarlier, no_picture, picture_at}
use Rattle.flight_plan.specs.declared.row_range.RowRange.{RowRange}
use Rattle.board_core.specs.Places.{IsLine}
use Rattle.sample_words.specs.declared.sizes.FlightSizes.{FlightSizes}
use Rattle.flight_lines.specs.Flights.{IsSized}
use Rattle.flight_facts.specs.SpecFlights.{PlannedFlight}
use Rattle.flight_facts.specs.SpecFlights.{flight_rows, rows_in, rows_of}
use Rattle.flight_facts.proofs.FlightUnitLaws.{as_many, rows_at}
use Rattle.flight_waits.specs.Frames.{frame_rows, framed}

abbrev AreEarlier : ℕ → List RowRange → Type 0
AreEarlier n ranges = All (λ (r : RowRange). IsEarlier n r.picture) ranges

-- the frame of a picture that may be there
abbrev pub framed_at : Option PicturePlan → PictureRows
framed_at None = no_picture
framed_at (Some p) = framed p

pub frame_at : (pictures : List PicturePlan) (k : ℕ)
    → picture_at (frame_rows pictures) k ≡ framed_at (slice_get pictures k)
frame_at pictures k =
    elim ((slice_get_cases pictures k).1) [
      | inl there ↦
          let x : PicturePlan = there.0 in
          get_or-map framed pictures k x no_picture there.1
          ∙ (ap framed there.3 ∙ sym (ap framed_at there.2))
      | inr past ↦
          let same = length-map pictures framed in
          let behind = past.0 in
          get_or_past (map framed pictures) k no_picture (omega (arith, same, behind)) ∙ sym (ap framed_at past.1)
    ]

-- two pictures have the same sizes
pub record AreAlike (a b : PictureRows) : Type 0 where
  pub width : a.width ≡ b.width
  pub rows : a.rows ≡ b.rows
  pub sync : a.sync ≡ b.sync

alike_by : (f : PlannedFlight) (k : ℕ) (o : Option PicturePlan) → AreAlike (framed_at o) (rows_of f k o)
unfolding rows_in
alike_by f k None = record { width = refl; rows = refl; sync = refl }
alike_by f k (Some p) = record { width = refl; rows = refl; sync = refl }

-- the frame's picture has the sizes of the flight's
pub alike : (f : PlannedFlight) (k : ℕ)
    → AreAlike (picture_at (frame_rows f.pictures) k) (picture_at (flight_rows f) k)
alike f k =
    subst (λ (r : PictureRows). AreAlike r (picture_at (flight_rows f) k)) (sym (frame_at f.pictures k))
    (subst (AreAlike (framed_at (slice_get f.pictures k))) (sym (rows_at f k)) (alike_by f k (slice_get f.pictures k)))

-- what is framed reads no other picture
reads_nothing : (n : ℕ) (o : Option PicturePlan) → ReadsEarlier n (framed_at o)
reads_nothing n None = record { collocated = All-nil (IsNoneOrEarlier n); reach = All-nil (AreEarlier n) }
reads_nothing n (Some p) = record { collocated = All-nil (IsNoneOrEarlier n); reach = All-nil (AreEarlier n) }

module _ (f : PlannedFlight) where
  pub as_many_framed : length (map framed f.pictures) ≡ length (flight_rows f).pictures
  as_many_framed = length-map f.pictures framed ∙ sym (as_many f)

  framed_in_range : (k : ℕ) → IsInRange (picture_at (flight_rows f) k)
      → IsInRange (picture_at (frame_rows f.pictures) k)
  framed_in_range k range =
      let same = alike f k in
      let w = same.width in
      let r = same.rows in
      let some_width = range.some_width in
      let width = range.width in
      let some_rows = range.some_rows in
      let rows = range.rows in
      record {
        some_width = omega (arith, w, some_width);
        width = omega (arith, w, width);
        some_rows = omega (arith, r, some_rows);
        rows = omega (arith, r, rows);
      }

  -- so the frame may be worked off
  frame_is_flight : IsFlight (flight_rows f) → IsFlight (frame_rows f.pictures)
  frame_is_flight is =
      let few = is.few in
      let many = as_many_framed in
      record {
        few = omega (arith, many, few);
        sizes = λ k d inside.
            let at : get_or (map framed f.pictures) k d ≡ picture_at (frame_rows f.pictures) k =
            get_or_default (map framed f.pictures) k d no_picture inside in
            subst IsInRange (sym at)
            (framed_in_range k (is.sizes k no_picture (omega (arith, inside, many))));
        earlier = λ k inside.
            subst (ReadsEarlier k) (sym (frame_at f.pictures k)) (reads_nothing k (slice_get f.pictures k));
        bad = All-nil (IsTreeUnit (map framed f.pictures));
      }

  -- and has the sizes of the flight's words
  pub frame_sized : (s : FlightSizes) → IsSized (flight_rows f) s → IsSized (frame_rows f.pictures) s
  frame_sized s sized =
      let many = as_many_framed in
      let count = sized.count in
      record {
        flight = frame_is_flight sized.flight;
        sizes = sized.sizes;
        count = many ∙ count;
        widths = λ k inside. (alike f k).width ∙ sized.widths k (omega (arith, inside, many));
        heights = λ k inside. (alike f k).rows ∙ sized.heights k (omega (arith, inside, many));
      }

  -- a line of the one is one of the other
  pub framed_line : (l : Line) → IsLine (flight_rows f) l → IsLine (frame_rows f.pictures) l
  framed_line l line = let r = (alike f l.picture).rows in omega (arith, r, line)
