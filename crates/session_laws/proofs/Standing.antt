-- The pictures of a stream are closed in its trail one behind the other.
use Rattle.std.proofs.Common.{◌≡◌, ℕ, Bool, true, false, List, [], ◌∷◌, ◌++◌, Option, Some, None, Result, Ok, Err}
use Rattle.std.proofs.Common.{option_map, refl, sym, ap, subst, ◌∙◌}
use Rattle.hv_base.specs.declared.fault.Fault.{Fault}
use Rattle.hv_base.specs.declared.refusal.Stop.{Stop}
use Rattle.hv_base.specs.declared.refusal.Stop.TheVariants as stop
use Rattle.plan_types.specs.declared.between.Between.{Between}
use Rattle.plan_types.specs.declared.picture_plan.PicturePlan.{PicturePlan}
use Rattle.spec_nal_units.specs.Judged.{Told, told_of}
use Rattle.spec_picture_plan.specs.Closing.{broken_in, full_at, or_later}
use Rattle.spec_picture_plan.specs.Pictures.{beginning}
use Rattle.spec_picture_plan.specs.Planned.{Planned, planned_end, planned_from, planned_next, planned_of, stop_of}
use Rattle.spec_picture_plan.specs.Steps.{Stepped, behind, close, closed_by, closed_open, then_next}
use Rattle.spec_decoder.specs.Decoder.{BufferPicture, Decoded, decoded_from, decoded_picture, ended, entered}
use Rattle.spec_decoder.specs.Decoder.{kept_from}
use Rattle.spec_decoder.specs.Decoder.{out_at, put_out, with_picture}
use Rattle.spec_decoder.specs.Trail.{Data, Event, Judge, Keep, Output, closed_events, closed_first, closes}
use Rattle.spec_decoder.specs.Trail.{end_events}
use Rattle.spec_decoder.specs.Trail.{first_of, last_events, next_events, open_events, picture_events, trail, trail_of}
use Rattle.spec_decoder.specs.Trail.{unit_judged, with_decoded}
use Rattle.spec_decoder.proofs.InOrder.{step_parts}
use Rattle.session_laws.specs.Closings.{IsBeforeClosing}

-- each of these pictures is closed among these events, behind those before it
abbrev StandIn : Bool → List PicturePlan → List Event → Type 0
StandIn hash pictures events = (first : List PicturePlan) (p : PicturePlan) (more : List PicturePlan)
    → pictures ≡ first ++ p ∷ more → IsBeforeClosing hash events first p

none_stand : (hash : Bool) (events : List Event) → StandIn hash [] events
none_stand hash events [] p more e = absurd cc
none_stand hash events (q ∷ first) p more e = absurd cc

-- ---- a picture that is closed

-- nothing more is decoded
abbrev no_more : List BufferPicture → Decoded
no_more b = ended None

-- it breaks nothing as it is closed
record IsWhole (q : PicturePlan) : Type 0 where
  segments : broken_in q ≡ None
  room : full_at q ≡ None

entered_same : (hash : Bool) (q : PicturePlan) (next : List BufferPicture → Decoded) (events : List Event)
    (buffer : List BufferPicture) (r : Result BufferPicture Stop)
    → ((b : List BufferPicture) → first_of hash events b ≡ next b)
    → with_decoded buffer r (first_of hash (Output q.outputs.behind ∷ Keep q.outputs.kept ∷ events))
    ≡ entered q next buffer r
entered_same hash q next events buffer (Err e) same = refl
entered_same hash q next events buffer (Ok picture) same =
    let now : List BufferPicture = buffer ++ picture ∷ [] in
    ap (put_out (out_at now q.outputs.behind)) (same (kept_from q.outputs.kept 0 now))

judged_same : (hash : Bool) (x y : Option Fault) (events : List Event) (buffer : List BufferPicture)
    → x ≡ None → y ≡ None
    → first_of hash (Judge (option_map stop.Fault x) ∷ Judge (option_map stop.Fault y) ∷ events) buffer
    ≡ first_of hash events buffer
judged_same hash None None events buffer a b = refl
judged_same hash None (Some f) events buffer a b = absurd cc
judged_same hash (Some f) y events buffer a b = absurd cc

picture_same : (hash : Bool) (q : PicturePlan) (next : List BufferPicture → Decoded) (events : List Event)
    (buffer : List BufferPicture)
    → IsWhole q → ((b : List BufferPicture) → first_of hash events b ≡ next b)
    → first_of hash (picture_events q ++ events) buffer ≡ with_picture hash q next buffer
picture_same hash q next events buffer whole same =
    judged_same hash (broken_in q) (full_at q)
    (Output q.outputs.before ∷ Data q ∷ Output q.outputs.behind ∷ Keep q.outputs.kept ∷ events)
    buffer whole.segments whole.room
    ∙ ap (put_out (out_at buffer q.outputs.before))
    (entered_same hash q next events buffer (decoded_picture hash buffer q) same)

same_head : (q r : PicturePlan) (xs ys : List PicturePlan) → q ∷ xs ≡ r ∷ ys → q ≡ r
same_head q r xs ys e = cc

same_tail : (q r : PicturePlan) (xs ys : List PicturePlan) → q ∷ xs ≡ r ∷ ys → xs ≡ ys
same_tail q r xs ys e = cc

-- it stands before those behind it
picture_stands : (hash : Bool) (q : PicturePlan) (pictures : List PicturePlan) (events : List Event) → IsWhole q
    → StandIn hash pictures events → StandIn hash (q ∷ pictures) (picture_events q ++ events)
picture_stands hash q pictures events whole each [] p more e = record {
  front = [];
  behind = record {
    back = events;
    events_are = ap (λ (r : PicturePlan). picture_events r ++ events) (same_head q p pictures more e);
    closed = refl;
  };
  decodes = λ buffer. refl;
}
picture_stands hash q pictures events whole each (r ∷ first) p more e =
    let same : q ≡ r = same_head q r pictures (first ++ p ∷ more) e in
    let b = each first p more (same_tail q r pictures (first ++ p ∷ more) e) in
    let next : List BufferPicture → Decoded = decoded_from hash no_more first in
    record {
      front = picture_events q ++ b.front;
      behind = record {
        back = b.behind.back;
        events_are = ap (λ (es : List Event). picture_events q ++ es) b.behind.events_are;
        closed =
            ap (λ (ps : List PicturePlan). q ∷ ps) b.behind.closed
            ∙ ap (λ (x : PicturePlan). x ∷ first) same;
      };
      decodes = λ buffer. picture_same hash q next b.front buffer whole b.decodes
          ∙ ap (λ (x : PicturePlan). with_picture hash x next buffer) same;
    }

-- ---- a unit

judged_stands : (hash : Bool) (pictures : List PicturePlan) (events : List Event) → StandIn hash pictures events
    → StandIn hash pictures (Judge None ∷ events)
judged_stands hash pictures events each first p more e =
    let b = each first p more e in
    record {
      front = Judge None ∷ b.front;
      behind = record {
        back = b.behind.back;
        events_are = ap (λ (es : List Event). Judge None ∷ es) b.behind.events_are;
        closed = b.behind.closed;
      };
      decodes = b.decodes;
    }

-- the pictures of a step and of what follows, and the events of both
abbrev pictures_over : Stepped → (Between → Planned) → List PicturePlan
pictures_over t g = t.closed ++ (planned_next t.next g).pictures

abbrev events_over : List Event → Stepped → (Between → List Event) → List Event
events_over closing t h = closing ++ Judge (stop_of t.next) ∷ next_events t.next h

module _ (hash : Bool) (g : Between → Planned) (h : Between → List Event)
    (each : (n : Between) → StandIn hash (g n).pictures (h n)) where
  next_stands : (r : Result Between Stop)
      → StandIn hash (planned_next r g).pictures (Judge (stop_of r) ∷ next_events r h)
  next_stands (Ok n) = judged_stands hash (g n).pictures (h n) (each n)
  next_stands (Err e) = none_stand hash (Judge (Some e) ∷ [])

  by_stands : (s : Between) (q : PicturePlan) (f : Between → Result Between Stop) (x y : Option Fault)
      → broken_in q ≡ x → full_at q ≡ y
      → StandIn hash
      (pictures_over (then_next (closed_by s q (or_later x y)).closed (closed_by s q (or_later x y)).next f) g)
      (events_over (picture_events q)
      (then_next (closed_by s q (or_later x y)).closed (closed_by s q (or_later x y)).next f) h)
  by_stands s q f (Some x) y segments room = none_stand hash _
  by_stands s q f None (Some y) segments room = none_stand hash _
  by_stands s q f None None segments room =
      picture_stands hash q (planned_next (f (behind s q)) g).pictures
      (Judge (stop_of (f (behind s q))) ∷ next_events (f (behind s q)) h)
      (record { segments = segments; room = room }) (next_stands (f (behind s q)))

  open_stands : (s : Between) (f : Between → Result Between Stop) (o : Option PicturePlan)
      → StandIn hash (pictures_over (then_next (closed_open s o).closed (closed_open s o).next f) g)
      (events_over (open_events o) (then_next (closed_open s o).closed (closed_open s o).next f) h)
  open_stands s f None = next_stands (f s)
  open_stands s f (Some q) = by_stands s q f (broken_in q) (full_at q) refl refl

  closed_stands : (c : Bool) (s : Between) (f : Between → Result Between Stop)
      → StandIn hash (pictures_over (closed_first c s f) g)
      (events_over (closed_events c s) (closed_first c s f) h)
  unfolding close
  closed_stands true s f = open_stands s f s.picture
  closed_stands false s f = next_stands (f s)

-- ---- the end of the input

end_by_stands : (hash : Bool) (s : Between) (q : PicturePlan) (x y : Option Fault) → broken_in q ≡ x → full_at q ≡ y
    → StandIn hash (closed_by s q (or_later x y)).closed
    (picture_events q ++ last_events (closed_by s q (or_later x y)).next)
end_by_stands hash s q (Some x) y segments room = none_stand hash _
end_by_stands hash s q None (Some y) segments room = none_stand hash _
end_by_stands hash s q None None segments room =
    picture_stands hash q [] (last_events (Ok (behind s q))) (record { segments = segments; room = room })
    (none_stand hash (last_events (Ok (behind s q))))

end_open_stands : (hash : Bool) (s : Between) (o : Option PicturePlan)
    → StandIn hash (closed_open s o).closed (open_events o ++ last_events (closed_open s o).next)
end_open_stands hash s None = none_stand hash _
end_open_stands hash s (Some q) = end_by_stands hash s q (broken_in q) (full_at q) refl refl

end_stands : (hash ends : Bool) (s : Between) → StandIn hash (planned_end ends s).pictures (end_events ends s)
unfolding close
end_stands hash true s = end_open_stands hash s s.picture
end_stands hash false s = none_stand hash []

-- ---- all units

pub trail_stands : (hash ends : Bool) (s : Between) (told : List Told)
    → StandIn hash (planned_from ends s told).pictures (trail ends s told)
trail_stands hash ends s [] = end_stands hash ends s
trail_stands hash ends s (t ∷ ts) =
    let g : Between → Planned = λ n. planned_from ends n ts in
    let h : Between → List Event = λ n. trail ends n ts in
    subst (λ (u : Stepped). StandIn hash (pictures_over u g) (events_over (closed_events (closes s t) s) u h))
    (sym (step_parts s t))
    (closed_stands hash g h (λ n. trail_stands hash ends n ts) (closes s t) s (unit_judged t))

pub closings_stand : (hash ends : Bool) (bytes : List ℕ) (first : List PicturePlan) (p : PicturePlan)
    (more : List PicturePlan) → (planned_of ends bytes).pictures ≡ first ++ p ∷ more
    → IsBeforeClosing hash (trail_of ends bytes) first p
unfolding planned_of
closings_stand hash ends bytes = trail_stands hash ends beginning (told_of ends bytes)
