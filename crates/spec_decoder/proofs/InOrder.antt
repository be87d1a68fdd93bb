-- A stream is judged, and its pictures go out, in the order of its trail.
use Rattle.std.proofs.Common.{◌≡◌, ℕ, Bool, true, false, not, ◌&&◌, ◌||◌, List, [], ◌∷◌, ◌++◌, Option, Some, None}
use Rattle.std.proofs.Common.{Result}
use Rattle.std.proofs.Common.{Ok, Err, refl, sym, ap, subst, ◌∙◌, append-nil}
use Rattle.std.specs.Prelude.{option_map, nat_lt, if◌then◌else◌}
use Rattle.hv_base.specs.declared.fault.Fault.{Fault}
use Rattle.hv_base.specs.declared.refusal.Stop.{Stop}
use Rattle.hv_base.specs.declared.refusal.Stop.TheVariants as stop
use Rattle.spec_picture_plan.specs.PlanTypes.{Between}
use Rattle.spec_picture_plan.specs.PlanTypes.{PicturePlan}
use Rattle.spec_bits.specs.Bits.{bits}
use Rattle.spec_nal_units.specs.Judged.{NalUnit, Told, told_of}
use Rattle.spec_picture_plan.specs.SpecOutputOrder.{last_outputs}
use Rattle.spec_picture_plan.specs.Closing.{broken_at_closing, broken_in, full_at, or_later}
use Rattle.spec_picture_plan.specs.Pictures.{beginning}
use Rattle.spec_picture_plan.specs.Planned.{Planned, at_end, behind_closed, planned_from, planned_next, planned_of}
use Rattle.spec_picture_plan.specs.Planned.{stop_of}
use Rattle.spec_picture_plan.specs.Steps.{Stepped, behind, close, closed_by, closed_open, closing, first_flag}
use Rattle.spec_picture_plan.specs.Steps.{goes_on}
use Rattle.spec_picture_plan.specs.Steps.{kind_step, slice_judged, slice_step, step, then_next, unit_step}
use Rattle.spec_picture_plan.specs.UnitKinds.{is_rasl, kind_of_type}
use Rattle.spec_picture_plan.specs.declared.unit_kind.UnitKind.{UnitKind}
use Rattle.spec_picture_plan.specs.declared.unit_kind.UnitKind.TheVariants as unit
use Rattle.spec_decoder.specs.Output.{OutPicture}
use Rattle.spec_decoder.specs.Decoder.{BufferPicture, Decoded, decoded, decoded_from, decoded_picture, entered}
use Rattle.spec_decoder.specs.Decoder.{finished, kept_from}
use Rattle.spec_decoder.specs.Decoder.{out_at, put_out, with_picture}
use Rattle.spec_decoder.specs.Trail.{Data, Event, Judge, Keep, Output, closed_events, closed_first, closes}
use Rattle.spec_decoder.specs.Trail.{end_events}
use Rattle.spec_decoder.specs.Trail.{first_of, is_dropped, kind_closes, kind_judged, last_events, next_events}
use Rattle.spec_decoder.specs.Trail.{open_events}
use Rattle.spec_decoder.specs.Trail.{trail, trail_of, unit_judged, with_decoded}

-- ---- a unit closes first

-- what follows closing asks of what is known alone what closing leaves
closing_by : (s : Between) (f g : Between → Result Between Stop)
    → ((n : Between) → n.drops_rasl ≡ s.drops_rasl → f n ≡ g n)
    → (p : PicturePlan) (broken : Option Fault)
    → then_next (closed_by s p broken).closed (closed_by s p broken).next f
    ≡ then_next (closed_by s p broken).closed (closed_by s p broken).next g
closing_by s f g same p None = ap (λ r. record { closed = p ∷ []; next = r }) (same (behind s p) refl)
closing_by s f g same p (Some fault) = refl

closing_open : (s : Between) (f g : Between → Result Between Stop)
    → ((n : Between) → n.drops_rasl ≡ s.drops_rasl → f n ≡ g n)
    → (o : Option PicturePlan)
    → then_next (closed_open s o).closed (closed_open s o).next f
    ≡ then_next (closed_open s o).closed (closed_open s o).next g
closing_open s f g same None = ap (λ r. record { closed = []; next = r }) (same s refl)
closing_open s f g same (Some p) = closing_by s f g same p (broken_at_closing p)

closing_same : (s : Between) (f g : Between → Result Between Stop)
    → ((n : Between) → n.drops_rasl ≡ s.drops_rasl → f n ≡ g n) → closing s f ≡ closing s g
unfolding close
closing_same s f g same = closing_open s f g same s.picture

then_all : (t : Stepped) (r : Result Between Stop) → t.next ≡ r → t ≡ then_next t.closed r Ok
then_all t (Ok n) is = ap (λ r. record { closed = t.closed; next = r }) is
then_all t (Err e) is = ap (λ r. record { closed = t.closed; next = r }) is

close_as : (s : Between) → close s ≡ closing s Ok
close_as s = then_all (close s) (close s).next refl

if_is : {X : Type 0} → (b : Bool) (x y : X) → b ≡ true → (if b then x else y) ≡ x
if_is true x y e = refl
if_is false x y e = absurd cc

if_not : {X : Type 0} → (b : Bool) (x y : X) → b ≡ false → (if b then x else y) ≡ y
if_not true x y e = absurd cc
if_not false x y e = refl

slice_parts : (s : Between) (u : NalUnit) (dropped goes : Bool) → is_dropped s u ≡ dropped
    → (if dropped then close s
    else (if goes then record { closed = []; next = slice_judged u s } else closing s (slice_judged u)))
    ≡ closed_first (dropped || not goes) s (kind_judged u unit.Slice)
slice_parts s u true goes is =
    close_as s
    ∙ closing_same s Ok (kind_judged u unit.Slice) (λ n same.
    sym (if_is (is_dropped n u) (Ok n) (slice_judged u n) (ap (λ b. is_rasl u.nal_type && b) same ∙ is)))
slice_parts s u false true is =
    ap (λ r. record { closed = []; next = r }) (sym (if_not (is_dropped s u) (Ok s) (slice_judged u s) is))
slice_parts s u false false is =
    closing_same s (slice_judged u) (kind_judged u unit.Slice) (λ n same.
    sym (if_not (is_dropped n u) (Ok n) (slice_judged u n) (ap (λ b. is_rasl u.nal_type && b) same ∙ is)))

kind_parts : (s : Between) (u : NalUnit) (k : UnitKind)
    → kind_step s u k ≡ closed_first (kind_closes s u k) s (kind_judged u k)
unfolding slice_step
kind_parts s u unit.Slice = slice_parts s u (is_dropped s u) (goes_on (first_flag (bits u.payload))) refl
kind_parts s u unit.Border = close_as s
kind_parts s u kind = refl

layer_parts : (s : Between) (u : NalUnit) (k : UnitKind) (above : Bool)
    → (if above then record { closed = []; next = Ok s } else kind_step s u k)
    ≡ closed_first (not above && kind_closes s u k) s (λ n. if above then Ok n else kind_judged u k n)
layer_parts s u k true = refl
layer_parts s u k false = kind_parts s u k

pub step_parts : (s : Between) (t : Told) → step s t ≡ closed_first (closes s t) s (unit_judged t)
unfolding step unit_step
step_parts s (Told.Whole u) = layer_parts s u (kind_of_type u.nal_type) (nat_lt 0 u.layer)
step_parts s (Told.Broken f) = refl
step_parts s (Told.Met l) = refl

-- ---- what goes out

-- what is decoded of these pictures, behind those of a buffer
abbrev plan_decoded : Bool → Planned → List BufferPicture → Decoded
plan_decoded hash p buffer = decoded_from hash (finished p.last p.stop) p.pictures buffer

entered_first : (hash : Bool) (p : PicturePlan) (next : List BufferPicture → Decoded) (events : List Event)
    (buffer : List BufferPicture) (r : Result BufferPicture Stop)
    → ((b : List BufferPicture) → next b ≡ first_of hash events b)
    → entered p next buffer r
    ≡ with_decoded buffer r (first_of hash (Output p.outputs.behind ∷ Keep p.outputs.kept ∷ events))
entered_first hash p next events buffer (Err e) same = refl
entered_first hash p next events buffer (Ok picture) same =
    let now : List BufferPicture = buffer ++ picture ∷ [] in
    ap (put_out (out_at now p.outputs.behind)) (same (kept_from p.outputs.kept 0 now))

picture_first : (hash : Bool) (p : PicturePlan) (next : List BufferPicture → Decoded) (events : List Event)
    (buffer : List BufferPicture)
    → ((b : List BufferPicture) → next b ≡ first_of hash events b)
    → with_picture hash p next buffer
    ≡ first_of hash (Output p.outputs.before ∷ Data p ∷ Output p.outputs.behind ∷ Keep p.outputs.kept ∷ events) buffer
picture_first hash p next events buffer same =
    ap (put_out (out_at buffer p.outputs.before))
    (entered_first hash p next events buffer (decoded_picture hash buffer p) same)

module _ (hash : Bool) (g : Between → Planned) (h : Between → List Event)
    (same : (n : Between) (b : List BufferPicture) → plan_decoded hash (g n) b ≡ first_of hash (h n) b) where
  -- a unit by itself
  judged_first : (r : Result Between Stop) (buffer : List BufferPicture)
      → plan_decoded hash (planned_next r g) buffer ≡ first_of hash (Judge (stop_of r) ∷ next_events r h) buffer
  unfolding out_at
  judged_first (Err e) buffer = refl
  judged_first (Ok n) buffer = same n buffer

  -- behind what it closes
  broken_first : (s : Between) (p : PicturePlan) (f : Between → Result Between Stop) (x y : Option Fault)
      (buffer : List BufferPicture)
      → plan_decoded hash
      (behind_closed
      (then_next (closed_by s p (or_later x y)).closed (closed_by s p (or_later x y)).next f).closed
      (planned_next (then_next (closed_by s p (or_later x y)).closed (closed_by s p (or_later x y)).next f).next g))
      buffer
      ≡ first_of hash
      (Judge (option_map stop.Fault x) ∷ Judge (option_map stop.Fault y) ∷ Output p.outputs.before ∷ Data p
      ∷ Output p.outputs.behind
      ∷ Keep p.outputs.kept
      ∷ Judge
      (stop_of (then_next (closed_by s p (or_later x y)).closed (closed_by s p (or_later x y)).next f).next)
      ∷ next_events (then_next (closed_by s p (or_later x y)).closed (closed_by s p (or_later x y)).next f).next h)
      buffer
  unfolding out_at
  broken_first s p f (Some x) y buffer = refl
  broken_first s p f None (Some y) buffer = refl
  broken_first s p f None None buffer =
      picture_first hash p (plan_decoded hash (planned_next (f (behind s p)) g))
      (Judge (stop_of (f (behind s p))) ∷ next_events (f (behind s p)) h) buffer
      (λ b. judged_first (f (behind s p)) b)

  open_first : (s : Between) (f : Between → Result Between Stop) (o : Option PicturePlan)
      (buffer : List BufferPicture)
      → plan_decoded hash
      (behind_closed (then_next (closed_open s o).closed (closed_open s o).next f).closed
      (planned_next (then_next (closed_open s o).closed (closed_open s o).next f).next g))
      buffer
      ≡ first_of hash
      (open_events o
      ++ Judge (stop_of (then_next (closed_open s o).closed (closed_open s o).next f).next)
      ∷ next_events (then_next (closed_open s o).closed (closed_open s o).next f).next h)
      buffer
  open_first s f None buffer = judged_first (f s) buffer
  open_first s f (Some p) buffer = broken_first s p f (broken_in p) (full_at p) buffer

  closed_then : (c : Bool) (s : Between) (f : Between → Result Between Stop) (buffer : List BufferPicture)
      → plan_decoded hash (behind_closed (closed_first c s f).closed (planned_next (closed_first c s f).next g)) buffer
      ≡ first_of hash
      (closed_events c s ++ Judge (stop_of (closed_first c s f).next) ∷ next_events (closed_first c s f).next h) buffer
  unfolding close
  closed_then true s f buffer = open_first s f s.picture buffer
  closed_then false s f buffer = judged_first (f s) buffer

-- ---- the end of the input

last_first : (hash : Bool) (last : List ℕ) (buffer : List BufferPicture)
    → finished last None buffer ≡ first_of hash (Output last ∷ []) buffer
last_first hash last buffer =
    ap (λ (ps : List OutPicture). record { pictures = ps; stop = None }) (sym (append-nil (out_at buffer last)))

end_broken : (hash : Bool) (s : Between) (p : PicturePlan) (x y : Option Fault) (buffer : List BufferPicture)
    → plan_decoded hash (at_end (closed_by s p (or_later x y))) buffer
    ≡ first_of hash
    (Judge (option_map stop.Fault x) ∷ Judge (option_map stop.Fault y) ∷ Output p.outputs.before ∷ Data p
    ∷ Output p.outputs.behind
    ∷ Keep p.outputs.kept
    ∷ last_events (closed_by s p (or_later x y)).next)
    buffer
unfolding out_at
end_broken hash s p (Some x) y buffer = refl
end_broken hash s p None (Some y) buffer = refl
end_broken hash s p None None buffer =
    let last : List ℕ = last_outputs (behind s p).former.dpb in
    picture_first hash p (finished last None) (Output last ∷ []) buffer (last_first hash last)

end_open : (hash : Bool) (s : Between) (o : Option PicturePlan) (buffer : List BufferPicture)
    → plan_decoded hash (at_end (closed_open s o)) buffer
    ≡ first_of hash (open_events o ++ last_events (closed_open s o).next) buffer
end_open hash s None buffer = last_first hash _ buffer
end_open hash s (Some p) buffer = end_broken hash s p (broken_in p) (full_at p) buffer

end_first : (hash ends : Bool) (s : Between) (buffer : List BufferPicture)
    → plan_decoded hash (planned_from ends s []) buffer ≡ first_of hash (end_events ends s) buffer
unfolding close out_at
end_first hash true s buffer = end_open hash s s.picture buffer
end_first hash false s buffer = refl

trail_first : (hash ends : Bool) (s : Between) (told : List Told) (buffer : List BufferPicture)
    → plan_decoded hash (planned_from ends s told) buffer ≡ first_of hash (trail ends s told) buffer
trail_first hash ends s [] buffer = end_first hash ends s buffer
trail_first hash ends s (t ∷ ts) buffer =
    let g : Between → Planned = λ n. planned_from ends n ts in
    let h : Between → List Event = λ n. trail ends n ts in
    subst
    (λ (u : Stepped). plan_decoded hash (behind_closed u.closed (planned_next u.next g)) buffer
    ≡ first_of hash (closed_events (closes s t) s ++ Judge (stop_of u.next) ∷ next_events u.next h) buffer)
    (sym (step_parts s t))
    (closed_then hash g h (λ n b. trail_first hash ends n ts b) (closes s t) s (unit_judged t) buffer)

pub in_order : (hash ends : Bool) (bytes : List ℕ) → decoded hash ends bytes ≡ first_of hash (trail_of ends bytes) []
unfolding decoded planned_of
in_order hash ends bytes = trail_first hash ends beginning (told_of ends bytes) []
