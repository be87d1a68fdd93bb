-- What follows where the open picture is closed, or goes on.
use Rattle.std.proofs.Common.{◌≡◌, List, Option, Some, None, IfSome, Result, Ok, Err, refl}
use Rattle.hv_base.specs.declared.refusal.Refusal.{Refusal}
use Rattle.hv_base.specs.declared.refusal.Refusal.TheVariants as refusal
use Rattle.hv_base.specs.declared.refusal.Stop.{Stop}
use Rattle.plan_types.specs.declared.picture_plan.PicturePlan.{PicturePlan}
use Rattle.plan_types.specs.declared.segment_plan.SegmentPlan.{SegmentPlan}
use Rattle.plan_types.specs.declared.between.Between.{Between}
use Rattle.spec_formats.specs.Fields.{Parses}
use Rattle.spec_nal_units.specs.Judged.{NalUnit}
use Rattle.spec_picture_plan.specs.Steps.{close, closing, continuing, joined, slice_judged, then_next}
use Rattle.picture_plan.specs.declared.change.Change.{Change}
use Rattle.picture_plan.specs.Changes.{IsNextSegment, Stops, applied, one_more}
use Rattle.picture_plan.specs.States.{Held}
use Rattle.picture_plan.specs.Taken.{changed_behind, taken}

then-changed : (h : Held) (closed : List PicturePlan) (r : Result Between Stop) (change : Change)
    (f : Between → Result Between Stop)
    → ((t : Between) → r ≡ Ok t → applied t change ≡ f t)
    → changed_behind (taken h (record { closed = closed; next = r })) change ≡ taken h (then_next closed r f)
then-changed h closed (Err e) change f same = refl
then-changed h closed (Ok s) change f same = rw (same s refl) refl

-- where a change follows
pub closing-changed : (h : Held) (change : Change) (f : Between → Result Between Stop)
    → ((t : Between) → (close h.between).next ≡ Ok t → applied t change ≡ f t)
    → changed_behind (taken h (close h.between)) change ≡ taken h (closing h.between f)
closing-changed h change f same = then-changed h (close h.between).closed (close h.between).next change f same

joined-ok : (s : Between) (u : NalUnit) (segment : SegmentPlan) (more o : Option PicturePlan) → (o ≡ None → ⊥)
    → IfSome o (λ p. Parses (one_more p) (Ok segment) (continuing s.sets s.former u p))
    → ((p : PicturePlan) → o ≡ Some p → more ≡ Some (one_more p segment))
    → Ok (record s { picture = more }) ≡ joined u s o
joined-ok s u segment more None there is added = absurd (there refl)
joined-ok s u segment more (Some p) there is added = rw (is, added p refl) refl

-- the open picture goes on with a segment
pub goes-on : (s : Between) (u : NalUnit) (segment : SegmentPlan) (more : Option PicturePlan) → (s.picture ≡ None → ⊥)
    → IsNextSegment (Ok segment) s u
    → ((p : PicturePlan) → s.picture ≡ Some p → more ≡ Some (one_more p segment))
    → Ok (record s { picture = more }) ≡ slice_judged u s
unfolding slice_judged
goes-on s u segment more there is added = joined-ok s u segment more s.picture there is added

joined-err : (s : Between) (u : NalUnit) (e : Refusal) (stop : Stop) (o : Option PicturePlan) → (o ≡ None → ⊥)
    → IfSome o (λ p. Parses (one_more p) (Err e) (continuing s.sets s.former u p)) → Stops u.index e stop
    → Err stop ≡ joined u s o
joined-err s u e stop None there is stops = absurd (there refl)
joined-err s u refusal.Memory stop (Some p) there is stops = absurd stops
joined-err s u (refusal.Fault kind) stop (Some p) there is stops = rw (is, stops) refl
joined-err s u (refusal.Limit kind) stop (Some p) there is stops = rw (is, stops) refl

-- a segment that is refused stops the stream
pub stops-there : (s : Between) (u : NalUnit) (e : Refusal) (stop : Stop) → (s.picture ≡ None → ⊥)
    → IsNextSegment (Err e) s u → Stops u.index e stop
    → Err stop ≡ slice_judged u s
unfolding slice_judged
stops-there s u e stop there is stops = joined-err s u e stop s.picture there is stops
