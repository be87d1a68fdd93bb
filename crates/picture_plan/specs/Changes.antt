-- What judging a unit finds: how the open picture is closed, and what changes behind it.
use Rattle.std.specs.Prelude.{◌≡◌, ℕ, ◌≤◌, List, [], ◌∷◌, ◌++◌, length, Option, Some, None, IfSome, Result, Ok, Err}
use Rattle.hv_base.specs.declared.refusal.Refusal.{Refusal}
use Rattle.hv_base.specs.declared.refusal.Refusal.TheVariants as refusal
use Rattle.hv_base.specs.declared.breach.Breach.TheVariants as breach
use Rattle.hv_base.specs.declared.refusal.Stop.{Stop}
use Rattle.hv_base.specs.declared.refusal.Stop.TheVariants as stop
use Rattle.header_types.specs.declared.former.Former.{Former}
use Rattle.plan_types.specs.declared.picture_plan.PicturePlan.{PicturePlan}
use Rattle.plan_types.specs.declared.segment_plan.SegmentPlan.{SegmentPlan}
use Rattle.plan_types.specs.declared.between.Between.{Between}
use Rattle.spec_formats.specs.Fields.{Parses}
use Rattle.spec_nal_units.specs.Judged.{NalUnit}
use Rattle.spec_picture_plan.specs.Steps.{Stepped, begun, close, continuing, put_pps, put_sps, sequence_end, stop_at}
use Rattle.picture_plan.specs.Bounds.{IsWithin}
use Rattle.picture_plan.specs.declared.change.Change.{Change}
use Rattle.picture_plan.specs.declared.change.Change.TheVariants as change
use Rattle.picture_plan.specs.declared.change.Closing.{Closing}
use Rattle.picture_plan.specs.declared.change.Closing.TheVariants as closing

abbrev pub pictures_in : Option PicturePlan → List PicturePlan
pictures_in None = []
pictures_in (Some p) = p ∷ []

-- the open picture, if there is one, is over
abbrev pub over : Between → Former → Between
over s former = record { sets = s.sets; former = former; drops_rasl = s.drops_rasl; picture = None }

abbrev pub closed_over : Between → Former → Stepped
closed_over s former = record { closed = pictures_in s.picture; next = Ok (over s former) }

-- this is how the open picture is closed, and the buffer holds no more than it may then
abbrev pub Closes : Closing → Between → Type 0
Closes closing.Nothing s = (close s ≡ record { closed = []; next = Ok s }) × (s.picture ≡ None)
Closes (closing.Broken f) s = close s ≡ record { closed = []; next = Err (stop.Fault f) }
Closes (closing.Over former) s = (close s ≡ closed_over s former) × IsWithin former

-- what is known behind a change, or what stops the stream
abbrev pub applied : Between → Change → Result Between Stop
applied s change.Nothing = Ok s
applied s (change.SequenceSet sps) = Ok (put_sps s sps)
applied s (change.PictureSet pps) = Ok (put_pps s pps)
applied s change.SequenceEnd = Ok (sequence_end s)
applied s (change.Opened p) = Ok (begun s p)
applied s (change.Stop e) = Err e

-- this stops the stream where the unit of this number is refused so
abbrev pub Stops : ℕ → Refusal → Stop → Type 0
Stops nal refusal.Memory e = ⊥
Stops nal (refusal.Fault kind) e = e ≡ stop_at nal (breach.Fault kind)
Stops nal (refusal.Limit kind) e = e ≡ stop_at nal (breach.Limit kind)

-- a picture with one more segment
abbrev pub one_more : PicturePlan → SegmentPlan → PicturePlan
one_more p s = record p { segments = p.segments ++ s ∷ [] }

-- what a slice segment was read as which goes on with the open picture
abbrev pub IsNextSegment : Result SegmentPlan Refusal → Between → NalUnit → Type 0
IsNextSegment read s u = IfSome s.picture (λ p. Parses (one_more p) read (continuing s.sets s.former u p))

abbrev pub next_of : Option Stop → Between → Result Between Stop
next_of (Some e) s = Err e
next_of None s = Ok s
