-- The pictures of a stream up to the first broken rule of its framing, its parameter sets and its headers, or limit.
use Rattle.std.specs.Prelude.{◌≡◌, ℕ, Bool, true, false, List, [], ◌∷◌, ◌++◌, Option, Some, None, Result, Ok, Err}
use Rattle.hv_base.specs.declared.refusal.Stop.{Stop}
use Rattle.spec_slice_headers.specs.SpecNalUnits.{Told, told_of}
use Rattle.spec_output_order.specs.OutputOrder.{last_outputs}
use Rattle.spec_slice_headers.specs.PlanTypes.{PicturePlan}
use Rattle.spec_slice_headers.specs.PlanTypes.{Between}
use Rattle.spec_picture_plan.specs.Pictures.{beginning}
use Rattle.spec_picture_plan.specs.Steps.{Stepped, close, step}

-- the pictures in decoding order, which pictures of the buffer behind the last one go out where the input ends, by
-- their places, and what stops the stream
pub record Planned : Type 0 where
  pub pictures : List PicturePlan
  pub last : List ℕ
  pub stop : Option Stop

-- what ended planning
abbrev pub stop_of : Result Between Stop → Option Stop
stop_of (Ok s) = None
stop_of (Err e) = Some e

-- where nothing stops the stream, the pictures that wait go out at the end
abbrev pub last_of : Result Between Stop → List ℕ
last_of (Ok s) = last_outputs s.former.dpb
last_of (Err e) = []

-- what a last step gives
abbrev pub at_end : Stepped → Planned
at_end t = record { pictures = t.closed; last = last_of t.next; stop = stop_of t.next }

-- behind the last unit: where the input ends, the open picture is closed
abbrev pub planned_end : Bool → Between → Planned
planned_end true s = at_end (close s)
planned_end false s = record { pictures = []; last = []; stop = None }

-- pictures that closed, before those that follow
abbrev pub behind_closed : List PicturePlan → Planned → Planned
behind_closed closed p = record { pictures = closed ++ p.pictures; last = p.last; stop = p.stop }

-- what follows a unit, if it doesn't stop the stream
abbrev pub planned_next : Result Between Stop → (Between → Planned) → Planned
planned_next (Err e) f = record { pictures = []; last = []; stop = Some e }
planned_next (Ok s) f = f s

-- the pictures of these units
abbrev pub planned_from : Bool → Between → List Told → Planned
planned_from ended s [] = planned_end ended s
planned_from ended s (t ∷ ts) =
    behind_closed (step s t).closed (planned_next (step s t).next (λ n. planned_from ended n ts))

-- the pictures of a byte string: of the whole input, or of what has come of it
unfoldable pub planned_of : Bool → List ℕ → Planned
planned_of ended bytes = planned_from ended beginning (told_of ended bytes)

-- what is planned of more input: the same pictures and then others, and where the first stops nothing else
pub record Extends (short long : Planned) : Type 0 where
  pub more : List PicturePlan
  pub pictures : long.pictures ≡ short.pictures ++ more
  pub stopped : (e : Stop) → short.stop ≡ Some e → long ≡ short
