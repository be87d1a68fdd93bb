-- How far the units of a stream are taken, and what its sinks gained.
use Rattle.std.specs.Prelude.{◌≡◌, ℕ, ◌<◌, ◌≤◌, Bool, All, List, [], ◌∷◌, ◌++◌, length, take, None, Result, Ok, Err}
use Rattle.std.specs.List.{concat}
use Rattle.hv_base.specs.declared.outcome.Outcome.{Outcome}
use Rattle.hv_base.specs.declared.outcome.Outcome.TheVariants as outcome
use Rattle.hv_io.specs.Streams.{Gains}
use Rattle.plan_types.specs.declared.picture_plan.PicturePlan.{PicturePlan}
use Rattle.spec_nal_units.specs.Judged.{Told, told_of}
use Rattle.nal_stream.specs.declared.framer.Framer.{Framer}
use Rattle.nal_stream.specs.Framing.{StandsFor, to_come}
use Rattle.spec_picture_plan.specs.Pictures.{beginning}
use Rattle.spec_picture_plan.specs.Planned.{behind_closed, planned_from}
use Rattle.picture_plan.specs.Flights.{pictures_of}
use Rattle.picture_plan.specs.Plans.{behind_unit, stop_of}
use Rattle.spec_decoder.specs.Output.{OutPicture, told_number, written}
use Rattle.spec_decoder.specs.Decoder.{decoded}
use Rattle.decoder.specs.declared.options.Options.{Options}
use Rattle.decoder.specs.declared.stream.Decoder.{Decoder}
use Rattle.decoder.specs.declared.stream.Taken.{Taken}
use Rattle.decoder.specs.declared.stream.Taken.TheVariants as taken
use Rattle.decoder.specs.Buffers.{buffer_of}
use Rattle.decoder.specs.Headline.{Change, Failed, IsQuiet, outcome_of}
use Rattle.decoder.specs.Owed.{planned_behind, still_owed}
use Rattle.decoder.specs.Writing.{IsAnswered, KeepsAtMost, Owed, Passes, Run, owed_from}

-- a framer that was fed all these bytes gave these units of them, and has these still to tell
pub record StillTells (f : Framer) (ended : Bool) (bytes : List ℕ) (given later : List Told) : Type 0 where
  pub stands : StandsFor f (record { fed = bytes; given = given; finished = ended })
  pub told : told_of ended bytes ≡ given ++ later

-- how much a framer that is fed no more has still to tell
unfoldable pub left_of : Framer → ℕ
left_of f = length (to_come f f.finished [])

-- a decoder that took these units of a stream: these pictures were decoded and those went out, which is what its sinks
-- gained; other pictures wait, and however the stream goes on they come next
pub record HasTaken (options : Options) (d : Decoder) (given : List Told) (gained : List ℕ) : Type 0 where
  pub done : List PicturePlan
  pub outs : List OutPicture
  pub planned : (ended : Bool) (later : List Told)
      → planned_from ended beginning (given ++ later) ≡ behind_closed done (planned_behind ended d.planner later)
  pub run : Run options.hash done [] outs (buffer_of d.buffer)
  pub number : told_number (length outs) ≡ told_number d.buffer.number
  pub bytes : gained ≡ concat (written options.form 0 outs)
  pub going : stop_of d.planner.next ≡ None
  pub ahead : d.planner.ahead ≡ options.ahead
  pub some : 1 ≤ d.planner.ahead
  pub waiting : length d.planner.pending ≤ d.planner.ahead
  pub few : (n : ℕ) → All (KeepsAtMost n) done → length (buffer_of d.buffer) ≤ n

-- how decoding ended, by what was owed of the whole stream and by all that its sinks gained: the outcome of it with all
-- its bytes, a write fault with a prefix of them, or want of memory with whole pieces, the first
abbrev pub IsEnd : Owed → List ℕ → Outcome → Type 0
IsEnd d gained outcome.WriteFault =
    (n : ℕ) × ((n ≤ length (concat d.pieces)) × (gained ≡ take n (concat d.pieces)))
IsEnd d gained outcome.Memory = (n : ℕ) × (gained ≡ concat (take n d.pieces))
IsEnd d gained o = (o ≡ outcome_of d.stop) × (gained ≡ concat d.pieces)

-- the sink counted a fault where that is the answer, and else none
abbrev pub IsCounted : Change → Outcome → Type 0
IsCounted out outcome.WriteFault = Failed out
IsCounted out o = IsQuiet out

-- a call ended decoding, before which the sinks had gained so much
pub record Ended (out : Change) (d : Owed) (gained : List ℕ) (o : Outcome) : Type 0 where
  pub more : List ℕ
  pub gains : Gains out.before out.after more
  pub counted : IsCounted out o
  pub end : IsEnd d (gained ++ more) o

-- and not with success
abbrev pub Stops : Change → Owed → List ℕ → Outcome → Type 0
Stops out d gained o = ¬ (o ≡ outcome.Ok) × Ended out d gained o

-- what is owed of all of a stream
abbrev pub all_owed : Options → Bool → List ℕ → Owed
all_owed options ended bytes = owed_from options.form 0 (decoded options.hash ended bytes)

-- how far the units of these bytes are taken
pub record Reached (options : Options) (out : Change) (f : Framer) (d : Decoder) (ended : Bool) (bytes gained : List ℕ)
    (later : List Told) : Type 0 where
  pub given : List Told
  pub tells : StillTells f ended bytes given later
  pub more : List ℕ
  pub gains : Gains out.before out.after more
  pub quiet : IsQuiet out
  pub taken : HasTaken options d given (gained ++ more)

-- by a result: one more unit was taken, or all were, or decoding ended in it
abbrev pub TakesUnit : Options → Change → Framer → Decoder → Bool → List ℕ → List ℕ → Result Taken Outcome → Type 0
TakesUnit options out f d ended bytes gained (Ok taken.Unit) =
    (later : List Told) × Reached options out f d ended bytes gained later
TakesUnit options out f d ended bytes gained (Ok taken.Last) = Reached options out f d ended bytes gained []
TakesUnit options out f d ended bytes gained (Err o) = Stops out (all_owed options ended bytes) gained o

-- by a result: where a unit was taken, less is left to tell
abbrev pub Lessens : Framer → Framer → Result Taken Outcome → Type 0
Lessens old new (Ok taken.Unit) = left_of new < left_of old
Lessens old new (Ok taken.Last) = Unit {0}
Lessens old new (Err o) = Unit {0}

-- by a result: all units were taken, or decoding ended in one
abbrev pub TakesUnits : {X : Type 0} → Options → Change → Framer → Decoder → Bool → List ℕ → List ℕ
    → Result X Outcome → Type 0
TakesUnits options out f d ended bytes gained (Ok x) = Reached options out f d ended bytes gained []
TakesUnits options out f d ended bytes gained (Err o) = Stops out (all_owed options ended bytes) gained o

-- the pictures of the flights that a unit ends were decoded, and nothing stops the stream
pub record Planned (options : Options) (out : Change) (old : Decoder) (told : List Told) (new : Decoder) : Type 0 where
  pub decoded : Passes options.form options.hash out (pictures_of (behind_unit old.planner told).flights) old.buffer []
      new.buffer
  pub left : (behind_unit old.planner told).left ≡ new.planner
  pub going : stop_of new.planner.next ≡ None

-- by a result: what a unit told was planned, or decoding ended in its flights or by it
abbrev pub PlansUnit : {X : Type 0} → Options → Change → Decoder → List Told → Decoder → Result X Outcome → Type 0
PlansUnit options out old told new (Ok x) = Planned options out old told new
PlansUnit options out old told new (Err o) = ¬ (o ≡ outcome.Ok)
    × ((ended : Bool) (t : Told) (later : List Told) → told ≡ t ∷ [] → stop_of old.planner.next ≡ None
    → IsAnswered (still_owed options.form options.hash ended old.planner old.buffer (t ∷ later)) out o)
