-- What a session stands for: all bytes that it was given, and all that its sinks gained.
use Rattle.std.specs.Prelude.{◌≡◌, ℕ, ◌≤◌, false, List, [], ◌∷◌, ◌++◌, length, Option, Some, None}
use Rattle.std.specs.List.{concat}
use Rattle.hv_base.specs.declared.outcome.Outcome.{Outcome}
use Rattle.hv_base.specs.declared.outcome.Outcome.TheVariants as outcome
use Rattle.hv_io.specs.Streams.{Gains, Takes}
use Rattle.plan_types.specs.declared.picture_plan.PicturePlan.{PicturePlan}
use Rattle.spec_nal_units.specs.Judged.{Told}
use Rattle.spec_picture_plan.specs.Planned.{planned_of}
use Rattle.spec_decoder.specs.Output.{OutPicture, written}
use Rattle.spec_decoder.specs.Decoder.{Decoded, bytes_of, decoded, ended}
use Rattle.spec_decoder.specs.Trail.{Event, first_of, trail_of}
use Rattle.session_laws.specs.Closings.{ClosesBehind}
use Rattle.decoder.specs.declared.options.Options.{Options}
use Rattle.decoder.specs.declared.session.Session.{Session}
use Rattle.decoder.specs.Buffers.{buffer_of}
use Rattle.decoder.specs.Headline.{Change, IsQuiet}
use Rattle.decoder.specs.Taking.{HasTaken, IsCounted, IsEnd, StillTells, all_owed}

-- nothing stopped the session: all whole units were taken
pub record IsGoing (s : Session) (bytes gained : List ℕ) : Type 0 where
  pub given : List Told
  pub tells : StillTells s.framer false bytes given []
  pub taken : HasTaken s.options s.decoder given gained

-- by the outcome that a session answered, if it answered one
abbrev pub StandsBy : Option Outcome → Session → List ℕ → List ℕ → Type 0
StandsBy None s bytes gained = IsGoing s bytes gained
StandsBy (Some o) s bytes gained = ¬ (o ≡ outcome.Ok) × IsEnd (all_owed s.options false bytes) gained o

-- a session was given these bytes, and its sinks gained those
abbrev pub Stands : Session → List ℕ → List ℕ → Type 0
Stands s bytes gained = StandsBy s.outcome s bytes gained

-- up to the closing of a picture no rule is broken and no limit met, and these bytes are what goes out before it
pub record IsBefore (s : Session) (bytes gained : List ℕ) (first : List PicturePlan) (p : PicturePlan) : Type 0 where
  pub front : List Event
  pub closes : ClosesBehind (trail_of false bytes) front first p
  pub outs : List OutPicture
  pub judged : first_of s.options.hash front [] ≡ record { pictures = outs; stop = None }
  pub written : gained ≡ concat (written s.options.form 0 outs)

-- what a session holds behind the bytes so far. At most `ahead` plans, those of the last pictures that closed, and at
-- most 16 pictures. Where a plan is held, all before the closing of the first such picture is judged and written, and
-- where none is, all
pub record Holds (s : Session) (bytes gained : List ℕ) : Type 0 where
  pub plans : length s.decoder.planner.pending ≤ s.options.ahead
  pub pictures : length (buffer_of s.decoder.buffer) ≤ 16
  pub first : List PicturePlan
  pub last : (planned_of false bytes).pictures ≡ first ++ s.decoder.planner.pending
  pub held : (p : PicturePlan) (more : List PicturePlan) → s.decoder.planner.pending ≡ p ∷ more
      → IsBefore s bytes gained first p
  pub none : s.decoder.planner.pending ≡ []
      → ((decoded s.options.hash false bytes).stop ≡ None)
      × (gained ≡ bytes_of s.options.form (decoded s.options.hash false bytes))

-- what an answer of a push says of all bytes so far: that more may come, or how decoding ended, which is neither
-- success nor a read fault
abbrev pub IsSaid : Session → List ℕ → List ℕ → Option Outcome → Type 0
IsSaid s bytes gained None = Holds s bytes gained
IsSaid s bytes gained (Some o) =
    ¬ (o ≡ outcome.Ok) × ¬ (o ≡ outcome.ReadFault) × IsEnd (all_owed s.options false bytes) gained o

-- the sink counted a fault where a write fault is answered, and else none
abbrev pub IsCountedBy : Change → Option Outcome → Type 0
IsCountedBy out None = IsQuiet out
IsCountedBy out (Some o) = IsCounted out o

-- behind a push: the sink gained more bytes, and the session stands for all of them
pub record Pushed (s : Session) (out : Change) (bytes gained : List ℕ) (answer : Option Outcome) : Type 0 where
  pub more : List ℕ
  pub gains : Gains out.before out.after more
  pub stands : Stands s bytes (gained ++ more)
  pub said : IsSaid s bytes (gained ++ more) answer

-- how a halted session ended: where it answers nothing, nothing stopped it
abbrev pub halted_as : Option Outcome → Outcome
halted_as None = outcome.Ok
halted_as (Some o) = o

-- an answer that isn't success
abbrev pub IsNoSuccess : Option Outcome → Type 0
IsNoSuccess o = ¬ (o ≡ Some outcome.Ok)

-- what was read of a source is what the session was given, and what it wrote the sink gained, without a fault
pub record HasRead (options : Options) (s : Session) (src out : Change) : Type 0 where
  pub bytes : List ℕ
  pub gained : List ℕ
  pub takes : Takes src.before src.after bytes
  pub gains : Gains out.before out.after gained
  pub stands : Stands s bytes gained
  pub going : s.outcome ≡ None
  pub same : s.options ≡ options
  pub read : IsQuiet src
  pub wrote : IsQuiet out
