-- What a run of `make` owes: its stream or the line that sums it up, and less of these for want of memory or after a
-- counted write fault.
use Rattle.std.specs.Prelude.{ℕ, Bool, true, false, List, []}
use Rattle.hv_base.specs.declared.outcome.Outcome.{Outcome}
use Rattle.hv_base.specs.declared.outcome.Outcome.TheVariants as outcome
use Rattle.hv_io.specs.Streams.{Gains, GainsPrefix}
use Rattle.spec_made.specs.Stream.{made}
use Rattle.spec_decoder.specs.Decoder.{Decoded, decoded}
use Rattle.decoder.specs.Headline.{Change, Failed, IsQuiet}
use Rattle.command_line.specs.declared.request.MakeOptions.{MakeOptions}
use Rattle.command_line.specs.Summary.{summary_of}

-- the stream that is asked for
abbrev pub stream_of : MakeOptions → List ℕ
stream_of options = made options.seed options.pictures

-- what it is decoded to; no stated hash is compared
abbrev pub decoded_of : MakeOptions → Decoded
decoded_of options = decoded false true (stream_of options)

-- what holds after each outcome, where the stream is written; there are no others
abbrev pub MakesStream : Change → List ℕ → Outcome → Type 0
MakesStream out stream outcome.Ok = Gains out.before out.after stream × IsQuiet out
MakesStream out stream outcome.Memory = GainsPrefix out.before out.after stream × IsQuiet out
MakesStream out stream outcome.WriteFault = GainsPrefix out.before out.after stream × Failed out
MakesStream out stream outcome.ReadFault = ⊥
MakesStream out stream (outcome.Fault f) = ⊥
MakesStream out stream (outcome.Limit l) = ⊥

-- where a line is: for want of memory nothing is written
abbrev pub MakesLine : Change → List ℕ → Outcome → Type 0
MakesLine out line outcome.Ok = Gains out.before out.after line × IsQuiet out
MakesLine out line outcome.Memory = Gains out.before out.after [] × IsQuiet out
MakesLine out line outcome.WriteFault = GainsPrefix out.before out.after line × Failed out
MakesLine out line outcome.ReadFault = ⊥
MakesLine out line (outcome.Fault f) = ⊥
MakesLine out line (outcome.Limit l) = ⊥

-- by whether the line that sums the stream up is asked for
abbrev pub MakesBy : Bool → Change → MakeOptions → Outcome → Type 0
MakesBy false out options o = MakesStream out (stream_of options) o
MakesBy true out options o = MakesLine out (summary_of (decoded_of options)) o

-- what is asked for is written
abbrev pub Makes : Change → MakeOptions → Outcome → Type 0
Makes out options o = MakesBy options.summary out options o
