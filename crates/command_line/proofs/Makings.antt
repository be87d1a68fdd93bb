-- What words that ask for something ask for, and what is written where nothing is.
use Rattle.std.proofs.Common.{◌≡◌, ℕ, Bool, true, false, List, Option, None, Some, refl, sym, ap, ◌∙◌, arith}
use Rattle.hv_base.specs.declared.outcome.Outcome.TheVariants as outcome
use Rattle.hv_io.specs.Streams.{GainsPrefix}
use Rattle.hv_io.proofs.StreamLemmas.{Gains-nil}
use Rattle.decoder.specs.declared.options.Options.{Options}
use Rattle.decoder.specs.Headline.{Change}
use Rattle.command_line.specs.declared.request.MakeOptions.{MakeOptions}
use Rattle.command_line.specs.declared.request.Request.{Request}
use Rattle.command_line.specs.declared.request.Request.TheVariants.{Decode, Make}
use Rattle.command_line.specs.Making.{MakesBy, stream_of}

decode_asked : Options → Option Request → Options
decode_asked other None = other
decode_asked other (Some (Decode options)) = options
decode_asked other (Some (Make options)) = other

make_asked : MakeOptions → Option Request → MakeOptions
make_asked other None = other
make_asked other (Some (Decode options)) = other
make_asked other (Some (Make options)) = options

-- the words ask for one decoding
pub one_decoding : (request : Option Request) (first second : Options) → request ≡ Some (Decode first)
    → request ≡ Some (Decode second) → first ≡ second
unfolding decode_asked
one_decoding request first second is also = ap (decode_asked first) (sym is ∙ also)

-- the words ask for one stream
pub one_stream : (request : Option Request) (first second : MakeOptions) → request ≡ Some (Make first)
    → request ≡ Some (Make second) → first ≡ second
unfolding make_asked
one_stream request first second is also = ap (make_asked first) (sym is ∙ also)

-- nothing is a front of a stream
nothing_is_front : (a : Option (List ℕ)) (stream : List ℕ) → GainsPrefix a a stream
nothing_is_front a stream = (0, (omega arith, Gains-nil a))

-- a sink to which nothing was done
abbrev pub unchanged : Option (List ℕ) → ℕ → Change
unchanged bytes faults = record { before = bytes; after = bytes; faults_before = faults; faults_after = faults }

-- where there was no memory for the words, nothing is written
pub nothing_by : (summary : Bool) (bytes : Option (List ℕ)) (faults : ℕ) (options : MakeOptions)
    → MakesBy summary (unchanged bytes faults) options outcome.Memory
nothing_by false bytes faults options = (nothing_is_front bytes (stream_of options), refl)
nothing_by true bytes faults options = (Gains-nil bytes, refl)
