-- What the error sink is told of a run.
use Rattle.std.specs.Prelude.{◌≡◌, ℕ, List}
use Rattle.hv_io.specs.Streams.{Gains, GainsPrefix}
use Rattle.decoder.specs.Headline.{Change, Failed}

-- the sink for lines gained the line, or a prefix of it where its count of faults rose
abbrev pub Tells : Change → List ℕ → Type 0
Tells err line = (¬ Failed err → Gains err.before err.after line) × GainsPrefix err.before err.after line

-- a run did nothing to a source or a sink
abbrev pub IsUntouched : Change → Type 0
IsUntouched c = (c.after ≡ c.before) × (c.faults_after ≡ c.faults_before)
