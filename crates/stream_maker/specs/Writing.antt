-- What is written of a stream, by the meanings of a sink: its bytes and its count of faults.
use Rattle.std.specs.Prelude.{◌≡◌, ℕ, ◌≤◌, List, [], Option, Result, Ok, Err, ◌⊎◌}
use Rattle.hv_io.specs.Streams.{Gains, GainsPrefix, Rose}
use Rattle.stream_maker.specs.declared.output.MakeError.{MakeError}
use Rattle.stream_maker.specs.declared.output.MakeError.TheVariants as error

-- the sink gained these bytes without a fault
abbrev pub Wrote : {O : Type 0} → (O → Option (List ℕ)) → (O → ℕ) → O → O → List ℕ → Type 0
Wrote contents faults before after bytes =
    Gains (contents before) (contents after) bytes × (faults after ≡ faults before)

-- a front of them, and a fault
abbrev pub WroteFront : {O : Type 0} → (O → Option (List ℕ)) → (O → ℕ) → O → O → List ℕ → Type 0
WroteFront contents faults before after bytes =
    GainsPrefix (contents before) (contents after) bytes × Rose (faults before) (faults after)

-- nothing, or the stream of so many pictures or fewer
abbrev pub GainsWhole : Option (List ℕ) → Option (List ℕ) → (ℕ → List ℕ) → ℕ → Type 0
GainsWhole before after stream pictures =
    Gains before after [] ⊎ ((n : ℕ) × (n ≤ pictures) × Gains before after (stream n))

-- why bytes aren't written: for want of memory none of them are, and else a front of them with a fault
abbrev pub PieceCut : {O : Type 0} → (O → Option (List ℕ)) → (O → ℕ) → O → O → List ℕ → MakeError → Type 0
PieceCut contents faults before after bytes error.Memory = Wrote contents faults before after []
PieceCut contents faults before after bytes error.Write = WroteFront contents faults before after bytes

-- by a result: bytes are written, or why they aren't
abbrev pub WritesPiece : {O X : Type 0} → (O → Option (List ℕ)) → (O → ℕ) → O → O → List ℕ → Result X MakeError
    → Type 0
WritesPiece contents faults before after bytes (Ok x) = Wrote contents faults before after bytes
WritesPiece contents faults before after bytes (Err e) = PieceCut contents faults before after bytes e

-- why a stream isn't written: for want of memory whole pictures are, and else a front of it with a fault
abbrev pub StreamCut : {O : Type 0} → (O → Option (List ℕ)) → (O → ℕ) → O → O → (ℕ → List ℕ) → ℕ → MakeError
    → Type 0
StreamCut contents faults before after stream pictures error.Memory =
    GainsWhole (contents before) (contents after) stream pictures × (faults after ≡ faults before)
StreamCut contents faults before after stream pictures error.Write =
    WroteFront contents faults before after (stream pictures)

-- by a result: a stream is written, or why it isn't
abbrev pub WritesStream : {O X : Type 0} → (O → Option (List ℕ)) → (O → ℕ) → O → O → (ℕ → List ℕ) → ℕ
    → Result X MakeError → Type 0
WritesStream contents faults before after stream pictures (Ok x) =
    Wrote contents faults before after (stream pictures)
WritesStream contents faults before after stream pictures (Err e) =
    StreamCut contents faults before after stream pictures e
