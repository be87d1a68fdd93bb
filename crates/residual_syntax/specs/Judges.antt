-- What a call answers that reads no bin.
use Rattle.std.specs.Prelude.{◌≡◌, Option, None, Some, Result, Ok, Err}
use Rattle.hv_base.specs.declared.breach.Breach.{Breach}
use Rattle.spec_cabac.specs.Bins.{State, Tree, data_end, read}
use Rattle.spec_cabac.specs.Engine.{IsLive}
use Rattle.cabac_contexts.specs.Takes.{state_of}
use Rattle.cabac_contexts.specs.declared.bin_reader.BinReader.{BinReader}

-- a call left the value that a format gives in each state, or answered what it refuses
abbrev pub Judges : {Y : Type 0} → Result (Unit {0}) Breach → Y → Tree Y → Type 0
Judges (Ok x) value format = (s : State) → read format s ≡ Ok (value, s)
Judges (Err e) value format = (s : State) → read format s ≡ Err e

-- a call left the value that a format reads and the state behind it, or found that bits lack for it
abbrev pub Gathers : {Y : Type 0} → Option (Unit {0}) → Y → BinReader → BinReader → Tree Y → Type 0
Gathers (Some x) value old new format = (read format (state_of old) ≡ Ok (value, state_of new)) × IsLive new.interval
Gathers None value old new format = read format (state_of old) ≡ Err data_end

-- a call answered what a format reads, and left the state behind it, or answered none, and left the reader
abbrev pub FindsOrStays : {X : Type 0} → Option X → BinReader → BinReader → Tree X → Type 0
FindsOrStays (Some x) old new format = (read format (state_of old) ≡ Ok (x, state_of new)) × IsLive new.interval
FindsOrStays None old new format = new ≡ old
