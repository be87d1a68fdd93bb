-- What a call does to a reader of bins.
use Rattle.std.specs.Prelude.{◌≡◌, ℕ, ◌+◌, ◌-◌, ◌/◌, ◌^◌, ◌<◌, ◌≤◌, Option, None, Some, Result, Ok, Err, OnOk}
use Rattle.spec_cabac.specs.HvBase.{Breach}
use Rattle.spec_cabac.specs.SpecFormats.{◌>>=◌, give}
use Rattle.spec_cabac.specs.Engine.{Engine, IsLive}
use Rattle.spec_cabac.specs.Bins.{State, Tree, data_end, fixed, ones, read, Reads}
use Rattle.cabac_engine.specs.Steps.{spelled}
use Rattle.cabac_contexts.specs.declared.bin_reader.BinReader.{BinReader}

abbrev pub state_of : BinReader → State
state_of r = (r.interval, r.contexts)

-- a call answered, seen by view, what this format reads, or the first rule broken, and left the state behind it
abbrev pub Reaches : {X Y : Type 0} → (X → Y) → Result X Breach → BinReader → BinReader → Tree Y → Type 0
Reaches view result old new format = Reads view result (state_of new) (read format (state_of old))

-- the same where bins may be asked behind it
abbrev pub Takes : {X Y : Type 0} → (X → Y) → Result X Breach → BinReader → BinReader → Tree Y → Type 0
Takes view result old new format = Reaches view result old new format × OnOk result (IsLive new.interval)

-- the same of a call that left the value in what it was lent
abbrev pub Leaves : {Y : Type 0} → Result (Unit {0}) Breach → Y → BinReader → BinReader → Tree Y → Type 0
Leaves (Ok x) value old new format = (read format (state_of old) ≡ Ok (value, state_of new)) × IsLive new.interval
Leaves (Err e) value old new format = read format (state_of old) ≡ Err e

-- a call answered what a format reads, or none where bits lack for it, and left the state behind it
abbrev pub Finds : {X : Type 0} → Option X → BinReader → BinReader → Tree X → Type 0
Finds (Some x) old new format = (read format (state_of old) ≡ Ok (x, state_of new)) × IsLive new.interval
Finds None old new format = read format (state_of old) ≡ Err data_end

-- the number that the next 16 bypass bins spell, and how many of them are 1 before the first 0
pub record IsAhead (bins prefix : ℕ) (e : Engine) : Type 0 where
  pub is : spelled 16 e ≡ Some bins
  pub few : prefix ≤ 16
  pub told : prefix < 16 → bins / 2 ^ (15 - prefix) ≡ 2 ^ (prefix + 1) - 2

-- a prefix of bypass bins, and a suffix of as many as that says
abbrev pub prefixed : Breach → (ℕ → ℕ) → Tree (ℕ × ℕ)
prefixed too_great size = do
  prefix ← ones too_great
  suffix ← fixed (size prefix)
  give (prefix, suffix)
