-- What a call that reads into a unit's records does.
use Rattle.std.specs.Prelude.{◌≡◌, ℕ, ◌+◌, ◌≤◌, length, Result, Ok, Err, OnOk}
use Rattle.hv_base.specs.declared.breach.Breach.{Breach}
use Rattle.ctu_records.specs.Tree.{Ctu}
use Rattle.residual_syntax.specs.SpecCabac.{IsLive}
use Rattle.residual_syntax.specs.SpecCabac.{State, Tree, read}
use Rattle.residual_syntax.specs.CabacContexts.{BinReader}
use Rattle.residual_syntax.specs.CabacContexts.{state_of}

-- what a call left of a value, and the state behind it, is what reading gives
abbrev pub Leaves : {X Y : Type 0} → Result X Breach → Y → State → Result (Y × State) Breach → Type 0
Leaves (Ok x) value after read = read ≡ Ok (value, after)
Leaves (Err e) value after read = read ≡ Err e

-- the records are what this format reads, and bins may be asked behind it; or the first rule broken
abbrev pub Fills : {X : Type 0} → Result X Breach → Ctu → BinReader → BinReader → Tree Ctu → Type 0
Fills result records old new format =
    Leaves result records (state_of new) (read format (state_of old)) × OnOk result (IsLive new.interval)

-- a unit's records have at most so many items more
abbrev pub Grows : {X : Type 0} → Result X Breach → Ctu → Ctu → ℕ → Type 0
Grows result old new k = OnOk result (length new.items ≤ length old.items + k)
