-- How many items a call adds at most.
use Rattle.std.proofs.Common.{ℕ, ◌+◌, ◌≤◌, Result, Ok, Err, arith}
use Rattle.std.specs.Prelude.{OnOk}
use Rattle.hv_base.specs.declared.breach.Breach.{Breach}

-- a call that adds few items adds at most many
pub at_most : {X : Type 0} (result : Result X Breach) (before after few many : ℕ) → OnOk result (after ≤ before + few)
    → few ≤ many → OnOk result (after ≤ before + many)
at_most (Ok x) before after few many grows le = omega arith
at_most (Err e) before after few many grows le = tt
