-- Reading depends on the bits that it reads alone.
use Rattle.std.specs.Prelude.{◌≡◌, Bool, List, ◌++◌, Result, Ok}
use Rattle.hv_base.specs.declared.breach.Breach.{Breach}

-- a value and the bits behind it, or what is broken or met first
abbrev pub Reading : Type 0 → Type 0
Reading X = List Bool → Result (X × List Bool) Breach

-- these bits begin with some that spell x before rest, and whatever bits follow them instead, they spell x before those
pub record HasFront {X : Type 0} (read : Reading X) (bs : List Bool) (x : X) (rest : List Bool) : Type 0 where
  pub front : List Bool
  pub spelled : bs ≡ front ++ rest
  pub alone : (other : List Bool) → read (front ++ other) ≡ Ok (x, other)

-- what is read depends on the bits that are read, and on none behind them
pub record IsLocal {X : Type 0} (read : Reading X) : Type 0 where
  pub begins : (bs : List Bool) (x : X) (rest : List Bool) → read bs ≡ Ok (x, rest) → HasFront read bs x rest
