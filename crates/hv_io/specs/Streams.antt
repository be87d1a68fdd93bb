-- What a read and a write do to the bytes that a source has left and a sink has gained, and to their counts of faults.
use Rattle.std.specs.Prelude.{◌≡◌, ℕ, ◌+◌, ◌-◌, ◌^◌, ◌<◌, ◌≤◌, min, List, [], ◌++◌, length, take, Option, Some, None}

-- a count goes up by one, and stays at the greatest number that it can show
abbrev pub counted : ℕ → ℕ
counted n = min (n + 1) (2 ^ 64 - 1)

-- the count of faults rose, or stands at the greatest number that it can show
abbrev pub Rose : ℕ → ℕ → Type 0
Rose before after = before < 2 ^ 64 - 1 → before < after

-- the bytes that were left are these, and then those that are left; nothing where a source doesn't tell its bytes
abbrev pub Takes : Option (List ℕ) → Option (List ℕ) → List ℕ → Type 0
Takes None after got = Unit {0}
Takes (Some bytes) None got = ⊥
Takes (Some bytes) (Some rest) got = bytes ≡ got ++ rest

-- no byte is left, as far as a source tells its bytes
abbrev pub IsSpent : Option (List ℕ) → Type 0
IsSpent None = Unit {0}
IsSpent (Some bytes) = bytes ≡ []

-- the bytes so far have these at their end; nothing where a sink doesn't tell its bytes
abbrev pub Gains : Option (List ℕ) → Option (List ℕ) → List ℕ → Type 0
Gains None after piece = Unit {0}
Gains (Some bytes) None piece = ⊥
Gains (Some bytes) (Some more) piece = more ≡ bytes ++ piece

-- the bytes so far have a front of these, maybe all or none, at their end
abbrev pub GainsPrefix : Option (List ℕ) → Option (List ℕ) → List ℕ → Type 0
GainsPrefix before after piece = (n : ℕ) × ((n ≤ length piece) × Gains before after (take n piece))
