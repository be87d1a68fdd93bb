-- Samples that are laid over lines.
use Rattle.std.specs.Prelude.{◌≡◌, ◌<◌, ℕ, ◌+◌, ◌*◌, ◌==◌, nat_lt, nat_le, Bool, ◌&&◌, cond, List}
use Rattle.sao_filter.specs.Row.{at}

abbrev pub between : ℕ → ℕ → ℕ → Bool
between from to k = nat_le from k && nat_lt k to

-- samples of some columns of a line are laid over it
abbrev pub LaysLine : ℕ → ℕ → ℕ → ℕ → (ℕ → ℕ) → List ℕ → List ℕ → Type 0
LaysLine width line from to f old new =
    (i j : ℕ) → i < width
    → at new (width * j + i) ≡ cond (j == line && between from to i) (f i) (at old (width * j + i))

-- samples of some columns of the first lines are laid over them
abbrev pub LaysLines : ℕ → ℕ → ℕ → ℕ → (ℕ → ℕ → ℕ) → List ℕ → List ℕ → Type 0
LaysLines width lines from to f old new =
    (i j : ℕ) → i < width
    → at new (width * j + i) ≡ cond (nat_lt j lines && between from to i) (f i j) (at old (width * j + i))
