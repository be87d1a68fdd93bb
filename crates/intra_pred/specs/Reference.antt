-- The samples of ref that the lines of a block meet.
use Rattle.std.specs.Prelude.{ℕ, ◌*◌, ◌<◌, ◌≤◌, ◌≡◌, List}
use Rattle.spec_intra_prediction.specs.Neighbours.{at}
use Rattle.spec_intra_prediction.specs.Angular.{angle, inverse_angle, met, reference}

-- held are those samples, each at its place counted from N samples before ref[0]
abbrev pub IsReference : ℕ → ℕ → List ℕ → List ℕ → List ℕ → Type 0
IsReference n mode main side held =
    (y i : ℕ) → y < n → met n (angle mode) y < 32 * i → i ≤ 3 * n
    → at held i ≡ reference n (inverse_angle mode) main side i
