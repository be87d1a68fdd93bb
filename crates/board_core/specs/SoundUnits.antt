-- Which units of a flight are sound, and which are bad, by what reading them breaks.
use Rattle.std.specs.Prelude.{ℕ, ◌≡◌, ◌<◌, Bool, true, List, All}
use Rattle.flight_plan.specs.Flight.{FlightRows}
use Rattle.hv_base.specs.declared.line.Line.{Line}
use Rattle.board_core.specs.Places.{full_count, IsLine, IsPlaceOf, unit_of}
use Rattle.board_core.specs.Needs.{read_needs, unit_needs}
use Rattle.board_core.specs.States.{IsBad}

-- the first so many units of a line are sound
abbrev pub AreSoundTo : (Line → ℕ → Bool) → Line → ℕ → Type 0
AreSoundTo sound l n = (y : ℕ) → y < n → sound l y ≡ true

-- what is needed of lines of the flight is sound
abbrev pub AreNeedsSound : FlightRows → (Line → ℕ → Bool) → List (Line × ℕ) → Type 0
AreNeedsSound plan sound needs = All (λ need. IsLine plan need.0 → AreSoundTo sound need.0 need.1) needs

-- sound units, as they are told: each unit that isn't bad, and whose needs and the earlier units of its line are sound,
-- is one
abbrev pub IsSoundness : FlightRows → (Line → ℕ → Bool) → Type 0
IsSoundness plan sound =
    (l : Line) (x : ℕ) → IsLine plan l → x < full_count plan l → ¬ IsBad plan (unit_of plan l x)
    → AreNeedsSound plan sound (unit_needs plan l x) → AreSoundTo sound l x → sound l x ≡ true

-- a unit is the first of its line at which a rule is broken: it is told as bad, and what reading it needs and the
-- earlier units of its line are sound
pub record IsFirstBad (plan : FlightRows) (sound : Line → ℕ → Bool) (u : ℕ) : Type 0 where
  pub bad : IsBad plan u
  pub line : Line
  pub x : ℕ
  pub place : IsPlaceOf plan u line x
  pub needs : AreNeedsSound plan sound (read_needs plan line x)
  pub earlier : AreSoundTo sound line x
