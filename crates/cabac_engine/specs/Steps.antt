-- What a step of the interval answers, and what its state tells.
use Rattle.std.specs.Prelude.{◌≡◌, ℕ, zero, suc, ◌+◌, ◌*◌, List, [], ◌∷◌, length, Option, Some, None}
use Rattle.spec_bits.specs.Bits.{digit, ◌>>=◌}
use Rattle.spec_cabac.specs.Engine.{Engine, left, bypass_at}

-- the step that reading makes; where it lacks bits, nothing changes
abbrev pub Steps : {X S : Type 0} → Option X → S → S → Option S → Type 0
Steps None old new read = (read ≡ None) × (new ≡ old)
Steps (Some x) old new read = read ≡ Some new

-- ivlCurrRange, ivlOffset, and how many bits are left
abbrev pub state_of : Engine → List ℕ
state_of e = e.range ∷ e.offset ∷ length (left e) ∷ []

-- the number that n bypass bins spell after a value, the greatest digit first, and the engine behind them
unfoldable pub bypasses_after : ℕ → ℕ → Engine → Option (ℕ × Engine)
bypasses_after zero value e = Some (value, e)
bypasses_after (suc n) value e = do
  bin ← bypass_at e
  bypasses_after n (2 * value + digit bin.0) bin.1

-- the number that the next n bypass bins spell
abbrev pub spelled : ℕ → Engine → Option ℕ
spelled n e = do
  d ← bypasses_after n 0 e
  Some d.0
