-- Ranges: of vectors, and of bytes.
use Rattle.std.specs.Prelude.{ℕ, ◌<◌, ◌≤◌, Bool, false, List, [], ◌∷◌, Option, Some, None, if◌then◌else◌}
use Rattle.spec_cabac.specs.Bins.{Terminate}
use Rattle.spec_made.specs.Written.{Bins}
use Rattle.spec_made.specs.declared.units.Shift.{Shift}
use Rattle.spec_made.specs.declared.units.Motion.{Motion}

abbrev pub IsSmall : Shift → Type 0
IsSmall s = (s.across ≤ 200) × (s.down ≤ 200)

abbrev pub AreSmallIn : Option Shift → Type 0
AreSmallIn None = Unit {0}
AreSmallIn (Some s) = IsSmall s

abbrev pub AreSmall : Motion → Type 0
AreSmall m = IsSmall m.first × AreSmallIn m.second

abbrev pub AreBytes : List ℕ → Type 0
AreBytes [] = Unit {0}
AreBytes (b ∷ bytes) = (b < 256) × AreBytes bytes

-- end_of_slice_segment_flag of the unit before, if there is one in its row
abbrev pub before_words : Bool → Bins
before_words follows = if follows then (Terminate, false) ∷ [] else []
