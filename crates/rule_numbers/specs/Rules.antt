-- The number by which a fault word tells a rule.
use Rattle.std.specs.Prelude.{◌≡◌, ℕ, ◌==◌, ◌&&◌, nat_le, Bool, true, false, Option, Some, None, if◌then◌else◌}
use Rattle.hv_base.specs.declared.breach.Breach.{Breach}
use Rattle.hv_base.specs.declared.breach.Breach.TheVariants as breach
use Rattle.hv_base.specs.declared.fault.FaultKind.TheVariants as rule
use Rattle.hv_base.specs.Text.{fault_number}

-- the number of a broken rule; 0 for a limit, which the data of slice segments don't meet
abbrev pub rule_number : Breach → ℕ
rule_number (breach.Fault kind) = fault_number kind
rule_number (breach.Limit kind) = 0

-- whether it is a rule on the data of slice segments (7.3.8)
abbrev pub is_of_slice_data : Breach → Bool
is_of_slice_data (breach.Fault kind) = nat_le 20 (fault_number kind) && nat_le (fault_number kind) 26
is_of_slice_data (breach.Limit kind) = false

-- it is one of these: bits that are needed past the end of a substream; an end of a segment in another place than its
-- last unit; the end of a substream that isn't one; what follows an end; and levels, differences of parameters and of
-- vectors out of range
abbrev pub IsDataRule : Breach → Type 0
IsDataRule b = is_of_slice_data b ≡ true

-- the rule on these data that has a number
unfoldable pub breach_of : ℕ → Option Breach
breach_of r =
    if r == 20 then Some (breach.Fault rule.DataEnd)
    else (if r == 21 then Some (breach.Fault rule.SliceEnd)
    else (if r == 22 then Some (breach.Fault rule.SubsetEnd)
    else (if r == 23 then Some (breach.Fault rule.TrailingBits)
    else (if r == 24 then Some (breach.Fault rule.CoeffRange)
    else (if r == 25 then Some (breach.Fault rule.QpRange)
    else (if r == 26 then Some (breach.Fault rule.MvdRange)
    else None))))))

-- a rule on these data has this number
pub record IsNumbered (r : ℕ) (b : Breach) : Type 0 where
  pub number : rule_number b ≡ r
  pub data_rule : IsDataRule b
