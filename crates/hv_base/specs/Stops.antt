-- What stops a stream.
use Rattle.std.specs.Prelude.{ℕ, Option}
use Rattle.hv_base.specs.declared.breach.Breach.{Breach}
use Rattle.hv_base.specs.declared.breach.Breach.TheVariants as breach
use Rattle.hv_base.specs.declared.refusal.Stop.{Stop}
use Rattle.hv_base.specs.declared.refusal.Stop.TheVariants as stop

-- a broken rule with its NAL unit and, where there is one, its coding tree unit; a limit with its NAL unit
abbrev pub stopped_at : ℕ → Option ℕ → Breach → Stop
stopped_at nal ctu (breach.Fault kind) = stop.Fault (record { kind = kind; nal = nal; ctu = ctu })
stopped_at nal ctu (breach.Limit kind) = stop.Limit (record { kind = kind; nal = nal })
