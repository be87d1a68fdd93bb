-- How a stream is decoded.
use Rattle.std.specs.Prelude.{◌≤◌}
use Rattle.decoder.specs.declared.options.Options.{Options}

-- the numbers are those that may be given
abbrev pub IsInRange : Options → Type 0
IsInRange o = (1 ≤ o.workers) × (o.workers ≤ 64) × (1 ≤ o.ahead) × (o.ahead ≤ 16)
