use Rattle.std.proofs.Common.{◌≡◌, sym, subst, arith}
use Rattle.cabac_writer.specs.Coding.{Coding, no_bins}
use Rattle.cabac_writer.specs.Encoders.{IsLive}
use Rattle.cabac_writer.proofs.Held.{new_held}
use Rattle.cabac_writer.proofs.encoder.Encoder.new.Goals as goal

pub invariant_of-result : goal.invariant_of-result
invariant_of-result c = record { held = (new_held c.new.result.items c.new.ensures.items).held }

none_live : IsLive no_bins
none_live = record { low = omega arith; high = omega arith }

pub returns : goal.returns
returns c =
    let e = (new_held c.new.result.items c.new.ensures.items).coding in
    record { value = e; live = subst IsLive (sym e) none_live }
