use Rattle.std.proofs.Common.{◌≡◌, ◌-◌, drop, sym, ap, ◌∙◌, arith}
use Rattle.spec_nal_units.specs.Units.{all_zero}
use Rattle.nal_stream.proofs.Scanning.{trimmed-take, trimmed-none}
use Rattle.nal_stream.proofs.raw_unit.without_zeros.Goals as goal

pub returns-then-bytes-len-ne0 : goal.returns-then-bytes-len-ne0
returns-then-bytes-len-ne0 c =
    sym (trimmed-take c.args.bytes.now (c.loop-len.len - 1) c.loop-len.len (omega arith) (omega arith)
    (λ z. omega arith) c.loop-len.invariant.1)

pub returns : goal.returns
returns c =
    let none : 0 ≡ c.loop-len.len = omega arith in
    sym (trimmed-none c.args.bytes.now (ap (λ n. all_zero (drop n c.args.bytes.now)) none ∙ c.loop-len.invariant.1))
