use Rattle.std.proofs.Common.{◌≡◌, ◌+◌, ◌-◌, ◌*◌, ℕ, sym, arith}
use Rattle.spec_sample_adaptive_offset.specs.Offsets.{band_moved}
use Rattle.sao_filter.specs.Row.{at}
use Rattle.sao_filter.proofs.Laid.{eight_more}
use Rattle.sao_filter.proofs.runs.long_band_run.Goals as goal

pub loop-k-preserved : goal.loop-k-preserved
loop-k-preserved c = λ depth position offsets are.
    let k = c.loop-k.k in
    let e : 8 * k + 8 ≡ 8 * (k + 1) = omega arith in
    rw (sym e) (eight_more c.args.run.first (8 * k) (8 * k) _ _ c.args.out.now
    (λ (i : ℕ). band_moved depth position offsets (at c.args.lines.now (c.args.run.from + i)))
    (omega arith) (omega arith) (c.loop-k.invariant depth position offsets are)
    (c.lay_eight_banded.ensures.value depth position offsets are))

pub returns : goal.returns
returns c = λ depth position offsets are.
    let n = c.loop-k.k in
    let past = c.loop-k-test.false in
    let within = c.loop-k.auto.k-end in
    let e : c.args.run.count - 8 + 8 ≡ c.args.run.count = omega arith in
    rw (sym e) (eight_more c.args.run.first (8 * n) (c.args.run.count - 8) _ _ c.args.out.now
    (λ (i : ℕ). band_moved depth position offsets (at c.args.lines.now (c.args.run.from + i)))
    (omega (arith, past, within)) (omega (arith, past, within))
    (c.loop-k.invariant depth position offsets are)
    (c.lay_eight_banded-2.ensures.value depth position offsets are))
