use Rattle.std.proofs.Common.{ap, ◌∙◌, ◌-◌}
use Rattle.spec_bits.proofs.Numbers.{shr_and_one-bit_of}
use Rattle.spec_cabac.specs.Bins.{Bypass}
use Rattle.cabac_writer.specs.Coding.{with_word}
use Rattle.made_rows.proofs.Words.{all_digits, digits_step, none_left}
use Rattle.made_rows.proofs.inter_rows.write_digits.Goals as goal

pub loop-i-init : goal.loop-i-init
loop-i-init c = all_digits c.args.writer.now c.args.n c.args.value

pub loop-i-preserved : goal.loop-i-preserved
loop-i-preserved c =
    digits_step c.loop-i.writer c.bypass.new.self _ c.loop-i.i c.args.n c.args.value c.loop-i-test.true
    (c.in_ok-bypass.ensures
    ∙ ap (λ bin. with_word c.loop-i.writer (Bypass, bin)) (shr_and_one-bit_of c.args.value (c.args.n - 1 - c.loop-i.i)))
    c.loop-i.invariant

pub returns : goal.returns
returns c = none_left c.loop-i.writer _ c.loop-i.i c.args.n c.args.value c.loop-i-test.false c.loop-i.invariant
