use Rattle.std.proofs.Common.{arith, ap, ◌∙◌, Some}
use Rattle.command_line.proofs.Numbers.{none_read, number_read}
use Rattle.command_line.proofs.words.number_in.Goals as goal

pub returns-then-n-most-clause-value : goal.returns-then-n-most-clause-value
returns-then-n-most-clause-value c =
    let read = c.in-Ok.ensures.value.0 in
    ap Some read.1 ∙ number_read c.args.least c.args.most c.args.text.now (
      read.0.0,
      omega (arith, read.0.1),
      omega (arith, read.1, c.if-least-n.true),
      omega (arith, read.1, c.if-n-most.true),
    )

pub returns-in-Err-clause-value : goal.returns-in-Err-clause-value
returns-in-Err-clause-value c =
    none_read c.args.least c.args.most c.args.text.now
    (λ fits. c.in-Err.ensures.value.0 (fits.0, omega (arith, fits.3, c.ranges.most.fits)))
