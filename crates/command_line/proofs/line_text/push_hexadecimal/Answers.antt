use Rattle.std.proofs.Common.{◌++◌, ◌∙◌, ap}
use Rattle.command_line.proofs.Hexadecimal.{sixteen}
use Rattle.command_line.proofs.line_text.push_hexadecimal.Goals as goal

-- src/line_text.rt:1:1
pub returns-clause-text : goal.returns-clause-text
returns-clause-text c =
    c.push_digits.ensures.text ∙ ap (λ digits. c.args.line.now.bytes ++ digits) (sixteen c.args.n c.ranges.n.fits)
