use Rattle.std.proofs.Common.{rules}
use Rattle.hv_base.specs.Text.{digest_text}
use Rattle.hv_base.proofs.Hexadecimal.{filled}
use Rattle.hv_base.proofs.digest.DigestDisplay.fmt.Goals as goal

-- src/digest.rt:21:5
pub returns-clause-writes : goal.returns-clause-writes
returns-clause-writes g c = search (
  rules,
  c.laid_out.ensures,
  c.laid_out-2.ensures,
  c.in_radix.ensures,
  c.in_radix-2.ensures,
  filled,
  c.write.ensures.writes,
)
