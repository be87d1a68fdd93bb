use Rattle.std.proofs.Common.{◌≡◌, ◌+◌, refl, arith}
use Rattle.deblock.proofs.window.read_line.Goals as goal

pub returns-clause-value : goal.returns-clause-value
returns-clause-value c =
    let first : c.args.a + 0 ≡ c.args.a = omega arith in
    let start = rw first at c.sample.ensures.value in
    rw (
      start,
      c.sample-2.ensures.value,
      c.sample-3.ensures.value,
      c.sample-4.ensures.value,
      c.sample-5.ensures.value,
      c.sample-6.ensures.value,
      c.sample-7.ensures.value,
      c.sample-8.ensures.value,
    )
    refl
