use Rattle.std.proofs.Common.{◌≡◌, ◌+◌, refl, arith}
use Rattle.deblock.proofs.four.read_rows.Goals as goal

pub returns-clause-value : goal.returns-clause-value
returns-clause-value c = λ n lt.
    let first : c.args.a + 0 ≡ c.args.a = omega arith in
    let start = rw first at (c.read_row.ensures.value n lt) in
    rw (
      start,
      c.read_row-2.ensures.value n lt,
      c.read_row-3.ensures.value n lt,
      c.read_row-4.ensures.value n lt,
      c.read_row-5.ensures.value n lt,
      c.read_row-6.ensures.value n lt,
      c.read_row-7.ensures.value n lt,
      c.read_row-8.ensures.value n lt,
    )
    refl

pub returns-clause-small : goal.returns-clause-small
returns-clause-small c = λ greatest all n lt. record {
  p3 = rw (c.read_row.ensures.value n lt) (all _);
  p2 = rw (c.read_row-2.ensures.value n lt) (all _);
  p1 = rw (c.read_row-3.ensures.value n lt) (all _);
  p0 = rw (c.read_row-4.ensures.value n lt) (all _);
  q0 = rw (c.read_row-5.ensures.value n lt) (all _);
  q1 = rw (c.read_row-6.ensures.value n lt) (all _);
  q2 = rw (c.read_row-7.ensures.value n lt) (all _);
  q3 = rw (c.read_row-8.ensures.value n lt) (all _);
}
