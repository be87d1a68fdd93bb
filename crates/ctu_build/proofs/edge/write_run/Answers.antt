use Rattle.std.proofs.Common.{◌≡◌, ◌+◌, ◌-◌, ◌*◌, ◌/◌, ◌^◌, arith}
use Rattle.ctu_build.proofs.Runs.{run_told}
use Rattle.ctu_build.proofs.Sizes.{fours}
use Rattle.ctu_build.proofs.edge.write_run.Goals as goal

pub returns-then-write_left : goal.returns-then-write_left
returns-then-write_left c = λ is depth.
    let p = c.args.place in
    let e = fours p.log2 c.requires.place.some in
    let groups : 4 * (c.side-groups.result / 2) ≡ 2 * 2 ^ p.log2 = omega (arith, c.side-groups.ensures.value, e) in
    let over : 4 * (c.saturating_sub-outside.result / 4) ≡ p.y + 2 * 2 ^ p.log2 - 64 =
    omega (arith, c.saturating_sub-outside.ensures, c.if-outside-ne0.false, groups) in
    run_told c.args.samples.now _ p.c p.x p.y (2 ^ p.log2) _ c.unknown_below-below.result depth
    c.write_left.new.edge c.write_above.new.edge
    (record {
      known = c.known.ensures.value;
      values = c.values.ensures.value;
      corner = c.corner_of.ensures;
      groups = groups;
      component = c.requires.place.component;
      columns = c.requires.place.x;
      lines = c.requires.place.y;
    })
    over c.unknown_below-below.ensures.least c.unknown_below-below.ensures.greatest
    (omega (arith, c.requires.room, c.write_left.auto.edge, c.write_above.auto.edge))
    c.unknown_below-below.ensures.value (c.write_left.ensures.value c.if-write_left.true)
    (c.write_left.ensures.below c.if-write_left.true) (c.write_above.ensures.value is) c.write_above.ensures.rest
