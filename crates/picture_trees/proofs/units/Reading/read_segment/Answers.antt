use Rattle.std.proofs.Common.{arith, rules}
use Rattle.picture_trees.proofs.Segments.{within_broken, within_first, within_last, within_more}
use Rattle.picture_trees.proofs.units.Reading.read_segment.Goals as goal

pub returns-in-Err : goal.returns-in-Err
returns-in-Err g c p units given kept tells =
    let w = c.loop-address.invariant.told p units given kept tells in (
      w.0,
      w.1,
      (rw c.nal.ensures (within_broken c.args.segment.now c.loop-address.address c.loop-address.self
          w.0 _ c.in-Err.breach
          w.2 (omega arith) (c.in-Err.ensures.value w.2.units w.2.kept))),
    )

pub loop-address-init : goal.loop-address-init
loop-address-init g c = record {
  high = omega arith;
  live = search rules;
  told = λ p units given kept tells. (
    given,
    tells,
    rw c.first-address.ensures (within_first c.args.segment.now c.args.self.now units given kept),
  );
}

pub loop-address-preserved : goal.loop-address-preserved
loop-address-preserved g c = record {
  high = omega arith;
  live = c.in_default.ensures.live;
  told = λ p units given kept tells.
      let w = c.loop-address.invariant.told p units given kept tells in (
        _,
        c.in-Ok.ensures p w.0 w.1,
        (rw c.number.ensures (within_more c.args.segment.now c.loop-address.address c.loop-address.self
            c.unit_step.new.self w.0 _ w.2 (omega arith)
            (c.in_default.ensures.value w.2.units w.2.kept) (c.in_default.ensures.kept w.2.units w.2.kept))),
      );
}

pub returns : goal.returns
returns g c p units given kept tells =
    let w = c.loop-address.invariant.told p units given kept tells in (
      w.0,
      w.1,
      (within_last c.args.segment.now c.loop-address.address c.loop-address.self w.0 _
          (omega (arith, c.loop-address.invariant.high)) w.2),
    )
