use Rattle.std.proofs.Common.{◌≡◌, arith}
use Rattle.deblock.proofs.Laying.{line_more, line_none, line_end}
use Rattle.deblock.proofs.window.write_some.Goals as goal

pub loop-k-init : goal.loop-k-init
loop-k-init g c = record {
  value = λ i j h. line_none c.args.a c.args.b g.row.FROM i j _ _;
  small = λ greatest line old. old;
}

pub loop-k-preserved : goal.loop-k-preserved
loop-k-preserved g c = record {
  value = λ i j h. line_more c.args.a c.args.b g.row.FROM c.loop-k.k i j c.args.line.now _ _ _ _ (omega arith)
      c.nth.ensures.value (c.put.ensures.value i j h) (c.loop-k.invariant.value i j h);
  small = λ greatest line old. c.put.ensures.small greatest (c.nth.ensures.small greatest line)
      (c.loop-k.invariant.small greatest line old);
}

pub returns : goal.returns
returns g c =
    let same : c.loop-k.k ≡ g.row.TO = omega arith in
    record {
      value = λ i j h. line_end c.args.a c.args.b g.row.FROM c.loop-k.k g.row.TO i j _ _ _ same
          (c.loop-k.invariant.value i j h);
      small = c.loop-k.invariant.small;
    }
