use Rattle.std.proofs.Common.{◌≡◌, arith, refl, ◌∙◌}
use Rattle.spec_deblocking.specs.Lines.{nth}
use Rattle.deblock.specs.Lanes.{line_of}
use Rattle.deblock.proofs.Beside.{rows_more, rows_none}
use Rattle.deblock.proofs.four.write_rows.Goals as goal

pub loop-k-init : goal.loop-k-init
loop-k-init c = record {
  count = refl;
  value = λ i j h. rows_none c.args.a c.args.b i j _ _;
  small = λ greatest lines old. old;
}

pub loop-k-preserved : goal.loop-k-preserved
loop-k-preserved c = record {
  count = c.write_row.ensures.count ∙ c.loop-k.invariant.count;
  value = λ i j h. rows_more c.args.a c.args.b c.loop-k.k i j (λ n k. nth (line_of c.args.l.now n) k) _ _ _
      (rw (c.nth.ensures.value _) at (c.write_row.ensures.value i j h)) (c.loop-k.invariant.value i j h);
  small = λ greatest lines old. c.write_row.ensures.small greatest (c.nth.ensures.small greatest lines)
      (c.loop-k.invariant.small greatest lines old);
}

pub returns : goal.returns
returns c =
    let same : c.loop-k.k ≡ 8 = omega arith in
    record {
      value = λ i j h. rw same at (c.loop-k.invariant.value i j h);
      small = c.loop-k.invariant.small;
    }
