use Rattle.std.proofs.Common.{◌+◌, arith}
use Rattle.deblock.specs.Windows.{seen}
use Rattle.deblock.proofs.Ends.{line_stays, normal_before, normal_behind, strong_before, strong_behind}
use Rattle.deblock.proofs.Ends.{nearest_before, nearest_behind, off_stays}
use Rattle.deblock.proofs.edge.filter_line.Goals as goal

pub write_line-requires-clause-before : goal.write_line-requires-clause-before
write_line-requires-clause-before c = λ k lt.
    line_stays (seen c.args.w.now c.args.out.now) c.args.a c.args.b k c.read_line-old.result _ c.filtered-line.result
    (rw c.in-Normal.is at c.filtered-line.ensures.value) c.read_line-old.ensures.value (normal_before _ _ _ _ _ k lt)
    (omega (arith, lt))

pub write_line-requires-clause-behind : goal.write_line-requires-clause-behind
write_line-requires-clause-behind c = λ k lt.
    line_stays (seen c.args.w.now c.args.out.now) c.args.a c.args.b (6 + k) c.read_line-old.result _
    c.filtered-line.result
    (rw c.in-Normal.is at c.filtered-line.ensures.value) c.read_line-old.ensures.value (normal_behind _ _ _ _ _ k lt) lt

pub write_line-requires-in-Strong-clause-before : goal.write_line-requires-in-Strong-clause-before
write_line-requires-in-Strong-clause-before c = λ k lt.
    line_stays (seen c.args.w.now c.args.out.now) c.args.a c.args.b k c.read_line-old.result _ c.filtered-line.result
    (rw c.in-Strong.is at c.filtered-line.ensures.value) c.read_line-old.ensures.value (strong_before _ _ _ k lt)
    (omega (arith, lt))

pub write_line-requires-in-Strong-clause-behind : goal.write_line-requires-in-Strong-clause-behind
write_line-requires-in-Strong-clause-behind c = λ k lt.
    line_stays (seen c.args.w.now c.args.out.now) c.args.a c.args.b (7 + k) c.read_line-old.result _
    c.filtered-line.result
    (rw c.in-Strong.is at c.filtered-line.ensures.value) c.read_line-old.ensures.value (strong_behind _ _ _ k lt) lt

pub write_line-requires-in-Nearest-clause-before : goal.write_line-requires-in-Nearest-clause-before
write_line-requires-in-Nearest-clause-before c = λ k lt.
    line_stays (seen c.args.w.now c.args.out.now) c.args.a c.args.b k c.read_line-old.result _ c.filtered-line.result
    (rw c.in-Nearest.is at c.filtered-line.ensures.value) c.read_line-old.ensures.value (nearest_before _ _ _ k lt)
    (omega (arith, lt))

pub write_line-requires-in-Nearest-clause-behind : goal.write_line-requires-in-Nearest-clause-behind
write_line-requires-in-Nearest-clause-behind c = λ k lt.
    line_stays (seen c.args.w.now c.args.out.now) c.args.a c.args.b (5 + k) c.read_line-old.result _
    c.filtered-line.result
    (rw c.in-Nearest.is at c.filtered-line.ensures.value) c.read_line-old.ensures.value (nearest_behind _ _ _ k lt) lt

pub write_line-requires-in-Off-clause-before : goal.write_line-requires-in-Off-clause-before
write_line-requires-in-Off-clause-before c = λ k lt.
    line_stays (seen c.args.w.now c.args.out.now) c.args.a c.args.b k c.read_line-old.result _ c.filtered-line.result
    (rw c.in-Off.is at c.filtered-line.ensures.value) c.read_line-old.ensures.value (off_stays _ _ _ k)
    (omega (arith, lt))

pub write_line-requires-in-Off-clause-behind : goal.write_line-requires-in-Off-clause-behind
write_line-requires-in-Off-clause-behind c = λ k lt.
    line_stays (seen c.args.w.now c.args.out.now) c.args.a c.args.b (5 + k) c.read_line-old.result _
    c.filtered-line.result
    (rw c.in-Off.is at c.filtered-line.ensures.value) c.read_line-old.ensures.value (off_stays _ _ _ (5 + k)) lt
