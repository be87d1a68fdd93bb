use Rattle.std.proofs.Common.{◌≡◌, ◌+◌, ◌-◌, ◌*◌, ◌&&◌, nat_le, nat_lt, refl, arith}
use Rattle.spec_deblocking.specs.Lines.{across, nth}
use Rattle.spec_deblocking.specs.Places.{side}
use Rattle.spec_deblocking.specs.Filters.{filtered}
use Rattle.spec_deblocking.proofs.Across.{across_same}
use Rattle.deblock.specs.Windows.{seen}
use Rattle.deblock.proofs.Beside.{wide_test}
use Rattle.deblock.proofs.Laying.{cond_by, lines_more, lines_none}
use Rattle.deblock.proofs.Edges.{line_yet, reads_inside}
use Rattle.deblock.proofs.edge.filter_lines.Goals as goal

pub way_of-start-requires-clause-inside : goal.way_of-start-requires-clause-inside
way_of-start-requires-clause-inside c = λ k few.
    let lines : c.side-lines.result * c.args.s ≡ side c.args.pass.now.plane * c.args.s =
    rw c.side-lines.ensures.value refl in
    reads_inside c.args.pass.now c.args.e c.args.s k _ c.requires.pass c.requires.across c.requires.along
    c.requires.edge c.requires.within few
    (omega (arith, lines)) (omega (arith, lines, c.side-lines.ensures.value, c.side-lines.ensures.least))

pub later-way-requires-clause-low : goal.later-way-requires-clause-low
later-way-requires-clause-low c =
    let lines : c.side-lines.result * c.args.s ≡ side c.args.pass.now.plane * c.args.s =
    rw c.side-lines.ensures.value refl in
    omega (arith, lines, c.requires.pass.along_low, c.requires.along.low)

pub later-way-requires-clause-inside : goal.later-way-requires-clause-inside
later-way-requires-clause-inside c = λ k few.
    let lines : c.side-lines.result * c.args.s ≡ side c.args.pass.now.plane * c.args.s =
    rw c.side-lines.ensures.value refl in
    reads_inside c.args.pass.now c.args.e c.args.s k _ c.requires.pass c.requires.across c.requires.along
    c.requires.edge c.requires.within few
    (omega (arith, lines)) (omega (arith, lines, c.side-lines.ensures.value, c.loop-n-test.true))

pub filter_line-requires-clause-inside : goal.filter_line-requires-clause-inside
filter_line-requires-clause-inside c = λ k few.
    let lines : c.side-lines.result * c.args.s ≡ side c.args.pass.now.plane * c.args.s =
    rw c.side-lines.ensures.value refl in
    reads_inside c.args.pass.now c.args.e c.args.s k _ c.requires.pass c.requires.across c.requires.along
    c.requires.edge c.requires.within few
    (omega (arith, lines)) (omega (arith, lines, c.side-lines.ensures.value, c.loop-n-test.true))

pub loop-n-init : goal.loop-n-init
loop-n-init c = record {
  value = λ i j h. lines_none _ j _ _ _;
  bounded = c.requires.bounded;
}

pub loop-n-preserved : goal.loop-n-preserved
loop-n-preserved c =
    let lines : c.side-lines.result * c.args.s ≡ side c.args.pass.now.plane * c.args.s =
    rw c.side-lines.ensures.value refl in
    let yet : across (seen c.args.pass.now.window c.loop-n.out) (8 * c.args.e - 4)
    (c.side-lines.result * c.args.s + c.loop-n.n)
    ≡ across (seen c.args.pass.now.window c.args.out.now) (8 * c.args.e - 4)
    (c.side-lines.result * c.args.s + c.loop-n.n) =
    across_same (seen c.args.pass.now.window c.loop-n.out) (seen c.args.pass.now.window c.args.out.now)
    (8 * c.args.e - 4) (c.side-lines.result * c.args.s + c.loop-n.n)
    (λ k few. line_yet (c.side-lines.result * c.args.s) c.loop-n.n _ _ _ _ _ refl
    (c.loop-n.invariant.value _ _
    (reads_inside c.args.pass.now c.args.e c.args.s k _ c.requires.pass c.requires.across c.requires.along
    c.requires.edge c.requires.within few
    (omega (arith, lines)) (omega (arith, lines, c.side-lines.ensures.value, c.loop-n-test.true))))) in
    record {
      value = λ i j h. lines_more (c.side-lines.result * c.args.s) c.loop-n.n j
          (nat_le (8 * c.args.e - 4 + c.args.kernel.from) i && nat_lt i (8 * c.args.e - 4 + c.args.kernel.to))
          (λ y. nth (filtered c.args.kernel.filter c.args.kernel.greatest c.args.kernel.tc
          (across (seen c.args.pass.now.window c.args.out.now) (8 * c.args.e - 4) y))
          (i - (8 * c.args.e - 4)))
          _ _ _
          (rw yet at (c.filter_line.ensures.value i j h))
          (c.loop-n.invariant.value i j h);
      bounded = c.filter_line.ensures.bounded;
    }

pub returns : goal.returns
returns c =
    let same : c.loop-n.n ≡ c.side-lines.result = omega (arith, c.loop-n-test.false) in
    record {
      value = λ i j h. rw (same, c.side-lines.ensures.value) at (c.loop-n.invariant.value i j h);
      bounded = c.loop-n.invariant.bounded;
    }

pub filter_four-requires-clause-inside : goal.filter_four-requires-clause-inside
filter_four-requires-clause-inside c = λ k n few lt.
    let lines : c.side-lines.result * c.args.s ≡ side c.args.pass.now.plane * c.args.s =
    rw c.side-lines.ensures.value refl in
    let four = c.is_wide.ensures.side c.if-is_wide.true in
    reads_inside c.args.pass.now c.args.e c.args.s k _ c.requires.pass c.requires.across c.requires.along
    c.requires.edge c.requires.within few
    (omega (arith, lines)) (omega (arith, lines, four, lt))

pub returns-then-is_wide-clause-value : goal.returns-then-is_wide-clause-value
returns-then-is_wide-clause-value c = λ i j h.
    let yes = c.if-is_wide.true in
    let lines : c.side-lines.result * c.args.s ≡ side c.args.pass.now.plane * c.args.s =
    rw c.side-lines.ensures.value refl in
    cond_by _ _ _ _ _ (c.filter_four.ensures.value i j h)
    (wide_test (side c.args.pass.now.plane) c.args.s (8 * c.args.e - 4) c.args.kernel.from c.args.kernel.to i j _
    (c.is_wide.ensures.side yes) (c.is_wide.ensures.from yes) (c.is_wide.ensures.to yes) lines)

pub filter_four-requires-clause-low : goal.filter_four-requires-clause-low
filter_four-requires-clause-low c =
    let lines : c.side-lines.result * c.args.s ≡ side c.args.pass.now.plane * c.args.s =
    rw c.side-lines.ensures.value refl in
    omega (arith, lines, c.requires.pass.along_low, c.requires.along.low)
