use Rattle.std.proofs.Common.{◌≢◌, ◌-◌, ◌<◌, ◌≡◌, ◌+ℤ◌, ◌-ℤ◌, arith, length, length-set, slice_set, below_more}
use Rattle.std.proofs.Common.{get_or-set_other, get_or-set_same}
use Rattle.std.proofs.lemmas.Int.{ints, to_z-of_z}
use mir.Val.{SFits, to_z, of_z}
use mir.Syntax.{w32}
use Rattle.spec_transforms.specs.Matrices.{at}
use Rattle.residual_transform.proofs.halves.unfolded.Goals as goal

pub loop-j-preserved : goal.loop-j-preserved
loop-j-preserved g c =
    let near : c.loop-j.j < g.row.HALF = omega (arith, c.loop-j-test.true) in
    let even = c.requires.even c.loop-j.j near in
    let odd = c.requires.odd c.loop-j.j near in
    let e : SFits w32 (at c.args.even.now c.loop-j.j) = omega (arith, ints, even) in
    let o : SFits w32 (at c.args.odd.now c.loop-j.j) = omega (arith, ints, odd) in
    let sum : c.sum.result ≡ at c.args.even.now c.loop-j.j +ℤ at c.args.odd.now c.loop-j.j =
    rw (to_z-of_z w32 _ e, to_z-of_z w32 _ o) at c.sum.ensures.value in
    let difference : c.difference.result ≡ at c.args.even.now c.loop-j.j -ℤ at c.args.odd.now c.loop-j.j =
    rw (to_z-of_z w32 _ e, to_z-of_z w32 _ o) at c.difference.ensures.value in
    let s : SFits w32 c.sum.result = omega (arith, ints, even, odd, sum) in
    let d : SFits w32 c.difference.result = omega (arith, ints, even, odd, difference) in
    let low : c.loop-j.j < length c.loop-j.sums = omega (arith, c.loop-j.invariant.long, near, c.requires.half) in
    let long : length (slice_set c.loop-j.sums c.loop-j.j (to_z w32 (of_z w32 c.sum.result))) ≡ g.row.SIZE =
    simp length-set c.loop-j.invariant.long in
    let high : g.row.SIZE - 1 - c.loop-j.j
    < length (slice_set c.loop-j.sums c.loop-j.j (to_z w32 (of_z w32 c.sum.result))) =
    omega (arith, long, near, c.requires.half) in
    record {
      front = below_more _ _
          (λ i k. let below : i ≢ c.loop-j.j = omega arith in
          let beyond : i ≢ g.row.SIZE - 1 - c.loop-j.j = omega (arith, near, k, c.requires.half) in
          rw (get_or-set_other, get_or-set_other) (c.loop-j.invariant.front i k))
          (let beyond : c.loop-j.j ≢ g.row.SIZE - 1 - c.loop-j.j = omega (arith, near, c.requires.half) in
          rw (get_or-set_other, get_or-set_same c.loop-j.sums c.loop-j.j _ _ low, to_z-of_z w32 _ s) sum);
      back = below_more _ _
          (λ i k. let below : g.row.SIZE - 1 - i ≢ c.loop-j.j = omega (arith, near, k, c.requires.half) in
          let beyond : g.row.SIZE - 1 - i ≢ g.row.SIZE - 1 - c.loop-j.j = omega (arith, near, k, c.requires.half) in
          rw (get_or-set_other, get_or-set_other) (c.loop-j.invariant.back i k))
          (rw (
            get_or-set_same (slice_set c.loop-j.sums c.loop-j.j (to_z w32 (of_z w32 c.sum.result)))
                (g.row.SIZE - 1 - c.loop-j.j) _ _ high,
            to_z-of_z w32 _ d,
          ) difference);
      long = simp length-set c.loop-j.invariant.long;
    }
