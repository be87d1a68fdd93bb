use Rattle.std.proofs.Common.{rules, ◌+◌, ◌*◌, ◌*ℤ◌, pos, arith}
use Rattle.std.proofs.lemmas.Int.{ints, to_z-of_z}
use Rattle.std.proofs.lemmas.List.{get_or-replicate}
use mir.Val.{SFits}
use mir.Syntax.{w32}
use Rattle.spec_transforms.specs.Matrices.{at, matrix_in}
use Rattle.spec_transforms.proofs.Sums.{sum_more}
use Rattle.residual_transform.proofs.Bounds.{every_other, half_within, is_half_sum, is_partial_sum}
use Rattle.residual_transform.proofs.halves.half_sums.Goals as goal

pub loop-k-init : goal.loop-k-init
loop-k-init g c = record {
  told = λ j h. get_or-replicate g.row.HALF j (pos 0) (pos 0) h;
}

pub add_row-requires : goal.add_row-requires
add_row-requires g c =
    let v =
    every_other c.args.values.now g.row.SIZE g.row.HALF c.args.first c.loop-k.k c.args.column
    c.requires.values c.requires.room c.requires.half c.requires.first (omega arith) c.requires.column in
    let f : SFits w32 (at c.args.values.now (g.row.SIZE * (2 * c.loop-k.k + c.args.first) + c.args.column)) =
    omega (arith, ints, v) in (
      omega (arith, c.requires.matrix.few, c.requires.half),
      (
        omega (arith, c.row.ensures.count, c.requires.same, c.requires.half),
        (
          c.row.ensures.small,
          (
            rw (to_z-of_z w32 _ f) v,
            λ j inside.
                is_partial_sum c.loop-k.k g.row.HALF _ _ (c.loop-k.invariant.told j inside)
                (half_within c.args.matrix.now.entries.now c.args.values.now c.args.matrix.now.stride g.row.SIZE
                g.row.HALF
                c.args.first c.loop-k.k j c.args.column
                c.requires.matrix c.requires.values c.requires.room c.requires.half c.requires.first
                (omega arith) inside
                c.requires.column)
                (omega arith) (omega (arith, c.requires.matrix.few, c.requires.half)),
          ),
        ),
      ),
    )

pub loop-k-preserved : goal.loop-k-preserved
loop-k-preserved g c =
    let f : SFits w32 (at c.args.values.now (g.row.SIZE *
    (2 * c.loop-k.k + c.args.first) + c.args.column)) = search rules in
    record {
      told = λ j inside.
          let added = rw (to_z-of_z w32 _ f) at (c.add_row.ensures.value j inside) in
          let was = c.loop-k.invariant.told j inside in
          let entry = c.row.ensures.value j (omega (arith, inside, c.requires.same, c.requires.half)) in
          let more = sum_more c.loop-k.k
          (λ k. matrix_in c.args.matrix.now.entries.now c.args.matrix.now.stride (2 * k + c.args.first) j
          *ℤ at c.args.values.now (g.row.SIZE * (2 * k + c.args.first) + c.args.column)) in
          cc;
    }

pub returns-clause-small : goal.returns-clause-small
returns-clause-small g c j inside =
    let few = c.requires.matrix.few in
    is_half_sum c.loop-k.k _ _ (c.loop-k.invariant.told j inside)
    (half_within c.args.matrix.now.entries.now c.args.values.now c.args.matrix.now.stride g.row.SIZE g.row.HALF
    c.args.first c.loop-k.k j c.args.column
    c.requires.matrix c.requires.values c.requires.room c.requires.half c.requires.first (omega arith) inside
    c.requires.column)
    (omega (arith, few, c.requires.half))
