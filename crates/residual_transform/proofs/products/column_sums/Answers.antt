use Rattle.std.proofs.Common.{rules, ◌+◌, ◌*◌, ◌*ℤ◌, pos, arith}
use Rattle.std.proofs.lemmas.Int.{to_z-of_z}
use Rattle.std.proofs.lemmas.List.{get_or-replicate}
use mir.Val.{SFits}
use mir.Syntax.{w32}
use Rattle.spec_transforms.specs.Matrices.{at, matrix_in}
use Rattle.spec_transforms.proofs.Sums.{sum_more}
use Rattle.residual_transform.proofs.Bounds.{column_within, is_partial_sum, is_sum}
use Rattle.residual_transform.proofs.products.column_sums.Goals as goal

pub loop-k-init : goal.loop-k-init
loop-k-init g c = record {
  told = λ j h. get_or-replicate g.row.SIZE j (pos 0) (pos 0) h;
}

pub add_row-requires : goal.add_row-requires
add_row-requires g c = (
  omega (arith, c.requires.matrix.few),
  (
    omega (arith, c.row.ensures.count, c.requires.same),
    (
      c.row.ensures.small,
      (
        search rules,
        λ j inside.
            is_partial_sum c.loop-k.k g.row.SIZE _ _ (c.loop-k.invariant.told j inside)
            (column_within c.args.matrix.now.entries.now c.args.values.now c.args.matrix.now.stride g.row.SIZE
            c.loop-k.k j c.args.column
            c.requires.matrix c.requires.values c.requires.room (omega arith) inside c.requires.column)
            (omega arith) c.requires.matrix.few,
      ),
    ),
  ),
)

pub loop-k-preserved : goal.loop-k-preserved
loop-k-preserved g c =
    let f : SFits w32 (at c.args.values.now (g.row.SIZE * c.loop-k.k + c.args.column)) = search rules in
    record {
      told = λ j inside.
          let added = rw (to_z-of_z w32 _ f) at (c.add_row.ensures.value j inside) in
          let was = c.loop-k.invariant.told j inside in
          let entry = c.row.ensures.value j (omega (arith, inside, c.requires.same)) in
          let more = sum_more c.loop-k.k
          (λ k. matrix_in c.args.matrix.now.entries.now c.args.matrix.now.stride k j
          *ℤ at c.args.values.now (g.row.SIZE * k + c.args.column)) in
          cc;
    }

pub returns-clause-small : goal.returns-clause-small
returns-clause-small g c j inside =
    let few = c.requires.matrix.few in
    is_sum c.loop-k.k _ _ (c.loop-k.invariant.told j inside)
    (column_within c.args.matrix.now.entries.now c.args.values.now c.args.matrix.now.stride g.row.SIZE
    c.loop-k.k j c.args.column
    c.requires.matrix c.requires.values c.requires.room (omega arith) inside c.requires.column)
    (omega arith)
