use Rattle.std.proofs.Common.{◌≡◌, ◌+◌, ◌/◌, arith}
use native.Mathlib.Numerals.{unary_clauses}
use Rattle.residual_transform.proofs.Bounds.{column_within, is_sum}
use Rattle.residual_transform.proofs.Parity.{from_both_ends}
use Rattle.residual_transform.proofs.halves.column_halves.Goals as goal

pub returns-clause-value : goal.returns-clause-value
returns-clause-value g c j inside =
    let evens : c.div_ceil.result ≡ (c.args.count + 1) / 2 = omega (arith, c.div_ceil.ensures) in
    from_both_ends c.unfolded.result c.even-even.result c.odd-odd.result
    c.args.matrix.now.entries.now c.args.values.now c.args.matrix.now.stride g.row.SIZE g.row.HALF c.args.column
    c.args.count c.div_ceil.result j
    c.requires.matrix c.requires.large c.requires.half c.requires.count evens
    (simp unary_clauses c.even-even.ensures.value) c.odd-odd.ensures.value
    c.unfolded.ensures.front c.unfolded.ensures.back inside

pub returns-clause-small : goal.returns-clause-small
returns-clause-small g c j inside =
    is_sum c.args.count _ _ (returns-clause-value g c j inside)
    (column_within c.args.matrix.now.entries.now c.args.values.now c.args.matrix.now.stride g.row.SIZE
    c.args.count j c.args.column
    c.requires.matrix c.requires.values c.requires.room c.requires.count inside c.requires.column)
    (omega (arith, c.requires.count, c.requires.matrix.few))
