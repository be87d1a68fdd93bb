use Rattle.std.proofs.Common.{rules, ◌≡◌, ◌^◌}
use Rattle.residual_transform.proofs.Tables.{by_matrix}
use Rattle.residual_transform.proofs.stages.inverse.Goals as goal

pub returns-in-2-clause-value : goal.returns-in-2-clause-value
returns-in-2-clause-value c =
    let s : c.matrix_of-matrix.result.size ≡ 4 = search rules in
    let e : 4 ≡ 2 ^ c.args.log2 = search rules in
    by_matrix c.args.depth 4 _ c.args.dst _ _ c.transform_whole.new.out c.args.d.now
    (rw s at c.matrix_of-matrix.ensures.value) e c.transform_whole.ensures.value

pub returns-in-3-clause-value : goal.returns-in-3-clause-value
returns-in-3-clause-value c =
    let s : c.matrix_of-matrix.result.size ≡ 8 = search rules in
    let e : 8 ≡ 2 ^ c.args.log2 = search rules in
    by_matrix c.args.depth 8 _ c.args.dst _ _ c.transform.new.out c.args.d.now
    (rw s at c.matrix_of-matrix.ensures.value) e c.transform.ensures.value

pub returns-in-4-clause-value : goal.returns-in-4-clause-value
returns-in-4-clause-value c =
    let s : c.matrix_of-matrix.result.size ≡ 16 = search rules in
    let e : 16 ≡ 2 ^ c.args.log2 = search rules in
    by_matrix c.args.depth 16 _ c.args.dst _ _ c.transform-in-4.new.out c.args.d.now
    (rw s at c.matrix_of-matrix.ensures.value) e c.transform-in-4.ensures.value

pub returns-in_default-clause-value : goal.returns-in_default-clause-value
returns-in_default-clause-value c =
    let s : c.matrix_of-matrix.result.size ≡ 32 = search rules in
    let e : 32 ≡ 2 ^ c.args.log2 = search rules in
    by_matrix c.args.depth 32 _ c.args.dst _ _ c.transform-in_default.new.out c.args.d.now
    (rw s at c.matrix_of-matrix.ensures.value) e c.transform-in_default.ensures.value
