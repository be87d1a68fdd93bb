use Rattle.std.proofs.Common.{ℕ, ◌≡◌, ◌+◌, ◌*◌, true, nat_lt, ap, arith, rules}
use Rattle.spec_sample_adaptive_offset.specs.declared.unit.OffsetUnit.{OffsetUnit}
use Rattle.spec_sample_adaptive_offset.specs.Plane.{sample_by, unit_at}
use Rattle.sao_filter.specs.Row.{lines_of, plane_of, samples_of, top, unit_in}
use Rattle.sao_filter.proofs.Rows.{row_more, unit_is}
use Rattle.std.proofs.Common.{sym}
use Rattle.sao_filter.proofs.filtering.filter_blocks.Goals as goal

pub loop-k-preserved : goal.loop-k-preserved
loop-k-preserved c =
    let row = c.args.row.now in
    row_more row.width row.size c.loop-k.k (lines_of row) c.filter_block.new.out c.loop-k.out c.args.out.now
    (λ (i j : ℕ). sample_by (plane_of row) (samples_of row c.args.lines.now)
    (unit_in row.here.now c.loop-k.k).offset i (top row + j))
    (λ (i j : ℕ). sample_by (plane_of row) (samples_of row c.args.lines.now)
    (unit_at (plane_of row) i (top row + j)).offset i (top row + j))
    (λ (i j : ℕ). samples_of row c.args.lines.now i (top row + j))
    c.filter_block.ensures
    (λ i j low high line. ap
    (λ (u : OffsetUnit). sample_by (plane_of row) (samples_of row c.args.lines.now) u.offset i (top row + j))
    (sym (unit_is row i j c.loop-k.k low high (omega arith))))
    c.loop-k.invariant

pub returns : goal.returns
returns c = λ i j column line stood.
    let row = c.args.row.now in
    let all : nat_lt i (row.size * c.loop-k.k) ≡ true = search rules in
    rw all at (c.loop-k.invariant i j column line stood)
