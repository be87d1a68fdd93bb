use Rattle.std.proofs.Common.{◌≡◌, true, ◌+◌, ◌-◌, sym, ◌∙◌, arith}
use Rattle.sao_filter.proofs.Edges.{between_reads, line_reads, part_reads_both}
use Rattle.sao_filter.proofs.edge.reads_line.Goals as goal

pub returns-clause-value : goal.returns-clause-value
returns-clause-value c = λ read.
    let row = c.args.row.now in
    let block = c.args.block in
    let edge = c.args.edge.now in
    let head : part_reads_both row block c.args.line block.from (block.from + 1) edge.column edge.line ≡ true =
    sym c.if-not-reads_both.ensures in
    let middle : part_reads_both row block c.args.line (block.from + 1) (block.to - 1) edge.column edge.line ≡ true =
    sym c.if-not-reads_both-2.ensures in
    let tail : part_reads_both row block c.args.line (block.to - 1) block.to edge.column edge.line ≡ true =
    sym c.reads_both-3.ensures ∙ read in
    line_reads row block c.args.line edge.column edge.line c.requires.row c.requires.block c.requires.line
    (omega (arith, c.requires.edge)) (omega (arith, c.requires.edge)) head middle tail

pub returns-clause-alike : goal.returns-clause-alike
returns-clause-alike c = λ read.
    let row = c.args.row.now in
    let block = c.args.block in
    let edge = c.args.edge.now in
    let head : part_reads_both row block c.args.line block.from (block.from + 1) edge.column edge.line ≡ true =
    sym c.if-not-reads_both.ensures in
    let middle : part_reads_both row block c.args.line (block.from + 1) (block.to - 1) edge.column edge.line ≡ true =
    sym c.if-not-reads_both-2.ensures in
    let tail : part_reads_both row block c.args.line (block.to - 1) block.to edge.column edge.line ≡ true =
    sym c.reads_both-3.ensures ∙ read in
    between_reads row block c.args.line edge.column edge.line c.requires.row c.requires.block
    (omega (arith, c.requires.edge)) (omega (arith, c.requires.edge)) head middle tail
