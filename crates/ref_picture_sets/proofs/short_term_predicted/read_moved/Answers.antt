use Rattle.std.proofs.Common.{to_z, of_z, w32, ℤ}
use Rattle.std.proofs.lemmas.Int.{to_z-of_z}
use Rattle.std.proofs.lemmas.Result.{err_from_is_err_and}
use Rattle.header_fields.proofs.Loops.{goes_on, refuses, ends}
use Rattle.ref_picture_sets.proofs.Entries.{moved_is_loop}
use Rattle.ref_picture_sets.proofs.short_term_predicted.read_moved.Goals as goal

pub returns-in_err-flags : goal.returns-in_err-flags
returns-in_err-flags c =
    let p = err_from_is_err_and c.from_residual.result c.from_residual.ensures.1 in
    let at = rw (to_z-of_z w32 c.args.delta c.ranges.delta) at c.loop-entry.invariant in
    rw (p.1, p.2) (refuses (moved_is_loop c.args.reader.now.rules c.args.delta c.args.source.now)
    c.loop-entry.entry-index c.loop-entry.entries.items c.in_err-flags.field-0.0 _ c.loop-entry.reader
    c.use_flags.new.reader at c.loop-entry-test.true c.in_err-flags.ensures)

pub loop-entry-preserved : goal.loop-entry-preserved
loop-entry-preserved c =
    let delta : ℤ = to_z w32 (of_z w32 c.args.delta) in
    rw c.in_ok-add_moved.ensures (goes_on (moved_is_loop c.args.reader.now.rules delta c.args.source.now)
    c.loop-entry.entry-index c.loop-entry.entries.items c.in_ok-flags.flags _ c.loop-entry.reader c.use_flags.new.reader
    c.loop-entry.invariant c.loop-entry-test.true c.in_ok-flags.ensures)

pub returns : goal.returns
returns c =
    let at = rw (to_z-of_z w32 c.args.delta c.ranges.delta) at c.loop-entry.invariant in
    ends (moved_is_loop c.args.reader.now.rules c.args.delta c.args.source.now) c.loop-entry.entry-index
    c.loop-entry.entries.items _ c.loop-entry.reader at c.loop-entry-test.false
