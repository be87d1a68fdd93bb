use Rattle.std.proofs.Common.{◌≡◌, arith}
use Rattle.line_words.specs.Places.{words_at}
use Rattle.done_units.proofs.Passes.{all_written, goes_on, starts}
use Rattle.done_units.proofs.Standing.{size_is}
use Rattle.done_units.proofs.finishing.write_unit.Goals as goal

pub write_samples-vectors-requires-clause-writing : goal.write_samples-vectors-requires-clause-writing
write_samples-vectors-requires-clause-writing c =
    starts c.args.board.now c.args.at.now c.args.pass.now c.requires.own c.requires.next c.requires.unit
    c.requires.written

pub write_vectors-modes-requires-clause-writing : goal.write_vectors-modes-requires-clause-writing
write_vectors-modes-requires-clause-writing c = c.write_samples-vectors.ensures.written.writing

pub write_modes-offsets-requires-clause-writing : goal.write_modes-offsets-requires-clause-writing
write_modes-offsets-requires-clause-writing c = c.write_vectors-modes.ensures.written.writing

pub write_offsets-contexts-requires-clause-writing : goal.write_offsets-contexts-requires-clause-writing
write_offsets-contexts-requires-clause-writing c = c.write_modes-offsets.ensures.written.writing

pub write_contexts-carried-requires-clause-writing : goal.write_contexts-carried-requires-clause-writing
write_contexts-carried-requires-clause-writing c = c.write_offsets-contexts.ensures.written.writing

pub write_carried-requires-clause-writing : goal.write_carried-requires-clause-writing
write_carried-requires-clause-writing c = c.write_contexts-carried.ensures.written.writing

pub returns : goal.returns
returns c =
    let b = c.args.board.now in
    let u = c.args.at.now in
    let p = c.args.pass.now in
    let vectors = c.write_samples-vectors in
    let modes = c.write_vectors-modes in
    let offsets = c.write_modes-offsets in
    let contexts = c.write_offsets-contexts in
    let carried = c.write_contexts-carried in
    let end = c.write_carried in
    let two = goes_on b u p vectors.new.pass modes.new.pass vectors.result modes.result vectors.ensures.written
    modes.ensures.written in
    let three = goes_on b u p modes.new.pass offsets.new.pass modes.result offsets.result two offsets.ensures.written in
    let four = goes_on b u p offsets.new.pass contexts.new.pass offsets.result contexts.result three
    contexts.ensures.written in
    let five = goes_on b u p contexts.new.pass carried.new.pass contexts.result carried.result four
    carried.ensures.written in
    let six = goes_on b u p carried.new.pass end.new.pass carried.result end.result five end.ensures.written in
    let common = contexts.ensures.next in
    let more = carried.ensures.next in
    let last = end.ensures.next in
    let size = size_is b.flight u c.args.done.now c.requires.flight c.requires.done in
    let all : end.result ≡ words_at u = omega (arith, common, more, last, size) in
    all_written b u p end.new.pass end.result (words_at u) c.requires.written six all
