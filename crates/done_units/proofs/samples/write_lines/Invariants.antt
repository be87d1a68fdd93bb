use Rattle.std.proofs.Common.{◌≡◌, ◌+◌, ◌*◌, length}
use Rattle.done_units.specs.Writing.{HasWritten}
use Rattle.done_units.proofs.samples.write_lines.Given as goal

abbrev pub invariant-loop-line : goal.invariant-loop-line
invariant-loop-line l = record {
  count : length l.words ≡ length l.fn.words;
  next : l.next ≡ l.fn.first + l.line * length l.fn.words;
  written : HasWritten l.board l.fn.pass l.pass l.at l.next;
}
