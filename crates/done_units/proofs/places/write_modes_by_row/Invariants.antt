use Rattle.std.proofs.Common.{◌≡◌, ◌+◌, ◌*◌, length}
use Rattle.done_units.specs.Writing.{HasWritten}
use Rattle.done_units.proofs.places.write_modes_by_row.Given as goal

abbrev pub invariant-loop-y : goal.invariant-loop-y
invariant-loop-y l = record {
  count : length l.words ≡ length l.fn.words;
  next : l.next ≡ l.fn.first + l.y * length l.fn.words;
  written : HasWritten l.board l.fn.pass l.pass l.at l.next;
}
