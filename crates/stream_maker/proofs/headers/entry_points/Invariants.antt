use Rattle.std.proofs.Common.{◌≡◌, [], ◌++◌, drop}
use Rattle.spec_made.specs.Headers.{entry_codes}
use Rattle.spec_written_headers.specs.Codes.{spelled}
use Rattle.stream_maker.proofs.headers.entry_points.Given as goal

abbrev pub invariant-loop-k : goal.invariant-loop-k
invariant-loop-k l =
    l.writer ++ spelled (entry_codes (drop l.k l.offsets)) [] ≡ l.fn.writer ++ spelled (entry_codes l.offsets) []
