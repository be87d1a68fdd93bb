use Rattle.std.proofs.Common.{◌≡◌, ◌++◌, drop}
use Rattle.spec_nal_units.specs.Escaped.{escaped}
use Rattle.stream_maker.proofs.escaping.append_escaped.Given as goal

abbrev pub invariant-loop-k : goal.invariant-loop-k
invariant-loop-k l =
    l.out.items ++ escaped l.first l.second (drop l.k l.bytes)
    ≡ l.fn.out.items ++ escaped l.fn.before l.fn.last l.fn.bytes
