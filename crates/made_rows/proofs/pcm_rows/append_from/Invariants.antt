use Rattle.std.proofs.Common.{◌+◌, ◌-◌, ◌<◌, ◌++◌}
use Rattle.std.specs.List.{All}
use Rattle.spec_made.specs.PcmRows.{parts_from, part_bytes, contexts_behind_parts}
use Rattle.made_rows.specs.Small.{before_words}
use Rattle.made_rows.proofs.Parts.{Left}
use Rattle.made_rows.proofs.pcm_rows.append_from.Given as goal

abbrev pub invariant-loop-k : goal.invariant-loop-k
invariant-loop-k l =
    Left l.units (l.first + l.k) (l.n - l.k) (before_words l.after) l.row.items l.behind
    (l.fn.row.items ++ part_bytes (parts_from l.units l.first l.n (before_words l.fn.follows)) l.fn.contexts)
    (contexts_behind_parts (parts_from l.units l.first l.n (before_words l.fn.follows)) l.fn.contexts)
    × All (λ context. context < 126) l.behind
