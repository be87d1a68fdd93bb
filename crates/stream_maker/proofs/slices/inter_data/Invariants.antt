use Rattle.std.proofs.Common.{◌≡◌, ◌<◌}
use Rattle.std.specs.List.{All}
use Rattle.spec_made.specs.InterRows.{contexts_at, contexts_of_motion}
use Rattle.spec_made.specs.Bends.{bend_at, inter_row_by}
use Rattle.stream_maker.proofs.Rows.{Rows}
use Rattle.stream_maker.proofs.slices.inter_data.Given as goal

abbrev pub invariant-loop-r : goal.invariant-loop-r
invariant-loop-r l = record {
  rows : Rows (λ r. inter_row_by (bend_at l.bends l.picture r) l.motion l.units r) l.r l.bytes.items l.offsets.items;
  contexts : l.contexts ≡ contexts_at (contexts_of_motion l.motion) l.motion l.units l.r;
  small : All (λ context. context < 126) l.contexts;
}
