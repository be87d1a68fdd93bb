use Rattle.std.proofs.Common.{◌≡◌, ◌<◌}
use Rattle.std.specs.List.{All}
use Rattle.spec_made.specs.PcmRows.{pcm_contexts_at}
use Rattle.spec_made.specs.Bends.{bend_at, pcm_row_by}
use Rattle.stream_maker.proofs.Rows.{Rows}
use Rattle.stream_maker.proofs.slices.pcm_data.Given as goal

abbrev pub invariant-loop-r : goal.invariant-loop-r
invariant-loop-r l = record {
  rows : Rows (λ r. pcm_row_by (bend_at l.bends l.picture r) l.units r) l.r l.bytes.items l.offsets.items;
  contexts : l.contexts ≡ pcm_contexts_at l.units l.r;
  small : All (λ context. context < 126) l.contexts;
}
