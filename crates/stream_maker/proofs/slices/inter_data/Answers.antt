use Rattle.std.proofs.Common.{◌∙◌, ◌++◌, ap, refl, rules, drop}
use Rattle.std.specs.Prelude.{pos}
use Rattle.spec_cabac.specs.Contexts.{first_contexts}
use Rattle.spec_made.specs.InterRows.{contexts_at}
use Rattle.spec_made.specs.Bends.{bend_at, inter_row_by}
use Rattle.stream_maker.proofs.Rows.{rows_step}
use Rattle.stream_maker.proofs.slices.inter_data.Goals as goal

pub loop-r-init : goal.loop-r-init
unfolding contexts_at
loop-r-init c = record {
  rows = record { bytes = c.new-bytes.ensures.items; offsets = c.new-offsets.ensures.items };
  contexts =
      c.first_contexts-contexts.ensures.value ∙ ap (λ t. first_contexts (pos 26) t) c.init_type.ensures.value;
  small = c.first_contexts-contexts.ensures.small;
}

pub loop-r-preserved : goal.loop-r-preserved
loop-r-preserved c = record {
  rows =
      rows_step (λ r. inter_row_by (bend_at c.args.bends.now c.args.picture r) c.args.motion c.args.units.now r)
      c.loop-r.r c.len-before.result c.in_ok-offset_behind.field-0 c.loop-r.bytes.items
      c.append_inter_row.new.bytes.items
      (drop c.len-before.result c.append_inter_row.new.bytes.items) c.loop-r.offsets.items c.push.new.self.items
      c.loop-r.invariant.rows
      (c.in_ok-contexts.ensures.bytes
      ∙ ap (λ b. c.loop-r.bytes.items ++ inter_row_by b c.args.motion c.args.units.now c.loop-r.r)
      c.bend_at-bend.ensures)
      (search rules) refl (search rules) (search rules);
  contexts = c.in_ok-contexts.ensures.behind;
  small = c.in_ok-contexts.ensures.small;
}
