use Rattle.std.proofs.Common.{ℕ, ◌<◌, length, to_z, of_z, arith, rules, ap}
use Rattle.std.proofs.Common.{◌∙◌}
use Rattle.std.proofs.lemmas.Int.{to_z-of_z}
use mir.Syntax.{w16}
use Rattle.std.proofs.lemmas.Grind.{common_steps}
use Rattle.spec_sample_adaptive_offset.specs.Offsets.{edge_idx, offset_value}
use Rattle.sao_filter.proofs.Laid.{table_more}
use Rattle.sao_filter.proofs.changes.edge_changes.Goals as goal

pub loop-k-preserved : goal.loop-k-preserved
loop-k-preserved c =
    let room : c.loop-k.k < length c.loop-k.table = omega (arith, c.loop-k.invariant.length, c.loop-k-test.true) in
    let is =
    c.offset_value.ensures
    ∙ ap (λ (i : ℕ). offset_value c.args.depth c.args.offsets.now i) c.edge_index.ensures.value in
    record {
      length = grind (arith, common_steps, c.loop-k.invariant.length);
      told =
          table_more c.loop-k.table c.loop-k.k c.offset_value.result (to_z w16 (of_z w16 c.offset_value.result))
          (λ (q : ℕ). offset_value c.args.depth c.args.offsets.now (edge_idx q)) room
          (to_z-of_z w16 c.offset_value.result (search rules)) is c.loop-k.invariant.told;
    }
