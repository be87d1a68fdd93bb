use Rattle.std.proofs.Common.{ap, ◌∙◌}
use Rattle.picture_layout.specs.declared.coding_tree_unit.CodingTreeUnit.{CodingTreeUnit}
use Rattle.built_rows.proofs.Ready.{ready_first}
use Rattle.built_rows.proofs.row_builder.RowBuilder.new.Goals as goal

pub returns : goal.returns
returns c facts v is =
    let seen = c.in_ok-new-3.ensures in
    ready_first facts c.args.picture.now is v _
    (ap (λ (u : CodingTreeUnit). u.layout) c.in_ok-new-2.ensures.unit ∙ c.new.ensures.value)
    (seen.sides.0, seen.sides.1 ∙ c.rows-rows.ensures.value) seen.none
