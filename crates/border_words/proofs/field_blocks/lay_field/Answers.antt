use Rattle.std.proofs.Common.{◌≡◌, ◌+◌, ◌*◌, ◌^◌, ◌<◌, ap, sym, subst, ◌∙◌, arith}
use Rattle.picture_layout.specs.declared.coding_tree_unit.CodingTreeUnit.{CodingTreeUnit}
use Rattle.spec_picture_trees.specs.Places.{first_column, first_row, unit_places}
use Rattle.picture_buffer.specs.Motion.{motions_of}
use Rattle.border_words.proofs.Blocks.{beneath_by, columns_more, same_beneath}
use Rattle.border_words.proofs.field_blocks.lay_field.Goals as goal

pub loop-column-preserved : goal.loop-column-preserved
loop-column-preserved c =
    let i = c.loop-column.invariant in
    record {
      columns =
          columns_more c.loop-column.border c.lay_field_column.new.border c.side-side.result c.loop-column.column
          (λ k row. motions_of c.args.field.now (c.first_column-x.result + 4 * k) (c.first_row-y.result + 4 * row))
          c.lay_field_column.ensures.column c.lay_field_column.ensures.others i.columns;
      same =
          same_beneath c.args.border.now c.loop-column.border c.lay_field_column.new.border i.same
          c.lay_field_column.ensures.same;
    }

pub returns-clause-beneath : goal.returns-clause-beneath
returns-clause-beneath c =
    let old = c.args.border.now in
    let motions = motions_of c.args.field.now in
    let i = c.loop-column.invariant in
    let out = c.loop-column-test.false in
    let side : c.side-side.result ≡ unit_places old.unit.layout =
    c.side-side.ensures.value ∙ ap (λ (v : CodingTreeUnit). 2 ^ v.layout.size) c.unit-unit.ensures in
    let left : c.first_column-x.result ≡ first_column old.unit.layout old.unit.address =
    c.first_column-x.ensures.value
    ∙ ap (λ (v : CodingTreeUnit). first_column v.layout v.address) c.unit-unit.ensures in
    let top : c.first_row-y.result ≡ first_row old.unit.layout old.unit.address =
    c.first_row-y.ensures.value ∙ ap (λ (v : CodingTreeUnit). first_row v.layout v.address) c.unit-unit.ensures in
    beneath_by old c.loop-column.border motions i.same
    (λ k across row down.
    i.columns k (omega (arith, across, side, out)) row (subst (λ n. 4 * row < n) (sym side) down)
    ∙ (ap (λ a. motions (a + 4 * k) (c.first_row-y.result + 4 * row)) left
    ∙ ap (λ a. motions (first_column old.unit.layout old.unit.address + 4 * k) (a + 4 * row)) top))
