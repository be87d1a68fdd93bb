use Rattle.std.proofs.Common.{◌∙◌}
use Rattle.sample_lines.proofs.UnitShapes.{shape_content, shape_index}
use Rattle.sample_lines.proofs.shapes.sample_index.Goals as goal

pub index_of-requires-clause-content : goal.index_of-requires-clause-content
index_of-requires-clause-content c =
    let shape = c.shape_of-shape.result in
    let told = c.shape_of-shape.ensures in
    let must = c.requires in
    shape_content c.args.at.now c.args.layout.now shape.width shape.height shape.column c.args.c c.args.line c.args.word
    must.place told.width told.height told.column must.component must.line must.word

pub returns-clause-value : goal.returns-clause-value
returns-clause-value c =
    let shape = c.shape_of-shape.result in
    let told = c.shape_of-shape.ensures in
    c.index_of.ensures
    ∙ shape_index c.args.at.now c.args.layout.now shape.width shape.height shape.column c.args.c c.args.line c.args.word
    c.requires.place told.width told.height told.column
