use Rattle.picture_trees.specs.Given.{tree_unit}
use Rattle.picture_build.specs.Pictures.{buffer_of}
use Rattle.picture_build.proofs.Built.{built_more}
use Rattle.picture_build.proofs.builder.PictureBuilderTrees.unit.Goals as goal

pub returns : goal.returns
returns g c = λ p given before.
    built_more (buffer_of g.B.Buffer.pictures) c.args.self.now c.add.new.self p given
    (tree_unit c.args.segment c.args.ctu c.args.records.now) before c.add.ensures.plan c.add.ensures.value
    c.add.ensures.behind
