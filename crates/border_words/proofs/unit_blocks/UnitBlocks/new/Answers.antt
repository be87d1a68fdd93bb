use Rattle.std.proofs.Common.{◌+◌, ◌*◌, ◌∙◌, ap}
use Rattle.spec_slice_data.specs.Segment.{PictureShape}
use Rattle.border_words.proofs.Laying.{width_is}
use Rattle.border_words.proofs.unit_blocks.UnitBlocks.new.Goals as goal

pub returns-clause-unit : goal.returns-clause-unit
returns-clause-unit c = λ facts tree.
    let u = c.args.at.now in
    record {
      tree = tree;
      layout = c.unit_of-unit.ensures.layout ∙ c.new-picture.ensures.value;
      address =
          c.unit_of-unit.ensures.address
          ∙ (ap (λ (q : PictureShape). u.line.row * q.width + u.unit) c.new-picture.ensures.value
          ∙ ap (λ w. u.line.row * w + u.unit) (width_is c.args.plan.now));
      words = c.new-words.ensures.words;
    }
