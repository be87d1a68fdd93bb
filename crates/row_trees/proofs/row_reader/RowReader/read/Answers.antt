use Rattle.std.proofs.Common.{◌+◌, ◌^◌, ◌<◌, ◌≤◌, Ok, Err, ap, sym, subst, ◌∙◌}
use Rattle.plan_types.specs.declared.picture_plan.PicturePlan.{PicturePlan}
use Rattle.spec_picture_trees.specs.Shapes.{picture_shape}
use Rattle.unit_words.specs.UnitTrees.{Edge}
use Rattle.unit_words.specs.UnitTrees.{right_of}
use Rattle.unit_words.specs.UnitTrees.{MayGoOn}
use Rattle.spec_picture_trees.specs.Picture.{SegmentAt}
use Rattle.row_trees.specs.Reading.{StandsBefore}
use Rattle.row_trees.proofs.Standing.{below_end, of_some, reads_current, stands_next}
use Rattle.row_trees.proofs.row_reader.RowReader.read.Goals as goal

pub read_current-requires-clause-live : goal.read_current-requires-clause-live
read_current-requires-clause-live c =
    of_some c.go_to.new.self.current (λ (at : SegmentAt). MayGoOn at c.args.address c.args.self.now.reader)
    (λ at e. (c.requires.stands.carried at (sym c.go_to.ensures.value ∙ e)).live)

pub read_current-requires-clause-inside : goal.read_current-requires-clause-inside
read_current-requires-clause-inside c =
    of_some c.go_to.new.self.current (λ (at : SegmentAt). c.args.address < at.shape.first + at.shape.count)
    (λ at e. below_end c.args.self.now.segments.plan c.args.address at (sym c.go_to.ensures.value ∙ e))

pub returns-in-Err-clause-value : goal.returns-in-Err-clause-value
returns-in-Err-clause-value c read under =
    reads_current c.args.self.now.segments.plan c.args.address c.go_to.new.self.current c.args.self.now.reader
    c.read_current.new.reader c.args.self.now.left c.args.above.now c.args.stored.now c.read_current.new.records
    (Err c.in-Err.breach) c.go_to.ensures.value c.requires.inside c.requires.stands c.in-Err.ensures read under

pub returns-in-Ok-clause-value : goal.returns-in-Ok-clause-value
returns-in-Ok-clause-value c read under =
    reads_current c.args.self.now.segments.plan c.args.address c.go_to.new.self.current c.args.self.now.reader
    c.read_current.new.reader c.args.self.now.left c.args.above.now c.args.stored.now c.read_current.new.records
    (Ok c.in-Ok.field-0) c.go_to.ensures.value c.requires.inside c.requires.stands c.in-Ok.ensures read under

pub returns-in-Ok-clause-stands : goal.returns-in-Ok-clause-stands
returns-in-Ok-clause-stands c read under =
    let known =
    reads_current c.args.self.now.segments.plan c.args.address c.go_to.new.self.current c.args.self.now.reader
    c.read_current.new.reader c.args.self.now.left c.args.above.now c.args.stored.now c.read_current.new.records
    (Ok c.in-Ok.field-0) c.go_to.ensures.value c.requires.inside c.requires.stands c.in-Ok.ensures read under in
    let edge =
    c.right_of-self.ensures ∙ ap (λ n. right_of n c.read_current.new.records) c.side.ensures.value
    ∙ ap (λ (q : PicturePlan). right_of (2 ^ (picture_shape q.sps q.pps).size) c.read_current.new.records)
    c.go_to.ensures.plan in
    subst (λ (left : Edge). StandsBefore c.args.self.now.segments.plan (c.args.address + 1)
    c.read_current.new.reader left) (sym edge)
    (stands_next c.args.self.now.segments.plan c.args.address c.requires.inside c.read_current.new.records
    c.read_current.new.reader known
    (subst (λ (q : PicturePlan). (picture_shape q.sps q.pps).size ≤ 4) c.go_to.ensures.plan
    c.side.ensures.shape.greatest))
