use Rattle.std.proofs.Common.{subst}
use Rattle.plan_types.specs.declared.picture_plan.PicturePlan.{PicturePlan}
use Rattle.row_trees.specs.Reading.{IsCarried, OfSegment}
use Rattle.row_trees.proofs.Standing.{stands_at_row}
use Rattle.row_trees.proofs.row_reader.RowReader.resume_row.Goals as goal

pub returns-clause-stands : goal.returns-clause-stands
returns-clause-stands c =
    stands_at_row c.args.self.now.segments.plan c.args.address c.carried_reader-self.result c.none-self.result
    c.requires.first
    (subst (λ (q : PicturePlan). OfSegment q c.args.address (IsCarried q c.args.address c.carried_reader-self.result))
    c.go_to.ensures.plan c.carried_reader-self.ensures)
