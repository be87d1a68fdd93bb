use Rattle.std.proofs.Common.{◌+◌, ◌<◌, ◌≤◌, List}
use Rattle.ctu_records.specs.Tree.{Ctu}
use Rattle.plan_types.specs.declared.picture_plan.PicturePlan.{PicturePlan}
use Rattle.spec_picture_trees.specs.Picture.{TreeUnit, segment_read}
use Rattle.picture_trees.specs.Given.{Told}
use Rattle.unit_trees.specs.Units.{MayGoOn}
use Rattle.picture_trees.specs.Reading.{IsKept, IsWithin, progress_of}
use Rattle.picture_trees.proofs.units.Reading.read_segment.Given as goal

abbrev pub invariant-loop-address : goal.invariant-loop-address
invariant-loop-address g l = record {
  high : l.address ≤ l.segment.shape.first + l.segment.shape.count;
  live : l.address < l.segment.shape.first + l.segment.shape.count → MayGoOn l.segment l.address l.self.reader;
  told : (p : PicturePlan) (units : List Ctu) (given : List TreeUnit)
      → IsKept l.segment.picture l.segment.shape.first l.fn.self.beside units → g.T.Trees.tells l.fn.trees p given
      → Told (g.T.Trees.tells l.trees p)
      (λ more. IsWithin l.segment l.address l.self more (segment_read l.segment (progress_of l.fn.self units given)));
}
