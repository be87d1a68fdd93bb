use Rattle.std.proofs.Common.{◌≤◌, List}
use Rattle.header_types.specs.SequenceParameterSets.{size_in_ctbs}
use Rattle.spec_picture_trees.specs.Picture.{TreeUnit, picture_read}
use Rattle.picture_trees.specs.Given.{Told}
use Rattle.picture_trees.specs.Reading.{IsReached}
use Rattle.picture_trees.proofs.picture.read_picture.Given as goal

abbrev pub invariant-loop-number : goal.invariant-loop-number
invariant-loop-number g l = record {
  inside : l.first ≤ size_in_ctbs l.plan.sps;
  told : (given : List TreeUnit) → g.T.Trees.tells l.fn.trees l.plan given
      → Told (g.T.Trees.tells l.trees l.plan)
      (λ more. IsReached l.plan l.number l.first l.reading more (picture_read l.plan given));
}
