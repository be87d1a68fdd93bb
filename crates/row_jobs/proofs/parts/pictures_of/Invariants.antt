-- The pictures so far are those of the first parts.
use Rattle.std.proofs.Common.{◌≡◌, drop}
use Rattle.row_jobs.specs.Boards.{ArePictures}
use Rattle.row_jobs.proofs.parts.pictures_of.Given as goal

abbrev pub invariant-loop-place : goal.invariant-loop-place
invariant-loop-place l = record {
  left : l.left.items ≡ drop l.place l.fn.parts.items;
  are : ArePictures l.plans l.fn.parts.items l.place l.pictures;
}
