use Rattle.std.proofs.Common.{take}
use Rattle.std.specs.List.{All}
use Rattle.spec_motion.specs.Units.{IsPlacedItem}
use Rattle.boundary_strengths.specs.Held.{AreMarked}
use Rattle.boundary_strengths.proofs.marks.marks_of.Given as goal

abbrev pub invariant-loop-k : goal.invariant-loop-k
invariant-loop-k l = All IsPlacedItem l.items → AreMarked l.pcm_disabled (take l.k l.items) l.marks
