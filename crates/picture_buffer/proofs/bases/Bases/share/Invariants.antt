-- The pictures so far stand in both.
use Rattle.std.proofs.Common.{◌≡◌, take}
use Rattle.picture_buffer.proofs.bases.Bases.share.Given as goal

abbrev pub invariant-loop-picture : goal.invariant-loop-picture
invariant-loop-picture l = l.shared ≡ take l.picture-index l.self
