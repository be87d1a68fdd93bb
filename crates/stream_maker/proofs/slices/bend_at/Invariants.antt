use Rattle.std.proofs.Common.{◌≡◌, drop}
use Rattle.spec_made.specs.Bends.{bend_at}
use Rattle.stream_maker.proofs.slices.bend_at.Given as goal

-- none of the bends so far names the row
abbrev pub invariant-loop-k : goal.invariant-loop-k
invariant-loop-k l = bend_at (drop l.k l.bends) l.picture l.row ≡ bend_at l.bends l.picture l.row
