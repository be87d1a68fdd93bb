use Rattle.cabac_engine.proofs.Reading.{ReadsOn}
use Rattle.cabac_engine.proofs.places.number_at.Given as goal

abbrev pub invariant-loop-i : goal.invariant-loop-i
invariant-loop-i l = ReadsOn l.value l.n l.i l.at l.bytes
