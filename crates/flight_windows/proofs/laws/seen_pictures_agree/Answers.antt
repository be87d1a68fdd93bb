use Rattle.flight_windows.proofs.Agreeing.{same_motions, seen_agree}
use Rattle.flight_windows.proofs.laws.seen_pictures_agree.Goals as goal

pub returns-clause-agree : goal.returns-clause-agree
returns-clause-agree c = λ f planned k p has l x seen all. seen_agree f k seen planned p has l x all

pub returns-clause-motions : goal.returns-clause-motions
returns-clause-motions c = λ f k seen. same_motions f k seen
