use Rattle.flight_packing_laws.proofs.Agreeing.{also_held}
use Rattle.flight_packing_laws.proofs.laws.built_units_hold_what_agrees.Goals as goal

pub returns : goal.returns
returns c = also_held
