use Rattle.flight_value_laws.proofs.Used.{agree, unit_read_same}
use Rattle.flight_value_laws.proofs.Within.{agree_on_uses, all_within, shape_of}
use Rattle.flight_value_laws.proofs.laws.units_are_read_from_what_they_use.Goals as goal

pub returns-clause-within : goal.returns-clause-within
returns-clause-within c f k row x p at has inside having =
    all_within f k row x p has inside at (shape_of p _ at having)

pub returns-clause-agree : goal.returns-clause-agree
returns-clause-agree c f k row x p at a b has inside having same =
    agree at _ a b (agree_on_uses f k row x p has inside at (shape_of p _ at having) a b same)

pub returns-clause-same : goal.returns-clause-same
returns-clause-same c f k row x p a b has inside same =
    unit_read_same p _ a b
    (λ at having. agree_on_uses f k row x p has inside at (shape_of p _ at having) a b same)
