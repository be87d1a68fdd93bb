use Rattle.std.proofs.Common.{sym, ◌∙◌}
use Rattle.locality_laws.proofs.Samples.{others_stay, unit_is}
use Rattle.locality_laws.proofs.laws.laid_units_leave_others.Goals as goal

pub returns : goal.returns
returns c picture address other known f component x y apart mine =
    others_stay picture address known f component x y (λ e. apart (sym (unit_is picture other component x y mine) ∙ e))
