use Rattle.unit_laws.proofs.Available.{inside_of_unit, laid_of_unit}
use Rattle.unit_laws.proofs.Beside.{available_beside}
use Rattle.unit_laws.proofs.laws.availability_is_by_scan_order.Goals as goal

pub returns : goal.returns
returns c = record { inside = inside_of_unit; laid = laid_of_unit; beside = available_beside }
