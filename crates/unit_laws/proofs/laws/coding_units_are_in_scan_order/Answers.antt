use Rattle.unit_laws.proofs.InOrder.{unit_at_scanned}
use Rattle.unit_laws.proofs.laws.coding_units_are_in_scan_order.Goals as goal

pub returns : goal.returns
returns c = λ common picture segment address between s t unit small least is.
    (unit_at_scanned common picture segment address between small least).gives s t unit is
