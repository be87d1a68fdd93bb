use Rattle.std.proofs.Common.{arith}
use Rattle.std.proofs.lemmas.List.{get_or-replicate}
use Rattle.std.proofs.lemmas.List.Elements.{All-replicate}
use Rattle.inter_pred.specs.Passes.{IsByte}
use Rattle.flight_windows.proofs.nothing.clear_window.Goals as goal

pub returns-clause-value : goal.returns-clause-value
returns-clause-value c k lt = get_or-replicate 5112 k 0 0 lt

pub returns-clause-bytes : goal.returns-clause-bytes
returns-clause-bytes c = All-replicate IsByte 5112 0 (omega arith)
