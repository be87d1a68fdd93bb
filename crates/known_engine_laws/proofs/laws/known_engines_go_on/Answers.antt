use Rattle.known_engine_laws.proofs.Leaving.{leaves}
use Rattle.known_engine_laws.proofs.laws.known_engines_go_on.Goals as goal

pub returns : goal.returns
returns c = λ p address at known lt having is. leaves p address lt at known having is
