use Rattle.spec_cabac.proofs.TablesByColumn.{ranges, states, init_values, bases}
use Rattle.spec_cabac.proofs.laws.tables_stand_by_column.Goals as goal

pub returns : goal.returns
returns c = record { ranges = ranges; states = states; init_values = init_values; bases = bases }
