use Rattle.progress_words.specs.Passes.{view}
use Rattle.built_rows.proofs.filling.fill_next.Given as goal

abbrev pub ghosts-fill_over : goal.ghosts-fill_over
ghosts-fill_over g a = record { table = a.pass.seat.table_id; knows = view a.pass }
