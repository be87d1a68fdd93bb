use Rattle.flight_lines.proofs.Steps.{reached_shows}
use Rattle.flight_lines.proofs.laws.boards_show_states_of_the_core.Goals as goal

pub returns : goal.returns
returns c = λ f on words reached. reached_shows f on words reached
