use Rattle.border_words.proofs.reading.read_words.Goals as goal

pub read_run-requires-clause-flight : goal.read_run-requires-clause-flight
read_run-requires-clause-flight c =
    c.pictures_have_the_sizes_of_their_flight.ensures.board c.args.board.now.flight c.args.at.now.sizes
    c.requires.flight
