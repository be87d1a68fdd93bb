use Rattle.std.proofs.Common.{arith}
use Rattle.row_jobs.proofs.Boards.{fault_inside, fault_of}
use Rattle.row_jobs.proofs.board.close_board.Goals as goal

pub at-requires : goal.at-requires
at-requires c =
    let place = c.fault_word.ensures in
    let count = c.close-words.ensures.count in
    let less = fault_inside c.args.board.flight c.args.layout.now c.requires.flight in
    omega (arith, place, count, less)

pub returns : goal.returns
returns c =
    let closed = c.close-words.ensures in
    fault_of c.args.board.flight c.args.layout.now c.requires.flight c.close-words.result
    (record { fault = closed.fault; counted = closed.counted; words_are = closed.words })
    c.closed_boards_hold_the_pictures.ensures c.fault_word.result c.fault_word.ensures c.at.result c.at.ensures
