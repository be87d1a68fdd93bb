use Rattle.std.proofs.Common.{◌≡◌, length, rules, arith}
use Rattle.done_units.proofs.Passes.{nothing_more}
use Rattle.done_units.proofs.Standing.{contexts_are, contexts_have, no_contexts}
use Rattle.done_units.proofs.tail.write_contexts.Goals as goal

pub write_words-requires-clause-inside : goal.write_words-requires-clause-inside
write_words-requires-clause-inside c =
    let at = c.requires.first in
    let more = contexts_are c.args.done.now.column c.if-column-eq1.true in
    let many : length c.pack_contexts-words.result ≡ 20 = search rules in
    omega (arith, at, more, many)

pub write_words-requires-clause-value : goal.write_words-requires-clause-value
write_words-requires-clause-value c =
    contexts_have c.args.done.now c.args.first c.pack_contexts-words.result (search rules)
    c.if-column-eq1.true c.requires.first c.pack_contexts-words.ensures

pub returns-then-column-eq1-clause-next : goal.returns-then-column-eq1-clause-next
returns-then-column-eq1-clause-next c =
    let more = contexts_are c.args.done.now.column c.if-column-eq1.true in
    let many : length c.pack_contexts-words.result ≡ 20 = search rules in
    omega (arith, c.write_words.ensures.next, more, many)

pub returns-else-column-eq1-clause-next : goal.returns-else-column-eq1-clause-next
returns-else-column-eq1-clause-next c =
    let none = no_contexts c.args.done.now.column c.if-column-eq1.false in
    omega (arith, none)

pub returns-else-column-eq1-clause-written : goal.returns-else-column-eq1-clause-written
returns-else-column-eq1-clause-written c =
    nothing_more c.args.board.now c.args.at.now c.args.pass.now c.args.first c.requires.writing
