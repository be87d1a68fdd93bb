use Rattle.std.proofs.Common.{◌≡◌, length, rules, arith}
use Rattle.flight_packing_laws.specs.UnitWords.{height, width}
use Rattle.done_units.proofs.Ends.{offsets_are, offsets_end}
use Rattle.done_units.proofs.Standing.{offsets_have}
use Rattle.done_units.proofs.tail.write_offsets.Goals as goal

pub write_words-requires-clause-inside : goal.write_words-requires-clause-inside
write_words-requires-clause-inside c =
    let d = c.args.done.now in
    let end = offsets_end d.layout.now (width d) (height d) d.column c.args.first c.requires.first in
    let many : length c.pack_offsets-words.result ≡ 2 = search rules in
    omega (arith, end, many)

pub write_words-requires-clause-value : goal.write_words-requires-clause-value
write_words-requires-clause-value c =
    offsets_have c.args.done.now c.args.first c.pack_offsets-words.result (search rules) c.requires.first
    c.pack_offsets-words.ensures

pub returns-clause-next : goal.returns-clause-next
returns-clause-next c =
    let d = c.args.done.now in
    let many : length c.pack_offsets-words.result ≡ 2 = search rules in
    offsets_are d.layout.now (width d) (height d) d.column c.args.first c.write_words.result c.requires.first
    (omega (arith, c.write_words.ensures.next, many))
