use Rattle.std.proofs.Common.{◌≡◌, ℕ, ◌+◌, length, rules, arith, ap, sym, ◌∙◌}
use Rattle.done_units.proofs.Passes.{nothing_more}
use Rattle.done_units.proofs.Standing.{carried_have, carry_is, no_carry}
use Rattle.done_units.proofs.tail.write_carried.Goals as goal

pub pack_carried-words-requires : goal.pack_carried-words-requires
pack_carried-words-requires c =
    ap (λ (n : ℕ). n + 1) (sym c.from-behind.ensures)
    ∙ (c.if-behind-row_end.true ∙ c.columns-row_end.ensures.value)

pub write_words-requires-clause-inside : goal.write_words-requires-clause-inside
write_words-requires-clause-inside c =
    let d = c.args.done.now in
    let at = c.requires.first in
    let last = ap (λ (n : ℕ). n + 1) (sym c.from-behind.ensures)
    ∙ (c.if-behind-row_end.true ∙ c.columns-row_end.ensures.value) in
    let more = carry_is d.layout.now d.column last in
    let many : length c.pack_carried-words.result ≡ 24 = search rules in
    omega (arith, at, more, many)

pub write_words-requires-clause-value : goal.write_words-requires-clause-value
write_words-requires-clause-value c =
    carried_have c.args.done.now c.args.first c.pack_carried-words.result (search rules)
    (ap (λ (n : ℕ). n + 1) (sym c.from-behind.ensures)
    ∙ (c.if-behind-row_end.true ∙ c.columns-row_end.ensures.value))
    c.requires.first c.pack_carried-words.ensures

pub returns-then-behind-row_end-clause-next : goal.returns-then-behind-row_end-clause-next
returns-then-behind-row_end-clause-next c =
    let d = c.args.done.now in
    let last = ap (λ (n : ℕ). n + 1) (sym c.from-behind.ensures)
    ∙ (c.if-behind-row_end.true ∙ c.columns-row_end.ensures.value) in
    let more = carry_is d.layout.now d.column last in
    let many : length c.pack_carried-words.result ≡ 24 = search rules in
    omega (arith, c.write_words.ensures.next, more, many)

pub returns-else-behind-row_end-clause-next : goal.returns-else-behind-row_end-clause-next
returns-else-behind-row_end-clause-next c =
    let d = c.args.done.now in
    let none =
    no_carry d.layout.now d.column (λ e. c.if-behind-row_end.false (ap (λ (n : ℕ). n + 1) c.from-behind.ensures
    ∙ (e ∙ sym c.columns-row_end.ensures.value))) in
    omega (arith, none)

pub returns-else-behind-row_end-clause-written : goal.returns-else-behind-row_end-clause-written
returns-else-behind-row_end-clause-written c =
    nothing_more c.args.board.now c.args.at.now c.args.pass.now c.args.first c.requires.writing
