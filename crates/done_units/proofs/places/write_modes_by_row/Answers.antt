use Rattle.std.proofs.Common.{◌≡◌, ◌+◌, ◌/◌, ◌<◌, ℕ, refl, ◌∙◌, subst, length, arith}
use Rattle.sample_words.specs.Sizes.{places, sample_words}
use Rattle.flight_packing_laws.specs.UnitWords.{height, width}
use Rattle.done_units.proofs.Ends.{one_more, places_are, row_at, modes_end}
use Rattle.done_units.proofs.Passes.{goes_on, nothing_more}
use Rattle.done_units.proofs.Standing.{may_pack, modes_have}
use Rattle.done_units.proofs.places.write_modes_by_row.Goals as goal

pub height-mode_rows-requires : goal.height-mode_rows-requires
height-mode_rows-requires c =
    (may_pack c.args.board.now.flight c.args.at.now c.args.done.now c.requires.flight c.requires.done).row

pub loop-y-init : goal.loop-y-init
loop-y-init c = record {
  count = refl;
  next = omega arith;
  written = nothing_more c.args.board.now c.args.at.now c.args.pass.now c.args.first c.requires.writing;
}

pub pack_modes-requires-clause-unit : goal.pack_modes-requires-clause-unit
pack_modes-requires-clause-unit c =
    may_pack c.args.board.now.flight c.args.at.now c.args.done.now c.requires.flight c.requires.done

pub pack_modes-requires-clause-row : goal.pack_modes-requires-clause-row
pack_modes-requires-clause-row c =
    let test = c.loop-y-test.true in
    let height = c.height-mode_rows.ensures.value in
    omega (arith, test, height)

pub pack_modes-requires-clause-few : goal.pack_modes-requires-clause-few
pack_modes-requires-clause-few c =
    let count = c.loop-y.invariant.count in
    let words = c.requires.words in
    omega (arith, count, words)

pub write_words-next-requires-clause-writing : goal.write_words-next-requires-clause-writing
write_words-next-requires-clause-writing c = c.loop-y.invariant.written.writing

pub write_words-next-requires-clause-inside : goal.write_words-next-requires-clause-inside
write_words-next-requires-clause-inside c =
    let d = c.args.done.now in
    let count = c.pack_modes.ensures.count ∙ c.loop-y.invariant.count in
    let test = c.loop-y-test.true in
    let height_is = c.height-mode_rows.ensures.value in
    modes_end d.layout.now (width d) (height d) d.column c.loop-y.y (length c.pack_modes.new.words) c.loop-y.next
    (omega (arith, test, height_is)) (count ∙ c.requires.words)
    (row_at (sample_words d.layout.now (width d) (height d) + places (width d) (height d)) c.args.first c.loop-y.next
    c.loop-y.y (length c.args.words.now) (length c.pack_modes.new.words) c.requires.first c.loop-y.invariant.next count)

pub write_words-next-requires-clause-value : goal.write_words-next-requires-clause-value
write_words-next-requires-clause-value c =
    let d = c.args.done.now in
    let count = c.pack_modes.ensures.count ∙ c.loop-y.invariant.count in
    let test = c.loop-y-test.true in
    let height_is = c.height-mode_rows.ensures.value in
    modes_have d c.loop-y.next c.pack_modes.new.words c.loop-y.y (omega (arith, test, height_is))
    (count ∙ c.requires.words)
    (row_at (sample_words d.layout.now (width d) (height d) + places (width d) (height d)) c.args.first c.loop-y.next
    c.loop-y.y (length c.args.words.now) (length c.pack_modes.new.words) c.requires.first c.loop-y.invariant.next count)
    (λ k inside. c.pack_modes.ensures.value k (subst (λ (n : ℕ). k < n) c.pack_modes.ensures.count inside))

pub loop-y-preserved : goal.loop-y-preserved
loop-y-preserved c =
    let count = c.pack_modes.ensures.count ∙ c.loop-y.invariant.count in
    record {
      count = count;
      next = one_more c.args.first c.loop-y.y (length c.args.words.now) (length c.pack_modes.new.words) c.loop-y.next
          c.write_words-next.result c.loop-y.invariant.next count c.write_words-next.ensures.next;
      written = goes_on c.args.board.now c.args.at.now c.args.pass.now c.loop-y.pass c.write_words-next.new.pass
          c.loop-y.next c.write_words-next.result c.loop-y.invariant.written c.write_words-next.ensures.written;
    }

pub returns-clause-next : goal.returns-clause-next
returns-clause-next c =
    let d = c.args.done.now in
    let height_is = c.height-mode_rows.ensures.value in
    let all : c.loop-y.y ≡ height d / 4 = omega (arith, c.loop-y-test.false, c.loop-y.auto.y-end, height_is) in
    places_are d.layout.now (width d) (height d) d.column c.args.first c.loop-y.y (length c.args.words.now)
    c.loop-y.next all c.requires.words c.loop-y.invariant.next

pub returns-clause-written : goal.returns-clause-written
returns-clause-written c = c.loop-y.invariant.written
