use Rattle.std.proofs.Common.{◌≡◌, ◌<◌, ℕ, refl, ap, ◌∙◌, subst, length, arith}
use Rattle.sample_words.specs.Contents.{component_side, components_before}
use Rattle.flight_packing_laws.specs.UnitWords.{height, width}
use Rattle.done_units.proofs.Ends.{component_is, one_more, row_at, samples_end}
use Rattle.done_units.proofs.Passes.{goes_on, nothing_more}
use Rattle.done_units.proofs.Standing.{may_pack, samples_have}
use Rattle.done_units.proofs.samples.write_lines.Goals as goal

pub height-requires : goal.height-requires
height-requires c =
    (may_pack c.args.board.now.flight c.args.at.now c.args.done.now c.requires.flight c.requires.done).row

pub loop-line-init : goal.loop-line-init
loop-line-init c = record {
  count = refl;
  next = omega arith;
  written = nothing_more c.args.board.now c.args.at.now c.args.pass.now c.args.first c.requires.writing;
}

pub pack_samples-requires-clause-unit : goal.pack_samples-requires-clause-unit
pack_samples-requires-clause-unit c =
    may_pack c.args.board.now.flight c.args.at.now c.args.done.now c.requires.flight c.requires.done

pub pack_samples-requires-clause-line : goal.pack_samples-requires-clause-line
pack_samples-requires-clause-line c =
    subst (λ (n : ℕ). c.loop-line.line < n)
    (c.component_side-lines.ensures.value ∙ ap (component_side c.args.c) c.height.ensures.value)
    c.loop-line-test.true

pub write_words-next-requires-clause-writing : goal.write_words-next-requires-clause-writing
write_words-next-requires-clause-writing c = c.loop-line.invariant.written.writing

pub write_words-next-requires-clause-inside : goal.write_words-next-requires-clause-inside
write_words-next-requires-clause-inside c =
    let d = c.args.done.now in
    let count = c.pack_samples.ensures.count ∙ c.loop-line.invariant.count in
    samples_end d.layout.now (width d) (height d) d.column c.args.c c.loop-line.line (length c.pack_samples.new.words)
    c.loop-line.next c.requires.component
    (subst (λ (n : ℕ). c.loop-line.line < n)
    (c.component_side-lines.ensures.value ∙ ap (component_side c.args.c) c.height.ensures.value)
    c.loop-line-test.true)
    (count ∙ c.requires.words)
    (row_at (components_before d.layout.now (width d) (height d) c.args.c) c.args.first c.loop-line.next
    c.loop-line.line (length c.args.words.now) (length c.pack_samples.new.words) c.requires.first
    c.loop-line.invariant.next count)

pub write_words-next-requires-clause-value : goal.write_words-next-requires-clause-value
write_words-next-requires-clause-value c =
    let d = c.args.done.now in
    let count = c.pack_samples.ensures.count ∙ c.loop-line.invariant.count in
    samples_have d c.loop-line.next c.pack_samples.new.words c.args.c c.loop-line.line c.requires.component
    (subst (λ (n : ℕ). c.loop-line.line < n)
    (c.component_side-lines.ensures.value ∙ ap (component_side c.args.c) c.height.ensures.value)
    c.loop-line-test.true)
    (count ∙ c.requires.words)
    (row_at (components_before d.layout.now (width d) (height d) c.args.c) c.args.first c.loop-line.next
    c.loop-line.line (length c.args.words.now) (length c.pack_samples.new.words) c.requires.first
    c.loop-line.invariant.next count)
    (λ k inside. c.pack_samples.ensures.value k (subst (λ (n : ℕ). k < n) c.pack_samples.ensures.count inside))

pub loop-line-preserved : goal.loop-line-preserved
loop-line-preserved c =
    let count = c.pack_samples.ensures.count ∙ c.loop-line.invariant.count in
    record {
      count = count;
      next = one_more c.args.first c.loop-line.line (length c.args.words.now) (length c.pack_samples.new.words)
          c.loop-line.next c.write_words-next.result c.loop-line.invariant.next count c.write_words-next.ensures.next;
      written = goes_on c.args.board.now c.args.at.now c.args.pass.now c.loop-line.pass c.write_words-next.new.pass
          c.loop-line.next c.write_words-next.result c.loop-line.invariant.written
          c.write_words-next.ensures.written;
    }

pub returns-clause-next : goal.returns-clause-next
returns-clause-next c =
    let d = c.args.done.now in
    let all : c.loop-line.line ≡ c.component_side-lines.result =
    omega (arith, c.loop-line-test.false, c.loop-line.auto.line-end) in
    component_is d.layout.now (width d) (height d) d.column c.args.c c.args.first c.loop-line.line
    (length c.args.words.now) c.loop-line.next
    (all ∙ c.component_side-lines.ensures.value ∙ ap (component_side c.args.c) c.height.ensures.value)
    c.requires.words c.loop-line.invariant.next

pub returns-clause-written : goal.returns-clause-written
returns-clause-written c = c.loop-line.invariant.written
