use Rattle.std.proofs.Common.{◌≡◌, ◌^◌, ◌<◌, ℕ, ◌∙◌, ap, sym, subst}
use Rattle.sample_words.specs.Contents.{component_side}
use Rattle.sample_words.specs.Values.{sample_bits}
use Rattle.unit_words.specs.Units.{unit_sample}
use Rattle.unit_words.specs.Work.{width}
use Rattle.unit_words.proofs.Held.{samples_held}
use Rattle.unit_words.proofs.done_unit.DoneUnit.pack_samples.Goals as goal

pub returns-clause-value : goal.returns-clause-value
returns-clause-value c = λ k below.
    samples_held c.args.self.now c.args.c c.from.result c.args.line k c.component_side-width.result _ c.from.ensures
    c.requires.component c.requires.line
    (c.component_side-width.ensures.value ∙ ap (component_side c.args.c) c.width.ensures.value)
    (c.pack_unit_line.ensures.value k below)

pub pack_unit_line-requires-clause-depth : goal.pack_unit_line-requires-clause-depth
pack_unit_line-requires-clause-depth c = λ x below.
    let d = c.args.self.now in
    let across : c.component_side-width.result ≡ component_side c.args.c (width d) =
    c.component_side-width.ensures.value ∙ ap (component_side c.args.c) c.width.ensures.value in
    subst (λ (n : ℕ). unit_sample d.built.now.samples n x c.args.line < 2 ^ sample_bits d.layout.now)
    (sym c.from.ensures)
    (c.requires.unit.samples c.args.c x c.args.line c.requires.component (subst (λ (n : ℕ). x < n) across below)
    c.requires.line)
