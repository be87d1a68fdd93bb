use Rattle.std.proofs.Common.{◌≡◌, ℕ, ◌+◌, ◌*◌, ◌^◌, ◌∙◌, slice_index, pow_pos}
use Rattle.std.specs.List.{between}
use Rattle.std.specs.Option.{unwrap_or}
use Rattle.unit_build.specs.CtuBuild.{held}
use Rattle.sample_words.specs.Contents.{there}
use Rattle.sample_words.specs.Sizes.{samples_a_word}
use Rattle.sample_words.specs.Values.{sample_bits}
use Rattle.unit_words.specs.Units.{unit_sample}
use Rattle.unit_words.proofs.Parts.{part_is, same_lanes, there_below}
use Rattle.unit_words.proofs.unit_lines.pack_unit_line.Goals as goal

pub pack_line-requires : goal.pack_line-requires
pack_line-requires c = λ i.
    let width = c.args.width in
    let g : ℕ → ℕ = λ x. unit_sample c.args.samples.now c.args.c x c.args.line in
    let part : slice_index (between 1 (1 + width) c.line-cells.result.now) i ≡ there width g i =
    part_is c.line-cells.result.now width (λ j. unwrap_or (held c.args.samples.now c.args.c j (c.args.line + 1)) 0)
    c.line-cells.ensures.count c.requires.width c.line-cells.ensures.value i in
    rw part (there_below width (2 ^ sample_bits c.args.layout.now) g (pow_pos (sample_bits c.args.layout.now))
    c.requires.depth i)

pub returns-clause-value : goal.returns-clause-value
returns-clause-value c = λ k below.
    let width = c.args.width in
    let g : ℕ → ℕ = λ x. unit_sample c.args.samples.now c.args.c x c.args.line in
    let n = samples_a_word c.args.layout.now in
    c.pack_line.ensures.value k below
    ∙ same_lanes (sample_bits c.args.layout.now) n
    (λ j. slice_index (between 1 (1 + width) c.line-cells.result.now) (n * k + j)) (λ j. there width g (n * k + j))
    (λ j. part_is c.line-cells.result.now width
    (λ j. unwrap_or (held c.args.samples.now c.args.c j (c.args.line + 1)) 0)
    c.line-cells.ensures.count c.requires.width c.line-cells.ensures.value (n * k + j))
