use Rattle.std.proofs.Common.{ℕ}
use Rattle.spec_sample_adaptive_offset.specs.declared.unit.OffsetUnit.{OffsetUnit}
use Rattle.spec_picture_filters.specs.Units.{unit_read}
use Rattle.filter_words.proofs.Laid.{three_laid}
use Rattle.filter_words.proofs.unit_offsets.lay_components.Goals as goal

pub returns : goal.returns
returns c =
    let known : ℕ → OffsetUnit = λ d. unit_read c.args.plan.now c.args.segment.now c.args.sao d in
    let slice = c.slice_address-slice.ensures in
    let across = c.is_across-across.ensures in
    three_laid c.args.column c.args.row c.args.around.now c.lay_unit.new.self c.lay_unit-2.new.self
    c.lay_unit-3.new.self known _ _ _
    (λ i. record { offset = c.args.sao.luma; slice = slice i; across = across i })
    (λ i. record { offset = c.args.sao.cb; slice = slice i; across = across i })
    (λ i. record { offset = c.args.sao.cr; slice = slice i; across = across i })
    (record {
      format = c.lay_unit.ensures.format;
      above = c.lay_unit.ensures.above;
      units = c.lay_unit.ensures.units;
      places = c.lay_unit.ensures.places;
    })
    (record {
      format = c.lay_unit-2.ensures.format;
      above = c.lay_unit-2.ensures.above;
      units = c.lay_unit-2.ensures.units;
      places = c.lay_unit-2.ensures.places;
    })
    (record {
      format = c.lay_unit-3.ensures.format;
      above = c.lay_unit-3.ensures.above;
      units = c.lay_unit-3.ensures.units;
      places = c.lay_unit-3.ensures.places;
    })
