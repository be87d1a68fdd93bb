use Rattle.std.proofs.Common.{◌≡◌, ◌+◌, ◌-◌, ◌/◌, ◌^◌, Some, ap, arith, ◌∙◌}
use Rattle.cabac_contexts.proofs.Prefixed.{spelled_less, took_prefixed}
use Rattle.cabac_contexts.proofs.bin_reader.BinReader.take_prefixed.Goals as goal

pub take_bins-requires-clause-spelled : goal.take_bins-requires-clause-spelled
take_bins-requires-clause-spelled c =
    let place : 16 - (c.args.prefix + 1 + c.args.size) ≡ 15 - c.args.prefix - c.args.size = omega arith in
    spelled_less 16 (c.args.prefix + 1 + c.args.size) c.args.bins c.args.self.now.interval (omega arith)
    c.requires.ahead.is
    ∙ ap (λ k. Some (c.args.bins / 2 ^ k)) place

pub returns-clause-value : goal.returns-clause-value
returns-clause-value c = λ too_great f is.
    took_prefixed c.args.bins c.args.prefix c.args.size c.low_digits.result too_great f c.args.self.now.contexts
    c.args.self.now.interval c.take_bins.new.self c.requires.ahead c.requires.few is c.take_bins.ensures.value
    c.low_digits.ensures
