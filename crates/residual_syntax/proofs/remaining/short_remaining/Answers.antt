use Rattle.std.proofs.Common.{◌≡◌, Ok, sym, subst}
use Rattle.spec_cabac.specs.Bins.{read}
use Rattle.spec_residuals.specs.Levels.{suffix_size, too_great}
use Rattle.cabac_contexts.specs.declared.bin_reader.BinReader.{BinReader}
use Rattle.cabac_contexts.specs.Takes.{prefixed, state_of}
use Rattle.residual_syntax.proofs.ShortRemaining.{remaining_is}
use Rattle.residual_syntax.proofs.remaining.short_remaining.Goals as goal

pub returns-clause-value : goal.returns-clause-value
returns-clause-value c =
    let told =
    c.take_prefixed-suffix.ensures.value too_great (λ p. suffix_size p c.args.k)
    (sym c.suffix_size-size.ensures.value) in
    let from_start =
    subst (λ (r : BinReader). read (prefixed too_great (λ p. suffix_size p c.args.k)) (state_of r)
    ≡ Ok ((c.in_ok-bins.prefix, c.take_prefixed-suffix.result), state_of c.take_prefixed-suffix.new.self))
    c.ahead.ensures.same told in (
      rw (c.scaled.ensures.value, c.front.ensures.value, c.from.ensures)
          (remaining_is c.args.k c.in_ok-bins.prefix c.take_prefixed-suffix.result (state_of c.args.reader.now)
          (state_of c.take_prefixed-suffix.new.self) from_start),
      c.take_prefixed-suffix.ensures.live,
    )
