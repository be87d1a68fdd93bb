use Rattle.std.proofs.Common.{◌+◌, ◌∷◌, drop, ap, sym, ◌∙◌}
use Rattle.std.specs.Prelude.{◌-◌, ◌/◌, ◌%◌, slice_index}
use Rattle.spec_bits.specs.Bits.{bits}
use Rattle.spec_bits.proofs.Numbers.{shr_and_one-bit_of}
use Rattle.spec_bits.proofs.Places.{drop-bits_at}
use Rattle.cabac_engine.proofs.places.bit_at.Goals as goal

pub returns : goal.returns
returns c =
    let bit = shr_and_one-bit_of (slice_index c.args.bytes.now (c.args.at / 8)) (7 - c.args.at % 8) in
    record {
      value = bit;
      next =
          drop-bits_at c.args.bytes.now c.args.at c.requires.inside
          ∙ ap (λ b. b ∷ drop (c.args.at + 1) (bits c.args.bytes.now)) (sym bit);
    }
