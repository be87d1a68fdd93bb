use Rattle.std.proofs.Common.{arith}
use Rattle.hv_bits.proofs.Writing.{shifted_below, joined_is, bits-joined}
use Rattle.hv_bits.proofs.bit_writer.joined.Goals as goal

pub overflow_add-number : goal.overflow_add-number
overflow_add-number c =
    let below = shifted_below c.args.used c.args.n c.args.v c.requires.used c.requires.few c.requires.small in
    let is =
    joined_is c.args.begun c.args.used c.args.n c.args.v c.from.result c.from-2.result c.ranges.begun.fits
    c.requires.used c.requires.few c.requires.small c.from.ensures c.from-2.ensures in
    omega arith

pub returns : goal.returns
returns c = λ bs count is.
    let sum =
    joined_is c.args.begun c.args.used c.args.n c.args.v c.from.result c.from-2.result c.ranges.begun.fits
    c.requires.used c.requires.few c.requires.small c.from.ensures c.from-2.ensures in
    bits-joined c.args.begun c.args.used c.args.n c.args.v _ bs _ c.ranges.begun.fits c.requires.used c.requires.few
    c.requires.small sum c.to_be_bytes.ensures count is
