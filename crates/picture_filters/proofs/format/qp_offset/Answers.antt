use Rattle.std.proofs.Common.{ap, ◌∙◌, of_z, to_z, w8, w32, arith}
use Rattle.std.proofs.lemmas.Int.{ints, to_z-of_z}
use mir.Val.{SFits}
use Rattle.picture_filters.proofs.format.qp_offset.Goals as goal

pub returns : goal.returns
returns c =
    let whole : SFits w32 c.args.offset = omega (arith, ints, c.requires.least, c.requires.greatest) in
    let fits : SFits w8 c.args.offset = omega (arith, ints, c.requires.least, c.requires.greatest) in
    ap (λ z. to_z w8 (of_z w8 z)) (to_z-of_z w32 _ whole) ∙ to_z-of_z w8 _ fits
