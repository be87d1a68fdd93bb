use Rattle.std.proofs.Common.{◌+◌, arith, ◌∙◌}
use Rattle.std.proofs.lemmas.List.{get_or-map}
use Rattle.std.proofs.lemmas.Simd.{get_or-chunk, length-chunk}
use Rattle.deblock.proofs.four.load.Goals as goal

pub returns : goal.returns
returns c = record {
  value = λ n lt.
      let long = length-chunk c.args.start 4 c.args.samples.now c.requires.room in
      let is = get_or-chunk c.args.start 4 c.args.samples.now n 0 lt in
      let fits = c.type_inv.samples (c.args.start + n) in
      let small = fits.fits in
      get_or-map _ _ n 0 0 (omega (arith, long, lt)) ∙ omega (arith, is, small);
}
