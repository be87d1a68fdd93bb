use Rattle.std.proofs.Common.{◌≡◌, ◌<◌, ◌+ℤ◌, pos, ap, min, rules, arith}
use Rattle.std.proofs.lemmas.Int.{to_z-of_z}
use mir.Val.{SFits}
use mir.Syntax.{w32}
use Rattle.inter_pred.specs.Passes.{at}
use Rattle.picture_buffer.specs.Planes.{PictureSamples, plane_height, plane_width, samples_of}
use Rattle.spec_inter_prediction.specs.Taps.{clamped}
use Rattle.spec_picture_build.specs.References.{greatest_sample}
use Rattle.picture_build.proofs.Referring.{sample_held, sample_none}
use Rattle.picture_build.proofs.references.picture_row.Goals as goal

pub returns-then-has_samples : goal.returns-then-has_samples
returns-then-has_samples c = λ k lt.
    let fx : SFits w32 c.args.x = search rules in
    let fy : SFits w32 c.args.y = search rules in
    let three : c.args.c < 3 = search rules in
    let read = c.clamped_row.ensures k lt in
    let told : at c.clamped_row.new.out k
    ≡ min (samples_of c.planes-planes.result.now c.args.c
    (clamped (c.args.x +ℤ pos k) (plane_width c.planes-planes.result.now c.args.c))
    (clamped c.args.y (plane_height c.planes-planes.result.now c.args.c)))
    (greatest_sample c.args.sps.now.format c.args.c) =
    grind (arith, to_z-of_z, read, c.greatest_sample-greatest.ensures) in
    sample_held c.args.sps.now.format c.args.picture.now c.args.c (c.args.x +ℤ pos k) c.args.y _ _ three
    c.planes-planes.ensures.sides
    (ap (λ (q : PictureSamples). samples_of q c.args.c (clamped (c.args.x +ℤ pos k) (plane_width q c.args.c))
    (clamped c.args.y (plane_height q c.args.c)))
    c.planes-planes.ensures.value)
    told

pub returns-else-has_samples : goal.returns-else-has_samples
returns-else-has_samples c = λ k lt.
    sample_none c.args.sps.now.format c.args.picture.now c.args.c (c.args.x +ℤ pos k) c.args.y _ (search rules)
    (c.clear.ensures k lt)
