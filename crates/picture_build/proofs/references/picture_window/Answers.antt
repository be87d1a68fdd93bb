use Rattle.std.proofs.Common.{◌≡◌, ◌<◌, ◌+◌, ◌*◌, ◌+ℤ◌, pos, ap, sym, subst, rules, arith}
use Rattle.std.proofs.lemmas.Int.{to_z-of_z}
use mir.Val.{SFits}
use mir.Syntax.{w32}
use Rattle.inter_pred.specs.Passes.{at}
use Rattle.picture_build.specs.Referring.{held_sample}
use Rattle.picture_buffer.specs.Planes.{PictureSamples, plane_height, plane_width, samples_of}
use Rattle.spec_inter_prediction.specs.Taps.{clamped}
use Rattle.spec_picture_build.specs.References.{greatest_sample}
use Rattle.picture_build.proofs.Referring.{sample_held, sample_none}
use Rattle.picture_build.proofs.references.picture_window.Goals as goal

pub returns-then-has_samples-clause-value : goal.returns-then-has_samples-clause-value
returns-then-has_samples-clause-value c = λ i j li lj.
    let fx : SFits w32 c.args.from.x = search rules in
    let fy : SFits w32 c.args.from.y = search rules in
    let three : c.args.from.component < 3 = search rules in
    let x = c.args.from.x +ℤ pos i in
    let y = c.args.from.y +ℤ pos j in
    let read = c.component_window.ensures.value i j li lj in
    let told : at c.component_window.new.out (72 * j + i)
    ≡ held_sample c.planes-planes.result.now c.args.from.component
    (greatest_sample c.args.sps.now.format c.args.from.component) x y =
    grind (arith, to_z-of_z, read, c.greatest_sample-greatest.ensures) in
    sample_held c.args.sps.now.format c.args.picture.now c.args.from.component x y _ _ three
    c.planes-planes.ensures.sides
    (ap (λ (q : PictureSamples). samples_of q c.args.from.component
    (clamped x (plane_width q c.args.from.component)) (clamped y (plane_height q c.args.from.component)))
    c.planes-planes.ensures.value)
    told

pub returns-then-has_samples-clause-bytes : goal.returns-then-has_samples-clause-bytes
returns-then-has_samples-clause-bytes c small old =
    let three : c.args.from.component < 3 = search rules in
    c.component_window.ensures.bytes (λ x y.
    let told : held_sample c.planes-planes.result.now c.args.from.component c.greatest_sample-greatest.result x y
    ≡ held_sample c.planes-planes.result.now c.args.from.component
    (greatest_sample c.args.sps.now.format c.args.from.component) x y =
    grind (arith, c.greatest_sample-greatest.ensures) in
    let e = sample_held c.args.sps.now.format c.args.picture.now c.args.from.component x y _ _ three
    c.planes-planes.ensures.sides
    (ap (λ (q : PictureSamples). samples_of q c.args.from.component
    (clamped x (plane_width q c.args.from.component)) (clamped y (plane_height q c.args.from.component)))
    c.planes-planes.ensures.value)
    told in
    subst (λ n. n < 256) (sym e) (small x y)) old

pub returns-else-has_samples-clause-value : goal.returns-else-has_samples-clause-value
returns-else-has_samples-clause-value c = λ i j li lj.
    sample_none c.args.sps.now.format c.args.picture.now c.args.from.component (c.args.from.x +ℤ pos i)
    (c.args.from.y +ℤ pos j) _ (search rules)
    (c.clear_window.ensures.value (72 * j + i) (omega (arith, c.requires.size)))
