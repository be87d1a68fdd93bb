use Rattle.std.proofs.Common.{ℕ, ◌∙◌, ap, sym, subst}
use Rattle.header_types.specs.declared.sps.PictureFormat.{PictureFormat}
use Rattle.picture_buffer.specs.Planes.{plane_width, samples_of}
use Rattle.spec_decoder.specs.Hashes.{bit_depth, rows_samples}
use Rattle.plane_hasher.specs.Hashers.{HoldsSamples}
use Rattle.decoder.proofs.Hashing.{hashed, no-rows, row-told}
use Rattle.decoder.proofs.hashes.plane_digest.Goals as goal

pub loop-y-init : goal.loop-y-init
loop-y-init c =
    let width : ℕ = plane_width c.args.picture.now.planes c.args.c in
    subst (λ (depth : ℕ). HoldsSamples depth c.new-hasher.result
    (rows_samples (samples_of c.args.picture.now.planes) c.args.c width 0))
    (c.bit_depth.ensures ∙ ap (λ (f : PictureFormat). bit_depth f c.args.c) c.format.ensures.value)
    (subst (HoldsSamples c.bit_depth.result c.new-hasher.result)
    (sym (no-rows (samples_of c.args.picture.now.planes) c.args.c width)) c.new-hasher.ensures)

pub loop-y-preserved : goal.loop-y-preserved
loop-y-preserved c =
    let width : ℕ = plane_width c.args.picture.now.planes c.args.c in
    let depth : ℕ = bit_depth c.args.picture.now.format c.args.c in
    subst (HoldsSamples depth c.update.new.self)
    (row-told c.planes-planes.result.now c.args.picture.now.planes c.args.c c.loop-y.y c.row.result.now
    c.planes-planes.ensures.value c.row.ensures.count c.row.ensures.samples)
    (c.update.ensures depth (rows_samples (samples_of c.args.picture.now.planes) c.args.c width c.loop-y.y)
    c.loop-y.invariant)

pub returns : goal.returns
returns c =
    let width : ℕ = plane_width c.args.picture.now.planes c.args.c in
    let depth : ℕ = bit_depth c.args.picture.now.format c.args.c in
    hashed c.args.picture.now c.planes-planes.result.now c.args.c c.loop-y.y c.height-y-end.result c.finalize.result
    c.digest_of.result c.requires c.planes-planes.ensures.sides c.planes-planes.ensures.value c.height-y-end.ensures
    c.loop-y-test.false c.loop-y.auto.y-end c.digest_of.ensures
    (c.finalize.ensures depth (rows_samples (samples_of c.args.picture.now.planes) c.args.c width c.loop-y.y)
    c.loop-y.invariant)
