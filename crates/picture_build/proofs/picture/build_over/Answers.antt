use Rattle.std.proofs.Common.{[], Ok, sym, ap, ◌∙◌}
use Rattle.picture_build.specs.Pictures.{buffer_of}
use Rattle.picture_build.proofs.Built.{built_all}
use Rattle.picture_build.proofs.Filtered.{built_in_range, decoded_all, decoding_fails}
use Rattle.picture_build.proofs.picture.build_over.Goals as goal

pub into_picture-picture-requires : goal.into_picture-picture-requires
into_picture-picture-requires g c =
    let told = c.in-Ok-read_picture.ensures.value [] c.in-Ok.ensures.built in
    built_in_range (buffer_of g.B.Buffer.pictures) c.args.plan.now c.read_picture.new.trees told.0
    (built_all (buffer_of g.B.Buffer.pictures) c.args.plan.now c.read_picture.new.trees told.0 told.1 c.new.ensures.sps
    c.units_that_are_read_are_sound.ensures.read told.2)
    c.built_samples_are_in_range.ensures.whole

pub returns-in-Ok-read_picture : goal.returns-in-Ok-read_picture
returns-in-Ok-read_picture g c =
    let told = c.in-Ok-read_picture.ensures.value [] c.in-Ok.ensures.built in
    decoded_all (buffer_of g.B.Buffer.pictures) c.args.plan.now c.read_picture.new.trees told.0
    (built_all (buffer_of g.B.Buffer.pictures) c.args.plan.now c.read_picture.new.trees told.0 told.1 c.new.ensures.sps
    c.units_that_are_read_are_sound.ensures.read told.2)
    ∙ ap (λ d. Ok d) (sym c.into_picture-picture.ensures)

pub returns-in-Err : goal.returns-in-Err
returns-in-Err g c =
    decoding_fails (buffer_of g.B.Buffer.pictures) c.args.plan.now c.in-Err.error _
    (c.in-Err.ensures.value [] c.in-Ok.ensures.built)
