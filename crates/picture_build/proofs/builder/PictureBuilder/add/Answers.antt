use Rattle.std.proofs.Common.{◌≡◌, ◌<◌, ◌≤◌, length, get_or, refl, ◌∙◌, rules}
use Rattle.std.proofs.lemmas.Option.{slice_get_past, slice_get_read}
use Rattle.picture_trees.specs.Given.{tree_unit}
use Rattle.spec_picture_build.specs.References.{motions_of as motions_at}
use Rattle.picture_build.specs.Building.{behind_by, built_by}
use Rattle.picture_build.specs.Pictures.{buffer_of}
use Rattle.picture_build.proofs.Behind.{added_none, added_some}
use Rattle.picture_build.proofs.Built.{with_none, with_some}
use Rattle.picture_build.proofs.builder.PictureBuilder.add.Goals as goal

pub returns-then-number-segments-clause-value : goal.returns-then-number-segments-clause-value
returns-then-number-segments-clause-value g c = λ sound.
    let segment = c.index-segments-number.result in
    let lt : c.args.number < length c.args.self.now.plan.segments = search rules in
    let same : c.index-segments-number.result
    ≡ get_or c.args.self.now.plan.segments c.args.number c.index-segments-number.result = search rules in
    c.build.ensures.value c.args.number (sound segment)
    ∙ with_some (buffer_of g.B.Buffer.pictures) c.args.self.now.plan (built_by c.args.self.now)
    (tree_unit c.args.number c.args.address c.args.records.now) segment
    (slice_get_read c.args.self.now.plan.segments (length c.args.self.now.plan.segments) c.args.number
    segment refl lt same)

pub returns-else-number-segments-clause-value : goal.returns-else-number-segments-clause-value
returns-else-number-segments-clause-value g c = λ sound.
    let past : length c.args.self.now.plan.segments ≤ c.args.number = search rules in
    with_none (buffer_of g.B.Buffer.pictures) c.args.self.now.plan (built_by c.args.self.now)
    (tree_unit c.args.number c.args.address c.args.records.now)
    (slice_get_past c.args.self.now.plan.segments c.args.number past)

pub returns-then-number-segments-clause-behind : goal.returns-then-number-segments-clause-behind
returns-then-number-segments-clause-behind g c = λ sound.
    let segment = c.index-segments-number.result in
    let lt : c.args.number < length c.args.self.now.plan.segments = search rules in
    let same : c.index-segments-number.result
    ≡ get_or c.args.self.now.plan.segments c.args.number c.index-segments-number.result = search rules in
    c.build.ensures.behind c.args.number (sound segment)
    ∙ added_some (motions_at (buffer_of g.B.Buffer.pictures)) c.args.self.now.plan (behind_by c.args.self.now)
    (tree_unit c.args.number c.args.address c.args.records.now) segment
    (slice_get_read c.args.self.now.plan.segments (length c.args.self.now.plan.segments) c.args.number
    segment refl lt same)

pub returns-else-number-segments-clause-behind : goal.returns-else-number-segments-clause-behind
returns-else-number-segments-clause-behind g c = λ sound.
    let past : length c.args.self.now.plan.segments ≤ c.args.number = search rules in
    added_none (motions_at (buffer_of g.B.Buffer.pictures)) c.args.self.now.plan (behind_by c.args.self.now)
    (tree_unit c.args.number c.args.address c.args.records.now)
    (slice_get_past c.args.self.now.plan.segments c.args.number past)
