use Rattle.std.proofs.Common.{◌≡◌, Some, ap, subst, ◌∙◌, rules}
use Rattle.std.specs.List.{All}
use Rattle.unit_build.specs.CtuBuild.{held}
use Rattle.unit_build.specs.CtuMotion.{held as motion_held}
use Rattle.picture_buffer.specs.Motion.{motions_of}
use Rattle.picture_buffer.specs.Planes.{samples_of}
use Rattle.unit_build.specs.PictureFilters.{data_of}
use Rattle.picture_trees.specs.Given.{tree_unit}
use Rattle.spec_motion.specs.Units.{IsPlacedItem}
use Rattle.picture_trees.specs.SpecPictureTrees.{TreeUnit}
use Rattle.picture_trees.specs.SpecPictureTrees.{picture_shape}
use Rattle.unit_build.specs.SpecPictureFilters.{added_in}
use Rattle.spec_picture_motion.specs.Derived.{unit_added as motion_added}
use Rattle.spec_picture_build.specs.Border.{Samples}
use Rattle.spec_picture_build.specs.Built.{BuiltPicture, unit_added}
use Rattle.spec_picture_build.specs.Format.{unit_format}
use Rattle.spec_picture_build.specs.References.{motions_of as motions_at}
use Rattle.spec_reconstruction.specs.declared.format.UnitFormat.{UnitFormat}
use Rattle.spec_reconstruction.specs.Sound.{AreSound}
use Rattle.spec_transforms.specs.Scaling.{IsDepth}
use Rattle.picture_build.specs.Building.{Building, behind_by, built_by}
use Rattle.picture_build.specs.Pictures.{buffer_of}
use Rattle.picture_build.proofs.Added.{moved, unit_is}
use Rattle.picture_build.proofs.Behind.{behind_unit}
use Rattle.picture_build.proofs.Referring.{depths_of}
use Rattle.picture_build.proofs.builder.PictureBuilder.build.Goals as goal

pub returns-clause-value : goal.returns-clause-value
returns-clause-value g c = λ number.
    let old : Building = record {
      plan = c.self.inside.plan.now;
      planes = c.self.inside.planes.planes;
      motion = c.self.inside.field;
      filters = c.self.inside.filters;
    } in
    let unit : TreeUnit = tree_unit number c.args.address c.args.records.now in
    let bases : c.self.inside.bases.now ≡ g.B.Buffer.pictures = search rules in
    let layout : c.self.inside.layout ≡ picture_shape c.self.inside.plan.now.sps c.self.inside.plan.now.pps =
    search rules in
    let format : c.set_slice.new.format
    ≡ unit_format c.self.inside.plan.now.sps c.self.inside.plan.now.pps c.args.segment.now.header.slice =
    search rules in
    let moves : All IsPlacedItem c.args.records.now.items → motions_of c.lay_unit-2.new.field
    ≡ motion_added (motions_at (buffer_of c.self.inside.bases.now)) c.self.inside.plan.now c.args.segment.now unit
    (motions_of c.self.inside.field) =
    moved c.self.inside.bases.now c.self.inside.plan.now c.args.segment.now unit c.self.inside.layout
    c.build_beside.new.work.slice (motion_held c.build_beside.new.work.motion) (motions_of c.self.inside.field)
    (motions_of c.lay_unit-2.new.field) layout c.build_beside.ensures.slice (c.build_beside.ensures.motion number)
    c.lay_unit-2.ensures.value in
    let Q : Building → Type 0 =
    λ b. AreSound (unit_format b.plan.sps b.plan.pps c.args.segment.now.header.slice) c.args.records.now.items
    → record { samples = samples_of c.lay_unit.new.self.planes; motions = motions_of c.lay_unit-2.new.field }
    ≡ unit_added (buffer_of g.B.Buffer.pictures) b.plan c.args.segment.now unit (built_by b) in
    let reached : BuiltPicture =
    record { samples = samples_of c.reach.new.self.planes; motions = motions_of c.self.inside.field } in
    subst Q c.self.view_is (λ sound.
    unit_is c.self.inside.bases.now g.B.Buffer.pictures c.self.inside.plan.now c.args.segment.now unit
    c.self.inside.layout c.slice_address.result c.set_slice.new.format (held c.build_beside.new.work.samples)
    reached (samples_of c.lay_unit.new.self.planes) (motions_of c.lay_unit-2.new.field)
    bases layout c.slice_address.ensures format c.lay_unit.ensures.shape sound moves
    (c.build_beside.ensures.samples number) c.lay_unit.ensures.value
    ∙ ap (λ (f : Samples). unit_added (buffer_of g.B.Buffer.pictures) c.self.inside.plan.now c.args.segment.now unit
    (record { samples = f; motions = motions_of c.self.inside.field }))
    c.reach.ensures.samples)

pub returns-clause-behind : goal.returns-clause-behind
returns-clause-behind g c = λ number.
    let old : Building = record {
      plan = c.self.inside.plan.now;
      planes = c.self.inside.planes.planes;
      motion = c.self.inside.field;
      filters = c.self.inside.filters;
    } in
    let unit : TreeUnit = tree_unit number c.args.address c.args.records.now in
    let layout : c.self.inside.layout ≡ picture_shape c.self.inside.plan.now.sps c.self.inside.plan.now.pps =
    search rules in
    let format : UnitFormat =
    unit_format c.self.inside.plan.now.sps c.self.inside.plan.now.pps c.args.segment.now.header.slice in
    let depth : IsDepth format.luma_depth =
    subst (λ (f : UnitFormat). IsDepth f.luma_depth) (c.self.invariant.5 c.args.segment.now.header.slice)
    c.self.invariant.4.luma in
    let moves : All IsPlacedItem c.args.records.now.items → motions_of c.lay_unit-2.new.field
    ≡ motion_added (motions_at (buffer_of c.self.inside.bases.now)) c.self.inside.plan.now c.args.segment.now unit
    (motions_of c.self.inside.field) =
    moved c.self.inside.bases.now c.self.inside.plan.now c.args.segment.now unit c.self.inside.layout
    c.build_beside.new.work.slice (motion_held c.build_beside.new.work.motion) (motions_of c.self.inside.field)
    (motions_of c.lay_unit-2.new.field) layout c.build_beside.ensures.slice (c.build_beside.ensures.motion number)
    c.lay_unit-2.ensures.value in
    let Q : Building → Type 0 =
    λ b. AreSound (unit_format b.plan.sps b.plan.pps c.args.segment.now.header.slice) c.args.records.now.items
    → record { motions = motions_of c.lay_unit-2.new.field; gathered = data_of c.lay.new.self }
    ≡ added_in (motions_at (buffer_of g.B.Buffer.pictures)) b.plan (Some c.args.segment.now) unit (behind_by b) in
    subst Q c.self.view_is (λ sound.
    behind_unit c.self.inside.bases.now g.B.Buffer.pictures c.self.inside.plan.now c.self.inside.filters.plan
    c.args.segment.now unit format (behind_by old) (motions_of c.lay_unit-2.new.field) (data_of c.lay.new.self)
    c.build_beside.new.work.filters c.self.invariant.8 c.self.invariant.7 depth sound moves
    (c.build_beside.ensures.filters number) c.lay.ensures.value)

pub build_beside-requires-clause-depths : goal.build_beside-requires-clause-depths
build_beside-requires-clause-depths g c =
    let format : c.set_slice.new.format
    ≡ unit_format c.self.inside.plan.now.sps c.self.inside.plan.now.pps c.args.segment.now.header.slice =
    search rules in
    depths_of _ _ c.args.segment.now.header.slice _ format
