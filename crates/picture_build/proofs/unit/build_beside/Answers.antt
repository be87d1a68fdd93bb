use Rattle.std.proofs.Common.{◌≡◌, rules}
use Rattle.plan_types.specs.declared.picture_plan.PicturePlan.{PicturePlan}
use Rattle.plan_types.specs.declared.segment_plan.SegmentPlan.{SegmentPlan}
use Rattle.spec_picture_motion.specs.Slices.{collocated_entry}
use Rattle.picture_trees.specs.SpecPictureTrees.{slice_start}
use Rattle.picture_build.proofs.Deriving.{all_placed}
use Rattle.picture_build.proofs.Work.{given_joins, motion_joins, samples_join}
use Rattle.picture_build.proofs.unit.build_beside.Goals as goal

pub returns-clause-motion : goal.returns-clause-motion
returns-clause-motion c = λ number placed.
    let p : PicturePlan = c.args.source.now.plan.now in
    let s : SegmentPlan = c.args.source.now.segment.now in
    let entry : c.collocated_entry.result ≡ collocated_entry s.header.slice (slice_start p s).lists = search rules in
    motion_joins c.new-beside.result _ p s number c.args.records.now c.build_unit.new.built.motion
    c.new-beside.ensures entry (c.build_unit.ensures.motion placed)

pub returns-clause-filters : goal.returns-clause-filters
returns-clause-filters c = λ number placed few.
    let p : PicturePlan = c.args.source.now.plan.now in
    let s : SegmentPlan = c.args.source.now.segment.now in
    let entry : c.collocated_entry.result ≡ collocated_entry s.header.slice (slice_start p s).lists = search rules in
    given_joins c.new-beside.result _ p s number c.args.records.now c.build_unit.new.built.filters
    c.new-beside.ensures entry (c.build_unit.ensures.filters placed few)

pub returns-clause-samples : goal.returns-clause-samples
returns-clause-samples c = λ number there sound.
    let p : PicturePlan = c.args.source.now.plan.now in
    let s : SegmentPlan = c.args.source.now.segment.now in
    let entry : c.collocated_entry.result ≡ collocated_entry s.header.slice (slice_start p s).lists = search rules in
    samples_join c.new-beside.result _ p s number c.args.records.now c.build_unit.new.built.motion
    c.args.source.now.format.now c.build_unit.new.built.slice c.new-references.result.sps.now
    c.new-references.result.bases.now _
    c.new-beside.ensures c.requires.unit (search rules) c.new-references.ensures.value (search rules)
    (motion_joins c.new-beside.result _ p s number c.args.records.now c.build_unit.new.built.motion
    c.new-beside.ensures entry
    (c.build_unit.ensures.motion (all_placed c.args.source.now.format.now c.args.records.now.items sound)))
    (λ within. c.build_unit.ensures.samples within sound) there
