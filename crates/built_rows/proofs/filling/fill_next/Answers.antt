use Rattle.std.proofs.Common.{◌≡◌, sym, subst, refl}
use Rattle.ctu_records.specs.Tree.{Ctu}
use Rattle.plan_types.specs.declared.segment_plan.SegmentPlan.{SegmentPlan}
use Rattle.border_words.specs.PictureFilters.{IsUnit}
use Rattle.progress_words.specs.Passes.{view}
use Rattle.spec_picture_build.specs.Format.{unit_format}
use Rattle.spec_picture_build.specs.References.{motions_of}
use Rattle.spec_picture_motion.specs.Derived.{collocated_motions}
use Rattle.spec_picture_motion.specs.Slices.{collocated_entry}
use Rattle.spec_picture_trees.specs.Shapes.{slice_start}
use Rattle.spec_reconstruction.specs.Sound.{AreSound}
use Rattle.spec_decoded_pictures.specs.Decoded.{unit_decoded}
use Rattle.spec_flights.specs.Pictures.{pictures_before}
use Rattle.border_words.specs.RowBorders.{HoldsUnit, IsBeneath, IsDerived, tree_unit}
use Rattle.border_words.specs.FlightFacts.{flight_in}
use Rattle.row_waits.specs.FlightWindows.{seen_pictures}
use Rattle.built_rows.specs.Stages.{units_in}
use Rattle.built_rows.proofs.Built.{has_built, number_there, segment_there}
use Rattle.built_rows.proofs.filling.fill_next.Goals as goal

pub segment_at-segment-requires : goal.segment_at-segment-requires
segment_at-segment-requires g c =
    number_there c.args.board.now.flight c.args.picture.now c.requires.picture c.args.at.now c.requires.working.unit
    c.unit-column.ensures.unit (view c.args.pass) c.args.builder.now c.requires.read c.requires.derived
    c.segment_number.result c.segment_number.ensures

pub fill_over-requires-clause-seen : goal.fill_over-requires-clause-seen
fill_over-requires-clause-seen g c = c.requires.working.rows.counted

pub fill_over-requires-clause-unit : goal.fill_over-requires-clause-unit
fill_over-requires-clause-unit g c =
    let b = c.args.builder.now in
    subst (λ (s : SegmentPlan). IsUnit c.args.picture.now.plan.now s b.border.unit)
    (sym (segment_there c.args.board.now.flight c.args.picture.now c.requires.picture c.args.at.now
    c.requires.working.unit c.unit-column.ensures.unit (view c.args.pass) b c.requires.read c.requires.derived
    c.segment_number.result c.segment_number.ensures c.segment_at-segment.result.now c.segment_at-segment.ensures))
    c.requires.derived.unit

pub fill_over-requires-clause-depths : goal.fill_over-requires-clause-depths
fill_over-requires-clause-depths g c = c.requires.working.depths

pub fill_over-requires-clause-format : goal.fill_over-requires-clause-format
fill_over-requires-clause-format g c =
    let b = c.args.builder.now in
    let p = c.args.picture.now.plan.now in
    subst (λ (s : SegmentPlan). b.format ≡ unit_format p.sps p.pps s.header.slice)
    (sym (segment_there c.args.board.now.flight c.args.picture.now c.requires.picture c.args.at.now
    c.requires.working.unit c.unit-column.ensures.unit (view c.args.pass) b c.requires.read c.requires.derived
    c.segment_number.result c.segment_number.ensures c.segment_at-segment.result.now c.segment_at-segment.ensures))
    c.requires.derived.format

pub fill_over-requires-clause-derived : goal.fill_over-requires-clause-derived
fill_over-requires-clause-derived g c =
    let b = c.args.builder.now in
    let p = c.args.picture.now.plan.now in
    subst (λ (ctu : Ctu). IsDerived p c.segment_at-segment.result.now b.border ctu b.built) (sym c.records.ensures)
    (subst (λ (s : SegmentPlan). IsDerived p s b.border b.reader.records b.built)
    (sym (segment_there c.args.board.now.flight c.args.picture.now c.requires.picture c.args.at.now
    c.requires.working.unit c.unit-column.ensures.unit (view c.args.pass) b c.requires.read c.requires.derived
    c.segment_number.result c.segment_number.ensures c.segment_at-segment.result.now c.segment_at-segment.ensures))
    c.requires.derived.derived)

pub returns-clause-built : goal.returns-clause-built
returns-clause-built g c =
    let facts = c.args.board.now.flight in
    let picture = c.args.picture.now in
    let b = c.args.builder.now in
    let p = picture.plan.now in
    let pictures = seen_pictures (flight_in facts) picture.place b.seen in
    let units = units_in facts picture in
    let derived = c.requires.derived in
    let built = c.fill_over.new.built in
    let same : c.segment_at-segment.result.now ≡ derived.segment =
    segment_there facts picture c.requires.picture c.args.at.now c.requires.working.unit c.unit-column.ensures.unit
    (view c.args.pass) b c.requires.read derived c.segment_number.result c.segment_number.ensures
    c.segment_at-segment.result.now c.segment_at-segment.ensures in
    has_built facts picture c.requires.picture c.args.at.now c.requires.working.unit c.unit-column.ensures.unit
    (view c.args.pass) b derived c.requires.reached built
    (λ sound beside beneath.
    subst
    (λ (ctu : Ctu). HoldsUnit p b.border.unit.address built
    (unit_decoded pictures p derived.segment (tree_unit derived.known.segment b.border.unit.address ctu) units))
    c.records.ensures
    (subst
    (λ (s : SegmentPlan). HoldsUnit p b.border.unit.address built
    (unit_decoded pictures p s (tree_unit derived.known.segment b.border.unit.address c.records.result.now) units))
    same
    (c.fill_over.ensures.value derived.known.segment units
    (subst (λ (ctu : Ctu). AreSound b.format ctu.items) (sym c.records.ensures) sound) beside
    (subst
    (λ (s : SegmentPlan). IsBeneath b.border
    (collocated_motions (motions_of (pictures_before (flight_in facts) picture.place))
    (collocated_entry s.header.slice (slice_start p s).lists)))
    (sym same) beneath))))

pub returns-clause-same : goal.returns-clause-same
returns-clause-same g c = refl

pub returns-clause-pass : goal.returns-clause-pass
returns-clause-pass g c = c.fill_over.ensures.known
