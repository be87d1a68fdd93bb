use Rattle.std.proofs.Common.{ap, sym, subst, ◌∙◌}
use Rattle.header_types.specs.declared.sps.SpsFields.{SpsFields}
use Rattle.border_words.specs.PictureBuild.{HasDepths}
use Rattle.spec_picture_build.specs.Format.{unit_format}
use Rattle.spec_picture_build.specs.References.{pictures_of}
use Rattle.spec_picture_motion.specs.Derived.{collocated_motions}
use Rattle.spec_picture_motion.specs.Slices.{collocated_entry}
use Rattle.spec_picture_trees.specs.Shapes.{slice_start}
use Rattle.border_words.specs.RowBorders.{IsBeneath}
use Rattle.border_words.specs.FlightFacts.{flight_in}
use Rattle.row_waits.specs.FlightWindows.{seen_pictures}
use Rattle.row_waits.proofs.FlightWindowsLemmas.{same_motions}
use Rattle.built_rows.proofs.filling.fill_over.Goals as goal

pub new-windows-requires-clause-flight : goal.new-windows-requires-clause-flight
new-windows-requires-clause-flight g c = c.requires.picture.flight

pub fill_in_row-requires-clause-small : goal.fill_in_row-requires-clause-small
unfolding unit_format
fill_in_row-requires-clause-small g c =
    c.new-windows.ensures.small c.args.format.now
    (subst (λ (s : SpsFields). HasDepths s c.args.format.now) (sym c.deref.ensures)
    (ap (λ f. f.luma_depth) c.requires.format, ap (λ f. f.chroma_depth) c.requires.format))

pub returns-clause-value : goal.returns-clause-value
returns-clause-value g c = λ number units sound beside beneath.
    let f = flight_in c.args.board.now.flight in
    let k = c.args.picture.now.place in
    let s = c.args.segment.now in
    c.fill_in_row.ensures.value number (seen_pictures f k c.args.seen.now) units sound
    (c.new-windows.ensures.pictures k c.requires.picture.names
    ∙ ap (λ (q : SpsFields). pictures_of q.format (seen_pictures f k c.args.seen.now)) c.deref.ensures)
    beside
    (subst
    (λ m. IsBeneath c.args.border.now
    (collocated_motions m (collocated_entry s.header.slice (slice_start c.args.picture.now.plan.now s).lists)))
    (sym (same_motions f k c.args.seen.now)) beneath)
