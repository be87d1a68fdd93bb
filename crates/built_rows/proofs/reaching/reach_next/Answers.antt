use Rattle.progress_words.specs.Passes.{view}
use Rattle.built_rows.proofs.Looking.{derived_looking, goes_looking, may_wait, read_looking, works_looking}
use Rattle.built_rows.proofs.Reach.{has_motion}
use Rattle.built_rows.proofs.reaching.reach_next.Goals as goal

pub see_reached-requires-clause-may : goal.see_reached-requires-clause-may
see_reached-requires-clause-may g c =
    let r = c.requires in
    may_wait c.args.board.now c.args.picture.now c.args.at.now c.args.pass.now c.args.pass.now c.args.builder.now
    r.working r.own r.picture

pub see_reached-requires-clause-motion : goal.see_reached-requires-clause-motion
see_reached-requires-clause-motion g c =
    let r = c.requires in
    has_motion c.args.board.now.flight c.args.picture.now c.args.at.now (view c.args.pass.now) c.args.builder.now
    r.picture r.derived

pub returns-clause-working : goal.returns-clause-working
returns-clause-working g c ready =
    let e = c.see_reached.ensures in
    works_looking c.args.board.now c.args.picture.now c.args.at.now c.args.pass.now c.see_reached.new.pass
    c.args.builder.now c.requires.working c.see_reached.new.seen e.may e.looked

pub returns-clause-read : goal.returns-clause-read
returns-clause-read g c ready =
    let e = c.see_reached.ensures in
    read_looking c.args.board.now c.args.picture.now c.args.at.now c.args.pass.now c.see_reached.new.pass
    c.args.builder.now c.requires.working c.see_reached.new.seen e.may e.looked c.requires.read

pub returns-clause-derived : goal.returns-clause-derived
returns-clause-derived g c ready =
    let e = c.see_reached.ensures in
    derived_looking c.args.board.now c.args.picture.now c.args.at.now c.args.pass.now c.see_reached.new.pass
    c.args.builder.now c.requires.working c.see_reached.new.seen e.may e.looked c.requires.derived

pub returns-clause-reached : goal.returns-clause-reached
returns-clause-reached g c ready =
    let e = c.see_reached.ensures in
    let read =
    read_looking c.args.board.now c.args.picture.now c.args.at.now c.args.pass.now c.see_reached.new.pass
    c.args.builder.now c.requires.working c.see_reached.new.seen e.may e.looked c.requires.read in
    let derived =
    derived_looking c.args.board.now c.args.picture.now c.args.at.now c.args.pass.now c.see_reached.new.pass
    c.args.builder.now c.requires.working c.see_reached.new.seen e.may e.looked c.requires.derived in
    record { needs = e.needs ready read.needs derived.collocated; final = e.rows ready }

pub returns-clause-ended : goal.returns-clause-ended
returns-clause-ended g c stopped = c.see_reached.ensures.ended stopped c.requires.working.holds

pub returns-clause-kept : goal.returns-clause-kept
returns-clause-kept g c =
    let e = c.see_reached.ensures in
    goes_looking c.args.board.now c.args.picture.now c.args.at.now c.args.pass.now c.see_reached.new.pass
    c.args.builder.now c.requires.working c.see_reached.new.seen e.may e.looked
