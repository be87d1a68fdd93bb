use Rattle.std.proofs.Common.{ap, refl, ◌∙◌}
use Rattle.ctu_records.specs.Tree.{Ctu}
use Rattle.progress_words.specs.Passes.{view}
use Rattle.built_rows.proofs.Reach.{all_final, all_met, all_placed, reaches_earlier, source_for}
use Rattle.built_rows.proofs.reaching.see_reached.Goals as goal

pub first_row-row-requires : goal.first_row-row-requires
first_row-row-requires g c = c.requires.may.unit

pub wait_for_reach-requires-clause-placed : goal.wait_for_reach-requires-clause-placed
wait_for_reach-requires-clause-placed g c =
    let m = c.requires.may in
    all_placed c.args.board.now.flight c.args.picture.now m.flight c.args.at.now m.unit c.first_row-row.ensures.there
    c.args.reader.now.records c.args.built.now c.requires.motion c.items-items.result.now
    (c.items-items.ensures ∙ ap (λ (t : Ctu). t.items) c.records.ensures)

pub wait_for_reach-requires-clause-earlier : goal.wait_for_reach-requires-clause-earlier
wait_for_reach-requires-clause-earlier g c =
    let m = c.requires.may in
    reaches_earlier c.args.board.now.flight c.args.picture.now m.flight c.args.at.now m.unit
    c.first_row-row.ensures.there c.args.reader.now.records c.args.built.now c.requires.motion c.items-items.result.now
    (c.items-items.ensures ∙ ap (λ (t : Ctu). t.items) c.records.ensures)
    (source_for c.args.picture.now c.luma_lines-lines.result c.first_row-row.result c.args.built.now) refl
    (c.luma_lines-lines.ensures.value c.args.board.now.flight m.flight)
    (c.first_row-row.ensures.value c.args.board.now.flight m.flight) refl refl

pub returns-clause-needs : goal.returns-clause-needs
returns-clause-needs g c ready =
    let m = c.requires.may in
    let e = c.wait_for_reach.ensures in
    all_met c.args.board.now.flight c.args.picture.now m.flight c.args.at.now m.unit
    c.first_row-row.ensures.there c.args.reader.now.records c.args.built.now c.requires.motion c.items-items.result.now
    (c.items-items.ensures ∙ ap (λ (t : Ctu). t.items) c.records.ensures)
    (source_for c.args.picture.now c.luma_lines-lines.result c.first_row-row.result c.args.built.now) refl
    (c.luma_lines-lines.ensures.value c.args.board.now.flight m.flight)
    (c.first_row-row.ensures.value c.args.board.now.flight m.flight) refl refl
    (view c.wait_for_reach.new.pass) c.wait_for_reach.new.seen e.may.sees (e.ready ready)

pub returns-clause-rows : goal.returns-clause-rows
returns-clause-rows g c ready =
    let m = c.requires.may in
    let e = c.wait_for_reach.ensures in
    all_final c.args.board.now.flight c.args.picture.now m.flight c.args.at.now m.unit
    c.first_row-row.ensures.there c.args.reader.now.records c.args.built.now c.requires.motion c.items-items.result.now
    (c.items-items.ensures ∙ ap (λ (t : Ctu). t.items) c.records.ensures)
    (source_for c.args.picture.now c.luma_lines-lines.result c.first_row-row.result c.args.built.now) refl
    (c.luma_lines-lines.ensures.value c.args.board.now.flight m.flight)
    (c.first_row-row.ensures.value c.args.board.now.flight m.flight) refl refl
    (view c.wait_for_reach.new.pass) c.wait_for_reach.new.seen e.may.sees (e.ready ready)
