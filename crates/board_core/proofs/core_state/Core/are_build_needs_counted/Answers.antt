use Rattle.std.proofs.Common.{◌≡◌, ◌∙◌, true, false, sym}
use Rattle.board_core.proofs.Counting.{build_above, build_all, build_reach, build_row}
use Rattle.board_core.proofs.core_state.Core.are_build_needs_counted.Goals as goal

pub returns-then-not-is_above_counted : goal.returns-then-not-is_above_counted
returns-then-not-is_above_counted c =
    let a = c.args in (
      λ t. let e : false ≡ true = t in cc,
      λ all. sym c.if-not-is_above_counted.true
          ∙ c.is_above_counted.ensures.1 (build_above a.self.now.plan a.self.now.state a.line a.x all),
    )

pub returns-then-not-is_collocated_counted : goal.returns-then-not-is_collocated_counted
returns-then-not-is_collocated_counted c =
    let a = c.args in (
      λ t. let e : false ≡ true = t in cc,
      λ all. sym c.if-not-is_collocated_counted.true
          ∙ c.is_collocated_counted.ensures.1 (build_row a.self.now.plan a.self.now.state a.line a.x all),
    )

pub returns : goal.returns
returns c =
    let a = c.args in
    let above = c.is_above_counted.ensures.0 c.if-not-is_above_counted.false in
    let row = c.is_collocated_counted.ensures.0 c.if-not-is_collocated_counted.false in (
      λ t. build_all a.self.now.plan a.self.now.state a.line a.x above row (c.is_reach_counted.ensures.0 t),
      λ all. c.is_reach_counted.ensures.1 (build_reach a.self.now.plan a.self.now.state a.line a.x all),
    )
