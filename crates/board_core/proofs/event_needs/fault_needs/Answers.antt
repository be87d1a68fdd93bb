use Rattle.std.proofs.Common.{◌∙◌, refl}
use Rattle.board_core.proofs.Units.{needs_at_place, place_tree}
use Rattle.board_core.proofs.event_needs.fault_needs.Goals as goal

pub returns-in-Some : goal.returns-in-Some
returns-in-Some c =
    record {
      at_place = λ l x place tree. c.read_list.ensures
          ∙ needs_at_place c.args.plan.now c.args.unit l c.in-Some.line x c.in-Some.x place c.in-Some.ensures.found;
      none = λ none. absurd (none (place_tree c.args.plan.now c.args.unit c.in-Some.line c.in-Some.x
          c.in-Some.ensures.found c.in-Some.ensures.phase));
    }

pub returns-in-None : goal.returns-in-None
returns-in-None c =
    record {
      at_place = λ l x place tree. absurd (c.in-None.ensures.none refl
          (place_tree c.args.plan.now c.args.unit l x place tree));
      none = λ none. c.no_needs.ensures;
    }
