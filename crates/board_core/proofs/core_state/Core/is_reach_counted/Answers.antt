use Rattle.std.proofs.Common.{◌≡◌, ◌∙◌, ◌+◌, ◌*◌, [], ap, subst, sym, slice_index_or}
use Rattle.std.specs.List.{flat_map}
use Rattle.flight_plan.specs.Flight.{FlightRows, picture_at}
use Rattle.board_core.specs.Places.{width_of}
use Rattle.board_core.specs.Needs.{range_needs, reach_needs}
use Rattle.board_core.specs.States.{AreCounted}
use Rattle.board_core.proofs.core_state.Core.is_reach_counted.Goals as goal

pub returns : goal.returns
returns c =
    let plan = c.args.self.now.plan in
    let s = c.args.self.now.state in
    let l = c.args.line in
    let e =
    c.reach_at.ensures
    ∙ ap (λ (p : FlightRows). slice_index_or (picture_at p l.picture).reach (l.row * width_of p l + c.args.x) [])
    c.plan.ensures in
    let needs : flat_map (range_needs plan) c.reach_at.result.now ≡ reach_needs plan l c.args.x =
    ap (flat_map (range_needs plan)) e in (
      λ t. subst (AreCounted plan s) needs (c.are_ranges_counted.ensures.0 t),
      λ all. c.are_ranges_counted.ensures.1 (subst (AreCounted plan s) (sym needs) all),
    )
