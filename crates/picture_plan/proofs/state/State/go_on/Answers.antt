use Rattle.std.proofs.Common.{refl}
use Rattle.spec_nal_units.specs.Judged.{unit_of}
use Rattle.picture_plan.proofs.Closings.{goes-on, stops-there}
use Rattle.picture_plan.proofs.state.State.go_on.Goals as goal

pub returns-in_ok-add_segment-in-Ok-clause-value : goal.returns-in_ok-add_segment-in-Ok-clause-value
returns-in_ok-add_segment-in-Ok-clause-value c =
    let there = rw (← c.self.view_is) at c.requires.open in
    let read = rw (← c.self.view_is) at c.in-Ok.ensures in
    let e =
    goes-on c.self.inside.between (unit_of c.args.nal) c.in-Ok.segment c.add_segment.new.picture there read
    c.in_ok-add_segment-in-Ok.ensures.ok in
    rw (← c.self.view_is, c.only.ensures, ← e) refl

pub returns-in_ok-stop_at-in-Err-clause-value : goal.returns-in_ok-stop_at-in-Err-clause-value
returns-in_ok-stop_at-in-Err-clause-value c =
    let e =
    stops-there c.args.self.now.between (unit_of c.args.nal) c.in-Err.refusal c.in_ok-stop_at-in-Err.field-0
    c.requires.open c.in-Err.ensures c.in_ok-stop_at-in-Err.ensures in
    rw (c.only-in-Err.ensures, ← e) refl
