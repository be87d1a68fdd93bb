use Rattle.std.proofs.Common.{rules, ◌≡◌, ℕ, Some, None, sym, ap, ◌∙◌}
use Rattle.std.specs.Option.{option_map}
use Rattle.std.proofs.lemmas.Option.{none-some, same_Some}
use Rattle.hv_base.specs.Stops.{stopped_at}
use Rattle.spec_picture_trees.specs.Picture.{SegmentAt}
use Rattle.spec_known_units.specs.Known.{picture_segments, segment_having}
use Rattle.flight_results.proofs.Faults.{breach_found}
use Rattle.flight_results.proofs.fault.fault_in.Goals as goal

pub returns-in_err-breach : goal.returns-in_err-breach
returns-in_err-breach c = λ at breach having is.
    let e : c.breach_of.result ≡ None = search rules in
    absurd (none-some breach (sym e ∙ c.breach_of.ensures ∙ breach_found c.args.rule breach is))

pub returns : goal.returns
returns c = λ at breach having is.
    let nal_in : SegmentAt → ℕ = λ s. s.nal in
    let nal : Some c.in_ok-nal.nal
    ≡ option_map nal_in (segment_having (picture_segments c.args.plan.now) c.args.address) = search rules in
    let rule : Some c.in_ok-breach.breach ≡ c.breach_of.result = search rules in
    let nal_is : c.in_ok-nal.nal ≡ at.nal =
    same_Some c.in_ok-nal.nal at.nal (nal ∙ ap (option_map nal_in) having) in
    let breach_is : c.in_ok-breach.breach ≡ breach =
    same_Some c.in_ok-breach.breach breach (rule ∙ c.breach_of.ensures ∙ breach_found c.args.rule breach is) in
    ap (λ s. Some s) (c.at.ensures ∙ λ i. stopped_at (nal_is i) (Some c.args.address) (breach_is i))
