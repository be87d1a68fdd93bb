use Rattle.std.proofs.Common.{◌-◌, arith, ◌∙◌}
use Rattle.std.proofs.lemmas.List.{get_or-map, length-map}
use Rattle.deblock.proofs.Beside.{in_lanes, laid, other_lanes}
use Rattle.deblock.proofs.four.store.Goals as goal

pub returns-clause-value : goal.returns-clause-value
returns-clause-value c q =
    let long = c.fits-lanes.0 in
    laid c.args.start c.args.out.now _ c.requires.room (length-map _ _ ∙ long) q
    ∙ other_lanes _ _ _ _ (λ t.
    let lt = in_lanes c.args.start q t in
    let few = c.requires.small (q - c.args.start) lt in
    get_or-map _ _ (q - c.args.start) 0 0 (omega (arith, long, lt)) ∙ omega (arith, few))
