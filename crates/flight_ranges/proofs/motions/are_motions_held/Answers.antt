use Rattle.flight_ranges.proofs.HeldMotions.{for_flight, of_flight}
use Rattle.flight_ranges.proofs.motions.are_motions_held.Goals as goal

pub returns : goal.returns
returns c =
    let field = c.args.field.now in (
      λ e. for_flight field (c.are_motions_held.ensures.0 e),
      λ held. c.are_motions_held.ensures.1 (of_flight field held),
    )
