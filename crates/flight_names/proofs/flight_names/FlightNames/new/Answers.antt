use Rattle.std.proofs.Common.{◌∙◌}
use Rattle.flight_names.proofs.Named.{first_names, names_more, next_names}
use Rattle.flight_names.proofs.flight_names.FlightNames.new.Goals as goal

pub loop-place-init : goal.loop-place-init
loop-place-init c =
    (c.new-names.ensures.items, c.in_ok-buffer.ensures ∙ first_names c.args.pictures.now c.args.bases)

pub loop-place-preserved : goal.loop-place-preserved
loop-place-preserved c =
    let k = c.loop-place.place in
    let pictures = c.args.pictures.now in
    let bases = c.args.bases in (
      names_more pictures bases k c.loop-place.names.items c.push.new.self.items c.loop-place.buffer
          c.loop-place.invariant.0 c.loop-place.invariant.1 c.in_ok-push.ensures.items,
      next_names pictures bases k c.index-pictures-place.result c.loop-place.buffer c.in_ok-next.next
          c.loop-place-test.true c.index-pictures-place.is c.loop-place.invariant.1 c.in_ok-next.ensures,
    )
