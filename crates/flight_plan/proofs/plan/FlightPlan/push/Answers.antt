use Rattle.std.proofs.Common.{rules, ◌≡◌, ◌<◌, ◌≤◌, ◌++◌, ◌∷◌, ◌*◌, ◌+◌, [], length, arith, subst, sym}
use Rattle.std.proofs.lemmas.List.{length-append}
use Rattle.flight_plan.specs.Flight.{FlightRows, IsFlight, IsInRange, PictureRows, ReadsEarlier, picture_units}
use Rattle.flight_plan.specs.Flight.{units_of}
use Rattle.flight_plan.proofs.Flights.{one_more, more_units}
use Rattle.flight_plan.proofs.plan.FlightPlan.push.Goals as goal

pub invariant_of-self-2 : goal.invariant_of-self-2
invariant_of-self-2 c =
    let ps = c.self.inside.pictures.items in
    let p : PictureRows = c.args.picture in
    let items : c.push.new.self.items ≡ ps ++ p ∷ [] = c.in_ok-push.ensures.items in
    let room : length ps < 65536 = search rules in
    let in_range : IsInRange p = c.units-units.ensures.in_range in
    let earlier : ReadsEarlier (length ps) p =
    subst (λ (f : FlightRows). ReadsEarlier (length f.pictures) p) (sym c.self.view_is) c.requires.earlier in
    let flight : IsFlight (record { pictures = ps ++ p ∷ []; bad = c.self.inside.bad.items }) =
    one_more ps c.self.inside.bad.items p c.self.invariant.0 room in_range earlier in
    let size : c.units-units.result ≡ picture_units p = search rules in
    let units : c.self.inside.units + c.units-units.result ≡ units_of (ps ++ p ∷ []) =
    omega (arith, size, more_units ps p, c.self.invariant.1) in
    let few : c.self.inside.units + c.units-units.result ≤ 263680 * length (ps ++ p ∷ []) =
    omega (arith, c.units-units.ensures.small, length-append ps (p ∷ []), c.self.invariant.2) in
    rw items (flight, units, few)
