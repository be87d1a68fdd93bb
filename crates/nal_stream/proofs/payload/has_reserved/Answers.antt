use Rattle.std.proofs.Common.{◌≡◌, true, length, sym, arith}
use Rattle.std.proofs.lemmas.Bool.Decides.{Decides-ltb}
use Rattle.spec_nal_units.specs.Judged.{places, stands_at, has_reserved}
use Rattle.nal_stream.proofs.PlacesBelow.{some_place}
use Rattle.nal_stream.proofs.payload.has_reserved.Goals as goal

pub returns-then-stands_at : goal.returns-then-stands_at
unfolding has_reserved
returns-then-stands_at c =
    let unit = c.args.unit.now in
    let here : stands_at 2 unit c.loop-i.i ≡ true = cc in
    let d = Decides-ltb 0 (length (places (stands_at 2 unit) (length unit))) in
    sym (d.1 (some_place (stands_at 2 unit) (length unit) c.loop-i.i (omega arith) here))
