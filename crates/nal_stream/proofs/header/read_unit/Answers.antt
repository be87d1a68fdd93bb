use Rattle.std.proofs.Common.{◌≡◌, ℕ, ◌+◌, ◌≤◌, List, length, ap, ◌∙◌, arith}
use Rattle.std.specs.Prelude.{slice_index, ◌&&◌, not, nat_le}
use Rattle.std.proofs.lemmas.List.{length-map}
use Rattle.spec_nal_units.specs.Judged.{places, stands_at, payload_of, removed_of}
use Rattle.nal_stream.proofs.PlacesBelow.{places-apart}
use Rattle.nal_stream.proofs.header.read_unit.Goals as goal

sized : (unit payload removed : List ℕ) → payload ≡ payload_of unit → removed ≡ removed_of unit
    → length payload + length removed ≤ length unit
unfolding payload_of removed_of
sized unit payload removed p r =
    let a =
    ap length p ∙ length-map (places (λ i. nat_le 2 i && not (stands_at 3 unit i)) (length unit)) (slice_index unit) in
    let b = ap length r in
    omega (arith, a, b, places-apart (stands_at 3 unit) (length unit))

pub invariant_of-result-clause-sized : goal.invariant_of-result-clause-sized
invariant_of-result-clause-sized c =
    let payload : c.new.result ≡ payload_of c.args.unit.now = c.new.ensures ∙ c.in_ok-payload.ensures in
    let both = sized c.args.unit.now c.new.result _ payload c.in_ok-removed.ensures in
    omega (arith, both, c.requires.size)
