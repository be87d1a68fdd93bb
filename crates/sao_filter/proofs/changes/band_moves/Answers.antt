use Rattle.std.proofs.Common.{◌≡◌, ◌/◌, ◌^◌, ◌-◌, ◌+◌, ◌%◌, ℕ, [], ◌∷◌, ap, ◌∙◌, arith}
use Rattle.std.specs.Prelude.{min}
use Rattle.spec_sample_adaptive_offset.specs.Offsets.{moved, offset_value}
use Rattle.sao_filter.specs.Row.{at}
use Rattle.sao_filter.specs.Units.{on_base}
use Rattle.sao_filter.proofs.Moved.{each_of_five, moved_is, next, next_is}
use Rattle.sao_filter.proofs.changes.band_moves.Goals as goal

pub returns-clause-moves : goal.returns-clause-moves
returns-clause-moves c = λ s small.
    let depth = c.args.depth in
    let offsets = c.args.offsets.now in
    let g = c.greatest_lane.result in
    let table = c.raised_offset.result ∷ c.raised_offset-2.result ∷ c.raised_offset-3.result ∷ c.raised_offset-4.result
    ∷ c.raised_offset-5.result ∷ [] in
    let band = s / 2 ^ (depth - 5) in
    let place = min ((band + (32 - c.from.result % 32)) % 32) 4 in
    each_of_five (λ (k : ℕ). on_base s (at table k) g ≡ moved depth s (offset_value depth offsets (next k)))
    (moved_is depth s _ g _ c.raised_offset.ensures small c.greatest_lane.ensures c.greatest_lane.type_inv)
    (moved_is depth s _ g _ c.raised_offset-2.ensures small c.greatest_lane.ensures c.greatest_lane.type_inv)
    (moved_is depth s _ g _ c.raised_offset-3.ensures small c.greatest_lane.ensures c.greatest_lane.type_inv)
    (moved_is depth s _ g _ c.raised_offset-4.ensures small c.greatest_lane.ensures c.greatest_lane.type_inv)
    (moved_is depth s _ g _ c.raised_offset-5.ensures small c.greatest_lane.ensures c.greatest_lane.type_inv)
    place (omega arith)
    ∙ ap (λ (k : ℕ). moved depth s (offset_value depth offsets k))
    (next_is c.args.position c.from.result band c.from.ensures)
