use Rattle.std.proofs.Common.{◌≡◌, ◌<◌, ℕ, ℤ, [], ◌∷◌, ap, ◌∙◌, arith}
use Rattle.spec_sample_adaptive_offset.specs.Offsets.{edge_idx, moved, offset_value}
use Rattle.sao_filter.specs.Row.{at}
use Rattle.sao_filter.specs.Units.{on_base}
use Rattle.sao_filter.proofs.Moved.{each_of_five, moved_is}
use Rattle.sao_filter.proofs.changes.edge_moves.Goals as goal

pub returns : goal.returns
returns c = λ offsets is s p small few.
    let depth = c.args.depth in
    let g = c.greatest_lane.result in
    let table = c.raised.result ∷ c.raised-2.result ∷ c.raised-3.result ∷ c.raised-4.result ∷ c.raised-5.result ∷ [] in
    let same = λ (k : ℕ) (lt : k < 5). ap (λ (v : ℤ). moved depth s v) (is k lt) in
    each_of_five
    (λ (k : ℕ). on_base s (at table k) g ≡ moved depth s (offset_value depth offsets (edge_idx k)))
    (moved_is depth s _ g _ c.raised.ensures small c.greatest_lane.ensures c.greatest_lane.type_inv
    ∙ same 0 (omega arith))
    (moved_is depth s _ g _ c.raised-2.ensures small c.greatest_lane.ensures c.greatest_lane.type_inv
    ∙ same 1 (omega arith))
    (moved_is depth s _ g _ c.raised-3.ensures small c.greatest_lane.ensures c.greatest_lane.type_inv
    ∙ same 2 (omega arith))
    (moved_is depth s _ g _ c.raised-4.ensures small c.greatest_lane.ensures c.greatest_lane.type_inv
    ∙ same 3 (omega arith))
    (moved_is depth s _ g _ c.raised-5.ensures small c.greatest_lane.ensures c.greatest_lane.type_inv
    ∙ same 4 (omega arith))
    p few
