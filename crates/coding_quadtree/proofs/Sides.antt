-- The places beside a unit, one after the other.
use Rattle.std.proofs.Common.{◌≡◌, ℕ, ◌<◌, List, length, get_or, if◌then◌else◌, nat_lt}
use Rattle.std.proofs.lemmas.List.FromFn.{fill_by_all}
use Rattle.ctu_records.specs.declared.side.Side.{Side}
use Rattle.ctu_records.specs.Tree.{no_side, side}

pub side_by_place : (places : List Side) (count : ℕ) (f : ℕ → Side) → length places ≡ 16
    → ((k : ℕ) → k < 16 → get_or places k no_side ≡ (if nat_lt k count then f k else no_side)) → places ≡ side count f
unfolding side
side_by_place places count f full each =
    fill_by_all (λ k. if nat_lt k count then f k else no_side) places 16 no_side full each
