-- Slice segment data cut in the NAL unit itself, of which emulation prevention bytes are left out after the cut.
use Rattle.std.specs.Prelude.{◌≡◌, ℕ, ◌+◌, ◌-◌, ◌<◌, ◌≤◌, Bool, not, ◌&&◌, List, [], ◌∷◌, length, map, drop, min}
use Rattle.std.specs.Prelude.{nat_le, slice_index}
use Rattle.std.specs.List.{concat}
use Rattle.spec_nal_units.specs.Judged.{places, stands_at, removed_of, payload_of}
use Rattle.spec_slice_headers.specs.Substreams.{unit_place, data_size, substreams}

-- whether a byte of a unit stays in its payload: it isn't one of its header, nor an emulation prevention byte
abbrev pub stays : List ℕ → ℕ → Bool
stays unit place = nat_le 2 place && not (stands_at 3 unit place)

-- the bytes of a unit from one place to another, without its emulation prevention bytes
abbrev pub cut : List ℕ → ℕ → ℕ → List ℕ
cut unit from to = map (slice_index unit) (places (λ i. nat_le from i && stays unit i) (min to (length unit)))

-- the substreams from a place of a unit on, each cut in the unit
unfoldable pub cuts_from : List ℕ → ℕ → List ℕ → List (List ℕ)
cuts_from unit place [] = cut unit place (length unit) ∷ []
cuts_from unit place (offset ∷ offsets) = cut unit place (place + offset) ∷ cuts_from unit (place + offset) offsets

-- a byte of the payload stands in the unit at the place that is found
abbrev pub PlaceIsFound : Type 0
PlaceIsFound = (unit : List ℕ) (i : ℕ) → 2 ≤ length unit → i < length (payload_of unit)
    → unit_place (removed_of unit) i ≡ slice_index (places (stays unit) (length unit)) i

-- the data are as long as the unit's bytes from their first place on
abbrev pub DataReachTheEnd : Type 0
DataReachTheEnd = (unit : List ℕ) (i : ℕ) → 2 ≤ length unit → i ≤ length (payload_of unit)
    → data_size (payload_of unit) (removed_of unit) i ≡ length unit - unit_place (removed_of unit) i

-- the substreams of a payload are those that are cut in its unit
abbrev pub SubstreamsAreCuts : Type 0
SubstreamsAreCuts = (unit : List ℕ) (i : ℕ) (offsets : List ℕ) → 2 ≤ length unit → i ≤ length (payload_of unit)
    → substreams (payload_of unit) (removed_of unit) i offsets ≡ cuts_from unit (unit_place (removed_of unit) i) offsets

-- the substreams joined are the whole data
abbrev pub SubstreamsJoin : Type 0
SubstreamsJoin = (unit : List ℕ) (i : ℕ) (offsets : List ℕ) → 2 ≤ length unit → i ≤ length (payload_of unit)
    → concat (substreams (payload_of unit) (removed_of unit) i offsets) ≡ drop i (payload_of unit)
