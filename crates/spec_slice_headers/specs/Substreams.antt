-- The substreams of slice segment data, which entry points cut in bytes of the unit as it stands in the stream, its
-- emulation prevention bytes among them (7.4.7.1).
use Rattle.std.specs.Prelude.{◌≡◌, ℕ, ◌+◌, ◌-◌, ◌≤◌, List, [], ◌∷◌, All, length, take, drop, map, min, fold, nat_lt}
use Rattle.std.specs.Prelude.{nat_le, if◌then◌else◌}
use Rattle.std.specs.List.{count_by}
use Rattle.slice_types.specs.declared.substream.Substream.{Substream}

-- how many bytes of the payload stand before a place of the unit, where emulation prevention bytes stood at these
-- places
abbrev pub payload_before : List ℕ → ℕ → ℕ
payload_before removed place = place - 2 - count_by (λ r. nat_lt r place) removed

-- where a byte stands once the byte that was removed at a place is put back: one further, unless it stands before that
abbrev pub put_back : ℕ → ℕ → ℕ
put_back place removed = if nat_le removed place then place + 1 else place

-- the place in the unit of a byte of the payload: behind the header's two bytes and the payload's bytes before it, once
-- each emulation prevention byte is put back, the first of them first
abbrev pub unit_place : List ℕ → ℕ → ℕ
unit_place removed i = fold put_back (i + 2) removed

-- how many bytes of the unit the data have that begin at a byte of the payload
unfoldable pub data_size : List ℕ → List ℕ → ℕ → ℕ
data_size payload removed first = 2 + length payload + length removed - unit_place removed first

-- the payload's bytes from one place of the unit to another
abbrev pub bytes_between : List ℕ → List ℕ → ℕ → ℕ → List ℕ
bytes_between payload removed from to =
    drop (payload_before removed from) (take (payload_before removed to) payload)

-- the substreams from a place of the unit on
unfoldable pub substreams_from : List ℕ → List ℕ → ℕ → List ℕ → List (List ℕ)
substreams_from payload removed place [] = drop (payload_before removed place) payload ∷ []
substreams_from payload removed place (offset ∷ offsets) =
    bytes_between payload removed place (place + offset) ∷ substreams_from payload removed (place + offset) offsets

-- the substreams of the data that begin at a byte of the payload
unfoldable pub substreams : List ℕ → List ℕ → ℕ → List ℕ → List (List ℕ)
substreams payload removed first offsets = substreams_from payload removed (unit_place removed first) offsets

-- the bytes of a range of the payload
abbrev pub bytes_of : List ℕ → Substream → List ℕ
bytes_of payload s = drop s.start (take s.end payload)

-- a range of the payload
pub record IsInside (payload : List ℕ) (s : Substream) : Type 0 where
  pub ordered : s.start ≤ s.end
  pub inside : s.end ≤ length payload

-- the range of the payload from one place of the unit to another, or to the payload's end where a place is behind it
abbrev pub range_between : List ℕ → List ℕ → ℕ → ℕ → Substream
range_between payload removed from to =
    let behind = min (payload_before removed to) (length payload) in
    record { start = min (payload_before removed from) behind; end = behind }

-- the range of the payload from a place of the unit on
abbrev pub range_from : List ℕ → List ℕ → ℕ → Substream
range_from payload removed from =
    record { start = min (payload_before removed from) (length payload); end = length payload }

-- the ranges of the substreams from a place of the unit on
unfoldable pub ranges_from : List ℕ → List ℕ → ℕ → List ℕ → List Substream
ranges_from payload removed place [] = range_from payload removed place ∷ []
ranges_from payload removed place (offset ∷ offsets) =
    range_between payload removed place (place + offset) ∷ ranges_from payload removed (place + offset) offsets

-- the ranges of the substreams of the data that begin at a byte of the payload
unfoldable pub substream_ranges : List ℕ → List ℕ → ℕ → List ℕ → List Substream
substream_ranges payload removed first offsets = ranges_from payload removed (unit_place removed first) offsets

-- the bytes of the ranges are the substreams
abbrev pub RangesHoldSubstreams : Type 0
RangesHoldSubstreams = (payload removed : List ℕ) (first : ℕ) (offsets : List ℕ)
    → map (bytes_of payload) (substream_ranges payload removed first offsets) ≡ substreams payload removed first offsets

-- each of them is a range of the payload
abbrev pub RangesAreInside : Type 0
RangesAreInside = (payload removed : List ℕ) (first : ℕ) (offsets : List ℕ)
    → All (IsInside payload) (substream_ranges payload removed first offsets)
