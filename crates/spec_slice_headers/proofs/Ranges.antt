-- The ranges of the substreams.
use Rattle.std.proofs.Common.{◌≡◌, ℕ, ◌+◌, List, [], ◌∷◌, length, take, drop, map, ap, sym, ◌∙◌, arith}
use Rattle.std.specs.Prelude.{All, min}
use Rattle.std.proofs.Math.Nat.{min-le_right}
use Rattle.std.proofs.lemmas.List.{take_min, take_all, drop_min, length-take}
use Rattle.std.proofs.lemmas.List.Elements.{All-nil, All-cons}
use Rattle.spec_slice_headers.specs.Substreams.{IsInside, bytes_of, payload_before, bytes_between, range_between}
use Rattle.spec_slice_headers.specs.Substreams.{range_from, ranges_from, substreams_from, substream_ranges}
use Rattle.spec_slice_headers.specs.Substreams.{substreams}

between : (payload removed : List ℕ) (from to : ℕ)
    → bytes_of payload (range_between payload removed from to) ≡ bytes_between payload removed from to
between payload removed from to =
    let bytes = take (payload_before removed to) payload in
    ap (drop (min (payload_before removed from) (min (payload_before removed to) (length payload))))
    (take_min (payload_before removed to) payload)
    ∙ ap (λ n. drop (min (payload_before removed from) n) bytes) (sym (length-take (payload_before removed to) payload))
    ∙ drop_min (payload_before removed from) bytes

last : (payload removed : List ℕ) (from : ℕ)
    → bytes_of payload (range_from payload removed from) ≡ drop (payload_before removed from) payload
last payload removed from =
    ap (drop (min (payload_before removed from) (length payload))) (take_all (length payload) payload (omega arith))
    ∙ drop_min (payload_before removed from) payload

hold_from : (payload removed : List ℕ) (place : ℕ) (offsets : List ℕ)
    → map (bytes_of payload) (ranges_from payload removed place offsets) ≡ substreams_from payload removed place offsets
unfolding ranges_from substreams_from
hold_from payload removed place [] = ap (λ bytes. bytes ∷ []) (last payload removed place)
hold_from payload removed place (offset ∷ offsets) =
    ap (λ bytes. bytes ∷ map (bytes_of payload) (ranges_from payload removed (place + offset) offsets))
    (between payload removed place (place + offset))
    ∙ ap (λ more. bytes_between payload removed place (place + offset) ∷ more)
    (hold_from payload removed (place + offset) offsets)

inside_from : (payload removed : List ℕ) (place : ℕ) (offsets : List ℕ)
    → All (IsInside payload) (ranges_from payload removed place offsets)
unfolding ranges_from
inside_from payload removed place [] =
    All-cons (IsInside payload) (range_from payload removed place) []
    (record { ordered = min-le_right _ _; inside = omega arith }) (All-nil (IsInside payload))
inside_from payload removed place (offset ∷ offsets) =
    All-cons (IsInside payload) (range_between payload removed place (place + offset))
    (ranges_from payload removed (place + offset) offsets)
    (record { ordered = min-le_right _ _; inside = min-le_right _ _ })
    (inside_from payload removed (place + offset) offsets)

pub hold : (payload removed : List ℕ) (first : ℕ) (offsets : List ℕ)
    → map (bytes_of payload) (substream_ranges payload removed first offsets) ≡ substreams payload removed first offsets
unfolding substream_ranges substreams
hold payload removed first offsets = hold_from payload removed _ offsets

pub are_inside : (payload removed : List ℕ) (first : ℕ) (offsets : List ℕ)
    → All (IsInside payload) (substream_ranges payload removed first offsets)
unfolding substream_ranges
are_inside payload removed first offsets = inside_from payload removed _ offsets
