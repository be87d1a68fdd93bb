-- Bytes that are put back move a place only behind, and from the unit's end on all places are alike.
use Rattle.std.proofs.Common.{ℕ, ◌+◌, ◌<◌, ◌≡◌, ◌≤◌, Bool, true, false, List, [], ◌∷◌, drop, get_or, length, arith}
use Rattle.std.proofs.Common.{refl, ap, sym, ◌∙◌, leb-true, leb-false}
use Rattle.std.specs.Prelude.{fold, min, nat_le, nat_lt, if◌then◌else◌}
use Rattle.std.proofs.Math.Nat.{min-eq_left}
use Rattle.std.proofs.lemmas.List.{at_drop_all, at_drop_more}
use Rattle.std.proofs.lemmas.List.Sums.{count_by-le-length}
use Rattle.slice_types.specs.declared.substream.Substream.{Substream}
use Rattle.spec_slice_headers.specs.Substreams.{payload_before, put_back, range_between, range_from, ranges_from}
use Rattle.spec_slice_headers.specs.Substreams.{unit_place}

one_more : (place removed : ℕ) → place ≤ put_back place removed
one_more place removed = elim (nat_le removed place) as (λ b. place ≤ (if b then place + 1 else place)) [
  | true ↦ omega arith
  | false ↦ omega arith
]

not_before : (removed : List ℕ) (place : ℕ) → place ≤ fold put_back place removed
not_before [] place = omega arith
not_before (r ∷ removed) place = omega (arith, one_more place r, not_before removed (put_back place r))

unit_end_by : (removed : List ℕ) (i end : ℕ) (inside : Bool) → nat_le i end ≡ inside
    → min (unit_place removed (min i end)) end ≡ min (unit_place removed i) end
unit_end_by removed i end true t = ap (λ k. min (unit_place removed k) end) (min-eq_left (leb-true i end t))
unit_end_by removed i end false t =
    omega (arith, leb-false i end t, not_before removed (min i end + 2), not_before removed (i + 2))

-- a byte at the end or behind it has its place behind the end too
pub up_to : (removed : List ℕ) (i end : ℕ) → min (unit_place removed (min i end)) end ≡ min (unit_place removed i) end
up_to removed i end = unit_end_by removed i end (nat_le i end) refl

-- the place behind the unit's last byte
abbrev unit_end : List ℕ → List ℕ → ℕ
unit_end payload removed = 2 + length payload + length removed

-- places that are the same one, or both at the unit's end or behind it
abbrev pub Alike : List ℕ → List ℕ → ℕ → ℕ → Type 0
Alike payload removed p q = min p (unit_end payload removed) ≡ min q (unit_end payload removed)

-- the byte of the payload from a place of the unit on, or the payload's end
abbrev byte_at : List ℕ → List ℕ → ℕ → ℕ
byte_at payload removed place = min (payload_before removed place) (length payload)

byte_at_end : (payload removed : List ℕ) (p : ℕ) (inside : Bool) → nat_le p (unit_end payload removed) ≡ inside
    → byte_at payload removed (min p (unit_end payload removed)) ≡ byte_at payload removed p
byte_at_end payload removed p true t =
    ap (byte_at payload removed) (min-eq_left (leb-true p (unit_end payload removed) t))
byte_at_end payload removed p false t =
    omega (
      arith,
      leb-false p (unit_end payload removed) t,
      count_by-le-length (λ r. nat_lt r p) removed,
      count_by-le-length (λ r. nat_lt r (min p (unit_end payload removed))) removed,
    )

same_byte : (payload removed : List ℕ) (p q : ℕ) → Alike payload removed p q
    → byte_at payload removed p ≡ byte_at payload removed q
same_byte payload removed p q e =
    sym (byte_at_end payload removed p _ refl) ∙ ap (byte_at payload removed) e ∙ byte_at_end payload removed q _ refl

abbrev span : ℕ → ℕ → Substream
span start behind = record { start = start; end = behind }

same_range : (payload removed : List ℕ) (p q p' q' : ℕ) → Alike payload removed p p' → Alike payload removed q q'
    → range_between payload removed p q ≡ range_between payload removed p' q'
same_range payload removed p q p' q' e f =
    let end = same_byte payload removed q q' f in
    let start : min (payload_before removed p) (byte_at payload removed q)
    ≡ min (payload_before removed p') (byte_at payload removed q') =
    omega (arith, same_byte payload removed p p' e, end) in
    ap (λ s. span s (byte_at payload removed q)) start
    ∙ ap (span (min (payload_before removed p') (byte_at payload removed q'))) end

-- from alike places on the ranges are the same
pub same_ranges : (payload removed : List ℕ) (p q : ℕ) (offsets : List ℕ) → Alike payload removed p q
    → ranges_from payload removed p offsets ≡ ranges_from payload removed q offsets
unfolding ranges_from
same_ranges payload removed p q [] e = ap (λ s. span s (length payload) ∷ []) (same_byte payload removed p q e)
same_ranges payload removed p q (offset ∷ offsets) e =
    let e' : Alike payload removed (p + offset) (q + offset) = omega (arith, e) in
    ap (λ s. s ∷ ranges_from payload removed (p + offset) offsets)
    (same_range payload removed p (p + offset) q (q + offset) e e')
    ∙ ap (λ more. range_between payload removed q (q + offset) ∷ more)
    (same_ranges payload removed (p + offset) (q + offset) offsets e')

-- the range up to the next place, and those from there on
pub one_range : (payload removed offsets : List ℕ) (place i next : ℕ) → i < length offsets
    → Alike payload removed (place + get_or offsets i 0) next
    → ranges_from payload removed place (drop i offsets)
    ≡ range_between payload removed place next ∷ ranges_from payload removed next (drop (i + 1) offsets)
unfolding ranges_from
one_range payload removed offsets place i next l e =
    let after = place + get_or offsets i 0 in
    let here : ranges_from payload removed place (drop i offsets)
    ≡ range_between payload removed place after ∷ ranges_from payload removed after (drop (i + 1) offsets) =
    at_drop_more (ranges_from payload removed place) offsets i 0 l in
    here
    ∙ ap (λ s. s ∷ ranges_from payload removed after (drop (i + 1) offsets))
    (same_range payload removed place after place next refl e)
    ∙ ap (λ more. range_between payload removed place next ∷ more)
    (same_ranges payload removed after next (drop (i + 1) offsets) e)

-- behind the last offset the range from the place on is left
pub last_range : (payload removed offsets : List ℕ) (place i : ℕ) → length offsets ≤ i
    → ranges_from payload removed place (drop i offsets) ≡ range_from payload removed place ∷ []
unfolding ranges_from
last_range payload removed offsets place i l = at_drop_all (ranges_from payload removed place) offsets i l
