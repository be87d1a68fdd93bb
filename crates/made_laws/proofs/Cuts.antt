-- Rows one behind the other in a payload, each of which ends in a byte other than 00: what is written of them, and how
-- entry points cut them.
use Rattle.std.proofs.Common.{◌≡◌, ℕ, ◌+◌, List, [], ◌∷◌, ◌++◌, length, map, take, drop}
use Rattle.std.proofs.Common.{sym, ap, ◌∙◌, arith, append_assoc}
use Rattle.std.specs.Prelude.{sum}
use Rattle.std.specs.List.{concat}
use Rattle.std.proofs.lemmas.List.{length-append}
use Rattle.std.proofs.lemmas.List.Sums.{sum_by-cons}
use Rattle.std.proofs.Math.Seq.{drop-append_seam, take-append_seam}
use Rattle.spec_nal_units.specs.Escaped.{added, escaped}
use Rattle.spec_slice_headers.specs.Substreams.{bytes_between, payload_before, substreams_from, unit_place}
use Rattle.entry_point_laws.proofs.Boundaries.{bytes, payload_found, place}
use Rattle.made_laws.proofs.Bytes.{EndsInSome, more_before}

-- rows that end so
abbrev pub AllEnd : List (List ℕ) → Type 0
AllEnd [] = Unit {0}
AllEnd (row ∷ rows) = EndsInSome row × AllEnd rows

-- a byte in the middle
middle : (front : List ℕ) (z : ℕ) (back : List ℕ) → (front ++ z ∷ []) ++ back ≡ front ++ z ∷ back
middle front z back = append_assoc front (z ∷ []) back

seam : (front back : List ℕ) (e : EndsInSome front) → front ++ back ≡ e.front ++ e.last ∷ back
seam front back e = ap (λ l. l ++ back) e.is ∙ middle e.front e.last back

-- what is written behind them
pub escaped-behind : (b l : ℕ) (front back : List ℕ) → EndsInSome front
    → escaped b l (front ++ back) ≡ escaped b l front ++ escaped 1 1 back
escaped-behind b l front back e =
    ap (escaped b l) (seam front back e) ∙ bytes b l e.front e.last back e.some
    ∙ sym (ap (λ x. escaped b l x ++ escaped 1 1 back) e.is)

-- where they end in the unit, and in the payload
pub place-behind : (b l : ℕ) (front back : List ℕ) → EndsInSome front
    → unit_place (added 2 b l (front ++ back)) (length front) ≡ 2 + length (escaped b l front)
place-behind b l front back e =
    ap (λ x. unit_place (added 2 b l x) (length front)) (seam front back e)
    ∙ ap (λ x. unit_place (added 2 b l (e.front ++ e.last ∷ back)) (length x)) e.is
    ∙ place b l e.front e.last back e.some
    ∙ sym (ap (λ x. 2 + length (escaped b l x)) e.is)

found-behind : (b l : ℕ) (front back : List ℕ) → EndsInSome front
    → payload_before (added 2 b l (front ++ back)) (2 + length (escaped b l front)) ≡ length front
found-behind b l front back e =
    ap (λ x. payload_before (added 2 b l x) (2 + length (escaped b l front))) (seam front back e)
    ∙ ap (λ x. payload_before (added 2 b l (e.front ++ e.last ∷ back)) (2 + length (escaped b l x))) e.is
    ∙ payload_found b l e.front e.last back e.some
    ∙ sym (ap length e.is)

-- how long a row is in the unit
abbrev pub size_of : List ℕ → ℕ
size_of row = length (escaped 1 1 row)

next_place : (b l : ℕ) (front row : List ℕ) → EndsInSome front
    → 2 + length (escaped b l front) + size_of row ≡ 2 + length (escaped b l (front ++ row))
next_place b l front row e =
    let written = ap length (escaped-behind b l front row e) in
    omega (arith, written, length-append (escaped b l front) (escaped 1 1 row))

-- the rows are cut so, the last one being what is left
pub cut : (b l : ℕ) (payload front : List ℕ) (rows : List (List ℕ)) (last : List ℕ) → EndsInSome front
    → AllEnd rows → payload ≡ front ++ (concat rows ++ last)
    → substreams_from payload (added 2 b l payload) (2 + length (escaped b l front)) (map size_of rows)
    ≡ rows ++ last ∷ []
unfolding substreams_from
cut b l payload front [] last e all is =
    let at = ap (λ p. payload_before (added 2 b l p) (2 + length (escaped b l front))) is
    ∙ found-behind b l front last e in
    ap (λ n. drop n payload ∷ []) at ∙ ap (λ p. drop (length front) p ∷ []) is
    ∙ ap (λ x. x ∷ []) (drop-append_seam front last)
cut b l payload front (row ∷ rows) last e all is =
    let removed : List ℕ = added 2 b l payload in
    let from : ℕ = 2 + length (escaped b l front) in
    let behind : List ℕ = concat rows ++ last in
    let whole : payload ≡ front ++ (row ++ behind) = is ∙ ap (λ x. front ++ x) (append_assoc row (concat rows) last) in
    let more : payload ≡ (front ++ row) ++ behind = whole ∙ sym (append_assoc front row behind) in
    let ends : EndsInSome (front ++ row) = more_before front row all.0 in
    let start = ap (λ p. payload_before (added 2 b l p) from) whole ∙ found-behind b l front (row ++ behind) e in
    let end = ap (payload_before removed) (next_place b l front row e)
    ∙ ap (λ p. payload_before (added 2 b l p) (2 + length (escaped b l (front ++ row)))) more
    ∙ found-behind b l (front ++ row) behind ends in
    let first : bytes_between payload removed from (from + size_of row) ≡ row =
    ap (λ n. drop n (take (payload_before removed (from + size_of row)) payload)) start
    ∙ ap (λ n. drop (length front) (take n payload)) end
    ∙ ap (λ p. drop (length front) (take (length (front ++ row)) p)) more
    ∙ ap (drop (length front)) (take-append_seam (front ++ row) behind)
    ∙ drop-append_seam front row in
    ap (λ x. x ∷ substreams_from payload removed (from + size_of row) (map size_of rows)) first
    ∙ ap (λ n. row ∷ substreams_from payload removed n (map size_of rows)) (next_place b l front row e)
    ∙ ap (λ x. row ∷ x) (cut b l payload (front ++ row) rows last ends all.1 more)

sum-cons : (x : ℕ) (xs : List ℕ) → sum (x ∷ xs) ≡ x + sum xs
sum-cons x xs = sum_by-cons (λ k. k) x xs

-- how long the unit is
pub escaped-rows : (b l : ℕ) (front : List ℕ) (rows : List (List ℕ)) (last : List ℕ) → EndsInSome front
    → AllEnd rows
    → length (escaped b l (front ++ (concat rows ++ last)))
    ≡ length (escaped b l front) + (sum (map size_of rows) + size_of last)
escaped-rows b l front [] last e all =
    let written = ap length (escaped-behind b l front last e) in
    omega (arith, written, length-append (escaped b l front) (escaped 1 1 last))
escaped-rows b l front (row ∷ rows) last e all =
    let behind : List ℕ = concat rows ++ last in
    let more : front ++ ((row ++ concat rows) ++ last) ≡ (front ++ row) ++ behind =
    ap (λ x. front ++ x) (append_assoc row (concat rows) last) ∙ sym (append_assoc front row behind) in
    let written = ap length (escaped-behind b l front row e) in
    let later = escaped-rows b l (front ++ row) rows last (more_before front row all.0) all.1 in
    ap (λ x. length (escaped b l x)) more ∙ later
    ∙ (let n : length (escaped b l (front ++ row)) + (sum (map size_of rows) + size_of last)
    ≡ length (escaped b l front) + (sum (map size_of (row ∷ rows)) + size_of last) =
    omega (
      arith,
      written,
      length-append (escaped b l front) (escaped 1 1 row),
      sum-cons (size_of row) (map size_of rows),
    ) in n)
