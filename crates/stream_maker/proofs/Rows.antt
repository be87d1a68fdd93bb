-- Rows one after the other.
use Rattle.std.proofs.Common.{◌≡◌, ℕ, ◌+◌, List, [], ◌∷◌, ◌++◌, map, length, drop, refl, sym, ap, ◌∙◌, arith}
use Rattle.std.proofs.Common.{append_assoc}
use Rattle.std.specs.List.{range_with_len, concat}
use Rattle.std.proofs.lemmas.List.FromFn.{map-range_with_len_more}
use Rattle.std.proofs.lemmas.List.{drop_at}
use Rattle.spec_made.specs.Headers.{rows_of, offset_of}

concat_last : (rows : List (List ℕ)) (row : List ℕ) → concat (rows ++ row ∷ []) ≡ concat rows ++ row
concat_last [] row = no_more row where
  no_more : (xs : List ℕ) → xs ++ [] ≡ xs
  no_more [] = refl
  no_more (x ∷ xs) = ap (λ l. x ∷ l) (no_more xs)
concat_last (r ∷ rows) row = ap (λ l. r ++ l) (concat_last rows row) ∙ sym (append_assoc r (concat rows) row)

pub rows_more : (row : ℕ → List ℕ) (r : ℕ) → rows_of row (r + 1) ≡ rows_of row r ++ row r
rows_more row r =
    let z : 0 + r ≡ r = omega arith in
    ap concat (map-range_with_len_more row 0 r r z) ∙ concat_last (map row (range_with_len 0 r)) (row r)

-- the rows so far, and where each of them ends
pub record Rows (row : ℕ → List ℕ) (r : ℕ) (written entries : List ℕ) : Type 0 where
  pub bytes : written ≡ rows_of row r
  pub offsets : entries ≡ map (λ k. offset_of (row k)) (range_with_len 0 r)

pub rows_step : (row : ℕ → List ℕ) (r size offset : ℕ) (bytes more last offsets next : List ℕ)
    → Rows row r bytes offsets
    → more ≡ bytes ++ row r → size ≡ length bytes → last ≡ drop size more → offset ≡ offset_of last
    → next ≡ offsets ++ offset ∷ []
    → Rows row (r + 1) more next
rows_step row r size offset bytes more last offsets next so_far is_more is_size is_last is_offset is_next =
    let z : 0 + r ≡ r = omega arith in
    let here : last ≡ row r =
    is_last ∙ ap (drop size) is_more ∙ drop_at bytes (row r) size (sym is_size) in
    record {
      bytes = is_more ∙ ap (λ b. b ++ row r) so_far.bytes ∙ sym (rows_more row r);
      offsets =
          is_next ∙ ap (λ o. offsets ++ o ∷ []) (is_offset ∙ ap offset_of here)
          ∙ ap (λ l. l ++ offset_of (row r) ∷ []) so_far.offsets
          ∙ sym (map-range_with_len_more (λ k. offset_of (row k)) 0 r r z);
    }

pub rows_all : (row : ℕ → List ℕ) (r : ℕ) (bytes offsets more : List ℕ) → r ≡ 5 → Rows row r bytes offsets
    → more ≡ bytes ++ row 5
    → (more ≡ rows_of row 6) × (offsets ≡ map (λ k. offset_of (row k)) (range_with_len 0 5))
rows_all row r bytes offsets more e so_far is_more = (
  is_more ∙ ap (λ b. b ++ row 5) (so_far.bytes ∙ ap (rows_of row) e) ∙ sym (rows_more row 5),
  so_far.offsets ∙ ap (λ n. map (λ k. offset_of (row k)) (range_with_len 0 n)) e,
)
