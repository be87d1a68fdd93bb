-- What is known of places.
use Rattle.std.proofs.Common.{◌≡◌, refl, ℕ, zero, suc, ◌+◌, ◌-◌, ◌*◌, ◌<◌, ◌≤◌, ◌==◌, ◌&&◌, cond, min, map}
use Rattle.std.proofs.Common.{Bool, true, false, List, [], ◌∷◌, length, get_or, inl, inr, ap, subst, sym, ◌∙◌, arith}
use Rattle.std.proofs.Common.{nat_le, nat_lt}
use Rattle.std.proofs.lemmas.Bool.{cases_lt}
use Rattle.std.proofs.lemmas.Bool.Decides.{nat_tests}
use Rattle.std.proofs.lemmas.List.{get_or_past}
use Rattle.std.proofs.Math.Nat.{mul-le-mul_left}
use Rattle.boundary_strengths.specs.SpecBoundaryStrengths.{UnitPlace}
use Rattle.place_grid.specs.Cells.{Cells, HasCells, cell}
use Rattle.picture_filters.specs.declared.filter_place.FilterPlace.{FilterPlace}
use Rattle.picture_filters.specs.declared.filter_place.HeldPlace.{HeldPlace}
use Rattle.picture_filters.specs.declared.filter_place.SliceOffsets.{SliceOffsets}
use Rattle.picture_filters.specs.Places.{AreClear, FieldPlaces, IsField, first_held, first_place, first_read, held_row}
use Rattle.picture_filters.specs.Places.{known_place, known_places, places_of}

mapped : (xs : List HeldPlace) (i : ℕ)
    → get_or (map known_place xs) i first_place ≡ known_place (get_or xs i first_held)
mapped [] i = refl
mapped (x ∷ xs) zero = refl
mapped (x ∷ xs) (suc i) = mapped xs i

-- what is known of a place is what is kept of it
pub known_at : (held : Cells HeldPlace) (x y : ℕ)
    → places_of (known_places held) x y ≡ known_place (cell first_held held x y)
unfolding places_of cell
known_at held x y = let t = mapped held.cells (held.across * y + x) in grind (arith, nat_tests)

pub new_at : (held : Cells HeldPlace) → ((x y : ℕ) → cell first_held held x y ≡ first_held) → (x y : ℕ)
    → places_of (known_places held) x y ≡ first_place
new_at held all x y = known_at held x y ∙ ap known_place (all x y)

chosen : (b : Bool) (p q : HeldPlace) → known_place (cond b p q) ≡ cond b (known_place p) (known_place q)
chosen true p q = refl
chosen false p q = refl

kept_chosen : (b : Bool) (p : HeldPlace) (q : FilterPlace) (k : Bool) → k ≡ q.place.kept
    → cond b p.read.kept k ≡ (cond b (known_place p) q).place.kept
kept_chosen true p q k e = refl
kept_chosen false p q k e = e

-- places of a row
abbrev pub in_row : ℕ → ℕ → ℕ → ℕ → ℕ → Bool
in_row x y count i j = j == y && (nat_le x i && nat_lt i (x + count))

-- what is known behind a row that is put
pub row_at : (here : Bool) (p : HeldPlace) (old new : Cells HeldPlace) (i j : ℕ)
    → cell first_held new i j ≡ cond here p (cell first_held old i j)
    → places_of (known_places new) i j ≡ cond here (known_place p) (places_of (known_places old) i j)
row_at here p old new i j put =
    known_at new i j
    ∙ (ap known_place put
    ∙ (chosen here p (cell first_held old i j) ∙ ap (cond here (known_place p)) (sym (known_at old i j))))

-- and the flags that go with it
pub field_put : (x y : ℕ) (row : List UnitPlace) (o : SliceOffsets) (old new : Cells HeldPlace)
    (before flags : Cells Bool) (was flagged : Bool)
    → IsField (known_places old) before was → HasCells new old.across old.down
    → HasCells flags before.across before.down
    → ((i j : ℕ)
    → cell first_held new i j ≡ cond (in_row x y (length row) i j) (held_row row o (i - x)) (cell first_held old i j))
    → ((i j : ℕ)
    → cell false flags i j
    ≡ cond (in_row x y (length row) i j) (get_or row (i - x) first_read).kept (cell false before i j))
    → (flagged ≡ false → AreClear flags) → IsField (known_places new) flags flagged
field_put x y row o old new before flags was flagged field sides same put told clear = record {
  columns = same.columns ∙ (field.columns ∙ sym sides.columns);
  rows = same.rows ∙ (field.rows ∙ sym sides.rows);
  kept = λ i j. told i j
      ∙ (kept_chosen (in_row x y (length row) i j) (held_row row o (i - x)) _ _ (field.kept i j)
      ∙ ap (λ (p : FilterPlace). p.place.kept)
      (sym (row_at (in_row x y (length row) i j) (held_row row o (i - x)) old new i j (put i j))));
  clear = clear;
}

both : (b k f : Bool) → k ≡ false → f ≡ false → k ≡ cond b f k
both true k f e d = e ∙ sym d
both false k f e d = refl

-- a row without kept samples over flags that are clear
pub unflagged : (x y : ℕ) (row : List UnitPlace) (flags : Cells Bool) → AreClear flags
    → ((q : ℕ) → (get_or row q first_read).kept ≡ false) → (i j : ℕ)
    → cell false flags i j
    ≡ cond (in_row x y (length row) i j) (get_or row (i - x) first_read).kept (cell false flags i j)
unflagged x y row flags clear none i j =
    both (in_row x y (length row) i j) (cell false flags i j) (get_or row (i - x) first_read).kept (clear i j)
    (none (i - x))

below_last : (flags : Cells Bool) (x y : ℕ) → flags.down ≤ y → cell false flags x y ≡ false
unfolding cell
below_last flags x y le = grind (arith, nat_tests)

kept_in : (places : FieldPlaces) (flags : Cells Bool) (flagged : Bool) (kept : List Bool) (side row first : ℕ)
    → IsField places flags flagged → first ≡ min (side * row) flags.down
    → length kept ≡ flags.across * min side (flags.down - first)
    → ((x j : ℕ) → x < flags.across → j < side → first + j < flags.down
    → get_or kept (flags.across * j + x) false ≡ cell false flags x (first + j))
    → (x j : ℕ) → x < flags.across → j < side
    → get_or kept (flags.across * j + x) false ≡ (places_of places x (side * row + j)).place.kept
kept_in places flags flagged kept side row first field f count told x j hx hj =
    elim (cases_lt (side * row + j) flags.down) [
      | inl lt ↦
          let same : first ≡ side * row = omega (arith, f, lt) in
          told x j hx hj (omega (arith, same, lt))
          ∙ (ap (λ (n : ℕ). cell false flags x (n + j)) same ∙ field.kept x (side * row + j))
      | inr le ↦
          let few : min side (flags.down - first) ≤ j = omega (arith, f, le) in
          let past : flags.across * min side (flags.down - first) ≤ flags.across * j =
          mul-le-mul_left flags.across few in
          get_or_past kept (flags.across * j + x) false (omega (arith, count, past))
          ∙ (sym (below_last flags x (side * row + j) le) ∙ field.kept x (side * row + j))
    ]

-- the flags of a row of blocks are those of its places
pub kept_row : (places : FieldPlaces) (flags : Cells Bool) (flagged : Bool) (kept : List Bool)
    (side row first : ℕ) → IsField places flags flagged → first ≡ min (side * row) flags.down
    → length kept ≡ flags.across * min side (flags.down - first)
    → ((x j : ℕ) → x < flags.across → j < side → first + j < flags.down
    → get_or kept (flags.across * j + x) false ≡ cell false flags x (first + j))
    → (x j : ℕ) → x < places.across → j < side
    → get_or kept (places.across * j + x) false ≡ (places_of places x (side * row + j)).place.kept
kept_row places flags flagged kept side row first field f count told x j hx hj =
    subst (λ (n : ℕ). x < n → get_or kept (n * j + x) false ≡ (places_of places x (side * row + j)).place.kept)
    field.columns (λ lt. kept_in places flags flagged kept side row first field f count told x j lt hj) hx
