-- Which items of a list stay.
use Rattle.std.proofs.Common.{◌≡◌, ℕ, zero, suc, ◌-◌, ◌<◌, ◌≤◌, true, false, Bool, List, [], ◌∷◌, ◌++◌, map}
use Rattle.std.proofs.Common.{length, take, drop, refl, sym, ap, subst, ◌∙◌, append_assoc, append-nil, arith}
use Rattle.std.specs.Prelude.{if◌then◌else◌}
use Rattle.std.specs.List.{remove}
use Rattle.std.proofs.Math.Seq.{take-length, drop-length}
use Rattle.std.proofs.lemmas.List.{length-take-le}
use Rattle.std.proofs.lemmas.List.Edits.{length-remove, remove-append_right}
use Rattle.row_workers.specs.SpecDecoder.{is_among}
use Rattle.row_workers.specs.SpecFlights.{staying}

-- a list up to a place, the item there, and what stands behind it
at_place : {X : Type 0} → (n : ℕ) (xs : List X) → n < length xs
    → (x : X) × ((drop n xs ≡ x ∷ drop (suc n) xs) × (take (suc n) xs ≡ take n xs ++ x ∷ []))
at_place n [] lt = absurd (omega (arith, lt))
at_place zero (x ∷ xs) lt = (x, (refl, refl))
at_place (suc n) (x ∷ xs) lt =
    let less : n < length xs = omega (arith, lt) in
    let r = at_place n xs less in
    (r.0, (r.1.0, ap (λ ys. x ∷ ys) r.1.1))

-- what stays, mapped
pub staying_map : {X Y : Type 0} (h : X → Y) (places : List ℕ) (n : ℕ) (xs : List X)
    → map h (staying places n xs) ≡ staying places n (map h xs)
unfolding staying
staying_map h places n [] = refl
staying_map h places n (x ∷ xs) = by_place (is_among places n) (staying_map h places (suc n) xs)
  where
    by_place : (t : Bool) → map h (staying places (suc n) xs) ≡ staying places (suc n) (map h xs)
        → map h (if t then x ∷ staying places (suc n) xs else staying places (suc n) xs)
        ≡ (if t then h x ∷ staying places (suc n) (map h xs) else staying places (suc n) (map h xs))
    by_place true e = ap (λ l. h x ∷ l) e
    by_place false e = e

module _ {X : Type 0} (places : List ℕ) where
  -- which of them stay, behind those that are still to be judged
  abbrev pub Keeps : List X → ℕ → List X → Type 0
  Keeps old n now = now ≡ take n old ++ staying places n (drop n old)

  -- what stays of an item and of those behind it
  kept_next : (n : ℕ) (xs : List X) (x : X) (t : Bool) → drop n xs ≡ x ∷ drop (suc n) xs → is_among places n ≡ t
      → staying places n (drop n xs)
      ≡ (if t then x ∷ staying places (suc n) (drop (suc n) xs) else staying places (suc n) (drop (suc n) xs))
  unfolding staying
  kept_next n xs x t next is =
      let later : List X = staying places (suc n) (drop (suc n) xs) in
      ap (staying places n) next ∙ ap (λ (d : Bool). if d then x ∷ later else later) is

  -- nothing was taken out yet
  pub keeps_first : (xs : List X) → Keeps xs (length xs) xs
  unfolding staying
  keeps_first xs =
      sym (append-nil xs)
      ∙ ap (λ (ys : List X). ys ++ []) (sym (take-length xs))
      ∙ ap (λ (ys : List X). take (length xs) xs ++ staying places (length xs) ys) (sym (drop-length xs))

  before : (old now : List X) (n : ℕ) (x : X) → take (suc n) old ≡ take n old ++ x ∷ []
      → Keeps old (suc n) now → now ≡ take n old ++ x ∷ staying places (suc n) (drop (suc n) old)
  before old now n x front is =
      is ∙ ap (λ (ys : List X). ys ++ staying places (suc n) (drop (suc n) old)) front
      ∙ append_assoc (take n old) (x ∷ []) (staying places (suc n) (drop (suc n) old))

  -- the item before those that were judged stays, or is taken out
  keeps_one : (old now : List X) (n : ℕ) (t : Bool) → n < length old → is_among places n ≡ t
      → Keeps old (suc n) now → Keeps old n (if t then now else remove now n)
  keeps_one old now n true lt among is =
      let r = at_place n old lt in
      before old now n r.0 r.1.1 is
      ∙ ap (λ (ys : List X). take n old ++ ys) (sym (kept_next n old r.0 true r.1.0 among))
  keeps_one old now n false lt among is =
      let r = at_place n old lt in
      let later : List X = staying places (suc n) (drop (suc n) old) in
      let none : n - n ≡ 0 = omega arith in
      let le : n ≤ length old = omega (arith, lt) in
      let same : n ≤ n = omega arith in
      ap (λ (ys : List X). remove ys n) (before old now n r.0 r.1.1 is)
      ∙ remove-append_right (take n old) (r.0 ∷ later) n n (length-take-le n old le) same
      ∙ ap (λ (i : ℕ). take n old ++ remove (r.0 ∷ later) i) none
      ∙ ap (λ (ys : List X). take n old ++ ys) (sym (kept_next n old r.0 false r.1.0 among))

  -- an item is judged: what is left
  pub keeps_next : (old now new : List X) (n : ℕ) → 0 < n → n ≤ length old
      → new ≡ (if is_among places (n - 1) then now else remove now (n - 1)) → Keeps old n now
      → Keeps old (n - 1) new
  keeps_next old now new n some le e k =
      let lt : n - 1 < length old = omega (arith, some, le) in
      let back : n ≡ suc (n - 1) = omega (arith, some) in
      e ∙ keeps_one old now (n - 1) (is_among places (n - 1)) lt refl (subst (λ (m : ℕ). Keeps old m now) back k)

  -- and how much
  pub room_next : (now new : List X) (n : ℕ) → 0 < n → n ≤ length now
      → new ≡ (if is_among places (n - 1) then now else remove now (n - 1)) → n - 1 ≤ length new
  room_next now new n some le e =
      subst (λ (ys : List X). n - 1 ≤ length ys) (sym e) (by_place (is_among places (n - 1)))
    where
      by_place : (t : Bool) → n - 1 ≤ length (if t then now else remove now (n - 1))
      by_place true = omega (arith, some, le)
      by_place false =
          let lt : n - 1 < length now = omega (arith, some, le) in
          omega (arith, some, le, length-remove now (n - 1) lt)

  pub keeps_all : (old now : List X) (n : ℕ) → n ≤ 0 → Keeps old n now → now ≡ staying places 0 old
  keeps_all old now n none k =
      let e : n ≡ 0 = omega (arith, none) in
      subst (λ (m : ℕ). Keeps old m now) e k
