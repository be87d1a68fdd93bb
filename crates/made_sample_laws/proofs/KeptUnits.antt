-- All places of units by pulse code modulation are kept where loop filters pass over them.
use Rattle.std.proofs.Common.{◌≡◌, ℕ, ◌^◌, ◌<◌, cond, Bool, true, false, List, []}
use Rattle.std.proofs.Common.{◌∷◌, ◌++◌}
use Rattle.std.proofs.Common.{inl, inr, refl, sym, ap, ◌∙◌, arith, append-nil}
use Rattle.std.specs.List.{fold}
use Rattle.std.proofs.lemmas.Bool.{cases_lt}
use Rattle.ctu_records.specs.declared.item.Item.{Item}
use Rattle.ctu_records.specs.declared.item.Square.{Square}
use Rattle.ctu_records.specs.Places.{inside}
use Rattle.ctu_records.specs.Tree.{laid}
use Rattle.spec_boundary_strengths.specs.Places.{kept_at, kept_laid}
use Rattle.spec_boundary_strengths.specs.Strengths.{nowhere}
use Rattle.spec_made.specs.declared.units.PcmUnit.{PcmUnit}
use Rattle.spec_made.specs.PcmRows.{quarter_of}
use Rattle.made_row_laws.specs.Units.{pcm_unit_items, pulse_items, quarter, sample_items, whole}
use Rattle.made_sample_laws.proofs.Pulses.{is_in}

-- whether places are kept
abbrev Kept : Type 0
Kept = ℕ → ℕ → Bool

-- behind a coding unit
abbrev over : Square → Kept → Kept
over square kept = laid square true (laid square false kept)

skipped : (xs : List ℕ) (rest : List Item) (kept : Kept)
    → fold (kept_laid true) kept (sample_items xs ++ rest) ≡ fold (kept_laid true) kept rest
skipped [] rest kept = refl
skipped (x ∷ xs) rest kept = skipped xs rest kept

pulses : (depth : ℕ) (square : Square) (xs : List ℕ) (rest : List Item) (kept : Kept)
    → fold (kept_laid true) kept (pulse_items depth square xs ++ rest) ≡ fold (kept_laid true) (over square kept) rest
pulses depth square xs rest kept = skipped xs rest (over square kept)

last_pulses : (depth : ℕ) (square : Square) (xs : List ℕ) (kept : Kept)
    → fold (kept_laid true) kept (pulse_items depth square xs) ≡ over square kept
last_pulses depth square xs kept =
    ap (λ l. fold (kept_laid true) kept l) (sym (append-nil (pulse_items depth square xs)))
    ∙ pulses depth square xs [] kept

abbrev four : Kept → Kept
four kept = over (quarter 1 1) (over (quarter 0 1) (over (quarter 1 0) (over (quarter 0 0) kept)))

split_kept : (xs : List ℕ) (kept : Kept) (r1 r2 r3 : List Item)
    → r3 ≡ pulse_items 1 (quarter 1 1) (quarter_of xs 3)
    → r2 ≡ pulse_items 1 (quarter 0 1) (quarter_of xs 2) ++ r3
    → r1 ≡ pulse_items 1 (quarter 1 0) (quarter_of xs 1) ++ r2
    → fold (kept_laid true) kept (pulse_items 1 (quarter 0 0) (quarter_of xs 0) ++ r1) ≡ four kept
split_kept xs kept r1 r2 r3 e3 e2 e1 =
    let k0 : Kept = over (quarter 0 0) kept in
    let k1 : Kept = over (quarter 1 0) k0 in
    let k2 : Kept = over (quarter 0 1) k1 in
    pulses 1 (quarter 0 0) (quarter_of xs 0) r1 kept
    ∙ ap (λ l. fold (kept_laid true) k0 l) e1 ∙ pulses 1 (quarter 1 0) (quarter_of xs 1) r2 k0
    ∙ ap (λ l. fold (kept_laid true) k1 l) e2 ∙ pulses 1 (quarter 0 1) (quarter_of xs 2) r3 k1
    ∙ ap (λ l. fold (kept_laid true) k2 l) e3 ∙ last_pulses 1 (quarter 1 1) (quarter_of xs 3) k2

over_in : (square : Square) (kept : Kept) (x y : ℕ) → inside square.x square.y (2 ^ square.log2_size) x y ≡ true
    → over square kept x y ≡ true
over_in square kept x y is = rw is refl

true_cond : (b v : Bool) → v ≡ true → cond b true (cond b false v) ≡ true
true_cond true v e = refl
true_cond false v e = e

over_keeps : (square : Square) (kept : Kept) (x y : ℕ) → kept x y ≡ true → over square kept x y ≡ true
over_keeps square kept x y e = true_cond (inside square.x square.y (2 ^ square.log2_size) x y) (kept x y) e

four_kept : (kept : Kept) (x y : ℕ) → x < 4 → y < 4 → four kept x y ≡ true
four_kept kept x y few low =
    let k0 : Kept = over (quarter 0 0) kept in
    let k1 : Kept = over (quarter 1 0) k0 in
    let k2 : Kept = over (quarter 0 1) k1 in
    elim (cases_lt x 2) [
      | inl west ↦ elim (cases_lt y 2) [
        | inl north ↦
            over_keeps (quarter 1 1) k2 x y (over_keeps (quarter 0 1) k1 x y (over_keeps (quarter 1 0) k0 x y
            (over_in (quarter 0 0) kept x y (is_in 0 0 2 x y (omega arith) west (omega arith) north))))
        | inr south ↦
            over_keeps (quarter 1 1) k2 x y
            (over_in (quarter 0 1) k1 x y (is_in 0 2 2 x y (omega arith) west south (omega arith)))
      ]
      | inr east ↦ elim (cases_lt y 2) [
        | inl north ↦
            over_keeps (quarter 1 1) k2 x y (over_keeps (quarter 0 1) k1 x y
            (over_in (quarter 1 0) k0 x y (is_in 2 0 2 x y east (omega arith) (omega arith) north)))
        | inr south ↦ over_in (quarter 1 1) k2 x y (is_in 2 2 2 x y east (omega arith) south (omega arith))
      ]
    ]

any_kept : (split : Bool) (xs : List ℕ) (x y : ℕ) → x < 4 → y < 4
    → fold (kept_laid true) nowhere (pcm_unit_items (record { split = split; samples = xs })) x y ≡ true
any_kept true xs x y few low =
    ap (λ (k : Kept). k x y) (split_kept xs nowhere _ _ _ refl refl refl) ∙ four_kept nowhere x y few low
any_kept false xs x y few low =
    ap (λ (k : Kept). k x y) (last_pulses 0 whole xs nowhere)
    ∙ over_in whole nowhere x y (is_in 0 0 4 x y (omega arith) few (omega arith) low)

pub pulses_kept : (u : PcmUnit) (x y : ℕ) → x < 4 → y < 4 → kept_at true (pcm_unit_items u) x y ≡ true
unfolding kept_at
pulses_kept u x y few low = any_kept u.split u.samples x y few low
