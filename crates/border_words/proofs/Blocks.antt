-- The motion of blocks beneath a unit, as it is laid.
use Rattle.std.proofs.Common.{◌≡◌, ◌≢◌, ℕ, ◌+◌, ◌*◌, ◌<◌, ◌≤◌, Bool, true, false, ◌&&◌, if◌then◌else◌, inl, inr}
use Rattle.std.proofs.Common.{refl, arith, ap, sym, ◌∙◌, subst, Option}
use Rattle.std.specs.Prelude.{◌==◌}
use Rattle.std.proofs.lemmas.Bool.{cases_eq}
use Rattle.std.proofs.lemmas.Bool.Decides.{nat_tests}
use Rattle.picture_buffer.specs.declared.place_motion.PlaceMotion.{PlaceMotion}
use Rattle.picture_layout.specs.declared.coding_tree_unit.CodingTreeUnit.{CodingTreeUnit}
use Rattle.spec_picture_motion.specs.Field.{Motions}
use Rattle.spec_picture_trees.specs.Places.{first_column, first_row, unit_places}
use Rattle.row_borders.specs.Borders.{Bordering, block_beneath, with_beneath}
use Rattle.row_borders.specs.Building.{IsBeneath}
use Rattle.border_words.specs.Beneath.{HasColumn}

-- nothing but blocks beneath changes
pub same_beneath : (old mid new : Bordering) → mid ≡ with_beneath old mid.beneath
    → new ≡ with_beneath mid new.beneath → new ≡ with_beneath old new.beneath
same_beneath old mid new first second = second ∙ ap (λ (b : Bordering). with_beneath b new.beneath) first

-- one block was laid
abbrev pub LaysBlock : Bordering → Bordering → ℕ → ℕ → Option PlaceMotion → Type 0
LaysBlock old new column row motion =
    (i j : ℕ) → block_beneath new i j ≡ (if i == column && j == row then motion else block_beneath old i j)

both : (i j column row : ℕ) → i ≡ column → j ≡ row → ((i == column) && (j == row)) ≡ true
both i j column row first second = grind (arith, nat_tests)

not_first : (i j column row : ℕ) → i ≢ column → ((i == column) && (j == row)) ≡ false
not_first i j column row other = grind (arith, nat_tests)

not_second : (i j column row : ℕ) → j ≢ row → ((i == column) && (j == row)) ≡ false
not_second i j column row other = grind (arith, nat_tests)

module _ (old new : Bordering) (column row : ℕ) (motion : Option PlaceMotion)
    (lays : LaysBlock old new column row motion) where
  pub block_laid : (value : ℕ → Option PlaceMotion) → motion ≡ value row
      → ((r : ℕ) → r < row → block_beneath old column r ≡ value r)
      → (r : ℕ) → r < row + 1 → block_beneath new column r ≡ value r
  block_laid value is before r less =
      elim (cases_eq r row) [
        | inl same ↦
            lays column r
            ∙ (ap (λ (b : Bool). if b then motion else block_beneath old column r)
            (both column r column row refl same)
            ∙ (is ∙ ap value (sym same)))
        | inr other ↦
            lays column r
            ∙ (ap (λ (b : Bool). if b then motion else block_beneath old column r)
            (not_second column r column row other)
            ∙ before r (omega (arith, less, other)))
      ]

  pub others_stay : (c r : ℕ) → c ≢ column → block_beneath new c r ≡ block_beneath old c r
  others_stay c r other =
      lays c r
      ∙ ap (λ (b : Bool). if b then motion else block_beneath old c r) (not_first c r column row other)

-- one more column
pub columns_more : (old new : Bordering) (n column : ℕ) (value : ℕ → ℕ → Option PlaceMotion)
    → HasColumn new n column (value column)
    → ((c row : ℕ) → c ≢ column → block_beneath new c row ≡ block_beneath old c row)
    → ((c : ℕ) → c < column → HasColumn old n c (value c))
    → (c : ℕ) → c < column + 1 → HasColumn new n c (value c)
columns_more old new n column value last others before c less =
    elim (cases_eq c column) [
      | inl same ↦ subst (λ k. HasColumn new n k (value k)) (sym same) last
      | inr other ↦ λ row inside. others c row other ∙ before c (omega (arith, less, other)) row inside
    ]

-- all of them
pub beneath_by : (old new : Bordering) (motions : Motions) → new ≡ with_beneath old new.beneath
    → ((c : ℕ) → 4 * c ≤ unit_places old.unit.layout → HasColumn new (unit_places old.unit.layout) c (λ row.
    motions (first_column old.unit.layout old.unit.address + 4 * c)
    (first_row old.unit.layout old.unit.address + 4 * row)))
    → IsBeneath new motions
beneath_by old new motions same told =
    let unit : new.unit ≡ old.unit = ap (λ (b : Bordering). b.unit) same in
    subst
    (λ (u : CodingTreeUnit). (c row : ℕ) → 4 * c ≤ unit_places u.layout → 4 * row < unit_places u.layout
    → block_beneath new c row
    ≡ motions (first_column u.layout u.address + 4 * c) (first_row u.layout u.address + 4 * row))
    (sym unit) (λ c row across down. told c across row down)

-- those of a unit, and the first of the unit behind it
module _ (old mid new : Bordering) (motions : Motions) (n x row : ℕ) (side : n ≡ unit_places old.unit.layout)
    (left : first_column old.unit.layout old.unit.address ≡ n * x)
    (top : first_row old.unit.layout old.unit.address ≡ n * row) (same : new ≡ with_beneath old new.beneath)
    (own : (c : ℕ) → 4 * c < n → HasColumn mid n c (λ r. motions (n * x + 4 * c) (n * row + 4 * r)))
    (stay : (c r : ℕ) → 4 * c < n → block_beneath new c r ≡ block_beneath mid c r)
    (last : (c : ℕ) → 4 * c ≡ n → HasColumn new n c (λ r. motions (n * (x + 1)) (n * row + 4 * r))) where
  column_is : (c : ℕ) → 4 * c ≤ n → HasColumn new n c (λ r. motions (n * x + 4 * c) (n * row + 4 * r))
  column_is c across r down =
      elim (cases_eq (4 * c) n) [
        | inl end ↦
            let next : n * (x + 1) ≡ n * x + n = grind arith in
            let e : n * (x + 1) ≡ n * x + 4 * c = omega (arith, next, end) in
            last c end r down ∙ ap (λ k. motions k (n * row + 4 * r)) e
        | inr inside ↦
            let less : 4 * c < n = omega (arith, across, inside) in
            stay c r less ∙ own c less r down
      ]

  pub two_units : IsBeneath new motions
  two_units =
      beneath_by old new motions same
      (λ c across r down.
      column_is c (subst (λ k. 4 * c ≤ k) (sym side) across) r (subst (λ k. 4 * r < k) (sym side) down)
      ∙ (ap (λ k. motions (k + 4 * c) (n * row + 4 * r)) (sym left)
      ∙ ap (λ k. motions (first_column old.unit.layout old.unit.address + 4 * c) (k + 4 * r)) (sym top)))
