-- The places at the border of a coding tree unit are of units that reading it uses.
use Rattle.std.proofs.Common.{◌≡◌, ℕ, zero, suc, ◌+◌, ◌-◌, ◌*◌, ◌/◌, ◌<◌, ◌≤◌, ◌==◌, ◌&&◌, ◌||◌, nat_le}
use Rattle.std.proofs.Common.{nat_lt}
use Rattle.std.proofs.Common.{Bool, true, false, refl, ap, ◌∙◌, arith, inl, inr}
use Rattle.std.proofs.Math.Nat.{div-mul-le_self, mul-le-mul_right}
use Rattle.std.proofs.lemmas.Bool.{cases_lt}
use Rattle.std.proofs.lemmas.Bool.Decides.{nat_tests}
use Rattle.std.proofs.lemmas.Nat.{div-mul-add, le-div}
use Rattle.hv_base.specs.declared.line.Phase.TheVariants.{B}
use Rattle.flight_plan.specs.Flight.{FlightRows, picture_at}
use Rattle.board_core.specs.Places.{line_of}
use Rattle.board_core.specs.Uses.{Above, Former, ReadingUses}
use Rattle.known_picture_laws.specs.LocalityLaws.{is_at_border}
use Rattle.known_picture_laws.specs.FilterData.{is_directly_beside}

pub block_is : (n q y : ℕ) → n * q ≤ y → y < n * q + n → y / n ≡ q
block_is n q y le lt =
    let e : y ≡ q * n + (y - n * q) = grind arith in
    ap (λ k. k / n) e ∙ div-mul-add q n (y - n * q) (omega (arith, le, lt))

-- the block before
last_before : (n q y : ℕ) → 1 ≤ n → y + 1 ≡ n * q → (1 ≤ q) × (y / n + 1 ≡ q)
last_before n zero y some e = absurd (let none : n * 0 ≡ 0 = grind arith in omega (arith, e, none))
last_before n (suc q) y some e =
    let next : n * suc q ≡ n * q + n = grind arith in
    let at : y / n ≡ q = block_is n q y (omega (arith, e, next, some)) (omega (arith, e, next)) in
    (omega arith, omega (arith, at))

pub not_far : (n q y : ℕ) → 1 ≤ n → y < n * q → y / n < q
not_far n q y some less =
    elim (cases_lt (y / n) q) [
      | inl h ↦ h
      | inr h ↦
          let low = div-mul-le_self y n in
          let most : q * n ≤ y / n * n = mul-le-mul_right n h in
          let turned : q * n ≡ n * q = grind arith in
          absurd (omega (arith, low, most, turned, less))
    ]

not_near : (n q y : ℕ) → 1 ≤ n → n * q ≤ y + 1 → q ≤ y / n + 1
not_near n zero y some le = omega arith
not_near n (suc q) y some le =
    let next : n * suc q ≡ n * q + n = grind arith in
    let turned : q * n ≡ n * q = grind arith in
    let low = le-div q y n some (omega (arith, next, turned, le, some)) in
    omega (arith, low)

module _ (plan : FlightRows) (k row x n y z : ℕ) (some : 1 ≤ n) (inside : y / n < (picture_at plan k).width) where
  abbrev Used : Type 0
  Used = ReadingUses plan (line_of B k row) x (line_of B k (z / n)) (y / n)

  in_line : z + 1 ≡ n * row → n * x ≤ y + 1 → y < n * x + 2 * n → Used
  in_line e low high =
      let above = last_before n row z some e in
      let at : z / n ≡ row - 1 = omega (arith, above.1) in
      let end : n * (x + 2) ≡ n * x + 2 * n = grind arith in
      let near = not_near n x y some low in
      let far = not_far n (x + 2) y some (omega (arith, end, high)) in
      Above (ap (λ r. line_of B k r) at) (omega (arith, above.0)) near (omega (arith, far)) inside

  in_column : y + 1 ≡ n * x → n * row ≤ z → z < n * row + n → Used
  in_column e low high =
      let left = last_before n x y some e in
      let at : z / n ≡ row = block_is n row z low high in
      Former (ap (λ r. line_of B k r) at) (omega (arith, left.1))

  at_line : (z + 1 == n * row && (nat_le (n * x) (y + 1) && nat_lt y (n * x + 2 * n))) ≡ true → Used
  at_line t = in_line (grind (arith, nat_tests)) (grind (arith, nat_tests)) (grind (arith, nat_tests))

  at_column : (y + 1 == n * x && (nat_le (n * row) z && nat_lt z (n * row + n))) ≡ true → Used
  at_column t = in_column (grind (arith, nat_tests)) (grind (arith, nat_tests)) (grind (arith, nat_tests))

  at_either : (b c : Bool) → (b || c) ≡ true → (b ≡ true → Used) → (c ≡ true → Used) → Used
  at_either true c t line column = line refl
  at_either false c t line column = column t

  pub border_used : is_at_border n (n * x) (n * row) y z ≡ true → Used
  border_used t = at_either _ _ t at_line at_column

  on_line : (z + 1 == n * row && (nat_le (n * x) y && nat_lt y (n * x + n))) ≡ true → Used
  on_line t =
      in_line (grind (arith, nat_tests))
      (let low : n * x ≤ y = grind (arith, nat_tests) in omega (arith, low))
      (let high : y < n * x + n = grind (arith, nat_tests) in omega (arith, high))

  pub beside_used : is_directly_beside n (n * x) (n * row) y z ≡ true → Used
  beside_used t = at_either _ _ t at_column on_line
