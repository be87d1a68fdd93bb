-- Rows of coding tree blocks that have their offsets.
use Rattle.std.proofs.Common.{◌≡◌, ℕ, ◌+◌, ◌-◌, ◌*◌, ◌/◌, ◌<◌, ◌≤◌, Bool, true, false, cond, List}
use Rattle.std.proofs.Common.{get_or, length, inl, inr, refl, ap, sym, ◌∙◌, arith, if◌then◌else◌}
use Rattle.std.proofs.Math.Nat.{mul-div-le}
use Rattle.std.proofs.lemmas.Bool.{cases_lt}
use Rattle.ctu_records.specs.declared.offset.ComponentOffset.{ComponentOffset}
use Rattle.ctu_records.specs.declared.offset.ComponentOffset.TheVariants.{Off}
use Rattle.spec_sample_adaptive_offset.specs.declared.unit.OffsetUnit.{OffsetUnit}
use Rattle.spec_sample_adaptive_offset.specs.Plane.{OffsetPlane, offset_sample, sample_by, unit_at}
use Rattle.sao_filter.specs.Row.{unit_in}
use Rattle.sao_filter.proofs.Beside.{block_is}
use Rattle.deblock.specs.Windows.{at}
use Rattle.loop_filters.specs.declared.component.Component.{Component}
use Rattle.loop_filters.specs.Rows.{StandsAround}
use Rattle.loop_filters.proofs.RowParts.{block_is_one}

if_same : (b : Bool) (v w : ℕ) → w ≡ v → (if b then v else w) ≡ v
if_same true v w e = refl
if_same false v w e = e

pub stays_or : (b : Bool) (v old : ℕ) → (b ≡ true → old ≡ v) → old ≡ cond b v old
stays_or true v old e = e refl
stays_or false v old e = refl

-- a sample without offset stays
off_stays : (plane : OffsetPlane) (f : ℕ → ℕ → ℕ) (x y : ℕ) → (unit_at plane x y).offset ≡ Off
    → offset_sample plane f x y ≡ f x y
unfolding offset_sample sample_by
off_stays plane f x y e =
    if_same (plane.kept x y) (f x y) _ (ap (λ (o : ComponentOffset). sample_by plane f o x y) e)

-- and so does a row of them
pub row_off : (plane : OffsetPlane) (s row n w : ℕ) (units : List OffsetUnit) (f : ℕ → ℕ → ℕ) (x y : ℕ)
    → plane.ctb_size ≡ s → w ≤ s * n → length units ≡ n
    → ((u : ℕ) → u < n → unit_in units u ≡ plane.unit u row)
    → ((k : ℕ) → k < length units → (unit_in units k).offset ≡ Off)
    → x < w → s * row ≤ y → y < s * row + s → offset_sample plane f x y ≡ f x y
row_off plane s row n w units f x y size covers count told off column low high =
    let begins = mul-div-le x s in
    let inside : x / s < n = block_is_one s (x / s) n w covers (omega (arith, begins, column)) in
    let down : y / s ≡ row = block_is s row y low high in
    let unit : unit_at plane x y ≡ unit_in units (x / s) =
    ap (λ (d : ℕ). plane.unit (x / d) (y / d)) size ∙ ap (λ (v : ℕ). plane.unit (x / s) v) down
    ∙ sym (told (x / s) inside) in
    off_stays plane f x y
    (ap (λ (u : OffsetUnit). u.offset) unit ∙ off (x / s) (omega (arith, count, inside)))

-- the lines that are gathered around a row
pub around_row : (component : Component) (row : ℕ) (f : ℕ → ℕ → ℕ) (samples last lines : List ℕ)
    → StandsAround component row f samples last
    → ((x y : ℕ) → x < component.width → y < component.height → component.size * row ≤ y
    → y ≤ component.size * row + component.size
    → at component.width lines x (y - (component.size * row - 1)) ≡ at component.width samples x y)
    → (0 < component.size * row → (x : ℕ) → x < component.width → at component.width lines x 0 ≡ get_or last x 0)
    → (x y : ℕ) → x < component.width → y < component.height → component.size * row ≤ y + 1
    → y ≤ component.size * row + component.size
    → f x y ≡ at component.width lines x (y - (component.size * row - 1))
around_row component row f samples last lines stands own above x y column line low high =
    elim (cases_lt y (component.size * row)) [
      | inl lt ↦
          let some : 0 < component.size * row = omega (arith, lt) in
          let is : y ≡ component.size * row - 1 = omega (arith, lt, low) in
          let first : y - (component.size * row - 1) ≡ 0 = omega (arith, is) in
          ap (λ (k : ℕ). f x k) is ∙ sym (stands.above some x column) ∙ sym (above some x column)
          ∙ ap (λ (k : ℕ). at component.width lines x k) (sym first)
      | inr le ↦ sym (own x y column line le high ∙ stands.own x y column line le high)
    ]
