-- Quantization parameters are at most 51 + QpBdOffsetY.
use Rattle.std.proofs.Common.{ℕ, ◌+◌, ◌-◌, ◌/◌, ◌≤◌, Bool, true, false, cond, arith}
use Rattle.std.specs.Prelude.{◌==◌, nat_le}
use Rattle.std.proofs.Math.Nat.{mod-lt}
use Rattle.ctu_records.specs.declared.item.Item.TheVariants.{Unit, Delta}
use Rattle.ctu_records.specs.declared.item.Square.{Square}
use Rattle.ctu_records.specs.Tree.{Ctu, with_quantization, qp_left, qp_above, qp_at}
use Rattle.spec_picture_build.specs.SpecReconstruction.{UnitFormat}
use Rattle.spec_slice_data.specs.declared.syntax.CtuSyntax.{CtuSyntax}
use Rattle.spec_slice_data.specs.declared.syntax.UnitStart.{UnitStart}
use Rattle.spec_slice_data.specs.Offset.{signed}
use Rattle.spec_slice_data.specs.Quantization.{group_at, grouped, unit_begun, qp_of, delta_coded, with_delta}
use Rattle.spec_slice_data.specs.Quantization.{delta_where}
use Rattle.spec_slice_data.specs.Tree.{begun_unit, unit_at}
use Rattle.unit_laws.proofs.Formats.{Gives, give_gives, after_any, when_gives}
use Rattle.unit_laws.proofs.Items.{IsQuantized, IsKept, added_kept, quantized_kept, cond_below}

qp_of-small : (offset predicted size : ℕ) (negative : Bool) → qp_of offset predicted size negative ≤ 51 + offset
unfolding qp_of
qp_of-small offset predicted size negative =
    let less = mod-lt (predicted + (52 + offset) - size) {m = 52 + offset} (omega arith) in
    let more = mod-lt (predicted + size) {m = 52 + offset} (omega arith) in
    cond_below negative (51 + offset) _ _ (omega (arith, less)) (omega (arith, more))

cond_kept : (format : UnitFormat) (greatest : ℕ) (b : Bool) (c d : Ctu) → IsKept format greatest c
    → IsKept format greatest d → IsKept format greatest (cond b c d)
cond_kept format greatest true c d first second = first
cond_kept format greatest false c d first second = second

mean-small : (a b greatest : ℕ) → a ≤ greatest → b ≤ greatest → (a + b + 1) / 2 ≤ greatest
mean-small a b greatest first second = omega (arith, first, second)

module _ (format : UnitFormat) (greatest : ℕ) where
  qp_left-small : (ctu : Ctu) (x y : ℕ) → IsKept format greatest ctu → qp_left ctu x y ≤ greatest
  unfolding qp_left
  qp_left-small ctu x y kept =
      cond_below (x == 0) greatest ctu.quantization.last (qp_at ctu.items (x - 1) y) kept.quantized.last
      (kept.parameters (x - 1) y)

  qp_above-small : (ctu : Ctu) (x y : ℕ) → IsKept format greatest ctu → qp_above ctu x y ≤ greatest
  unfolding qp_above
  qp_above-small ctu x y kept =
      cond_below (y == 0) greatest ctu.quantization.last (qp_at ctu.items x (y - 1)) kept.quantized.last
      (kept.parameters x (y - 1))

  group-small : (ctu : Ctu) (x y : ℕ) → IsKept format greatest ctu → IsQuantized greatest (group_at ctu x y)
  unfolding group_at
  group-small ctu x y kept =
      let mean =
      mean-small (qp_left ctu x y) (qp_above ctu x y) greatest (qp_left-small ctu x y kept)
      (qp_above-small ctu x y kept) in
      record { last = kept.quantized.last; predicted = mean; qp = mean }

  -- a block that begins a group
  pub grouped_kept : (syntax : CtuSyntax) (square : Square) (ctu : Ctu) → IsKept format greatest ctu
      → IsKept format greatest (grouped syntax square ctu)
  unfolding grouped
  grouped_kept syntax square ctu kept =
      cond_kept format greatest (nat_le syntax.log2_group square.log2_size) _ ctu
      (quantized_kept format greatest ctu (group_at ctu square.x square.y) kept
      (group-small ctu square.x square.y kept))
      kept

  -- a coding unit begins
  pub begun_kept : (start : UnitStart) (ctu : Ctu) → IsKept format greatest ctu
      → IsKept format greatest (begun_unit start ctu)
  unfolding begun_unit
  begun_kept start ctu kept =
      let q = kept.quantized in
      added_kept format greatest (with_quantization ctu (unit_begun ctu.quantization)) (Unit (unit_at start ctu))
      (quantized_kept format greatest ctu (unit_begun ctu.quantization) kept
      (record { last = q.qp; predicted = q.predicted; qp = q.qp }))
      tt tt q.qp tt

  delta_kept : (square : Square) (size : ℕ) (negative : Bool) (qp : ℕ) (ctu : Ctu) → qp ≤ greatest
      → IsKept format greatest ctu → IsKept format greatest (with_delta ctu square size negative qp)
  delta_kept square size negative qp ctu small kept =
      added_kept format greatest (with_quantization ctu (delta_coded ctu.quantization qp))
      (Delta (record { square = square; delta = signed size negative; qp = qp }))
      (quantized_kept format greatest ctu (delta_coded ctu.quantization qp) kept
      (record { last = small; predicted = kept.quantized.predicted; qp = small }))
      tt tt small tt

-- cu_qp_delta of a coding unit
pub delta_where_kept : (format : UnitFormat) (syntax : CtuSyntax) (square : Square) (there : Bool) (ctu : Ctu)
    → IsKept format (51 + syntax.qp_offset) ctu
    → Gives (IsKept format (51 + syntax.qp_offset)) (delta_where syntax square there ctu)
unfolding delta_where
delta_where_kept format syntax square there ctu kept =
    when_gives there
    (λ held. after_any (λ delta. give_gives _
    (delta_kept format (51 + syntax.qp_offset) square delta.0 delta.1
    (qp_of syntax.qp_offset ctu.quantization.predicted delta.0 delta.1) ctu
    (qp_of-small syntax.qp_offset ctu.quantization.predicted delta.0 delta.1) kept)))
    (λ held. give_gives ctu kept)
