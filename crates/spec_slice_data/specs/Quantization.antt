-- Quantization groups, cu_qp_delta and the parameters that they make (7.3.8.4, 7.3.8.10, 7.4.9.10, 8.6.1).
use Rattle.std.specs.Prelude.{ℕ, ◌+◌, ◌-◌, ◌/◌, ◌%◌, ◌==◌, nat_le, nat_lt, Bool, true, false, if◌then◌else◌}
use Rattle.hv_base.specs.declared.breach.Breach.{Breach}
use Rattle.hv_base.specs.declared.breach.Breach.TheVariants as breach
use Rattle.hv_base.specs.declared.fault.FaultKind.TheVariants as rule
use Rattle.ctu_records.specs.declared.item.Item.TheVariants.{Delta}
use Rattle.ctu_records.specs.declared.item.Square.{Square}
use Rattle.ctu_records.specs.declared.records.Quantization.{Quantization}
use Rattle.ctu_records.specs.Tree.{Ctu, added, with_quantization, qp_left, qp_above}
use Rattle.spec_residuals.specs.SpecCabac.{CU_QP_DELTA_ABS}
use Rattle.spec_residuals.specs.SpecCabac.{Tree, decision, bypass, truncated, exp_golomb}
use Rattle.spec_residuals.specs.SpecFormats.{◌>>=◌, give, wanted, when◌then◌else◌}
use Rattle.spec_slice_data.specs.Offset.{signed}
use Rattle.spec_slice_data.specs.declared.syntax.CtuSyntax.{CtuSyntax}

-- a group begins at a place: qPY_PRED is the mean of qPY_A and qPY_B, each of which is qPY_PREV (`last`) where the
-- place beside the group isn't in the unit (8.6.1)
unfoldable pub group_at : Ctu → ℕ → ℕ → Quantization
group_at ctu x y =
    let predicted = (qp_left ctu x y + qp_above ctu x y + 1) / 2 in
    record { last = ctu.quantization.last; predicted = predicted; qp = predicted; coded = false }

-- a block of the coding quadtree that is no smaller than a group begins one
unfoldable pub grouped : CtuSyntax → Square → Ctu → Ctu
grouped syntax square ctu =
    if nat_le syntax.log2_group square.log2_size then with_quantization ctu (group_at ctu square.x square.y) else ctu

-- a coding unit begins: its Qp'Y is the group's
abbrev pub unit_begun : Quantization → Quantization
unit_begun q = record { last = q.qp; predicted = q.predicted; qp = q.qp; coded = q.coded }

-- a delta out of its range (7.4.9.10)
abbrev pub out_of_range : Breach
out_of_range = breach.Fault rule.QpRange

-- the first bin of the prefix has a context of its own
abbrev pub delta_bin : ℕ → Tree Bool
delta_bin i = decision (CU_QP_DELTA_ABS + (if i == 0 then 0 else 1))

-- cu_qp_delta_abs: TR with cMax 5, and from 5 on EG0 (9.3.3.8)
unfoldable pub cu_qp_delta_abs : Tree ℕ
cu_qp_delta_abs = do
  prefix ← truncated delta_bin 5
  when prefix == 5
      then (do
        suffix ← exp_golomb out_of_range 0
        give (5 + suffix))
      else give prefix

-- whether CuQpDeltaVal is from -(26 + QpBdOffsetY / 2) to 25 + QpBdOffsetY / 2
unfoldable pub is_delta : ℕ → ℕ → Bool → Bool
is_delta offset size negative = if negative then nat_le size (26 + offset / 2) else nat_lt size (26 + offset / 2)

-- cu_qp_delta_abs and cu_qp_delta_sign_flag: a size, and whether it is negative
unfoldable pub cu_qp_delta : ℕ → Tree (ℕ × Bool)
cu_qp_delta offset = do
  size ← cu_qp_delta_abs
  negative ← when size == 0 then give false else bypass
  held ← wanted (is_delta offset size negative) out_of_range
  give (size, negative)

-- Qp'Y by the group's prediction and CuQpDeltaVal (8.6.1)
unfoldable pub qp_of : ℕ → ℕ → ℕ → Bool → ℕ
qp_of offset predicted size negative =
    if negative then (predicted + (52 + offset) - size) % (52 + offset) else (predicted + size) % (52 + offset)

-- a group behind its delta
abbrev pub delta_coded : Quantization → ℕ → Quantization
delta_coded q qp = record { last = qp; predicted = q.predicted; qp = qp; coded = true }

-- a delta is added to what was read
abbrev pub with_delta : Ctu → Square → ℕ → Bool → ℕ → Ctu
with_delta ctu square size negative qp =
    added (with_quantization ctu (delta_coded ctu.quantization qp))
    (Delta (record { square = square; delta = signed size negative; qp = qp }))

-- cu_qp_delta of a coding unit, where it stands
unfoldable pub delta_where : CtuSyntax → Square → Bool → Ctu → Tree Ctu
delta_where syntax square there ctu =
    when there
    then (do
      delta ← cu_qp_delta syntax.qp_offset
      give (with_delta ctu square delta.0 delta.1 (qp_of syntax.qp_offset ctu.quantization.predicted delta.0 delta.1)))
    else give ctu

-- QpC by qPi, where ChromaArrayType is 1 (8.6.1)
unfoldable pub chroma_qp_of_index : ℕ → ℕ
chroma_qp_of_index index =
    if nat_lt index 30 then index
    else (if nat_lt index 35 then index - 1
    else (if nat_lt index 37 then index - 2
    else (if nat_lt index 39 then index - 3
    else (if nat_lt index 41 then index - 4
    else (if nat_lt index 43 then index - 5
    else index - 6)))))
