-- sao (7.3.8.3, 7.4.9.3, 9.3.3.2).
use Rattle.std.specs.Prelude.{ℕ, zero, suc, ◌-◌, ◌^◌, ◌==◌, min, ℤ, pos, negsuc, Bool, true, false, [], ◌∷◌, Option}
use Rattle.std.specs.Prelude.{Some, None, if◌then◌else◌}
use Rattle.ctu_records.specs.declared.offset.ComponentOffset.{ComponentOffset}
use Rattle.ctu_records.specs.declared.offset.ComponentOffset.TheVariants.{Off, Band, Edge}
use Rattle.ctu_records.specs.declared.offset.Sao.{Sao}
use Rattle.spec_residuals.specs.SpecCabac.{SAO_MERGE_FLAG, SAO_TYPE_IDX}
use Rattle.spec_residuals.specs.SpecCabac.{Tree, decision, bypass, fixed, truncated}
use Rattle.spec_residuals.specs.SpecFormats.{◌>>=◌, give, when◌then◌else◌}
use Rattle.spec_slice_data.specs.declared.syntax.CtuSyntax.{CtuSyntax}

-- cMax of sao_offset_abs, by the bit depth of the component
unfoldable pub greatest_offset : ℕ → ℕ
greatest_offset depth = 2 ^ (min depth 10 - 5) - 1

-- sao_offset_abs: TR by bypass bins
unfoldable pub sao_offset_abs : ℕ → Tree ℕ
sao_offset_abs depth = truncated (λ i. bypass) (greatest_offset depth)

-- a number as one that isn't above 0
abbrev pub negated : ℕ → ℤ
negated zero = pos 0
negated (suc n) = negsuc n

-- a number by its size and whether it is negative
unfoldable pub signed : ℕ → Bool → ℤ
signed size negative = if negative then negated size else pos size

-- an offset of band offset: its sign stands where it isn't 0
unfoldable pub band_offset : ℕ → Tree ℤ
band_offset size = do
  negative ← when size == 0 then give false else bypass
  give (signed size negative)

-- what belongs to band offset, behind the sizes of the offsets
unfoldable pub band : ℕ → ℕ → ℕ → ℕ → Tree ComponentOffset
band a b c d = do
  first ← band_offset a
  second ← band_offset b
  third ← band_offset c
  fourth ← band_offset d
  position ← fixed 5
  give (Band position (first ∷ second ∷ third ∷ fourth ∷ []))

-- edge offset raises at the first two kinds of edge and lowers at the others
abbrev pub edge : ℕ → ℕ → ℕ → ℕ → ℕ → ComponentOffset
edge class a b c d = Edge class (pos a ∷ pos b ∷ signed c true ∷ signed d true ∷ [])

-- sao_type_idx: the second of its bins is a bypass bin, which tells band from edge offset
unfoldable pub sao_type_idx : Tree ℕ
sao_type_idx = do
  applied ← decision SAO_TYPE_IDX
  when applied
      then (do
        is_edge ← bypass
        give (if is_edge then 2 else 1))
      else give 0

-- sao_eo_class, or that of Cb
abbrev pub class_where : Option ℕ → Tree ℕ
class_where None = fixed 2
class_where (Some class) = give class

-- edge offset: the class, and the signs that its offsets have
abbrev pub edge_offset : Option ℕ → ℕ → ℕ → ℕ → ℕ → Tree ComponentOffset
edge_offset shared a b c d = do
  class ← class_where shared
  give (edge class a b c d)

-- the offsets of a component of this bit depth and this type, which shares its class with Cb or has its own
unfoldable pub offsets : ℕ → ℕ → Option ℕ → Tree ComponentOffset
offsets depth kind shared = do
  a ← sao_offset_abs depth
  b ← sao_offset_abs depth
  c ← sao_offset_abs depth
  d ← sao_offset_abs depth
  when kind == 1 then band a b c d else edge_offset shared a b c d

-- the parameters of a component of this SaoTypeIdx
abbrev pub component : ℕ → ℕ → Option ℕ → Tree ComponentOffset
component depth kind shared = when kind == 0 then give Off else offsets depth kind shared

-- luma, or Cb
unfoldable pub own_component : ℕ → Tree ComponentOffset
own_component depth = do
  kind ← sao_type_idx
  component depth kind None

-- SaoTypeIdx
abbrev pub kind_of : ComponentOffset → ℕ
kind_of Off = 0
kind_of (Band position values) = 1
kind_of (Edge class values) = 2

-- SaoEoClass, 0 where it has none
abbrev pub class_of : ComponentOffset → ℕ
class_of Off = 0
class_of (Band position values) = 0
class_of (Edge class values) = class

-- Cr has the type and the class of Cb
unfoldable pub like_component : ℕ → ComponentOffset → Tree ComponentOffset
like_component depth cb = component depth (kind_of cb) (Some (class_of cb))

-- own parameters, where the slice has offsets
abbrev pub own_where : ℕ → Bool → Tree ComponentOffset
own_where depth applied = when applied then own_component depth else give Off

-- those of Cr, which has the kind and the class of Cb
abbrev pub like_where : ℕ → Bool → ComponentOffset → Tree ComponentOffset
like_where depth applied cb = when applied then like_component depth cb else give Off

-- parameters of the unit's own
unfoldable pub own_sao : CtuSyntax → Tree Sao
own_sao syntax = do
  luma ← own_where syntax.luma_depth syntax.sao_luma
  cb ← own_where syntax.chroma_depth syntax.sao_chroma
  cr ← like_where syntax.chroma_depth syntax.sao_chroma cb
  give (record { luma = luma; cb = cb; cr = cr })

-- sao_merge_left_flag or sao_merge_up_flag, where there is a unit in the slice to merge with
abbrev pub merge_flag : Bool → Tree Bool
merge_flag there = when there then decision SAO_MERGE_FLAG else give false

-- those of the unit above, or own ones
abbrev pub sao_or_above : CtuSyntax → Sao → Tree Sao
sao_or_above syntax above = do
  merged ← merge_flag syntax.has_above
  when merged then give above else own_sao syntax

-- no offset in any component
abbrev pub no_sao : Sao
no_sao = record { luma = Off; cb = Off; cr = Off }

-- those of the unit on the left, or what follows
abbrev pub merged_or_own : CtuSyntax → Sao → Sao → Tree Sao
merged_or_own syntax left above = do
  merged ← merge_flag syntax.has_left
  when merged then give left else sao_or_above syntax above

-- sao, by the parameters of the units on the left and above
unfoldable pub sao : CtuSyntax → Sao → Sao → Tree Sao
sao syntax left above =
    when syntax.sao_luma then merged_or_own syntax left above
    else (when syntax.sao_chroma then merged_or_own syntax left above else give no_sao)
