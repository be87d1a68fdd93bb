-- The ranges of the fields of P and B slices that are read.
use Rattle.std.proofs.Common.{◌≡◌, ℕ, ◌+◌, ◌-◌, ◌<◌, ◌≤◌}
use Rattle.std.specs.Prelude.{Bool}
use Rattle.std.proofs.Common.{true, false, List, length, Option, Some, None}
use Rattle.std.proofs.Common.{is_some, IfSome, if◌then◌else◌, refl, sym, ap, arith}
use Rattle.std.specs.Prelude.{nat_lt}
use Rattle.header_types.specs.declared.pps.PpsFields.{PpsFields}
use Rattle.slice_types.specs.declared.slice.Collocated.{Collocated}
use Rattle.slice_types.specs.declared.slice.InterFields.{InterFields}
use Rattle.slice_types.specs.declared.slice.SliceType.{SliceType}
use Rattle.slice_types.specs.declared.slice.SliceType.TheVariants as slice
use Rattle.header_types.specs.PictureParameterSet.{IsPps}
use Rattle.slice_types.specs.SliceHeaders.{HasFieldsOf, IsCollocated, IsInterFields}
use Rattle.slice_types.specs.SliceHeaders.{IsPredWeightTable}
use Rattle.slice_types.specs.SliceHeaders.{active_1}
use Rattle.spec_formats.specs.Format.{when◌then◌else◌}
use Rattle.spec_formats.specs.Fields.{Header, optional}
use Rattle.spec_formats.proofs.Values.{CanBe}
use Rattle.spec_slice_headers.specs.Context.{flag_or}
use Rattle.spec_slice_headers.specs.Context.{ue_or}
use Rattle.spec_slice_headers.specs.InterFields.{collocated, collocated_minus1, entries_1, index_to, inter_fields}
use Rattle.spec_slice_headers.specs.InterFields.{is_b}
use Rattle.spec_slice_headers.specs.InterFields.{list_entry, modification}
use Rattle.spec_slice_headers.specs.SliceFields.{inter_of}
use Rattle.spec_slice_headers.specs.Weights.{pred_weight_table}
use Rattle.header_laws.proofs.Values.{optional_is, repeated_is, ue_or_is}
use Rattle.header_laws.proofs.Weights.{table_is}

entries_are : (present : Bool) (total active : ℕ) (o : Option (List ℕ)) → CanBe (modification present total active) o
    → IfSome o (λ (entries : List ℕ). length entries ≡ active)
unfolding modification
entries_are present total active o (flag, flag-is, is) =
    optional_is (λ (entries : List ℕ). length entries ≡ active) flag _ o
    (λ entries are. (repeated_is (λ n. Unit {0}) active (list_entry total) entries (λ n h. tt) are).0) is

index_is : (b from : Bool) (l0 : ℕ) (l1 : Option ℕ) (f : Header ℕ) (index : ℕ) → CanBe (optional b f) l1
    → CanBe (flag_or b true) from
    → CanBe (index_to (collocated_minus1 from l0 l1)) index → index < (if from then l0 + 1 else active_1 l1)
index_is b true l0 l1 f index l1-is from-is is =
    let le = ue_or_is (nat_lt 0 l0) l0 0 index (omega arith) is in omega arith
index_is true false l0 l1 f index (minus1, minus1-is, e) from-is is =
    rw (← e) (let le : index ≤ entries_1 l1 - 1 =
    ue_or_is (nat_lt 0 (entries_1 l1 - 1)) (entries_1 l1 - 1) 0 index (omega arith) is in
    let same : entries_1 l1 ≡ minus1 + 1 = ap entries_1 (sym e) in omega arith)
index_is false false l0 l1 f index l1-is from-is is = absurd cc

collocated_is : (type : SliceType) (l0 : ℕ) (l1 : Option ℕ) (f : Header ℕ) (c : Collocated)
    → CanBe (optional (is_b type) f) l1 → CanBe (collocated type l0 l1) c
    → IsCollocated (l0 + 1) (active_1 l1) c
unfolding collocated
collocated_is type l0 l1 f c l1-is (from, from-is, (index, index-ok, e)) =
    rw (← e) (record { index = index_is (is_b type) from l0 l1 f index l1-is from-is index-ok })

entries_same : (l1 : Option ℕ) → entries_1 l1 ≡ active_1 l1
entries_same None = refl
entries_same (Some n) = refl

-- which slices have fields of P and B slices, and which of those a list 1
abbrev HasList : SliceType → Option ℕ → Type 0
HasList slice.B l1 = is_some l1 ≡ true
HasList slice.P l1 = l1 ≡ None
HasList slice.I l1 = Unit {0}

list_is_there : (type : SliceType) (f : Header ℕ) (l1 : Option ℕ) → CanBe (optional (is_b type) f) l1 → HasList type l1
list_is_there slice.B f l1 (n, n-is, e) = rw (← e) refl
list_is_there slice.P f l1 e = sym e
list_is_there slice.I f l1 e = tt

-- what is read of a P or B slice
pub record IsInter (type : SliceType) (f : InterFields) : Type 0 where
  pub fields : IsInterFields f
  pub list : HasList type f.num_ref_idx_l1_active_minus1

inter_is : (type : SliceType) (pps : PpsFields) (total : ℕ) (temporal : Bool) (f : InterFields) → IsPps pps
    → CanBe (inter_fields type pps total temporal) f → IsInter type f
unfolding inter_fields
inter_is type pps total temporal f is-pps (
  override,
  override-is,
  (
    l0,
    l0-is,
    (
      l1,
      l1-is,
      (
        entries_0,
        entries_0-is,
        (
          entries_l1,
          entries_1-is,
          (mvd, mvd-is, (init, init-is, (c, c-is, (weights, weights-is, (merge, merge-is, e))))),
        ),
      ),
    ),
  ),
) =
    let defaults = pps.slice_defaults in
    let ranged = is-pps.slice_defaults in
    let few : Header ℕ = ue_or override 14 defaults.num_ref_idx_l1_default_active_minus1 in
    let same = entries_same l1 in
    rw (← e) (record {
      fields = record {
        few_0 = ue_or_is override 14 defaults.num_ref_idx_l0_default_active_minus1 l0 ranged.active_l0 l0-is;
        few_1 =
            optional_is (λ n. n ≤ 14) (is_b type) few l1
            (λ n is. ue_or_is override 14 defaults.num_ref_idx_l1_default_active_minus1 n ranged.active_l1 is) l1-is;
        list_entry_l0 = entries_are _ total (l0 + 1) entries_0 entries_0-is;
        list_entry_l1 = rw (← same) (entries_are _ total (entries_1 l1) entries_l1 entries_1-is);
        collocated =
            optional_is (IsCollocated (l0 + 1) (active_1 l1)) temporal (collocated type l0 l1) c
            (λ x is. collocated_is type l0 l1 few x l1-is is) c-is;
        weights =
            rw (← same) (optional_is (IsPredWeightTable (l0 + 1) (entries_1 l1)) _
            (pred_weight_table (l0 + 1) (entries_1 l1)) weights
            (λ x is. table_is (l0 + 1) (entries_1 l1) x is) weights-is);
        merge = merge-is;
      };
      list = list_is_there type few l1 l1-is;
    })

-- the fields of P and B slices that a slice has
pub record HasInter (type : SliceType) (inter : Option InterFields) : Type 0 where
  pub fields : IfSome inter IsInterFields
  pub suits : HasFieldsOf type inter

pub has_inter : (type : SliceType) (pps : PpsFields) (total : ℕ) (temporal : Bool) (inter : Option InterFields)
    → IsPps pps
    → CanBe (inter_of type pps total temporal) inter
    → HasInter type inter
has_inter slice.B pps total temporal inter is-pps (f, f-is, e) =
    let is = inter_is slice.B pps total temporal f is-pps f-is in
    rw (← e) (record { fields = is.fields; suits = is.list })
has_inter slice.P pps total temporal inter is-pps (f, f-is, e) =
    let is = inter_is slice.P pps total temporal f is-pps f-is in
    rw (← e) (record { fields = is.fields; suits = is.list })
has_inter slice.I pps total temporal inter is-pps e = record { fields = rw (← e) tt; suits = sym e }
