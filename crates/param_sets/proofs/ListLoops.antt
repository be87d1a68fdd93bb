-- Reading the factors of a list, the lists of a size, and short-term sets, as loops do; and the ranges of what is read.
use Rattle.std.proofs.Common.{◌≡◌, ℕ, suc, ◌-◌, ◌+◌, Bool, List, [], ◌∷◌, ◌++◌, length, All, Result, Ok, Err, refl}
use Rattle.std.proofs.Common.{arith}
use Rattle.std.specs.Prelude.{IfOk}
use Rattle.hv_base.specs.declared.field_rules.FieldRules.{FieldRules}
use Rattle.hv_base.specs.declared.refusal.Refusal.{Refusal}
use Rattle.header_types.specs.declared.scaling.ScalingList.{ScalingList}
use Rattle.header_types.specs.declared.scaling.ScalingLists.{ScalingLists}
use Rattle.header_types.specs.declared.short_term_set.StRps.{StRps}
use Rattle.header_types.specs.ReferencePictures.{IsStRps}
use Rattle.header_types.specs.Scaling.{IsScalingLists}
use Rattle.header_types.proofs.ReferencePictures.{IsStRps-weaker, All-IsStRps-weaker}
use Rattle.spec_formats.specs.Fields.{read, Reads}
use Rattle.spec_formats.proofs.Lists.{behind, All-push}
use Rattle.header_fields.proofs.Loops.{IsLoop, behind_adds, nothing_behind}
use Rattle.ref_picture_sets.specs.SpecReferencePictures.{st_ref_pic_set}
use Rattle.spec_parameter_sets.specs.Scaling.{coded_factor, coded_factors, scaling_list, lists_behind}
use Rattle.spec_parameter_sets.specs.Scaling.{scaling_list_data}
use Rattle.spec_parameter_sets.specs.SequenceParameterSet.{sets_behind}
use Rattle.spec_parameter_sets.proofs.Ranges.{data_in_range}

pub factors_are_loop : (rules : FieldRules) (count : ℕ)
    → IsLoop rules count (λ k s. coded_factor s.1) (λ k (s : List ℕ × ℕ) factor. (s.0 ++ factor ∷ [], factor))
    (λ s. s.0) (λ k s bs. behind s.0 (read rules (coded_factors (count - k) s.1) bs))
unfolding coded_factors
factors_are_loop rules count = record {
  one = λ k s bs less.
      let left : count - k ≡ suc (count - (k + 1)) = omega arith in
      rw left (behind_adds s.0 (λ factor. factor ∷ []) (read rules (coded_factor s.1) bs)
      (λ factor t. read rules (coded_factors (count - (k + 1)) factor) t));
  none = λ k s bs all.
      let left : count - k ≡ 0 = omega arith in
      rw left (nothing_behind s.0 bs);
}

pub lists_are_loop : (rules : FieldRules) (size count : ℕ)
    → IsLoop rules count (λ k former. scaling_list size former)
    (λ k (former : List ScalingList) list. former ++ list ∷ []) (λ former. former)
    (λ k former bs. read rules (lists_behind size (count - k) former) bs)
unfolding lists_behind
lists_are_loop rules size count = record {
  one = λ k former bs less. let left : count - k ≡ suc (count - (k + 1)) = omega arith in rw left refl;
  none = λ k former bs all. let left : count - k ≡ 0 = omega arith in rw left refl;
}

pub sets_are_loop : (rules : FieldRules) (count greatest : ℕ)
    → IsLoop rules count (λ k former. st_ref_pic_set (length former) count former greatest)
    (λ k (former : List StRps) set. former ++ set ∷ []) (λ former. former)
    (λ k former bs. read rules (sets_behind (count - k) count greatest former) bs)
unfolding sets_behind
sets_are_loop rules count greatest = record {
  one = λ k former bs less. let left : count - k ≡ suc (count - (k + 1)) = omega arith in rw left refl;
  none = λ k former bs all. let left : count - k ≡ 0 = omega arith in rw left refl;
}

pub read_in_range : (rules : FieldRules) (bits left : List Bool) (r : Result ScalingLists Refusal)
    → Reads (λ (s : ScalingLists). s) r left (read rules scaling_list_data bits) → IfOk r (λ s. IsScalingLists s)
read_in_range rules bits left (Ok s) h = data_in_range rules bits left s h
read_in_range rules bits left (Err e) h = tt

-- one more set is a step farther away than those before it
pub near-push : (k : ℕ) (sets : List StRps) (set : StRps) → All (IsStRps (14 + k)) sets → IsStRps (14 + k + 1) set
    → All (IsStRps (14 + (k + 1))) (sets ++ set ∷ [])
near-push k sets set all one =
    let near = All-IsStRps-weaker (14 + k) (14 + (k + 1)) (omega arith) sets all in
    All-push (IsStRps (14 + (k + 1))) sets set near (IsStRps-weaker (14 + k + 1) (14 + (k + 1)) (omega arith) set one)
