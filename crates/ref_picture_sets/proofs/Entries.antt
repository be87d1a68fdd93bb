-- Reading entries one after the other, as a loop does.
use Rattle.std.proofs.Common.{◌≡◌, ℕ, suc, ◌-◌, ◌+◌, ℤ, Bool, List, [], ◌∷◌, ◌++◌, length, get_or, drop, ap}
use Rattle.std.proofs.Common.{append-nil}
use Rattle.std.proofs.Common.{add-one, drop-cons, arith}
use Rattle.std.specs.Prelude.{Ok}
use Rattle.std.proofs.Math.ListN.{drop_of_length-le}
use Rattle.hv_base.specs.declared.field_rules.FieldRules.{FieldRules}
use Rattle.header_types.specs.declared.short_term_set.ShortTermRef.{ShortTermRef}
use Rattle.header_fields.specs.SpecFormats.{read}
use Rattle.header_fields.proofs.SpecFormatsLemmas.{behind}
use Rattle.header_fields.proofs.Loops.{IsLoop, behind_adds}
use Rattle.spec_reference_pictures.specs.ShortTermSets.{signed, step, outward, use_flags, moved_entry, moved, itself}

-- an entry of one side
abbrev entry_at : Bool → ℕ → ℕ × Bool → List ShortTermRef
entry_at negative distance further =
    record { delta_poc = signed negative (distance + further.0); used = further.1 } ∷ []

pub outward_is_loop : (rules : FieldRules) (negative : Bool) (count : ℕ)
    → IsLoop rules count (λ k s. step)
    (λ k (s : List ShortTermRef × ℕ) further. (s.0 ++ entry_at negative s.1 further, s.1 + further.0)) (λ s. s.0)
    (λ k s bs. behind s.0 (read rules (outward negative s.1 (count - k)) bs))
unfolding outward
outward_is_loop rules negative count = record {
  one = λ k s bs less.
      let left : count - k ≡ suc (count - (k + 1)) = omega arith in
      rw left (behind_adds s.0 (entry_at negative s.1) (read rules step bs)
      (λ further t. read rules (outward negative (s.1 + further.0) (count - (k + 1))) t));
  none = λ k s bs all.
      let left : count - k ≡ 0 = omega arith in
      rw left (ap (λ (rs : List ShortTermRef). Ok (rs, bs)) (append-nil s.0));
}

pub moved_is_loop : (rules : FieldRules) (delta : ℤ) (source : List ShortTermRef)
    → IsLoop rules (length source) (λ k done. use_flags)
    (λ k (done : List ShortTermRef) flags. done ++ moved_entry delta (get_or source k itself) flags) (λ done. done)
    (λ k done bs. behind done (read rules (moved delta (drop k source)) bs))
unfolding moved
moved_is_loop rules delta source = record {
  one = λ k done bs less.
      rw (add-one, drop-cons source k itself less) (behind_adds done (moved_entry delta (get_or source k itself))
      (read rules use_flags bs) (λ flags t. read rules (moved delta (drop (suc k) source)) t));
  none = λ k done bs all. rw (drop_of_length-le source all)
      (ap (λ (rs : List ShortTermRef). Ok (rs, bs)) (append-nil done));
}
