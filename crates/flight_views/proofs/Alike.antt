-- Pictures that have what is asked of each, one after the other.
use Rattle.std.proofs.Common.{
  ◌≡◌,
  ℕ,
  ◌+◌,
  ◌<◌,
  ◌≤◌,
  Bool,
  ◌&&◌,
  List,
  length,
  get_or,
  Some,
  slice_get,
  Decides,
  refl,
  ap,
  sym,
  subst,
  ◌∙◌,
  arith,
  inl,
  inr,
}
use Rattle.std.proofs.lemmas.Bool.Decides.{Decides-and, Decides-like}
use Rattle.std.proofs.lemmas.Option.{same_Some, slice_get_read, slice_get_within}
use Rattle.std.proofs.lemmas.Bool.{cases_lt}
use Rattle.plan_types.specs.declared.picture_plan.PicturePlan.{PicturePlan}

-- those before a place have it
abbrev pub Each : (PicturePlan → Type 0) → List PicturePlan → ℕ → Type 0
Each P plans n = (k : ℕ) (p : PicturePlan) → k < n → slice_get plans k ≡ Some p → P p

module _ (P : PicturePlan → Type 0) (plans : List PicturePlan) where
  -- one more has it
  pub one_more : (n : ℕ) (x : PicturePlan) → n < length plans → x ≡ get_or plans n x → P x → Each P plans n
      → Each P plans (n + 1)
  one_more n x inside is here before k p less has =
      elim (cases_lt k n) [
        | inl under ↦ before k p under has
        | inr past ↦
            let last : n ≡ k = omega (arith, past, less) in
            subst P
            (same_Some x p (sym (slice_get_read plans (length plans) n x refl inside is)
            ∙ (ap (slice_get plans) last ∙ has))) here
      ]

  -- none lacks it up to one more exactly where none lacks it up to here and that one has it
  pub judged_more : (n : ℕ) (x : PicturePlan) (t old now : Bool) → n < length plans → x ≡ get_or plans n x
      → Decides t (P x) → Decides old (Each P plans n) → now ≡ (t && old) → Decides now (Each P plans (n + 1))
  judged_more n x t old now inside is own before e =
      subst (λ (b : Bool). Decides b (Each P plans (n + 1))) (sym e)
      (Decides-like (t && old) (λ h. one_more n x inside is h.0 h.1)
      (λ h. (
        h n x (omega arith) (slice_get_read plans (length plans) n x refl inside is),
        λ k p less has. h k p (omega (arith, less)) has,
      ))
      (Decides-and t old own before))

  -- all have it
  pub all_there : (n : ℕ) → length plans ≤ n → Each P plans n → (k : ℕ) (p : PicturePlan)
      → slice_get plans k ≡ Some p → P p
  all_there n past each k p has =
      let inside = slice_get_within plans k p has in
      each k p (omega (arith, past, inside)) has

  pub all_judged : (n : ℕ) (t : Bool) → length plans ≤ n → Decides t (Each P plans n)
      → Decides t ((k : ℕ) (p : PicturePlan) → slice_get plans k ≡ Some p → P p)
  all_judged n t past judged =
      Decides-like t (λ each. all_there n past each) (λ all k p less has. all k p has) judged
