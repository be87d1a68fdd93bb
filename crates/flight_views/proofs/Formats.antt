-- The formats of pictures, one picture after the other.
use Rattle.std.proofs.Common.{◌≡◌, refl, ℕ, ◌+◌, ◌<◌, ◌≤◌, List, [], ◌∷◌, ◌++◌, length, get_or, Some, slice_get}
use Rattle.std.proofs.Common.{ap, sym, subst, ◌∙◌, arith, inl, inr}
use Rattle.std.proofs.lemmas.Bool.{cases_lt}
use Rattle.std.proofs.lemmas.List.{length-append}
use Rattle.std.proofs.lemmas.Option.{same_Some, slice_get_read, slice_get_within}
use Rattle.plan_types.specs.declared.picture_plan.PicturePlan.{PicturePlan}
use Rattle.header_types.specs.SequenceParameterSets.{IsSps}
use Rattle.spec_loop_filters.specs.declared.format.FilterFormat.{FilterFormat}
use Rattle.flight_names.specs.SpecPictureFilters.{filter_format}
use Rattle.loop_filters.specs.Formats.{IsFormat}
use Rattle.row_waits.proofs.PictureFiltersLemmas.{is_planned}
use Rattle.board_core.proofs.NeedList.{left_item, right_item}
use Rattle.flight_views.specs.declared.picture_formats.PictureFormats.{PictureFormats}
use Rattle.flight_views.specs.Views.{AreFormats, EachHas, IsFormatOf}

-- what the loop filters of a picture depend on is in range
pub filters_in_range : (p : PicturePlan) (f : FilterFormat) → f ≡ filter_format p → IsSps p.sps → IsFormat f
filters_in_range p f is sps = (is_planned p f is sps).is_format

module _ (plans : List PicturePlan) (n : ℕ) (p : PicturePlan) (old new : List PictureFormats) (f : PictureFormats)
    (inside : n < length plans) (is : p ≡ get_or plans n p) (count : length old ≡ n) (here : IsFormatOf p f)
    (now : new ≡ old ++ f ∷ []) where
  there : slice_get plans n ≡ Some p
  there = slice_get_read plans (length plans) n p refl inside is

  last : slice_get new n ≡ Some f
  last =
      let place : n ≡ length old + 0 = omega (arith, count) in
      ap (λ (fs : List PictureFormats). slice_get fs n) now ∙ right_item old (f ∷ []) n 0 place

  pub one_longer : length new ≡ n + 1
  one_longer =
      ap length now ∙ (length-append old (f ∷ []) ∙ ap (λ (k : ℕ). k + 1) count)

  pub formats_more : EachHas plans old → EachHas plans new
  formats_more before k q g plan own =
      elim (cases_lt k n) [
        | inl under ↦
            let low : k < length old = omega (arith, under, count) in
            before k q g plan
            (sym (left_item old (f ∷ []) k low) ∙ (ap (λ (fs : List PictureFormats). slice_get fs k) (sym now) ∙ own))
        | inr past ↦
            let less = slice_get_within new k g own in
            let many = one_longer in
            let place : n ≡ k = omega (arith, past, less, many) in
            let same_plan = same_Some p q (sym there ∙ (ap (slice_get plans) place ∙ plan)) in
            let same_format = same_Some f g (sym last ∙ (ap (slice_get new) place ∙ own)) in
            subst (λ (r : PicturePlan). IsFormatOf r g) same_plan (subst (IsFormatOf p) same_format here)
      ]

-- all are there
pub all_formats : (plans : List PicturePlan) (n : ℕ) (formats : List PictureFormats) → length plans ≤ n
    → n ≤ length plans → length formats ≡ n → EachHas plans formats → AreFormats plans formats
all_formats plans n formats past within count each =
    record { count = omega (arith, past, within, count); each = each }
