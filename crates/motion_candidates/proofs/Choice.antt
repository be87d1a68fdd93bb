-- The choice between predictors of a vector.
use Rattle.std.proofs.Common.{◌≡◌, Bool, true, false, Option, Some, None, List, [], ◌∷◌, ◌++◌, take, get_or}
use Rattle.std.proofs.Common.{option_to_list, unwrap_or, if◌then◌else◌, refl, sym, ap, ◌∙◌}
use Rattle.ctu_records.specs.declared.prediction.Mv.{Mv}
use Rattle.spec_motion.specs.Vectors.{zero_mv}
use Rattle.motion_candidates.specs.Predictors.{is_needed, nth}

pub nth_both : (a b : Mv) (t : Option Mv) (mvp : Bool) → nth (Some a) (Some b) t mvp ≡ (if mvp then b else a)
unfolding nth
nth_both a b None true = refl
nth_both a b None false = refl
nth_both a b (Some t) true = refl
nth_both a b (Some t) false = refl

pub nth_first : (a : Mv) (t : Option Mv) (mvp : Bool)
    → nth (Some a) None t mvp ≡ (if mvp then unwrap_or t zero_mv else a)
unfolding nth
nth_first a None true = refl
nth_first a None false = refl
nth_first a (Some t) true = refl
nth_first a (Some t) false = refl

pub nth_second : (a : Mv) (t : Option Mv) (mvp : Bool)
    → nth None (Some a) t mvp ≡ (if mvp then unwrap_or t zero_mv else a)
unfolding nth
nth_second a None true = refl
nth_second a None false = refl
nth_second a (Some t) true = refl
nth_second a (Some t) false = refl

pub nth_none : (t : Option Mv) (mvp : Bool) → nth None None t mvp ≡ (if mvp then zero_mv else unwrap_or t zero_mv)
unfolding nth
nth_none None true = refl
nth_none None false = refl
nth_none (Some t) true = refl
nth_none (Some t) false = refl

pub ruleset nths = (nth_both, nth_first, nth_second, nth_none)

-- where it isn't needed, the temporal predictor changes nothing
without : (x y t : Option Mv) (mvp : Bool) → nth x y (if is_needed x y mvp then t else None) mvp ≡ nth x y t mvp
without (Some a) (Some b) t mvp = nth_both a b None mvp ∙ sym (nth_both a b t mvp)
without (Some a) None t true = refl
without (Some a) None t false = nth_first a None false ∙ sym (nth_first a t false)
without None (Some a) t true = refl
without None (Some a) t false = nth_second a None false ∙ sym (nth_second a t false)
without None None t true = nth_none None true ∙ sym (nth_none t true)
without None None t false = refl

pub chosen : (x y t taken : Option Mv) (mvp needed : Bool) (spatial : List Mv) (r : Mv) → r ≡ nth x y taken mvp
    → taken ≡ (if needed then t else None) → needed ≡ is_needed x y mvp
    → option_to_list x ++ option_to_list y ≡ spatial
    → r ≡ get_or (take 2 (spatial ++ option_to_list t ++ zero_mv ∷ zero_mv ∷ [])) (if mvp then 1 else 0) zero_mv
unfolding nth
chosen x y t taken mvp needed spatial r is by asks joined =
    is ∙ ap (λ (o : Option Mv). nth x y o mvp) (by ∙ ap (λ (b : Bool). if b then t else None) asks) ∙ without x y t mvp
    ∙ ap
    (λ (s : List Mv). get_or (take 2 (s ++ option_to_list t ++ zero_mv ∷ zero_mv ∷ [])) (if mvp then 1 else 0) zero_mv)
    joined
