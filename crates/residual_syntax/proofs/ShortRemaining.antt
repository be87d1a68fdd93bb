-- A prefix and a suffix that were read at once.
use Rattle.std.proofs.Common.{◌≡◌, ℕ, ◌+◌, ◌*◌, ◌^◌, Result, Ok, Err, refl, ap, ◌∙◌}
use Rattle.hv_base.specs.declared.breach.Breach.{Breach}
use Rattle.spec_cabac.specs.SpecFormats.{bind}
use Rattle.spec_cabac.specs.Bins.{State, read, ones, fixed}
use Rattle.spec_residuals.specs.Levels.{coeff_abs_level_remaining, front, suffix_size, too_great}
use Rattle.cabac_contexts.specs.Takes.{prefixed}

-- what both are put together to
abbrev told : ℕ → Result ((ℕ × ℕ) × State) Breach → Result (ℕ × State) Breach
told k r = bind r (λ d t. Ok (front d.0 * 2 ^ k + d.1, t))

abbrev pair_behind : ℕ → Result (ℕ × State) Breach → Result ((ℕ × ℕ) × State) Breach
pair_behind p r = bind r (λ x t. Ok ((p, x), t))

abbrev sum_behind : ℕ → ℕ → Result (ℕ × State) Breach → Result (ℕ × State) Breach
sum_behind k p r = bind r (λ x t. Ok (front p * 2 ^ k + x, t))

inner : (k p : ℕ) (r : Result (ℕ × State) Breach) → sum_behind k p r ≡ told k (pair_behind p r)
inner k p (Ok x) = refl
inner k p (Err e) = refl

outer : (k : ℕ) (r : Result (ℕ × State) Breach)
    → bind r (λ p t. sum_behind k p (read (fixed (suffix_size p k)) t))
    ≡ told k (bind r (λ p t. pair_behind p (read (fixed (suffix_size p k)) t)))
outer k (Ok x) = inner k x.0 (read (fixed (suffix_size x.0 k)) x.1)
outer k (Err e) = refl

pub remaining_is : (k prefix suffix : ℕ) (s t : State)
    → read (prefixed too_great (λ p. suffix_size p k)) s ≡ Ok ((prefix, suffix), t)
    → read (coeff_abs_level_remaining k) s ≡ Ok (front prefix * 2 ^ k + suffix, t)
unfolding coeff_abs_level_remaining
remaining_is k prefix suffix s t is = outer k (read (ones too_great) s) ∙ ap (told k) is
