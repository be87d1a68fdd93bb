-- FL binarization, over bypass bins one after the other.
use Rattle.std.proofs.Common.{◌≡◌, ℕ, zero, suc, ◌+◌, ◌*◌, Bool, List, Option, Some, None, refl}
use Rattle.spec_cabac.specs.SpecBits.{digit}
use Rattle.spec_cabac.specs.Engine.{Engine, bypass_at}
use Rattle.spec_cabac.specs.Bins.{read, stepped, bin_at, fixed, fixed_after}
use Rattle.cabac_engine.specs.Steps.{bypasses_after}

fixed_if : (n value : ℕ) (e : Engine) (contexts : List ℕ) (first : Option (Bool × Engine)) → bypass_at e ≡ first
    → read (fixed_after n value) (e, contexts) ≡ stepped contexts (bypasses_after n value e)
unfolding fixed_after bypasses_after bin_at
fixed_if zero value e contexts first is = refl
fixed_if (suc n) value e contexts None is = rw is refl
fixed_if (suc n) value e contexts (Some d) is =
    rw is (fixed_if n (2 * value + digit d.0) d.1 contexts (bypass_at d.1) refl)

pub fixed_is : (n : ℕ) (e : Engine) (contexts : List ℕ)
    → read (fixed n) (e, contexts) ≡ stepped contexts (bypasses_after n 0 e)
fixed_is n e contexts = fixed_if n 0 e contexts (bypass_at e) refl
