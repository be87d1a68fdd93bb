-- The table of contexts behind bins against their definitions, by computing both.
use Rattle.std.proofs.Common.{◌≡◌, ℕ, ◌+◌, ◌*◌, ◌<◌, Bool, true, false, if◌then◌else◌, refl}
use Rattle.std.specs.Prelude.{nat_eq, nat_lt}
use Rattle.std.specs.List.{list_all, range_with_len}
use Rattle.std.proofs.lemmas.Bool.{eqb-true, ltb-true}
use Rattle.spec_bits.specs.Bits.{digit}
use Rattle.spec_cabac.specs.Contexts.{context_after_lps, context_after_mps, state_after_lps, state_after_mps}
use Rattle.spec_cabac.proofs.TableRules.{tested}
use Rattle.cabac_engine.specs.ContextTable.{entry_of}

abbrev after_mps : ℕ → Bool
after_mps context = nat_eq (entry_of (2 * context + 0)) (context_after_mps context)

abbrev after_lps : ℕ → Bool
after_lps context = nat_eq (entry_of (2 * context + 1)) (context_after_lps context)

after_mps_all : list_all after_mps (range_with_len 0 126) ≡ true
unfolding entry_of context_after_mps state_after_mps
after_mps_all = refl

after_lps_all : list_all after_lps (range_with_len 0 126) ≡ true
unfolding entry_of context_after_lps state_after_lps
after_lps_all = refl

small_all : list_all (λ i. nat_lt (entry_of i) 126) (range_with_len 0 252) ≡ true
unfolding entry_of
small_all = refl

pub entry_small : (i : ℕ) → i < 252 → entry_of i < 126
entry_small i inside = ltb-true _ _ (tested (λ i. nat_lt (entry_of i) 126) 252 small_all i inside)

pub entry_is : (context k : ℕ) (less_probable : Bool) → k ≡ digit less_probable → context < 126
    → entry_of (2 * context + k)
    ≡ (if less_probable then context_after_lps context else context_after_mps context)
entry_is context k true is below = rw is (eqb-true _ _ (tested after_lps 126 after_lps_all context below))
entry_is context k false is below = rw is (eqb-true _ _ (tested after_mps 126 after_mps_all context below))
