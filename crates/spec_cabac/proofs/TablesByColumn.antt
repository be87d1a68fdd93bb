-- The tables against the same tables laid out the other way, by computing both.
use Rattle.std.proofs.Common.{◌≡◌, ℕ, ◌+◌, ◌-◌, ◌*◌, ◌/◌, ◌%◌, ◌<◌, ◌≤◌, Bool, true, [], get_or, map, refl, subst}
use Rattle.std.proofs.Common.{arith}
use Rattle.std.specs.Prelude.{slice_index, nat_eq}
use Rattle.std.specs.List.{list_all, range_with_len}
use Rattle.std.proofs.lemmas.Bool.{eqb-true}
use Rattle.spec_cabac.specs.Contexts.{lps_range_of, state_after_lps, state_after_mps}
use Rattle.spec_cabac.specs.TablesByColumn.{all_init_values, bases_from, elements, init_values_at, next_states}
use Rattle.spec_cabac.specs.TablesByColumn.{ranges_by_index}
use Rattle.spec_cabac.specs.declared.tables.TheConstants.{RANGE_TAB_LPS}
use Rattle.spec_cabac.proofs.TableRules.{tested}

abbrev same_range : ℕ → Bool
same_range i = nat_eq (slice_index RANGE_TAB_LPS i) (slice_index (get_or ranges_by_index (i % 4) []) (i / 4))

same_range_all : list_all same_range (range_with_len 0 256) ≡ true
unfolding ranges_by_index
same_range_all = refl

pub ranges : (state range : ℕ) → state < 64 → 256 ≤ range → range < 512
    → lps_range_of state range ≡ slice_index (get_or ranges_by_index ((range - 256) / 64) []) state
unfolding lps_range_of
ranges state range h low high =
    let q : range / 64 % 4 ≡ (range - 256) / 64 = omega arith in
    let m : (4 * state + range / 64 % 4) % 4 ≡ (range - 256) / 64 = omega arith in
    let d : (4 * state + range / 64 % 4) / 4 ≡ state = omega arith in
    let same = eqb-true _ _ (tested same_range 256 same_range_all (4 * state + range / 64 % 4) (omega arith)) in
    subst (λ (k : ℕ). slice_index RANGE_TAB_LPS (4 * state + range / 64 % 4)
    ≡ slice_index (get_or ranges_by_index k []) state)
    m
    (subst (λ (k : ℕ). slice_index RANGE_TAB_LPS (4 * state + range / 64 % 4)
    ≡ slice_index (get_or ranges_by_index ((4 * state + range / 64 % 4) % 4) []) k)
    d same)

pub states : map (λ state. (state_after_lps state, state_after_mps state)) (range_with_len 0 64) ≡ next_states
unfolding state_after_lps state_after_mps next_states
states = refl

pub init_values : map init_values_at (range_with_len 0 154) ≡ all_init_values elements
unfolding elements
init_values = refl

pub bases : map (λ e. e.base) elements ≡ bases_from 0 elements
unfolding elements
bases = refl
