-- The first contexts of a slice may be.
use Rattle.std.proofs.Common.{◌≡◌, ℕ, zero, suc, ◌+◌, ◌-◌, ◌*◌, ◌/◌, ◌%◌, ◌<◌, ◌≤◌, Bool, true}
use Rattle.std.proofs.Common.{false, List, [], ◌∷◌, map, refl, arith}
use Rattle.std.proofs.Common.{cond, get_or, ℤ, pos, negsuc, ◌+ℤ◌, ◌-ℤ◌, ◌*ℤ◌}
use Rattle.std.specs.List.{range_with_len}
use Rattle.spec_cabac.specs.declared.init_values.TheConstants.{INIT_VALUES}
use Rattle.std.specs.Prelude.{slice_index, nat_le, nat_lt, if◌then◌else◌}
use Rattle.std.specs.Int.{int_max, int_min, int_shr}
use lib.Signed.{mag}
use Rattle.std.proofs.lemmas.Bool.{leb-false, ltb-false}
use Rattle.spec_cabac.specs.Contexts.{clip3, contexts_of, first_context, first_contexts, pre_context_state}

record IsPreState (pre : ℕ) : Type 0 where
  low : 1 ≤ pre
  high : pre ≤ 126

-- a whole number up to 126
abbrev IsSmall : ℤ → Type 0
IsSmall (pos n) = n ≤ 126
IsSmall (negsuc n) = Unit {0}

least_if : (n : ℕ) (b : Bool) → nat_lt 126 n ≡ b → IsSmall (cond b (pos 126) (pos n))
least_if n true is = omega arith
least_if n false is = ltb-false 126 n is

least : (v : ℤ) → IsSmall (int_min v (pos 126))
least (pos n) = least_if n (nat_lt 126 n) refl
least (negsuc n) = tt

greatest_if : (n : ℕ) → n ≤ 126 → (b : Bool) → nat_lt n 1 ≡ b → IsPreState (mag (cond b (pos 1) (pos n)))
greatest_if n small true is = record { low = omega arith; high = omega arith }
greatest_if n small false is = record { low = ltb-false n 1 is; high = small }

greatest : (w : ℤ) → IsSmall w → IsPreState (mag (int_max (pos 1) w))
greatest (pos n) small = greatest_if n small (nat_lt n 1) refl
greatest (negsuc n) small = record { low = omega arith; high = omega arith }

clipped : (v : ℤ) → IsPreState (mag (clip3 (pos 1) (pos 126) v))
clipped v = greatest (int_min v (pos 126)) (least v)

of_pre_if : (pre : ℕ) (b : Bool) → nat_le pre 63 ≡ b → IsPreState pre
    → (if b then 2 * (63 - pre) else 2 * (pre - 64) + 1) < 126
of_pre_if pre true is p = omega (arith, p.low)
of_pre_if pre false is p = omega (arith, p.high, leb-false pre 63 is)

first_below : (qp init_value : ℕ) → first_context qp init_value < 126
unfolding first_context pre_context_state
first_below qp init_value =
    of_pre_if (pre_context_state qp init_value) (nat_le (pre_context_state qp init_value) 63) refl
    (clipped
    (int_shr ((pos (init_value / 16 * 5) -ℤ pos 45) *ℤ pos qp) 4 +ℤ (pos (init_value % 16 * 8) -ℤ pos 16)))

below_map : (f : ℕ → ℕ) (xs : List ℕ) → ((x : ℕ) → f x < 126) → (i : ℕ) → slice_index (map f xs) i < 126
below_map f [] all zero = omega arith
below_map f [] all (suc i) = omega arith
below_map f (x ∷ xs) all zero = all x
below_map f (x ∷ xs) all (suc i) = below_map f xs all i

of_values : (qp : ℕ) (values : List ℕ) (i : ℕ) → slice_index (contexts_of qp values) i < 126
of_values qp values i =
    below_map (λ k. first_context qp (slice_index values k)) (range_with_len 0 154)
    (λ k. first_below qp (slice_index values k)) i

pub first_contexts_below : (qp : ℤ) (init_type i : ℕ) → slice_index (first_contexts qp init_type) i < 126
unfolding first_contexts
first_contexts_below qp init_type i =
    of_values (mag (clip3 (pos 0) (pos 51) qp)) (get_or INIT_VALUES init_type []) i
