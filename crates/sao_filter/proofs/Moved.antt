-- What is made of one sample.
use Rattle.std.proofs.Common.{◌≡◌, ℕ, zero, suc, ◌+◌, ◌-◌, ◌*◌, ◌/◌, ◌^◌, ◌%◌, ◌<◌, ◌≤◌, Bool, true, false, cond, min}
use Rattle.std.proofs.Common.{nat_le, nat_lt, List}
use Rattle.std.proofs.Common.{arith, ap, ◌∙◌, ℤ, pos, negsuc, ◌+ℤ◌}
use Rattle.std.specs.Prelude.{◌==◌}
use Rattle.std.specs.Int.{int_max, int_min}
use Rattle.std.specs.Int.RustNames.{unsigned_abs}
use Rattle.std.proofs.lemmas.Int.{ints}
use Rattle.std.proofs.lemmas.Bool.Decides.{nat_tests}
use Rattle.spec_sample_adaptive_offset.specs.Offsets.{band_index, band_moved, compared, edge_moved, moved}
use Rattle.sao_filter.specs.Row.{at}
use Rattle.sao_filter.specs.declared.changes.BandMoves.{BandMoves}
use Rattle.sao_filter.specs.Moves.{AreBandMoves}
use Rattle.sao_filter.specs.Units.{AreMoves, on_base}

one_or_none : (b : Bool) → cond b 1 0 ≤ 1
one_or_none true = omega arith
one_or_none false = omega arith

pub one_at_most : (s a : ℕ) → cond (nat_le s a) 1 0 ≤ 1
one_at_most s a = one_or_none (nat_le s a)

compared_is : (s a : ℕ) → compared s a + cond (nat_le s a) 1 0 ≡ 1 + cond (nat_le a s) 1 0
compared_is s a = grind (arith, nat_tests)

-- the sum of both signs, by which of two samples is at most the other
pub signs_are : (s a b : ℕ)
    → ((2 - cond (nat_le s a) 1 0 - cond (nat_le s b) 1 0 + cond (nat_le a s) 1 0) % 65536 + cond (nat_le b s) 1 0)
    % 65536
    ≡ compared s a + compared s b
signs_are s a b =
    omega (
      arith,
      compared_is s a,
      compared_is s b,
      one_at_most s a,
      one_at_most s b,
      one_at_most a s,
      one_at_most b s,
    )

-- one of five entries, as a sum of which all others are 0
pub entry_is : (table : List ℕ) (p : ℕ) → p < 5 → cond (p == 0) (at table 0) 0 < 65536
    → cond (p == 1) (at table 1) 0 < 65536 → cond (p == 2) (at table 2) 0 < 65536
    → cond (p == 3) (at table 3) 0 < 65536 → cond (p == 4) (at table 4) 0 < 65536
    → ((((cond (p == 0) (at table 0) 0 + cond (p == 1) (at table 1) 0) % 65536 + cond (p == 2) (at table 2) 0) % 65536
    + cond (p == 3) (at table 3) 0) % 65536 + cond (p == 4) (at table 4) 0) % 65536
    ≡ at table p
entry_is table zero lt a b c d e = omega (arith, a)
entry_is table (suc zero) lt a b c d e = omega (arith, b)
entry_is table (suc (suc zero)) lt a b c d e = omega (arith, c)
entry_is table (suc (suc (suc zero))) lt a b c d e = omega (arith, d)
entry_is table (suc (suc (suc (suc zero)))) lt a b c d e = omega (arith, e)
entry_is table (suc (suc (suc (suc (suc p))))) lt a b c d e = absurd (omega arith)

compared_few : (s a : ℕ) → compared s a ≤ 2
compared_few s a = grind (arith, nat_tests)

pub signs_few : (s a b : ℕ) → compared s a + compared s b < 5
signs_few s a b = omega (arith, compared_few s a, compared_few s b)

-- what is told on 32768 is added to a sample and clipped
clipped_is : (s e g : ℕ) (v : ℤ) → pos e ≡ pos 32768 +ℤ v → s < 65536 → g < 65536
    → on_base s e g ≡ unsigned_abs (int_max (pos 0) (int_min (pos s +ℤ v) (pos g)))
clipped_is s e g (pos n) is small greatest =
    let f : e ≡ 32768 + n = omega (arith, ints, is) in
    grind (arith, ints, nat_tests, f)
clipped_is s e g (negsuc n) is small greatest =
    let f : e + suc n ≡ 32768 = omega (arith, ints, is) in
    grind (arith, ints, nat_tests, f)

pub moved_is : (depth s e g : ℕ) (v : ℤ) → pos e ≡ pos 32768 +ℤ v → s < 65536 → g ≡ 2 ^ depth - 1 → g < 65536
    → on_base s e g ≡ moved depth s v
unfolding moved
moved_is depth s e g v is small greatest fits =
    rw greatest (clipped_is s e (2 ^ depth - 1) v is small (omega (arith, greatest, fits)))

-- what holds for each of five
pub each_of_five : (P : ℕ → Type 0) → P 0 → P 1 → P 2 → P 3 → P 4 → (p : ℕ) → p < 5 → P p
each_of_five P a b c d e zero lt = a
each_of_five P a b c d e (suc zero) lt = b
each_of_five P a b c d e (suc (suc zero)) lt = c
each_of_five P a b c d e (suc (suc (suc zero))) lt = d
each_of_five P a b c d e (suc (suc (suc (suc zero)))) lt = e
each_of_five P a b c d e (suc (suc (suc (suc (suc p))))) lt = absurd (omega arith)

-- a sample by its neighbours, by what is added by the signs
pub edge_is : (depth : ℕ) (offsets : List ℤ) (table : List ℕ) (g s a b s' a' b' : ℕ) → AreMoves depth offsets table g
    → s < 65536 → s ≡ s' → a ≡ a' → b ≡ b'
    → on_base s (at table (compared s a + compared s b)) g ≡ edge_moved depth offsets s' a' b'
edge_is depth offsets table g s a b s' a' b' are small same first second =
    are s (compared s a + compared s b) small (signs_few s a b)
    ∙ ap (λ (v : ℕ). edge_moved depth offsets v a b) same
    ∙ ap (λ (v : ℕ). edge_moved depth offsets s' v b) first
    ∙ ap (λ (v : ℕ). edge_moved depth offsets s' a' v) second

-- which offset a place among five has, of which the last has none
abbrev pub next : ℕ → ℕ
next p = cond (nat_lt p 4) (p + 1) 0

next_held : (p : ℕ) → next (min p 4) ≡ next p
next_held p = grind (arith, nat_tests)

-- which offset the place of a band has
pub next_is : (position from band : ℕ) → from ≡ position
    → next (min ((band + (32 - from % 32)) % 32) 4) ≡ band_index position band
unfolding band_index
next_is position from band same = rw same (next_held ((band + (32 - position % 32)) % 32))

-- a sample by its band, by what is added by where that stands
pub banded_is : (depth position : ℕ) (offsets : List ℤ) (moves : BandMoves) (s s' : ℕ)
    → AreBandMoves depth position offsets moves → s < 65536 → s ≡ s'
    → on_base s (at moves.table (min ((s / 2 ^ moves.shift + moves.before) % 32) 4)) moves.greatest
    ≡ band_moved depth position offsets s'
banded_is depth position offsets moves s s' are small same =
    are s small ∙ ap (λ (v : ℕ). band_moved depth position offsets v) same

-- a number modulo 32, by one of 16 bits
pub turned : (x : ℕ)
    → (x % 65536 + (65536 - x % 65536 / 2 ^ 5 * 32 % 65536)) % 65536 ≡ x % 32
turned x = omega arith
