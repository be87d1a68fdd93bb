-- Numbers that are read bit by bit from a place on.
use Rattle.std.proofs.Common.{◌≡◌, ℕ, suc, ◌+◌, ◌-◌, ◌*◌, ◌/◌, ◌%◌, ◌^◌, ◌<◌, ◌≤◌, Bool, true, false, List, length}
use Rattle.std.proofs.Common.{take, drop, Some, None, refl, sym, ap, ◌∙◌, arith, length-drop}
use Rattle.std.specs.Prelude.{slice_index, nat_lt, nat_le}
use Rattle.std.proofs.lemmas.Bool.{lt-ltb, le-ltb, leb-true, leb-false}
use Rattle.spec_bits.specs.Bits.{bits, bit_of, digit, number_after, number_of}
use Rattle.spec_bits.proofs.Numbers.{doubled_below}
use Rattle.spec_bits.proofs.Places.{drop-bits_at}
use Rattle.spec_bits.specs.Bits.{u_at}
use Rattle.spec_cabac.specs.Engine.{Engine, left, number_at}
use Rattle.cabac_engine.specs.Ahead.{Ahead, engine}

-- the value so far and the bits to come spell the whole
pub record ReadsOn (value n i at : ℕ) (bytes : List ℕ) : Type 0 where
  pub told : number_after value (take (n - i) (drop (at + i) (bits bytes))) ≡ number_of (take n (drop at (bits bytes)))
  pub small : value < 2 ^ i

pub ReadsOn-bit : (value n i at next : ℕ) (bytes : List ℕ) (b : Bool) (d : ℕ) → next ≡ at + i
    → b ≡ bit_of (slice_index bytes (next / 8)) (7 - next % 8) → d ≡ digit b
    → i < n → at + n ≤ 8 * length bytes → ReadsOn value n i at bytes → ReadsOn (2 * value + d) n (i + 1) at bytes
ReadsOn-bit value n i at next bytes b d place bit is lt inside r =
    let m : n - i ≡ suc (n - (i + 1)) = omega arith in
    let k : at + i + 1 ≡ at + (i + 1) = omega arith in
    let e = drop-bits_at bytes (at + i) (omega arith) in
    let same : b ≡ bit_of (slice_index bytes ((at + i) / 8)) (7 - (at + i) % 8) =
    bit ∙ ap (λ p. bit_of (slice_index bytes (p / 8)) (7 - p % 8)) place in
    record {
      told =
          rw (is, same) (sym (ap (λ k. number_after value (take k (drop (at + i) (bits bytes)))) m
          ∙ ap (λ bs. number_after value (take (suc (n - (i + 1))) bs)) e
          ∙ ap (λ p. number_after (2 * value + digit (bit_of (slice_index bytes ((at + i) / 8)) (7 - (at + i) % 8)))
          (take (n - (i + 1)) (drop p (bits bytes))))
          k)
          ∙ r.told);
      small = rw is (doubled_below value i b r.small);
    }

-- a number where bits lack, and where they are there
pub number_none : (n : ℕ) (e : Engine) → nat_le n (length e.bits - e.at) ≡ false → number_at n e ≡ None
unfolding number_at u_at
number_none n e few =
    let short : nat_lt (length (left e)) n ≡ true =
    lt-ltb _ _ (omega (arith, length-drop e.at e.bits, leb-false n (length e.bits - e.at) few)) in
    rw short refl

pub number_some : (n : ℕ) (e : Engine) → nat_le n (length e.bits - e.at) ≡ true
    → number_at n e
    ≡ Some (number_of (take n (left e)), record { range = e.range; offset = e.offset; bits = e.bits; at = e.at + n })
unfolding number_at u_at
number_some n e enough =
    let long : nat_lt (length (left e)) n ≡ false =
    le-ltb _ _ (omega (arith, length-drop e.at e.bits, leb-true n (length e.bits - e.at) enough)) in
    rw long refl

-- the same offset, bits and place, whatever is held
pub record Same (a b : Ahead) : Type 0 where
  pub offset : b.offset ≡ a.offset
  pub bits : b.bits ≡ a.bits
  pub at : b.at ≡ a.at

pub same_engine : (e : Engine) (r o a : ℕ) (b : List Bool) → r ≡ e.range → o ≡ e.offset → b ≡ e.bits → a ≡ e.at
    → ◌≡◌ {A = Engine} (record { range = r; offset = o; bits = b; at = a }) e
same_engine e r o a b range offset bits at = rw (range, offset, bits, at) refl

-- a number is read off a register, and its offset set
pub numbered : (n range value at : ℕ) (a m b : Ahead) → Same a m → true ≡ nat_le n (length a.bits - a.at)
    → value ≡ number_of (take n (drop m.at m.bits)) → at ≡ m.at + n → b.offset ≡ a.offset
    → b.bits ≡ m.bits → b.at ≡ at → number_at n (engine range a) ≡ Some (value, engine range b)
numbered n range value at a m b same enough is place offset_is bits_is at_is =
    rw (number_some n (engine range a) (sym enough), is, offset_is, at_is, place, bits_is, same.bits, same.at) refl

pub same_view : (range : ℕ) (a m : Ahead) → Same a m → ◌≡◌ {A = Engine} (engine range m) (engine range a)
same_view range a m same = rw (same.offset, same.bits, same.at) refl
