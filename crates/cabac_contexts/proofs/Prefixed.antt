-- A prefix of bypass bins and a suffix, of which the number is known.
use Rattle.std.proofs.Common.{◌≡◌, ℕ, zero, suc, ◌+◌, ◌-◌, ◌*◌, ◌/◌, ◌%◌, ◌^◌, ◌<◌, ◌≤◌, Bool, true, false, List}
use Rattle.std.proofs.Common.{Option}
use Rattle.std.proofs.Common.{Some, None, Result, Ok, refl, sym, ap, ◌∙◌, arith, lit<}
use Rattle.std.specs.Prelude.{nat_le}
use Rattle.std.proofs.lemmas.Bool.{leb-true, leb-false}
use Rattle.std.proofs.lemmas.Nat.{pow-add, pow_pos, div-mul-add, div-add-mod', leading_top}
use Rattle.std.proofs.Math.Nat.{pow-le-pow_right, div-div-eq-div-mul}
use Rattle.std.specs.Int.Count.{count_leading_zeros}
use Rattle.std.proofs.lemmas.Option.{none-some, same_Some, some_pair_parts}
use Rattle.spec_cabac.specs.HvBase.{Breach}
use Rattle.spec_cabac.specs.SpecBits.{digit}
use Rattle.spec_cabac.specs.SpecFormats.{bind, refuse}
use Rattle.spec_cabac.specs.Engine.{Engine, bypass_at}
use Rattle.spec_cabac.specs.Bins.{State, read, stepped, bin_at, bypass, unary, ones, fixed}
use Rattle.cabac_engine.specs.Steps.{bypasses_after, spelled}
use Rattle.cabac_engine.proofs.Bypasses.{spelled_by, spelled_none}
use Rattle.cabac_contexts.specs.Takes.{IsAhead, prefixed}
use Rattle.cabac_contexts.proofs.Bypasses.{fixed_is}

-- bins that are read, or none
abbrev Found : Type 0
Found = Option (ℕ × Engine)

-- what follows a bin
abbrev following : ℕ → ℕ → Option (Bool × Engine) → Found
following n value None = None
following n value (Some b) = bypasses_after n (2 * value + digit b.0) b.1

-- what follows some bins
abbrev continued : ℕ → Found → Found
continued n None = None
continued n (Some d) = bypasses_after n d.0 d.1

one_more : (n value : ℕ) (e : Engine) (first : Option (Bool × Engine)) → bypass_at e ≡ first
    → bypasses_after (suc n) value e ≡ following n value first
unfolding bypasses_after
one_more n value e None is = rw is refl
one_more n value e (Some b) is = rw is refl

none_more : (value : ℕ) (e : Engine) → bypasses_after 0 value e ≡ Some (value, e)
unfolding bypasses_after
none_more value e = refl

twice_power : (n : ℕ) → 2 ^ suc n ≡ 2 * 2 ^ n
twice_power n = omega arith

-- a number of bins lies where the value in front of it says
record Bounded (n value w : ℕ) : Type 0 where
  low : value * 2 ^ n ≤ w
  high : w < value * 2 ^ n + 2 ^ n

doubled : (value n d : ℕ) → (2 * value + d) * 2 ^ n ≡ value * 2 ^ suc n + d * 2 ^ n
doubled value n d =
    let p = 2 ^ n in
    let e : (2 * value + d) * p ≡ value * (2 * p) + d * p = grind arith in
    e ∙ ap (λ x. value * x + d * p) (sym (twice_power n))

grow : (n value w : ℕ) (b : Bool) → Bounded n (2 * value + digit b) w → Bounded (suc n) value w
grow n value w false b =
    record {
      low = omega (arith, doubled value n 0, b.low);
      high = omega
          (arith, doubled value n 0, b.high, twice_power n);
    }
grow n value w true b =
    record {
      low = omega (arith, doubled value n 1, b.low);
      high = omega
          (arith, doubled value n 1, b.high, twice_power n);
    }

bounded_if : (n value w : ℕ) (e t : Engine) (first : Option (Bool × Engine)) → bypass_at e ≡ first
    → bypasses_after n value e ≡ Some (w, t) → Bounded n value w
bounded_if zero value w e t first is all =
    let same = (some_pair_parts value w e t (sym (none_more value e) ∙ all)).0 in
    record { low = omega (arith, same); high = omega (arith, same) }
bounded_if (suc n) value w e t None is all = absurd (none-some (w, t) (sym (one_more n value e None is) ∙ all))
bounded_if (suc n) value w e t (Some b) is all =
    grow n value w b.0
    (bounded_if n (2 * value + digit b.0) w b.1 t (bypass_at b.1) refl (sym (one_more n value e (Some b) is) ∙ all))

bounded : (n value w : ℕ) (e t : Engine) → bypasses_after n value e ≡ Some (w, t) → Bounded n value w
bounded n value w e t all = bounded_if n value w e t (bypass_at e) refl all

-- some bins, and more
parts_if : (a b value : ℕ) (e : Engine) (first : Option (Bool × Engine)) → bypass_at e ≡ first
    → bypasses_after (a + b) value e ≡ continued b (bypasses_after a value e)
parts_if zero b value e first is =
    let same : 0 + b ≡ b = omega arith in
    ap (λ k. bypasses_after k value e) same ∙ ap (continued b) (sym (none_more value e))
parts_if (suc a) b value e None is =
    let same : suc a + b ≡ suc (a + b) = omega arith in
    ap (λ k. bypasses_after k value e) same ∙ one_more (a + b) value e None is
    ∙ ap (continued b) (sym (one_more a value e None is))
parts_if (suc a) b value e (Some d) is =
    let same : suc a + b ≡ suc (a + b) = omega arith in
    ap (λ k. bypasses_after k value e) same ∙ one_more (a + b) value e (Some d) is
    ∙ parts_if a b (2 * value + digit d.0) d.1 (bypass_at d.1) refl
    ∙ ap (continued b) (sym (one_more a value e (Some d) is))

-- the first of some bins: their number, and what follows
record Split (a b w : ℕ) (e t : Engine) : Type 0 where
  middle : Engine
  first : bypasses_after a 0 e ≡ Some (w / 2 ^ b, middle)
  more : bypasses_after b (w / 2 ^ b) middle ≡ Some (w, t)

quotient : (n value w : ℕ) → Bounded n value w → value ≡ w / 2 ^ n
quotient n value w b =
    let rest = w - value * 2 ^ n in
    let is : w ≡ value * 2 ^ n + rest = omega (arith, b.low) in
    let below : rest < 2 ^ n = omega (arith, b.low, b.high) in
    sym (ap (λ x. x / 2 ^ n) is ∙ div-mul-add value (2 ^ n) rest below)

split_if : (a b w : ℕ) (e t : Engine) (first : Found) → bypasses_after a 0 e ≡ first
    → bypasses_after (a + b) 0 e ≡ Some (w, t) → Split a b w e t
split_if a b w e t None is all =
    absurd (none-some (w, t) (sym (parts_if a b 0 e (bypass_at e) refl ∙ ap (continued b) is) ∙ all))
split_if a b w e t (Some d) is all =
    let more : bypasses_after b d.0 d.1 ≡ Some (w, t) =
    sym (parts_if a b 0 e (bypass_at e) refl ∙ ap (continued b) is) ∙ all in
    let same : d.0 ≡ w / 2 ^ b = quotient b d.0 w (bounded b d.0 w d.1 t more) in
    record {
      middle = d.1;
      first = is ∙ ap (λ k. Some (k, d.1)) same;
      more = ap (λ k. bypasses_after b k d.1) (sym same) ∙ more;
    }

split : (a b w : ℕ) (e t : Engine) → bypasses_after (a + b) 0 e ≡ Some (w, t) → Split a b w e t
split a b w e t all = split_if a b w e t (bypasses_after a 0 e) refl all

-- bins whose number alone is known
found_if : (n w : ℕ) (e : Engine) (all : Found) → bypasses_after n 0 e ≡ all → spelled n e ≡ Some w
    → (t : Engine) × (bypasses_after n 0 e ≡ Some (w, t))
found_if n w e None is told = absurd (none-some w (spelled_none n e is ∙ told))
found_if n w e (Some d) is told =
    let same : d.0 ≡ w = same_Some d.0 w (sym (spelled_by n d.0 e d.1 is) ∙ told) in
    (d.1, is ∙ ap (λ k. Some (k, d.1)) same)

-- the number that fewer bins spell
pub spelled_less : (n m w : ℕ) (e : Engine) → m ≤ n → spelled n e ≡ Some w → spelled m e ≡ Some (w / 2 ^ (n - m))
spelled_less n m w e few told =
    let all = found_if n w e (bypasses_after n 0 e) refl told in
    let sum : n ≡ m + (n - m) = omega arith in
    let s = split m (n - m) w e all.0 (sym (ap (λ k. bypasses_after k 0 e) sum) ∙ all.1) in
    spelled_by m (w / 2 ^ (n - m)) e s.middle s.first

-- a value in front is no part of what follows
shifted_if : (n x y w : ℕ) (e t : Engine) (first : Option (Bool × Engine)) → bypass_at e ≡ first
    → bypasses_after n (x + y) e ≡ Some (w, t) → bypasses_after n y e ≡ Some (w - x * 2 ^ n, t)
shifted_if zero x y w e t first is all =
    let same = some_pair_parts (x + y) w e t (sym (none_more (x + y) e) ∙ all) in
    let less : y ≡ w - x * 2 ^ 0 = omega (arith, same.0) in
    none_more y e ∙ ap (λ k. Some (k, e)) less ∙ ap (λ u. Some (w - x * 2 ^ 0, u)) same.1
shifted_if (suc n) x y w e t None is all =
    absurd (none-some (w, t) (sym (one_more n (x + y) e None is) ∙ all))
shifted_if (suc n) x y w e t (Some b) is all =
    let apart : 2 * (x + y) + digit b.0 ≡ 2 * x + (2 * y + digit b.0) = omega arith in
    let product : 2 * x * 2 ^ n ≡ x * 2 ^ suc n = omega (arith, doubled x n 0) in
    one_more n y e (Some b) is
    ∙ shifted_if n (2 * x) (2 * y + digit b.0) w b.1 t (bypass_at b.1) refl
    (ap (λ k. bypasses_after n k b.1) (sym apart) ∙ sym (one_more n (x + y) e (Some b) is) ∙ all)
    ∙ ap (λ k. Some (w - k, t)) product

-- ones and a 0

ones_if : (p i n value w : ℕ) (too_great : Breach) (contexts : List ℕ) (e t : Engine)
    (first : Option (Bool × Engine)) → bypass_at e ≡ first → p < n → bypasses_after (suc p) value e ≡ Some (w, t)
    → w + 2 ≡ (value + 1) * 2 ^ suc p
    → read (unary (refuse too_great) (λ k. bypass) i n) (e, contexts) ≡ Ok (i + p, (t, contexts))
unfolding unary bin_at
ones_if p i zero value w too_great contexts e t first is few all told = absurd (omega (arith, few))
ones_if p i (suc n) value w too_great contexts e t None is few all told =
    absurd (none-some (w, t) (sym (one_more p value e None is) ∙ all))
ones_if zero i (suc n) value w too_great contexts e t (Some (false, u)) is few all told =
    let next : bypasses_after 0 (2 * value + 0) u ≡ Some (w, t) = sym (one_more 0 value e (Some (false, u)) is) ∙ all in
    let same = (some_pair_parts (2 * value + 0) w u t (sym (none_more (2 * value + 0) u) ∙ next)).1 in
    let place : i ≡ i + 0 = omega arith in
    rw is (ap (λ x. Ok (i, (x, contexts))) same ∙ ap (λ k. Ok (k, (t, contexts))) place)
ones_if zero i (suc n) value w too_great contexts e t (Some (true, u)) is few all told =
    let next : bypasses_after 0 (2 * value + 1) u ≡ Some (w, t) = sym (one_more 0 value e (Some (true, u)) is) ∙ all in
    let same = (some_pair_parts (2 * value + 1) w u t (sym (none_more (2 * value + 1) u) ∙ next)).0 in
    absurd (omega (arith, same, told))
ones_if (suc p) i (suc n) value w too_great contexts e t (Some (false, u)) is few all told =
    let next : bypasses_after (suc p) (2 * value + 0) u ≡ Some (w, t) =
    sym (one_more (suc p) value e (Some (false, u)) is) ∙ all in
    let b = bounded (suc p) (2 * value + 0) w u t next in
    let double = doubled value (suc p) 0 in
    let sum : (value + 1) * 2 ^ suc (suc p) ≡ value * 2 ^ suc (suc p) + 2 ^ suc (suc p) = grind arith in
    absurd (omega (arith, b.high, double, told, sum, twice_power (suc p), twice_power p, pow_pos p))
ones_if (suc p) i (suc n) value w too_great contexts e t (Some (true, u)) is few all told =
    let next : bypasses_after (suc p) (2 * value + 1) u ≡ Some (w, t) =
    sym (one_more (suc p) value e (Some (true, u)) is) ∙ all in
    let double = doubled value (suc p) 2 in
    let sum : (value + 1) * 2 ^ suc (suc p) ≡ value * 2 ^ suc (suc p) + 2 ^ suc (suc p) = grind arith in
    let two : 2 * value + 2 ≡ 2 * value + 1 + 1 = omega arith in
    let told_then : w + 2 ≡ (2 * value + 1 + 1) * 2 ^ suc p =
    omega (arith, told, sum, double, twice_power (suc p), ap (λ k. k * 2 ^ suc p) two) in
    let place : i + 1 + p ≡ i + suc p = omega arith in
    rw is (ones_if p (i + 1) n (2 * value + 1) w too_great contexts u t (bypass_at u) refl (omega arith) next told_then
    ∙ ap (λ k. Ok (k, (t, contexts))) place)

pub took_prefixed : (bins prefix size suffix : ℕ) (too_great : Breach) (f : ℕ → ℕ) (contexts : List ℕ) (e t : Engine)
    → IsAhead bins prefix e → prefix + size < 16 → f prefix ≡ size
    → bypasses_after (prefix + 1 + size) 0 e ≡ Some (bins / 2 ^ (15 - prefix - size), t)
    → suffix ≡ bins / 2 ^ (15 - prefix - size) % 2 ^ size
    → read (prefixed too_great f) (e, contexts) ≡ Ok ((prefix, suffix), (t, contexts))
took_prefixed bins prefix size suffix too_great f contexts e t ahead few is all last =
    let w = bins / 2 ^ (15 - prefix - size) in
    let s = split (prefix + 1) size w e t all in
    let sum : 15 - prefix - size + size ≡ 15 - prefix = omega arith in
    let top : w / 2 ^ size ≡ 2 ^ (prefix + 1) - 2 =
    div-div-eq-div-mul bins (2 ^ (15 - prefix - size)) (2 ^ size)
    ∙ ap (λ k. bins / k) (sym (pow-add 2 (15 - prefix - size) size)) ∙ ap (λ k. bins / 2 ^ k) sum
    ∙ ahead.told (omega arith) in
    let next : prefix + 1 ≡ suc prefix = omega arith in
    let front : bypasses_after (suc prefix) 0 e ≡ Some (w / 2 ^ size, s.middle) =
    ap (λ k. bypasses_after k 0 e) (sym next) ∙ s.first in
    let ones_are : w / 2 ^ size + 2 ≡ (0 + 1) * 2 ^ suc prefix =
    omega (arith, top, ap (λ k. 2 ^ k) next, twice_power prefix, pow_pos prefix) in
    let from_0 : 0 + prefix ≡ prefix = omega arith in
    let ones_is : read (ones too_great) (e, contexts) ≡ Ok (prefix, (s.middle, contexts)) =
    ones_if prefix 0 32 0 (w / 2 ^ size) too_great contexts e s.middle (bypass_at e) refl (omega arith) front ones_are
    ∙ ap (λ k. Ok (k, (s.middle, contexts))) from_0 in
    let with_0 : w / 2 ^ size + 0 ≡ w / 2 ^ size = omega arith in
    let rest : bypasses_after size 0 s.middle ≡ Some (w - w / 2 ^ size * 2 ^ size, t) =
    shifted_if size (w / 2 ^ size) 0 w s.middle t (bypass_at s.middle) refl
    (ap (λ k. bypasses_after size k s.middle) with_0 ∙ s.more) in
    let low : w - w / 2 ^ size * 2 ^ size ≡ suffix = omega (arith, last, div-add-mod' w (2 ^ size)) in
    let fixed_are : read (fixed size) (s.middle, contexts) ≡ Ok (suffix, (t, contexts)) =
    fixed_is size s.middle contexts ∙ ap (stepped contexts) rest ∙ ap (λ k. Ok (k, (t, contexts))) low in
    ap (λ (r : Result (ℕ × State) Breach). bind r (λ p u. bind (read (fixed (f p)) u) (λ x v. Ok ((p, x), v)))) ones_is
    ∙ ap (λ k. bind (read (fixed k) (s.middle, contexts)) (λ x v. Ok ((prefix, x), v))) is
    ∙ ap (λ (r : Result (ℕ × State) Breach). bind r (λ x v. Ok ((prefix, x), v))) fixed_are

-- how many digits of 16 are 1 before the first 0
few_if : (j x : ℕ) (test : Bool) → nat_le 17 j ≡ test → 2 ^ j ≤ x → x < 131072 → j ≤ 16
few_if j x true is le small =
    let more : 2 ^ 17 ≤ 2 ^ j = pow-le-pow_right (let two : 0 < 2 = lit< tt in two) (leb-true 17 j is) in
    absurd (omega (arith, more, le, small))
few_if j x false is le small = omega (arith, leb-false 17 j is)

ones_told : (bins j p : ℕ) → bins < 65536 → 2 ^ j ≤ 2 * (65535 - bins) + 1 → 2 * (65535 - bins) + 1 < 2 ^ suc j
    → p + j ≡ 16 → p < 16 → bins / 2 ^ (15 - p) ≡ 2 ^ (p + 1) - 2
ones_told bins j p small low high sum few =
    let q = 2 ^ (j - 1) in
    let k = 2 ^ (p + 1) - 2 in
    let rest = bins - k * q in
    let next : j ≡ suc (j - 1) = omega arith in
    let two : 2 ^ j ≡ 2 * q = ap (λ n. 2 ^ n) next ∙ twice_power (j - 1) in
    let after : p + 1 ≡ suc p = omega arith in
    let some : 2 ≤ 2 ^ (p + 1) = omega (arith, ap (λ n. 2 ^ n) after, twice_power p, pow_pos p) in
    let is : 2 ^ (p + 1) ≡ k + 2 = omega arith in
    let whole : p + 1 + (j - 1) ≡ 16 = omega arith in
    let all : (k + 2) * q ≡ 2 ^ 16 =
    ap (λ n. n * q) (sym is) ∙ sym (pow-add 2 (p + 1) (j - 1)) ∙ ap (λ n. 2 ^ n) whole in
    let product : (k + 2) * q ≡ k * q + 2 * q = grind arith in
    let apart : bins ≡ k * q + rest = omega (arith, all, product, two, high, twice_power j) in
    let below : rest < q = omega (arith, all, product, two, low, apart) in
    let place : 15 - p ≡ j - 1 = omega arith in
    ap (λ n. bins / 2 ^ n) place ∙ ap (λ x. x / q) apart ∙ div-mul-add k q rest below

-- what a count of the zeros in front of the other digits tells
pub record Counted (bins zeros : ℕ) : Type 0 where
  pub least : 15 ≤ zeros
  pub few : zeros - 15 ≤ 16
  pub told : zeros - 15 < 16 → bins / 2 ^ (15 - (zeros - 15)) ≡ 2 ^ (zeros - 15 + 1) - 2

pub counted : (bins : ℕ) → bins < 2 ^ 16 → Counted bins (count_leading_zeros 32 (2 * (65535 - bins) + 1))
counted bins small =
    let top = leading_top 32 (2 * (65535 - bins) + 1) (omega arith) (omega arith) in
    let zeros = count_leading_zeros 32 (2 * (65535 - bins) + 1) in
    let few = few_if top.0 (2 * (65535 - bins) + 1) (nat_le 17 top.0) refl top.2 (omega arith) in
    let least : 15 ≤ zeros = omega (arith, top.1, few) in
    record {
      least = least;
      few = omega (arith, top.1);
      told =
          λ lt. ones_told bins top.0 (zeros - 15) (omega (arith, small)) top.2 top.3 (omega (arith, top.1, least)) lt;
    }
