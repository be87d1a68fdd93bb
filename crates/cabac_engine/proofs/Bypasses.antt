-- Bypass bins one after the other, in a loop that has read i of n.
use Rattle.std.proofs.Common.{◌≡◌, ℕ, zero, suc, ◌+◌, ◌-◌, ◌*◌, ◌<◌, ◌≤◌, Bool, true, false, length, Option, Some}
use Rattle.std.proofs.Common.{None, ◌^◌, ◌/◌, ◌%◌, List, take, drop, subst, lit<}
use Rattle.std.proofs.Common.{refl, sym, ap, ◌∙◌, arith}
use Rattle.std.specs.Prelude.{nat_le}
use Rattle.std.proofs.lemmas.Bool.{leb-true, leb-false, le-leb}
use Rattle.std.proofs.lemmas.Option.{same_Some, none-some}
use Rattle.std.proofs.Math.Nat.{mul-le-mul_right, mod-eq_of_lt, mod-lt, pow-le-pow_right}
use Rattle.spec_bits.specs.Bits.{bits, digit, ◌>>=◌, number_of}
use Rattle.spec_bits.proofs.Places.{length-bits}
use Rattle.spec_cabac.specs.Engine.{Engine, IsLive, bypass_at}
use Rattle.cabac_engine.specs.Ahead.{Ahead, IsKept, ahead, lengthened, reduced, engine}
use Rattle.cabac_engine.specs.Steps.{bypasses_after, spelled}
use Rattle.cabac_engine.proofs.Held.{divided, spelled_apart, spelled_below}
use Rattle.cabac_engine.proofs.Stepping.{bypass_none, bypasses_if}

-- the first bin of those that are left
step : (value n : ℕ) (e : Engine) → 0 < n
    → bypasses_after n value e
    ≡ (bypass_at e >>= (λ bin. bypasses_after (n - 1) (2 * value + digit bin.0) bin.1))
unfolding bypasses_after
step value n e some =
    let is : n ≡ suc (n - 1) = omega arith in
    ap (λ k. bypasses_after k value e) is

none_left : (value n : ℕ) (e : Engine) → n ≡ 0 → bypasses_after n value e ≡ Some (value, e)
unfolding bypasses_after
none_left value n e is = ap (λ k. bypasses_after k value e) is

pub bypasses_go_on : (value n i : ℕ) (e : Engine) (bin : Bool) (t : Engine) (total : Option (ℕ × Engine)) → i < n
    → bypass_at e ≡ Some (bin, t)
    → bypasses_after (n - i) value e ≡ total → bypasses_after (n - (i + 1)) (2 * value + digit bin) t ≡ total
bypasses_go_on value n i e bin t total lt is so_far =
    let k : n - i - 1 ≡ n - (i + 1) = omega arith in
    let go = λ (r : Option (Bool × Engine)). r >>= (λ b. bypasses_after (n - i - 1) (2 * value + digit b.0) b.1) in
    sym (step value (n - i) e (omega arith) ∙ ap go is ∙ ap (λ m. bypasses_after m (2 * value + digit bin) t) k)
    ∙ so_far

pub bypasses_done : (value n i : ℕ) (e : Engine) (total : Option (ℕ × Engine)) → n ≤ i
    → bypasses_after (n - i) value e ≡ total → total ≡ Some (value, e)
bypasses_done value n i e total le so_far = sym so_far ∙ none_left value (n - i) e (omega arith)

-- where fewer bits than bins are left, one of the bins lacks its bit
none_if : (n value range : ℕ) (a : Ahead) (test : Bool) → nat_le 1 (length a.bits - a.at) ≡ test
    → length a.bits - a.at < n → bypasses_after n value (engine range a) ≡ None
unfolding bypasses_after
none_if zero value range a test is few = absurd (omega arith)
none_if (suc n) value range a false is few = rw (bypass_none (engine range a) (sym is)) refl
none_if (suc n) value range a true is few =
    let some = leb-true 1 (length a.bits - a.at) is in
    let w = lengthened a in
    let next : Ahead = record { offset = reduced range w; held = 0; bits = a.bits; at = a.at + 1 } in
    ap (λ r. r >>= (λ b. bypasses_after n (2 * value + digit b.0) b.1))
    (bypasses_if range a (nat_le range w) refl (sym is))
    ∙ none_if n (2 * value + digit (nat_le range w)) range next (nat_le 1 (length a.bits - (a.at + 1))) refl
    (omega arith)

pub bypasses_none : (n range : ℕ) (a : Ahead) → false ≡ nat_le n (length a.bits - a.at)
    → bypasses_after n 0 (engine range a) ≡ None
bypasses_none n range a few =
    none_if n 0 range a (nat_le 1 (length a.bits - a.at)) refl (leb-false n (length a.bits - a.at) (sym few))

-- one number times another, and what stays
often_if : (q range rest p w d : ℕ) (test : Bool) → nat_le p q ≡ test → w * p + d ≡ q * range + rest → rest < range
    → range ≤ w → p ≤ q
often_if q range rest p w d true is e below le = leb-true p q is
often_if q range rest p w d false is e below le =
    let less : q + 1 ≤ p = omega (arith, leb-false p q is) in
    let more : (q + 1) * range ≡ q * range + range = grind arith in
    let turned : p * range ≡ range * p = grind arith in
    absurd (omega (arith, mul-le-mul_right range less, mul-le-mul_right p le, more, turned, e, below))

often : (q range rest p w d : ℕ) → w * p + d ≡ q * range + rest → rest < range → range ≤ w → p ≤ q
often q range rest p w d e below le = often_if q range rest p w d (nat_le p q) refl e below le

less_often : (q range rest p w d : ℕ) → w * p + d ≡ q * range + rest → range ≤ w → p ≤ q
    → (w - range) * p + d ≡ (q - p) * range + rest
less_often q range rest p w d e le few =
    let k = w - range in
    let j = q - p in
    let w_is : w ≡ range + k = omega arith in
    let q_is : q ≡ p + j = omega arith in
    let a : (range + k) * p + d ≡ range * p + (k * p + d) = grind arith in
    let b : (p + j) * range + rest ≡ range * p + (j * range + rest) = grind arith in
    let a2 : w * p + d ≡ range * p + (k * p + d) = ap (λ x. x * p + d) w_is ∙ a in
    let b2 : q * range + rest ≡ range * p + (j * range + rest) = ap (λ x. x * range + rest) q_is ∙ b in
    omega (arith, a2, b2, e)

none_over : (q range rest offset : ℕ) (test : Bool) → nat_le 1 q ≡ test → offset ≡ q * range + rest → offset < range
    → q ≡ 0
none_over q range rest offset true is e below =
    let some : 1 * range ≤ q * range = mul-le-mul_right range (leb-true 1 q is) in
    absurd (omega (arith, some, e, below))
none_over q range rest offset false is e below = omega (arith, leb-false 1 q is)

-- the engine behind so many bits, with another offset
abbrev behind : (range offset n : ℕ) (a : Ahead) → Engine
behind range offset n a = record { range = range; offset = offset; bits = a.bits; at = a.at + n }

-- a bin's number and an engine
abbrev found : ℕ → Engine → Option (ℕ × Engine)
found value e = Some (value, e)

ended : (value range q rest : ℕ) (a : Ahead) → a.offset < range → a.offset * 2 ^ 0 + 0 ≡ q * range + rest
    → found value (engine range a) ≡ found (value * 2 ^ 0 + q) (behind range rest 0 a)
ended value range q rest a below e =
    let q_is : q ≡ 0 = none_over q range rest a.offset (nat_le 1 q) refl (omega (arith, e)) below in
    let value_is : value ≡ value * 2 ^ 0 + q = omega (arith, q_is) in
    let rest_is : a.offset ≡ rest = omega (arith, e, ap (λ k. k * range) q_is) in
    let at_is : a.at ≡ a.at + 0 = omega arith in
    ap (λ k. found k (engine range a)) value_is
    ∙ ap (λ o. found (value * 2 ^ 0 + q) (record { range = range; offset = o; bits = a.bits; at = a.at })) rest_is
    ∙ ap (λ k. found (value * 2 ^ 0 + q) (record { range = range; offset = rest; bits = a.bits; at = k })) at_is

none_spelled : (a : Ahead) → number_of (take 0 (drop a.at a.bits)) ≡ 0
unfolding number_of
none_spelled a = refl

twice_power : (n : ℕ) → 2 ^ suc n ≡ 2 * 2 ^ n
twice_power n = omega arith

twice_value : (value n q : ℕ) → (2 * value + 0) * 2 ^ n + q ≡ value * 2 ^ suc n + q
twice_value value n q =
    let p = 2 ^ n in
    let e : (2 * value + 0) * p + q ≡ value * (2 * p) + q = grind arith in
    e ∙ ap (λ x. value * x + q) (sym (twice_power n))

twice_more : (value n q : ℕ) → 2 ^ n ≤ q → (2 * value + 1) * 2 ^ n + (q - 2 ^ n) ≡ value * 2 ^ suc n + q
twice_more value n q few =
    let p = 2 ^ n in
    let e : (2 * value + 1) * p ≡ value * (2 * p) + p = grind arith in
    let e2 : (2 * value + 1) * p ≡ value * 2 ^ suc n + p = e ∙ ap (λ x. value * x + p) (sym (twice_power n)) in
    omega (arith, e2, few)

-- the first of some bits, and the others
first_apart : (n : ℕ) (a : Ahead) → a.at + suc n ≤ length a.bits
    → number_of (take (suc n) (drop a.at a.bits))
    ≡ number_of (take 1 (drop a.at a.bits)) * 2 ^ n + number_of (take n (drop (a.at + 1) a.bits))
first_apart n a inside =
    let is : suc n ≡ 1 + n = omega arith in
    ap (λ k. number_of (take k (drop a.at a.bits))) is ∙ spelled_apart a.bits a.at 1 n (omega (arith, inside))

lengthened_is : (n q range rest : ℕ) (a : Ahead) → a.at + suc n ≤ length a.bits
    → a.offset * 2 ^ suc n + number_of (take (suc n) (drop a.at a.bits)) ≡ q * range + rest
    → lengthened a * 2 ^ n + number_of (take n (drop (a.at + 1) a.bits)) ≡ q * range + rest
lengthened_is n q range rest a inside e =
    let bit = number_of (take 1 (drop a.at a.bits)) in
    let d = number_of (take n (drop (a.at + 1) a.bits)) in
    let sum : (2 * a.offset + bit) * 2 ^ n + d ≡ a.offset * (2 * 2 ^ n) + (bit * 2 ^ n + d) = grind arith in
    sum ∙ ap (λ p. a.offset * p + (bit * 2 ^ n + d)) (sym (twice_power n))
    ∙ ap (λ x. a.offset * 2 ^ suc n + x) (sym (first_apart n a inside)) ∙ e

-- n bins in one division: how often the range is in the offset with n more bits, and what stays
divided_if : (n value range q rest : ℕ) (a : Ahead) (test : Bool) → nat_le range (lengthened a) ≡ test
    → a.offset < range → a.at + n ≤ length a.bits
    → a.offset * 2 ^ n + number_of (take n (drop a.at a.bits)) ≡ q * range + rest → rest < range
    → bypasses_after n value (engine range a) ≡ Some (value * 2 ^ n + q, behind range rest n a)
unfolding bypasses_after
divided_if zero value range q rest a test is below inside e small =
    ended value range q rest a below (ap (λ x. a.offset * 2 ^ 0 + x) (sym (none_spelled a)) ∙ e)
divided_if (suc n) value range q rest a false is below inside e small =
    let w = lengthened a in
    let enough : true ≡ nat_le 1 (length a.bits - a.at) = sym (le-leb 1 (length a.bits - a.at) (omega arith)) in
    let over : w < range = leb-false range w is in
    let next : Ahead = record { offset = w; held = 0; bits = a.bits; at = a.at + 1 } in
    let same : reduced range w ≡ w = rw is refl in
    let count = twice_value value n q in
    let place : a.at + 1 + n ≡ a.at + suc n = omega arith in
    ap (λ r. r >>= (λ b. bypasses_after n (2 * value + digit b.0) b.1)) (bypasses_if range a false is enough)
    ∙ ap (λ o. bypasses_after n (2 * value + 0) (behind range o 1 a)) same
    ∙ divided_if n (2 * value + 0) range q rest next (nat_le range (lengthened next)) refl over (omega (arith, inside))
    (lengthened_is n q range rest a inside e) small
    ∙ ap (λ k. found k (behind range rest n next)) count
    ∙ ap (λ k. found (value * 2 ^ suc n + q) (record { range = range; offset = rest; bits = a.bits; at = k })) place
divided_if (suc n) value range q rest a true is below inside e small =
    let w = lengthened a in
    let enough : true ≡ nat_le 1 (length a.bits - a.at) = sym (le-leb 1 (length a.bits - a.at) (omega arith)) in
    let over : range ≤ w = leb-true range w is in
    let bit : number_of (take 1 (drop a.at a.bits)) < 2 ^ 1 = spelled_below a.bits a.at 1 (omega (arith, inside)) in
    let next : Ahead = record { offset = w - range; held = 0; bits = a.bits; at = a.at + 1 } in
    let same : reduced range w ≡ w - range = rw is refl in
    let d = number_of (take n (drop (a.at + 1) a.bits)) in
    let whole = lengthened_is n q range rest a inside e in
    let few : 2 ^ n ≤ q = often q range rest (2 ^ n) w d whole small over in
    let place : a.at + 1 + n ≡ a.at + suc n = omega arith in
    let count = twice_more value n q few in
    ap (λ r. r >>= (λ b. bypasses_after n (2 * value + digit b.0) b.1)) (bypasses_if range a true is enough)
    ∙ ap (λ o. bypasses_after n (2 * value + 1) (behind range o 1 a)) same
    ∙ divided_if n (2 * value + 1) range (q - 2 ^ n) rest next (nat_le range (lengthened next)) refl
    (omega (arith, bit, below, over)) (omega (arith, inside)) (less_often q range rest (2 ^ n) w d whole over few) small
    ∙ ap (λ k. found k (behind range rest n next)) count
    ∙ ap (λ k. found (value * 2 ^ suc n + q) (record { range = range; offset = rest; bits = a.bits; at = k })) place

-- what is left of a value behind so many digits, less a range as often as it is in those
abbrev pub less_ranges : ℕ → ℕ → ℕ → ℕ
less_ranges value r range = value - value / 2 ^ r / range * range * 2 ^ r % 18446744073709551616

-- n bins in one division, over a register
pub record Many (value held next n range wide : ℕ) (bytes : List ℕ) (a : Ahead) : Type 0 where
  pub kept : IsKept (less_ranges value (held - n) wide) (held - n) next bytes
  pub told : bypasses_after n 0 (engine range a)
      ≡ Some (
        value / 2 ^ (held - n) / wide,
        engine range (ahead (less_ranges value (held - n) wide) (held - n) next bytes),
      )
  pub live : IsLive (engine range (ahead (less_ranges value (held - n) wide) (held - n) next bytes))
  pub small : value / 2 ^ (held - n) / wide < 2 ^ n
  pub fits : value / 2 ^ (held - n) / wide < 4294967296
  pub less : value / 2 ^ (held - n) / wide * wide * 2 ^ (held - n) % 18446744073709551616 ≤ value

many_of : (value held next n range : ℕ) (bytes : List ℕ) → IsKept value held next bytes → n ≤ held → n ≤ 32
    → IsLive (engine range (ahead value held next bytes))
    → Many value held next n range range bytes (ahead value held next bytes)
many_of value held next n range bytes kept few most live =
    let a = ahead value held next bytes in
    let r = held - n in
    let q = value / 2 ^ r / range in
    let m = value / 2 ^ r % range in
    let d = divided value held next n range bytes kept few live.below live.high in
    let fits : q * range * 2 ^ r % 18446744073709551616 ≡ q * range * 2 ^ r =
    mod-eq_of_lt (omega (arith, d.less, d.small)) in
    let left_is : less_ranges value r range ≡ value - q * range * 2 ^ r = ap (λ x. value - x) fits in
    let inside : a.at + n ≤ length a.bits = omega (arith, length-bits bytes, kept.inside, kept.behind) in
    let under : m < range = mod-lt (value / 2 ^ r) (omega (arith, live.below)) in
    let top : m ≡ less_ranges value r range / 2 ^ r = sym (ap (λ v. v / 2 ^ r) left_is ∙ d.put.top) in
    let place : a.at + n ≡ 8 * next - r = omega (arith, kept.behind) in
    let power : 2 ^ n ≤ 2 ^ 32 = pow-le-pow_right (let two : 0 < 2 = lit< tt in two) most in
    record {
      kept = subst (λ v. IsKept v r next bytes) (sym left_is) d.put.kept;
      told =
          divided_if n 0 range q m a (nat_le range (lengthened a)) refl live.below inside d.whole under
          ∙ ap (λ k. found k (behind range m n a)) (let count : 0 * 2 ^ n + q ≡ q = omega arith in count)
          ∙ ap (λ o. found q (record { range = range; offset = o; bits = bits bytes; at = a.at + n })) top
          ∙ ap (λ k. found q (record {
            range = range;
            offset = less_ranges value r range / 2 ^ r;
            bits = bits bytes;
            at = k;
          })) place;
      live = record { low = live.low; high = live.high; below = omega (arith, top, under) };
      small = d.few;
      fits = omega (arith, d.few, power);
      less = omega (arith, fits, d.less);
    }

pub many : (value held next n range wide : ℕ) (bytes : List ℕ) (a : Ahead) → ahead value held next bytes ≡ a
    → wide ≡ range → IsKept value held next bytes → n ≤ a.held → n ≤ 32 → IsLive (engine range a)
    → Many value held next n range wide bytes a
many value held next n range wide bytes a view is kept few most live =
    let held_is = ap (λ (x : Ahead). x.held) view in
    let live2 = subst (λ x. IsLive (engine range x)) (sym view) live in
    let m = many_of value held next n range bytes kept (omega (arith, held_is, few)) most live2 in
    subst (λ w. Many value held next n range w bytes a) (sym is)
    (subst (λ x. Many value held next n range range bytes x) view m)

-- bins that are read spell their number
pub spelled_by : (n q : ℕ) (e t : Engine) → bypasses_after n 0 e ≡ Some (q, t) → spelled n e ≡ Some q
spelled_by n q e t is = ap (λ r. r >>= (λ d. Some d.0)) is

pub spelled_none : (n : ℕ) (e : Engine) → bypasses_after n 0 e ≡ None → None ≡ spelled n e
spelled_none n e is = sym (ap (λ r. r >>= (λ d. Some d.0)) is)

pub not_spelled : (n bins : ℕ) (e : Engine) → bypasses_after n 0 e ≡ None → spelled n e ≡ Some bins → 1 ≤ 0
not_spelled n bins e none some = absurd (none-some bins (spelled_none n e none ∙ some))

-- what is left of a value behind so many digits, less a product before those
abbrev pub less_product : ℕ → ℕ → ℕ → ℕ
less_product value r product = value - product * 2 ^ r % 18446744073709551616

-- n bins of which the number is known, over a register
pub record Taken (value held next n range wide number : ℕ) (bytes : List ℕ) (a : Ahead) : Type 0 where
  pub less : number * wide * 2 ^ (held - n) % 18446744073709551616 ≤ value
  pub kept : IsKept (less_product value (held - n) (number * wide)) (held - n) next bytes
  pub told : bypasses_after n 0 (engine range a)
      ≡ Some (number, engine range (ahead (less_product value (held - n) (number * wide)) (held - n) next bytes))
  pub live : IsLive (engine range (ahead (less_product value (held - n) (number * wide)) (held - n) next bytes))

pub taken : (value held next n range wide number : ℕ) (bytes : List ℕ) (a : Ahead)
    → Many value held next n range wide bytes a → spelled n (engine range a) ≡ Some number
    → Taken value held next n range wide number bytes a
taken value held next n range wide number bytes a m is =
    let q = value / 2 ^ (held - n) / wide in
    let same : q ≡ number = same_Some q number (sym (spelled_by n q _ _ m.told) ∙ is) in
    subst (λ k. Taken value held next n range wide k bytes a) same
    (record { less = m.less; kept = m.kept; told = m.told; live = m.live })
