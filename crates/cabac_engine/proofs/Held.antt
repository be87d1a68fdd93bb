-- A value of an offset and the digits behind it.
use Rattle.std.proofs.Common.{◌≡◌, ℕ, suc, ◌+◌, ◌-◌, ◌*◌, ◌/◌, ◌%◌, ◌^◌, ◌<◌, ◌≤◌, Bool, true, false, List, length}
use Rattle.std.proofs.Common.{take, drop, ◌++◌, refl, sym, ap, subst, ◌∙◌, arith, length-drop, drop-cons, lit<}
use Rattle.std.specs.Prelude.{slice_index, nat_le}
use Rattle.std.proofs.Math.Seq.{take-add}
use Rattle.std.proofs.lemmas.Nat.{pow-add, pow_pos, div-mul-add, mod-mul-add, div-add-mod'}
use Rattle.std.proofs.Math.Nat.{pow-le-pow_right, mul-le-mul_right, mod-eq_of_lt, mod-lt, div-lt_iff_lt-mul}
use Rattle.std.proofs.lemmas.Bool.{le-leb, lt-leb, leb-true, leb-false}
use Rattle.std.proofs.lemmas.List.{take-append-drop, length-take-le, drop-drop, take_at, drop_at}
use Rattle.spec_bits.specs.Bits.{bits, number_of}
use Rattle.spec_bits.specs.Spelling.{u_bits}
use Rattle.spec_bits.proofs.Places.{length-bits}
use Rattle.spec_bits.proofs.Digits.{length-u_bits, number_of-u_bits, number_of-below, number_of-append}
use Rattle.spec_bits.proofs.Bytes.{bits-cons, bits-append}
use Rattle.cabac_engine.specs.Ahead.{IsKept, reduced}

-- the bits from a byte on
drop-bits_of : (i : ℕ) (bytes : List ℕ) → i ≤ length bytes → drop (8 * i) (bits bytes) ≡ bits (drop i bytes)
drop-bits_of i bytes inside =
    let front : length (bits (take i bytes)) ≡ 8 * i =
    omega (arith, length-bits (take i bytes), length-take-le i bytes inside) in
    ap (λ x. drop (8 * i) (bits x)) (sym (take-append-drop i bytes))
    ∙ ap (drop (8 * i)) (bits-append (take i bytes) (drop i bytes))
    ∙ drop_at (bits (take i bytes)) (bits (drop i bytes)) (8 * i) front

pub byte_spelled : (i : ℕ) (bytes : List ℕ) → i < length bytes → slice_index bytes i < 256
    → slice_index bytes i ≡ number_of (take 8 (drop (8 * i) (bits bytes)))
byte_spelled i bytes inside small =
    let b = slice_index bytes i in
    let is : drop (8 * i) (bits bytes) ≡ u_bits 8 b ++ bits (drop (suc i) bytes) =
    drop-bits_of i bytes (omega arith) ∙ ap bits (drop-cons bytes i 0 inside) ∙ bits-cons b (drop (suc i) bytes) in
    sym (ap (λ x. number_of (take 8 x)) is
    ∙ ap number_of (take_at (u_bits 8 b) (bits (drop (suc i) bytes)) 8 (length-u_bits 8 b))
    ∙ number_of-u_bits 8 b small)

-- what some bits spell, and what so many more spell
pub spelled_apart : (bs : List Bool) (at n r : ℕ) → at + n + r ≤ length bs
    → number_of (take (n + r) (drop at bs))
    ≡ number_of (take n (drop at bs)) * 2 ^ r + number_of (take r (drop (at + n) bs))
spelled_apart bs at n r inside =
    let later : drop n (drop at bs) ≡ drop (at + n) bs = drop-drop n at bs in
    let long : length (take r (drop (at + n) bs)) ≡ r =
    length-take-le r (drop (at + n) bs) (omega (arith, length-drop (at + n) bs)) in
    ap number_of (take-add n r (drop at bs))
    ∙ ap (λ x. number_of (take n (drop at bs) ++ take r x)) later
    ∙ number_of-append (take n (drop at bs)) (take r (drop (at + n) bs))
    ∙ ap (λ k. number_of (take n (drop at bs)) * 2 ^ k + number_of (take r (drop (at + n) bs))) long

pub spelled_below : (bs : List Bool) (at n : ℕ) → at + n ≤ length bs → number_of (take n (drop at bs)) < 2 ^ n
spelled_below bs at n inside =
    let long : length (take n (drop at bs)) ≡ n = length-take-le n (drop at bs) (omega (arith, length-drop at bs)) in
    subst (λ k. number_of (take n (drop at bs)) < 2 ^ k) long (number_of-below (take n (drop at bs)))

-- a value, as its offset with n of the bits behind it, and the others
pub record Apart (value offset held next n : ℕ) (bytes : List ℕ) : Type 0 where
  pub whole : value
      ≡ (offset * 2 ^ n + number_of (take n (drop (8 * next - held) (bits bytes)))) * 2 ^ (held - n)
      + number_of (take (held - n) (drop (8 * next - held + n) (bits bytes)))
  pub below : number_of (take (held - n) (drop (8 * next - held + n) (bits bytes))) < 2 ^ (held - n)
  pub power : 2 ^ held ≡ 2 ^ n * 2 ^ (held - n)

joined : (q p r a b : ℕ) → q * (p * r) + (a * r + b) ≡ (q * p + a) * r + b
joined q p r a b = grind arith

pub apart : (value held next n : ℕ) (bytes : List ℕ) → n ≤ held → IsKept value held next bytes
    → Apart value (value / 2 ^ held) held next n bytes
apart value held next n bytes few kept =
    let bs = bits bytes in
    let at = 8 * next - held in
    let r = held - n in
    let a = number_of (take n (drop at bs)) in
    let b = number_of (take r (drop (at + n) bs)) in
    let sum : n + r ≡ held = omega arith in
    let inside : at + n + r ≤ length bs = omega (arith, length-bits bytes, kept.inside, kept.behind) in
    let power : 2 ^ held ≡ 2 ^ n * 2 ^ r = ap (λ k. 2 ^ k) (sym sum) ∙ pow-add 2 n r in
    let low : value % 2 ^ held ≡ a * 2 ^ r + b =
    kept.told ∙ ap (λ k. number_of (take k (drop at bs))) (sym sum) ∙ spelled_apart bs at n r inside in
    record {
      whole =
          sym (div-add-mod' value (2 ^ held))
          ∙ ap (λ x. value / 2 ^ held * 2 ^ held + x) low
          ∙ ap (λ p. value / 2 ^ held * p + (a * 2 ^ r + b)) power ∙ joined (value / 2 ^ held) (2 ^ n) (2 ^ r) a b;
      below = spelled_below bs (at + n) r inside;
      power = power;
    }

-- an offset and the digits behind it are kept
pub record Put (value offset held next : ℕ) (bytes : List ℕ) : Type 0 where
  pub kept : IsKept value held next bytes
  pub top : value / 2 ^ held ≡ offset

pub put : (value offset held next : ℕ) (bytes : List ℕ) → length bytes < 2 ^ 60 → next ≤ length bytes → held ≤ 55
    → held ≤ 8 * next → offset < 512
    → value ≡ offset * 2 ^ held + number_of (take held (drop (8 * next - held) (bits bytes)))
    → Put value offset held next bytes
put value offset held next bytes size inside few behind small is =
    let below = spelled_below (bits bytes) (8 * next - held) held (omega (arith, length-bits bytes)) in
    let d = number_of (take held (drop (8 * next - held) (bits bytes))) in
    let less : offset * 2 ^ held + d < 512 * 2 ^ held = grind (arith, below, small) in
    record {
      kept = record {
        size = size;
        inside = inside;
        few = few;
        behind = behind;
        small = omega (arith, less, is);
        told = ap (λ v. v % 2 ^ held) is ∙ mod-mul-add offset (2 ^ held) d below;
      };
      top = ap (λ v. v / 2 ^ held) is ∙ div-mul-add offset (2 ^ held) d below;
    }

-- a number before the bits that are held, in a word of 64 bits
pub shifted : (x held : ℕ) → x < 512 → held ≤ 55 → x * 2 ^ held % 18446744073709551616 ≡ x * 2 ^ held
shifted x held small few =
    let most : 2 ^ held ≤ 2 ^ 55 = pow-le-pow_right (let two : 0 < 2 = lit< tt in two) few in
    let below : x * 2 ^ held ≤ 511 * 2 ^ held =
    mul-le-mul_right (2 ^ held) (let le : x ≤ 511 = omega arith in le) in
    mod-eq_of_lt (omega arith)

-- an offset is compared before its digits
reaches_if : (x w r b : ℕ) (test : Bool) → nat_le x w ≡ test → b < r → nat_le (x * r) (w * r + b) ≡ test
reaches_if x w r b true is below =
    le-leb (x * r) (w * r + b) (omega (arith, mul-le-mul_right r (leb-true x w is)))
reaches_if x w r b false is below =
    let more : w + 1 ≤ x = omega (arith, leb-false x w is) in
    lt-leb (x * r) (w * r + b) (omega (arith, mul-le-mul_right r more))

pub reaches_same : (x w r b : ℕ) → b < r → nat_le (x * r) (w * r + b) ≡ nat_le x w
reaches_same x w r b below = reaches_if x w r b (nat_le x w) refl below

pub reached : (x value held next : ℕ) (bytes : List ℕ) → x < 512 → IsKept value held next bytes
    → nat_le (x * 2 ^ held % 18446744073709551616) value ≡ nat_le x (value / 2 ^ held)
reached x value held next bytes small kept =
    ap (λ n. nat_le n value) (shifted x held small kept.few)
    ∙ ap (λ v. nat_le (x * 2 ^ held) v) (sym (div-add-mod' value (2 ^ held)))
    ∙ reaches_same x (value / 2 ^ held) (2 ^ held) (value % 2 ^ held) (mod-lt value (pow_pos held))

-- a byte more
appended_is : (q p b byte : ℕ) → 256 * (q * p + b) + byte ≡ q * (p * 2 ^ 8) + (b * 2 ^ 8 + byte)
appended_is q p b byte = grind arith

pub appended : (value held next byte : ℕ) (bytes : List ℕ) → IsKept value held next bytes → held < 48
    → next < length bytes → byte ≡ number_of (take 8 (drop (8 * next) (bits bytes)))
    → Put (256 * value + byte) (value / 2 ^ held) (held + 8) (next + 1) bytes
appended value held next byte bytes kept few inside is =
    let bs = bits bytes in
    let at = 8 * next - held in
    let q = value / 2 ^ held in
    let place : 8 * (next + 1) - (held + 8) ≡ at = omega arith in
    let end : at + held ≡ 8 * next = omega (arith, kept.behind) in
    let long : at + held + 8 ≤ length bs = omega (arith, length-bits bytes) in
    let digits : number_of (take (held + 8) (drop at bs)) ≡ number_of (take held (drop at bs)) * 2 ^ 8 + byte =
    spelled_apart bs at held 8 long
    ∙ ap (λ k. number_of (take held (drop at bs)) * 2 ^ 8 + number_of (take 8 (drop k bs))) end
    ∙ ap (λ d. number_of (take held (drop at bs)) * 2 ^ 8 + d) (sym is) in
    let whole : 256 * value + byte
    ≡ q * 2 ^ (held + 8) + number_of (take (held + 8) (drop (8 * (next + 1) - (held + 8)) bs)) =
    ap (λ v. 256 * v + byte) (sym (div-add-mod' value (2 ^ held)) ∙ ap (λ x. q * 2 ^ held + x) kept.told)
    ∙ appended_is q (2 ^ held) (number_of (take held (drop at bs))) byte
    ∙ ap (λ p. q * p + (number_of (take held (drop at bs)) * 2 ^ 8 + byte)) (sym (pow-add 2 held 8))
    ∙ ap (λ d. q * 2 ^ (held + 8) + d) (sym digits)
    ∙ ap (λ k. q * 2 ^ (held + 8) + number_of (take (held + 8) (drop k bs))) (sym place) in
    let small : q < 512 = (div-lt_iff_lt-mul (pow_pos held)).1 kept.small in
    put (256 * value + byte) q (held + 8) (next + 1) bytes kept.size (omega arith) (omega arith) (omega arith) small
    whole

-- some bits taken to the offset, and a number taken off it
less_is : (q less p r a b : ℕ) → less ≤ q → (q * p + a) * r + b - less * (p * r) ≡ ((q - less) * p + a) * r + b
less_is q less p r a b few =
    let k = q - less in
    let sum : q ≡ less + k = omega arith in
    let e : ((less + k) * p + a) * r + b ≡ less * (p * r) + ((k * p + a) * r + b) = grind arith in
    let e2 : (q * p + a) * r + b ≡ less * (p * r) + ((k * p + a) * r + b) = ap (λ x. (x * p + a) * r + b) sum ∙ e in
    omega (arith, e2)

pub lowered : (value held next n less : ℕ) (bytes : List ℕ) → IsKept value held next bytes → n ≤ held
    → less ≤ value / 2 ^ held → (value / 2 ^ held - less + 1) * 2 ^ n ≤ 512
    → Put (value - less * 2 ^ held % 18446744073709551616)
    ((value / 2 ^ held - less) * 2 ^ n + number_of (take n (drop (8 * next - held) (bits bytes)))) (held - n) next bytes
lowered value held next n less bytes kept few under small =
    let bs = bits bytes in
    let at = 8 * next - held in
    let r = held - n in
    let q = value / 2 ^ held in
    let a = number_of (take n (drop at bs)) in
    let b = number_of (take r (drop (at + n) bs)) in
    let parts = apart value held next n bytes few kept in
    let place : at + n ≡ 8 * next - r = omega (arith, kept.behind) in
    let inside : at + n ≤ length bs = omega (arith, length-bits bytes, kept.inside, kept.behind) in
    let digit : a < 2 ^ n = spelled_below bs at n inside in
    let more : (q - less + 1) * 2 ^ n ≡ (q - less) * 2 ^ n + 2 ^ n = grind arith in
    let low : q < 512 = (div-lt_iff_lt-mul (pow_pos held)).1 kept.small in
    let is : value - less * 2 ^ held % 18446744073709551616
    ≡ ((q - less) * 2 ^ n + a) * 2 ^ r + number_of (take r (drop (8 * next - r) bs)) =
    ap (λ x. value - x) (shifted less held (omega arith) kept.few) ∙ ap (λ v. v - less * 2 ^ held) parts.whole
    ∙ ap (λ p. (q * 2 ^ n + a) * 2 ^ r + b - less * p) parts.power
    ∙ less_is q less (2 ^ n) (2 ^ r) a b under
    ∙ ap (λ k. ((q - less) * 2 ^ n + a) * 2 ^ r + number_of (take r (drop k bs))) place in
    put (value - less * 2 ^ held % 18446744073709551616) ((q - less) * 2 ^ n + a) r next bytes kept.size kept.inside
    (omega (arith, kept.few)) (omega (arith, kept.behind)) (omega arith) is

-- one bit taken to the offset
pub one_apart : (value held next : ℕ) (bytes : List ℕ) → IsKept value held next bytes → 1 ≤ held
    → value ≡ (2 * (value / 2 ^ held) + number_of (take 1 (drop (8 * next - held) (bits bytes)))) * 2 ^ (held - 1)
    + number_of (take (held - 1) (drop (8 * next - (held - 1)) (bits bytes)))
one_apart value held next bytes kept some =
    let bs = bits bytes in
    let at = 8 * next - held in
    let parts = apart value held next 1 bytes some kept in
    let place : at + 1 ≡ 8 * next - (held - 1) = omega (arith, kept.behind) in
    let twice : value / 2 ^ held * 2 ^ 1 ≡ 2 * (value / 2 ^ held) = omega arith in
    parts.whole
    ∙ ap (λ x. (x + number_of (take 1 (drop at bs))) * 2 ^ (held - 1) + number_of (take (held - 1) (drop (at + 1) bs)))
    twice
    ∙ ap (λ k. (2 * (value / 2 ^ held) + number_of (take 1 (drop at bs))) * 2 ^ (held - 1)
    + number_of (take (held - 1) (drop k bs))) place

-- what one more bit does
pub record Halved (value held next range : ℕ) (bytes : List ℕ) : Type 0 where
  pub test : nat_le (range * 2 ^ (held - 1) % 18446744073709551616) value
      ≡ nat_le range (2 * (value / 2 ^ held) + number_of (take 1 (drop (8 * next - held) (bits bytes))))
  pub over : range * 2 ^ (held - 1) % 18446744073709551616 ≤ value
      → Put (value - range * 2 ^ (held - 1) % 18446744073709551616)
      (reduced range (2 * (value / 2 ^ held) + number_of (take 1 (drop (8 * next - held) (bits bytes)))))
      (held - 1) next bytes
  pub under : value < range * 2 ^ (held - 1) % 18446744073709551616
      → Put value (reduced range (2 * (value / 2 ^ held) + number_of (take 1 (drop (8 * next - held) (bits bytes)))))
      (held - 1) next bytes

minus_is : (w range r b : ℕ) → range ≤ w → w * r + b - range * r ≡ (w - range) * r + b
minus_is w range r b few =
    let k = w - range in
    let sum : w ≡ range + k = omega arith in
    let e : (range + k) * r + b ≡ range * r + (k * r + b) = grind arith in
    let e2 : w * r + b ≡ range * r + (k * r + b) = ap (λ x. x * r + b) sum ∙ e in
    omega (arith, e2)

pub halved : (value held next range : ℕ) (bytes : List ℕ) → IsKept value held next bytes → 1 ≤ held
    → value / 2 ^ held < range → range ≤ 510 → Halved value held next range bytes
halved value held next range bytes kept some below high =
    let bs = bits bytes in
    let at = 8 * next - held in
    let r = held - 1 in
    let a = number_of (take 1 (drop at bs)) in
    let b = number_of (take r (drop (8 * next - r) bs)) in
    let w = 2 * (value / 2 ^ held) + a in
    let is : value ≡ w * 2 ^ r + b = one_apart value held next bytes kept some in
    let length_is = length-bits bytes in
    let digit : a < 2 ^ 1 = spelled_below bs at 1 (omega (arith, length_is, kept.inside, kept.behind)) in
    let rest : b < 2 ^ r = spelled_below bs (8 * next - r) r (omega (arith, length_is, kept.inside, kept.behind)) in
    let fits : range * 2 ^ r % 18446744073709551616 ≡ range * 2 ^ r =
    shifted range r (omega arith) (omega (arith, kept.few)) in
    let few : r ≤ 55 = omega (arith, kept.few) in
    let behind : r ≤ 8 * next = omega (arith, kept.behind) in
    let test : nat_le (range * 2 ^ r % 18446744073709551616) value ≡ nat_le range w =
    ap (λ n. nat_le n value) fits ∙ ap (λ v. nat_le (range * 2 ^ r) v) is ∙ reaches_same range w (2 ^ r) b rest in
    record {
      test = test;
      over =
          λ le. let yes : nat_le range w ≡ true = sym test ∙ le-leb _ _ le in
          let so : range ≤ w = leb-true range w yes in
          rw yes (put (value - range * 2 ^ r % 18446744073709551616) (w - range) r next bytes kept.size kept.inside few
          behind (omega arith)
          (ap (λ n. value - n) fits ∙ ap (λ v. v - range * 2 ^ r) is ∙ minus_is w range (2 ^ r) b so));
      under =
          λ lt. let no : nat_le range w ≡ false = sym test ∙ lt-leb _ _ lt in
          let so : w < range = leb-false range w no in
          rw no (put value w r next bytes kept.size kept.inside few behind (omega arith) is);
    }

-- a value with room for a byte
pub value_small : (value held next : ℕ) (bytes : List ℕ) → IsKept value held next bytes → held < 48
    → value < 72057594037927936
value_small value held next bytes kept few =
    let most : 2 ^ held ≤ 2 ^ 47 =
    pow-le-pow_right (let two : 0 < 2 = lit< tt in two) (let le : held ≤ 47 = omega arith in le) in
    omega (arith, kept.small, most)

same_if-not : (n held left : ℕ) (test : Bool) → nat_le n left ≡ test → held < n → (n ≤ left → n ≤ held) → false ≡ test
same_if-not n held left true is less enough = absurd (omega (arith, enough (leb-true n left is)))
same_if-not n held left false is less enough = refl

same_if : (n held left : ℕ) (test : Bool) → nat_le n held ≡ test → held ≤ left → (n ≤ left → n ≤ held)
    → test ≡ nat_le n left
same_if n held left true is few enough = sym (le-leb n left (omega (arith, leb-true n held is)))
same_if n held left false is few enough = same_if-not n held left (nat_le n left) refl (leb-false n held is) enough

pub same_test : (n held left : ℕ) → held ≤ left → (n ≤ left → n ≤ held) → nat_le n held ≡ nat_le n left
same_test n held left few enough = same_if n held left (nat_le n held) refl few enough

-- a value over a range, at some of its digits
pub record Divided (value held next n range : ℕ) (bytes : List ℕ) : Type 0 where
  pub whole : value / 2 ^ held * 2 ^ n + number_of (take n (drop (8 * next - held) (bits bytes)))
      ≡ value / 2 ^ (held - n) / range * range + value / 2 ^ (held - n) % range
  pub put : Put (value - value / 2 ^ (held - n) / range * range * 2 ^ (held - n)) (value / 2 ^ (held - n) % range)
      (held - n) next bytes
  pub few : value / 2 ^ (held - n) / range < 2 ^ n
  pub less : value / 2 ^ (held - n) / range * range * 2 ^ (held - n) ≤ value
  pub small : value < 18446744073709551616

divided_offset : (q range p d : ℕ) → q < range → d < p → q * p + d < p * range
divided_offset q range p d below digit =
    let more : q + 1 ≤ range = omega arith in
    let sum : (q + 1) * p ≡ q * p + p = grind arith in
    let turned : range * p ≡ p * range = grind arith in
    omega (arith, mul-le-mul_right p more, sum, turned)

pub divided : (value held next n range : ℕ) (bytes : List ℕ) → IsKept value held next bytes → n ≤ held
    → value / 2 ^ held < range → range ≤ 510 → Divided value held next n range bytes
divided value held next n range bytes kept few below high =
    let bs = bits bytes in
    let at = 8 * next - held in
    let r = held - n in
    let a = number_of (take n (drop at bs)) in
    let b = number_of (take r (drop (at + n) bs)) in
    let parts = apart value held next n bytes few kept in
    let w = value / 2 ^ held * 2 ^ n + a in
    let w_is : value / 2 ^ r ≡ w = ap (λ v. v / 2 ^ r) parts.whole ∙ div-mul-add w (2 ^ r) b parts.below in
    let place : at + n ≡ 8 * next - r = omega (arith, kept.behind) in
    let inside : at + n ≤ length bs = omega (arith, length-bits bytes, kept.inside, kept.behind) in
    let digit : a < 2 ^ n = spelled_below bs at n inside in
    let q = value / 2 ^ r / range in
    let m = value / 2 ^ r % range in
    let apart_is : q * range + m ≡ value / 2 ^ r = div-add-mod' (value / 2 ^ r) range in
    let le : q * range ≤ w = omega (arith, apart_is, w_is) in
    let rest_is : w - q * range ≡ m = omega (arith, apart_is, w_is) in
    let taken = mul-le-mul_right (2 ^ r) le in
    let most : 2 ^ held ≤ 2 ^ 55 = pow-le-pow_right (let two : 0 < 2 = lit< tt in two) kept.few in
    let positive : 0 < range = omega arith in
    let rest_small : m < range = mod-lt (value / 2 ^ r) positive in
    record {
      whole = sym (apart_is ∙ w_is);
      put =
          put (value - q * range * 2 ^ r) m r next bytes kept.size kept.inside (omega (arith, kept.few))
          (omega (arith, kept.behind)) (omega arith)
          (ap (λ v. v - q * range * 2 ^ r) parts.whole ∙ minus_is w (q * range) (2 ^ r) b le
          ∙ ap (λ x. x * 2 ^ r + b) rest_is ∙ ap (λ k. m * 2 ^ r + number_of (take r (drop k bs))) place);
      few =
          (div-lt_iff_lt-mul positive).1
          (subst (λ x. x < 2 ^ n * range) (sym w_is) (divided_offset (value / 2 ^ held) range (2 ^ n) a below digit));
      less = omega (arith, taken, parts.whole);
      small = omega (arith, kept.small, most);
    }
