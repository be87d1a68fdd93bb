-- What a writer holds stands for an interval, through each of its steps.
use Rattle.std.proofs.Common.{◌≡◌, ℕ, ◌+◌, ◌-◌, ◌*◌, ◌/◌, ◌%◌, ◌^◌, ◌<◌, ◌≤◌, List, [], ◌∷◌, ◌++◌, length, replicate}
use Rattle.std.proofs.Common.{false, refl, sym, ap, subst, ◌∙◌, arith, length-append}
use Rattle.std.proofs.Math.Nat.{add-mul, mul_assoc, div-lt_iff_lt-mul, mod-eq_of_lt, pow-le-pow_right}
use Rattle.std.proofs.lemmas.Nat.{pow_pos, shl-shr, pow-add, mul-le, shr_split, shr_below, mod_below, shl_below}
use Rattle.std.proofs.lemmas.Nat.{mod-mul-add}
use Rattle.spec_bits.specs.Bits.{bits, number_of}
use Rattle.spec_bits.specs.Spelling.{u_bits}
use Rattle.spec_bits.proofs.Places.{length-bits}
use Rattle.spec_bits.proofs.Bytes.{u_bits-add, u_bits-mod}
use Rattle.spec_bits.proofs.Digits.{u_bits-number_of, u_bits-zero}
use Rattle.cabac_writer.specs.Coding.{Coding, coded_bits}
use Rattle.cabac_writer.specs.Held.{coding_of, IsHeld}
use Rattle.cabac_writer.proofs.Bytes.{number_push, number_nil}
use Rattle.std.proofs.Common.{Fits, w8}
use Rattle.std.specs.Int.Count.{count_leading_zeros}
use Rattle.spec_cabac.specs.Engine.{doublings}
use Rattle.spec_cabac.proofs.Renormalization.{Doubled-range, leading_zeros-doublings}

-- a part of the interval
pub record Narrowed (bytes : List ℕ) (range low count : ℕ) (c : Coding) : Type 0 where
  pub held : IsHeld bytes range low count
  pub coding : coding_of bytes range low count ≡ c

pub whole_part : (bytes : List ℕ) (range low count skip part : ℕ) → IsHeld bytes range low count → skip + part ≤ range
    → 2 ≤ part → low + skip < 2 ^ count
    → Narrowed bytes part (low + skip) count
    (record { range = part; low = (coding_of bytes range low count).low + skip; size = 8 * length bytes + count })
whole_part bytes range low count skip part is inside some small = record {
  held = record {
    few = is.few;
    many = is.many;
    small = small;
    least = some;
    greatest = omega (arith, is.greatest);
    fits = omega (arith, is.fits);
  };
  coding =
      let e : number_of (bits bytes) * 2 ^ count + (low + skip) ≡ number_of (bits bytes) * 2 ^ count + low + skip =
      omega arith in
      rw e refl;
}

cancel : (a b n : ℕ) → a * 2 ^ n < b * 2 ^ n → a < b
cancel a b n h = subst (λ q. q < b) (shl-shr a n) ((div-lt_iff_lt-mul (pow_pos n)).1 h)

-- where a carry comes, the bytes can take it
pub room_for_carry : (bytes : List ℕ) (range low count skip part : ℕ) → IsHeld bytes range low count
    → skip + part ≤ range → 2 ≤ part → 2 ^ count ≤ low + skip
    → number_of (bits bytes) + 1 < 2 ^ (8 * length bytes)
room_for_carry bytes range low count skip part is inside some over =
    let n : ℕ = number_of (bits bytes) in
    let less : (n + 1) * 2 ^ count < 2 ^ (8 * length bytes) * 2 ^ count =
    omega (arith, is.fits, add-mul n 1 (2 ^ count), pow-add 2 (8 * length bytes) count) in
    cancel (n + 1) (2 ^ (8 * length bytes)) count less

pub part_carried : (bytes after : List ℕ) (range low count skip part : ℕ) → IsHeld bytes range low count
    → skip < 512 → skip + part ≤ range → 2 ≤ part → 2 ^ count ≤ low + skip
    → number_of (bits after) ≡ number_of (bits bytes) + 1 → length after ≡ length bytes
    → Narrowed after part (low + skip - 2 ^ count) count
    (record { range = part; low = (coding_of bytes range low count).low + skip; size = 8 * length bytes + count })
part_carried bytes after range low count skip part is short inside some over more same =
    let n : ℕ = number_of (bits bytes) in
    let wide : 2 ^ 9 ≤ 2 ^ count = pow-le-pow_right {n = 2} (omega arith) is.few in
    let e : number_of (bits after) * 2 ^ count + (low + skip - 2 ^ count) ≡ n * 2 ^ count + low + skip =
    ap (λ k. k * 2 ^ count + (low + skip - 2 ^ count)) more
    ∙ (let f : (n + 1) * 2 ^ count + (low + skip - 2 ^ count) ≡ n * 2 ^ count + low + skip =
    omega (arith, add-mul n 1 (2 ^ count)) in f) in
    let fits : n * 2 ^ count + low + skip + part ≤ 2 ^ (8 * length bytes + count) = omega (arith, is.fits) in
    record {
      held = record {
        few = is.few;
        many = is.many;
        small = omega (arith, is.small, wide);
        least = some;
        greatest = omega (arith, is.greatest);
        fits = rw (e, same) fits;
      };
      coding = rw (e, same) refl;
    }

-- more bits
scaled_low : (n k low count s : ℕ) → (n * 2 ^ count + low) * 2 ^ k ≡ n * 2 ^ (count + k) + low * 2 ^ k
scaled_low n k low count s =
    omega (
      arith,
      add-mul (n * 2 ^ count) low (2 ^ k),
      mul_assoc n (2 ^ count) (2 ^ k),
      ap (λ p. n * p) (pow-add 2
          count k),
    )

abbrev pub shifted : List ℕ → ℕ → ℕ → ℕ → ℕ → Coding
shifted bytes range low count k = record {
  range = range * 2 ^ k;
  low = (coding_of bytes range low count).low * 2 ^ k;
  size = 8 * length bytes + count + k;
}

fits_scaled : (n k range low count size : ℕ) → n * 2 ^ count + low + range ≤ 2 ^ (size + count)
    → n * 2 ^ (count + k) + low * 2 ^ k + range * 2 ^ k ≤ 2 ^ (size + (count + k))
fits_scaled n k range low count size fits =
    let wider : (n * 2 ^ count + low + range) * 2 ^ k ≤ 2 ^ (size + count) * 2 ^ k =
    mul-le (n * 2 ^ count + low + range) (2 ^ k) (2 ^ (size + count)) (2 ^ k) fits (omega arith) in
    let e : size + count + k ≡ size + (count + k) = omega arith in
    rw (← e)
    (omega (
      arith,
      wider,
      add-mul (n * 2 ^ count + low) range (2 ^ k),
      scaled_low n k low count 0,
      pow-add 2 (size + count) k,
    ))

pub shifted_inside : (bytes : List ℕ) (range low count k : ℕ) → IsHeld bytes range low count → range * 2 ^ k ≤ 1020
    → count + k ≤ 16
    → Narrowed bytes (range * 2 ^ k) (low * 2 ^ k) (count + k) (shifted bytes range low count k)
shifted_inside bytes range low count k is high inside =
    let one : 0 < 2 ^ k = pow_pos k in
    let more : range * 1 ≤ range * 2 ^ k = mul-le range 1 range (2 ^ k) (omega arith) (omega arith) in
    let place : 8 * length bytes + (count + k) ≡ 8 * length bytes + count + k = omega arith in
    record {
      held = record {
        few = omega (arith, is.few);
        many = inside;
        small = shl_below low count k is.small;
        least = omega (arith, more, is.least);
        greatest = high;
        fits = fits_scaled (number_of (bits bytes)) k range low count (8 * length bytes) is.fits;
      };
      coding = rw (scaled_low (number_of (bits bytes)) k low count 0, place) refl;
    }

-- the greatest eight of the bits that are held, as a byte
pushed_number : (n whole count : ℕ) → (n * 256 + whole / 2 ^ count) * 2 ^ count + whole % 2 ^ count
    ≡ n * 2 ^ (count + 8) + whole
pushed_number n whole count =
    omega (
      arith,
      add-mul (n * 256) (whole / 2 ^ count) (2 ^ count),
      shr_split whole count,
      mul_assoc n 256 (2 ^ count),
      ap (λ p. n * p) (pow-add 2 8 count),
      ap (λ k. n * 2 ^ k) (let e : count + 8 ≡ 8 + count = omega arith in e),
    )

pub shifted_out : (bytes : List ℕ) (range low count k left : ℕ) → IsHeld bytes range low count → range * 2 ^ k ≤ 1020
    → k ≤ 8 → count + k ≡ left + 8 → 9 ≤ left
    → Narrowed (bytes ++ low * 2 ^ k / 2 ^ left ∷ []) (range * 2 ^ k) (low * 2 ^ k % 2 ^ left) left
    (shifted bytes range low count k)
shifted_out bytes range low count k left is high few e long =
    let n : ℕ = number_of (bits bytes) in
    let one : 0 < 2 ^ k = pow_pos k in
    let more : range * 1 ≤ range * 2 ^ k = mul-le range 1 range (2 ^ k) (omega arith) (omega arith) in
    let small : low * 2 ^ k < 2 ^ (8 + left) =
    subst (λ i. low * 2 ^ k < 2 ^ i) (let f : count + k ≡ 8 + left =
    omega arith in f) (shl_below low count k is.small) in
    let byte : low * 2 ^ k / 2 ^ left < 256 = shr_below (low * 2 ^ k) 8 left small in
    let count_is : length (bytes ++ low * 2 ^ k / 2 ^ left ∷ []) ≡ length bytes + 1 =
    length-append bytes (low * 2 ^ k / 2 ^ left ∷ []) in
    let place : 8 * length (bytes ++ low * 2 ^ k / 2 ^ left ∷ []) + left
    ≡ 8 * length bytes + (count + k) = omega arith in
    let place_2 : 8 * length bytes + (count + k) ≡ 8 * length bytes + count + k = omega arith in
    let same : number_of (bits (bytes ++ low * 2 ^ k / 2 ^ left ∷ [])) * 2 ^ left + low * 2 ^ k % 2 ^ left
    ≡ n * 2 ^ (count + k) + low * 2 ^ k =
    ap (λ i. i * 2 ^ left + low * 2 ^ k % 2 ^ left) (number_push bytes (low * 2 ^ k / 2 ^ left) byte)
    ∙ pushed_number n (low * 2 ^ k) left ∙ ap (λ i. n * 2 ^ i + low * 2 ^ k) (sym e) in
    record {
      held = record {
        few = long;
        many = omega (arith, is.many);
        small = mod_below (low * 2 ^ k) (2 ^ left) (pow_pos left);
        least = omega (arith, more, is.least);
        greatest = high;
        fits = rw (same, place) (fits_scaled n k range low count (8 * length bytes) is.fits);
      };
      coding = rw (same, place, scaled_low n k low count 0, place_2) refl;
    }

-- ---- the end

shifted_rest : (f z : ℕ) → f * 2 ^ z % 2 ^ z ≡ 0
shifted_rest f z =
    let e : f * 2 ^ z + 0 ≡ f * 2 ^ z = omega arith in
    ap (λ i. i % 2 ^ z) (sym e) ∙ mod-mul-add f (2 ^ z) 0 (pow_pos z)

odd_is : (low : ℕ) → 2 * (low / 2) + 1 ≡ low + 1 - low % 2
odd_is low = omega arith

zero_bits : (f z : ℕ) → u_bits z (f * 2 ^ z) ≡ replicate z false
zero_bits f z =
    sym (u_bits-mod z z (f * 2 ^ z) (omega arith)) ∙ ap (u_bits z) (shifted_rest f z) ∙ u_bits-zero z

-- the last bits, the least of which is set, and zeros up to the end of a byte
pub finished : (bytes : List ℕ) (range low count : ℕ) (odd : ℕ) (all : List ℕ) → IsHeld bytes range low count
    → odd ≡ 2 * (low / 2) + 1
    → number_of (bits all) ≡ (number_of (bits bytes) * 2 ^ count + odd) * 2 ^ (16 - count)
    → length all ≡ length bytes + 2
    → bits all ≡ coded_bits (coding_of bytes range low count) ++ replicate (16 - count) false
unfolding coded_bits
finished bytes range low count odd all is odd_is number count_is =
    let n : ℕ = number_of (bits bytes) in
    let z : ℕ = 16 - count in
    let f : ℕ = n * 2 ^ count + odd in
    let len : length (bits all) ≡ 8 * length bytes + count + z = omega (arith, length-bits all, is.many) in
    let half : 2 * ((n * 2 ^ count + low) / 2) + 1 ≡ f =
    let even : n * 2 ^ count ≡ 2 * (n * 2 ^ (count - 1)) =
    let e : count ≡ 1 + (count - 1) = omega (arith, is.few) in
    omega (
      arith,
      ap (λ i. n * 2 ^ i) e,
      ap (λ p. n * p) (pow-add 2 1 (count - 1)),
      mul_assoc n 2 (2 ^ (count - 1)),
      mul_assoc 2 n (2 ^ (count - 1)),
      ap (λ m. m * 2 ^ (count - 1)) (let c : n * 2 ≡ 2 * n = omega arith in c),
    ) in
    omega (arith, even) in
    sym (u_bits-number_of (bits all)) ∙ ap (λ i. u_bits i (number_of (bits all))) len
    ∙ ap (u_bits (8 * length bytes + count + z)) number
    ∙ u_bits-add (8 * length bytes + count) z (f * 2 ^ z)
    ∙ ap (λ i. u_bits (8 * length bytes + count) i ++ u_bits z (f * 2 ^ z)) (shl-shr f z)
    ∙ ap (λ i. u_bits (8 * length bytes + count) i ++ u_bits z (f * 2 ^ z)) (sym half)
    ∙ ap (λ l. u_bits (8 * length bytes + count) (2 * ((n * 2 ^ count + low) / 2) + 1) ++ l) (zero_bits f z)

-- ---- the same in numbers of 32 bits

low_32 : (low count k : ℕ) → low < 2 ^ count → count + k ≤ 24 → low * 2 ^ k % 4294967296 ≡ low * 2 ^ k
low_32 low count k small few =
    let most : 2 ^ (count + k) ≤ 2 ^ 24 = pow-le-pow_right {n = 2} (omega arith) few in
    mod-eq_of_lt (omega (arith, shl_below low count k small, most))

pub inside_32 : (bytes : List ℕ) (range low count k : ℕ) → IsHeld bytes range low count → range * 2 ^ k ≤ 1020
    → count + k ≤ 16
    → Narrowed bytes (range * 2 ^ k % 4294967296) (low * 2 ^ k % 4294967296) (count + k)
    (shifted bytes range low count k)
inside_32 bytes range low count k is high inside =
    let r : range * 2 ^ k % 4294967296 ≡ range * 2 ^ k = mod-eq_of_lt (omega arith) in
    rw (r, low_32 low count k is.small (omega arith)) (shifted_inside bytes range low count k is high inside)

fits_8 : (n : ℕ) → n < 256 → Fits w8 n
fits_8 n h = omega arith

pub byte_fits : (low count k : ℕ) → low < 2 ^ count → count ≤ 16 → k ≤ 8 → 16 < count + k
    → Fits w8 (low * 2 ^ k % 4294967296 / 2 ^ (count + k - 8))
byte_fits low count k small many few over =
    let e : 8 + (count + k - 8) ≡ count + k = omega arith in
    let below : low * 2 ^ k / 2 ^ (count + k - 8) < 2 ^ 8 =
    shr_below (low * 2 ^ k) 8 (count + k - 8) (rw e (shl_below low count k small)) in
    rw (low_32 low count k small (omega arith)) (fits_8 _ (omega arith))

pub out_32 : (bytes after : List ℕ) (range low count k : ℕ) → IsHeld bytes range low count → range * 2 ^ k ≤ 1020
    → k ≤ 8 → 16 < count + k
    → after ≡ bytes ++ low * 2 ^ k % 4294967296 / 2 ^ (count + k - 8) ∷ []
    → Narrowed after (range * 2 ^ k % 4294967296)
    (low * 2 ^ k % 4294967296 % (1 * 2 ^ (count + k - 8) % 4294967296)) (count + k - 8)
    (shifted bytes range low count k)
out_32 bytes after range low count k is high few over items =
    let left : ℕ = count + k - 8 in
    let e : count + k ≡ left + 8 = omega arith in
    let r : range * 2 ^ k % 4294967296 ≡ range * 2 ^ k = mod-eq_of_lt (omega arith) in
    let l : low * 2 ^ k % 4294967296 ≡ low * 2 ^ k = low_32 low count k is.small (omega (arith, is.many)) in
    let short : left ≤ 16 = omega (arith, is.many) in
    let most : 2 ^ left ≤ 2 ^ 16 = pow-le-pow_right {n = 2} (omega arith) short in
    let w : 1 * 2 ^ left % 4294967296 ≡ 2 ^ left =
    mod-eq_of_lt (omega arith) ∙ (let one : 1 * 2 ^ left ≡ 2 ^ left = omega arith in one) in
    rw (items, r, l, w) (shifted_out bytes range low count k left is high few e (omega arith))

pub new_held : (bytes : List ℕ) → bytes ≡ [] → Narrowed bytes 510 0 9 (record { range = 510; low = 0; size = 9 })
new_held bytes none =
    rw none (record {
      held = record {
        few = omega arith;
        many = omega arith;
        small = omega arith;
        least = omega arith;
        greatest = omega arith;
        fits = omega (arith, number_nil);
      };
      coding = rw number_nil refl;
    })

-- how a writer counts doublings
pub doubled_32 : (range : ℕ) → 2 ≤ range → range ≤ 510 → (23 ≤ count_leading_zeros 32 range)
    × (count_leading_zeros 32 range - 23 ≡ doublings range) × (doublings range ≤ 7)
    × (range * 2 ^ doublings range ≤ 510) × (256 ≤ range * 2 ^ doublings range)
doubled_32 range least greatest =
    let e = leading_zeros-doublings range least greatest in
    let d = Doubled-range range least greatest in
    (omega (arith, e), omega (arith, e), d.few, d.high, d.low)

-- the two bytes behind the last bin
tail_of : (low count : ℕ) → low < 2 ^ count → 9 ≤ count → count ≤ 16
    → (low / 2 * 2 + 1) * 2 ^ (16 - count) < 65536
tail_of low count small few many =
    let even : 2 ^ count ≡ 2 * 2 ^ (count - 1) =
    ap (λ k. 2 ^ k) (let e : count ≡ 1 + (count - 1) = omega arith in e) ∙ pow-add 2 1 (count - 1) in
    let odd : low / 2 * 2 + 1 < 2 ^ count = omega (arith, even) in
    subst (λ k. (low / 2 * 2 + 1) * 2 ^ (16 - count) < 2 ^ k) (let e : count + (16 - count) ≡ 16 = omega arith in e)
    (shl_below (low / 2 * 2 + 1) count (16 - count) odd)

pub tail_fits : (low count : ℕ) → low < 2 ^ count → 9 ≤ count → count ≤ 16
    → Fits w8 ((low / 2 * 2 + 1) * 2 ^ (16 - count) % 4294967296 / 256)
tail_fits low count small few many =
    let below = tail_of low count small few many in
    let w : (low / 2 * 2 + 1) * 2 ^ (16 - count) % 4294967296 ≡ (low / 2 * 2 + 1) * 2 ^ (16 - count) =
    mod-eq_of_lt (omega arith) in
    rw w (fits_8 _ (omega arith))

pub flushed : (bytes all : List ℕ) (range low count t : ℕ) → IsHeld bytes range low count
    → t ≡ (low / 2 * 2 + 1) * 2 ^ (16 - count) % 4294967296
    → all ≡ (bytes ++ t / 256 ∷ []) ++ t % 256 ∷ []
    → bits all ≡ coded_bits (coding_of bytes range low count) ++ replicate (16 - count) false
flushed bytes all range low count t is t_is items =
    let below = tail_of low count is.small is.few is.many in
    let w : (low / 2 * 2 + 1) * 2 ^ (16 - count) % 4294967296 ≡ (low / 2 * 2 + 1) * 2 ^ (16 - count) =
    mod-eq_of_lt (omega arith) in
    let odd : low / 2 * 2 + 1 ≡ 2 * (low / 2) + 1 = omega arith in
    let t_low : t ≡ (low / 2 * 2 + 1) * 2 ^ (16 - count) = t_is ∙ w in
    let two : 2 ^ 16 ≡ 2 ^ count * 2 ^ (16 - count) =
    ap (λ k. 2 ^ k) (let e : 16 ≡ count + (16 - count) = omega (arith, is.many) in e) ∙ pow-add 2 count (16 - count) in
    let number : number_of (bits all)
    ≡ (number_of (bits bytes) * 2 ^ count + (low / 2 * 2 + 1)) * 2 ^ (16 - count) =
    ap (λ l. number_of (bits l)) items ∙ number_push (bytes ++ t / 256 ∷ []) (t % 256) (omega arith)
    ∙ ap (λ n. n * 256 + t % 256) (number_push bytes (t / 256) (omega (arith, t_low)))
    ∙ (let e : (number_of (bits bytes) * 256 + t / 256) * 256 + t % 256
    ≡ (number_of (bits bytes) * 2 ^ count + (low / 2 * 2 + 1)) * 2 ^ (16 - count) =
    omega (
      arith,
      t_low,
      add-mul (number_of (bits bytes) * 2 ^ count) (low / 2 * 2 + 1) (2 ^ (16 - count)),
      mul_assoc (number_of (bits bytes)) (2 ^ count) (2 ^ (16 - count)),
      ap (λ p. number_of (bits bytes) * p) two,
    ) in e) in
    let count_is : length all ≡ length bytes + 2 =
    ap length items
    ∙ (let e : length ((bytes ++ t / 256 ∷ []) ++ t % 256 ∷ []) ≡ length bytes + 2 =
    omega (arith, length-append (bytes ++ t / 256 ∷ []) (t % 256 ∷ []), length-append bytes (t / 256 ∷ [])) in e) in
    finished bytes range low count (low / 2 * 2 + 1) all is odd number count_is

whole_32 : (count : ℕ) → count ≤ 16 → 1 * 2 ^ count % 4294967296 ≡ 2 ^ count
whole_32 count many =
    let most : 2 ^ count ≤ 2 ^ 16 = pow-le-pow_right {n = 2} (omega arith) many in
    mod-eq_of_lt (omega arith) ∙ (let one : 1 * 2 ^ count ≡ 2 ^ count = omega arith in one)

pub carry_room_32 : (bytes : List ℕ) (range low count skip part : ℕ) → IsHeld bytes range low count
    → skip + part ≤ range → 2 ≤ part → 1 * 2 ^ count % 4294967296 ≤ low + skip
    → number_of (bits bytes) + 1 < 2 ^ (8 * length bytes)
carry_room_32 bytes range low count skip part is inside some over =
    room_for_carry bytes range low count skip part is inside some (omega (arith, whole_32 count is.many))

pub carried_32 : (bytes after : List ℕ) (range low count skip part : ℕ) → IsHeld bytes range low count
    → skip < 512 → skip + part ≤ range → 2 ≤ part → 1 * 2 ^ count % 4294967296 ≤ low + skip
    → number_of (bits after) ≡ number_of (bits bytes) + 1 → length after ≡ length bytes
    → Narrowed after part (low + skip - 1 * 2 ^ count % 4294967296) count
    (record { range = part; low = (coding_of bytes range low count).low + skip; size = 8 * length bytes + count })
carried_32 bytes after range low count skip part is short inside some over more same =
    rw (whole_32 count is.many)
    (part_carried bytes after range low count skip part is short inside some (omega (arith, whole_32 count is.many))
    more
    same)
