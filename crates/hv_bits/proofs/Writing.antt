-- What bytes hold once a number is written.
use Rattle.std.proofs.Common.{◌≡◌, ℕ, zero, suc, ◌+◌, ◌-◌, ◌*◌, ◌%◌, ◌^◌, ◌<◌, ◌≤◌, Bool, false, List, [], ◌∷◌, ◌++◌}
use Rattle.std.proofs.Common.{length, get_or, set, replicate, take, drop, refl, sym, ap, subst, ◌∙◌, arith, lit<}
use Rattle.std.specs.Int.{w128, to_be_bytes, div_ceil}
use Rattle.std.proofs.Math.Nat.{mul_assoc, pow-le-pow_right}
use Rattle.std.proofs.lemmas.Nat.{pow_pos, pow-add, shl_below}
use Rattle.std.proofs.lemmas.List.{append_assoc, append-nil, length-append, length-replicate, length-take-le}
use Rattle.std.proofs.lemmas.List.{replicate-append-replicate, take_at, take_all, take_more, drop-drop, get_or-drop}
use Rattle.std.proofs.lemmas.List.{set_at}
use Rattle.spec_bits.specs.Bits.{bits, number_of}
use Rattle.spec_bits.specs.Spelling.{u_bits}
use Rattle.spec_bits.proofs.Places.{length-bits}
use Rattle.spec_bits.proofs.Digits.{length-u_bits, u_bits-zero, number_of-u_bits, number_of-append, u_bits-number_of}
use Rattle.spec_bits.proofs.Bytes.{bits-nil, bits-cons, bits-append, take-bits, bits-bytes_high_first}
use Rattle.hv_bits.specs.Written.{written, Holds}

-- ---- a byte that was begun, a number and zeros, as one number

number_of-zeros : (n : ℕ) → number_of (replicate n false) ≡ 0
number_of-zeros n = ap number_of (sym (u_bits-zero n)) ∙ number_of-u_bits n 0 (pow_pos n)

number_of-shifted : (bs : List Bool) (n : ℕ) → number_of (bs ++ replicate n false) ≡ number_of bs * 2 ^ n
number_of-shifted bs n =
    let e : number_of bs * 2 ^ n + 0 ≡ number_of bs * 2 ^ n = omega arith in
    number_of-append bs (replicate n false)
    ∙ ap (λ k. number_of bs * 2 ^ k + number_of (replicate n false)) (length-replicate n false)
    ∙ ap (λ r. number_of bs * 2 ^ n + r) (number_of-zeros n) ∙ e

-- the last byte is worth its bits
begun_worth : (begun used : ℕ) (bs : List Bool) → begun < 256 → u_bits 8 begun ≡ bs ++ replicate (8 - used) false
    → begun ≡ number_of bs * 2 ^ (8 - used)
begun_worth begun used bs fits is =
    sym (number_of-u_bits 8 begun fits) ∙ ap number_of is ∙ number_of-shifted bs (8 - used)

pub u_bits-joined : (begun used n v : ℕ) (bs : List Bool) → begun < 256 → used < 8 → n ≤ 64 → v < 2 ^ n
    → length bs ≡ used → u_bits 8 begun ≡ bs ++ replicate (8 - used) false
    → u_bits 72 (begun * 2 ^ 64 + v * 2 ^ (72 - used - n)) ≡ bs ++ (u_bits n v ++ replicate (72 - used - n) false)
u_bits-joined begun used n v bs fits low few small count is =
    let rest = 72 - used - n in
    let back : List Bool = u_bits n v ++ replicate rest false in
    let back_count : length back ≡ 8 - used + 64 =
    omega (arith, length-append (u_bits n v) (replicate rest false), length-u_bits n v, length-replicate rest false) in
    let back_worth : number_of back ≡ v * 2 ^ rest =
    number_of-shifted (u_bits n v) rest ∙ ap (λ k. k * 2 ^ rest) (number_of-u_bits n v small) in
    let total : length (bs ++ back) ≡ 72 = omega (arith, length-append bs back) in
    let front_worth : number_of bs * 2 ^ length back ≡ begun * 2 ^ 64 =
    ap (λ k. number_of bs * 2 ^ k) back_count ∙ ap (λ p. number_of bs * p) (pow-add 2 (8 - used) 64)
    ∙ sym (mul_assoc (number_of bs) (2 ^ (8 - used)) (2 ^ 64))
    ∙ ap (λ k. k * 2 ^ 64) (sym (begun_worth begun used bs fits is)) in
    let worth : number_of (bs ++ back) ≡ begun * 2 ^ 64 + v * 2 ^ rest =
    number_of-append bs back ∙ ap (λ k. k + number_of back) front_worth ∙ ap (λ k. begun * 2 ^ 64 + k) back_worth in
    ap (u_bits 72) (sym worth) ∙ ap (λ k. u_bits k (number_of (bs ++ back))) (sym total) ∙ u_bits-number_of (bs ++ back)

pub shifted_below : (used n v : ℕ) → used < 8 → n ≤ 64 → v < 2 ^ n → v * 2 ^ (72 - used - n) < 2 ^ 72
shifted_below used n v low few small =
    let most : n + (72 - used - n) ≤ 72 = omega arith in
    let two : 0 < 2 = lit< tt in
    omega (arith, shl_below v n (72 - used - n) small, pow-le-pow_right two most)

-- both parts fit 128 bits
pub joined_is : (begun used n v begun_is v_is : ℕ) → begun < 256 → used < 8 → n ≤ 64 → v < 2 ^ n → begun_is ≡ begun
    → v_is ≡ v
    → begun_is * 2 ^ 64 % 2 ^ 128 + v_is * 2 ^ (72 - used - n) % 2 ^ 128 ≡ begun * 2 ^ 64 + v * 2 ^ (72 - used - n)
joined_is begun used n v begun_is v_is fits low few small begun_same v_same =
    let below = shifted_below used n v low few small in
    rw (begun_same, v_same) (omega arith)

-- the same of the bytes of that number in 128 bits
pub bits-joined : (begun used n v w : ℕ) (bs : List Bool) (all : List ℕ) → begun < 256 → used < 8 → n ≤ 64 → v < 2 ^ n
    → w ≡ begun * 2 ^ 64 + v * 2 ^ (72 - used - n) → all ≡ to_be_bytes w128 w
    → length bs ≡ used → u_bits 8 begun ≡ bs ++ replicate (8 - used) false
    → bits (drop 7 all) ≡ bs ++ (u_bits n v ++ replicate (72 - used - n) false)
bits-joined begun used n v w bs all fits low few small w_is all_is count is =
    ap (λ l. bits (drop 7 l)) all_is ∙ bits-bytes_high_first 9 w ∙ ap (u_bits 72) w_is
    ∙ u_bits-joined begun used n v bs fits low few small count is

-- ---- the last byte of some that hold bits

suffix_of : (front back bs end : List Bool) → length end ≤ length back → front ++ back ≡ bs ++ end
    → (k : List Bool) × (bs ≡ front ++ k) × (back ≡ k ++ end)
suffix_of [] back bs end le e = (bs, refl, e)
suffix_of (x ∷ front) back [] end le e = absurd (omega (arith, ap length e, length-append front back))
suffix_of (x ∷ front) back (y ∷ bs) end le e =
    let rest = suffix_of front back bs end le (ap (drop 1) e) in
    (rest.0, ap (λ b. b ∷ bs) (ap (λ l. get_or l 0 x) (sym e)) ∙ ap (λ l. x ∷ l) rest.1, rest.2)

pub split_last : (bytes : List ℕ) (last : ℕ) (d : ℕ) → last + 1 ≡ length bytes
    → bytes ≡ take last bytes ++ get_or bytes last d ∷ []
split_last bytes last d h =
    let le : length bytes ≤ last + 1 = omega arith in
    sym (take_all (last + 1) bytes le) ∙ take_more bytes last d (omega arith)

-- the bits of the last byte that are written
pub record Begun (front : List ℕ) (begun free : ℕ) (bs : List Bool) : Type 0 where
  pub used : List Bool
  pub count : length used + free ≡ 8
  pub digits : u_bits 8 begun ≡ used ++ replicate free false
  pub whole : bs ≡ bits front ++ used

pub holds_begun : (front : List ℕ) (begun free : ℕ) (bs : List Bool) → Holds (front ++ begun ∷ []) free bs
    → Begun front begun free bs
holds_begun front begun free bs holds =
    let one : bits (begun ∷ []) ≡ u_bits 8 begun =
    bits-cons begun [] ∙ ap (λ x. u_bits 8 begun ++ x) bits-nil ∙ append-nil (u_bits 8 begun) in
    let split : bits front ++ u_bits 8 begun ≡ bs ++ replicate free false =
    ap (λ x. bits front ++ x) (sym one) ∙ sym (bits-append front (begun ∷ [])) ∙ holds.1 in
    let free_low = holds.0 in
    let parts =
    suffix_of (bits front) (u_bits 8 begun) bs (replicate free false)
    (omega (arith, length-replicate free false, length-u_bits 8 begun)) split in
    record {
      used = parts.0;
      count =
          omega (
            arith,
            ap length parts.2,
            length-append parts.0 (replicate free false),
            length-u_bits 8 begun,
            length-replicate free false,
          );
      digits = parts.2;
      whole = parts.1;
    }

-- ---- the bytes after a number is written

pub holds_filled : (front all : List ℕ) (n v rest count left : ℕ) (used : List Bool)
    → bits all ≡ used ++ (u_bits n v ++ replicate rest false)
    → count ≤ length all → left < 8 → left ≤ rest → 8 * count ≡ length used + n + left
    → Holds (front ++ take count all) left ((bits front ++ used) ++ u_bits n v)
holds_filled front all n v rest count left used is enough low le total =
    let field = u_bits n v in
    let more : left + (rest - left) ≡ rest = omega arith in
    let cut : replicate rest false ≡ replicate left false ++ replicate (rest - left) false =
    ap (λ k. replicate k false) (sym more) ∙ sym (replicate-append-replicate left (rest - left) false) in
    let parts : bits all ≡ (used ++ (field ++ replicate left false)) ++ replicate (rest - left) false =
    is ∙ ap (λ x. used ++ (field ++ x)) cut
    ∙ ap (λ x. used ++ x) (sym (append_assoc field (replicate left false) (replicate (rest - left) false)))
    ∙ sym (append_assoc used (field ++ replicate left false) (replicate (rest - left) false)) in
    let size : length (used ++ (field ++ replicate left false)) ≡ 8 * count =
    omega (
      arith,
      length-append used (field ++ replicate left false),
      length-append field (replicate left false),
      length-u_bits n v,
      length-replicate left false,
    ) in
    let written_bits : bits (take count all) ≡ used ++ (field ++ replicate left false) =
    sym (take-bits count all enough) ∙ ap (take (8 * count)) parts
    ∙ take_at (used ++ (field ++ replicate left false)) (replicate (rest - left) false) (8 * count) size in (
      low,
      bits-append front (take count all) ∙ ap (λ x. bits front ++ x) written_bits
          ∙ sym (append_assoc (bits front) used (field ++ replicate left false))
          ∙ sym (append_assoc (bits front ++ used) field (replicate left false)),
    )

-- the last byte anew, and those after it
pub filled_last : (front all more : List ℕ) (begun last count first : ℕ) → length front ≡ last → 0 < count
    → 0 < length all → first ≡ get_or all 0 0 → more ≡ take (count - 1) (drop 1 all)
    → set ((front ++ begun ∷ []) ++ more) last first ≡ front ++ take count all
filled_last front [] more begun last count first place some there first_is more_is = absurd (omega arith)
filled_last front (x ∷ all) more begun last count first place some there first_is more_is =
    let e : suc (count - 1) ≡ count = omega arith in
    ap (λ l. set l last first) (append_assoc front (begun ∷ []) more) ∙ set_at front begun more first last place
    ∙ ap (λ y. front ++ y ∷ more) first_is ∙ ap (λ l. front ++ x ∷ l) more_is ∙ ap (λ k. front ++ take k (x ∷ all)) e

-- ---- the writer's view

pub written-Holds : (bytes : List ℕ) (free : ℕ) (bs : List Bool) → Holds bytes free bs → written bytes free ≡ bs
written-Holds bytes free bs holds =
    let count : length bs ≡ 8 * length bytes - free =
    omega (
      arith,
      ap length holds.1,
      length-append bs (replicate free false),
      length-replicate free false,
      length-bits bytes,
    ) in
    ap (take (8 * length bytes - free)) holds.1 ∙ take_at bs (replicate free false) (8 * length bytes - free) count

pub length-Holds : (bytes : List ℕ) (free : ℕ) (bs : List Bool) → Holds bytes free bs
    → length bs + free ≡ 8 * length bytes
length-Holds bytes free bs holds =
    omega (
      arith,
      ap length holds.1,
      length-append bs (replicate free false),
      length-replicate free false,
      length-bits bytes,
    )

pub Holds-none : (bytes : List ℕ) → bytes ≡ [] → Holds bytes 0 (written bytes 0)
unfolding bits
Holds-none bytes none = rw none (omega arith, refl)

-- the free bits fill the last byte
pub bytes_filled : (bytes : List ℕ) (free : ℕ) (bs now : List Bool) → Holds bytes free bs → bs ≡ now
    → bits bytes ≡ now ++ replicate ((8 - length now % 8) % 8) false
bytes_filled bytes free bs now holds is =
    let total = length-Holds bytes free bs holds in
    let low = holds.0 in
    let zeros : free ≡ (8 - length now % 8) % 8 = omega (arith, ap length is) in
    holds.1 ∙ ap (λ x. x ++ replicate free false) is ∙ ap (λ k. now ++ replicate k false) zeros

-- ---- one more number

-- what the code says of a begun byte, a number and zeros
abbrev pub Joined : ℕ → ℕ → ℕ → ℕ → List ℕ → Type 0
Joined begun used n v all = (bs : List Bool) → length bs ≡ used → u_bits 8 begun ≡ bs ++ replicate (8 - used) false
    → bits (drop 7 all) ≡ bs ++ (u_bits n v ++ replicate (72 - used - n) false)

-- how many bytes used + n bits begin
abbrev pub IsCount : ℕ → ℕ → ℕ → Type 0
IsCount used n count = (used + n ≤ 8 * count) × (8 * count < used + n + 8)

count_is : (used n count : ℕ) → count ≡ div_ceil (used + n) 8 → IsCount used n count
count_is used n count is = (omega arith, omega arith)

-- after a byte that is full
pub holds_after_full : (items all new : List ℕ) (free used n v count : ℕ) (bs : List Bool) → Holds items free bs
    → free ≡ 0 → used ≡ (8 - free) % 8 → n ≤ 64 → count ≡ div_ceil (used + n) 8
    → Joined 0 used n v all → new ≡ items ++ take (7 + count - 7) (drop 7 all)
    → Holds new (8 * count - used - n) (bs ++ u_bits n v)
holds_after_full items all new free used n v count bs holds none used_is few count_is_so joined new_is =
    let size = count_is used n count count_is_so in
    let fills = size.0 in
    let fits = size.1 in
    let no_bits : 0 ≡ used = omega arith in
    let zeros : 8 ≡ 8 - used = omega arith in
    let five = joined [] no_bits (u_bits-zero 8 ∙ ap (λ k. replicate k false) zeros) in
    let long : 8 * length (drop 7 all) ≡ 72 =
    omega (
      arith,
      sym (length-bits (drop 7 all)),
      ap length five,
      length-append (u_bits n v) (replicate (72 - used - n) false),
      length-u_bits n v,
      length-replicate (72 - used - n) false,
    ) in
    let e : 7 + count - 7 ≡ count = omega arith in
    let filled =
    holds_filled items (drop 7 all) n v (72 - used - n) count (8 * count - used - n) [] five (omega arith) (omega arith)
    (omega arith) (omega arith) in
    let held : bits items ≡ bs = holds.1 ∙ ap (λ k. bs ++ replicate k false) none ∙ append-nil bs in
    rw (new_is, e) (
      filled.0,
      filled.1 ∙ ap (λ x. (x ++ u_bits n v) ++ replicate (8 * count - used - n) false) (append-nil (bits items) ∙ held),
    )

some_from_ne : (n : ℕ) → (n ≡ 0 → ⊥) → 0 < n
some_from_ne zero h = absurd (h refl)
some_from_ne (suc n) h = omega arith

-- after a byte that was begun
pub holds_after_begun : (items all new : List ℕ) (free used n v count last begun first : ℕ) (bs : List Bool)
    → Holds items free bs → (free ≡ 0 → ⊥) → free ≤ 8 * length items → used ≡ (8 - free) % 8 → n ≤ 64
    → count ≡ div_ceil (used + n) 8 → last + 1 ≡ length items → begun ≡ get_or items last begun → first ≡ get_or all 7 0
    → Joined begun used n v all → new ≡ set (items ++ take (7 + count - 8) (drop 8 all)) last first
    → Holds new (8 * count - used - n) (bs ++ u_bits n v)
holds_after_begun items all new free used n v count last begun first bs holds not_full inside used_is few count_is_so
    last_is begun_is first_is joined new_is =
    let size = count_is used n count count_is_so in
    let fills = size.0 in
    let fits = size.1 in
    let low = holds.0 in
    let some = some_from_ne free not_full in
    let front : List ℕ = take last items in
    let split : items ≡ front ++ begun ∷ [] =
    split_last items last begun last_is ∙ ap (λ b. front ++ b ∷ []) (sym begun_is) in
    let b = holds_begun front begun free bs (subst (λ l. Holds l free bs) split holds) in
    let b_count = b.count in
    let zeros : free ≡ 8 - used = omega arith in
    let five = joined b.used (omega arith) (b.digits ∙ ap (λ k. b.used ++ replicate k false) zeros) in
    let long : 8 * length (drop 7 all) ≡ 72 =
    omega (
      arith,
      sym (length-bits (drop 7 all)),
      ap length five,
      length-append b.used (u_bits n v ++ replicate (72 - used - n) false),
      length-append (u_bits n v) (replicate (72 - used - n) false),
      length-u_bits n v,
      length-replicate (72 - used - n) false,
    ) in
    let e : 7 + count - 8 ≡ count - 1 = omega arith in
    let place : length front ≡ last = length-take-le last items (omega arith) in
    let more : take (7 + count - 8) (drop 8 all) ≡ take (count - 1) (drop 1 (drop 7 all)) =
    ap (λ k. take k (drop 8 all)) e ∙ ap (take (count - 1)) (sym (drop-drop 1 7 all)) in
    let head : first ≡ get_or (drop 7 all) 0 0 = first_is ∙ sym (get_or-drop 7 all 0 0) in
    let written_is : new ≡ front ++ take count (drop 7 all) =
    new_is ∙ ap (λ l. set (l ++ take (7 + count - 8) (drop 8 all)) last first) split
    ∙ filled_last front (drop 7 all) (take (7 + count - 8) (drop 8 all)) begun last count first place (omega arith)
    (omega arith) head more in
    let filled =
    holds_filled front (drop 7 all) n v (72 - used - n) count (8 * count - used - n) b.used five (omega arith)
    (omega arith) (omega arith) (omega arith) in
    rw written_is (
      filled.0,
      filled.1 ∙ ap (λ x. (x ++ u_bits n v) ++ replicate (8 * count - used - n) false) (sym b.whole),
    )

pub Holds-written : (bytes : List ℕ) (free : ℕ) (bs : List Bool) → Holds bytes free bs
    → Holds bytes free (written bytes free)
Holds-written bytes free bs holds = subst (λ x. Holds bytes free x) (sym (written-Holds bytes free bs holds)) holds
