-- Squares in the z-scan order of a coding tree unit.
use Rattle.std.proofs.Common.{◌≡◌, ℕ, suc, ◌+◌, ◌-◌, ◌*◌, ◌/◌, ◌%◌, ◌^◌, ◌<◌, ◌≤◌, Bool, true, false, not, ◌&&◌}
use Rattle.std.proofs.Common.{◌||◌, length, get_or, refl, sym, ap, subst, ◌∙◌, zero-add, arith, inl, inr}
use Rattle.std.specs.Prelude.{◌==◌, nat_lt, nat_le}
use Rattle.std.specs.List.{list_all, range_with_len}
use Rattle.std.proofs.Math.Nat.{div-add-mod', div-eq_of_lt-le, div-le_self, div-mul-le_self, lt-div-mul-add}
use Rattle.std.proofs.Math.Nat.{mul-div_cancel, mul-mod_left, pow-suc}
use Rattle.std.proofs.Math.Nat.{mul_comm, mul_assoc, mul-add, pow-le-pow_right, mul-le-mul_left}
use Rattle.std.proofs.lemmas.Nat.{pow_pos}
use Rattle.std.proofs.lemmas.Bool.{and_from, and_parts, lt-ltb, le-ltb, ltb-true, leb-true, le-leb, lt-leb, eqb-true}
use Rattle.std.proofs.lemmas.Bool.{eq-eqb}
use Rattle.std.proofs.lemmas.Bool.{cases_lt, or_left, or_right, or_from, cases_Bool}
use Rattle.std.proofs.lemmas.List.Sums.{AllPass-from_list_all}
use Rattle.std.proofs.lemmas.List.FromFn.{length-range_with_len, get_or-range_with_len}
use Rattle.block_geometry.specs.Availability.{block_start, spread}
use Rattle.ctu_records.specs.declared.item.Square.{Square}
use Rattle.ctu_records.specs.Places.{inside}
use Rattle.spec_slice_data.specs.Modes.{upper_left, upper_right, lower_left, lower_right}
use Rattle.spec_slice_data.specs.Tree.{whole_unit}
use Rattle.unit_laws.specs.Order.{is_in, unit_order}

-- a test of each number below n, once it was computed
tested : (p : ℕ → Bool) (n : ℕ) → list_all p (range_with_len 0 n) ≡ true → (k : ℕ) → k < n → p k ≡ true
tested p n computed k below =
    let all = AllPass-from_list_all p (range_with_len 0 n) computed in
    let at : get_or (range_with_len 0 n) k 0 ≡ k = get_or-range_with_len 0 n k 0 below ∙ zero-add k in
    let inside : k < length (range_with_len 0 n) = omega (arith, length-range_with_len 0 n) in
    subst (λ (i : ℕ). p i ≡ true) at (all k 0 inside)

-- a test of two numbers, both below 16
pub tested_pair : (p : ℕ → ℕ → Bool) → list_all (λ j. p (j / 16) (j % 16)) (range_with_len 0 256) ≡ true → (a b : ℕ)
    → a < 16 → b < 16 → p a b ≡ true
tested_pair p computed a b few small =
    let at = tested (λ j. p (j / 16) (j % 16)) 256 computed (16 * a + b) (omega arith) in
    let d : (16 * a + b) / 16 ≡ a = omega arith in
    let m : (16 * a + b) % 16 ≡ b = omega arith in
    subst (λ (i : ℕ). p a i ≡ true) m (subst (λ (i : ℕ). p i ((16 * a + b) % 16) ≡ true) d at)

-- the bits of a number above the lowest n, and those lowest ones
cut_ok : ℕ → ℕ → Bool
cut_ok n i =
    not (nat_le n 4)
    || ((spread i == 4 ^ n * spread (i / 2 ^ n) + spread (i % 2 ^ n)) && nat_lt (3 * spread (i % 2 ^ n)) (4 ^ n))

cut_all : list_all (λ j. cut_ok (j / 16) (j % 16)) (range_with_len 0 256) ≡ true
unfolding cut_ok spread
cut_all = refl

pub implied : (a b : Bool) → a ≡ true → (not a || b) ≡ true → b ≡ true
implied true b e h = h
implied false b e h = absurd cc

record IsCut (n i : ℕ) : Type 0 where
  whole : spread i ≡ 4 ^ n * spread (i / 2 ^ n) + spread (i % 2 ^ n)
  low : 3 * spread (i % 2 ^ n) < 4 ^ n

cut : (n i : ℕ) → n ≤ 4 → i < 16 → IsCut n i
unfolding cut_ok
cut n i few small =
    let ok = implied (nat_le n 4) _ (le-leb n 4 few) (tested_pair cut_ok cut_all n i (omega arith) small) in
    let parts = and_parts (spread i == 4 ^ n * spread (i / 2 ^ n) + spread (i % 2 ^ n)) _ ok in
    record { whole = eqb-true _ _ parts.0; low = ltb-true _ _ parts.1 }

-- no two places stand at one place of the order
same_ok : ℕ → ℕ → Bool
same_ok a b =
    let z = spread a + 2 * spread b in
    (z % 2 + 2 * (z / 4 % 2) + 4 * (z / 16 % 2) + 8 * (z / 64 % 2) == a)
    && (z / 2 % 2 + 2 * (z / 8 % 2) + 4 * (z / 32 % 2) + 8 * (z / 128 % 2) == b)

same_all : list_all (λ j. same_ok (j / 16) (j % 16)) (range_with_len 0 256) ≡ true
unfolding same_ok spread
same_all = refl

across_of : ℕ → ℕ
across_of z = z % 2 + 2 * (z / 4 % 2) + 4 * (z / 16 % 2) + 8 * (z / 64 % 2)

down_of : ℕ → ℕ
down_of z = z / 2 % 2 + 2 * (z / 8 % 2) + 4 * (z / 32 % 2) + 8 * (z / 128 % 2)

placed : (a b : ℕ) → a < 16 → b < 16 → (across_of (unit_order a b) ≡ a) × (down_of (unit_order a b) ≡ b)
unfolding same_ok across_of down_of
placed a b small few =
    let parts = and_parts _ _ (tested_pair same_ok same_all a b small few) in
    (eqb-true _ _ parts.0, eqb-true _ _ parts.1)

same_place : (a b c d : ℕ) → a < 16 → b < 16 → c < 16 → d < 16 → unit_order a b ≡ unit_order c d → (a ≡ c) × (b ≡ d)
same_place a b c d a_small b_small c_small d_small e =
    let one = placed a b a_small b_small in
    let two = placed c d c_small d_small in
    (sym one.0 ∙ ap across_of e ∙ two.0, sym one.1 ∙ ap down_of e ∙ two.1)

-- a square of 2^n places on a side in a unit, that stands at whole multiples of its side
pub record IsAligned (unit n : ℕ) (s : Square) : Type 0 where
  pub size : s.log2_size ≡ n
  pub few : n ≤ 4
  pub small : unit ≤ 4
  pub a : ℕ
  pub b : ℕ
  pub x : s.x ≡ a * 2 ^ n
  pub y : s.y ≡ b * 2 ^ n
  pub across : s.x + 2 ^ n ≤ 2 ^ unit
  pub down : s.y + 2 ^ n ≤ 2 ^ unit

pub side_small : (unit : ℕ) → unit ≤ 4 → 2 ^ unit ≤ 16
side_small unit small =
    let most : 2 ^ unit ≤ 2 ^ 4 = pow-le-pow_right {n = 2} (omega arith) small in omega (arith, most)

pub whole_aligned : (size : ℕ) → size ≤ 4 → IsAligned size size (whole_unit size)
whole_aligned size small = record {
  size = refl;
  few = small;
  small = small;
  a = 0;
  b = 0;
  x = omega arith;
  y = omega arith;
  across = omega arith;
  down = omega arith;
}

twice : (a n : ℕ) → a * 2 ^ suc n ≡ (a + a) * 2 ^ n
twice a n =
    ap (λ k. a * k) (pow-suc 2 n ∙ mul_comm (2 ^ n) 2) ∙ sym (mul_assoc a 2 (2 ^ n))
    ∙ ap (λ k. k * 2 ^ n) (mul_comm a 2 ∙ two a)
  where
    two : (a : ℕ) → 2 * a ≡ a + a
    two a = omega arith

times_next : (q k : ℕ) → q * (k + 1) ≡ q * k + q
times_next q k = let one : q * 1 ≡ q = omega arith in mul-add q k 1 ∙ ap (λ m. q * k + m) one

more : (c n : ℕ) → c * 2 ^ n + 2 ^ n ≡ (c + 1) * 2 ^ n
more c n =
    ap (λ k. k + 2 ^ n) (mul_comm c (2 ^ n)) ∙ sym (times_next (2 ^ n) c) ∙ mul_comm (2 ^ n) (c + 1)

module _ {unit : ℕ} (n : ℕ) (s : Square) (aligned : IsAligned unit (suc n) s) where
  smaller : s.log2_size - 1 ≡ n
  smaller = omega (arith, aligned.size)

  half : 2 ^ (s.log2_size - 1) ≡ 2 ^ n
  half = ap (λ k. 2 ^ k) smaller

  left_of : s.x ≡ (aligned.a + aligned.a) * 2 ^ n
  left_of = aligned.x ∙ twice aligned.a n

  top_of : s.y ≡ (aligned.b + aligned.b) * 2 ^ n
  top_of = aligned.y ∙ twice aligned.b n

  right_of : s.x + 2 ^ (s.log2_size - 1) ≡ (aligned.a + aligned.a + 1) * 2 ^ n
  right_of = ap (λ k. s.x + k) half ∙ ap (λ k. k + 2 ^ n) left_of ∙ more (aligned.a + aligned.a) n

  below_of : s.y + 2 ^ (s.log2_size - 1) ≡ (aligned.b + aligned.b + 1) * 2 ^ n
  below_of = ap (λ k. s.y + k) half ∙ ap (λ k. k + 2 ^ n) top_of ∙ more (aligned.b + aligned.b) n

  pub upper_left_aligned : IsAligned unit n (upper_left s)
  upper_left_aligned = record {
    size = smaller;
    few = omega (arith, aligned.few);
    small = aligned.small;
    a = aligned.a + aligned.a;
    b = aligned.b + aligned.b;
    x = left_of;
    y = top_of;
    across = omega (arith, aligned.across, pow-suc 2 n);
    down = omega (arith, aligned.down, pow-suc 2 n);
  }

  pub upper_right_aligned : IsAligned unit n (upper_right s)
  upper_right_aligned = record {
    size = smaller;
    few = omega (arith, aligned.few);
    small = aligned.small;
    a = aligned.a + aligned.a + 1;
    b = aligned.b + aligned.b;
    x = right_of;
    y = top_of;
    across = omega (arith, aligned.across, half, pow-suc 2 n);
    down = omega (arith, aligned.down, pow-suc 2 n);
  }

  pub lower_left_aligned : IsAligned unit n (lower_left s)
  lower_left_aligned = record {
    size = smaller;
    few = omega (arith, aligned.few);
    small = aligned.small;
    a = aligned.a + aligned.a;
    b = aligned.b + aligned.b + 1;
    x = left_of;
    y = below_of;
    across = omega (arith, aligned.across, pow-suc 2 n);
    down = omega (arith, aligned.down, half, pow-suc 2 n);
  }

  pub lower_right_aligned : IsAligned unit n (lower_right s)
  lower_right_aligned = record {
    size = smaller;
    few = omega (arith, aligned.few);
    small = aligned.small;
    a = aligned.a + aligned.a + 1;
    b = aligned.b + aligned.b + 1;
    x = right_of;
    y = below_of;
    across = omega (arith, aligned.across, half, pow-suc 2 n);
    down = omega (arith, aligned.down, half, pow-suc 2 n);
  }

-- how far the second half of a side stands behind the first
step_ok : ℕ → ℕ → Bool
step_ok n x =
    not (nat_le n 3 && ((x % 2 ^ suc n == 0) && nat_le (x + 2 ^ n) 15)) || (spread (x + 2 ^ n) == spread x + 4 ^ n)

step_all : list_all (λ j. step_ok (j / 16) (j % 16)) (range_with_len 0 256) ≡ true
unfolding step_ok spread
step_all = refl

stepped : (n a x : ℕ) → n ≤ 3 → x ≡ a * 2 ^ suc n → x + 2 ^ suc n ≤ 16 → spread (x + 2 ^ n) ≡ spread x + 4 ^ n
unfolding step_ok
stepped n a x few is inside =
    let some : 0 < 2 ^ n = pow_pos n in
    let whole : x % 2 ^ suc n ≡ 0 = ap (λ k. k % 2 ^ suc n) is ∙ mul-mod_left a (2 ^ suc n) in
    let room : x + 2 ^ n ≤ 15 = omega (arith, inside, pow-suc 2 n, some) in
    let asked = and_from (nat_le n 3) _ (le-leb n 3 few)
    (and_from (x % 2 ^ suc n == 0) _ (eq-eqb _ _ whole) (le-leb _ _ room)) in
    let small : x < 16 = omega (arith, room) in
    eqb-true _ _ (implied _ _ asked (tested_pair step_ok step_all n x (omega (arith, few)) small))

-- the first places of the four quarters
module _ {unit : ℕ} (n : ℕ) (s : Square) (aligned : IsAligned unit (suc n) s) where
  right_at : unit_order (upper_right s).x (upper_right s).y ≡ unit_order s.x s.y + 4 ^ n
  right_at =
      let few : n ≤ 3 = omega (arith, aligned.few) in
      let step = stepped n aligned.a s.x few aligned.x
      (omega (arith, aligned.across, side_small unit aligned.small)) in
      ap (λ k. spread (s.x + k) + 2 * spread s.y) (half n s aligned) ∙ omega (arith, step)

  below_at : unit_order (lower_left s).x (lower_left s).y ≡ unit_order s.x s.y + 2 * 4 ^ n
  below_at =
      let few : n ≤ 3 = omega (arith, aligned.few) in
      let step = stepped n aligned.b s.y few aligned.y
      (omega (arith, aligned.down, side_small unit aligned.small)) in
      ap (λ k. spread s.x + 2 * spread (s.y + k)) (half n s aligned) ∙ omega (arith, step)

  last_at : unit_order (lower_right s).x (lower_right s).y ≡ unit_order s.x s.y + 3 * 4 ^ n
  last_at =
      let few : n ≤ 3 = omega (arith, aligned.few) in
      let across = stepped n aligned.a s.x few aligned.x
      (omega (arith, aligned.across, side_small unit aligned.small)) in
      let down = stepped n aligned.b s.y few aligned.y
      (omega (arith, aligned.down, side_small unit aligned.small)) in
      ap (λ k. spread (s.x + k) + 2 * spread (s.y + k)) (half n s aligned) ∙ omega (arith, across, down)

  pub second_at : unit_order (upper_right s).x (upper_right s).y
      ≡ unit_order (upper_left s).x (upper_left s).y + 4 ^ n
  second_at = right_at

  pub third_at : unit_order (lower_left s).x (lower_left s).y
      ≡ unit_order (upper_right s).x (upper_right s).y + 4 ^ n
  third_at = omega (arith, below_at, right_at)

  pub fourth_at : unit_order (lower_right s).x (lower_right s).y
      ≡ unit_order (lower_left s).x (lower_left s).y + 4 ^ n
  fourth_at = omega (arith, last_at, below_at)

  pub end_at : unit_order (lower_right s).x (lower_right s).y + 4 ^ n ≡ unit_order s.x s.y + 4 ^ suc n
  end_at = omega (arith, last_at, pow-suc 4 n)

times_sum : (q a b : ℕ) → q * (a + 2 * b) ≡ q * a + 2 * (q * b)
times_sum q a b =
    let two : 2 * b ≡ b + b = omega arith in
    let twice : q * b + q * b ≡ 2 * (q * b) = omega arith in
    ap (λ k. q * (a + k)) two ∙ mul-add q a (b + b) ∙ ap (λ k. q * a + k) (mul-add q b b ∙ twice)

-- places in a square come right behind those before it
module _ {unit : ℕ} (n : ℕ) (s : Square) (aligned : IsAligned unit n s) (i j : ℕ) (i_small : i < 16)
    (j_small : j < 16) where
  side : 0 < 2 ^ n
  side = pow_pos n

  whole_of : (c x : ℕ) → x ≡ c * 2 ^ n → x < 16 → spread x ≡ 4 ^ n * spread c
  unfolding spread
  whole_of c x is small =
      let above : x / 2 ^ n ≡ c = ap (λ k. k / 2 ^ n) is ∙ mul-div_cancel c side in
      let low : x % 2 ^ n ≡ 0 = ap (λ k. k % 2 ^ n) is ∙ mul-mod_left c (2 ^ n) in
      (cut n x aligned.few small).whole
      ∙ ap (λ k. 4 ^ n * spread k + spread (x % 2 ^ n)) above
      ∙ ap (λ k. 4 ^ n * spread c + spread k) low
      ∙ omega arith

  place : ℕ
  place = unit_order (i / 2 ^ n) (j / 2 ^ n)

  start : ℕ
  start = unit_order aligned.a aligned.b

  low : ℕ
  low = spread (i % 2 ^ n) + 2 * spread (j % 2 ^ n)

  spread-cut : (unit_order i j ≡ 4 ^ n * place + low) × (low < 4 ^ n)
  unfolding place low
  spread-cut =
      let across = cut n i aligned.few i_small in
      let down = cut n j aligned.few j_small in (
        omega (arith, across.whole, down.whole, times_sum (4 ^ n) (spread (i / 2 ^ n)) (spread (j / 2 ^ n))),
        omega (arith, across.low, down.low),
      )

  start-cut : unit_order s.x s.y ≡ 4 ^ n * start
  unfolding start
  start-cut =
      let x_small : s.x < 16 = omega (arith, aligned.across, side_small unit aligned.small, side) in
      let y_small : s.y < 16 = omega (arith, aligned.down, side_small unit aligned.small, side) in
      omega (
        arith,
        whole_of aligned.a s.x aligned.x x_small,
        whole_of aligned.b s.y aligned.y y_small,
        times_sum (4 ^ n) (spread aligned.a) (spread aligned.b),
      )

  -- a square has exactly the places whose block of its size is the square
  is_in_when : (i / 2 ^ n ≡ aligned.a) → (j / 2 ^ n ≡ aligned.b) → is_in s i j ≡ true
  is_in_when across down =
      let left : aligned.a * 2 ^ n ≤ i = subst (λ k. k * 2 ^ n ≤ i) across (div-mul-le_self i (2 ^ n)) in
      let right : i < aligned.a * 2 ^ n + 2 ^ n = subst (λ k. i < k * 2 ^ n + 2 ^ n) across (lt-div-mul-add side) in
      let top : aligned.b * 2 ^ n ≤ j = subst (λ k. k * 2 ^ n ≤ j) down (div-mul-le_self j (2 ^ n)) in
      let bottom : j < aligned.b * 2 ^ n + 2 ^ n = subst (λ k. j < k * 2 ^ n + 2 ^ n) down (lt-div-mul-add side) in
      let same : 2 ^ s.log2_size ≡ 2 ^ n = ap (λ k. 2 ^ k) aligned.size in
      let from_left : s.x ≤ i = omega (arith, left, aligned.x) in
      let to_right : i < s.x + 2 ^ s.log2_size = omega (arith, right, aligned.x, same) in
      let from_top : s.y ≤ j = omega (arith, top, aligned.y) in
      let to_bottom : j < s.y + 2 ^ s.log2_size = omega (arith, bottom, aligned.y, same) in
      and_from _ _ (and_from _ _ (le-leb _ _ from_left) (lt-ltb _ _ to_right))
      (and_from _ _ (le-leb _ _ from_top) (lt-ltb _ _ to_bottom))

  block_when : is_in s i j ≡ true → place ≡ start
  unfolding place start
  block_when held =
      let same : 2 ^ s.log2_size ≡ 2 ^ n = ap (λ k. 2 ^ k) aligned.size in
      let both = and_parts (nat_le s.x i && nat_lt i (s.x + 2 ^ s.log2_size)) _ held in
      let columns = and_parts (nat_le s.x i) _ both.0 in
      let rows = and_parts (nat_le s.y j) _ both.1 in
      let left = leb-true _ _ columns.0 in
      let right = ltb-true _ _ columns.1 in
      let top = leb-true _ _ rows.0 in
      let bottom = ltb-true _ _ rows.1 in
      let across : i / 2 ^ n ≡ aligned.a = div-eq_of_lt-le (2 ^ n) (omega (arith, left, aligned.x))
      (omega (arith, right, aligned.x, same, more aligned.a n)) in
      let down : j / 2 ^ n ≡ aligned.b = div-eq_of_lt-le (2 ^ n) (omega (arith, top, aligned.y))
      (omega (arith, bottom, aligned.y, same, more aligned.b n)) in
      ap (λ k. unit_order k (j / 2 ^ n)) across ∙ ap (λ k. unit_order aligned.a k) down

  in_when : place ≡ start → is_in s i j ≡ true
  unfolding place start
  in_when same =
      let i_block : i / 2 ^ n < 16 = block_small i i_small in
      let j_block : j / 2 ^ n < 16 = block_small j j_small in
      let a_small : aligned.a < 16 = multiple_small aligned.a s.x aligned.x aligned.across in
      let b_small : aligned.b < 16 = multiple_small aligned.b s.y aligned.y aligned.down in
      let parts = same_place (i / 2 ^ n) (j / 2 ^ n) aligned.a aligned.b i_block j_block a_small b_small same in
      is_in_when parts.0 parts.1
    where
      block_small : (k : ℕ) → k < 16 → k / 2 ^ n < 16
      block_small k small = let less = div-le_self k (2 ^ n) in omega (arith, small, less)

      multiple_small : (c x : ℕ) → x ≡ c * 2 ^ n → x + 2 ^ n ≤ 2 ^ unit → c < 16
      multiple_small c x is room =
          let most : c * 1 ≤ c * 2 ^ n = mul-le-mul_left c side in
          omega (arith, most, is, room, side, side_small unit aligned.small)

  pub grown : nat_lt (unit_order i j) (unit_order s.x s.y + 4 ^ n)
      ≡ (is_in s i j || nat_lt (unit_order i j) (unit_order s.x s.y))
  grown = elim (cases_lt place start) [
    | inl less ↦
        let next : place + 1 ≤ start = omega (arith, less) in
        let most : 4 ^ n * (place + 1) ≤ 4 ^ n * start = mul-le-mul_left (4 ^ n) next in
        let step : 4 ^ n * (place + 1) ≡ 4 ^ n * place + 4 ^ n = times_next (4 ^ n) place in
        let before : unit_order i j < unit_order s.x s.y =
        omega (arith, spread-cut.0, spread-cut.1, start-cut, most, step) in
        lt-ltb _ _ (omega (arith, before)) ∙ sym (or_right (is_in s i j) _ (lt-ltb _ _ before))
    | inr least ↦ elim (cases_lt start place) [
      | inl greater ↦
          let next : start + 1 ≤ place = omega (arith, greater) in
          let most : 4 ^ n * (start + 1) ≤ 4 ^ n * place = mul-le-mul_left (4 ^ n) next in
          let step : 4 ^ n * (start + 1) ≡ 4 ^ n * start + 4 ^ n = times_next (4 ^ n) start in
          let behind : unit_order s.x s.y + 4 ^ n ≤ unit_order i j =
          omega (arith, spread-cut.0, start-cut, most, step) in
          le-ltb _ _ behind
          ∙ sym (or_from (is_in s i j) _ (not_in greater) (le-ltb _ _ (omega (arith, behind))))
      | inr most ↦
          let same : place ≡ start = omega (arith, least, most) in
          let equal : 4 ^ n * place ≡ 4 ^ n * start = ap (λ k. 4 ^ n * k) same in
          lt-ltb _ _ (omega (arith, spread-cut.0, spread-cut.1, start-cut, equal))
          ∙ sym (or_left (is_in s i j) _ (in_when same))
    ]
  ]
    where
      not_in : start < place → is_in s i j ≡ false
      not_in greater = elim (cases_Bool (is_in s i j)) [
        | inl held ↦ absurd (let same = block_when held in omega (arith, same, greater))
        | inr other ↦ other
      ]

  block-cut : unit_order (block_start n i) (block_start n j) ≡ 4 ^ n * place
  unfolding place
  block-cut =
      omega (
        arith,
        whole_of (i / 2 ^ n) (block_start n i) (begins i) (less i i_small),
        whole_of (j / 2 ^ n) (block_start n j) (begins j) (less j j_small),
        times_sum (4 ^ n) (spread (i / 2 ^ n)) (spread (j / 2 ^ n)),
      )
    where
      begins : (k : ℕ) → block_start n k ≡ k / 2 ^ n * 2 ^ n
      begins k = let parts = div-add-mod' k (2 ^ n) in omega (arith, parts)

      less : (k : ℕ) → k < 16 → block_start n k < 16
      less k small = omega (arith, small)

  -- the same told by the block of its size that has the place
  pub block_order : nat_le (unit_order (block_start n i) (block_start n j)) (unit_order s.x s.y)
      ≡ (is_in s i j || nat_lt (unit_order i j) (unit_order s.x s.y))
  block_order = as_far ∙ grown
    where
      as_far : nat_le (unit_order (block_start n i) (block_start n j)) (unit_order s.x s.y)
          ≡ nat_lt (unit_order i j) (unit_order s.x s.y + 4 ^ n)
      as_far = elim (cases_lt start place) [
        | inl greater ↦
            let next : start + 1 ≤ place = omega (arith, greater) in
            let most : 4 ^ n * (start + 1) ≤ 4 ^ n * place = mul-le-mul_left (4 ^ n) next in
            let step : 4 ^ n * (start + 1) ≡ 4 ^ n * start + 4 ^ n = times_next (4 ^ n) start in
            let some : 0 < 4 ^ n = omega (arith, spread-cut.1) in
            lt-leb _ _ (omega (arith, block-cut, start-cut, most, step, some))
            ∙ sym (le-ltb _ _ (omega (arith, spread-cut.0, start-cut, most, step)))
        | inr least ↦
            let most : 4 ^ n * place ≤ 4 ^ n * start = mul-le-mul_left (4 ^ n) least in
            le-leb _ _ (omega (arith, block-cut, start-cut, most))
            ∙ sym (lt-ltb _ _ (omega (arith, spread-cut.0, spread-cut.1, start-cut, most)))
      ]
