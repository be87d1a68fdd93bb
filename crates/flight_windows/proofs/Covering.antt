-- Words of a line that have its samples from a column on.
use Rattle.std.proofs.Common.{◌≡◌, ℕ, ℤ, ◌+◌, ◌-◌, ◌*◌, ◌/◌, ◌<◌, ◌≤◌, min, pos, negsuc, ◌+ℤ◌, ◌-ℤ◌, ◌≤ℤ◌, arith}
use Rattle.std.proofs.Common.{List, length, slice_index, ap, sym, subst, ◌∙◌, ◌⊎◌, inl, inr}
use Rattle.inter_pred.proofs.Inside.{clamped_below}
use Rattle.std.proofs.Math.Nat.{div-mul-le_self, lt-div-mul-add}
use Rattle.std.proofs.lemmas.Int.{ints, clamps}
use Rattle.spec_inter_prediction.specs.Taps.{clamped}

-- a coordinate that isn't below 0, and one that is
held_pos : (a side : ℕ) → clamped (pos a) side ≡ min a (side - 1)
unfolding clamped
held_pos a side = omega (arith, ints, clamps)

held_neg : (a side : ℕ) → clamped (negsuc a) side ≡ 0
unfolding clamped
held_neg a side = omega (arith, ints, clamps)

-- a coordinate that doesn't exceed another one, held as that is held
less_held : (v w : ℤ) (side : ℕ) → v ≤ℤ w → clamped v (clamped w side + 1) ≡ clamped v side
less_held (negsuc a) w side le = held_neg a (clamped w side + 1) ∙ sym (held_neg a side)
less_held (pos a) (negsuc b) side le = absurd (omega (arith, ints, le))
less_held (pos a) (pos b) side le =
    let last = held_pos b side in
    let few : a ≤ b = omega (arith, ints, le) in
    let same : min a (clamped (pos b) side + 1 - 1) ≡ min a (side - 1) = omega (arith, last, few) in
    held_pos a (clamped (pos b) side + 1) ∙ (same ∙ sym (held_pos a side))

-- held coordinates keep their order
pub order_held : (v w : ℤ) (side : ℕ) → v ≤ℤ w → clamped v side ≤ clamped w side
order_held (negsuc a) w side le = let e = held_neg a side in omega (arith, e)
order_held (pos a) (negsuc b) side le = absurd (omega (arith, ints, le))
order_held (pos a) (pos b) side le =
    let e = held_pos a side in
    let t = held_pos b side in
    let few : a ≤ b = omega (arith, ints, le) in
    omega (arith, e, t, few)

-- a step by so many samples
pub near_held : (x : ℤ) (n side : ℕ) → clamped (x +ℤ pos n) side ≤ clamped x side + n
near_held (pos a) n side =
    let e = held_pos a side in
    let t : clamped (pos a +ℤ pos n) side ≡ min (a + n) (side - 1) = held_pos (a + n) side in
    omega (arith, e, t)
near_held (negsuc a) n side =
    let le : (negsuc a +ℤ pos n) ≤ℤ pos n = omega (arith, ints) in
    let order = order_held (negsuc a +ℤ pos n) (pos n) side le in
    let most = held_pos n side in
    omega (arith, order, most)

-- a coordinate by its place behind another one
from_place : (v : ℤ) (base last : ℕ) → base ≤ last → pos base ≤ℤ v
    → base + clamped (v -ℤ pos base) (last + 1 - base) ≡ clamped v (last + 1)
from_place (negsuc a) base last low le = absurd (omega (arith, ints, le))
from_place (pos a) base last low le =
    let few : base ≤ a = omega (arith, ints, le) in
    let same : pos a -ℤ pos base ≡ pos (a - base) = omega (arith, ints, few) in
    let t = held_pos (a - base) (last + 1 - base) in
    let e = held_pos a (last + 1) in
    let sum : base + clamped (pos (a - base)) (last + 1 - base) ≡ clamped (pos a) (last + 1) =
    omega (arith, t, e, few, low) in
    ap (λ z. base + clamped z (last + 1 - base)) same ∙ sum

-- a sample of a line by its place among those of some words, which begin at the column or before it
held_from : (x : ℤ) (n width base k : ℕ) → k < n → base ≤ clamped (x +ℤ pos (n - 1)) width → pos base ≤ℤ x
    → base + clamped (x -ℤ pos base +ℤ pos k) (clamped (x +ℤ pos (n - 1)) width + 1 - base)
    ≡ clamped (x +ℤ pos k) width
held_from x n width base k less low le =
    let last : ℕ = clamped (x +ℤ pos (n - 1)) width in
    let turned : x -ℤ pos base +ℤ pos k ≡ x +ℤ pos k -ℤ pos base = omega (arith, ints) in
    let above : pos base ≤ℤ (x +ℤ pos k) = omega (arith, ints, le) in
    let most : (x +ℤ pos k) ≤ℤ (x +ℤ pos (n - 1)) = omega (arith, ints, less) in
    ap (λ z. base + clamped z (last + 1 - base)) turned
    ∙ (from_place (x +ℤ pos k) base last low above ∙ less_held (x +ℤ pos k) (x +ℤ pos (n - 1)) width most)

-- or at the first column
held_first : (x : ℤ) (n width k : ℕ) → k < n
    → 0 + clamped (x -ℤ pos 0 +ℤ pos k) (clamped (x +ℤ pos (n - 1)) width + 1 - 0) ≡ clamped (x +ℤ pos k) width
held_first x n width k less =
    let last : ℕ = clamped (x +ℤ pos (n - 1)) width in
    let turned : x -ℤ pos 0 +ℤ pos k ≡ x +ℤ pos k = omega (arith, ints) in
    let most : (x +ℤ pos k) ≤ℤ (x +ℤ pos (n - 1)) = omega (arith, ints, less) in
    let whole : last + 1 - 0 ≡ last + 1 = omega arith in
    let plain : 0 + clamped (x +ℤ pos k) (last + 1) ≡ clamped (x +ℤ pos k) (last + 1) = omega arith in
    (λ i. 0 + clamped (turned i) (whole i)) ∙ (plain ∙ less_held (x +ℤ pos k) (x +ℤ pos (n - 1)) width most)

-- words that begin no later than the column, as it is held, begin at it or before it, or are the first ones
begins : (x : ℤ) (width base : ℕ) → base ≤ clamped x width → (pos base ≤ℤ x) ⊎ (base ≡ 0)
begins (pos a) width base low = let e = held_pos a width in inl (omega (arith, ints, e, low))
begins (negsuc a) width base low = let e = held_neg a width in inr (omega (arith, e, low))

pub span_held : (x : ℤ) (n width base k : ℕ) → k < n → base ≤ clamped x width
    → base + clamped (x -ℤ pos base +ℤ pos k) (clamped (x +ℤ pos (n - 1)) width + 1 - base)
    ≡ clamped (x +ℤ pos k) width
span_held x n width base k less low = elim (begins x width base low) [
  | inl le ↦
      let order = order_held x (x +ℤ pos (n - 1)) width (omega (arith, ints)) in
      held_from x n width base k less (omega (arith, low, order)) le
  | inr none ↦
      subst (λ b. b + clamped (x -ℤ pos b +ℤ pos k) (clamped (x +ℤ pos (n - 1)) width + 1 - b)
      ≡ clamped (x +ℤ pos k) width) (sym none) (held_first x n width k less)
]

-- the place of the column among these samples
pub left_fits : (x : ℤ) (width base : ℕ) → base ≤ clamped x width → negsuc 2147483647 ≤ℤ x
    → x ≤ℤ pos 1073741824
    → (negsuc 2147483647 ≤ℤ (x -ℤ pos base)) × ((x -ℤ pos base) ≤ℤ pos 1073741824)
left_fits x width base low least most = elim (begins x width base low) [
  | inl le ↦ (omega (arith, ints, le), omega (arith, ints, most))
  | inr none ↦ (omega (arith, ints, none, least), omega (arith, ints, none, most))
]

-- words that begin no later than the column, by the samples of one
pub word_before : (v per : ℕ) → 4 ≤ per → per ≤ 8 → (v / per * per ≤ v) × (v ≤ v / per * per + 7)
word_before v per least most =
    let low = div-mul-le_self v per in
    let high = lt-div-mul-add {a = v} {b = per} (omega (arith, least)) in
    (low, omega (arith, high, most))

-- these words have up to seven samples before the column, and as many behind it as are asked for
pub span_sizes : (x : ℤ) (n width per first last : ℕ) → 0 < n → n ≤ 71 → 4 ≤ per → per ≤ 8
    → first ≡ clamped x width → last ≡ clamped (x +ℤ pos (n - 1)) width
    → (first / per * per ≤ last) × (last + 1 - first / per * per ≤ 78) × (first / per * per ≤ clamped x width)
span_sizes x n width per first last some few least most first_is last_is =
    let words = word_before first per least most in
    let low = words.0 in
    let high = words.1 in
    let order = order_held x (x +ℤ pos (n - 1)) width (omega (arith, ints)) in
    let near = near_held x (n - 1) width in (
      omega (arith, low, order, first_is, last_is),
      omega (arith, high, near, first_is, last_is, few, some),
      omega (arith, low, first_is),
    )

-- a sample of some, at a place that is held among them
pub held_among : (samples : List ℕ) (v : ℤ) (count : ℕ) (f : ℕ → ℕ) → 0 < count → length samples ≡ count
    → ((i : ℕ) → i < count → slice_index samples i ≡ f i)
    → slice_index samples (clamped v (length samples)) ≡ f (clamped v count)
held_among samples v count f some long each =
    ap (λ n. slice_index samples (clamped v n)) long ∙ each (clamped v count) (clamped_below v count some)
