-- What one lane of eight holds.
use Rattle.std.proofs.Common.{◌≡◌, ℕ, ◌+◌, ◌-◌, ◌*◌, ◌/◌, ◌%◌, ◌^◌, ◌<◌, ◌≤◌, Bool, cond, true, false, ltb, w16, max}
use Rattle.std.proofs.Common.{min, map, List}
use Rattle.std.proofs.Common.{length, get_or, replicate, refl, sym, ap, ◌∙◌, arith}
use lib.Lanes.{Each1, chunk, zip2, sel_l, top}
use mir.Val.{Fits}
use Rattle.std.proofs.lemmas.Bool.Decides.{nat_tests}
use Rattle.std.proofs.lemmas.Simd.{Each1-get_or, length-chunk, get_or-chunk, length-zip2, get_or-zip2}
use Rattle.std.proofs.lemmas.Simd.{tops_compared, length-sel_l, get_or-sel_l, length-replicate, get_or-replicate}

-- v has eight lanes, and lane k holds x
pub record Lane (v : List ℕ) (k x : ℕ) : Type 0 where
  pub long : length v ≡ 8
  pub is : get_or v k 0 ≡ x

-- of a vector that is known by its lanes
pub given : {k : ℕ} → {v : List ℕ} {x : ℕ} → length v ≡ 8 → get_or v k 0 ≡ x → Lane v k x
given long is = record { long = long; is = is }

-- a lane of a vector is a number of 16 bits
pub fits_at : {k : ℕ} → k < 8 → (v : List ℕ) → (length v ≡ 8) × Each1 (Fits w16) v → get_or v k 0 < 65536
fits_at {k} lt v h = let f = Each1-get_or (Fits w16) v k 0 (omega (arith, h.0)) h.1 in f.fits

pub small_or_none : (b : Bool) (x : ℕ) → x < 65536 → cond b x 0 < 65536
small_or_none true x lt = lt
small_or_none false x lt = omega arith

-- of a load
pub loaded : {k : ℕ} → k < 8 → (xs : List ℕ) (start : ℕ) → start + 8 ≤ length xs
    → Lane (chunk start 8 xs) k (get_or xs (start + k) 0)
loaded {k} lt xs start le = record {
  long = length-chunk start 8 xs le;
  is = get_or-chunk start 8 xs k 0 lt;
}

-- of one number in all lanes
pub splat : {k : ℕ} → k < 8 → (x : ℕ) → Lane (replicate 8 x) k x
splat {k} lt x = record { long = length-replicate 8 x; is = get_or-replicate 8 k x 0 lt }

-- of an operator
both : {k : ℕ} → k < 8 → (f : ℕ → ℕ → ℕ) {xs ys : List ℕ} {x y : ℕ} (z : ℕ) → Lane xs k x → Lane ys k y
    → f x y ≡ z → Lane (zip2 f xs ys) k z
both {k} lt f {xs} {ys} {x} {y} z p q e = record {
  long = length-zip2 f xs ys (p.long ∙ sym q.long) ∙ p.long;
  is = get_or-zip2 f xs ys k 0 0 0 (omega (arith, p.long)) (omega (arith, q.long))
      ∙ ap (λ u. f u (get_or ys k 0)) p.is ∙ ap (f x) q.is ∙ e;
}

-- of a sum, and of a difference that doesn't wrap
pub plus : {k : ℕ} → k < 8 → {xs ys : List ℕ} {x y : ℕ} → Lane xs k x → Lane ys k y
    → Lane (zip2 (λ a b. (a + b) % 65536) xs ys) k ((x + y) % 65536)
plus lt {x = x} {y = y} p q = both lt (λ a b. (a + b) % 65536) ((x + y) % 65536) p q refl

pub minus : {k : ℕ} → k < 8 → {xs ys : List ℕ} {x y : ℕ} → Lane xs k x → Lane ys k y → x < 65536 → y ≤ x
    → Lane (zip2 (λ a b. (a + (65536 - b)) % 65536) xs ys) k (x - y)
minus lt {x = x} {y = y} p q fits le = both lt (λ a b. (a + (65536 - b)) % 65536) (x - y) p q (omega arith)

-- of a product, and of a shift down
pub times : {k : ℕ} → k < 8 → {xs ys : List ℕ} {x y : ℕ} → Lane xs k x → Lane ys k y
    → Lane (zip2 (λ a b. (a * b) % 65536) xs ys) k ((x * y) % 65536)
times lt {x = x} {y = y} p q = both lt (λ a b. (a * b) % 65536) ((x * y) % 65536) p q refl

pub shifted : {k : ℕ} → k < 8 → {xs ys : List ℕ} {x y : ℕ} → Lane xs k x → Lane ys k y
    → Lane (zip2 (λ a b. a / 2 ^ b) xs ys) k (x / 2 ^ y)
shifted lt {x = x} {y = y} p q = both lt (λ a b. a / 2 ^ b) (x / 2 ^ y) p q refl

-- of a choice by a comparison
pub chosen : {k : ℕ} → k < 8 → (t : ℕ → ℕ → Bool) {xs ys us vs : List ℕ} {x y u v : ℕ} → Lane xs k x → Lane ys k y
    → Lane us k u → Lane vs k v → (z : ℕ) → cond (t x y) u v ≡ z
    → Lane (sel_l (map (top 15) (zip2 (λ a b. cond (t a b) 65535 0) xs ys)) us vs) k z
chosen {k} lt t {xs} {ys} {us} {vs} {x} {y} {u} {v} p q r s z e =
    let is = ap (λ ms. sel_l ms us vs) (tops_compared w16 t xs ys) in
    let long = length-zip2 t xs ys (p.long ∙ sym q.long) ∙ p.long in
    record {
      long = ap length is ∙ length-sel_l (zip2 t xs ys) us vs (long ∙ sym r.long) (long ∙ sym s.long) ∙ long;
      is = ap (λ l. get_or l k 0) is
          ∙ get_or-sel_l (zip2 t xs ys) us vs k 0 (omega (arith, long)) (omega (arith, r.long))
          (omega (arith, s.long))
          ∙ ap (λ b. cond b (get_or us k 0) (get_or vs k 0))
          (get_or-zip2 t xs ys k 0 0 false (omega (arith, p.long)) (omega (arith, q.long)))
          ∙ ap (λ a. cond (t a (get_or ys k 0)) (get_or us k 0) (get_or vs k 0)) p.is
          ∙ ap (λ b. cond (t x b) (get_or us k 0) (get_or vs k 0)) q.is
          ∙ ap (λ a. cond (t x y) a (get_or vs k 0)) r.is
          ∙ ap (λ b. cond (t x y) u b) s.is ∙ e;
    }

least_is : (x y : ℕ) → cond (ltb x y) x y ≡ min x y
least_is x y = grind (arith, nat_tests)

most_is : (x y : ℕ) → cond (ltb x y) y x ≡ max x y
most_is x y = grind (arith, nat_tests)

-- of the lesser and of the greater of two
pub least : {k : ℕ} → k < 8 → {xs ys : List ℕ} {x y : ℕ} → Lane xs k x → Lane ys k y
    → Lane (sel_l (map (top 15) (zip2 (λ a b. cond (ltb a b) 65535 0) xs ys)) xs ys) k (min x y)
least lt {x = x} {y = y} p q = chosen lt ltb p q p q (min x y) (least_is x y)

pub most : {k : ℕ} → k < 8 → {xs ys : List ℕ} {x y : ℕ} → Lane xs k x → Lane ys k y
    → Lane (sel_l (map (top 15) (zip2 (λ a b. cond (ltb a b) 65535 0) xs ys)) ys xs) k (max x y)
most lt {x = x} {y = y} p q = chosen lt ltb p q q p (max x y) (most_is x y)
