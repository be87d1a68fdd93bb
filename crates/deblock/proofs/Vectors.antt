-- What one lane of four holds.
use Rattle.std.proofs.Common.{◌≡◌, ℕ, ◌+◌, ◌-◌, ◌*◌, ◌/◌, ◌%◌, ◌^◌, ◌<◌, ◌≤◌, Bool, cond, true, false, ltb, w32, max}
use Rattle.std.proofs.Common.{min, map, List}
use Rattle.std.proofs.Common.{length, get_or, replicate, refl, sym, ap, ◌∙◌, arith}
use lib.Lanes.{Each1, zip2, sel_l, top}
use mir.Val.{Fits}
use Rattle.std.proofs.lemmas.Bool.Decides.{nat_tests}
use Rattle.std.proofs.Common.{ℤ, pos, ◌+ℤ◌, ◌-ℤ◌, neg_ℤ, nat_lt, if◌then◌else◌}
use Rattle.std.proofs.lemmas.Int.{ints, clamps}
use Rattle.std.specs.Int.{int_shr}
use Rattle.std.specs.Int.RustNames.{unsigned_abs}
use Rattle.spec_deblocking.specs.declared.line.Line.{Line}
use Rattle.spec_deblocking.specs.Filters.{held, moved, normal, normal_change, second_change, second_sample}
use Rattle.spec_deblocking.specs.Filters.{strong, within, chroma_change, nearest}
use Rattle.deblock.specs.Samples.{AreSmall}
use Rattle.std.proofs.lemmas.Simd.{Each1-get_or, length-zip2, get_or-zip2}
use Rattle.std.proofs.lemmas.Simd.{tops_compared, length-sel_l, get_or-sel_l, length-replicate, get_or-replicate}

abbrev pub line_with : Line → ℕ → ℕ → ℕ → ℕ → ℕ → ℕ → Line
line_with line a b c d e f = record {
  p3 = line.p3;
  p2 = a;
  p1 = b;
  p0 = c;
  q0 = d;
  q1 = e;
  q2 = f;
  q3 = line.q3;
}

-- v has four lanes, and lane k holds x
pub record Lane (v : List ℕ) (k x : ℕ) : Type 0 where
  pub long : length v ≡ 4
  pub is : get_or v k 0 ≡ x

-- of a vector that is known by its lanes
pub given : {k : ℕ} → {v : List ℕ} {x : ℕ} → length v ≡ 4 → get_or v k 0 ≡ x → Lane v k x
given long is = record { long = long; is = is }

-- a lane of a vector is a number of 32 bits
pub fits_at : {k : ℕ} → k < 4 → (v : List ℕ) → (length v ≡ 4) × Each1 (Fits w32) v → get_or v k 0 < 4294967296
fits_at {k} lt v h = let f = Each1-get_or (Fits w32) v k 0 (omega (arith, h.0)) h.1 in f.fits

-- of one number in all lanes
pub splat : {k : ℕ} → k < 4 → (x : ℕ) → Lane (replicate 4 x) k x
splat {k} lt x = record { long = length-replicate 4 x; is = get_or-replicate 4 k x 0 lt }

-- of an operator
both : {k : ℕ} → k < 4 → (f : ℕ → ℕ → ℕ) {xs ys : List ℕ} {x y : ℕ} (z : ℕ) → Lane xs k x → Lane ys k y
    → f x y ≡ z → Lane (zip2 f xs ys) k z
both {k} lt f {xs} {ys} {x} {y} z p q e = record {
  long = length-zip2 f xs ys (p.long ∙ sym q.long) ∙ p.long;
  is = get_or-zip2 f xs ys k 0 0 0 (omega (arith, p.long)) (omega (arith, q.long))
      ∙ ap (λ u. f u (get_or ys k 0)) p.is ∙ ap (f x) q.is ∙ e;
}

-- of sums, products and differences that don't wrap
pub plus : {k : ℕ} → k < 4 → {xs ys : List ℕ} {x y : ℕ} → Lane xs k x → Lane ys k y → x + y < 4294967296
    → Lane (zip2 (λ a b. (a + b) % 4294967296) xs ys) k (x + y)
plus lt {x = x} {y = y} p q fits = both lt (λ a b. (a + b) % 4294967296) (x + y) p q (omega arith)

pub times : {k : ℕ} → k < 4 → {xs ys : List ℕ} {x y : ℕ} → Lane xs k x → Lane ys k y → x * y < 4294967296
    → Lane (zip2 (λ a b. (a * b) % 4294967296) xs ys) k (x * y)
times lt {x = x} {y = y} p q fits = both lt (λ a b. (a * b) % 4294967296) (x * y) p q (omega arith)

pub minus : {k : ℕ} → k < 4 → {xs ys : List ℕ} {x y : ℕ} → Lane xs k x → Lane ys k y → x < 4294967296 → y ≤ x
    → Lane (zip2 (λ a b. (a + (4294967296 - b)) % 4294967296) xs ys) k (x - y)
minus lt {x = x} {y = y} p q fits le =
    both lt (λ a b. (a + (4294967296 - b)) % 4294967296) (x - y) p q (omega arith)

-- of a shift to the right
pub shifted : {k : ℕ} → k < 4 → (s d : ℕ) → 2 ^ s ≡ d → {xs : List ℕ} {x : ℕ} → Lane xs k x
    → Lane (zip2 (λ a b. a / 2 ^ b) xs (replicate 4 s)) k (x / d)
shifted lt s d e {x = x} p = both lt (λ a b. a / 2 ^ b) (x / d) p (splat lt s) (ap (λ b. x / b) e)

-- of a choice by a comparison
pub chosen : {k : ℕ} → k < 4 → (t : ℕ → ℕ → Bool) {xs ys us vs : List ℕ} {x y u v : ℕ} → Lane xs k x → Lane ys k y
    → Lane us k u → Lane vs k v → (z : ℕ) → cond (t x y) u v ≡ z
    → Lane (sel_l (map (top 31) (zip2 (λ a b. cond (t a b) 4294967295 0) xs ys)) us vs) k z
chosen {k} lt t {xs} {ys} {us} {vs} {x} {y} {u} {v} p q r s z e =
    let is = ap (λ ms. sel_l ms us vs) (tops_compared w32 t xs ys) in
    let long = length-zip2 t xs ys (p.long ∙ sym q.long) ∙ p.long in
    record {
      long = ap length is ∙ length-sel_l (zip2 t xs ys) us vs (long ∙ sym r.long) (long ∙ sym s.long) ∙ long;
      is = ap (λ l. get_or l k 0) is
          ∙ get_or-sel_l (zip2 t xs ys) us vs k 0 (omega (arith, long)) (omega (arith, r.long))
          (omega (arith, s.long))
          ∙ ap (λ b. cond b (get_or us k 0) (get_or vs k 0))
          (get_or-zip2 t xs ys k 0 0 false (omega (arith, p.long)) (omega (arith, q.long)))
          ∙ ap (λ a. cond (t a (get_or ys k 0)) (get_or us k 0) (get_or vs k 0)) p.is
          ∙ ap (λ b. cond (t x b) (get_or us k 0) (get_or vs k 0)) q.is
          ∙ ap (λ a. cond (t x y) a (get_or vs k 0)) r.is
          ∙ ap (λ b. cond (t x y) u b) s.is ∙ e;
    }

least_is : (x y : ℕ) → cond (ltb x y) x y ≡ min x y
least_is x y = grind (arith, nat_tests)

most_is : (x y : ℕ) → cond (ltb x y) y x ≡ max x y
most_is x y = grind (arith, nat_tests)

-- of the lesser and of the greater of two
pub least : {k : ℕ} → k < 4 → {xs ys : List ℕ} {x y : ℕ} → Lane xs k x → Lane ys k y
    → Lane (sel_l (map (top 31) (zip2 (λ a b. cond (ltb a b) 4294967295 0) xs ys)) xs ys) k (min x y)
least lt {x = x} {y = y} p q = chosen lt ltb p q p q (min x y) (least_is x y)

pub most : {k : ℕ} → k < 4 → {xs ys : List ℕ} {x y : ℕ} → Lane xs k x → Lane ys k y
    → Lane (sel_l (map (top 31) (zip2 (λ a b. cond (ltb a b) 4294967295 0) xs ys)) ys xs) k (max x y)
most lt {x = x} {y = y} p q = chosen lt ltb p q q p (max x y) (most_is x y)

pub held_is : (v s r : ℕ) → max (min v (s + r)) (max s r - r) ≡ held v s r
unfolding held
held_is v s r = omega arith

pub strong_lines : (tc : ℕ) (line : Line) (p2 p1 p0 q0 q1 q2 : ℕ)
    → p2 ≡ held ((2 * line.p3 + 3 * line.p2 + line.p1 + line.p0 + line.q0 + 4) / 8) line.p2 (2 * tc)
    → p1 ≡ held ((line.p2 + line.p1 + line.p0 + line.q0 + 2) / 4) line.p1 (2 * tc)
    → p0 ≡ held ((line.p2 + 2 * line.p1 + 2 * line.p0 + 2 * line.q0 + line.q1 + 4) / 8) line.p0 (2 * tc)
    → q0 ≡ held ((line.q2 + 2 * line.q1 + 2 * line.q0 + 2 * line.p0 + line.p1 + 4) / 8) line.q0 (2 * tc)
    → q1 ≡ held ((line.q2 + line.q1 + line.q0 + line.p0 + 2) / 4) line.q1 (2 * tc)
    → q2 ≡ held ((2 * line.q3 + 3 * line.q2 + line.q1 + line.q0 + line.p0 + 4) / 8) line.q2 (2 * tc)
    → line_with line p2 p1 p0 q0 q1 q2 ≡ strong tc line
unfolding strong
strong_lines tc line p2 p1 p0 q0 q1 q2 a b c d e f =
    let x : line.q2 + 2 * line.q1 + 2 * line.q0 + 2 * line.p0 + line.p1 + 4
    ≡ line.p1 + 2 * line.p0 + 2 * line.q0 + 2 * line.q1 + line.q2 + 4 = omega arith in
    let y : line.q2 + line.q1 + line.q0 + line.p0 + 2 ≡ line.p0 + line.q0 + line.q1 + line.q2 + 2 = omega arith in
    let z : 2 * line.q3 + 3 * line.q2 + line.q1 + line.q0 + line.p0 + 4
    ≡ line.p0 + line.q0 + line.q1 + 3 * line.q2 + 2 * line.q3 + 4 = omega arith in
    rw (a, b, c, d, e, f, x, y, z) refl

pub change_is : (p1 p0 q0 q1 : ℕ) → p1 ≤ 16383 → p0 ≤ 16383 → q0 ≤ 16383 → q1 ≤ 16383
    → pos ((9 * q0 + 3 * p1 + 16777224 - (9 * p0 + 3 * q1)) / 16) -ℤ pos 1048576
    ≡ int_shr (pos (9 * q0 + 3 * p1 + 8) -ℤ pos (9 * p0 + 3 * q1)) 4
change_is p1 p0 q0 q1 a b c d = grind (arith, ints, clamps)

pub chroma_change_is : (p1 p0 q0 q1 : ℕ) → p1 ≤ 16383 → p0 ≤ 16383 → q0 ≤ 16383 → q1 ≤ 16383
    → pos ((4 * q0 + p1 + 8388612 - (4 * p0 + q1)) / 8) -ℤ pos 1048576
    ≡ int_shr (pos (4 * q0 + p1 + 4) -ℤ pos (4 * p0 + q1)) 3
chroma_change_is p1 p0 q0 q1 a b c d = grind (arith, ints, clamps)

pub within_is : (d reach base : ℕ) → reach ≤ 16320 → 65536 ≤ base
    → pos (max (min d (base + reach)) (base - reach)) -ℤ pos base ≡ within reach (pos d -ℤ pos base)
unfolding within
within_is d reach base few low = grind (arith, ints, clamps)

pub moved_is : (s d base greatest : ℕ)
    → min (max (s + d) base - base) greatest ≡ moved greatest s (pos d -ℤ pos base)
unfolding moved
moved_is s d base greatest = grind (arith, ints, clamps)

pub negated_is : (d : ℕ) → d ≤ 2097152 → pos (2097152 - d) -ℤ pos 1048576 ≡ neg_ℤ (pos d -ℤ pos 1048576)
negated_is d few = grind (arith, ints, clamps)

pub half_is : (mean middle d : ℕ) → middle ≤ 16383 → 1048576 ≤ d + 16320
    → pos ((mean + d - middle) / 2) -ℤ pos 524288 ≡ int_shr (pos mean -ℤ pos middle +ℤ (pos d -ℤ pos 1048576)) 1
half_is mean middle d few near = grind (arith, ints, clamps)

pub few_is : (d bound : ℕ) → d ≤ 2097152
    → ltb (max d (2097152 - d)) (1048576 + bound) ≡ nat_lt (unsigned_abs (pos d -ℤ pos 1048576)) bound
few_is d bound few = grind (arith, ints, clamps, nat_tests)

normal_case : (t : Bool) (p1 q1 : Bool) (greatest tc : ℕ) (line : Line) (delta back : ℤ) (a b c d : ℕ)
    → a ≡ cond t (second_sample p1 greatest tc line.p2 line.p1 line.p0 delta) line.p1
    → b ≡ cond t (moved greatest line.p0 delta) line.p0
    → c ≡ cond t (moved greatest line.q0 back) line.q0
    → d ≡ cond t (second_sample q1 greatest tc line.q2 line.q1 line.q0 back) line.q1
    → line_with line line.p2 a b c d line.q2
    ≡ (if t
    then line_with line line.p2 (second_sample p1 greatest tc line.p2 line.p1 line.p0 delta)
    (moved greatest line.p0 delta)
    (moved greatest line.q0 back) (second_sample q1 greatest tc line.q2 line.q1 line.q0 back) line.q2
    else line)
normal_case true p1 q1 greatest tc line delta back a b c d ea eb ec ed = rw (ea, eb, ec, ed) refl
normal_case false p1 q1 greatest tc line delta back a b c d ea eb ec ed = rw (ea, eb, ec, ed) refl

pub normal_lines : (p1 q1 : Bool) (greatest tc : ℕ) (line : Line) (change delta back : ℤ) (a b c d : ℕ)
    → change ≡ int_shr (pos (9 * line.q0 + 3 * line.p1 + 8) -ℤ pos (9 * line.p0 + 3 * line.q1)) 4
    → delta ≡ within tc change → back ≡ neg_ℤ delta
    → a
    ≡ cond (nat_lt (unsigned_abs change) (10 * tc)) (second_sample p1 greatest tc line.p2 line.p1 line.p0 delta) line.p1
    → b ≡ cond (nat_lt (unsigned_abs change) (10 * tc)) (moved greatest line.p0 delta) line.p0
    → c ≡ cond (nat_lt (unsigned_abs change) (10 * tc)) (moved greatest line.q0 back) line.q0
    → d
    ≡ cond (nat_lt (unsigned_abs change) (10 * tc)) (second_sample q1 greatest tc line.q2 line.q1 line.q0 back) line.q1
    → line_with line line.p2 a b c d line.q2 ≡ normal p1 q1 greatest tc line
unfolding normal normal_change
normal_lines p1 q1 greatest tc line change delta back a b c d e f g ea eb ec ed =
    normal_case (nat_lt (unsigned_abs change) (10 * tc)) p1 q1 greatest tc line delta back a b c d ea eb ec ed
    ∙ rw (g, f, e) refl

pub nearest_lines : (greatest tc : ℕ) (line : Line) (change delta back : ℤ) (b c : ℕ)
    → change ≡ int_shr (pos (4 * line.q0 + line.p1 + 4) -ℤ pos (4 * line.p0 + line.q1)) 3
    → delta ≡ within tc change → back ≡ neg_ℤ delta → b ≡ moved greatest line.p0 delta
    → c ≡ moved greatest line.q0 back
    → line_with line line.p2 line.p1 b c line.q1 line.q2 ≡ nearest greatest tc line
unfolding nearest chroma_change
nearest_lines greatest tc line change delta back b c e f g eb ec = rw (eb, ec, g, f, e) refl

pub second_yes : (changes : Bool) (greatest tc outer middle inner : ℕ) (delta : ℤ) → changes ≡ true
    → moved greatest middle (within (tc / 2) (int_shr (pos ((outer + inner + 1) / 2) -ℤ pos middle +ℤ delta) 1))
    ≡ second_sample changes greatest tc outer middle inner delta
unfolding second_sample second_change
second_yes changes greatest tc outer middle inner delta e = rw e refl

pub second_no : (changes : Bool) (greatest tc outer middle inner : ℕ) (delta : ℤ) → changes ≡ false
    → middle ≡ second_sample changes greatest tc outer middle inner delta
unfolding second_sample
second_no changes greatest tc outer middle inner delta e = rw e refl

-- no filter takes a sample past its bit depth
held_few : (v s r greatest : ℕ) → v ≤ greatest → s ≤ greatest → held v s r ≤ greatest
unfolding held
held_few v s r greatest p q = omega (arith, p, q)

moved_few : (greatest s : ℕ) (z : ℤ) → moved greatest s z ≤ greatest
unfolding moved
moved_few greatest s z = grind (arith, ints, clamps)

second_few : (changes : Bool) (greatest tc outer middle inner : ℕ) (delta : ℤ) → middle ≤ greatest
    → second_sample changes greatest tc outer middle inner delta ≤ greatest
unfolding second_sample
second_few true greatest tc outer middle inner delta few = moved_few greatest middle _
second_few false greatest tc outer middle inner delta few = few

either_small : (t : Bool) (greatest : ℕ) (a b : Line) → AreSmall greatest a → AreSmall greatest b
    → AreSmall greatest (if t then a else b)
either_small true greatest a b p q = p
either_small false greatest a b p q = q

pub normal_small : (p1 q1 : Bool) (greatest tc : ℕ) (line : Line) → AreSmall greatest line
    → AreSmall greatest (normal p1 q1 greatest tc line)
unfolding normal
normal_small p1 q1 greatest tc line h =
    either_small _ greatest _ _ (record {
      p3 = h.p3;
      p2 = h.p2;
      p1 = second_few p1 greatest tc line.p2 line.p1 line.p0 _ h.p1;
      p0 = moved_few greatest line.p0 _;
      q0 = moved_few greatest line.q0 _;
      q1 = second_few q1 greatest tc line.q2 line.q1 line.q0 _ h.q1;
      q2 = h.q2;
      q3 = h.q3;
    }) h

pub nearest_small : (greatest tc : ℕ) (line : Line) → AreSmall greatest line
    → AreSmall greatest (nearest greatest tc line)
unfolding nearest
nearest_small greatest tc line h = record {
  p3 = h.p3;
  p2 = h.p2;
  p1 = h.p1;
  p0 = moved_few greatest line.p0 _;
  q0 = moved_few greatest line.q0 _;
  q1 = h.q1;
  q2 = h.q2;
  q3 = h.q3;
}

pub strong_small : (greatest tc : ℕ) (line : Line) → AreSmall greatest line → AreSmall greatest (strong tc line)
unfolding strong
strong_small greatest tc line h =
    let a = h.p3 in
    let b = h.p2 in
    let c = h.p1 in
    let d = h.p0 in
    let e = h.q0 in
    let f = h.q1 in
    let g = h.q2 in
    let i = h.q3 in
    record {
      p3 = h.p3;
      p2 = held_few _ _ _ greatest (omega (arith, a, b, c, d, e)) b;
      p1 = held_few _ _ _ greatest (omega (arith, b, c, d, e)) c;
      p0 = held_few _ _ _ greatest (omega (arith, b, c, d, e, f)) d;
      q0 = held_few _ _ _ greatest (omega (arith, c, d, e, f, g)) e;
      q1 = held_few _ _ _ greatest (omega (arith, d, e, f, g)) f;
      q2 = held_few _ _ _ greatest (omega (arith, d, e, f, g, i)) g;
      q3 = h.q3;
    }
