-- Four lines across horizontal edges in memory.
use Rattle.std.proofs.Common.{◌≡◌, ℕ, ◌+◌, ◌-◌, ◌*◌, ◌<◌, ◌≤◌, Bool, true, false, ◌&&◌, ◌||◌, cond}
use Rattle.std.proofs.Common.{List, length, nat_le, nat_lt, refl, ap, sym, ◌∙◌, arith}
use Rattle.std.proofs.Common.{◌⊎◌, inl, inr}
use lib.Lanes.{put_chunk}
use Rattle.std.proofs.lemmas.Bool.{cases_lt}
use Rattle.std.proofs.lemmas.Bool.Decides.{nat_tests}
use Rattle.std.proofs.lemmas.Simd.{get_or-put_chunk_below, get_or-put_chunk_at, get_or-put_chunk_above}
use Rattle.std.specs.Prelude.{◌==◌}
use Rattle.deblock.specs.declared.window.Window.{Window}
use Rattle.deblock.specs.Lanes.{lane}
use Rattle.deblock.specs.Windows.{index, size, seen, holds}
use Rattle.deblock.proofs.Flat.{below, index_inside, inside_of}
use Rattle.deblock.proofs.Laying.{more}

-- lines that follow one another stand beside one another
pub row_index : (w : Window) (a b n : ℕ) → w.turned ≡ true → index w a (b + n) ≡ index w a b + n
row_index w a b n e = rw e (omega arith)

pub row_inside : (w : Window) (a b p : ℕ) → w.turned ≡ true → holds w a (b + 3) ≡ true → p ≡ index w a b
    → p + 4 ≤ size w
row_inside w a b p e h is =
    let i = index_inside w a (b + 3) h in
    let r = row_index w a b 3 e in
    omega (arith, i, r, is)

-- four numbers laid into a list, from a place on
four_laid : (from : ℕ) (xs v : List ℕ) (q : ℕ) → from + 4 ≤ length xs → length v ≡ 4
    → (q < from) ⊎ (from ≤ q) → (q < from + 4) ⊎ (from + 4 ≤ q)
    → lane (put_chunk from xs v) q ≡ cond (nat_le from q && nat_lt q (from + 4)) (lane v (q - from)) (lane xs q)
four_laid from xs v q room long (inl low) _ =
    let e = get_or-put_chunk_below from xs v q 0 low in
    grind (arith, nat_tests, e, low)
four_laid from xs v q room long (inr high) (inl low) =
    let back : from + (q - from) ≡ q = omega arith in
    let e : lane (put_chunk from xs v) q ≡ lane v (q - from) = ap (λ (n : ℕ). lane (put_chunk from xs v) n) (sym back)
    ∙ get_or-put_chunk_at from xs v (q - from) 0 (omega (arith, long)) (omega (arith, long)) in
    grind (arith, nat_tests, e, high, low)
four_laid from xs v q room long (inr high) (inr past) =
    let e = get_or-put_chunk_above from xs v q 0 (omega (arith, long)) in
    grind (arith, nat_tests, e, past)

row_test : (width d a e b : ℕ) → a + 4 ≤ width → b < width
    → (nat_le (width * d + a) (width * e + b) && nat_lt (width * e + b) (width * d + a + 4))
    ≡ (e == d && (nat_le a b && nat_lt b (a + 4)))
row_test width d a e b h l =
    let lower = below width d e in
    let upper = below width e d in
    grind (arith, nat_tests)

row_place : (width d a e b : ℕ) → (e == d && (nat_le a b && nat_lt b (a + 4))) ≡ true
    → width * e + b - (width * d + a) ≡ b - a
row_place width d a e b t =
    let same : e ≡ d = grind (arith, nat_tests) in
    rw same (omega arith)

pub from_first : (a b c : ℕ) → c ≤ a → c ≤ b → (a - c == b - c) ≡ (a == b)
from_first a b c h l = grind (arith, nat_tests)

pub either_same : (b c : Bool) (v w o : ℕ) → b ≡ c → (c ≡ true → v ≡ w) → cond b v o ≡ cond c w o
either_same true true v w o e h = h refl
either_same false false v w o e h = refl
either_same true false v w o e h = cc
either_same false true v w o e h = cc

pub laid : (from : ℕ) (xs v : List ℕ) → from + 4 ≤ length xs → length v ≡ 4 → (q : ℕ)
    → lane (put_chunk from xs v) q ≡ cond (nat_le from q && nat_lt q (from + 4)) (lane v (q - from)) (lane xs q)
laid from xs v room long q = four_laid from xs v q room long (cases_lt q from) (cases_lt q (from + 4))

pub other_lanes : (b : Bool) (v w o : ℕ) → (b ≡ true → v ≡ w) → cond b v o ≡ cond b w o
other_lanes b v w o h = either_same b b v w o refl h

pub in_lanes : (from q : ℕ) → (nat_le from q && nat_lt q (from + 4)) ≡ true → q - from < 4
in_lanes from q t = grind (arith, nat_tests)

pub row_laid : (w : Window) (xs new v : List ℕ) (a b p : ℕ) → w.turned ≡ true → p ≡ index w a b
    → ((n : ℕ) → n < 4 → holds w a (b + n) ≡ true)
    → ((q : ℕ) → lane new q ≡ cond (nat_le p q && nat_lt q (p + 4)) (lane v (q - p)) (lane xs q))
    → (i j : ℕ) → holds w i j ≡ true
    → seen w new i j ≡ cond (i == a && (nat_le b j && nat_lt j (b + 4))) (lane v (j - b)) (seen w xs i j)
row_laid w xs new v a b p e is inside wrote i j h =
    let last = inside_of w a (b + 3) (inside 3 (omega arith)) in
    let here = inside_of w i j h in
    let t = row_test w.along_end (a - w.across_first) b (i - w.across_first) j (omega (arith, last.along_end))
    here.along_end in
    let s = from_first i a w.across_first here.across_first last.across_first in
    let q : index w i j ≡ w.along_end * (i - w.across_first) + j = rw e refl in
    let r : p ≡ w.along_end * (a - w.across_first) + b = is ∙ rw e refl in
    let test : (nat_le p (index w i j) && nat_lt (index w i j) (p + 4))
    ≡ (i == a && (nat_le b j && nat_lt j (b + 4))) = rw (q, r, ← s) t in
    wrote (index w i j)
    ∙ either_same _ _ _ _ _ test
    (λ (yes : (i == a && (nat_le b j && nat_lt j (b + 4))) ≡ true).
    let ok : (i - w.across_first == a - w.across_first && (nat_le b j && nat_lt j (b + 4))) ≡ true = rw s yes in
    let place = row_place w.along_end (a - w.across_first) b (i - w.across_first) j ok in
    let same : index w i j - p ≡ j - b = rw (q, r) place in
    ap (λ (n : ℕ). lane v n) same)

pub either_few : (b : Bool) (v o greatest new : ℕ) → new ≡ cond b v o → (b ≡ true → v ≤ greatest) → o ≤ greatest
    → new ≤ greatest
either_few true v o greatest new e p q = rw e (p refl)
either_few false v o greatest new e p q = rw e q

pub row_small : (xs new v : List ℕ) (p greatest : ℕ)
    → ((q : ℕ) → lane new q ≡ cond (nat_le p q && nat_lt q (p + 4)) (lane v (q - p)) (lane xs q))
    → ((n : ℕ) → n < 4 → lane v n ≤ greatest) → ((q : ℕ) → lane xs q ≤ greatest) → (q : ℕ) → lane new q ≤ greatest
row_small xs new v p greatest wrote few old q =
    either_few _ _ _ greatest _ (wrote q) (λ t. few (q - p) (in_lanes p q t)) (old q)

-- one more row
pub rows_more : (a b k i j : ℕ) (v : ℕ → ℕ → ℕ) (new old start : ℕ)
    → new ≡ cond (i == a + k && (nat_le b j && nat_lt j (b + 4))) (v (j - b) k) old
    → old ≡ cond ((nat_le b j && nat_lt j (b + 4)) && (nat_le a i && nat_lt i (a + k))) (v (j - b) (i - a)) start
    → new
    ≡ cond ((nat_le b j && nat_lt j (b + 4)) && (nat_le a i && nat_lt i (a + (k + 1)))) (v (j - b) (i - a)) start
rows_more a b k i j v new old start n o =
    let test : ((nat_le b j && nat_lt j (b + 4)) && (nat_le a i && nat_lt i (a + (k + 1))))
    ≡ (((nat_le b j && nat_lt j (b + 4)) && (nat_le a i && nat_lt i (a + k)))
    || (i == a + k && (nat_le b j && nat_lt j (b + 4)))) = grind (arith, nat_tests) in
    let value : (i == a + k && (nat_le b j && nat_lt j (b + 4))) ≡ true → v (j - b) k ≡ v (j - b) (i - a) =
    λ (t : (i == a + k && (nat_le b j && nat_lt j (b + 4))) ≡ true).
    let d : k ≡ i - a = grind (arith, nat_tests) in
    ap (λ (n : ℕ). v (j - b) n) d in
    more _ _ _ new old start _ _ n o value test

pub rows_none : (a b i j v start : ℕ)
    → start ≡ cond ((nat_le b j && nat_lt j (b + 4)) && (nat_le a i && nat_lt i (a + 0))) v start
rows_none a b i j v start =
    let none : ((nat_le b j && nat_lt j (b + 4)) && (nat_le a i && nat_lt i (a + 0))) ≡ false = grind
    (arith, nat_tests) in
    rw none refl

pub lines_in : (b j : ℕ) (r : Bool) → ((nat_le b j && nat_lt j (b + 4)) && r) ≡ true → (b ≤ j) × (j < b + 4)
lines_in b j true t = (grind (arith, nat_tests), grind (arith, nat_tests))
lines_in b j false t = (grind (arith, nat_tests), grind (arith, nat_tests))

pub rows_then : (b j : ℕ) (r : Bool) (new v w o : ℕ) → new ≡ cond ((nat_le b j && nat_lt j (b + 4)) && r) v o
    → (b ≤ j → j < b + 4 → v ≡ w) → new ≡ cond ((nat_le b j && nat_lt j (b + 4)) && r) w o
rows_then b j r new v w o e f =
    e ∙ other_lanes ((nat_le b j && nat_lt j (b + 4)) && r) v w o (λ t. let at = lines_in b j r t in f at.0 at.1)

-- whole lines of a place of luma
pub wide_test : (side s a from to i j b : ℕ) → side ≡ 4 → from ≡ 0 → to ≡ 8 → b ≡ side * s
    → ((nat_le b j && nat_lt j (b + 4)) && (nat_le a i && nat_lt i (a + 8)))
    ≡ ((nat_le (side * s) j && nat_lt j (side * s + side)) && (nat_le (a + from) i && nat_lt i (a + to)))
wide_test side s a from to i j b four none eight is =
    let z : a + 0 ≡ a = omega arith in
    rw (is, four, none, eight, z) refl
