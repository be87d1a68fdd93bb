-- Lines across vertical edges in memory.
use Rattle.std.proofs.Common.{◌≡◌, ℕ, ◌+◌, ◌-◌, ◌*◌, ◌<◌, ◌≤◌, true, false, ◌&&◌, cond, List, length}
use Rattle.std.proofs.Common.{nat_le, nat_lt, refl, ap, sym, ◌∙◌, arith, ◌⊎◌, inl, inr, zero, suc}
use Rattle.std.proofs.Common.{subst}
use lib.Lanes.{put_chunk}
use Rattle.std.proofs.lemmas.Bool.{cases_lt}
use Rattle.std.proofs.lemmas.Bool.Decides.{nat_tests}
use Rattle.std.proofs.lemmas.Simd.{get_or-put_chunk_below, get_or-put_chunk_at, get_or-put_chunk_above}
use Rattle.std.specs.Prelude.{◌==◌}
use Rattle.spec_deblocking.specs.Lines.{across, nth}
use Rattle.deblock.specs.declared.window.Window.{Window}
use Rattle.spec_deblocking.specs.declared.line.Line.{Line}
use Rattle.deblock.specs.declared.lanes.Lines.{Lines}
use Rattle.deblock.specs.Lanes.{lane, line_of, row_of}
use Rattle.deblock.specs.Samples.{AreSmall}
use Rattle.deblock.specs.Windows.{index, size, seen, holds}
use Rattle.deblock.proofs.Beside.{either_same, either_few, from_first}
use Rattle.deblock.proofs.Laying.{lines_more, lines_none}
use Rattle.deblock.proofs.Flat.{below, index_inside, inside_of}

pub column_index : (w : Window) (a b k p : ℕ) → w.turned ≡ false → p ≡ index w (a + 0) b → p + k ≡ index w (a + k) b
column_index w a b k p e is = rw e (omega (arith, rw e at is))

pub line_inside : (w : Window) (a b p : ℕ) → w.turned ≡ false → holds w (a + 7) b ≡ true → p ≡ index w (a + 0) b
    → p + 8 ≤ size w
line_inside w a b p e h is =
    let i = index_inside w (a + 7) b h in
    let r = column_index w a b 7 p e is in
    omega (arith, i, r)

eight_laid : (from : ℕ) (xs v : List ℕ) (q : ℕ) → from + 8 ≤ length xs → length v ≡ 8
    → (q < from) ⊎ (from ≤ q) → (q < from + 8) ⊎ (from + 8 ≤ q)
    → lane (put_chunk from xs v) q ≡ cond (nat_le from q && nat_lt q (from + 8)) (lane v (q - from)) (lane xs q)
eight_laid from xs v q room long (inl low) _ =
    let e = get_or-put_chunk_below from xs v q 0 low in
    grind (arith, nat_tests, e, low)
eight_laid from xs v q room long (inr high) (inl low) =
    let back : from + (q - from) ≡ q = omega arith in
    let e : lane (put_chunk from xs v) q ≡ lane v (q - from) = ap (λ (n : ℕ). lane (put_chunk from xs v) n) (sym back)
    ∙ get_or-put_chunk_at from xs v (q - from) 0 (omega (arith, long)) (omega (arith, long)) in
    grind (arith, nat_tests, e, high, low)
eight_laid from xs v q room long (inr high) (inr past) =
    let e = get_or-put_chunk_above from xs v q 0 (omega (arith, long)) in
    grind (arith, nat_tests, e, past)

pub laid : (from : ℕ) (xs v : List ℕ) → from + 8 ≤ length xs → length v ≡ 8 → (q : ℕ)
    → lane (put_chunk from xs v) q ≡ cond (nat_le from q && nat_lt q (from + 8)) (lane v (q - from)) (lane xs q)
laid from xs v room long q = eight_laid from xs v q room long (cases_lt q from) (cases_lt q (from + 8))

place_is : (w : Window) (xs v : List ℕ) (a b p k : ℕ) → k < 8
    → ((k : ℕ) → k < 8 → lane v k ≡ lane xs (p + k)) → ((k : ℕ) → p + k ≡ index w (a + k) b)
    → lane v k ≡ seen w xs (a + k) b
place_is w xs v a b p k lt loaded is = loaded k lt ∙ ap (λ (q : ℕ). lane xs q) (is k)

pub line_is : (w : Window) (xs v : List ℕ) (a b p : ℕ)
    → ((k : ℕ) → k < 8 → lane v k ≡ lane xs (p + k)) → ((k : ℕ) → p + k ≡ index w (a + k) b)
    → row_of v ≡ across (seen w xs) a b
line_is w xs v a b p loaded is =
    let z : a + 0 ≡ a = omega arith in
    let e0 : lane v 0 ≡ seen w xs a b = rw z at (place_is w xs v a b p 0 (omega arith) loaded is) in
    let e1 = place_is w xs v a b p 1 (omega arith) loaded is in
    let e2 = place_is w xs v a b p 2 (omega arith) loaded is in
    let e3 = place_is w xs v a b p 3 (omega arith) loaded is in
    let e4 = place_is w xs v a b p 4 (omega arith) loaded is in
    let e5 = place_is w xs v a b p 5 (omega arith) loaded is in
    let e6 = place_is w xs v a b p 6 (omega arith) loaded is in
    let e7 = place_is w xs v a b p 7 (omega arith) loaded is in
    rw (e0, e1, e2, e3, e4, e5, e6, e7) refl

pub line_small : (xs v : List ℕ) (p greatest : ℕ) → ((k : ℕ) → k < 8 → lane v k ≡ lane xs (p + k))
    → ((q : ℕ) → lane xs q ≤ greatest) → AreSmall greatest (row_of v)
line_small xs v p greatest loaded all = record {
  p3 = rw (loaded 0 (omega arith)) (all _);
  p2 = rw (loaded 1 (omega arith)) (all _);
  p1 = rw (loaded 2 (omega arith)) (all _);
  p0 = rw (loaded 3 (omega arith)) (all _);
  q0 = rw (loaded 4 (omega arith)) (all _);
  q1 = rw (loaded 5 (omega arith)) (all _);
  q2 = rw (loaded 6 (omega arith)) (all _);
  q3 = rw (loaded 7 (omega arith)) (all _);
}

nth_lane : (v : List ℕ) (k : ℕ) → k < 8 → lane v k ≡ nth (row_of v) k
nth_lane v zero lt = refl
nth_lane v (suc zero) lt = refl
nth_lane v (suc (suc zero)) lt = refl
nth_lane v (suc (suc (suc zero))) lt = refl
nth_lane v (suc (suc (suc (suc zero)))) lt = refl
nth_lane v (suc (suc (suc (suc (suc zero))))) lt = refl
nth_lane v (suc (suc (suc (suc (suc (suc zero)))))) lt = refl
nth_lane v (suc (suc (suc (suc (suc (suc (suc zero))))))) lt = refl
nth_lane v (suc (suc (suc (suc (suc (suc (suc (suc k)))))))) lt = absurd (omega arith)

line_test : (width d a e b : ℕ) → a + 8 ≤ width → b < width
    → (nat_le (width * d + a) (width * e + b) && nat_lt (width * e + b) (width * d + a + 8))
    ≡ (e == d && (nat_le a b && nat_lt b (a + 8)))
line_test width d a e b h l =
    let lower = below width d e in
    let upper = below width e d in
    grind (arith, nat_tests)

line_place : (width d a e b : ℕ) → (e == d && (nat_le a b && nat_lt b (a + 8))) ≡ true
    → width * e + b - (width * d + a) ≡ b - a
line_place width d a e b t =
    let same : e ≡ d = grind (arith, nat_tests) in
    rw same (omega arith)

in_line : (d a e b : ℕ) → (e == d && (nat_le a b && nat_lt b (a + 8))) ≡ true → b - a < 8
in_line d a e b t = grind (arith, nat_tests)

pub line_laid : (w : Window) (xs new v : List ℕ) (a b p : ℕ) → w.turned ≡ false
    → ((k : ℕ) → p + k ≡ index w (a + k) b) → ((k : ℕ) → k < 8 → holds w (a + k) b ≡ true)
    → ((q : ℕ) → lane new q ≡ cond (nat_le p q && nat_lt q (p + 8)) (lane v (q - p)) (lane xs q))
    → (i j : ℕ) → holds w i j ≡ true
    → seen w new i j
    ≡ cond (j == b && (nat_le a i && nat_lt i (a + 8))) (nth (row_of v) (i - a)) (seen w xs i j)
line_laid w xs new v a b p e is inside wrote i j h =
    let last = inside_of w (a + 7) b (inside 7 (omega arith)) in
    let here = inside_of w i j h in
    let t = line_test w.across_end (b - w.along_first) a (j - w.along_first) i (omega (arith, last.across_end))
    here.across_end in
    let s = from_first j b w.along_first here.along_first last.along_first in
    let q : index w i j ≡ w.across_end * (j - w.along_first) + i = rw e refl in
    let start = rw e at (is 0) in
    let r : p ≡ w.across_end * (b - w.along_first) + a = omega (arith, start) in
    let test : (nat_le p (index w i j) && nat_lt (index w i j) (p + 8))
    ≡ (j == b && (nat_le a i && nat_lt i (a + 8))) = rw (q, r, ← s) t in
    wrote (index w i j)
    ∙ either_same _ _ _ _ _ test
    (λ (yes : (j == b && (nat_le a i && nat_lt i (a + 8))) ≡ true).
    let ok : (j - w.along_first == b - w.along_first && (nat_le a i && nat_lt i (a + 8))) ≡ true = rw s yes in
    let place = line_place w.across_end (b - w.along_first) a (j - w.along_first) i ok in
    let same : index w i j - p ≡ i - a = rw (q, r) place in
    ap (λ (n : ℕ). lane v n) same ∙ nth_lane v (i - a) (in_line b a j i yes))

small_at : (v : List ℕ) (greatest k : ℕ) → k < 8 → AreSmall greatest (row_of v) → lane v k ≤ greatest
small_at v greatest zero lt h = h.p3
small_at v greatest (suc zero) lt h = h.p2
small_at v greatest (suc (suc zero)) lt h = h.p1
small_at v greatest (suc (suc (suc zero))) lt h = h.p0
small_at v greatest (suc (suc (suc (suc zero)))) lt h = h.q0
small_at v greatest (suc (suc (suc (suc (suc zero))))) lt h = h.q1
small_at v greatest (suc (suc (suc (suc (suc (suc zero)))))) lt h = h.q2
small_at v greatest (suc (suc (suc (suc (suc (suc (suc zero))))))) lt h = h.q3
small_at v greatest (suc (suc (suc (suc (suc (suc (suc (suc k)))))))) lt h = absurd (omega arith)

in_lanes : (from q : ℕ) → (nat_le from q && nat_lt q (from + 8)) ≡ true → q - from < 8
in_lanes from q t = grind (arith, nat_tests)

pub laid_small : (xs new v : List ℕ) (p greatest : ℕ)
    → ((q : ℕ) → lane new q ≡ cond (nat_le p q && nat_lt q (p + 8)) (lane v (q - p)) (lane xs q))
    → AreSmall greatest (row_of v) → ((q : ℕ) → lane xs q ≤ greatest) → (q : ℕ) → lane new q ≤ greatest
laid_small xs new v p greatest wrote few old q =
    either_few _ _ _ greatest _ (wrote q) (λ t. small_at v greatest (q - p) (in_lanes p q t) few) (old q)

-- four lines, one after the other
pub four_of : (f : ℕ → Line) (l : Lines) (b : ℕ) → line_of l 0 ≡ f (b + 0) → line_of l 1 ≡ f (b + 1)
    → line_of l 2 ≡ f (b + 2) → line_of l 3 ≡ f (b + 3) → (n : ℕ) → n < 4 → line_of l n ≡ f (b + n)
four_of f l b p q r s zero lt = p
four_of f l b p q r s (suc zero) lt = q
four_of f l b p q r s (suc (suc zero)) lt = r
four_of f l b p q r s (suc (suc (suc zero))) lt = s
four_of f l b p q r s (suc (suc (suc (suc n)))) lt = absurd (omega arith)

pub same_row : (greatest : ℕ) (a b : Line) → a ≡ b → AreSmall greatest b → AreSmall greatest a
same_row greatest a b e h = subst (λ (l : Line). AreSmall greatest l) (sym e) h

pub four_small : (greatest : ℕ) (l : Lines) (a b c d : Line) → line_of l 0 ≡ a → line_of l 1 ≡ b → line_of l 2 ≡ c
    → line_of l 3 ≡ d → AreSmall greatest a → AreSmall greatest b → AreSmall greatest c → AreSmall greatest d
    → (n : ℕ) → n < 4 → AreSmall greatest (line_of l n)
four_small greatest l a b c d e f g h p q r s zero lt = same_row greatest _ a e p
four_small greatest l a b c d e f g h p q r s (suc zero) lt = same_row greatest _ b f q
four_small greatest l a b c d e f g h p q r s (suc (suc zero)) lt = same_row greatest _ c g r
four_small greatest l a b c d e f g h p q r s (suc (suc (suc zero))) lt = same_row greatest _ d h s
four_small greatest l a b c d e f g h p q r s (suc (suc (suc (suc n)))) lt = absurd (omega arith)

pub more_line : (a b n i j : ℕ) (f : ℕ → Line) (line : Line) (new old start : ℕ) → line ≡ f (b + n)
    → new ≡ cond (j == b + n && (nat_le a i && nat_lt i (a + 8))) (nth line (i - a)) old
    → old ≡ cond ((nat_le b j && nat_lt j (b + n)) && (nat_le a i && nat_lt i (a + 8))) (nth (f j) (i - a)) start
    → new
    ≡ cond ((nat_le b j && nat_lt j (b + (n + 1))) && (nat_le a i && nat_lt i (a + 8))) (nth (f j) (i - a)) start
more_line a b n i j f line new old start e w o =
    lines_more b n j (nat_le a i && nat_lt i (a + 8)) (λ y. nth (f y) (i - a)) new old start (rw e at w) o

pub no_lines : (a b i j v start : ℕ)
    → start ≡ cond ((nat_le b j && nat_lt j (b + 0)) && (nat_le a i && nat_lt i (a + 8))) v start
no_lines a b i j v start = lines_none b j (nat_le a i && nat_lt i (a + 8)) v start
