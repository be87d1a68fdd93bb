-- Places of samples in memory.
use Rattle.std.proofs.Common.{◌≡◌, ℕ, ◌+◌, ◌-◌, ◌*◌, ◌<◌, ◌≤◌, Bool, true, false, ◌&&◌, cond, if◌then◌else◌}
use Rattle.std.proofs.Common.{List, length, slice_index_or, slice_set, refl, ap, sym, ◌∙◌, arith}
use Rattle.std.proofs.Math.Nat.{mul-le-mul_left}
use Rattle.std.proofs.lemmas.Grind.{common_steps}
use Rattle.std.proofs.lemmas.Bool.Decides.{nat_tests}
use Rattle.std.specs.Prelude.{◌==◌}
use Rattle.deblock.specs.declared.window.Window.{Window}
use Rattle.deblock.specs.Windows.{index, size, seen, holds}

pub below : (width a b : ℕ) → a < b → width * (a + 1) ≤ width * b
below width a b lt = mul-le-mul_left width (omega arith)

pub flat_inside : (width n d a : ℕ) → a < width → d < n → width * d + a < width * n
flat_inside width n d a h l = let m = below width d n l in omega (arith, m)

flat_same : (width d a e b : ℕ) → a < width → b < width → (width * e + b == width * d + a) ≡ (b == a && e == d)
flat_same width d a e b h l =
    let lower = below width d e in
    let upper = below width e d in
    grind (arith, nat_tests)

-- what `holds` says
pub record IsInside (w : Window) (a b : ℕ) : Type 0 where
  pub across_first : w.across_first ≤ a
  pub across_end : a < w.across_end
  pub along_first : w.along_first ≤ b
  pub along_end : b < w.along_end

pub inside_of : (w : Window) (a b : ℕ) → holds w a b ≡ true → IsInside w a b
inside_of w a b h = record {
  across_first = grind (arith, nat_tests);
  across_end = grind (arith, nat_tests);
  along_first = grind (arith, nat_tests);
  along_end = grind (arith, nat_tests);
}

pub inside_holds : (w : Window) (a b : ℕ) → w.across_first ≤ a → a < w.across_end → w.along_first ≤ b → b < w.along_end
    → holds w a b ≡ true
inside_holds w a b p q r s = grind (arith, nat_tests)

pub turned_inside : (w : Window) (a b : ℕ) → w.turned ≡ true → IsInside w a b
    → w.along_end * (a - w.across_first) + b < size w
turned_inside w a b e i =
    rw e (flat_inside w.along_end (w.across_end - w.across_first) (a - w.across_first) b i.along_end
    (omega (arith, i.across_first, i.across_end)))

pub level_inside : (w : Window) (a b : ℕ) → w.turned ≡ false → IsInside w a b
    → w.across_end * (b - w.along_first) + a < size w
level_inside w a b e i =
    rw e (flat_inside w.across_end (w.along_end - w.along_first) (b - w.along_first) a i.across_end
    (omega (arith, i.along_first, i.along_end)))

turned_and : (p q r : Bool) → r ≡ q → (p && q) ≡ (r && p)
turned_and true true r e = rw e refl
turned_and true false r e = rw e refl
turned_and false true r e = rw e refl
turned_and false false r e = rw e refl

and_swapped : (p q r : Bool) → q ≡ r → (p && q) ≡ (p && r)
and_swapped p q r e = rw e refl

from_first : (a b c : ℕ) → c ≤ a → c ≤ b → (a - c == b - c) ≡ (a == b)
from_first a b c h l = grind (arith, nat_tests)

pub index_same : (w : Window) (t : Bool) (a b i j : ℕ) → w.turned ≡ t → IsInside w a b → IsInside w i j
    → (index w i j == index w a b) ≡ (i == a && j == b)
index_same w true a b i j e h l =
    rw e (flat_same w.along_end (a - w.across_first) b (i - w.across_first) j h.along_end l.along_end
    ∙ turned_and (j == b) (i - w.across_first == a - w.across_first) (i == a)
    (sym (from_first i a w.across_first l.across_first h.across_first)))
index_same w false a b i j e h l =
    rw e (flat_same w.across_end (b - w.along_first) a (j - w.along_first) i h.across_end l.across_end
    ∙ and_swapped (i == a) (j - w.along_first == b - w.along_first) (j == b)
    (from_first j b w.along_first l.along_first h.along_first))

pub set_seen : (xs : List ℕ) (p q v : ℕ) → p < length xs
    → slice_index_or (slice_set xs p v) q 0 ≡ cond (q == p) v (slice_index_or xs q 0)
set_seen xs p q v h = grind (arith, common_steps, nat_tests)

pub put_seen : (w : Window) (xs : List ℕ) (a b v p : ℕ) → p ≡ index w a b → p < length xs → holds w a b ≡ true →
    (i j : ℕ) → holds w i j ≡ true →
    seen w (slice_set xs p v) i j ≡ cond (i == a && j == b) v (seen w xs i j)
put_seen w xs a b v p e h inside i j held =
    set_seen xs p (index w i j) v h
    ∙ ap (λ (q : ℕ). cond (index w i j == q) v (seen w xs i j)) e
    ∙ ap (λ (t : Bool). cond t v (seen w xs i j))
    (index_same w w.turned a b i j refl (inside_of w a b inside) (inside_of w i j held))

cond_few : (b : Bool) (u v greatest : ℕ) → u ≤ greatest → v ≤ greatest → cond b u v ≤ greatest
cond_few true u v greatest p q = p
cond_few false u v greatest p q = q

pub put_bounded : (greatest v p : ℕ) (xs : List ℕ) → p < length xs → v ≤ greatest
    → ((k : ℕ) → slice_index_or xs k 0 ≤ greatest) → (k : ℕ) → slice_index_or (slice_set xs p v) k 0 ≤ greatest
put_bounded greatest v p xs h few all k =
    let e = set_seen xs p k v h in
    let old = all k in
    rw e (cond_few (k == p) v _ greatest few old)

-- a sample of a line, so many steps from its first
pub turned_way : (w : Window) (a b k : ℕ) → w.turned ≡ true → holds w (a + 0) b ≡ true
    → index w a b + k * w.along_end ≡ index w (a + k) b
turned_way w a b k e h =
    let i = inside_of w (a + 0) b h in
    let m : a + k - w.across_first ≡ a - w.across_first + k = omega (arith, i.across_first) in
    rw (e, m) (omega arith)

pub level_way : (w : Window) (a b k : ℕ) → w.turned ≡ false → index w a b + k * 1 ≡ index w (a + k) b
level_way w a b k e = rw e (omega arith)

turned_or_not : (w : Window) (t : Bool) (a b : ℕ) → w.turned ≡ t → holds w a b ≡ true → index w a b < size w
turned_or_not w true a b e h =
    let i = inside_of w a b h in
    rw e (flat_inside w.along_end (w.across_end - w.across_first) (a - w.across_first) b i.along_end
    (omega (arith, i.across_first, i.across_end)))
turned_or_not w false a b e h =
    let i = inside_of w a b h in
    rw e (flat_inside w.across_end (w.along_end - w.along_first) (b - w.along_first) a i.across_end
    (omega (arith, i.along_first, i.along_end)))

pub index_inside : (w : Window) (a b : ℕ) → holds w a b ≡ true → index w a b < size w
index_inside w a b h = turned_or_not w w.turned a b refl h

-- a sample so many lines behind another
pub later_index : (w : Window) (t : Bool) (a b n along first : ℕ) → w.turned ≡ t → w.along_first ≤ b →
    along ≡ (if t then 1 else w.across_end) → first ≡ index w a b → first + n * along ≡ index w a (b + n)
later_index w true a b n along first e low al f = rw (f, al, e) (omega arith)
later_index w false a b n along first e low al f =
    let m : b + n - w.along_first ≡ b - w.along_first + n = omega (arith, low) in
    rw (f, al, e, m) (omega arith)

pub later_way : (w : Window) (a b k n along first step : ℕ) → w.along_first ≤ b →
    along ≡ (if w.turned then 1 else w.across_end) → first + k * step ≡ index w (a + k) b
    → first + n * along + k * step ≡ index w (a + k) (b + n)
later_way w a b k n along first step low al f =
    let next = later_index w w.turned (a + k) b n along (first + k * step) refl low al f in
    omega (arith, next)
