-- What a sample depends on.
use Rattle.std.proofs.Common.{◌≡◌, ℕ, Bool, true, false, ◌&&◌, ◌+◌, ◌-◌, ◌/◌, ◌^◌, ◌<◌, ◌≤◌, pos, negsuc, ◌≤ℤ◌, ◌<ℤ◌}
use Rattle.std.proofs.Common.{ℤ}
use Rattle.std.proofs.Common.{List, cond, nat_lt, nat_le, refl, ap, sym, ◌∙◌, arith, rules}
use Rattle.std.proofs.lemmas.Bool.Decides.{nat_tests}
use Rattle.std.proofs.lemmas.Int.{ints, int_max_is, int_min_is}
use Rattle.std.specs.Int.{int_max, int_min}
use Rattle.std.specs.Int.RustNames.{unsigned_abs}
use Rattle.std.specs.Prelude.{◌+ℤ◌}
use Rattle.ctu_records.specs.declared.offset.ComponentOffset.{ComponentOffset}
use Rattle.ctu_records.specs.declared.offset.ComponentOffset.TheVariants.{Off, Band, Edge}
use Rattle.spec_sample_adaptive_offset.specs.Offsets.{moved, edge_moved, band_moved}
use Rattle.spec_sample_adaptive_offset.specs.Plane.{AgreeBeside, OffsetPlane, edge_sample, first_column, first_line}
use Rattle.spec_sample_adaptive_offset.specs.Plane.{may_read, meets, offset_sample, sample_by, unit_at}

both : (b : Bool) (v : ℕ) → cond b v v ≡ v
both true v = refl
both false v = refl

pub unchanged : (plane : OffsetPlane) (f : ℕ → ℕ → ℕ) (x y : ℕ) → ((u v : ℕ) → (plane.unit u v).offset ≡ Off)
    → offset_sample plane f x y ≡ f x y
unfolding offset_sample sample_by
unchanged plane f x y none = rw (none (x / plane.ctb_size) (y / plane.ctb_size)) (both (plane.kept x y) (f x y))

pub zero_stays : (depth s : ℕ) → s < 2 ^ depth → moved depth s (pos 0) ≡ s
unfolding moved
zero_stays depth s small =
    let sum : pos s +ℤ pos 0 ≡ pos s = omega (arith, ints) in
    let low : int_min (pos s) (pos (2 ^ depth - 1)) ≡ pos s =
    omega (arith, ints, int_min_is (pos s) (pos (2 ^ depth - 1))) in
    let high : int_max (pos 0) (pos s) ≡ pos s = omega (arith, ints, int_max_is (pos 0) (pos s)) in
    ap (λ (z : ℤ). unsigned_abs (int_max (pos 0) (int_min z (pos (2 ^ depth - 1))))) sum
    ∙ ap (λ (z : ℤ). unsigned_abs (int_max (pos 0) z)) low
    ∙ ap (λ (z : ℤ). unsigned_abs z) high

size_below : (m : ℕ) (z : ℤ) → pos 0 ≤ℤ z → z <ℤ pos m → unsigned_abs z < m
size_below m (pos n) low high = omega (arith, ints)
size_below m (negsuc n) low high = absurd (omega (arith, ints))

moved_small : (depth s : ℕ) (z : ℤ) → moved depth s z < 2 ^ depth
unfolding moved
moved_small depth s z =
    let some : 0 < 2 ^ depth = search rules in
    let v : ℤ = int_min (pos s +ℤ z) (pos (2 ^ depth - 1)) in
    let most : v ≤ℤ pos (2 ^ depth - 1) = omega (arith, ints, int_min_is (pos s +ℤ z) (pos (2 ^ depth - 1))) in
    let least : pos 0 ≤ℤ int_max (pos 0) v = omega (arith, ints, int_max_is (pos 0) v) in
    let below : int_max (pos 0) v <ℤ pos (2 ^ depth) = omega (arith, ints, int_max_is (pos 0) v) in
    size_below (2 ^ depth) (int_max (pos 0) v) least below

chosen_small : (b : Bool) (m v w : ℕ) → v < m → w < m → cond b v w < m
chosen_small true m v w h k = h
chosen_small false m v w h k = k

by_small : (plane : OffsetPlane) (f : ℕ → ℕ → ℕ) (o : ComponentOffset) (x y : ℕ) → f x y < 2 ^ plane.depth
    → sample_by plane f o x y < 2 ^ plane.depth
unfolding sample_by edge_sample
by_small plane f Off x y h = h
by_small plane f (Band position offsets) x y h = moved_small plane.depth _ _
by_small plane f (Edge class offsets) x y h = chosen_small _ _ _ _ (moved_small plane.depth _ _) h

pub in_range : (plane : OffsetPlane) (f : ℕ → ℕ → ℕ) (x y : ℕ) → f x y < 2 ^ plane.depth
    → offset_sample plane f x y < 2 ^ plane.depth
unfolding offset_sample
in_range plane f x y h = chosen_small (plane.kept x y) _ _ _ h (by_small plane f (unit_at plane x y).offset x y h)

and_same : (b c d : Bool) → (b ≡ true → c ≡ d) → (b && c) ≡ (b && d)
and_same true c d h = h refl
and_same false c d h = refl

pub cond_same : (b : Bool) (v v' w w' : ℕ) → (b ≡ true → v ≡ v') → w ≡ w' → cond b v w ≡ cond b v' w'
cond_same true v v' w w' h k = h refl
cond_same false v v' w w' h k = k

abbrev inside : OffsetPlane → ℕ → ℕ → ℕ → ℕ → Bool
inside p x y c l = (nat_lt 0 (x + c) && nat_le (x + c) p.width) && (nat_lt 0 (y + l) && nat_le (y + l) p.height)

is_inside : (x c w : ℕ) (b : Bool) → ((nat_lt 0 (x + c) && nat_le (x + c) w) && b) ≡ true → x + c - 1 < w
is_inside x c w b t = grind (arith, nat_tests)

is_inside_too : (y l h : ℕ) (b : Bool) → (b && (nat_lt 0 (y + l) && nat_le (y + l) h)) ≡ true → y + l - 1 < h
is_inside_too y l h b t = grind (arith, nat_tests)

same_inside : (p q : OffsetPlane) (f g : ℕ → ℕ → ℕ) (x y c l : ℕ) → AgreeBeside p q f g x y
    → inside p x y c l ≡ inside q x y c l
same_inside p q f g x y c l a = rw (a.width, a.height) refl

same_unit : (p q : OffsetPlane) (f g : ℕ → ℕ → ℕ) (x y c l : ℕ) → AgreeBeside p q f g x y → c ≤ 2 → l ≤ 2
    → inside p x y c l ≡ true → unit_at p (x + c - 1) (y + l - 1) ≡ unit_at q (x + c - 1) (y + l - 1)
same_unit p q f g x y c l a few low t =
    let i = is_inside x c p.width _ t in
    let j = is_inside_too y l p.height _ t in
    a.units (x + c - 1) (y + l - 1) i j (omega arith) (omega arith) (omega arith) (omega arith)

same_sample : (p q : OffsetPlane) (f g : ℕ → ℕ → ℕ) (x y c l : ℕ) → AgreeBeside p q f g x y → c ≤ 2 → l ≤ 2
    → inside p x y c l ≡ true → f (x + c - 1) (y + l - 1) ≡ g (x + c - 1) (y + l - 1)
same_sample p q f g x y c l a few low t =
    let i = is_inside x c p.width _ t in
    let j = is_inside_too y l p.height _ t in
    a.samples (x + c - 1) (y + l - 1) i j (omega arith) (omega arith) (omega arith) (omega arith)

here_unit : (p q : OffsetPlane) (f g : ℕ → ℕ → ℕ) (x y : ℕ) → AgreeBeside p q f g x y → unit_at p x y ≡ unit_at q x y
here_unit p q f g x y a = a.units x y a.inside.0 a.inside.1 (omega arith) (omega arith) (omega arith) (omega arith)

here_sample : (p q : OffsetPlane) (f g : ℕ → ℕ → ℕ) (x y : ℕ) → AgreeBeside p q f g x y → f x y ≡ g x y
here_sample p q f g x y a = a.samples x y a.inside.0 a.inside.1 (omega arith) (omega arith) (omega arith) (omega arith)

may_same : (p q : OffsetPlane) (f g : ℕ → ℕ → ℕ) (x y c l : ℕ) → AgreeBeside p q f g x y → c ≤ 2 → l ≤ 2
    → may_read p x y c l ≡ may_read q x y c l
may_same p q f g x y c l a few low =
    let h = here_unit p q f g x y a in
    and_same (inside p x y c l) _ _ (λ t. ap (λ u. meets u (unit_at p (x + c - 1) (y + l - 1))) h
    ∙ ap (λ u. meets (unit_at q x y) u) (same_unit p q f g x y c l a few low t))
    ∙ ap (λ b. b && meets (unit_at q x y) (unit_at q (x + c - 1) (y + l - 1))) (same_inside p q f g x y c l a)

first_of : (b c d : Bool) → ((b && c) && d) ≡ true → b ≡ true
first_of true c d t = refl
first_of false c d t = t

second_of : (b c d : Bool) → (b && (c && d)) ≡ true → c ≡ true
second_of true true d t = refl
second_of true false d t = t
second_of false c d t = cc

edge_same : (p q : OffsetPlane) (f g : ℕ → ℕ → ℕ) (x y c l : ℕ) (offsets : List ℤ) → AgreeBeside p q f g x y → c ≤ 2
    → l ≤ 2 → edge_sample p f offsets c l x y ≡ edge_sample q g offsets c l x y
unfolding edge_sample
edge_same p q f g x y c l offsets a few low =
    let s = here_sample p q f g x y a in
    let m = may_same p q f g x y c l a few low in
    let n = may_same p q f g x y (2 - c) (2 - l) a (omega arith) (omega arith) in
    cond_same (may_read p x y c l && may_read p x y (2 - c) (2 - l))
    (edge_moved p.depth offsets (f x y) (f (x + c - 1) (y + l - 1)) (f (x + (2 - c) - 1) (y + (2 - l) - 1)))
    (edge_moved q.depth offsets (g x y) (g (x + c - 1) (y + l - 1)) (g (x + (2 - c) - 1) (y + (2 - l) - 1))) (f x y)
    (g x y)
    (λ t.
    let v = same_sample p q f g x y c l a few low (first_of _ _ _ t) in
    let w =
    same_sample p q f g x y (2 - c) (2 - l) a (omega arith) (omega arith) (second_of (may_read p x y c l) _ _ t) in
    rw (a.depth, s, v, w) refl) s
    ∙ rw (m, n) refl

column_few : (class : ℕ) → first_column class ≤ 2
column_few class = grind (arith, nat_tests)

line_few : (class : ℕ) → first_line class ≤ 2
line_few class = grind (arith, nat_tests)

by_same : (p q : OffsetPlane) (f g : ℕ → ℕ → ℕ) (o : ComponentOffset) (x y : ℕ) → AgreeBeside p q f g x y
    → sample_by p f o x y ≡ sample_by q g o x y
unfolding sample_by
by_same p q f g Off x y a = here_sample p q f g x y a
by_same p q f g (Band position offsets) x y a = rw (a.depth, here_sample p q f g x y a) refl
by_same p q f g (Edge class offsets) x y a =
    edge_same p q f g x y (first_column class) (first_line class) offsets a (column_few class) (line_few class)

pub beside_alone : (p q : OffsetPlane) (f g : ℕ → ℕ → ℕ) (x y : ℕ) → AgreeBeside p q f g x y
    → offset_sample p f x y ≡ offset_sample q g x y
unfolding offset_sample
beside_alone p q f g x y a =
    let o = ap (λ (u : _). u.offset) (here_unit p q f g x y a) in
    cond_same (p.kept x y) _ _ _ _ (λ t. here_sample p q f g x y a)
    (by_same p q f g (unit_at p x y).offset x y a ∙ ap (λ w. sample_by q g w x y) o)
    ∙ ap (λ b. cond b (g x y) (sample_by q g (unit_at q x y).offset x y)) a.kept
