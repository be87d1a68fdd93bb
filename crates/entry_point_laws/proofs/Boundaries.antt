-- Emulation prevention behind a byte other than 00.
use Rattle.std.proofs.Common.{◌≡◌, ℕ, zero, suc, ◌+◌, ◌<◌, ◌≤◌, Bool, true, false, cond, List, [], ◌∷◌, ◌++◌, length}
use Rattle.std.proofs.Common.{refl, sym, ap, ◌∙◌, arith}
use Rattle.std.specs.Prelude.{◌==◌, ◌&&◌, nat_le, nat_lt, fold}
use Rattle.std.specs.List.{count_by}
use Rattle.std.proofs.lemmas.List.Sums.{fold-append, sum_by-append}
use Rattle.std.proofs.lemmas.Bool.Decides.{nat_tests}
use Rattle.std.proofs.lemmas.Bool.{lt-ltb, le-ltb, le-leb, lt-leb}
use Rattle.spec_nal_units.specs.Escaped.{escaped, added, needs_prevention}
use Rattle.spec_slice_headers.specs.Substreams.{payload_before, put_back, unit_place}

-- a last byte other than 00
not_zero : (z : ℕ) → 0 < z → (z == 0) ≡ false
not_zero zero h = absurd (omega arith)
not_zero (suc z) h = grind (arith, nat_tests)

and_false : (a : Bool) → (a && false) ≡ false
and_false true = refl
and_false false = refl

needs_none : (before z b : ℕ) → 0 < z → needs_prevention before z b ≡ false
needs_none before z b h =
    ap (λ t. (before == 0) && t && nat_le b 3) (not_zero z h)
    ∙ ap (λ t. t && nat_le b 3) (and_false (before == 0))

needs_after : (z l b : ℕ) → 0 < z → needs_prevention z l b ≡ false
needs_after z l b h = ap (λ t. t && (l == 0) && nat_le b 3) (not_zero z h)

-- what is written behind it depends on nothing before
escaped_second : (z l : ℕ) (bs : List ℕ) → 0 < z → escaped z l bs ≡ escaped 1 l bs
escaped_second z l [] h = refl
escaped_second z l (b ∷ bs) h = ap (λ t. cond t (3 ∷ b ∷ escaped 3 b bs) (b ∷ escaped l b bs)) (needs_after z l b h)

escaped_behind : (x z : ℕ) (bs : List ℕ) → 0 < z → escaped x z bs ≡ escaped 1 1 bs
escaped_behind x z [] h = ap (λ t. cond t (3 ∷ []) []) (not_zero z h)
escaped_behind x z (b ∷ bs) h =
    ap (λ t. cond t (3 ∷ b ∷ escaped 3 b bs) (b ∷ escaped z b bs)) (needs_none x z b h)
    ∙ ap (λ l. b ∷ l) (escaped_second z b bs h)

added_second : (place z l : ℕ) (bs : List ℕ) → 0 < z → added place z l bs ≡ added place 1 l bs
added_second place z l [] h = refl
added_second place z l (b ∷ bs) h =
    ap (λ t. cond t (place ∷ added (place + 2) 3 b bs) (added (place + 1) l b bs)) (needs_after z l b h)

added_behind : (place x z : ℕ) (bs : List ℕ) → 0 < z → added place x z bs ≡ added place 1 1 bs
added_behind place x z [] h = ap (λ t. cond t (place ∷ []) []) (not_zero z h)
added_behind place x z (b ∷ bs) h =
    ap (λ t. cond t (place ∷ added (place + 2) 3 b bs) (added (place + 1) z b bs)) (needs_none x z b h)
    ∙ added_second (place + 1) z b bs h

-- ---- what is written of bytes that are cut behind it

none_escaped : (x z : ℕ) → 0 < z → escaped x z [] ≡ []
none_escaped x z h = ap (λ t. cond t (3 ∷ []) []) (not_zero z h)

none_added : (place x z : ℕ) → 0 < z → added place x z [] ≡ []
none_added place x z h = ap (λ t. cond t (place ∷ []) []) (not_zero z h)

byte_step : (t : Bool) (b : ℕ) (x3 xl y3 yl r : List ℕ) → x3 ≡ y3 ++ r → xl ≡ yl ++ r
    → cond t (3 ∷ b ∷ x3) (b ∷ xl) ≡ cond t (3 ∷ b ∷ y3) (b ∷ yl) ++ r
byte_step true b x3 xl y3 yl r e3 el = ap (λ l. 3 ∷ b ∷ l) e3
byte_step false b x3 xl y3 yl r e3 el = ap (λ l. b ∷ l) el

last_byte : (x z : ℕ) (back : List ℕ) → 0 < z → escaped x z back ≡ escaped x z [] ++ escaped 1 1 back
last_byte x z back h = escaped_behind x z back h ∙ sym (ap (λ l. l ++ escaped 1 1 back) (none_escaped x z h))

pub bytes : (before last : ℕ) (front : List ℕ) (z : ℕ) (back : List ℕ) → 0 < z
    → escaped before last (front ++ z ∷ back) ≡ escaped before last (front ++ z ∷ []) ++ escaped 1 1 back
bytes before last [] z back h =
    byte_step (needs_prevention before last z) z (escaped 3 z back) (escaped last z back) (escaped 3 z [])
    (escaped last z []) (escaped 1 1 back) (last_byte 3 z back h) (last_byte last z back h)
bytes before last (b ∷ front) z back h =
    byte_step (needs_prevention before last b) b (escaped 3 b (front ++ z ∷ back)) (escaped last b (front ++ z ∷ back))
    (escaped 3 b (front ++ z ∷ [])) (escaped last b (front ++ z ∷ [])) (escaped 1 1 back) (bytes 3 b front z back h)
    (bytes last b front z back h)

-- where emulation prevention bytes are put
place_step : (t : Bool) (place b : ℕ) (x3 xl y3 yl u3 ul back : List ℕ)
    → x3 ≡ y3 ++ added (place + 2 + length u3) 1 1 back → xl ≡ yl ++ added (place + 1 + length ul) 1 1 back
    → cond t (place ∷ x3) xl
    ≡ cond t (place ∷ y3) yl ++ added (place + length (cond t (3 ∷ b ∷ u3) (b ∷ ul))) 1 1 back
place_step true place b x3 xl y3 yl u3 ul back e3 el =
    let k : place + 2 + length u3 ≡ place + suc (suc (length u3)) = omega arith in
    ap (λ l. place ∷ l) (e3 ∙ ap (λ n. y3 ++ added n 1 1 back) k)
place_step false place b x3 xl y3 yl u3 ul back e3 el =
    let k : place + 1 + length ul ≡ place + suc (length ul) = omega arith in
    el ∙ ap (λ n. yl ++ added n 1 1 back) k

last_place : (place x z : ℕ) (back : List ℕ) → 0 < z
    → added place x z back ≡ added place x z [] ++ added (place + length (escaped x z [])) 1 1 back
last_place place x z back h =
    let k : place ≡ place + 0 = omega arith in
    added_behind place x z back h ∙ ap (λ n. added n 1 1 back) k
    ∙ ap (λ l. added (place + length l) 1 1 back) (sym (none_escaped x z h))
    ∙ sym (ap (λ l. l ++ added (place + length (escaped x z [])) 1 1 back) (none_added place x z h))

places_split : (place before last : ℕ) (front : List ℕ) (z : ℕ) (back : List ℕ) → 0 < z
    → added place before last (front ++ z ∷ back)
    ≡ added place before last (front ++ z ∷ [])
    ++ added (place + length (escaped before last (front ++ z ∷ []))) 1 1 back
places_split place before last [] z back h =
    place_step (needs_prevention before last z) place z (added (place + 2) 3 z back) (added (place + 1) last z back)
    (added (place + 2) 3 z []) (added (place + 1) last z []) (escaped 3 z []) (escaped last z []) back
    (last_place (place + 2) 3 z back h) (last_place (place + 1) last z back h)
places_split place before last (b ∷ front) z back h =
    place_step (needs_prevention before last b) place b (added (place + 2) 3 b (front ++ z ∷ back))
    (added (place + 1) last b (front ++ z ∷ back)) (added (place + 2) 3 b (front ++ z ∷ []))
    (added (place + 1) last b (front ++ z ∷ [])) (escaped 3 b (front ++ z ∷ [])) (escaped last b (front ++ z ∷ [])) back
    (places_split (place + 2) 3 b front z back h) (places_split (place + 1) last b front z back h)

-- ---- how many there are, and where

length_step : (t : Bool) (place b n : ℕ) (x3 xl y3 yl : List ℕ) → length x3 ≡ n + length y3 → length xl ≡ n + length yl
    → length (cond t (3 ∷ b ∷ x3) (b ∷ xl)) ≡ suc n + length (cond t (place ∷ y3) yl)
length_step true place b n x3 xl y3 yl e3 el = omega (arith, e3)
length_step false place b n x3 xl y3 yl e3 el = omega (arith, el)

length_none : (t : Bool) (place : ℕ) → length {A = ℕ} (cond t (3 ∷ []) []) ≡ 0 + length {A = ℕ} (cond t (place ∷ []) [])
length_none true place = refl
length_none false place = refl

length_escaped : (place before last : ℕ) (xs : List ℕ)
    → length (escaped before last xs) ≡ length xs + length (added place before last xs)
length_escaped place before last [] = length_none (last == 0) place
length_escaped place before last (b ∷ xs) =
    length_step (needs_prevention before last b) place b (length xs) (escaped 3 b xs) (escaped last b xs)
    (added (place + 2) 3 b xs) (added (place + 1) last b xs) (length_escaped (place + 2) 3 b xs)
    (length_escaped (place + 1) last b xs)

-- places from one on, and before another
abbrev AreFrom : ℕ → List ℕ → Type 0
AreFrom least [] = Unit {0}
AreFrom least (r ∷ rs) = (least ≤ r) × AreFrom least rs

abbrev AreBelow : ℕ → List ℕ → Type 0
AreBelow end [] = Unit {0}
AreBelow end (r ∷ rs) = (r < end) × AreBelow end rs

from_less : (a b : ℕ) (rs : List ℕ) → b ≤ a → AreFrom a rs → AreFrom b rs
from_less a b [] h f = tt
from_less a b (r ∷ rs) h f = (omega (arith, f.0), from_less a b rs h f.1)

below_more : (a b : ℕ) (rs : List ℕ) → a ≤ b → AreBelow a rs → AreBelow b rs
below_more a b [] h f = tt
below_more a b (r ∷ rs) h f = (omega (arith, f.0), below_more a b rs h f.1)

from_step : (t : Bool) (place : ℕ) (y3 yl : List ℕ) → AreFrom (place + 2) y3 → AreFrom (place + 1) yl
    → AreFrom place (cond t (place ∷ y3) yl)
from_step true place y3 yl f3 fl = (omega arith, from_less (place + 2) place y3 (omega arith) f3)
from_step false place y3 yl f3 fl = from_less (place + 1) place yl (omega arith) fl

from_none : (t : Bool) (place : ℕ) → AreFrom place (cond t (place ∷ []) [])
from_none true place = (omega arith, tt)
from_none false place = tt

are_from : (place before last : ℕ) (xs : List ℕ) → AreFrom place (added place before last xs)
are_from place before last [] = from_none (last == 0) place
are_from place before last (b ∷ xs) =
    from_step (needs_prevention before last b) place (added (place + 2) 3 b xs) (added (place + 1) last b xs)
    (are_from (place + 2) 3 b xs) (are_from (place + 1) last b xs)

below_step : (t : Bool) (place b : ℕ) (x3 xl y3 yl : List ℕ) → AreBelow (place + 2 + length x3) y3
    → AreBelow (place + 1 + length xl) yl
    → AreBelow (place + length (cond t (3 ∷ b ∷ x3) (b ∷ xl))) (cond t (place ∷ y3) yl)
below_step true place b x3 xl y3 yl f3 fl =
    (omega arith, below_more (place + 2 + length x3) (place + suc (suc (length x3))) y3 (omega arith) f3)
below_step false place b x3 xl y3 yl f3 fl =
    below_more (place + 1 + length xl) (place + suc (length xl)) yl (omega arith) fl

below_none : (t : Bool) (place : ℕ) → AreBelow (place + length {A = ℕ} (cond t (3 ∷ []) [])) (cond t (place ∷ []) [])
below_none true place = (omega arith, tt)
below_none false place = tt

are_below : (place before last : ℕ) (xs : List ℕ)
    → AreBelow (place + length (escaped before last xs)) (added place before last xs)
are_below place before last [] = below_none (last == 0) place
are_below place before last (b ∷ xs) =
    below_step (needs_prevention before last b) place b (escaped 3 b xs) (escaped last b xs)
    (added (place + 2) 3 b xs) (added (place + 1) last b xs) (are_below (place + 2) 3 b xs)
    (are_below (place + 1) last b xs)

-- behind a byte other than 00 the first byte needs none
are_behind : (place : ℕ) (back : List ℕ) → AreFrom (place + 1) (added place 1 1 back)
are_behind place [] = tt
are_behind place (b ∷ back) = are_from (place + 1) 1 b back

count_from : (end : ℕ) (rs : List ℕ) → AreFrom end rs → count_by (λ r. nat_lt r end) rs ≡ 0
count_from end [] f = refl
count_from end (r ∷ rs) f = rw (le-ltb r end f.0) (count_from end rs f.1)

count_below : (end : ℕ) (rs : List ℕ) → AreBelow end rs → count_by (λ r. nat_lt r end) rs ≡ length rs
count_below end [] f = refl
count_below end (r ∷ rs) f =
    sum_by-append (λ k. cond (nat_lt k end) 1 0) (r ∷ []) rs
    ∙ ap (λ t. 0 + cond t 1 0 + count_by (λ k. nat_lt k end) rs) (lt-ltb r end f.0)
    ∙ (let e : 0 + 1 + count_by (λ k. nat_lt k end) rs ≡ suc (length rs) = omega (arith, count_below end rs f.1) in e)

count_both : (end : ℕ) (rs later : List ℕ) → AreBelow end rs → AreFrom end later
    → count_by (λ r. nat_lt r end) (rs ++ later) ≡ length rs
count_both end rs later f g =
    sum_by-append (λ r. cond (nat_lt r end) 1 0) rs later
    ∙ (let e : count_by (λ r. nat_lt r end) rs + count_by (λ r. nat_lt r end) later ≡ length rs =
    omega (arith, count_below end rs f, count_from end later g) in e)

pub payload_found : (before last : ℕ) (front : List ℕ) (z : ℕ) (back : List ℕ) → 0 < z
    → payload_before (added 2 before last (front ++ z ∷ back)) (2 + length (escaped before last (front ++ z ∷ [])))
    ≡ length (front ++ z ∷ [])
payload_found before last front z back h =
    let end : ℕ = 2 + length (escaped before last (front ++ z ∷ [])) in
    let count : count_by (λ r. nat_lt r end) (added 2 before last (front ++ z ∷ back))
    ≡ length (added 2 before last (front ++ z ∷ [])) =
    ap (count_by (λ r. nat_lt r end)) (places_split 2 before last front z back h)
    ∙ count_both end (added 2 before last (front ++ z ∷ [])) (added end 1 1 back)
    (are_below 2 before last (front ++ z ∷ [])) (are_from end 1 1 back) in
    let long = length_escaped 2 before last (front ++ z ∷ []) in
    omega (arith, count, long)

back_step : (t : Bool) (place n : ℕ) (y3 yl : List ℕ) → fold put_back (place + 2 + n) y3 ≡ place + 2 + n + length y3
    → fold put_back (place + 1 + n) yl ≡ place + 1 + n + length yl
    → fold put_back (place + suc n) (cond t (place ∷ y3) yl) ≡ place + suc n + length (cond t (place ∷ y3) yl)
back_step true place n y3 yl e3 el =
    let at : nat_le place (place + suc n) ≡ true = le-leb _ _ (omega arith) in
    let k : place + suc n + 1 ≡ place + 2 + n = omega arith in
    ap (λ t. fold put_back (cond t (place + suc n + 1) (place + suc n)) y3) at
    ∙ ap (λ m. fold put_back m y3) k ∙ e3
    ∙ (let e : place + 2 + n + length y3 ≡ place + suc n + suc (length y3) = omega arith in e)
back_step false place n y3 yl e3 el =
    let k : place + suc n ≡ place + 1 + n = omega arith in
    ap (λ m. fold put_back m yl) k ∙ el ∙ ap (λ m. m + length yl) (sym k)

back_none : (t : Bool) (place : ℕ) → fold put_back (place + 0) (cond t (place ∷ []) [])
    ≡ place + 0 + length (cond t (place ∷ []) [])
back_none true place =
    let at : nat_le place (place + 0) ≡ true = le-leb _ _ (omega arith) in rw at refl
back_none false place = let e : place + 0 ≡ place + 0 + 0 = omega arith in e

put_back_all : (place before last : ℕ) (xs : List ℕ)
    → fold put_back (place + length xs) (added place before last xs)
    ≡ place + length xs + length (added place before last xs)
put_back_all place before last [] = back_none (last == 0) place
put_back_all place before last (b ∷ xs) =
    back_step (needs_prevention before last b) place (length xs) (added (place + 2) 3 b xs)
    (added (place + 1) last b xs) (put_back_all (place + 2) 3 b xs) (put_back_all (place + 1) last b xs)

put_back_none : (place : ℕ) (rs : List ℕ) → AreFrom (place + 1) rs → fold put_back place rs ≡ place
put_back_none place [] f = refl
put_back_none place (r ∷ rs) f =
    let at : nat_le r place ≡ false = lt-leb _ _ (omega (arith, f.0)) in rw at (put_back_none place rs f.1)

pub place : (before last : ℕ) (front : List ℕ) (z : ℕ) (back : List ℕ) → 0 < z
    → unit_place (added 2 before last (front ++ z ∷ back)) (length (front ++ z ∷ []))
    ≡ 2 + length (escaped before last (front ++ z ∷ []))
place before last front z back h =
    let xs : List ℕ = front ++ z ∷ [] in
    let end : ℕ = 2 + length (escaped before last xs) in
    let k : length xs + 2 ≡ 2 + length xs = omega arith in
    let long = length_escaped 2 before last xs in
    let e : 2 + length xs + length (added 2 before last xs) ≡ end = omega (arith, long) in
    ap (fold put_back (length xs + 2)) (places_split 2 before last front z back h)
    ∙ fold-append put_back (length xs + 2) (added 2 before last xs) (added end 1 1 back)
    ∙ ap (λ n. fold put_back (fold put_back n (added 2 before last xs)) (added end 1 1 back)) k
    ∙ ap (λ n. fold put_back n (added end 1 1 back)) (put_back_all 2 before last xs ∙ e)
    ∙ put_back_none end (added end 1 1 back) (are_behind end back)
