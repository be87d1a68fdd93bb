-- What is known beside a part of a unit.
use Rattle.std.proofs.Common.{◌≡◌, ℕ, zero, suc, ◌+◌, ◌-◌, ◌*◌, ◌/◌, ◌%◌, ◌<◌, ◌≤◌, ◌==◌, ◌&&◌, ◌||◌, nat_le, nat_lt}
use Rattle.std.proofs.Common.{Bool, true, false, Option, Some, None, refl, sym, ap, subst, ◌∙◌, if◌then◌else◌, arith}
use Rattle.std.proofs.Math.Path.{fun_ext}
use Rattle.std.proofs.lemmas.Bool.Decides.{nat_tests}
use Rattle.spec_picture_build.specs.SpecSliceData.{PictureShape}
use Rattle.spec_picture_build.specs.SpecReconstruction.{Known}
use Rattle.spec_picture_build.specs.Border.{Samples, has_sample, height_of, is_available, known_beside, sample_beside}
use Rattle.spec_picture_build.specs.Border.{unit_side, width_of}
use Rattle.picture_filters.specs.SpecPictureTrees.{unit_at}
use Rattle.unit_build.specs.declared.part.Part.{Part}
use Rattle.unit_build.specs.Beside.{beside_part, first_above, has_left, is_above, is_left, sample_at}
use Rattle.unit_build.specs.Parts.{IsPart, IsRoom}
use Rattle.picture_motion.specs.PictureLayout.{IsShape}
use Rattle.unit_build.proofs.Covering.{covered, part_of, whole_part}
use Rattle.unit_build.proofs.Tests.{other}
use Rattle.unit_build.proofs.Units.{above, column_is_left, first_column, line_is, none_inside, seen, unit_beside}

-- tests one inside the other
nested : {A : Type 0} (p q r s t : Bool) (v : A) → r ≡ true
    → (if p then (if q && ((r && s) && t) then Some v else None) else None)
    ≡ (if p && (q && (s && t)) then Some v else None)
nested true true true s t v e = refl
nested true true false s t v e = absurd cc
nested true false r s t v e = refl
nested false q r s t v e = refl

first_line : (c n w W H a f j : ℕ) (left : Bool)
    → (is_above (part_of c n w W H a) f c j 0 || (left && is_left (part_of c n w W H a) c j 0))
    ≡ above n W H (n * (a % w)) (n * (a / w)) f j
first_line c n w W H a f j true = grind (arith, nat_tests)
first_line c n w W H a f j false = grind (arith, nat_tests)

first_row : (c n w W H a f k : ℕ) (left : Bool)
    → (is_above (part_of c n w W H a) f c 0 (suc k) || (left && is_left (part_of c n w W H a) c 0 (suc k)))
    ≡ (left && (nat_le (suc k) n && nat_le (suc k) (H - n * (a / w))))
first_row c n w W H a f k true = grind (arith, nat_tests)
first_row c n w W H a f k false = grind (arith, nat_tests)

no_row : (c n w W H a f j k : ℕ) (left : Bool)
    → (is_above (part_of c n w W H a) f c (suc j) (suc k) || (left && is_left (part_of c n w W H a) c (suc j) (suc k)))
    ≡ false
no_row c n w W H a f j k true = grind (arith, nat_tests)
no_row c n w W H a f j k false = grind (arith, nat_tests)

-- the tests of what is beside a unit
seen_beside : (c n w W H slice a : ℕ) → 1 ≤ n → 1 ≤ w → W ≤ n * w → n * (a % w) < W → (j k : ℕ)
    → seen n W H (n * (a % w)) (n * (a / w)) j k slice a (unit_beside n w a j k)
    ≡ (is_above (part_of c n w W H a) (first_column n w slice a (a % w)) c j k
    || ((nat_lt 0 (a % w) && nat_lt slice a) && is_left (part_of c n w W H a) c j k))
seen_beside c n w W H slice a some wide covered needed j zero =
    line_is n w W H slice a some wide covered needed j
    ∙ sym (first_line c n w W H a (first_column n w slice a (a % w)) j (nat_lt 0 (a % w) && nat_lt slice a))
seen_beside c n w W H slice a some wide covered needed zero (suc k) =
    column_is_left n w W H slice a some wide covered needed k
    ∙ sym (first_row c n w W H a (first_column n w slice a (a % w)) k (nat_lt 0 (a % w) && nat_lt slice a))
seen_beside c n w W H slice a some wide covered needed (suc j) (suc k) =
    none_inside n w W H slice a some wide covered needed j k
    ∙ sym (no_row c n w W H a (first_column n w slice a (a % w)) j k (nat_lt 0 (a % w) && nat_lt slice a))

known_by : (picture : PictureShape) (slice a c : ℕ) (samples : Samples) → c < 3 → 1 ≤ unit_side picture c
    → 1 ≤ picture.width → width_of picture c ≤ unit_side picture c * picture.width
    → unit_side picture c * (a % picture.width) < width_of picture c → (j k : ℕ)
    → known_beside picture slice a samples c j k
    ≡ beside_part (part_of c (unit_side picture c) picture.width (width_of picture c) (height_of picture c) a)
    (first_above picture slice a (unit_side picture c)) (has_left picture slice a) samples c j k
unfolding known_beside sample_beside is_available has_sample unit_at beside_part first_above
known_by picture slice a c samples lt some wide covered needed j k =
    let n : ℕ = unit_side picture c in
    let w : ℕ = picture.width in
    let X : ℕ = unit_side picture c * (a % picture.width) in
    let Y : ℕ = unit_side picture c * (a / picture.width) in
    let v : ℕ = samples c (X + j - 1) (Y + k - 1) in
    let value : Bool → Option ℕ = λ t. if t then Some v else None in
    nested (nat_le j (2 * n)) (nat_le 1 (X + j) && nat_le 1 (Y + k)) (nat_lt c 3)
    (nat_lt (X + j - 1) (width_of picture c) && nat_lt (Y + k - 1) (height_of picture c))
    (nat_le slice (unit_beside n w a j k) && nat_lt (unit_beside n w a j k) a) v (grind (arith, nat_tests))
    ∙ ap value (seen_beside c n w (width_of picture c) (height_of picture c) slice a some wide covered needed j k)

-- what is known beside a unit stands beside its parts
pub known_part : (picture : PictureShape) (slice a : ℕ) (part : Part) (samples : Samples) → IsPart picture a part
    → IsRoom part → 1 ≤ picture.width → width_of picture part.c ≤ unit_side picture part.c * picture.width → (j k : ℕ)
    → known_beside picture slice a samples part.c j k
    ≡ beside_part part (first_above picture slice a part.side) (has_left picture slice a) samples part.c j k
known_part picture slice a part samples e room wide covered j k =
    let some : 1 ≤ unit_side picture part.c = subst (λ n. 1 ≤ n) e.side room.some in
    let needed : unit_side picture part.c * (a % picture.width) < width_of picture part.c =
    subst (λ n. unit_side picture part.c * (a % picture.width) < n) e.width
    (subst (λ n. n < part.width) e.x room.inside) in
    let value : Part → ℕ → Option ℕ = λ p f. beside_part p f (has_left picture slice a) samples part.c j k in
    known_by picture slice a part.c samples room.component some wide covered needed j k
    ∙ ap (λ (p : Part). value p (first_above picture slice a (unit_side picture part.c)))
    (sym (whole_part picture a part e))
    ∙ ap (λ n. value part (first_above picture slice a n)) (sym e.side)

-- nothing is known of what is no component
pub known_none : (picture : PictureShape) (slice a c : ℕ) (samples : Samples) → 3 ≤ c
    → (j k : ℕ) → known_beside picture slice a samples c j k ≡ None
unfolding known_beside sample_beside is_available has_sample
known_none picture slice a c samples le j k = grind (arith, nat_tests)

-- the components one after the other
pub known_all : (picture : PictureShape) (slice a : ℕ) (samples : Samples) (k0 k1 k2 k3 : Known)
    → ((i j k : ℕ) → k0 i j k ≡ None)
    → ((i j k : ℕ) → k1 i j k ≡ (if i == 0 then known_beside picture slice a samples i j k else k0 i j k))
    → ((i j k : ℕ) → k2 i j k ≡ (if i == 1 then known_beside picture slice a samples i j k else k1 i j k))
    → ((i j k : ℕ) → k3 i j k ≡ (if i == 2 then known_beside picture slice a samples i j k else k2 i j k))
    → k3 ≡ known_beside picture slice a samples
known_all picture slice a samples k0 k1 k2 k3 e0 e1 e2 e3 = fun_ext (λ i. fun_ext (λ j. fun_ext (λ k. at i j k)))
  where
    at : (i j k : ℕ) → k3 i j k ≡ known_beside picture slice a samples i j k
    at zero j k = e3 0 j k ∙ e2 0 j k ∙ e1 0 j k
    at (suc zero) j k = e3 1 j k ∙ e2 1 j k
    at (suc (suc zero)) j k = e3 2 j k
    at (suc (suc (suc i))) j k =
        let c : ℕ = suc (suc (suc i)) in
        other c 2 _ _ _ (omega arith) (e3 c j k) ∙ other c 1 _ _ _ (omega arith) (e2 c j k)
        ∙ other c 0 _ _ _ (omega arith) (e1 c j k) ∙ e0 c j k
        ∙ sym (known_none picture slice a c samples (omega arith) j k)

either : (t l : Bool) (v : ℕ) (old mid new : Option ℕ) → old ≡ None → mid ≡ (if t then Some v else old)
    → new ≡ (if l then Some v else mid) → new ≡ (if t || l then Some v else None)
either true true v old mid new none m n = n
either false true v old mid new none m n = n
either true false v old mid new none m n = n ∙ m
either false false v old mid new none m n = n ∙ m ∙ none

neither : (same t l left : Bool) (v : ℕ) (old mid new : Option ℕ) → same ≡ false
    → mid ≡ (if same && t then Some v else old) → new ≡ (if left && (same && l) then Some v else mid) → new ≡ old
neither false t l true v old mid new apart m n = n ∙ m
neither false t l false v old mid new apart m n = n ∙ m
neither true t l left v old mid new apart m n = absurd cc

-- the line above and the column on the left of a component are gathered
gathered_by : (picture : PictureShape) (slice a : ℕ) (part : Part) (samples : Samples) (first : ℕ) (left : Bool)
    (old mid new : Known)
    → IsPart picture a part → IsRoom part → IsShape picture → first ≡ first_above picture slice a part.side
    → left ≡ has_left picture slice a
    → ((i j k : ℕ) → mid i j k ≡ (if is_above part first i j k then Some (sample_at part samples i j k) else old i j k))
    → ((i j k : ℕ)
    → new i j k ≡ (if left && is_left part i j k then Some (sample_at part samples i j k) else mid i j k))
    → (c : ℕ) → part.c ≡ c → ((j k : ℕ) → old c j k ≡ None)
    → (i j k : ℕ) → new i j k ≡ (if i == c then known_beside picture slice a samples i j k else old i j k)
unfolding beside_part
gathered_by picture slice a part samples first left old mid new e room shape is_first is_left_one m n c is none i j k =
    by (i == c) refl
  where
    at : new part.c j k ≡ known_beside picture slice a samples part.c j k
    at =
        either (is_above part first part.c j k) (left && is_left part part.c j k) (sample_at part samples part.c j k)
        (old part.c j k) (mid part.c j k) (new part.c j k)
        (subst (λ d. old d j k ≡ None) (sym is) (none j k)) (m part.c j k) (n part.c j k)
        ∙ ap (λ f. beside_part part f left samples part.c j k) is_first
        ∙ ap (λ l. beside_part part (first_above picture slice a part.side) l samples part.c j k) is_left_one
        ∙ sym (known_part picture slice a part samples e room shape.some (covered picture part.c shape) j k)

    by : (t : Bool) → (i == c) ≡ t → new i j k ≡ (if t then known_beside picture slice a samples i j k else old i j k)
    by true same =
        let where_it_is : part.c ≡ i = grind (arith, nat_tests) in
        subst (λ d. new d j k ≡ known_beside picture slice a samples d j k) where_it_is at
    by false apart =
        neither (i == part.c) _ _ left (sample_at part samples i j k) (old i j k) (mid i j k) (new i j k)
        (ap (λ d. i == d) is ∙ apart) (m i j k) (n i j k)

pub gathered : (picture : PictureShape) (slice a : ℕ) (part : Part) (samples : Samples) (first : ℕ)
    (old mid new : Known)
    → IsPart picture a part → IsRoom part → IsShape picture → first ≡ first_above picture slice a part.side
    → true ≡ has_left picture slice a
    → ((i j k : ℕ) → mid i j k ≡ (if is_above part first i j k then Some (sample_at part samples i j k) else old i j k))
    → ((i j k : ℕ) → new i j k ≡ (if is_left part i j k then Some (sample_at part samples i j k) else mid i j k))
    → (c : ℕ) → part.c ≡ c → ((j k : ℕ) → old c j k ≡ None)
    → (i j k : ℕ) → new i j k ≡ (if i == c then known_beside picture slice a samples i j k else old i j k)
gathered picture slice a part samples first old mid new e room shape is_first is_left_one m n =
    gathered_by picture slice a part samples first true old mid new e room shape is_first is_left_one m n

-- and the line above alone, where the unit on the left isn't of the slice
pub gathered_above : (picture : PictureShape) (slice a : ℕ) (part : Part) (samples : Samples) (first : ℕ)
    (old new : Known)
    → IsPart picture a part → IsRoom part → IsShape picture → first ≡ first_above picture slice a part.side
    → false ≡ has_left picture slice a
    → ((i j k : ℕ) → new i j k ≡ (if is_above part first i j k then Some (sample_at part samples i j k) else old i j k))
    → (c : ℕ) → part.c ≡ c → ((j k : ℕ) → old c j k ≡ None)
    → (i j k : ℕ) → new i j k ≡ (if i == c then known_beside picture slice a samples i j k else old i j k)
gathered_above picture slice a part samples first old new e room shape is_first is_left_one m =
    gathered_by picture slice a part samples first false old new new e room shape is_first is_left_one m (λ i j k. refl)
