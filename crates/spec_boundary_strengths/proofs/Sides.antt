-- Both sides of an edge.
use Rattle.std.proofs.Common.{◌≡◌, ℕ, zero, suc, Bool, true, false, not, ◌&&◌, ◌||◌, cond, refl, ap, sym, ◌∙◌, arith}
use Rattle.std.proofs.Common.{Option, Some, None, ℤ, pos, negsuc, neg_ℤ, ◌-ℤ◌, nat_le}
use Rattle.std.specs.Prelude.{◌==◌}
use Rattle.std.specs.Int.RustNames.{unsigned_abs}
use Rattle.std.proofs.lemmas.Int.{ints}
use Rattle.std.proofs.lemmas.Bool.Decides.{nat_tests}
use Rattle.picture_buffer.specs.declared.place_motion.PlaceMotion.{PlaceMotion}
use Rattle.picture_buffer.specs.declared.place_motion.PlaceVector.{PlaceVector}
use Rattle.spec_boundary_strengths.specs.declared.vectors.Vectors.{Vectors}
use Rattle.spec_boundary_strengths.specs.declared.vectors.Vectors.TheVariants.{NoVector, OneVector, TwoVectors}
use Rattle.spec_boundary_strengths.specs.Motion.{vectors, same_picture, are_apart, differ_by_two, differ}
use Rattle.spec_boundary_strengths.specs.Motion.{motion_strength}
use Rattle.spec_boundary_strengths.specs.Strengths.{strength}

same_tests : (a b : Bool) → (a ≡ true → b ≡ true) → (b ≡ true → a ≡ true) → a ≡ b
same_tests true b f g = sym (f refl)
same_tests false true f g = g refl
same_tests false false f g = refl

equal_true : (a b : ℕ) → (a == b) ≡ true → (b == a) ≡ true
equal_true a b e = grind (arith, nat_tests)

equal_sym : (a b : ℕ) → (a == b) ≡ (b == a)
equal_sym a b = same_tests (a == b) (b == a) (equal_true a b) (equal_true b a)

equal_self : (a : ℕ) → (a == a) ≡ true
equal_self a = grind (arith, nat_tests)

size_negated : (z : ℤ) → unsigned_abs (neg_ℤ z) ≡ unsigned_abs z
size_negated (pos zero) = refl
size_negated (pos (suc n)) = refl
size_negated (negsuc n) = refl

gap_sym : (a b : ℤ) → unsigned_abs (a -ℤ b) ≡ unsigned_abs (b -ℤ a)
gap_sym a b =
    let e : neg_ℤ (a -ℤ b) ≡ b -ℤ a = omega (arith, ints) in
    sym (size_negated (a -ℤ b)) ∙ ap unsigned_abs e

gap_self : (a : ℤ) → unsigned_abs (a -ℤ a) ≡ 0
gap_self a = let e : a -ℤ a ≡ pos 0 = omega (arith, ints) in ap unsigned_abs e

either_same : (a b c d : Bool) → a ≡ c → b ≡ d → (a || b) ≡ (c || d)
either_same a b c d e f = rw (e, f) refl

both_same : (a b c d : Bool) → a ≡ c → b ≡ d → (a && b) ≡ (c && d)
both_same a b c d e f = rw (e, f) refl

or_sym : (a b : Bool) → (a || b) ≡ (b || a)
or_sym true true = refl
or_sym true false = refl
or_sym false true = refl
or_sym false false = refl

and_sym : (a b : Bool) → (a && b) ≡ (b && a)
and_sym true true = refl
and_sym true false = refl
and_sym false true = refl
and_sym false false = refl

picture_sym : (v w : PlaceVector) → same_picture v w ≡ same_picture w v
picture_sym v w = equal_sym v.reference.picture w.reference.picture

apart_sym : (v w : PlaceVector) → are_apart v w ≡ are_apart w v
unfolding are_apart
apart_sym v w =
    either_same _ _ _ _ (ap (nat_le 4) (gap_sym v.vector.mv.x w.vector.mv.x))
    (ap (nat_le 4) (gap_sym v.vector.mv.y w.vector.mv.y))

apart_self : (v : PlaceVector) → are_apart v v ≡ false
unfolding are_apart
apart_self v = either_same _ _ _ _ (ap (nat_le 4) (gap_self v.vector.mv.x)) (ap (nat_le 4) (gap_self v.vector.mv.y))

-- the cases of two vectors on each side, by what is the same and what is apart
abbrev cases_of : Bool → Bool → Bool → Bool → Bool → Bool
cases_of in_order crossed same straight across =
    cond (not (in_order || crossed)) true (cond same (straight && across) (cond in_order straight across))

-- all vectors of one side point to the same picture where those of the other do
cases_same : (in_order crossed same same' straight across : Bool) → ((in_order || crossed) ≡ true → same ≡ same')
    → cases_of in_order crossed same straight across ≡ cases_of in_order crossed same' straight across
cases_same false false same same' straight across e = refl
cases_same false true same same' straight across e = ap (λ t. cond t (straight && across) across) (e refl)
cases_same true crossed same same' straight across e = ap (λ t. cond t (straight && across) straight) (e refl)

cases_exchanged : (o o' c c' s s' a a' b b' : Bool) → o ≡ o' → c ≡ c' → a ≡ a' → b ≡ b' → ((o' || c') ≡ true → s ≡ s')
    → cases_of o c s a b ≡ cases_of o' c' s' a' b'
cases_exchanged o o' c c' s s' a a' b b' eo ec ea eb es = rw (eo, ec, ea, eb) (cases_same o' c' s s' a' b' es)

pictures_same : (a b c d : ℕ) → (((c == a) && (d == b)) || ((c == b) && (d == a))) ≡ true → (a == b) ≡ (c == d)
pictures_same a b c d e = grind (arith, nat_tests)

two_sym : (p0 p1 q0 q1 : PlaceVector) → differ_by_two p0 p1 q0 q1 ≡ differ_by_two q0 q1 p0 p1
unfolding differ_by_two
two_sym p0 p1 q0 q1 = cases_exchanged _ _ _ _ _ _ _ _ _ _
    (both_same _ _ _ _ (picture_sym p0 q0) (picture_sym p1 q1))
    (both_same _ _ _ _ (picture_sym p0 q1) (picture_sym p1 q0) ∙ and_sym (same_picture q1 p0) (same_picture q0 p1))
    (either_same _ _ _ _ (apart_sym p0 q0) (apart_sym p1 q1))
    (either_same _ _ _ _ (apart_sym p0 q1) (apart_sym p1 q0) ∙ or_sym (are_apart q1 p0) (are_apart q0 p1))
    (pictures_same p0.reference.picture p1.reference.picture q0.reference.picture q1.reference.picture)

differ_sym : (p q : Vectors) → differ p q ≡ differ q p
unfolding differ
differ_sym NoVector NoVector = refl
differ_sym NoVector (OneVector q) = refl
differ_sym NoVector (TwoVectors q0 q1) = refl
differ_sym (OneVector p) NoVector = refl
differ_sym (OneVector p) (OneVector q) = either_same _ _ _ _ (ap not (picture_sym p q)) (apart_sym p q)
differ_sym (OneVector p) (TwoVectors q0 q1) = refl
differ_sym (TwoVectors p0 p1) NoVector = refl
differ_sym (TwoVectors p0 p1) (OneVector q) = refl
differ_sym (TwoVectors p0 p1) (TwoVectors q0 q1) = two_sym p0 p1 q0 q1

motion_sym : (p q : PlaceMotion) → motion_strength p q ≡ motion_strength q p
unfolding motion_strength
motion_sym p q = ap (λ (b : Bool). cond b 1 0) (differ_sym (vectors p) (vectors q))

pub strength_sym : (coded : Bool) (p q : Option PlaceMotion) → strength coded p q ≡ strength coded q p
unfolding strength
strength_sym coded None None = refl
strength_sym coded None (Some q) = refl
strength_sym coded (Some p) None = refl
strength_sym coded (Some p) (Some q) = ap (λ (n : ℕ). cond coded 1 n) (motion_sym p q)

straight_none : (crossed same across in_order straight : Bool) → in_order ≡ true → straight ≡ false
    → cases_of in_order crossed same straight across ≡ false
straight_none crossed true across in_order straight eo es = rw (eo, es) refl
straight_none crossed false across in_order straight eo es = rw (eo, es) refl

two_self : (v w : PlaceVector) → differ_by_two v w v w ≡ false
unfolding differ_by_two
two_self v w = straight_none _ _ _ _ _
    (both_same _ _ _ _ (equal_self v.reference.picture) (equal_self w.reference.picture))
    (either_same _ _ _ _ (apart_self v) (apart_self w))

differ_self : (p : Vectors) → differ p p ≡ false
unfolding differ
differ_self NoVector = refl
differ_self (OneVector v) = either_same _ _ _ _ (ap not (equal_self v.reference.picture)) (apart_self v)
differ_self (TwoVectors v w) = two_self v w

motion_self : (p : PlaceMotion) → motion_strength p p ≡ 0
unfolding motion_strength
motion_self p = ap (λ (b : Bool). cond b 1 0) (differ_self (vectors p))

-- the same motion on both sides, and nothing coded
pub strength_self : (coded : Bool) (p q : Option PlaceMotion) (motion : PlaceMotion) → coded ≡ false → p ≡ Some motion
    → q ≡ Some motion → strength coded p q ≡ 0
unfolding strength
strength_self coded p q motion ec ep eq = rw (ec, ep, eq) (motion_self motion)

-- intra mode behind an edge
pub strength_intra : (coded : Bool) (p q : Option PlaceMotion) → q ≡ None → strength coded p q ≡ 2
unfolding strength
strength_intra coded None q e = rw e refl
strength_intra coded (Some p) q e = rw e refl
