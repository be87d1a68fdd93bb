-- What the grammar of the byte stream has is what a stream is split into.
use Rattle.std.proofs.Common.{◌≡◌, ℕ, zero, suc, ◌+◌, ◌<◌, ◌≤◌, true, false, List, [], ◌∷◌, ◌++◌, length, take, drop}
use Rattle.std.proofs.Common.{replicate, Some, None, refl, sym, ap, subst, ◌∙◌, arith, length-append}
use Rattle.std.proofs.Common.{take-append-drop}
use Rattle.std.proofs.Common.{append_assoc, append-nil, length-take-le}
use Rattle.std.proofs.lemmas.List.{replicate-append-replicate}
use Rattle.std.specs.Prelude.{◌&&◌, ◌==◌, min, map, nat_le, nat_lt, option_map}
use lib.Seq.{take-append_seam, drop-append_seam}
use borrow.Author.Tests.{le-leb, leb-true, ltb-true, ltb-false}
use Rattle.std.proofs.lemmas.Bool.Decides.{Decides-eqb}
use Rattle.spec_nal_units.specs.Units.{ends_unit, unit_end, all_zero, trimmed, Part, Raw, Stray, unit_to, unit_at}
use Rattle.spec_nal_units.specs.Units.{Place, Padding, Inside, parts, parts_of}
use Rattle.spec_nal_units.specs.ByteStream.{AtLeastBehindZeros, EndsInNoZero, IsNalUnit, byte_stream_nal_unit}
use Rattle.spec_nal_units.specs.ByteStream.{IsByteStream, IsSplitInto}
use Rattle.spec_nal_units.proofs.Ends.{decide, known, if_true, if_false, and_left, and_right, ends_unit-zero}
use Rattle.spec_nal_units.proofs.Ends.{option_map-suc, unit_end-length, unit_end-nowhere, unit_end-here}
use Rattle.spec_nal_units.proofs.Ends.{unit_end-before, parts-past, parts-inside}

-- ---- a unit and what stands behind it

is_zero : (b : ℕ) → (b == 0) ≡ true → b ≡ 0
is_zero b t = let d = Decides-eqb b 0 in d.0 t

ends_unit-second : (a b : ℕ) (bs : List ℕ) → ends_unit (a ∷ b ∷ bs) ≡ true → (b == 0) ≡ true
ends_unit-second a b [] h = cc
ends_unit-second a b (c ∷ bs) h = and_right (a == 0) (b == 0) (and_left ((a == 0) && (b == 0)) (nat_lt c 2) h)

ending-tail : (a : ℕ) (us : List ℕ) → EndsInNoZero (a ∷ us) → EndsInNoZero us
ending-tail a us h before e = h (a ∷ before) (ap (λ xs. a ∷ xs) e)

unit-tail : (a : ℕ) (us : List ℕ) → IsNalUnit (a ∷ us) → IsNalUnit us
unit-tail a us u = record {
  codes = λ before after b e. u.codes (a ∷ before) after b (ap (λ xs. a ∷ xs) e);
  ending = ending-tail a us u.ending;
}

-- no start code begins in a unit
unit-open : (a : ℕ) (us r : List ℕ) → IsNalUnit (a ∷ us) → ¬ (ends_unit (a ∷ (us ++ r)) ≡ true)
unit-open a [] r u t = u.ending [] (ap (λ x. x ∷ []) (is_zero a (ends_unit-zero a r t)))
unit-open a (b ∷ []) r u t = u.ending (a ∷ []) (ap (λ x. a ∷ x ∷ []) (is_zero b (ends_unit-second a b r t)))
unit-open a (b ∷ c ∷ us) r u t =
    let first : a ≡ 0 = is_zero a (ends_unit-zero a (b ∷ c ∷ (us ++ r)) t) in
    let second : b ≡ 0 = is_zero b (ends_unit-second a b (c ∷ (us ++ r)) t) in
    let small : c < 2 = ltb-true c 2 (and_right ((a == 0) && (b == 0)) (nat_lt c 2) t) in
    let same : a ∷ b ∷ c ∷ us ≡ 0 ∷ 0 ∷ c ∷ us = cc in
    absurd (omega (arith, small, u.codes [] us c same))

unit-closed : (a : ℕ) (us r : List ℕ) → IsNalUnit (a ∷ us) → ends_unit (a ∷ (us ++ r)) ≡ false
unit-closed a us r u = decide (ends_unit (a ∷ (us ++ r))) (λ t. absurd (unit-open a us r u t)) (λ f. f)

pub unit_end-past : (us r : List ℕ) → IsNalUnit us → unit_end r ≡ Some 0 → unit_end (us ++ r) ≡ Some (length us)
unit_end-past [] r u h = h
unit_end-past (a ∷ us) r u h =
    if_false _ _ _ (unit-closed a us r u) ∙ ap (option_map suc) (unit_end-past us r (unit-tail a us u) h)

unit_end-none_past : (us r : List ℕ) → IsNalUnit us → unit_end r ≡ None → unit_end (us ++ r) ≡ None
unit_end-none_past [] r u h = h
unit_end-none_past (a ∷ us) r u h =
    if_false _ _ _ (unit-closed a us r u) ∙ ap (option_map suc) (unit_end-none_past us r (unit-tail a us u) h)

-- ---- zero bytes at an end

all_zero-replicate : (n : ℕ) → all_zero (replicate n 0) ≡ true
all_zero-replicate zero = refl
all_zero-replicate (suc n) = all_zero-replicate n

replicate-all_zero : (bs : List ℕ) → all_zero bs ≡ true → bs ≡ replicate (length bs) 0
replicate-all_zero [] h = refl
replicate-all_zero (b ∷ bs) h =
    ap (λ x. x ∷ bs) (is_zero b (and_left (b == 0) (all_zero bs) h))
    ∙ ap (λ xs. 0 ∷ xs) (replicate-all_zero bs (and_right (b == 0) (all_zero bs) h))

all_zero-not : (a : ℕ) (us r : List ℕ) → EndsInNoZero (a ∷ us) → ¬ (all_zero (a ∷ (us ++ r)) ≡ true)
all_zero-not a [] r h t = h [] (ap (λ x. x ∷ []) (is_zero a (and_left (a == 0) (all_zero r) t)))
all_zero-not a (b ∷ us) r h t =
    all_zero-not b us r (ending-tail a (b ∷ us) h) (and_right (a == 0) (all_zero (b ∷ (us ++ r))) t)

trimmed-replicate : (n : ℕ) → trimmed (replicate n 0) ≡ []
trimmed-replicate zero = refl
trimmed-replicate (suc n) = if_true (all_zero (replicate (suc n) 0)) _ _ (all_zero-replicate (suc n))

trimmed-past : (us : List ℕ) (n : ℕ) → EndsInNoZero us → trimmed (us ++ replicate n 0) ≡ us
trimmed-past [] n h = trimmed-replicate n
trimmed-past (a ∷ us) n h =
    decide (all_zero (a ∷ (us ++ replicate n 0)))
    (λ t. absurd (all_zero-not a us (replicate n 0) h t))
    (λ f. if_false _ _ _ f ∙ ap (λ xs. a ∷ xs) (trimmed-past us n (ending-tail a us h)))

pub trimmed-split : (bs : List ℕ) → (n : ℕ) × (bs ≡ trimmed bs ++ replicate n 0)
trimmed-split [] = (0, refl)
trimmed-split (b ∷ bs) =
    decide (all_zero (b ∷ bs))
    (λ t. let n : ℕ = length (b ∷ bs) in
    (n, replicate-all_zero (b ∷ bs) t ∙ sym (ap (λ xs. xs ++ replicate n 0) (if_true _ _ _ t))))
    (λ f. let s = trimmed-split bs in
    (s.0, ap (λ xs. b ∷ xs) s.1 ∙ sym (ap (λ xs. xs ++ replicate s.0 0) (if_false _ _ _ f))))

trimmed-empty : (bs : List ℕ) → trimmed bs ≡ [] → all_zero bs ≡ true
trimmed-empty [] h = refl
trimmed-empty (b ∷ bs) h =
    decide (all_zero (b ∷ bs)) (λ t. t) (λ f. let e : b ∷ trimmed bs ≡ [] = sym (if_false _ _ _ f) ∙ h in cc)

trimmed-last : (bs before : List ℕ) → trimmed bs ≡ before ++ 0 ∷ [] → ⊥
trimmed-last [] before e = absurd (omega (arith, ap length e, length-append before (0 ∷ [])))
trimmed-last (b ∷ bs) [] e =
    decide (all_zero (b ∷ bs))
    (λ t. let g : [] ≡ 0 ∷ [] = sym (if_true _ _ _ t) ∙ e in cc)
    (λ f. let g : b ∷ trimmed bs ≡ 0 ∷ [] = sym (if_false _ _ _ f) ∙ e in
    let first : b ≡ 0 = cc in
    let rest : trimmed bs ≡ [] = cc in
    let zeros : all_zero bs ≡ true = trimmed-empty bs rest in
    let all : all_zero (b ∷ bs) ≡ ((0 == 0) && true) = cc in
    let no : true ≡ false = sym all ∙ f in
    cc)
trimmed-last (b ∷ bs) (p ∷ before) e =
    decide (all_zero (b ∷ bs))
    (λ t. let g : [] ≡ p ∷ (before ++ 0 ∷ []) = sym (if_true _ _ _ t) ∙ e in cc)
    (λ f. let g : b ∷ trimmed bs ≡ p ∷ (before ++ 0 ∷ []) = sym (if_false _ _ _ f) ∙ e in
    let tail : trimmed bs ≡ before ++ 0 ∷ [] = cc in
    trimmed-last bs before tail)

-- ---- what is split off is a unit

codes-nowhere : (bs : List ℕ) → unit_end bs ≡ None → AtLeastBehindZeros 2 bs
codes-nowhere bs n before after b e =
    let there : ends_unit (0 ∷ 0 ∷ b ∷ after) ≡ false =
    sym (ap ends_unit (ap (drop (length before)) e ∙ drop-append_seam before (0 ∷ 0 ∷ b ∷ after)))
    ∙ unit_end-nowhere bs (length before) n in
    ltb-false b 2 there

codes-front : (us r : List ℕ) → AtLeastBehindZeros 2 (us ++ r) → AtLeastBehindZeros 2 us
codes-front us r h before after b e =
    h before (after ++ r) b (ap (λ xs. xs ++ r) e ∙ append_assoc before (0 ∷ 0 ∷ b ∷ after) r)

pub unit-none : (bs : List ℕ) → unit_end bs ≡ None → IsNalUnit (trimmed bs)
unit-none bs n = let s = trimmed-split bs in record {
  codes = codes-front (trimmed bs) (replicate s.0 0) (subst (AtLeastBehindZeros 2) s.1 (codes-nowhere bs n));
  ending = trimmed-last bs;
}

ends_unit-more : (bs : List ℕ) → ends_unit bs ≡ true → ends_unit (0 ∷ bs) ≡ true
ends_unit-more [] h = cc
ends_unit-more (a ∷ []) h = cc
ends_unit-more (a ∷ b ∷ []) h = cc
ends_unit-more (a ∷ b ∷ c ∷ bs) h =
    let first : a ≡ 0 = is_zero a (ends_unit-zero a (b ∷ c ∷ bs) h) in
    let second : b ≡ 0 = is_zero b (ends_unit-second a b (c ∷ bs) h) in
    let e : ends_unit (0 ∷ a ∷ b ∷ c ∷ bs) ≡ ((0 == 0) && (0 == 0) && nat_lt 0 2) = cc in
    e

unit-some : (bs : List ℕ) (k : ℕ) → unit_end bs ≡ Some k → IsNalUnit (take k bs)
unit-some bs k s = record { codes = codes; ending = ending }
  where
    long : length (take k bs) ≡ k
    long = length-take-le k bs (omega (arith, unit_end-length bs k s))

    -- what stands behind a front of the unit
    behind : (before more : List ℕ) → take k bs ≡ before ++ more → drop (length before) bs ≡ more ++ drop k bs
    behind before more e =
        ap (drop (length before)) (sym (take-append-drop k bs)
        ∙ ap (λ xs. xs ++ drop k bs) e
        ∙ append_assoc before more (drop k bs))
        ∙ drop-append_seam before (more ++ drop k bs)

    codes : AtLeastBehindZeros 2 (take k bs)
    codes before after b e =
        let below : length before < k = omega (arith, long, ap length e, length-append before (0 ∷ 0 ∷ b ∷ after)) in
        let there : ends_unit (0 ∷ 0 ∷ b ∷ (after ++ drop k bs)) ≡ false =
        sym (ap ends_unit (behind before (0 ∷ 0 ∷ b ∷ after) e)) ∙ unit_end-before bs k (length before) s below in
        ltb-false b 2 there

    ending : EndsInNoZero (take k bs)
    ending before e =
        let below : length before < k = omega (arith, long, ap length e, length-append before (0 ∷ [])) in
        let there : ends_unit (0 ∷ drop k bs) ≡ false =
        sym (ap ends_unit (behind before (0 ∷ []) e)) ∙ unit_end-before bs k (length before) s below in
        let here : ends_unit (0 ∷ drop k bs) ≡ true = ends_unit-more (drop k bs) (unit_end-here bs k s) in
        let no : true ≡ false = sym here ∙ there in
        cc

-- ---- the grammar, with the zero bytes between two units as one run

abbrev IsJoined : List ℕ → List (List ℕ) → Type 0
IsJoined bytes [] = (zeros : ℕ) × (bytes ≡ replicate zeros 0)
IsJoined bytes (unit ∷ units) =
    (zeros : ℕ)
    × (rest : List ℕ)
    × (bytes ≡ replicate zeros 0 ++ 0 ∷ 0 ∷ 1 ∷ (unit ++ rest))
    × IsNalUnit unit
    × IsJoined rest units

joined-more : (n : ℕ) (units : List (List ℕ)) (bytes : List ℕ) → IsJoined bytes units
    → IsJoined (replicate n 0 ++ bytes) units
joined-more n [] bytes s = (n + s.0, ap (λ xs. replicate n 0 ++ xs) s.1 ∙ replicate-append-replicate n s.0 0)
joined-more n (unit ∷ units) bytes s =
    let unit_on : List ℕ = 0 ∷ 0 ∷ 1 ∷ (unit ++ s.1) in (
      n + s.0,
      s.1,
      ap (λ xs. replicate n 0 ++ xs) s.2
          ∙ sym (append_assoc (replicate n 0) (replicate s.0 0) unit_on)
          ∙ ap (λ xs. xs ++ unit_on) (replicate-append-replicate n s.0 0),
      s.3,
      s.4,
    )

-- the zero bytes behind a unit belong to what stands behind it
trailing-on : (leading trailing : ℕ) (unit rest : List ℕ)
    → byte_stream_nal_unit leading unit trailing ++ rest
    ≡ replicate leading 0 ++ 0 ∷ 0 ∷ 1 ∷ (unit ++ (replicate trailing 0 ++ rest))
trailing-on leading trailing unit rest =
    append_assoc (replicate leading 0) (0 ∷ 0 ∷ 1 ∷ (unit ++ replicate trailing 0)) rest
    ∙ ap (λ xs. replicate leading 0 ++ 0 ∷ 0 ∷ 1 ∷ xs) (append_assoc unit (replicate trailing 0) rest)

stream-joined : (units : List (List ℕ)) (bytes : List ℕ) → IsByteStream bytes units → IsJoined bytes units
stream-joined [] bytes s = s
stream-joined (unit ∷ units) bytes s =
    let later = joined-more s.1 units s.2 (stream-joined units s.2 s.5) in
    (s.0, replicate s.1 0 ++ s.2, s.3 ∙ trailing-on s.0 s.1 unit s.2, s.4, later)

joined-stream : (units : List (List ℕ)) (bytes : List ℕ) → IsJoined bytes units → IsByteStream bytes units
joined-stream [] bytes s = s
joined-stream (unit ∷ units) bytes s =
    (s.0, 0, s.1, s.2 ∙ sym (trailing-on s.0 0 unit s.1), s.3, joined-stream units s.1 s.4)

-- ---- what the grammar has is split so

two_zeros : (p : ℕ) → nat_le 2 (min 2 (min 2 (p + 1) + 1)) ≡ true
two_zeros p = le-leb 2 _ (omega arith)

zeros-pass : (n p : ℕ) (xs : List ℕ)
    → parts true (Padding p) (replicate n 0 ++ 0 ∷ 0 ∷ 1 ∷ xs) ≡ unit_at true xs ++ parts true Inside xs
zeros-pass zero p xs = if_true (nat_le 2 (min 2 (min 2 (p + 1) + 1))) _ _ (two_zeros p)
zeros-pass (suc n) p xs = zeros-pass n (min 2 (p + 1)) xs

zeros-only : (n p : ℕ) → parts true (Padding p) (replicate n 0) ≡ []
zeros-only zero p = refl
zeros-only (suc n) p = zeros-only n (min 2 (p + 1))

pub unit_end-start : (n : ℕ) (xs : List ℕ) → unit_end (replicate n 0 ++ 0 ∷ 0 ∷ 1 ∷ xs) ≡ Some 0
unit_end-start zero xs = refl
unit_end-start (suc zero) xs = refl
unit_end-start (suc (suc zero)) xs = refl
unit_end-start (suc (suc (suc n))) xs = refl

unit-then : (us rest : List ℕ) → IsNalUnit us → unit_end rest ≡ Some 0
    → unit_at true (us ++ rest) ++ parts true Inside (us ++ rest) ≡ Raw us ∷ parts true (Padding 0) rest
unit-then us rest u h =
    let s : unit_end (us ++ rest) ≡ Some (length us) = unit_end-past us rest u h in
    ap (λ o. unit_to true (us ++ rest) o ++ parts true Inside (us ++ rest)) s
    ∙ ap (λ xs. Raw xs ∷ parts true Inside (us ++ rest)) (take-append_seam us rest)
    ∙ ap (λ ps. Raw us ∷ ps) (parts-past true (us ++ rest) (length us) s
    ∙ ap (parts true (Padding 0)) (drop-append_seam us rest))

unit-last : (us : List ℕ) (n : ℕ) → IsNalUnit us → unit_end (replicate n 0) ≡ None
    → unit_at true (us ++ replicate n 0) ++ parts true Inside (us ++ replicate n 0) ≡ Raw us ∷ []
unit-last us n u h =
    let s : unit_end (us ++ replicate n 0) ≡ None = unit_end-none_past us (replicate n 0) u h in
    ap (λ o. unit_to true (us ++ replicate n 0) o ++ parts true Inside (us ++ replicate n 0)) s
    ∙ ap (λ xs. Raw xs ∷ parts true Inside (us ++ replicate n 0)) (trimmed-past us n u.ending)
    ∙ ap (λ ps. Raw us ∷ ps) (parts-inside true (us ++ replicate n 0) s)

unit-then_zeros : (us : List ℕ) (n : ℕ) → IsNalUnit us
    → unit_at true (us ++ replicate n 0) ++ parts true Inside (us ++ replicate n 0) ≡ Raw us ∷ []
unit-then_zeros us zero u = unit-last us 0 u refl
unit-then_zeros us (suc zero) u = unit-last us 1 u refl
unit-then_zeros us (suc (suc zero)) u = unit-last us 2 u refl
unit-then_zeros us (suc (suc (suc n))) u =
    unit-then us (replicate (suc (suc (suc n))) 0) u refl ∙ ap (λ ps. Raw us ∷ ps) (zeros-only (suc (suc (suc n))) 0)

unit-and_rest : (us rest : List ℕ) (units : List (List ℕ)) → IsNalUnit us → IsJoined rest units
    → unit_at true (us ++ rest) ++ parts true Inside (us ++ rest) ≡ Raw us ∷ parts true (Padding 0) rest
unit-and_rest us rest [] u s =
    ap (λ r. unit_at true (us ++ r) ++ parts true Inside (us ++ r)) s.1
    ∙ unit-then_zeros us s.0 u
    ∙ ap (λ ps. Raw us ∷ ps) (sym (ap (parts true (Padding 0)) s.1 ∙ zeros-only s.0 0))
unit-and_rest us rest (unit ∷ units) u s =
    unit-then us rest u (ap unit_end s.2 ∙ unit_end-start s.0 (unit ++ s.1))

joined-found : (units : List (List ℕ)) (bytes : List ℕ) → IsJoined bytes units → parts_of true bytes ≡ map Raw units
joined-found [] bytes s = ap (parts true (Padding 0)) s.1 ∙ zeros-only s.0 0
joined-found (unit ∷ units) bytes s =
    ap (parts true (Padding 0)) s.2
    ∙ zeros-pass s.0 0 (unit ++ s.1)
    ∙ unit-and_rest unit s.1 units s.3 s.4
    ∙ ap (λ ps. Raw unit ∷ ps) (joined-found units s.1 s.4)

-- ---- what is split so has the grammar

-- what stands from a place on, and before it: so many zero bytes, or a unit that ends
abbrev IsRest : Place → List ℕ → List (List ℕ) → Type 0
IsRest (Padding p) bs units = (m : ℕ) → min 2 m ≡ p → IsJoined (replicate m 0 ++ bs) units
IsRest Inside bs units = (k : ℕ) → unit_end bs ≡ Some k → IsJoined (drop k bs) units

replicate-more : (n : ℕ) (xs : List ℕ) → replicate (suc n) 0 ++ xs ≡ replicate n 0 ++ 0 ∷ xs
replicate-more zero xs = refl
replicate-more (suc n) xs = ap (λ ys. 0 ∷ ys) (replicate-more n xs)

two_before : (m : ℕ) (xs : List ℕ) → 2 ≤ m → (n : ℕ) × (replicate m 0 ++ xs ≡ replicate n 0 ++ 0 ∷ 0 ∷ xs)
two_before zero xs h = absurd (omega (arith, h))
two_before (suc zero) xs h = absurd (omega (arith, h))
two_before (suc (suc n)) xs h = (n, replicate-more (suc n) xs ∙ replicate-more n (0 ∷ xs))

no_stray : (ps : List Part) (units : List (List ℕ)) → ¬ (Stray ∷ ps ≡ map Raw units)
no_stray ps [] e = cc
no_stray ps (u ∷ units) e = cc

first_unit : (us : List ℕ) (ps : List Part) (units : List (List ℕ)) → Raw us ∷ ps ≡ map Raw units
    → (later : List (List ℕ)) × (units ≡ us ∷ later) × (ps ≡ map Raw later)
first_unit us ps [] e = cc
first_unit us ps (u ∷ units) e =
    let same : u ≡ us = cc in
    let more : ps ≡ map Raw units = cc in
    (units, ap (λ x. x ∷ units) same, more)

-- a start code, a unit and what stands behind it
begun : (m b : ℕ) (bs us rest : List ℕ) (units later : List (List ℕ)) → 2 ≤ m → b ≡ 1 → bs ≡ us ++ rest → IsNalUnit us
    → units ≡ us ∷ later → IsJoined rest later → IsJoined (replicate m 0 ++ b ∷ bs) units
begun m b bs us rest units later h one e u is s =
    let z = two_before m (b ∷ bs) h in
    let same : 0 ∷ 0 ∷ b ∷ bs ≡ 0 ∷ 0 ∷ 1 ∷ (us ++ rest) = cc in
    subst (IsJoined (replicate m 0 ++ b ∷ bs)) (sym is) (z.0, rest, z.1 ∙ ap (λ xs. replicate z.0 0 ++ xs) same, u, s)

only : (place : Place) (bs : List ℕ) (units : List (List ℕ)) → parts true place bs ≡ map Raw units
    → IsRest place bs units
only (Padding p) [] [] e = λ m h. (m, append-nil (replicate m 0))
only (Padding p) [] (u ∷ units) e = λ m h. cc
only (Padding p) (b ∷ bs) units e = λ m h.
    decide (b == 0)
    (λ t. let z : 0 ≡ b = sym (is_zero b t) in
    let g = only (Padding (min 2 (p + 1))) bs units (sym (if_true _ _ _ t) ∙ e) (suc m) (omega (arith, h)) in
    subst (λ xs. IsJoined xs units) (replicate-more m bs ∙ ap (λ x. replicate m 0 ++ x ∷ bs) z) g)
    (λ f. decide ((b == 1) && nat_le 2 p)
    (λ t. let one : b ≡ 1 = (Decides-eqb b 1).0 (and_left (b == 1) (nat_le 2 p) t) in
    let far : 2 ≤ m = omega (arith, h, leb-true 2 p (and_right (b == 1) (nat_le 2 p) t)) in
    let split : unit_at true bs ++ parts true Inside bs ≡ map Raw units =
    sym (if_false _ _ _ f ∙ if_true _ _ _ t) ∙ e in
    known (unit_end bs)
    (λ n. let this = sym (ap (λ o. unit_to true bs o ++ parts true Inside bs) n) ∙ split in
    let r = first_unit (trimmed bs) (parts true Inside bs) units this in
    let s = trimmed-split bs in
    let ended : r.0 ≡ [] = no_more r.0 (sym (parts-inside true bs n) ∙ r.2) in
    let none : IsJoined (replicate s.0 0) r.0 = subst (IsJoined (replicate s.0 0)) (sym ended) (s.0, refl) in
    begun m b bs (trimmed bs) (replicate s.0 0) units r.0 far one s.1 (unit-none bs n) r.1 none)
    (λ k s. let this = sym (ap (λ o. unit_to true bs o ++ parts true Inside bs) s) ∙ split in
    let r = first_unit (take k bs) (parts true Inside bs) units this in
    let later = only Inside bs r.0 r.2 k s in
    begun m b bs (take k bs) (drop k bs) units r.0 far one (sym (take-append-drop k bs)) (unit-some bs k s) r.1 later))
    (λ g. absurd (no_stray _ units (sym (if_false _ _ _ f ∙ if_false _ _ _ g) ∙ e))))
  where
    no_more : (later : List (List ℕ)) → [] ≡ map Raw later → later ≡ []
    no_more [] q = refl
    no_more (u ∷ later) q = cc
only Inside [] units e = λ k h. cc
only Inside (b ∷ bs) units e = λ k h.
    decide (ends_unit (b ∷ bs))
    (λ t. let first : Some 0 ≡ Some k = sym (if_true _ _ _ t) ∙ h in
    let z : 0 ≡ k = cc in
    let g = only (Padding 1) bs units (sym (if_true _ _ _ t) ∙ e) 1 refl in
    let zero_here : 0 ≡ b = sym (is_zero b (ends_unit-zero b bs t)) in
    subst (λ xs. IsJoined xs units) (ap (λ x. x ∷ bs) zero_here ∙ ap (λ n. drop n (b ∷ bs)) z) g)
    (λ f. let r = option_map-suc (unit_end bs) k (sym (if_false _ _ _ f) ∙ h) in
    let g = only Inside bs units (sym (if_false _ _ _ f) ∙ e) r.0 r.1 in
    subst (λ xs. IsJoined xs units) (ap (λ n. drop n (b ∷ bs)) (sym r.2)) g)

-- ---- both ways

pub found : (bytes : List ℕ) (units : List (List ℕ)) → IsByteStream bytes units → IsSplitInto bytes units
found bytes units s = joined-found units bytes (stream-joined units bytes s)

pub only_so : (bytes : List ℕ) (units : List (List ℕ)) → IsSplitInto bytes units → IsByteStream bytes units
only_so bytes units e = joined-stream units bytes (only (Padding 0) bytes units e 0 refl)
