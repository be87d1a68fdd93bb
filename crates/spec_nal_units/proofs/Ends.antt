-- Where a unit ends, in bytes and in bytes that go on.
use Rattle.std.proofs.Common.{◌≡◌, ℕ, zero, suc, ◌+◌, ◌-◌, ◌<◌, Bool, true, false, cond, List, [], ◌∷◌, ◌++◌, length}
use Rattle.std.proofs.Common.{drop, Option, Some, None, refl, sym, ap, ◌∙◌, arith}
use Rattle.std.specs.Prelude.{◌&&◌, ◌==◌, option_map}
use Rattle.spec_nal_units.specs.Units.{ends_unit, unit_end, Padding, Inside, parts}

-- a test's two cases, with what it gave
pub decide : {P : Type 0} (test : Bool) → (test ≡ true → P) → (test ≡ false → P) → P
decide true t f = t refl
decide false t f = f refl

-- an option's two cases, with what it is
pub known : {P : Type 0} (o : Option ℕ) → (o ≡ None → P) → ((k : ℕ) → o ≡ Some k → P) → P
known None n s = n refl
known (Some k) n s = s k refl

pub if_true : {A : Type 0} (test : Bool) (x y : A) → test ≡ true → cond test x y ≡ x
if_true test x y h = ap (λ b. cond b x y) h

pub if_false : {A : Type 0} (test : Bool) (x y : A) → test ≡ false → cond test x y ≡ y
if_false test x y h = ap (λ b. cond b x y) h

pub and_left : (a b : Bool) → (a && b) ≡ true → a ≡ true
and_left true b h = refl
and_left false b h = h

pub and_right : (a b : Bool) → (a && b) ≡ true → b ≡ true
and_right true b h = h
and_right false b h = cc

-- what ends a unit begins with a zero byte
pub ends_unit-zero : (b : ℕ) (bs : List ℕ) → ends_unit (b ∷ bs) ≡ true → (b == 0) ≡ true
ends_unit-zero b [] h = cc
ends_unit-zero b (c ∷ []) h = cc
ends_unit-zero b (c ∷ d ∷ bs) h = and_left (b == 0) _ (and_left ((b == 0) && (c == 0)) _ h)

-- what ends a unit has three bytes
pub ends_unit-length : (bs : List ℕ) → ends_unit bs ≡ true → 2 < length bs
ends_unit-length [] h = cc
ends_unit-length (a ∷ []) h = cc
ends_unit-length (a ∷ b ∷ []) h = cc
ends_unit-length (a ∷ b ∷ c ∷ bs) h = omega arith

-- three bytes tell
pub ends_unit-append : (bs r : List ℕ) → 2 < length bs → ends_unit (bs ++ r) ≡ ends_unit bs
ends_unit-append [] r h = absurd (omega arith)
ends_unit-append (a ∷ []) r h = absurd (omega arith)
ends_unit-append (a ∷ b ∷ []) r h = absurd (omega arith)
ends_unit-append (a ∷ b ∷ c ∷ bs) r h = refl

pub option_map-suc : (o : Option ℕ) (k : ℕ) → option_map suc o ≡ Some k → (j : ℕ) × (o ≡ Some j) × (k ≡ suc j)
option_map-suc None k h = cc
option_map-suc (Some j) k h = (j, refl, cc)

option_map-none : (o : Option ℕ) → option_map suc o ≡ None → o ≡ None
option_map-none None h = refl
option_map-none (Some j) h = cc

pub unit_end-length : (bs : List ℕ) (k : ℕ) → unit_end bs ≡ Some k → k + 2 < length bs
unit_end-length [] k h = cc
unit_end-length (b ∷ bs) k h =
    decide (ends_unit (b ∷ bs))
    (λ t. let e : Some 0 ≡ Some k = sym (if_true _ _ _ t) ∙ h in
    let z : 0 ≡ k = cc in omega (arith, ends_unit-length (b ∷ bs) t))
    (λ f. let r = option_map-suc (unit_end bs) k (sym (if_false _ _ _ f) ∙ h) in
    omega (arith, unit_end-length bs r.0 r.1, r.2))

-- a unit's end stays, however the bytes go on
pub unit_end-append : (bs r : List ℕ) (k : ℕ) → unit_end bs ≡ Some k → unit_end (bs ++ r) ≡ Some k
unit_end-append [] r k h = cc
unit_end-append (b ∷ bs) r k h =
    let long : k + 2 < length (b ∷ bs) = unit_end-length (b ∷ bs) k h in
    let same : ends_unit (b ∷ (bs ++ r)) ≡ ends_unit (b ∷ bs) = ends_unit-append (b ∷ bs) r (omega arith) in
    decide (ends_unit (b ∷ bs))
    (λ t. if_true _ _ _ (same ∙ t) ∙ sym (if_true _ _ _ t) ∙ h)
    (λ f. let s = option_map-suc (unit_end bs) k (sym (if_false _ _ _ f) ∙ h) in
    if_false _ _ _ (same ∙ f) ∙ ap (option_map suc) (unit_end-append bs r s.0 s.1) ∙ ap Some (sym s.2))

-- a unit's end is the first place at which one stands
pub unit_end-first : (bs : List ℕ) (k : ℕ) → ((j : ℕ) → j < k → ends_unit (drop j bs) ≡ false)
    → ends_unit (drop k bs) ≡ true → unit_end bs ≡ Some k
unit_end-first [] zero below here = cc
unit_end-first [] (suc k) below here = cc
unit_end-first (b ∷ bs) zero below here = if_true _ _ _ here
unit_end-first (b ∷ bs) (suc k) below here =
    if_false _ _ _ (below 0 (omega arith))
    ∙ ap (option_map suc) (unit_end-first bs k (λ j lt. below (suc j) (omega arith)) here)

pub unit_end-none : (bs : List ℕ) → ((j : ℕ) → j < length bs - 2 → ends_unit (drop j bs) ≡ false) → unit_end bs ≡ None
unit_end-none [] below = refl
unit_end-none (a ∷ []) below = refl
unit_end-none (a ∷ b ∷ []) below = refl
unit_end-none (a ∷ b ∷ c ∷ bs) below =
    if_false _ _ _ (below 0 (omega arith))
    ∙ ap (option_map suc) (unit_end-none (b ∷ c ∷ bs) (λ j lt. below (suc j) (omega arith)))

-- where no unit ends, none ends at any place
pub unit_end-nowhere : (bs : List ℕ) (j : ℕ) → unit_end bs ≡ None → ends_unit (drop j bs) ≡ false
unit_end-nowhere [] zero h = refl
unit_end-nowhere [] (suc j) h = refl
unit_end-nowhere (b ∷ bs) zero h =
    decide (ends_unit (b ∷ bs)) (λ t. let e : Some 0 ≡ None = sym (if_true _ _ _ t) ∙ h in cc) (λ f. f)
unit_end-nowhere (b ∷ bs) (suc j) h =
    decide (ends_unit (b ∷ bs))
    (λ t. let e : Some 0 ≡ None = sym (if_true _ _ _ t) ∙ h in cc)
    (λ f. unit_end-nowhere bs j (option_map-none (unit_end bs) (sym (if_false _ _ _ f) ∙ h)))

-- what ends a unit stands at its end
pub unit_end-here : (bs : List ℕ) (k : ℕ) → unit_end bs ≡ Some k → ends_unit (drop k bs) ≡ true
unit_end-here [] k h = cc
unit_end-here (b ∷ bs) k h =
    decide (ends_unit (b ∷ bs))
    (λ t. let e : Some 0 ≡ Some k = sym (if_true _ _ _ t) ∙ h in let z : k ≡ 0 = cc in
    ap (λ n. ends_unit (drop n (b ∷ bs))) z ∙ t)
    (λ f. let r = option_map-suc (unit_end bs) k (sym (if_false _ _ _ f) ∙ h) in
    ap (λ n. ends_unit (drop n (b ∷ bs))) r.2 ∙ unit_end-here bs r.0 r.1)

-- and nowhere before
pub unit_end-before : (bs : List ℕ) (k j : ℕ) → unit_end bs ≡ Some k → j < k → ends_unit (drop j bs) ≡ false
unit_end-before [] k j h lt = cc
unit_end-before (b ∷ bs) k zero h lt =
    decide (ends_unit (b ∷ bs))
    (λ t. let e : Some 0 ≡ Some k = sym (if_true _ _ _ t) ∙ h in let z : 0 ≡ k = cc in absurd (omega (arith, z, lt)))
    (λ f. f)
unit_end-before (b ∷ bs) k (suc j) h lt =
    decide (ends_unit (b ∷ bs))
    (λ t. let e : Some 0 ≡ Some k = sym (if_true _ _ _ t) ∙ h in let z : 0 ≡ k = cc in absurd (omega (arith, z, lt)))
    (λ f. let r = option_map-suc (unit_end bs) k (sym (if_false _ _ _ f) ∙ h) in
    unit_end-before bs r.0 j r.1 (omega (arith, lt, r.2)))

-- behind a unit comes padding
pub parts-past : (ended : Bool) (bs : List ℕ) (k : ℕ) → unit_end bs ≡ Some k
    → parts ended Inside bs ≡ parts ended (Padding 0) (drop k bs)
parts-past ended [] k h = cc
parts-past ended (b ∷ bs) k h =
    decide (ends_unit (b ∷ bs))
    (λ t. let e : Some 0 ≡ Some k = sym (if_true _ _ _ t) ∙ h in let z : 0 ≡ k = cc in
    if_true _ _ _ t ∙ sym (if_true (b == 0) _ _ (ends_unit-zero b bs t))
    ∙ ap (λ n. parts ended (Padding 0) (drop n (b ∷ bs))) z)
    (λ f. let s = option_map-suc (unit_end bs) k (sym (if_false _ _ _ f) ∙ h) in
    if_false _ _ _ f ∙ parts-past ended bs s.0 s.1 ∙ ap (λ n. parts ended (Padding 0) (drop n (b ∷ bs))) (sym s.2))

-- in a unit that doesn't end no part begins
pub parts-inside : (ended : Bool) (bs : List ℕ) → unit_end bs ≡ None → parts ended Inside bs ≡ []
parts-inside ended [] h = refl
parts-inside ended (b ∷ bs) h =
    decide (ends_unit (b ∷ bs))
    (λ t. let e : Some 0 ≡ None = sym (if_true _ _ _ t) ∙ h in cc)
    (λ f. if_false _ _ _ f ∙ parts-inside ended bs (option_map-none (unit_end bs) (sym (if_false _ _ _ f) ∙ h)))
