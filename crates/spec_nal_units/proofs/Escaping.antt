-- What is escaped reads back.
use Rattle.std.proofs.Common.{◌≡◌, ℕ, suc, ◌+◌, ◌<◌, ◌≤◌, Bool, true, false, List, [], ◌∷◌, ◌++◌, length, refl, sym}
use Rattle.std.proofs.Common.{ap}
use Rattle.std.proofs.Common.{subst, ◌∙◌, arith, length-append}
use Rattle.std.specs.Prelude.{⊤, not, ◌&&◌, ◌==◌, nat_le}
use borrow.Author.Tests.{leb-false}
use Rattle.std.proofs.lemmas.Bool.Decides.{Decides-eqb}
use Rattle.spec_nal_units.specs.ByteStream.{AtLeastBehindZeros, EndsInNoZero, IsNalUnit}
use Rattle.spec_nal_units.specs.Escaped.{needs_prevention, escaped, unit_with, added, ends_in_words, IsWritable}
use Rattle.spec_nal_units.specs.Escaped.{IsReadBack}
use Rattle.spec_nal_units.proofs.Ends.{decide, if_true, if_false, and_left, and_right}
use Rattle.spec_nal_units.proofs.Walking.{is_prevention, stripped, marked, payload_of-stripped, removed_of-marked}

-- what stands before a byte that needs prevention
record Needs (a b c : ℕ) : Type 0 where
  first : (a == 0) ≡ true
  second : (b == 0) ≡ true

needs : (a b c : ℕ) → needs_prevention a b c ≡ true → Needs a b c
needs a b c t =
    let both = and_left ((a == 0) && (b == 0)) (nat_le c 3) t in
    record { first = and_left (a == 0) (b == 0) both; second = and_right (a == 0) (b == 0) both }

three : (c : ℕ) → (c == 3) ≡ true → nat_le c 3 ≡ true
three c h = let d = Decides-eqb c 3 in ap (λ x. nat_le x 3) (d.0 h)

none : (c : ℕ) → (c == 0) ≡ true → nat_le c 3 ≡ true
none c h = let d = Decides-eqb c 0 in ap (λ x. nat_le x 3) (d.0 h)

weaker : (x y w : Bool) → (w ≡ true → y ≡ true) → (x && y) ≡ false → (x && w) ≡ false
weaker false y w g h = refl
weaker true y false g h = refl
weaker true y true g h = let e = g refl in cc

-- a byte that needs no prevention is no prevention byte
not_taken : (a b c : ℕ) → needs_prevention a b c ≡ false → is_prevention a b c ≡ false
not_taken a b c f = weaker ((a == 0) && (b == 0)) (nat_le c 3) (c == 3) (three c) f

-- the byte that is put is a prevention byte
taken : (a b c : ℕ) → needs_prevention a b c ≡ true → is_prevention a b 3 ≡ true
taken a b c t =
    let n = needs a b c t in
    let x = n.first in
    let y = n.second in
    let e : is_prevention a b 3 ≡ (true && true && (3 == 3)) = cc in
    e

-- and the byte behind it isn't one
not_behind : (a b c : ℕ) → needs_prevention a b c ≡ true → is_prevention b 3 c ≡ false
not_behind a b c t =
    let n = needs a b c t in
    let y = n.second in
    let e : is_prevention b 3 c ≡ (true && (3 == 0) && (c == 3)) = cc in
    e

half_next : (x y z w : Bool) → ((x && y) && w) ≡ false → (z ≡ true → w ≡ true) → (z && not (y && not x)) ≡ (z && not y)
half_next x false z w h g = refl
half_next false true z w h g = refl
half_next true true false w h g = refl
half_next true true true w h g = let e = g refl in cc

-- whether one zero byte stands here that has no other before it
abbrev is_half : ℕ → ℕ → Bool
is_half a b = (b == 0) && not (a == 0)

half_behind : (a b c : ℕ) → needs_prevention a b c ≡ true → ((c == 0) && not (is_half a b)) ≡ is_half 3 c
half_behind a b c t =
    let n = needs a b c t in
    let x = n.first in
    let y = n.second in
    let e : ((c == 0) && not (is_half a b)) ≡ ((c == 0) && not (true && not true)) = cc in
    e

half_go : (a b c : ℕ) → needs_prevention a b c ≡ false → ((c == 0) && not (is_half a b)) ≡ is_half b c
half_go a b c f = half_next (a == 0) (b == 0) (c == 0) (nat_le c 3) f (none c)

-- the zero bytes before the end are two
end_taken : (x y : Bool) → not (y && not x) ≡ true → y ≡ true → ((x && y) && true) ≡ true
end_taken true true h t = refl
end_taken false true h t = cc
end_taken x false h t = cc

words_go : (h k : Bool) (bs : List ℕ) → h ≡ k → ends_in_words h bs ≡ true → ends_in_words k bs ≡ true
words_go h k bs e w = sym (ap (λ x. ends_in_words x bs) e) ∙ w

stripped-escaped : (bs : List ℕ) (a b : ℕ) → ends_in_words (is_half a b) bs ≡ true → stripped a b (escaped a b bs) ≡ bs
stripped-escaped [] a b w =
    decide (b == 0)
    (λ t. ap (stripped a b) (if_true _ _ _ t) ∙ if_true _ _ _ (end_taken (a == 0) (b == 0) w t))
    (λ f. ap (stripped a b) (if_false _ _ _ f))
stripped-escaped (c ∷ cs) a b w =
    decide (needs_prevention a b c)
    (λ t. ap (stripped a b) (if_true _ _ _ t)
    ∙ if_true _ _ _ (taken a b c t)
    ∙ if_false _ _ _ (not_behind a b c t)
    ∙ ap (λ xs. c ∷ xs) (stripped-escaped cs 3 c (words_go _ _ cs (half_behind a b c t) w)))
    (λ f. ap (stripped a b) (if_false _ _ _ f)
    ∙ if_false _ _ _ (not_taken a b c f)
    ∙ ap (λ xs. c ∷ xs) (stripped-escaped cs b c (words_go _ _ cs (half_go a b c f) w)))

marked-escaped : (bs : List ℕ) (k a b : ℕ) → ends_in_words (is_half a b) bs ≡ true
    → marked k a b (escaped a b bs) ≡ added k a b bs
marked-escaped [] k a b w =
    decide (b == 0)
    (λ t. ap (marked k a b) (if_true _ _ _ t) ∙ if_true _ _ _ (end_taken (a == 0) (b == 0) w t) ∙ sym (if_true _ _ _ t))
    (λ f. ap (marked k a b) (if_false _ _ _ f) ∙ sym (if_false _ _ _ f))
marked-escaped (c ∷ cs) k a b w =
    decide (needs_prevention a b c)
    (λ t. let place : suc (suc k) ≡ k + 2 = omega arith in
    ap (marked k a b) (if_true _ _ _ t)
    ∙ if_true _ _ _ (taken a b c t)
    ∙ ap (λ xs. k ∷ xs) (if_false _ _ _ (not_behind a b c t)
    ∙ marked-escaped cs (suc (suc k)) 3 c (words_go _ _ cs (half_behind a b c t) w)
    ∙ ap (λ p. added p 3 c cs) place)
    ∙ sym (if_true _ _ _ t))
    (λ f. let place : suc k ≡ k + 1 = omega arith in
    ap (marked k a b) (if_false _ _ _ f)
    ∙ if_false _ _ _ (not_taken a b c f)
    ∙ marked-escaped cs (suc k) b c (words_go _ _ cs (half_go a b c f) w)
    ∙ ap (λ p. added p b c cs) place
    ∙ sym (if_false _ _ _ f))

no_half : (first second : ℕ) → 0 < second → false ≡ is_half first second
no_half first second h = let d = Decides-eqb second 0 in
    decide (second == 0)
    (λ t. absurd (omega (arith, d.0 t)))
    (λ f. sym (ap (λ x. x && not (first == 0)) f))

pub read_back : (first second : ℕ) (payload : List ℕ) → IsWritable second payload → IsReadBack first second payload
read_back first second payload w =
    let words : ends_in_words (is_half first second) payload ≡ true =
    words_go _ _ payload (no_half first second w.header) w.words in
    record {
      same = payload_of-stripped first second (escaped first second payload)
          ∙ stripped-escaped payload first second words;
      places = removed_of-marked first second (escaped first second payload)
          ∙ marked-escaped payload 2 first second words;
    }

-- behind two bytes: no byte below 03 stands behind two zero bytes
abbrev IsClean : ℕ → ℕ → List ℕ → Type 0
IsClean a b [] = ⊤
IsClean a b (c ∷ cs) = (a ≡ 0 → b ≡ 0 → 3 ≤ c) × IsClean b c cs

clean-escaped : (bs : List ℕ) (a b : ℕ) → IsClean a b (escaped a b bs)
clean-escaped [] a b =
    decide (b == 0)
    (λ t. subst (IsClean a b) (sym (if_true _ _ _ t)) (λ x y. omega arith, tt))
    (λ f. subst (IsClean a b) (sym (if_false _ _ _ f)) tt)
clean-escaped (c ∷ cs) a b =
    decide (needs_prevention a b c)
    (λ t. subst (IsClean a b) (sym (if_true _ _ _ t)) (λ x y. omega arith, (λ x y. cc, clean-escaped cs 3 c)))
    (λ f. subst (IsClean a b) (sym (if_false _ _ _ f)) (above f, clean-escaped cs b c))
  where
    above : needs_prevention a b c ≡ false → a ≡ 0 → b ≡ 0 → 3 ≤ c
    above f x y =
        let e : needs_prevention a b c ≡ ((0 == 0) && (0 == 0) && nat_le c 3) = cc in
        let g : nat_le c 3 ≡ false = sym e ∙ f in
        omega (arith, leb-false c 3 g)

behind-clean : (before after : List ℕ) (x : ℕ) (s : List ℕ) (a b : ℕ) → IsClean a b s
    → a ∷ b ∷ s ≡ before ++ 0 ∷ 0 ∷ x ∷ after → 3 ≤ x
behind-clean before after x [] a b clean e =
    absurd (omega (arith, ap length e, length-append before (0 ∷ 0 ∷ x ∷ after)))
behind-clean [] after x (c ∷ cs) a b clean e =
    let first : a ≡ 0 = cc in
    let second : b ≡ 0 = cc in
    let third : c ≡ x = cc in
    omega (arith, clean.0 first second, third)
behind-clean (p ∷ before) after x (c ∷ cs) a b clean e =
    let tail : b ∷ c ∷ cs ≡ before ++ 0 ∷ 0 ∷ x ∷ after = cc in
    behind-clean before after x cs b c clean.1 tail

pub clean-unit_with : (first second : ℕ) (payload : List ℕ) → AtLeastBehindZeros 3 (unit_with first second payload)
clean-unit_with first second payload before after x e =
    behind-clean before after x (escaped first second payload) first second (clean-escaped payload first second) e

-- the last of bytes, or the byte before them
abbrev last_of : ℕ → List ℕ → ℕ
last_of b [] = b
last_of b (c ∷ cs) = last_of c cs

last_of-zero : (before : List ℕ) (b : ℕ) (s : List ℕ) → b ∷ s ≡ before ++ 0 ∷ [] → last_of b s ≡ 0
last_of-zero [] b [] e = cc
last_of-zero [] b (c ∷ cs) e = cc
last_of-zero (p ∷ before) b [] e = absurd (omega (arith, ap length e, length-append before (0 ∷ [])))
last_of-zero (p ∷ before) b (c ∷ cs) e = let tail : c ∷ cs ≡ before ++ 0 ∷ [] = cc in last_of-zero before c cs tail

last-escaped : (bs : List ℕ) (a b : ℕ) → ¬ (last_of b (escaped a b bs) ≡ 0)
last-escaped [] a b h =
    decide (b == 0)
    (λ t. let e : 3 ≡ 0 = sym (ap (last_of b) (if_true _ _ _ t)) ∙ h in omega (arith, e))
    (λ f. let e : b ≡ 0 = sym (ap (last_of b) (if_false _ _ _ f)) ∙ h in
    let g : (0 == 0) ≡ false = sym (ap (λ x. x == 0) e) ∙ f in cc)
last-escaped (c ∷ cs) a b h =
    decide (needs_prevention a b c)
    (λ t. last-escaped cs 3 c (sym (ap (last_of b) (if_true _ _ _ t)) ∙ h))
    (λ f. last-escaped cs b c (sym (ap (last_of b) (if_false _ _ _ f)) ∙ h))

ending-unit_with : (first second : ℕ) (payload : List ℕ) → EndsInNoZero (unit_with first second payload)
ending-unit_with first second payload before e =
    last-escaped payload first second (last_of-zero before first (second ∷ escaped first second payload) e)

pub unit-unit_with : (first second : ℕ) (payload : List ℕ) → IsNalUnit (unit_with first second payload)
unit-unit_with first second payload = record {
  codes = λ before after b e. omega (arith, clean-unit_with first second payload before after b e);
  ending = ending-unit_with first second payload;
}
