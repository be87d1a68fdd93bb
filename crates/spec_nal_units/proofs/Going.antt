-- How the parts of a stream go on with its bytes.
use Rattle.std.proofs.Common.{◌≡◌, ℕ, ◌+◌, ◌<◌, ◌≤◌, Bool, true, false, List, [], ◌∷◌, ◌++◌, length, take, drop, Some}
use Rattle.std.proofs.Common.{None, refl, sym, ap, ◌∙◌, arith}
use Rattle.std.specs.Prelude.{◌&&◌, ◌==◌, min, nat_lt, nat_le}
use borrow.Author.Tests.{ltb-true, ltb-false}
use Rattle.std.proofs.lemmas.List.{take-append-le, drop-append-le}
use Rattle.spec_nal_units.specs.Units.{ends_unit, unit_end, Part, Raw, Stray, unit_to, unit_at, Place, Padding}
use Rattle.spec_nal_units.specs.Units.{Inside}
use Rattle.spec_nal_units.specs.Units.{parts}
use Rattle.spec_nal_units.specs.Judged.{Told, Whole, Broken, Met, judged, next_number, then_told, told_from, told_of}
use Rattle.spec_nal_units.proofs.Ends.{decide, known, if_true, if_false, ends_unit-append, unit_end-none}
use Rattle.spec_nal_units.proofs.Ends.{unit_end-append, unit_end-length, parts-past, parts-inside}

-- a unit that is whole is the same however the bytes go on
pub unit_at-whole : (ended : Bool) (bs r : List ℕ) (k : ℕ) → unit_end bs ≡ Some k
    → unit_at ended (bs ++ r) ≡ Raw (take k bs) ∷ []
unit_at-whole ended bs r k h =
    let long = unit_end-length bs k h in
    let lt : k ≤ length bs = omega (arith, long) in
    ap (λ o. unit_to ended (bs ++ r) o) (unit_end-append bs r k h) ∙ ap (λ u. Raw u ∷ []) (take-append-le k bs r lt)

-- a unit that is whole, and then what stands behind it
pub unit-then-rest : (ended : Bool) (bs r : List ℕ) (k : ℕ) → unit_end bs ≡ Some k
    → unit_at ended (bs ++ r) ++ parts ended Inside (bs ++ r)
    ≡ Raw (take k bs) ∷ parts ended (Padding 0) (drop k bs ++ r)
unit-then-rest ended bs r k h =
    let long = unit_end-length bs k h in
    let lt : k ≤ length bs = omega (arith, long) in
    ap (λ u. u ++ parts ended Inside (bs ++ r)) (unit_at-whole ended bs r k h)
    ∙ ap (λ ps. Raw (take k bs) ∷ ps)
    (parts-past ended (bs ++ r) k (unit_end-append bs r k h) ∙ ap (parts ended (Padding 0)) (drop-append-le k bs r lt))

unit_at-go : (ended : Bool) (bs rest : List ℕ) (later : List Part)
    → parts ended Inside (bs ++ rest) ≡ parts false Inside bs ++ later
    → (more : List Part)
    × (unit_at ended (bs ++ rest) ++ parts ended Inside (bs ++ rest)
    ≡ (unit_at false bs ++ parts false Inside bs) ++ more)
unit_at-go ended bs rest later e =
    known (unit_end bs)
    (λ n. let empty : unit_at false bs ++ parts false Inside bs ≡ [] =
    ap (λ o. unit_to false bs o ++ parts false Inside bs) n ∙ parts-inside false bs n in (
      unit_at ended (bs ++ rest) ++ parts ended Inside (bs ++ rest),
      sym (ap (λ ps. ps ++ (unit_at ended (bs ++ rest) ++ parts ended Inside (bs ++ rest))) empty),
    ))
    (λ k s. (
      later,
      ap (λ u. u ++ parts ended Inside (bs ++ rest)) (unit_at-whole ended bs rest k s)
          ∙ ap (λ ps. Raw (take k bs) ∷ ps) e
          ∙ sym (ap (λ o. (unit_to false bs o ++ parts false Inside bs) ++ later) s),
    ))

-- the parts of a front begin those of the whole
parts-go : (ended : Bool) (place : Place) (front rest : List ℕ)
    → (later : List Part) × (parts ended place (front ++ rest) ≡ parts false place front ++ later)
parts-go ended (Padding z) [] rest = (parts ended (Padding z) rest, refl)
parts-go ended Inside [] rest = (parts ended Inside rest, refl)
parts-go ended (Padding z) (b ∷ bs) rest =
    decide (b == 0)
    (λ t. let s = parts-go ended (Padding (min 2 (z + 1))) bs rest in
    (s.0, if_true _ _ _ t ∙ s.1 ∙ sym (ap (λ ps. ps ++ s.0) (if_true _ _ _ t))))
    (λ f. decide ((b == 1) && nat_le 2 z)
    (λ t. let i = parts-go ended Inside bs rest in
    let s = unit_at-go ended bs rest i.0 i.1 in
    (s.0, if_false _ _ _ f ∙ if_true _ _ _ t ∙ s.1 ∙ sym (ap (λ ps. ps ++ s.0) (if_false _ _ _ f ∙ if_true _ _ _ t))))
    (λ g. let s = parts-go ended (Padding 0) bs rest in (
      s.0,
      if_false _ _ _ f ∙ if_false _ _ _ g ∙ ap (λ ps. Stray ∷ ps) s.1
          ∙ sym (ap (λ ps. ps ++ s.0) (if_false _ _ _ f ∙ if_false _ _ _ g)),
    )))
parts-go ended Inside (b ∷ bs) rest =
    decide (nat_lt 2 (length (b ∷ bs)))
    (λ long. let lt : 2 < length (b ∷ bs) = ltb-true _ _ long in
    let same : ends_unit (b ∷ (bs ++ rest)) ≡ ends_unit (b ∷ bs) = ends_unit-append (b ∷ bs) rest lt in
    decide (ends_unit (b ∷ bs))
    (λ t. let s = parts-go ended (Padding 1) bs rest in
    (s.0, if_true _ _ _ (same ∙ t) ∙ s.1 ∙ sym (ap (λ ps. ps ++ s.0) (if_true _ _ _ t))))
    (λ f. let s = parts-go ended Inside bs rest in
    (s.0, if_false _ _ _ (same ∙ f) ∙ s.1 ∙ sym (ap (λ ps. ps ++ s.0) (if_false _ _ _ f)))))
    (λ short. let le : length (b ∷ bs) ≤ 2 = ltb-false _ _ short in
    let none : unit_end (b ∷ bs) ≡ None = unit_end-none (b ∷ bs) (λ j lt. absurd (omega arith)) in (
      parts ended Inside (b ∷ (bs ++ rest)),
      sym (ap (λ ps. ps ++ parts ended Inside (b ∷ (bs ++ rest))) (parts-inside false (b ∷ bs) none)),
    ))

then_told-go : (t : Told) (a b more : List Told) → a ≡ b ++ more
    → (later : List Told) × (then_told t a ≡ then_told t b ++ later)
then_told-go (Whole u) a b more e = (more, ap (λ ts. Whole u ∷ ts) e)
then_told-go (Broken f) a b more e = ([], refl)
then_told-go (Met l) a b more e = ([], refl)

pub told_from-go : (began ended : Bool) (n : ℕ) (ps later : List Part)
    → (more : List Told) × (told_from began ended n (ps ++ later) ≡ told_from began false n ps ++ more)
told_from-go began ended n [] later = (told_from began ended n later, refl)
told_from-go began ended n (Stray ∷ ps) later = ([], refl)
told_from-go began ended n (Raw u ∷ ps) later =
    let s = told_from-go true ended (next_number n) ps later in then_told-go (judged n u) _ _ s.0 s.1

pub told_of-go : (front rest : List ℕ) (ended : Bool)
    → (later : List Told) × (told_of ended (front ++ rest) ≡ told_of false front ++ later)
told_of-go front rest ended =
    let s = parts-go ended (Padding 0) front rest in
    let t = told_from-go false ended 0 (parts false (Padding 0) front) s.0 in
    (t.0, ap (told_from false ended 0) s.1 ∙ t.1)
