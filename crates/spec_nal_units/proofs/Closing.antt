-- What is told of a front that ends is told of it as soon as a start code stands behind it.
use Rattle.std.proofs.Common.{◌≡◌, ℕ, ◌+◌, ◌<◌, ◌≤◌, true, false, List, [], ◌∷◌, ◌++◌, length, take, Some, None, refl}
use Rattle.std.proofs.Common.{sym, ap, ◌∙◌, arith, append_assoc}
use Rattle.std.specs.Prelude.{◌&&◌, ◌==◌, min, replicate, nat_lt, nat_le}
use lib.Seq.{take-append_seam}
use borrow.Author.Tests.{ltb-true, ltb-false}
use Rattle.hv_base.specs.declared.fault.FaultKind.TheVariants.{NoNal}
use Rattle.spec_nal_units.specs.Units.{ends_unit, unit_end, trimmed, Part, Raw, Stray, unit_to, unit_at, Place}
use Rattle.spec_nal_units.specs.Units.{Padding}
use Rattle.spec_nal_units.specs.Units.{Inside, parts}
use Rattle.spec_nal_units.specs.Judged.{broken, judged, next_number, then_told, told_from}
use Rattle.spec_nal_units.specs.Closed.{HasNoUnit, StaysWhenClosed}
use Rattle.spec_nal_units.proofs.Ends.{decide, known, if_true, if_false, ends_unit-append, unit_end-none}
use Rattle.spec_nal_units.proofs.Ends.{parts-inside}
use Rattle.spec_nal_units.proofs.Going.{unit_at-whole, told_from-go}
use Rattle.spec_nal_units.proofs.Streams.{trimmed-split, unit-none, unit_end-start, unit_end-past}

-- a unit that the front's end would end, ended by a start code
unit_at-closed : (bs rest : List ℕ) → unit_end bs ≡ None
    → unit_at false (bs ++ 0 ∷ 0 ∷ 1 ∷ rest) ≡ Raw (trimmed bs) ∷ []
unit_at-closed bs rest n =
    let s = trimmed-split bs in
    let behind : List ℕ = replicate s.0 0 ++ 0 ∷ 0 ∷ 1 ∷ rest in
    let split : bs ++ 0 ∷ 0 ∷ 1 ∷ rest ≡ trimmed bs ++ behind =
    ap (λ xs. xs ++ 0 ∷ 0 ∷ 1 ∷ rest) s.1 ∙ append_assoc (trimmed bs) (replicate s.0 0) (0 ∷ 0 ∷ 1 ∷ rest) in
    let end : unit_end (trimmed bs ++ behind) ≡ Some (length (trimmed bs)) =
    unit_end-past (trimmed bs) behind (unit-none bs n) (unit_end-start s.0 rest) in
    ap (unit_at false) split
    ∙ ap (unit_to false (trimmed bs ++ behind)) end
    ∙ ap (λ xs. Raw xs ∷ []) (take-append_seam (trimmed bs) behind)

unit_at-close : (bs rest : List ℕ) (later : List Part)
    → parts false Inside (bs ++ 0 ∷ 0 ∷ 1 ∷ rest) ≡ parts true Inside bs ++ later
    → (more : List Part)
    × (unit_at false (bs ++ 0 ∷ 0 ∷ 1 ∷ rest) ++ parts false Inside (bs ++ 0 ∷ 0 ∷ 1 ∷ rest)
    ≡ (unit_at true bs ++ parts true Inside bs) ++ more)
unit_at-close bs rest later e =
    let whole : List ℕ = bs ++ 0 ∷ 0 ∷ 1 ∷ rest in
    known (unit_end bs)
    (λ n. (
      parts false Inside whole,
      ap (λ u. u ++ parts false Inside whole) (unit_at-closed bs rest n)
          ∙ sym (ap (λ o. (unit_to true bs o ++ parts true Inside bs) ++ parts false Inside whole) n
          ∙ ap (λ ps. (Raw (trimmed bs) ∷ ps) ++ parts false Inside whole) (parts-inside true bs n)),
    ))
    (λ k s. (
      later,
      ap (λ u. u ++ parts false Inside whole) (unit_at-whole false bs (0 ∷ 0 ∷ 1 ∷ rest) k s)
          ∙ ap (λ ps. Raw (take k bs) ∷ ps) e
          ∙ sym (ap (λ o. (unit_to true bs o ++ parts true Inside bs) ++ later) s),
    ))

parts-close : (place : Place) (front rest : List ℕ)
    → (later : List Part) × (parts false place (front ++ 0 ∷ 0 ∷ 1 ∷ rest) ≡ parts true place front ++ later)
parts-close (Padding z) [] rest = (parts false (Padding z) (0 ∷ 0 ∷ 1 ∷ rest), refl)
parts-close Inside [] rest = (parts false Inside (0 ∷ 0 ∷ 1 ∷ rest), refl)
parts-close (Padding z) (b ∷ bs) rest =
    decide (b == 0)
    (λ t. let s = parts-close (Padding (min 2 (z + 1))) bs rest in
    (s.0, if_true _ _ _ t ∙ s.1 ∙ sym (ap (λ ps. ps ++ s.0) (if_true _ _ _ t))))
    (λ f. decide ((b == 1) && nat_le 2 z)
    (λ t. let i = parts-close Inside bs rest in
    let s = unit_at-close bs rest i.0 i.1 in
    (s.0, if_false _ _ _ f ∙ if_true _ _ _ t ∙ s.1 ∙ sym (ap (λ ps. ps ++ s.0) (if_false _ _ _ f ∙ if_true _ _ _ t))))
    (λ g. let s = parts-close (Padding 0) bs rest in (
      s.0,
      if_false _ _ _ f ∙ if_false _ _ _ g ∙ ap (λ ps. Stray ∷ ps) s.1
          ∙ sym (ap (λ ps. ps ++ s.0) (if_false _ _ _ f ∙ if_false _ _ _ g)),
    )))
parts-close Inside (b ∷ bs) rest =
    let whole : List ℕ = bs ++ 0 ∷ 0 ∷ 1 ∷ rest in
    decide (nat_lt 2 (length (b ∷ bs)))
    (λ long. let lt : 2 < length (b ∷ bs) = ltb-true _ _ long in
    let same : ends_unit (b ∷ whole) ≡ ends_unit (b ∷ bs) = ends_unit-append (b ∷ bs) (0 ∷ 0 ∷ 1 ∷ rest) lt in
    decide (ends_unit (b ∷ bs))
    (λ t. let s = parts-close (Padding 1) bs rest in
    (s.0, if_true _ _ _ (same ∙ t) ∙ s.1 ∙ sym (ap (λ ps. ps ++ s.0) (if_true _ _ _ t))))
    (λ f. let s = parts-close Inside bs rest in
    (s.0, if_false _ _ _ (same ∙ f) ∙ s.1 ∙ sym (ap (λ ps. ps ++ s.0) (if_false _ _ _ f)))))
    (λ short. let le : length (b ∷ bs) ≤ 2 = ltb-false _ _ short in
    let none : unit_end (b ∷ bs) ≡ None = unit_end-none (b ∷ bs) (λ j lt. absurd (omega arith)) in
    let later : List Part = parts false Inside (b ∷ whole) in
    (later, sym (ap (λ ps. ps ++ later) (parts-inside true (b ∷ bs) none))))

-- once a unit has begun, an end adds no fault
told_from-began : (n : ℕ) (ps : List Part) → told_from true true n ps ≡ told_from true false n ps
told_from-began n [] = refl
told_from-began n (Stray ∷ ps) = refl
told_from-began n (Raw u ∷ ps) = ap (then_told (judged n u)) (told_from-began (next_number n) ps)

told_from-ended : (ps : List Part) → ¬ (told_from false true 0 ps ≡ broken NoNal 0 ∷ [])
    → told_from false true 0 ps ≡ told_from false false 0 ps
told_from-ended [] h = absurd (h refl)
told_from-ended (Stray ∷ ps) h = refl
told_from-ended (Raw u ∷ ps) h = ap (then_told (judged 0 u)) (told_from-began (next_number 0) ps)

pub told_of-closed : (front rest : List ℕ) → ¬ HasNoUnit front → StaysWhenClosed front rest
told_of-closed front rest h =
    let s = parts-close (Padding 0) front rest in
    let t = told_from-go false false 0 (parts true (Padding 0) front) s.0 in
    let same = told_from-ended (parts true (Padding 0) front) h in
    (t.0, ap (told_from false false 0) s.1 ∙ t.1 ∙ sym (ap (λ ts. ts ++ t.0) same))
