-- Rows of P and B pictures: their bins are the words of their units, one after the other.
use Rattle.std.proofs.Common.{◌≡◌, ℕ, zero, suc, ◌+◌, ◌*◌, ◌%◌, ◌<◌, ◌≤◌, true, false, List, []}
use Rattle.std.proofs.Common.{◌++◌, refl, sym, ap, subst, ◌∙◌, arith, append_assoc, append-nil, inl, inr}
use Rattle.std.proofs.Common.{Option, Some, None}
use Rattle.std.specs.Prelude.{◌==◌}
use Rattle.std.proofs.lemmas.Bool.{cases_eq}
use Rattle.std.proofs.lemmas.Bool.Decides.{nat_tests}
use Rattle.cabac_writer.specs.Coding.{no_bins, AreContexts}
use Rattle.cabac_writer.specs.Pulses.{contexts_behind, ending}
use Rattle.cabac_writer.proofs.ReadBack.{words_small}
use Rattle.spec_made.specs.declared.units.InterUnit.{InterUnit}
use Rattle.spec_made.specs.declared.units.Motion.{Motion}
use Rattle.spec_made.specs.declared.units.Shift.{Shift}
use Rattle.spec_made.specs.Written.{Bins}
use Rattle.spec_made.specs.InterRows.{end_words, words_at, words_from, contexts_at, init_type, contexts_of_motion}
use Rattle.spec_made.specs.InterRows.{inter_row}
use Rattle.made_row_laws.specs.Rows.{HasWords}
use Rattle.made_row_laws.specs.Words.{inter_words, flags_behind, row_words}
use Rattle.made_row_laws.proofs.Contexts.{contexts-append}
use Rattle.made_row_laws.proofs.Inner.{inner_from, first_small}
use Rattle.made_row_laws.proofs.Started.{section_back, words_there}

-- ---- what follows a unit

pub flags_inside : (i : ℕ) → i < 47 → ((i % 8 == 7) ≡ false) → end_words i ≡ flags_behind i
unfolding flags_behind
flags_inside i small inside =
    let other : (i == 47) ≡ false = grind (arith, nat_tests) in rw (other, inside) refl

pub flags_last : (i : ℕ) → i % 8 ≡ 7 → end_words i ++ ending ≡ flags_behind i
unfolding flags_behind
flags_last i last =
    elim (cases_eq i 47) [
      | inl e ↦ rw e refl
      | inr n ↦
          let other : (i == 47) ≡ false = grind (arith, nat_tests) in
          let at : (i % 8 == 7) ≡ true = rw last refl in
          rw (other, at) refl
    ]

-- ---- words

unit_is : (m : Motion) (units : List InterUnit) (i : ℕ) → words_at m units i ≡ inter_words m units i ++ end_words i
unfolding words_at inter_words
unit_is m units i = refl

row_is : (m : Motion) (units : List InterUnit) (n i : ℕ) → i % 8 + suc n ≡ 8 → i + suc n ≤ 48
    → words_from m units i (suc n) ++ ending ≡ row_words (inter_words m units) i (suc n)
unfolding words_from row_words
row_is m units zero i whole inside =
    let u : Bins = inter_words m units i in
    append_assoc (words_at m units i) [] ending
    ∙ ap (λ l. l ++ ending) (unit_is m units i)
    ∙ append_assoc u (end_words i) ending
    ∙ ap (λ l. u ++ l) (flags_last i (omega arith) ∙ sym (append-nil (flags_behind i)))
row_is m units (suc n) i whole inside =
    let u : Bins = inter_words m units i in
    let later : Bins = words_from m units (i + 1) (suc n) in
    let other : (i % 8 == 7) ≡ false = grind (arith, nat_tests) in
    append_assoc (words_at m units i) later ending
    ∙ ap (λ l. l ++ (later ++ ending)) (unit_is m units i)
    ∙ append_assoc u (end_words i) (later ++ ending)
    ∙ ap (λ l. u ++ (l ++ (later ++ ending))) (flags_inside i (omega arith) other)
    ∙ ap (λ l. u ++ (flags_behind i ++ l)) (row_is m units n (i + 1) (omega arith) (omega arith))

-- ---- contexts

type_few : (second : Option Shift) → init_type second < 3
type_few None = omega arith
type_few (Some s) = omega arith

contexts_small : (m : Motion) (units : List InterUnit) (r : ℕ)
    → AreContexts (contexts_at (contexts_of_motion m) m units r)
unfolding contexts_at
contexts_small m units zero = first_small (init_type m.second) (type_few m.second)
contexts_small m units (suc r) =
    words_small (words_from m units (8 * r) 2) (no_bins, contexts_at (contexts_of_motion m) m units r)
    (inner_from m units 2 (8 * r)) (contexts_small m units r)

-- those before a row are those behind the second unit of the row above
pub inter_stored : (m : Motion) (units : List InterUnit) (r : ℕ) (first : List ℕ) → r < 6
    → contexts_at first m units (suc r)
    ≡ contexts_behind (inter_words m units (8 * r + 1) ++ flags_behind (8 * r + 1))
    (contexts_behind (inter_words m units (8 * r) ++ flags_behind (8 * r)) (contexts_at first m units r))
unfolding contexts_at words_from
inter_stored m units r first few =
    let c : List ℕ = contexts_at first m units r in
    let one : (8 * r % 8 == 7) ≡ false = (let z : 8 * r % 8 ≡ 0 = omega arith in rw z refl) in
    let two : ((8 * r + 1) % 8 == 7) ≡ false = (let z : (8 * r + 1) % 8 ≡ 1 = omega arith in rw z refl) in
    let a : words_at m units (8 * r) ≡ inter_words m units (8 * r) ++ flags_behind (8 * r) =
    unit_is m units (8 * r)
    ∙ ap (λ l. inter_words m units (8 * r) ++ l) (flags_inside (8 * r) (omega arith) one) in
    let b : words_at m units (8 * r + 1) ≡ inter_words m units (8 * r + 1) ++ flags_behind (8 * r + 1) =
    unit_is m units (8 * r + 1)
    ∙ ap (λ l. inter_words m units (8 * r + 1) ++ l) (flags_inside (8 * r + 1) (omega arith) two) in
    contexts-append (words_at m units (8 * r)) (words_at m units (8 * r + 1) ++ []) c
    ∙ ap (λ l. contexts_behind l (contexts_behind (words_at m units (8 * r)) c))
    (append-nil (words_at m units (8 * r + 1)))
    ∙ ap (λ l. contexts_behind l (contexts_behind (words_at m units (8 * r)) c)) b
    ∙ ap (λ l. contexts_behind (inter_words m units (8 * r + 1) ++ flags_behind (8 * r + 1)) (contexts_behind l c)) a

pub inter_has : (m : Motion) (units : List InterUnit) (r : ℕ) → r < 6
    → HasWords (inter_row m units r) (row_words (inter_words m units) (8 * r) 8)
    (contexts_at (contexts_of_motion m) m units r)
unfolding inter_row
inter_has m units r few =
    let bins : Bins = words_from m units (8 * r) 8 in
    let contexts : List ℕ = contexts_at (contexts_of_motion m) m units r in
    subst (λ (w : Bins). HasWords (inter_row m units r) w contexts)
    (row_is m units 7 (8 * r) (omega arith) (omega arith))
    (words_there (inter_row m units r) bins [] contexts (inner_from m units 8 (8 * r)) (contexts_small m units r)
    (section_back bins contexts))
