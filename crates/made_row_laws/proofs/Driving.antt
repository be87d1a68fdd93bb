-- Words that spell a value drive a tree to it.
use Rattle.std.proofs.Common.{◌≡◌, List, [], ◌∷◌, ◌++◌, Option, Some, refl, sym, ap, subst, ◌∙◌}
use Rattle.spec_formats.specs.Format.{Give, Refuse, One, Then, Spells}
use Rattle.spec_cabac.specs.Bins.{Bin, BinValue, Tree, Decision, Bypass, Terminate, PcmStart, Sample, PcmEnd}
use Rattle.spec_driven_trees.specs.Driven.{Answer, Driven, answered, behind, then_driven, driven}
use Rattle.spec_made.specs.Written.{Bins}
use Rattle.made_row_laws.specs.Answers.{with_answer, answers_of, IsDriven}

-- the answers of words, in front of others
abbrev answers_then : Bins → List Answer → List Answer
answers_then [] left = left
answers_then (w ∷ words) left = with_answer w (answers_then words left)

then-append : (front back : Bins) (left : List Answer)
    → answers_then (front ++ back) left ≡ answers_then front (answers_then back left)
then-append [] back left = refl
then-append (w ∷ front) back left = ap (with_answer w) (then-append front back left)

then_none : (words : Bins) → answers_then words [] ≡ answers_of words
then_none [] = refl
then_none (w ∷ words) = ap (with_answer w) (then_none words)

-- a value, with these words and answers that are left
abbrev to : {X : Type 0} → X → Bins → List Answer → Option (Driven X)
to x words left = Some (record { value = x; words = words; left = left })

one_driven : (bin : Bin) (x : BinValue bin) (left : List Answer)
    → answered bin (with_answer (bin, x) left) ≡ to x ((bin, x) ∷ []) left
unfolding answered
one_driven (Decision i) x left = refl
one_driven Bypass x left = refl
one_driven Terminate x left = refl
one_driven PcmStart x left = refl
one_driven (Sample size) x left = refl
one_driven PcmEnd x left = refl

by_words : {X : Type 0} (format : Tree X) (x : X) (words : Bins) (left : List Answer) → Spells format x words
    → driven format (answers_then words left) ≡ to x words left
by_words (Give y) x words left s =
    subst (λ (w : Bins). driven (Give y) (answers_then w left) ≡ to x w left) (sym s.1)
    (ap (λ v. to v [] left) s.0)
by_words (Refuse e) x words left s = absurd s
by_words (One bin) x words left s =
    subst (λ (w : Bins). driven (One bin) (answers_then w left) ≡ to x w left) (sym s) (one_driven bin x left)
by_words (Then m f) x words left s =
    let first : Bins = s.1 in
    let rest : Bins = s.2 in
    let all : words ≡ first ++ rest = s.5 in
    let one = by_words m s.0 first (answers_then rest left) s.3 in
    let two = by_words (f s.0) x rest left s.4 in
    subst (λ (w : Bins). driven (Then m f) (answers_then w left) ≡ to x w left) (sym all)
    (ap (λ a. then_driven (driven m a) (λ y l. driven (f y) l)) (then-append first rest left)
    ∙ ap (λ d. then_driven d (λ y l. driven (f y) l)) one
    ∙ ap (behind first) two)

pub is_driven : {X : Type 0} (format : Tree X) (x : X) (words : Bins) → Spells format x words
    → IsDriven format x words
is_driven format x words s =
    ap (driven format) (sym (then_none words)) ∙ by_words format x words [] s
