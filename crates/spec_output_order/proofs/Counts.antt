-- How many pictures of a buffer are needed for output, and how many are marked as reference.
use Rattle.std.proofs.Common.{ℕ, zero, suc, ◌+◌, ◌≤◌, ◌≡◌, ◌⊎◌, inl, inr, Bool, true, false, ◌&&◌, ◌||◌, cond}
use Rattle.std.proofs.Common.{if◌then◌else◌, List, [], ◌∷◌, Option, Some, None, int_le, arith, refl, subst}
use Rattle.std.specs.List.{count_by}
use Rattle.std.proofs.lemmas.Bool.{and_parts, cases_Bool}
use Rattle.std.proofs.lemmas.List.Sums.{sum_by-cons, sum_by_push}
use Rattle.header_types.specs.declared.reference_pictures.DpbPicture.{DpbPicture}
use Rattle.header_types.specs.declared.reference_pictures.Mark.{Mark}
use Rattle.header_types.specs.declared.reference_pictures.Mark.TheVariants as mark
use Rattle.spec_reference_pictures.specs.ReferencePictureSet.{is_reference}
use Rattle.spec_output_order.specs.declared.current_picture.CurrentPicture.{CurrentPicture}
use Rattle.spec_output_order.specs.declared.next_output.NextOutput.{NextOutput}
use Rattle.spec_output_order.specs.OutputOrder.{all_marked, discarded, entered, not_needed, is_kept, marked}
use Rattle.spec_output_order.specs.OutputOrder.{next_output, not_needed_at, sooner, is_needed_for_output}

abbrev pub is_marked : DpbPicture → Bool
is_marked p = is_reference p.mark

pub count-cons : {A : Type 0} (p : A → Bool) (x : A) (xs : List A)
    → count_by p (x ∷ xs) ≡ cond (p x) 1 0 + count_by p xs
count-cons p x xs = sum_by-cons (λ y. cond (p y) 1 0) x xs

one_of_two : (a b : Bool) → cond (a || b) 1 0 ≤ cond a 1 0 + cond b 1 0
one_of_two true b = omega arith
one_of_two false b = omega arith

-- a picture that is kept is needed for output or is marked
pub kept_either : (pictures : List DpbPicture)
    → count_by is_kept pictures ≤ count_by is_needed_for_output pictures + count_by is_marked pictures
kept_either [] = omega arith
kept_either (p ∷ pictures) =
    let all = count-cons is_kept p pictures in
    let needed = count-cons is_needed_for_output p pictures in
    let marks = count-cons is_marked p pictures in
    let here = one_of_two p.needed_for_output (is_reference p.mark) in
    let rest = kept_either pictures in
    omega (arith, all, needed, marks, here, rest)

-- as many pictures as marks say are marked, at most
pub few_marked : (pictures : List DpbPicture) (marks : List Mark)
    → count_by is_marked (all_marked pictures marks) ≤ count_by is_reference marks
few_marked [] marks = omega arith
few_marked (p ∷ pictures) [] =
    let one = count-cons is_marked (marked p mark.Unused) (all_marked pictures []) in
    let rest = few_marked pictures [] in
    omega (arith, one, rest)
few_marked (p ∷ pictures) (m ∷ marks) =
    let one = count-cons is_marked (marked p m) (all_marked pictures marks) in
    let same = count-cons is_reference m marks in
    let rest = few_marked pictures marks in
    omega (arith, one, same, rest)

-- marks stay where a picture goes out
pub not_needed_marks : (pictures : List DpbPicture) (place : ℕ)
    → count_by is_marked (not_needed_at pictures place) ≡ count_by is_marked pictures
not_needed_marks [] place = refl
not_needed_marks (p ∷ pictures) zero = refl
not_needed_marks (p ∷ pictures) (suc place) =
    let one = count-cons is_marked p (not_needed_at pictures place) in
    let same = count-cons is_marked p pictures in
    let rest = not_needed_marks pictures place in
    omega (arith, one, same, rest)

pub discarded_marks : (pictures : List DpbPicture)
    → count_by is_marked (discarded pictures) ≡ count_by is_marked pictures
discarded_marks [] = refl
discarded_marks (p ∷ pictures) =
    let one = count-cons is_marked (not_needed p) (discarded pictures) in
    let same = count-cons is_marked p pictures in
    let rest = discarded_marks pictures in
    omega (arith, one, same, rest)

-- the current picture is marked
pub entered_marks : (current : CurrentPicture) (pictures : List DpbPicture)
    → count_by is_marked (entered current pictures) ≡ count_by is_marked pictures + 1
entered_marks current pictures = sum_by_push (λ p. cond (is_marked p) 1 0) pictures _

-- where the next picture to go out stands
chosen : (b : Bool) (x y w : NextOutput) → (if b then Some x else Some y) ≡ Some w → ((b ≡ true) × (x ≡ w)) ⊎ (y ≡ w)
chosen true x y w e = inl (refl, cc)
chosen false x y w e = inr cc

only : (b : Bool) (x w : NextOutput) → (if b then Some x else None) ≡ Some w → (b ≡ true) × (x ≡ w)
only true x w e = (refl, cc)
only false x w e = let no : ◌≡◌ {A = Option NextOutput} None (Some w) = e in absurd cc

-- one picture less is needed for output where the picture at a place goes out
abbrev Lowers : List DpbPicture → ℕ → Type 0
Lowers pictures place =
    count_by is_needed_for_output (not_needed_at pictures place) + 1 ≡ count_by is_needed_for_output pictures

lowers_first : (p : DpbPicture) (pictures : List DpbPicture) → p.needed_for_output ≡ true → Lowers (p ∷ pictures) 0
lowers_first p pictures is =
    let less = count-cons is_needed_for_output (not_needed p) pictures in
    let all = count-cons is_needed_for_output p pictures in
    let one : ◌≡◌ {A = ℕ} (cond p.needed_for_output 1 0) 1 = rw is refl in
    omega (arith, less, all, one)

lowers_later : (p : DpbPicture) (pictures : List DpbPicture) (place : ℕ) → Lowers pictures place
    → Lowers (p ∷ pictures) (suc place)
lowers_later p pictures place rest =
    let less = count-cons is_needed_for_output p (not_needed_at pictures place) in
    let all = count-cons is_needed_for_output p pictures in
    omega (arith, less, all, rest)

lowers_by : (p : DpbPicture) (pictures : List DpbPicture) (next : Option NextOutput)
    → ((v : NextOutput) → next ≡ Some v → Lowers pictures v.place)
    → (w : NextOutput) → sooner p next ≡ Some w → Lowers (p ∷ pictures) w.place
lowers_by p pictures None rest w e =
    let is = only p.needed_for_output (record { place = 0; poc = p.poc }) w e in
    subst (λ (v : NextOutput). Lowers (p ∷ pictures) v.place) is.1 (lowers_first p pictures is.0)
lowers_by p pictures (Some v) rest w e = elim (chosen (p.needed_for_output && int_le p.poc v.poc)
    (record { place = 0; poc = p.poc }) (record { place = suc v.place; poc = v.poc }) w e) [
      | inl is ↦
          subst (λ (v : NextOutput). Lowers (p ∷ pictures) v.place) is.1
          (lowers_first p pictures (and_parts p.needed_for_output (int_le p.poc v.poc) is.0).0)
      | inr is ↦
          subst (λ (v : NextOutput). Lowers (p ∷ pictures) v.place) is (lowers_later p pictures v.place (rest v refl))
    ]

pub lowers : (pictures : List DpbPicture) (w : NextOutput) → next_output pictures ≡ Some w
    → count_by is_needed_for_output (not_needed_at pictures w.place) + 1 ≡ count_by is_needed_for_output pictures
lowers [] w e = absurd cc
lowers (p ∷ pictures) w e = lowers_by p pictures (next_output pictures) (lowers pictures) w e

-- where no picture is next, none is needed for output
pub none_of : (p : DpbPicture) (next : Option NextOutput) → sooner p next ≡ None
    → (p.needed_for_output ≡ false) × (next ≡ None)
none_of p None e = elim (cases_Bool p.needed_for_output) [
  | inl is ↦ let no = rw is at e in absurd cc
  | inr is ↦ (is, refl)
]
none_of p (Some v) e = elim (cases_Bool (p.needed_for_output && int_le p.poc v.poc)) [
  | inl is ↦ let no = rw is at e in absurd cc
  | inr is ↦ let no = rw is at e in absurd cc
]

pub none_needed : (pictures : List DpbPicture) → next_output pictures ≡ None
    → count_by is_needed_for_output pictures ≡ 0
none_needed [] e = refl
none_needed (p ∷ pictures) e =
    let is = none_of p (next_output pictures) e in
    let all = count-cons is_needed_for_output p pictures in
    let no : ◌≡◌ {A = ℕ} (cond p.needed_for_output 1 0) 0 = rw is.0 refl in
    let rest = none_needed pictures is.1 in
    omega (arith, all, no, rest)
