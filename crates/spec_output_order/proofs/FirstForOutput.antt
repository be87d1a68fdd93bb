-- Bumping: the picture that goes out is first for output, and in the end the buffer has room or no picture waits.
use Rattle.std.proofs.Common.{◌≡◌, ℕ, zero, suc, ◌≤◌, ◌⊎◌, inl, inr, ◌≤ℤ◌, Bool, true, false, ◌&&◌, cond, List, []}
use Rattle.std.proofs.Common.{◌∷◌}
use Rattle.std.proofs.Common.{length, Option, Some, None, if◌then◌else◌, int_le, arith, refl, subst}
use Rattle.std.specs.List.{count_by}
use Rattle.std.proofs.lemmas.Bool.{and_parts, and_cases, cases_Bool, true≢false}
use Rattle.std.proofs.lemmas.Int.{ints}
use Rattle.std.proofs.lemmas.List.Elements.{All-nil, All-cons}
use Rattle.std.proofs.lemmas.List.Sums.{count_by-le-length}
use Rattle.header_types.specs.declared.reference_pictures.DpbPicture.{DpbPicture}
use Rattle.spec_reference_pictures.specs.ReferencePictureSet.{no_picture}
use Rattle.spec_output_order.specs.declared.next_output.NextOutput.{NextOutput}
use Rattle.spec_output_order.specs.OutputOrder.{NoneNeededForOutput, bumped, bumped_at_most, is_needed_for_output}
use Rattle.spec_output_order.specs.OutputOrder.{needs_bumping, next_from, next_output, none_out, not_needed_at}
use Rattle.spec_output_order.specs.OutputOrder.{sooner}
use Rattle.spec_output_order.specs.Waiting.{IsBumping, IsFirstForOutput, Waits, picture_at}
use Rattle.spec_output_order.proofs.Counts.{count-cons, lowers, none_of}

abbrev IsQuiet : DpbPicture → Type 0
IsQuiet p = p.needed_for_output ≡ false

-- where no picture is next, none waits
pub none_needed_next : (pictures : List DpbPicture) → next_output pictures ≡ None → NoneNeededForOutput pictures
none_needed_next [] e = All-nil IsQuiet
none_needed_next (p ∷ pictures) e =
    let is = none_of p (next_output pictures) e in
    All-cons IsQuiet p pictures is.0 (none_needed_next pictures is.1)

none_waits : (pictures : List DpbPicture) → NoneNeededForOutput pictures → (k : ℕ) → Waits pictures k → ⊥
none_waits pictures none k w = true≢false (let quiet = none k no_picture w.inside in cc)

waits_later : (p : DpbPicture) (pictures : List DpbPicture) (k : ℕ) → Waits (p ∷ pictures) (suc k) → Waits pictures k
waits_later p pictures k w = record { inside = let i = w.inside in omega arith; needed = w.needed }

waits_behind : (p : DpbPicture) (pictures : List DpbPicture) (k : ℕ) → Waits pictures k → Waits (p ∷ pictures) (suc k)
waits_behind p pictures k w = record { inside = let i = w.inside in omega arith; needed = w.needed }

-- the picture that goes out next is first for output, and this is its order count
pub record IsNext (pictures : List DpbPicture) (n : NextOutput) : Type 0 where
  pub first : IsFirstForOutput pictures n.place
  pub poc : n.poc ≡ (picture_at pictures n.place).poc

-- ---- the first picture is first for output

alone_least : (p : DpbPicture) (pictures : List DpbPicture) → NoneNeededForOutput pictures
    → (other : ℕ) → Waits (p ∷ pictures) other → p.poc ≤ℤ (picture_at (p ∷ pictures) other).poc
alone_least p pictures none zero w = omega (arith, ints)
alone_least p pictures none (suc k) w = absurd (none_waits pictures none k (waits_later p pictures k w))

alone : (p : DpbPicture) (pictures : List DpbPicture) → p.needed_for_output ≡ true → NoneNeededForOutput pictures
    → IsNext (p ∷ pictures) (record { place = 0; poc = p.poc })
alone p pictures needed none = record {
  first = record {
    waits = record { inside = omega arith; needed = needed };
    least = alone_least p pictures none;
    first = λ other w e. omega arith;
  };
  poc = refl;
}

before_least : (p : DpbPicture) (pictures : List DpbPicture) (n : NextOutput) → IsNext pictures n → p.poc ≤ℤ n.poc
    → (other : ℕ) → Waits (p ∷ pictures) other → p.poc ≤ℤ (picture_at (p ∷ pictures) other).poc
before_least p pictures n is le zero w = omega (arith, ints)
before_least p pictures n is le (suc k) w =
    let later = is.first.least k (waits_later p pictures k w) in
    let same = is.poc in
    omega (arith, ints, later, same, le)

before : (p : DpbPicture) (pictures : List DpbPicture) (n : NextOutput) → IsNext pictures n → p.needed_for_output ≡ true
    → p.poc ≤ℤ n.poc
    → IsNext (p ∷ pictures) (record { place = 0; poc = p.poc })
before p pictures n is needed le = record {
  first = record {
    waits = record { inside = omega arith; needed = needed };
    least = before_least p pictures n is le;
    first = λ other w e. omega arith;
  };
  poc = refl;
}

-- ---- a later picture is first for output

not_sooner : (p : DpbPicture) (n : NextOutput) → (p.needed_for_output && int_le p.poc n.poc) ≡ false
    → p.needed_for_output ≡ true → int_le p.poc n.poc ≡ false
not_sooner p n later needed = elim (and_cases p.needed_for_output (int_le p.poc n.poc) later) [
  | inl is ↦ absurd (true≢false cc)
  | inr is ↦ is
]

behind_least : (p : DpbPicture) (pictures : List DpbPicture) (n : NextOutput) → IsNext pictures n
    → (p.needed_for_output && int_le p.poc n.poc) ≡ false
    → (other : ℕ) → Waits (p ∷ pictures) other
    → (picture_at pictures n.place).poc ≤ℤ (picture_at (p ∷ pictures) other).poc
behind_least p pictures n is later zero w =
    let more : int_le p.poc n.poc ≡ false = not_sooner p n later w.needed in
    let same = is.poc in
    grind (arith, ints)
behind_least p pictures n is later (suc k) w = is.first.least k (waits_later p pictures k w)

behind_first : (p : DpbPicture) (pictures : List DpbPicture) (n : NextOutput) → IsNext pictures n
    → (p.needed_for_output && int_le p.poc n.poc) ≡ false
    → (other : ℕ) → Waits (p ∷ pictures) other
    → (picture_at (p ∷ pictures) other).poc ≡ (picture_at pictures n.place).poc → suc n.place ≤ other
behind_first p pictures n is later zero w e =
    let more : int_le p.poc n.poc ≡ false = not_sooner p n later w.needed in
    let same = is.poc in
    absurd (grind (arith, ints))
behind_first p pictures n is later (suc k) w e =
    let rest = is.first.first k (waits_later p pictures k w) e in
    omega (arith, rest)

behind : (p : DpbPicture) (pictures : List DpbPicture) (n : NextOutput) → IsNext pictures n
    → (p.needed_for_output && int_le p.poc n.poc) ≡ false
    → IsNext (p ∷ pictures) (record { place = suc n.place; poc = n.poc })
behind p pictures n is later = record {
  first = record {
    waits = waits_behind p pictures n.place is.first.waits;
    least = behind_least p pictures n is later;
    first = behind_first p pictures n is later;
  };
  poc = is.poc;
}

-- ---- the next picture

chosen : (b : Bool) (x y w : NextOutput) → (if b then Some x else Some y) ≡ Some w
    → ((b ≡ true) × (x ≡ w)) ⊎ ((b ≡ false) × (y ≡ w))
chosen true x y w e = inl (refl, cc)
chosen false x y w e = inr (refl, cc)

only : (b : Bool) (x w : NextOutput) → (if b then Some x else None) ≡ Some w → (b ≡ true) × (x ≡ w)
only true x w e = (refl, cc)
only false x w e = let no : ◌≡◌ {A = Option NextOutput} None (Some w) = e in absurd cc

is_next_by : (p : DpbPicture) (pictures : List DpbPicture) (next : Option NextOutput) → next_output pictures ≡ next
    → ((v : NextOutput) → next ≡ Some v → IsNext pictures v) → (w : NextOutput) → sooner p next ≡ Some w
    → IsNext (p ∷ pictures) w
is_next_by p pictures None is rest w e =
    let one = only p.needed_for_output (record { place = 0; poc = p.poc }) w e in
    subst (IsNext (p ∷ pictures)) one.1 (alone p pictures one.0 (none_needed_next pictures is))
is_next_by p pictures (Some v) is rest w e =
    elim (chosen (p.needed_for_output && int_le p.poc v.poc) (record { place = 0; poc = p.poc })
    (record { place = suc v.place; poc = v.poc }) w e) [
      | inl one ↦ let both = and_parts p.needed_for_output (int_le p.poc v.poc) one.0 in
          let le : p.poc ≤ℤ v.poc = grind (arith, ints, both.1) in
          subst (IsNext (p ∷ pictures)) one.1 (before p pictures v (rest v refl) both.0 le)
      | inr one ↦ subst (IsNext (p ∷ pictures)) one.1 (behind p pictures v (rest v refl) one.0)
    ]

pub is_next : (pictures : List DpbPicture) (n : NextOutput) → next_output pictures ≡ Some n → IsNext pictures n
is_next [] n e = absurd cc
is_next (p ∷ pictures) n e = is_next_by p pictures (next_output pictures) refl (is_next pictures) n e

-- ---- bumping

pub none_by_count : (pictures : List DpbPicture) → count_by is_needed_for_output pictures ≤ 0
    → NoneNeededForOutput pictures
none_by_count [] few = All-nil IsQuiet
none_by_count (p ∷ pictures) few =
    let all = count-cons is_needed_for_output p pictures in
    elim (cases_Bool p.needed_for_output) [
      | inl is ↦
          let one : ◌≡◌ {A = ℕ} (cond p.needed_for_output 1 0) 1 = rw is refl in
          absurd (omega (arith, all, one, few))
      | inr is ↦ All-cons IsQuiet p pictures is (none_by_count pictures (omega (arith, all, few)))
    ]

bumps_by : (reorder : ℕ) (size : Option ℕ) (n : ℕ) (pictures : List DpbPicture)
    → count_by is_needed_for_output pictures ≤ suc n
    → ((left : List DpbPicture) → count_by is_needed_for_output left ≤ n
    → IsBumping reorder size left (bumped_at_most reorder size n left).out (bumped_at_most reorder size n left).left)
    → (needs : Bool) → needs_bumping reorder size pictures ≡ needs
    → (next : Option NextOutput) → next_output pictures ≡ next
    → IsBumping reorder size pictures
    (if needs then next_from pictures next (bumped_at_most reorder size n) else none_out pictures).out
    (if needs then next_from pictures next (bumped_at_most reorder size n) else none_out pictures).left
bumps_by reorder size n pictures few rest false e next is = (refl, inl e)
bumps_by reorder size n pictures few rest true e None is = (refl, inr (none_needed_next pictures is))
bumps_by reorder size n pictures few rest true e (Some w) is =
    let less = lowers pictures w is in
    (e, (is_next pictures w is).first, rest (not_needed_at pictures w.place) (omega (arith, less, few)))

at_most_bumps : (reorder : ℕ) (size : Option ℕ) (n : ℕ) (pictures : List DpbPicture)
    → count_by is_needed_for_output pictures ≤ n
    → IsBumping reorder size pictures (bumped_at_most reorder size n pictures).out
    (bumped_at_most reorder size n pictures).left
at_most_bumps reorder size zero pictures few = (refl, inr (none_by_count pictures few))
at_most_bumps reorder size (suc n) pictures few =
    bumps_by reorder size n pictures few (at_most_bumps reorder size n) (needs_bumping reorder size pictures) refl
    (next_output pictures) refl

pub bumps : (reorder : ℕ) (size : Option ℕ) (pictures : List DpbPicture)
    → IsBumping reorder size pictures (bumped reorder size pictures).out (bumped reorder size pictures).left
unfolding bumped
bumps reorder size pictures =
    at_most_bumps reorder size (length pictures) pictures (count_by-le-length is_needed_for_output pictures)
