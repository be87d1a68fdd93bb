-- Places and units that are laid one after the other.
use Rattle.std.proofs.Common.{◌≡◌, ℕ, ◌+◌, ◌-◌, ◌*◌, ◌/◌, ◌<◌, ◌≤◌, ◌==◌, ◌&&◌, ◌||◌, Bool, true, false, nat_le}
use Rattle.std.proofs.Common.{nat_lt}
use Rattle.std.proofs.Common.{inl, inr, refl, sym, ap, subst, ◌∙◌, arith, if◌then◌else◌}
use Rattle.std.proofs.Common.{lt-ltb}
use Rattle.std.proofs.lemmas.Bool.{and_from, and_parts, cases_lt, le-leb, le-ltb, leb-true, lt-leb, ltb-true}
use Rattle.std.proofs.lemmas.Bool.Decides.{nat_tests}
use Rattle.spec_deblocking.specs.declared.place.Place.{Place}
use Rattle.spec_sample_adaptive_offset.specs.declared.unit.OffsetUnit.{OffsetUnit}
use Rattle.row_filters.specs.Around.{Around, place_in, unit_in}
use Rattle.filter_words.specs.Regions.{LaysPlaces, LaysUnits, is_from_to, is_inside}

-- tests of a range that is cut in two
cut : (first middle end n : ℕ) → first ≤ middle → middle ≤ end
    → is_from_to first end n ≡ (is_from_to first middle n || is_from_to middle end n)
cut first middle end n low high = elim (cases_lt n middle) [
  | inl less ↦
      let a : nat_lt n end ≡ true = lt-ltb _ _ (omega (arith, less, high)) in
      let b : nat_lt n middle ≡ true = lt-ltb _ _ less in
      let c : nat_le middle n ≡ false = lt-leb _ _ less in
      rw (a, b, c) (left_of (nat_le first n))
  | inr past ↦
      let a : nat_le first n ≡ true = le-leb _ _ (omega (arith, past, low)) in
      let b : nat_lt n middle ≡ false = le-ltb _ _ past in
      let c : nat_le middle n ≡ true = le-leb _ _ past in
      rw (a, b, c) refl
]
  where
    left_of : (t : Bool) → (t && true) ≡ ((t && true) || (false && true))
    left_of true = refl
    left_of false = refl

across_or : (a b c : Bool) → (c && (a || b)) ≡ ((c && a) || (c && b))
across_or a b true = refl
across_or a b false = refl

down_or : (a b c : Bool) → ((a || b) && c) ≡ ((a && c) || (b && c))
down_or true true true = refl
down_or true true false = refl
down_or true false true = refl
down_or true false false = refl
down_or false true true = refl
down_or false true false = refl
down_or false false true = refl
down_or false false false = refl

pub more_rows : (left right top middle bottom x y : ℕ) → top ≤ middle → middle ≤ bottom
    → is_inside left right top bottom x y
    ≡ (is_inside left right top middle x y || is_inside left right middle bottom x y)
more_rows left right top middle bottom x y low high =
    ap (λ t. is_from_to left right x && t) (cut top middle bottom y low high)
    ∙ across_or (is_from_to top middle y) (is_from_to middle bottom y) (is_from_to left right x)

pub more_columns : (left middle right top bottom x y : ℕ) → left ≤ middle → middle ≤ right
    → is_inside left right top bottom x y
    ≡ (is_inside left middle top bottom x y || is_inside middle right top bottom x y)
more_columns left middle right top bottom x y low high =
    ap (λ t. t && is_from_to top bottom y) (cut left middle right x low high)
    ∙ down_or (is_from_to left middle x) (is_from_to middle right x) (is_from_to top bottom y)

-- what is laid twice
twice : {X : Type 0} (a b : Bool) (known old : X)
    → (if b then known else (if a then known else old)) ≡ (if a || b then known else old)
twice true true known old = refl
twice true false known old = refl
twice false true known old = refl
twice false false known old = refl

behind : {X : Type 0} (a b c : Bool) (known old middle new : X) → new ≡ (if b then known else middle)
    → middle ≡ (if a then known else old) → c ≡ (a || b) → new ≡ (if c then known else old)
behind {X = X} a b c known old middle new second first both =
    second ∙ ap (λ (m : X). if b then known else m) first ∙ twice a b known old
    ∙ ap (λ t. if t then known else old) (sym both)

pub lays_more : (first second both : ℕ → ℕ → Bool) (known : ℕ → ℕ → Place) (old middle new : Around)
    → ((x y : ℕ) → both x y ≡ (first x y || second x y)) → LaysPlaces first known old middle
    → LaysPlaces second known middle new → LaysPlaces both known old new
lays_more first second both known old middle new cover a b = record {
  format = b.format ∙ a.format;
  above = b.above ∙ a.above;
  places = λ x y.
      behind (first x y) (second x y) (both x y) (known x y) (place_in old x y) (place_in middle x y)
      (place_in new x y) (b.places x y) (a.places x y) (cover x y);
  units = λ c column row. b.units c column row ∙ a.units c column row;
}

pub lays_more_units : (first second both : ℕ → ℕ → Bool) (known : ℕ → ℕ → ℕ → OffsetUnit) (old middle new : Around)
    → ((x y : ℕ) → both x y ≡ (first x y || second x y)) → LaysUnits first known old middle
    → LaysUnits second known middle new → LaysUnits both known old new
lays_more_units first second both known old middle new cover a b = record {
  format = b.format ∙ a.format;
  above = b.above ∙ a.above;
  units = λ c column row few low high.
      behind (first column row) (second column row) (both column row) (known c column row) (unit_in old c column row)
      (unit_in middle c column row) (unit_in new c column row)
      (b.units c column row few (omega (arith, low, a.above)) (omega (arith, high, a.above)))
      (a.units c column row few low high) (cover column row);
  places = λ x y. b.places x y ∙ a.places x y;
}

-- where nothing is laid
nothing : {X : Type 0} (b : Bool) (known old : X) → b ≡ false → old ≡ (if b then known else old)
nothing true known old none = absurd cc
nothing false known old none = refl

pub lays_none : (here : ℕ → ℕ → Bool) (known : ℕ → ℕ → Place) (around : Around)
    → ((x y : ℕ) → here x y ≡ false) → LaysPlaces here known around around
lays_none here known around none = record {
  format = refl;
  above = refl;
  places = λ x y. nothing (here x y) (known x y) (place_in around x y) (none x y);
  units = λ c column row. refl;
}

pub lays_no_units : (here : ℕ → ℕ → Bool) (known : ℕ → ℕ → ℕ → OffsetUnit) (around : Around)
    → ((x y : ℕ) → here x y ≡ false) → LaysUnits here known around around
lays_no_units here known around none = record {
  format = refl;
  above = refl;
  units = λ c column row few low high.
      nothing (here column row) (known c column row) (unit_in around c column row) (none column row);
  places = λ x y. refl;
}

empty : (first n : ℕ) → is_from_to first first n ≡ false
empty first n = elim (cases_lt n first) [
  | inl less ↦ let a : nat_le first n ≡ false = lt-leb _ _ less in rw a refl
  | inr past ↦ let a : nat_lt n first ≡ false = le-ltb _ _ past in rw a (never (nat_le first n))
]
  where
    never : (t : Bool) → (t && false) ≡ false
    never true = refl
    never false = refl

pub no_rows : (left right top x y : ℕ) → is_inside left right top top x y ≡ false
no_rows left right top x y =
    ap (λ t. is_from_to left right x && t) (empty top y) ∙ never (is_from_to left right x)
  where
    never : (t : Bool) → (t && false) ≡ false
    never true = refl
    never false = refl

pub no_columns : (left top bottom x y : ℕ) → is_inside left left top bottom x y ≡ false
no_columns left top bottom x y = ap (λ t. t && is_from_to top bottom y) (empty left x)

-- the same places by another rule
same_known : {X : Type 0} (b : Bool) (known other old new : X) → (b ≡ true → known ≡ other)
    → new ≡ (if b then known else old) → new ≡ (if b then other else old)
same_known true known other old new same e = e ∙ same refl
same_known false known other old new same e = e

pub lays_as : (here : ℕ → ℕ → Bool) (known other : ℕ → ℕ → Place) (old new : Around)
    → ((x y : ℕ) → here x y ≡ true → known x y ≡ other x y) → LaysPlaces here known old new
    → LaysPlaces here other old new
lays_as here known other old new same a = record {
  format = a.format;
  above = a.above;
  places = λ x y.
      same_known (here x y) (known x y) (other x y) (place_in old x y) (place_in new x y) (same x y) (a.places x y);
  units = a.units;
}

pub lays_as_units : (here : ℕ → ℕ → Bool) (known other : ℕ → ℕ → ℕ → OffsetUnit) (old new : Around)
    → ((c x y : ℕ) → c < 3 → here x y ≡ true → known c x y ≡ other c x y) → LaysUnits here known old new
    → LaysUnits here other old new
lays_as_units here known other old new same a = record {
  format = a.format;
  above = a.above;
  units = λ c x y few low high.
      same_known (here x y) (known c x y) (other c x y) (unit_in old c x y) (unit_in new c x y) (same c x y few)
      (a.units c x y few low high);
  places = a.places;
}

-- what is laid where it is asked for
pub lays_asked : (t : Bool) (here : ℕ → ℕ → Bool) (known : ℕ → ℕ → Place) (old new : Around) → t ≡ true
    → LaysPlaces here known old new → LaysPlaces (λ x y. t && here x y) known old new
lays_asked true here known old new e a = a
lays_asked false here known old new e a = absurd cc

pub lays_unasked : (t : Bool) (here : ℕ → ℕ → Bool) (known : ℕ → ℕ → Place) (around : Around) → t ≡ false
    → LaysPlaces (λ x y. t && here x y) known around around
lays_unasked true here known around e = absurd cc
lays_unasked false here known around e = lays_none (λ x y. false && here x y) known around (λ x y. refl)

-- one place
pub one_test : (x y i j : ℕ) → (i == x && j == y) ≡ is_inside x (x + 1) y (y + 1) i j
one_test x y i j = grind (arith, nat_tests)

is_one : (x y i j : ℕ) → is_inside x (x + 1) y (y + 1) i j ≡ true → (i ≡ x) × (j ≡ y)
is_one x y i j e =
    let both = and_parts (is_from_to x (x + 1) i) _ e in
    let columns = and_parts (nat_le x i) _ both.0 in
    let rows = and_parts (nat_le y j) _ both.1 in
    let a : x ≤ i = leb-true _ _ columns.0 in
    let b : i < x + 1 = ltb-true _ _ columns.1 in
    let c : y ≤ j = leb-true _ _ rows.0 in
    let d : j < y + 1 = ltb-true _ _ rows.1 in
    (omega (arith, a, b), omega (arith, c, d))

lays_one : (x y : ℕ) (place : Place) (old new : Around) → new.format ≡ old.format → new.above ≡ old.above
    → ((i j : ℕ) → place_in new i j ≡ (if i == x && j == y then place else place_in old i j))
    → ((c i j : ℕ) → unit_in new c i j ≡ unit_in old c i j)
    → LaysPlaces (is_inside x (x + 1) y (y + 1)) (λ i j. place) old new
lays_one x y place old new format above places units = record {
  format = format;
  above = above;
  places = λ i j. places i j ∙ ap (λ t. if t then place else place_in old i j) (one_test x y i j);
  units = units;
}

-- before the first of places side by side
pub none_laid : (x y : ℕ) (known : ℕ → ℕ → Place) (around : Around)
    → LaysPlaces (is_inside x (x + 0) y (y + 1)) known around around
none_laid x y known around =
    let e : x ≡ x + 0 = omega arith in
    subst (λ r. LaysPlaces (is_inside x r y (y + 1)) known around around) e
    (lays_none (is_inside x x y (y + 1)) known around (λ i j. no_columns x y (y + 1) i j))

-- one more of those that a rule has by their columns
pub place_laid : (x y k : ℕ) (rule : ℕ → Place) (place : Place) (old middle new : Around) → place ≡ rule k
    → LaysPlaces (is_inside x (x + k) y (y + 1)) (λ i j. rule (i - x)) old middle → new.format ≡ middle.format
    → new.above ≡ middle.above
    → ((i j : ℕ) → place_in new i j ≡ (if i == x + k && j == y then place else place_in middle i j))
    → ((c i j : ℕ) → unit_in new c i j ≡ unit_in middle c i j)
    → LaysPlaces (is_inside x (x + (k + 1)) y (y + 1)) (λ i j. rule (i - x)) old new
place_laid x y k rule place old middle new is first format above places units =
    let next : x + k + 1 ≡ x + (k + 1) = omega arith in
    subst (λ e. LaysPlaces (is_inside x e y (y + 1)) (λ i j. rule (i - x)) old new) next
    (lays_more (is_inside x (x + k) y (y + 1)) (is_inside (x + k) (x + k + 1) y (y + 1))
    (is_inside x (x + k + 1) y (y + 1)) (λ i j. rule (i - x)) old middle new
    (λ i j. more_columns x (x + k) (x + k + 1) y (y + 1) i j (omega arith) (omega arith)) first
    (lays_as (is_inside (x + k) (x + k + 1) y (y + 1)) (λ i j. place) (λ i j. rule (i - x)) middle new
    (λ i j here.
    let at = is_one (x + k) y i j here in
    let back : k ≡ i - x = omega (arith, at.0) in
    is ∙ ap rule back)
    (lays_one (x + k) y place middle new format above places units)))

-- as many places as there are
pub same_end : (x y k n : ℕ) (known : ℕ → ℕ → Place) (old new : Around) → k ≡ n
    → LaysPlaces (is_inside x (x + k) y (y + 1)) known old new
    → LaysPlaces (is_inside x (x + n) y (y + 1)) known old new
same_end x y k n known old new e lays =
    subst (λ m. LaysPlaces (is_inside x (x + m) y (y + 1)) known old new) e lays

-- rows have room for what is laid behind what was
pub room_left : (old new : Around) (y : ℕ) → new.format ≡ old.format → new.above ≡ old.above
    → old.format.ctb_size / 4 * old.above ≤ y → new.format.ctb_size / 4 * new.above ≤ y
room_left old new y format above low =
    let e : old.format.ctb_size / 4 * old.above ≡ new.format.ctb_size / 4 * new.above =
    λ i. (sym format i).ctb_size / 4 * sym above i in
    subst (λ n. n ≤ y) e low

pub room_right : (old new : Around) (y : ℕ) → new.format ≡ old.format → new.above ≡ old.above
    → y < old.format.ctb_size / 4 * (old.above + 3) → y < new.format.ctb_size / 4 * (new.above + 3)
room_right old new y format above high =
    let e : old.format.ctb_size / 4 * (old.above + 3) ≡ new.format.ctb_size / 4 * (new.above + 3) =
    λ i. (sym format i).ctb_size / 4 * (sym above i + 3) in
    subst (λ n. y < n) e high

pub room_across : (old new : Around) (x k n : ℕ) → new.format ≡ old.format → x + n ≤ old.format.width / 4 → k < n
    → x + k < new.format.width / 4
room_across old new x k n format few less =
    let e : new.format.width / 4 ≡ old.format.width / 4 = λ i. (format i).width / 4 in
    omega (arith, e, few, less)

-- a place or a unit of a rectangle
pub record IsIn (left right top bottom x y : ℕ) : Type 0 where
  pub left_of : left ≤ x
  pub right_of : x < right
  pub below : top ≤ y
  pub over : y < bottom

pub is_in : (left right top bottom x y : ℕ) → is_inside left right top bottom x y ≡ true
    → IsIn left right top bottom x y
is_in left right top bottom x y e =
    let both = and_parts (is_from_to left right x) _ e in
    let columns = and_parts (nat_le left x) _ both.0 in
    let rows = and_parts (nat_le top y) _ both.1 in
    record {
      left_of = leb-true _ _ columns.0;
      right_of = ltb-true _ _ columns.1;
      below = leb-true _ _ rows.0;
      over = ltb-true _ _ rows.1;
    }

pub inside : (left right top bottom x y : ℕ) → left ≤ x → x < right → top ≤ y → y < bottom
    → is_inside left right top bottom x y ≡ true
inside left right top bottom x y a b c d =
    and_from _ _ (and_from _ _ (le-leb _ _ a) (lt-ltb _ _ b)) (and_from _ _ (le-leb _ _ c) (lt-ltb _ _ d))
