-- What stands before a unit by the units that are known is, as far as it reads it, what stands before it in order.
use Rattle.std.proofs.Common.{◌≡◌, ℕ, zero, suc, ◌+◌, ◌-◌, ◌*◌, ◌/◌, ◌%◌, ◌^◌, ◌<◌, ◌≤◌, Bool, true, false, ◌&&◌}
use Rattle.std.proofs.Common.{◌||◌}
use Rattle.std.proofs.Common.{not}
use Rattle.std.proofs.Common.{List, [], ◌∷◌, ◌++◌, map, length, get_or, Option, Some, None, is_some, if◌then◌else◌}
use Rattle.std.proofs.Common.{nat_lt, nat_le}
use Rattle.std.proofs.Common.{refl, sym, ap, subst, ◌∙◌, arith, lt-ltb, div-add-mod', suc-mul}
use Rattle.std.specs.List.{list_all, range_with_len}
use Rattle.std.proofs.lemmas.Bool.{and_from, eqb-true, leb-true, ltb-true, eq-eqb}
use Rattle.std.proofs.lemmas.List.FromFn.{get_or-map-range_with_len, length-map-range_with_len}
use Rattle.std.proofs.lemmas.List.Folds.{list_all-append}
use Rattle.std.proofs.lemmas.Nat.{mod-mul-add, le-div}
use Rattle.spec_known_units.specs.PlanTypes.{PicturePlan}
use Rattle.ctu_records.specs.Tree.{Ctu}
use Rattle.unit_tree_laws.specs.SpecSliceData.{PictureShape, Between, begins_row, column_of, has_above, has_left}
use Rattle.unit_tree_laws.specs.SpecSliceData.{has_stored}
use Rattle.unit_tree_laws.specs.SpecSliceData.{no_group, nothing_read, unit_of}
use Rattle.spec_known_units.specs.SpecPictureTrees.{SegmentAt, before_picture}
use Rattle.unit_tree_laws.specs.UnitTrees.{bottom_of, right_of}
use Rattle.unit_tree_laws.specs.Agreement.{Agree, stores}
use Rattle.spec_known_units.specs.Known.{Entries, KnownUnit, between_from, contexts_behind, ctu_of, engine_behind}
use Rattle.spec_known_units.specs.Known.{entries_before}
use Rattle.spec_known_units.specs.Known.{goes_on, if_used, last_behind, read_uses, takes_stored, units_known}

-- a unit leaves what stands before the next one
pub record Leaves (unit : Option KnownUnit) (between : Between) : Type 0 where
  pub engine : engine_behind unit ≡ between.engine
  pub contexts : contexts_behind unit ≡ between.contexts
  pub last : last_behind unit ≡ between.last

-- what stands before the next unit in order, once so many are read, is what the units that are known leave
pub record IsKnownTo (p : PicturePlan) (picture : PictureShape) (n : ℕ) (between : Between) : Type 0 where
  pub known : (k : ℕ) → k < n → is_some (units_known p k) ≡ true
  pub long : length between.units ≡ n
  pub units : (k : ℕ) (d : Ctu) → k < n → get_or between.units k d ≡ ctu_of picture (units_known p k)
  pub first : n ≡ 0 → between ≡ before_picture
  pub former : (k : ℕ) → k + 1 ≡ n → Leaves (units_known p k) between
  pub stored : (k : ℕ) → stores picture k ≡ true → k < n → n ≤ k + picture.width
      → contexts_behind (units_known p k) ≡ between.stored

-- of two tests that hold, the first
pub first_of_two : (a b : Bool) → a && b ≡ true → a ≡ true
first_of_two true b e = refl
first_of_two false b e = absurd cc

pub second_of_two : (a b : Bool) → a && b ≡ true → b ≡ true
second_of_two true b e = e
second_of_two false b e = absurd cc

-- a unit that isn't the first of its row isn't the first
not_first : (n w : ℕ) → 0 < n % w → 0 < n
not_first zero w h = let e : 0 / w * w + 0 % w ≡ 0 = div-add-mod' 0 w in absurd (omega (arith, h, e))
not_first (suc n) w h = omega arith

one_less : (q w : ℕ) → 1 ≤ q → (q - 1) * w + w ≡ q * w
one_less zero w h = absurd (omega (arith, h))
one_less (suc q) w h = let e : suc q - 1 ≡ q = omega arith in rw e (sym (suc-mul q w))

-- the second unit of the row above the first one of a row
second_above : (n w : ℕ) → 2 ≤ w → w ≤ n → n % w ≡ 0 → (n - w + 1) % w ≡ 1
second_above n w wide le e =
    let whole : n / w * w + n % w ≡ n = div-add-mod' n w in
    let one : 1 * w ≡ w = omega arith in
    let some : 1 ≤ n / w = le-div 1 n w (omega (arith, wide)) (omega (arith, one, le)) in
    let less : (n / w - 1) * w + w ≡ n / w * w = one_less (n / w) w some in
    let back : n - w + 1 ≡ (n / w - 1) * w + 1 = omega (arith, whole, less, e, le) in
    ap (λ k. k % w) back ∙ mod-mul-add (n / w - 1) w 1 (omega (arith, wide))

module _ (p : PicturePlan) (picture : PictureShape) (n : ℕ) where
  -- the units that are known before the one at n
  abbrev before : Entries
  before = entries_before (units_known p) n

  entry : (k : ℕ) → k < n → before k ≡ units_known p k
  entry k lt = ap (λ b. if b then units_known p k else None) (lt-ltb k n lt)

  known_there : (between : Between) → IsKnownTo p picture n between → (k : ℕ) → k < n → is_some (before k) ≡ true
  known_there between h k lt = ap is_some (entry k lt) ∙ h.known k lt

  unit_same : (between : Between) → IsKnownTo p picture n between → (k : ℕ) → k < n
      → unit_of picture (between_from before picture n) k ≡ unit_of picture between k
  unfolding between_from
  unit_same between h k lt =
      let d : Ctu = nothing_read picture.size no_group in
      get_or-map-range_with_len (λ place. ctu_of picture (before place)) 0 n k k d lt (omega arith)
      ∙ ap (ctu_of picture) (entry k lt) ∙ sym (h.units k d lt)

  pub long_from : length (between_from before picture n).units ≡ n
  unfolding between_from
  long_from = length-map-range_with_len (λ place. ctu_of picture (before place)) 0 n

-- the former unit leaves what stands in order
state_same : (p : PicturePlan) (picture : PictureShape) (n : ℕ) (between : Between) → IsKnownTo p picture n between
    → Leaves (entries_before (units_known p) n (n - 1)) between
state_same p picture zero between h =
    let e : before_picture ≡ between = sym (h.first refl) in
    record {
      engine = ap (λ (b : Between). b.engine) e;
      contexts = ap (λ (b : Between). b.contexts) e;
      last = ap (λ (b : Between). b.last) e;
    }
state_same p picture (suc k) between h =
    let e : suc k - 1 ≡ k = omega arith in
    let there : entries_before (units_known p) (suc k) (suc k - 1) ≡ units_known p k =
    ap (entries_before (units_known p) (suc k)) e ∙ entry p picture (suc k) k (omega arith) in
    subst (λ unit. Leaves unit between) (sym there) (h.former k (omega arith))

module _ (p : PicturePlan) (at : SegmentAt) (n : ℕ) (between : Between) where
  stored_same : IsKnownTo p at.picture n between → begins_row at.picture n ≡ true
      → has_stored at.picture at.shape n ≡ true
      → contexts_behind (entries_before (units_known p) n (n - at.picture.width + 1)) ≡ between.stored
  stored_same h row there =
      let w : ℕ = at.picture.width in
      let wide : 2 ≤ at.picture.width = leb-true _ _ (first_of_two _ _ (first_of_two _ _ there)) in
      let above : at.picture.width ≤ n = leb-true _ _ (second_of_two _ _ (first_of_two _ _ there)) in
      let column : n % at.picture.width ≡ 0 = eqb-true _ _ (second_of_two _ _ row) in
      let second : stores at.picture (n - at.picture.width + 1) ≡ true =
      and_from _ _ (first_of_two _ _ row) (eq-eqb _ _ (second_above n at.picture.width wide above column)) in
      ap contexts_behind (entry p at.picture n (n - at.picture.width + 1) (omega (arith, wide, above)))
      ∙ h.stored (n - at.picture.width + 1) second (omega (arith, wide, above)) (omega (arith, wide, above))

  left_before : has_left at.picture at.shape n ≡ true → n - 1 < n
  left_before e =
      let some : 0 < n = not_first n at.picture.width (ltb-true _ _ (first_of_two _ _ e)) in omega (arith, some)

  above_before : 0 < at.picture.width → has_above at.picture at.shape n ≡ true → n - at.picture.width < n
  above_before wide e = let le : at.picture.width ≤ n = leb-true _ _ (first_of_two _ _ e) in omega (arith, wide, le)

  former_before : goes_on at n ≡ true → n - 1 < n
  former_before e =
      let some : 0 < n = ltb-true 0 n (first_of_two (nat_lt 0 n) _ e) in omega (arith, some)

  second_before : takes_stored at n ≡ true → n - at.picture.width + 1 < n
  second_before e =
      let there : has_stored at.picture at.shape n ≡ true =
      second_of_two (begins_row at.picture n) (has_stored at.picture at.shape n) e in
      let wider : 2 ≤ at.picture.width = leb-true _ _ (first_of_two _ _ (first_of_two _ _ there)) in
      let above : at.picture.width ≤ n = leb-true _ _ (second_of_two _ _ (first_of_two _ _ there)) in
      omega (arith, wider, above)

  pub agrees : 0 < at.picture.width → IsKnownTo p at.picture n between
      → Agree at.picture at.shape n (between_from (entries_before (units_known p) n) at.picture n) between
  unfolding between_from
  agrees wide h =
      let s : Leaves (entries_before (units_known p) n (n - 1)) between = state_same p at.picture n between h in
      record {
        engine = λ e. s.engine;
        contexts = λ e f. s.contexts;
        last = λ e f. s.last;
        stored = λ row there. stored_same h row there;
        left = λ e. ap (right_of (2 ^ at.picture.size)) (unit_same p at.picture n between h (n - 1) (left_before e));
        above = λ e.
            ap (bottom_of (2 ^ at.picture.size))
            (unit_same p at.picture n between h (n - at.picture.width) (above_before wide e));
      }

  all_if : (test : ℕ → Bool) (used : Bool) (a : ℕ) → (used ≡ true → test a ≡ true)
      → list_all test (if_used used a) ≡ true
  all_if test true a h = and_from (test a) true (h refl) refl
  all_if test false a h = refl

  both_all : (test : ℕ → Bool) (xs ys : List ℕ) → list_all test xs ≡ true → list_all test ys ≡ true
      → list_all test (xs ++ ys) ≡ true
  both_all test xs ys e f = list_all-append test xs ys ∙ and_from _ _ e f

  -- all that the reading of the unit uses is known
  pub uses_known : 0 < at.picture.width → IsKnownTo p at.picture n between
      → list_all (λ used. is_some (entries_before (units_known p) n used)) (read_uses at n) ≡ true
  unfolding read_uses
  uses_known wide h =
      let test : ℕ → Bool = λ used. is_some (entries_before (units_known p) n used) in
      let former : List ℕ = if_used (goes_on at n) (n - 1) in
      let left : List ℕ = if_used (has_left at.picture at.shape n) (n - 1) in
      let above : List ℕ = if_used (has_above at.picture at.shape n) (n - at.picture.width) in
      let second : List ℕ = if_used (takes_stored at n) (n - at.picture.width + 1) in
      both_all test former (left ++ (above ++ second))
      (all_if test (goes_on at n) (n - 1)
      (λ e. known_there p at.picture n between h (n - 1) (former_before e)))
      (both_all test left (above ++ second)
      (all_if test (has_left at.picture at.shape n) (n - 1)
      (λ e. known_there p at.picture n between h (n - 1) (left_before e)))
      (both_all test above second
      (all_if test (has_above at.picture at.shape n) (n - at.picture.width)
      (λ e. known_there p at.picture n between h (n - at.picture.width) (above_before wide e)))
      (all_if test (takes_stored at n) (n - at.picture.width + 1)
      (λ e. known_there p at.picture n between h (n - at.picture.width + 1) (second_before e)))))
