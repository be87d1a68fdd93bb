-- Units that are known by address are what reading a picture in order gives.
use Rattle.std.proofs.Common.{◌≡◌, ◌≢◌, ℕ, zero, suc, ◌+◌, ◌-◌, ◌*◌, ◌/◌, ◌%◌, ◌<◌, ◌≤◌, ◌⊎◌, inl, inr, Bool, true}
use Rattle.std.proofs.Common.{false, List}
use Rattle.std.proofs.Common.{[], ◌∷◌}
use Rattle.std.proofs.Common.{◌++◌, map, length, get_or, Option, Some, None, is_some, Result, Ok, Err, if◌then◌else◌}
use Rattle.std.proofs.Common.{refl, sym, ap, subst, ◌∙◌, arith, append-nil, flat_map, div-add-mod', eqb, suc-mul}
use Rattle.std.proofs.Common.{zero-mul}
use Rattle.std.proofs.Common.{lt_of_mul-lt-mul_right, mul-le-mul_right}
use Rattle.std.specs.List.{list_all, range_with_len}
use Rattle.std.proofs.lemmas.Bool.{both_ways, cases_Bool, cases_lt, eqb-true}
use Rattle.std.proofs.lemmas.Grind.{flat_map-append}
use Rattle.std.proofs.lemmas.List.{get_or_append_left, get_or_push, length_push}
use Rattle.std.proofs.lemmas.List.FromFn.{map-range_with_len_more}
use Rattle.hv_base.specs.declared.breach.Breach.{Breach}
use Rattle.header_types.specs.SequenceParameterSets.{height_in_ctbs, size_in_ctbs, width_in_ctbs}
use Rattle.spec_known_units.specs.PlanTypes.{PicturePlan}
use Rattle.spec_known_units.specs.PlanTypes.{SegmentPlan}
use Rattle.unit_tree_laws.specs.BlockGeometry.{ctb_scan}
use Rattle.ctu_records.specs.Tree.{Ctu}
use Rattle.unit_tree_laws.specs.SpecSliceData.{PictureShape, Between, and_then, no_group, nothing_read, unit_of}
use Rattle.unit_tree_laws.specs.SpecSliceData.{unit_step}
use Rattle.unit_tree_laws.specs.SpecSliceData.{units_from}
use Rattle.spec_known_units.specs.SpecPictureTrees.{end_of, picture_shape, segment_shape}
use Rattle.spec_known_units.specs.SpecPictureTrees.{Halt, Progress, SegmentAt, TreeUnit, and_segments, before_picture}
use Rattle.spec_known_units.specs.SpecPictureTrees.{picture_read, segment_at, segment_read, segments_read, then_units}
use Rattle.spec_known_units.specs.SpecPictureTrees.{unit_given}
use Rattle.spec_known_units.specs.SpecPictureTrees.{units_read, with_unit}
use Rattle.spec_known_units.specs.SpecPictureTrees.{units_between}
use Rattle.unit_tree_laws.specs.Agreement.{AddsSame, IsSameStep, stores}
use Rattle.unit_tree_laws.proofs.Stored.{second_stores, units_keep}
use Rattle.unit_tree_laws.proofs.Units.{steps_same}
use Rattle.spec_known_units.specs.Known.{Entries, KnownUnit, as_given, behind_step, between_from, contexts_behind}
use Rattle.spec_known_units.specs.Known.{ctu_of}
use Rattle.spec_known_units.specs.Known.{entries_before}
use Rattle.spec_known_units.specs.Known.{given_of, known_before, known_of, picture_segments, read_in, read_uses}
use Rattle.spec_known_units.specs.Known.{segment_having, segments_from, unit_read, units_known, units_to}
use Rattle.spec_known_units.specs.InOrder.{IsAsInOrder, IsFirstBroken, IsReadWhole}
use Rattle.known_unit_laws.proofs.Entries.{known_step}
use Rattle.known_unit_laws.proofs.Lookup.{behind_all, ends_behind, ends_inside, ends_with_picture, found_first}
use Rattle.known_unit_laws.proofs.Lookup.{found_later}
use Rattle.known_unit_laws.proofs.Beside.{IsKnownTo, Leaves, agrees, long_from, second_of_two, uses_known}

-- the units that are known of one place more
pub known_more : (p : PicturePlan) (n : ℕ) → known_before p (n + 1) ≡ known_before p n ++ as_given n (units_known p n)
unfolding known_before
known_more p n =
    let given : ℕ → List TreeUnit = λ address. as_given address (units_known p address) in
    let long : n + 1 - 0 ≡ n - 0 + 1 = omega arith in
    ap (λ k. flat_map given (map ctb_scan (range_with_len 0 k))) long
    ∙ ap (flat_map given) (map-range_with_len_more ctb_scan 0 (n - 0) n (omega arith))
    ∙ flat_map-append given (map ctb_scan (range_with_len 0 (n - 0))) (n ∷ [])
    ∙ ap (λ l. known_before p n ++ l) (append-nil (given n))

-- in order as by address, before the unit at n
pub record IsReadTo (p : PicturePlan) (picture : PictureShape) (n : ℕ) (progress : Progress) : Type 0 where
  pub here : IsKnownTo p picture n progress.between
  pub given : progress.given ≡ known_before p n

abbrev Outcome : PicturePlan → PictureShape → ℕ → Result Progress Halt → Type 0
Outcome p picture n (Ok progress) = IsReadTo p picture n progress
Outcome p picture n (Err halt) = IsFirstBroken p halt

-- what a step in order makes of what stands there
abbrev StepMakes : PicturePlan → SegmentAt → ℕ → List TreeUnit → Result Between Breach → Type 0
StepMakes p at n given (Ok y) = IsReadTo p at.picture (n + 1) (with_unit at n given y)
StepMakes p at n given (Err e) =
    IsFirstBroken p (record { given = given; broken = record { breach = e; nal = at.nal; ctu = n } })

-- units that are second in their rows stand a row apart
apart : (a b w r : ℕ) → a * w + r < b * w + r → a * w + w ≤ b * w
apart a b w r lt =
    let less : a < b = lt_of_mul-lt-mul_right w {m = a} {n = b} (omega (arith, lt)) in
    let le : suc a * w ≤ b * w = mul-le-mul_right w (omega (arith, less)) in
    omega (arith, le, suc-mul a w)

too_near : (k n w : ℕ) → 0 < w → k < n → k % w ≡ n % w → n + 1 ≤ k + w → ⊥
too_near k n w wide lt same near =
    let whole_k : k / w * w + k % w ≡ k = div-add-mod' k w in
    let whole_n : n / w * w + n % w ≡ n = div-add-mod' n w in
    let far : k / w * w + w ≤ n / w * w = apart (k / w) (n / w) w (k % w) (omega (arith, whole_k, whole_n, same, lt)) in
    omega (arith, far, whole_k, whole_n, same, near)

column_one : (picture : PictureShape) (k : ℕ) → stores picture k ≡ true → k % picture.width ≡ 1
column_one picture k e = eqb-true _ _ (second_of_two _ _ e)

module _ (p : PicturePlan) (at : SegmentAt) (n : ℕ) (between : Between)
    (inside : n < size_in_ctbs p.sps) (wide : 0 < at.picture.width)
    (having : segment_having (picture_segments p) n ≡ Some at) (h : IsKnownTo p at.picture n between) where
  -- what stands before the unit by those that are known
  abbrev from : Between
  from = between_from (entries_before (units_known p) n) at.picture n

  abbrev step_from : Between → Result Between Breach
  step_from b = unit_step at.syntax at.picture at.shape n b

  same_step : IsSameStep from between (step_from from) (step_from between)
  same_step = steps_same at.syntax at.picture at.shape n from between (agrees p at n between wide h)

  read_is : unit_read p (units_known p) n ≡ Some (behind_step at n (step_from from))
  unfolding unit_read read_in
  read_is =
      ap (read_in (entries_before (units_known p) n) n) having
      ∙ ap (λ b. if b then Some (behind_step at n (step_from from)) else None) (uses_known p at n between wide h)

  broken_is : (e : Breach) → step_from from ≡ Err e → unit_read p (units_known p) n ≡ Some (Err e)
  broken_is e is = read_is ∙ ap (λ r. Some (behind_step at n r)) is

  -- the unit that is added by those that are known
  abbrev added : Between → KnownUnit
  added x = record {
    segment = at.number;
    read = unit_of at.picture x n;
    engine = x.engine;
    contexts = x.contexts;
    last = x.last;
  }

  known_is : (x : Between) → step_from from ≡ Ok x → units_known p n ≡ Some (added x)
  known_is x is = known_step p n inside ∙ ap known_of (read_is ∙ ap (λ r. Some (behind_step at n r)) is)

  -- the unit that was read is the same in both
  read_there : (x y : Between) → AddsSame from between x y → (d : Ctu) → get_or y.units n d ≡ unit_of at.picture x n
  read_there x y s d =
      ap (λ (l : List Ctu). get_or l n d) s.units_b
      ∙ get_or_push between.units s.ctu d n h.long
      ∙ sym (ap (λ (l : List Ctu). get_or l n (nothing_read at.picture.size no_group)) s.units_a
      ∙ get_or_push from.units s.ctu (nothing_read at.picture.size no_group) n (long_from p at.picture n))

  given_is : (x y : Between) → AddsSame from between x y → units_known p n ≡ Some (added x)
      → unit_given at n y ∷ [] ≡ as_given n (units_known p n)
  given_is x y s is =
      ap (λ (read : Ctu). record { segment = at.number; ctu = n; read = read } ∷ [])
      (read_there x y s (nothing_read at.picture.size no_group))
      ∙ sym (ap (as_given n) is)

  -- the contexts that are stored stay behind a unit that stores none
  stored_kept : (y : Between) → step_from between ≡ Ok y → stores at.picture n ≡ false → y.stored ≡ between.stored
  unfolding units_from
  stored_kept y step none =
      units_keep at.syntax at.picture at.shape 1 n between y
      (ap (λ r. and_then n r (units_from at.syntax at.picture at.shape 0 (n + 1))) step)
      (λ k lt. let e : n + k ≡ n = omega (arith, lt) in ap (stores at.picture) e ∙ none)

  stored_next : (x y : Between) → AddsSame from between x y → step_from between ≡ Ok y
      → units_known p n ≡ Some (added x)
      → (k : ℕ) → stores at.picture k ≡ true → k < n + 1 → n + 1 ≤ k + at.picture.width
      → contexts_behind (units_known p k) ≡ y.stored
  stored_next x y s step is k second lt near =
      elim (cases_Bool (stores at.picture n)) [
        | inl here ↦ elim (cases_lt k n) [
          | inl less ↦ absurd (too_near k n at.picture.width wide less
              (column_one at.picture k second ∙ sym (column_one at.picture n here)) near)
          | inr le ↦ let e : k ≡ n = omega (arith, lt, le) in
              ap (λ j. contexts_behind (units_known p j)) e ∙ ap contexts_behind is ∙ s.contexts
              ∙ sym (second_stores at.syntax at.picture at.shape n between y step here)
        ]
        | inr none ↦ elim (cases_lt k n) [
          | inl less ↦ h.stored k second less (omega (arith, near)) ∙ sym (stored_kept y step none)
          | inr le ↦ let e : k ≡ n = omega (arith, lt, le) in
              absurd (both_ways (stores at.picture n) none (ap (stores at.picture) (sym e) ∙ second))
        ]
      ]

  leaves_next : (x y : Between) → AddsSame from between x y → units_known p n ≡ Some (added x)
      → Leaves (units_known p n) y
  leaves_next x y s is =
      subst (λ unit. Leaves unit y) (sym is) (record { engine = s.engine; contexts = s.contexts; last = s.last })

  unit_next : (x y : Between) → AddsSame from between x y → units_known p n ≡ Some (added x) → (k : ℕ) (d : Ctu)
      → k < n + 1 → get_or y.units k d ≡ ctu_of at.picture (units_known p k)
  unit_next x y s is k d lt =
      elim (cases_lt k n) [
        | inl less ↦ ap (λ (l : List Ctu). get_or l k d) s.units_b
            ∙ get_or_append_left between.units (s.ctu ∷ []) d k (omega (arith, less, h.long))
            ∙ h.units k d less
        | inr le ↦ let e : k ≡ n = omega (arith, lt, le) in
            ap (λ j. get_or y.units j d) e ∙ read_there x y s d
            ∙ sym (ap (λ j. ctu_of at.picture (units_known p j)) e ∙ ap (ctu_of at.picture) is)
      ]

  known_next : (x : Between) → units_known p n ≡ Some (added x) → (k : ℕ) → k < n + 1
      → is_some (units_known p k) ≡ true
  known_next x is k lt =
      elim (cases_lt k n) [
        | inl less ↦ h.known k less
        | inr le ↦ let e : k ≡ n = omega (arith, lt, le) in
            ap (λ j. is_some (units_known p j)) e ∙ ap is_some is
      ]

  next_known : (x y : Between) → AddsSame from between x y → step_from between ≡ Ok y
      → units_known p n ≡ Some (added x) → IsKnownTo p at.picture (n + 1) y
  next_known x y s step is = record {
    known = known_next x is;
    long = ap length s.units_b ∙ length_push between.units s.ctu ∙ ap (λ m. m + 1) h.long;
    units = unit_next x y s is;
    first = λ e. absurd (omega (arith, e));
    former = λ k e.
        let same : k ≡ n = omega (arith, e) in
        subst (λ j. Leaves (units_known p j) y) (sym same) (leaves_next x y s is);
    stored = stored_next x y s step is;
  }

  outcome_of : (given : List TreeUnit) (a b : Result Between Breach) → given ≡ known_before p n → step_from from ≡ a
      → step_from between ≡ b → IsSameStep from between a b → StepMakes p at n given b
  outcome_of given (Ok x) (Ok y) before is_a is_b s = record {
    here = next_known x y s is_b (known_is x is_a);
    given =
        ap (λ (l : List TreeUnit). l ++ unit_given at n y ∷ []) before
        ∙ ap (λ l. known_before p n ++ l) (given_is x y s (known_is x is_a)) ∙ sym (known_more p n);
  }
  outcome_of given (Err e) (Err f) before is_a is_b s = record {
    inside = inside;
    before = h.known;
    given = before;
    breaks = broken_is f (is_a ∙ ap Err s);
    at = at;
    segment = having;
    nal = refl;
  }
  outcome_of given (Ok x) (Err f) before is_a is_b s = let no : ⊥ = s in absurd no
  outcome_of given (Err e) (Ok y) before is_a is_b s = let no : ⊥ = s in absurd no

  step_outcome : (given : List TreeUnit) → given ≡ known_before p n → StepMakes p at n given (step_from between)
  step_outcome given before = outcome_of given (step_from from) (step_from between) before refl refl same_step

-- the unit behind a step, and those that follow
then_outcome : (p : PicturePlan) (at : SegmentAt) (n behind : ℕ) (given : List TreeUnit)
    (step : Result Between Breach) (next : Progress → Result Progress Halt)
    → ((q : Progress) → IsReadTo p at.picture (n + 1) q → Outcome p at.picture behind (next q))
    → StepMakes p at n given step → Outcome p at.picture behind (then_units at n given step next)
then_outcome p at n behind given (Ok y) next later made = later (with_unit at n given y) made
then_outcome p at n behind given (Err e) next later made = made

-- the units of a segment
units_outcome : (p : PicturePlan) (at : SegmentAt) (m n : ℕ) (progress : Progress)
    → n + m ≤ size_in_ctbs p.sps → (0 < size_in_ctbs p.sps → 0 < at.picture.width)
    → ((k : ℕ) → k < m → segment_having (picture_segments p) (n + k) ≡ Some at)
    → IsReadTo p at.picture n progress → Outcome p at.picture (n + m) (units_read at m n progress)
unfolding units_read
units_outcome p at zero n progress fits wide having h =
    let e : n ≡ n + 0 = omega arith in subst (λ k. IsReadTo p at.picture k progress) e h
units_outcome p at (suc m) n progress fits wide having h =
    let here : n + 0 ≡ n = omega arith in
    let e : n + 1 + m ≡ n + suc m = omega arith in
    let later : (q : Progress) → IsReadTo p at.picture (n + 1) q
    → Outcome p at.picture (n + suc m) (units_read at m (n + 1) q) =
    λ q r. subst (λ k. Outcome p at.picture k (units_read at m (n + 1) q)) e
    (units_outcome p at m (n + 1) q (omega (arith, fits)) wide
    (λ k lt.
    let same : n + 1 + k ≡ n + (k + 1) = omega arith in
    ap (segment_having (picture_segments p)) same ∙ having (k + 1) (omega (arith, lt)))
    r) in
    then_outcome p at n (n + suc m) progress.given (unit_step at.syntax at.picture at.shape n progress.between)
    (units_read at m (n + 1)) later
    (step_outcome p at n progress.between (omega (arith, fits)) (wide (omega (arith, fits)))
    (ap (segment_having (picture_segments p)) (sym here) ∙ having 0 (omega arith)) h.here progress.given h.given)

then_segments : (p : PicturePlan) (picture : PictureShape) (n behind : ℕ) (r : Result Progress Halt)
    (next : Progress → Result Progress Halt)
    → ((q : Progress) → IsReadTo p picture n q → Outcome p picture behind (next q))
    → Outcome p picture n r → Outcome p picture behind (and_segments r next)
then_segments p picture n behind (Ok q) next later made = later q made
then_segments p picture n behind (Err halt) next later made = made

-- segments one after the other
segments_outcome : (p : PicturePlan) (number first : ℕ) (segments : List SegmentPlan) (progress : Progress)
    → first ≤ size_in_ctbs p.sps → (0 < size_in_ctbs p.sps → 0 < (picture_shape p.sps p.pps).width)
    → ((k : ℕ) → first ≤ k
    → segment_having (picture_segments p) k ≡ segment_having (segments_from p number first segments) k)
    → IsReadTo p (picture_shape p.sps p.pps) first progress
    → Outcome p (picture_shape p.sps p.pps) (behind_all (size_in_ctbs p.sps) first segments)
    (segments_read p number first segments progress)
unfolding segments_read segments_from behind_all segment_shape
segments_outcome p number first [] progress fits wide same h = h
segments_outcome p number first (s ∷ later) progress fits wide same h =
    let size : ℕ = size_in_ctbs p.sps in
    let picture : PictureShape = picture_shape p.sps p.pps in
    let behind : ℕ = end_of (size_in_ctbs p.sps) first later in
    let at : SegmentAt = segment_at p number first s later in
    let rest : List SegmentAt = segments_from p (number + 1) behind later in
    let ends : first ≤ behind = ends_behind size first later in
    let inside : behind ≤ size = ends_inside size first later fits in
    let whole : first + (behind - first) ≡ behind = omega (arith, ends) in
    let own : (k : ℕ) → k < behind - first → segment_having (picture_segments p) (first + k) ≡ Some at =
    λ k lt. same (first + k) (omega arith)
    ∙ found_first at rest (first + k) (omega arith) (omega (arith, lt)) in
    let others : (k : ℕ) → behind ≤ k → segment_having (picture_segments p) k ≡ segment_having rest k =
    λ k le. same k (omega (arith, le, ends)) ∙ found_later at rest k (omega (arith, le, whole)) in
    let units : Outcome p picture behind (segment_read at progress) =
    subst (λ k. Outcome p picture k (segment_read at progress)) whole
    (units_outcome p at (behind - first) first progress (omega (arith, whole, inside)) wide own h) in
    then_segments p picture behind (behind_all size behind later) (segment_read at progress)
    (segments_read p (number + 1) behind later)
    (λ q r. segments_outcome p (number + 1) behind later q inside wide others r) units

at_first : (p : PicturePlan) (picture : PictureShape)
    → IsReadTo p picture 0 (record { between = before_picture; given = [] })
unfolding known_before before_picture
at_first p picture = record {
  here = record {
    known = λ k lt. absurd (omega (arith, lt));
    long = refl;
    units = λ k d lt. absurd (omega (arith, lt));
    first = λ e. refl;
    former = λ k e. absurd (omega (arith, e));
    stored = λ k e lt near. absurd (omega (arith, lt));
  };
  given = refl;
}

some_factor : (a b : ℕ) → 0 < a * b → 0 < a
some_factor zero b h = absurd (omega (arith, h, zero-mul b))
some_factor (suc a) b h = omega arith

some_width : (p : PicturePlan) → 0 < size_in_ctbs p.sps → 0 < (picture_shape p.sps p.pps).width
unfolding picture_shape
some_width p h = some_factor (width_in_ctbs p.sps) (height_in_ctbs p.sps) h

-- no unit is known of a picture without segments
none_if : (here other : Option KnownUnit) (same : Bool) → here ≡ None → other ≡ None
    → (if same then here else other) ≡ None
none_if here other true e f = e
none_if here other false e f = f

none_read : (p : PicturePlan) (known : Entries) (address : ℕ) → p.segments ≡ [] → unit_read p known address ≡ None
unfolding unit_read read_in segments_from segment_having
none_read p known address none =
    ap (λ segments. read_in (entries_before known address) address
    (segment_having (segments_from p 0 0 segments) address)) none

none_to : (p : PicturePlan) (n address : ℕ) → p.segments ≡ [] → units_to p n address ≡ None
unfolding units_to
none_to p zero address none = refl
none_to p (suc n) address none =
    none_if _ _ (eqb address n) (ap known_of (none_read p (units_to p n) address none)) (none_to p n address none)

none_before : (p : PicturePlan) (n : ℕ) → p.segments ≡ [] → known_before p n ≡ []
unfolding known_before units_known
none_before p zero none = refl
none_before p (suc n) none =
    let e : suc n ≡ n + 1 = omega arith in
    ap (known_before p) e ∙ known_more p n ∙ ap (λ l. l ++ as_given n (units_known p n)) (none_before p n none)
    ∙ ap (as_given n) (none_to p (size_in_ctbs p.sps) n none)

all_given : (p : PicturePlan) (segments : List SegmentPlan) → p.segments ≡ segments
    → known_before p (behind_all (size_in_ctbs p.sps) 0 segments) ≡ known_before p (size_in_ctbs p.sps)
unfolding behind_all
all_given p [] none = none_before p 0 none ∙ sym (none_before p (size_in_ctbs p.sps) none)
all_given p (s ∷ later) e = ap (known_before p) (ends_with_picture (size_in_ctbs p.sps) 0 s later (omega arith))

all_behind : (size : ℕ) (segments : List SegmentPlan) → segments ≢ [] → behind_all size 0 segments ≡ size
all_behind size [] some = absurd (some refl)
all_behind size (s ∷ later) some = ends_with_picture size 0 s later (omega arith)

read_whole : (p : PicturePlan) (r : Result Progress Halt)
    → Outcome p (picture_shape p.sps p.pps) (behind_all (size_in_ctbs p.sps) 0 p.segments) r → IsAsInOrder p r
read_whole p (Ok progress) h = record {
  given = h.given ∙ all_given p p.segments refl;
  all = λ some place lt. h.here.known place (omega (arith, lt, all_behind (size_in_ctbs p.sps) p.segments some));
}
read_whole p (Err halt) h = h

-- reading a picture in order
pub as_in_order : (p : PicturePlan) → IsAsInOrder p (picture_read p [])
unfolding picture_read
as_in_order p =
    read_whole p (segments_read p 0 0 p.segments (record { between = before_picture; given = [] }))
    (segments_outcome p 0 0 p.segments (record { between = before_picture; given = [] }) (omega arith) (some_width p)
    (λ k le. refl) (at_first p (picture_shape p.sps p.pps)))
