-- What becomes of each picture that waits: it goes out once, waits on, or was discarded.
use Rattle.std.proofs.Common.{◌≡◌, ◌≢◌, ◌∙◌, ℕ, zero, suc, ◌+◌, ◌-◌, ◌<◌, ◌≤◌, ◌⊎◌, inl, inr, Bool, true, false, ◌==◌}
use Rattle.std.proofs.Common.{cond, List, [], ◌∷◌, ◌++◌, length, get_or, Option, Some, None, if◌then◌else◌, arith}
use Rattle.std.proofs.Common.{refl}
use Rattle.std.proofs.Common.{sym, ap, subst, length-append, get_or-set_other, get_or-set_same, length-set}
use Rattle.std.specs.List.{All, filter}
use Rattle.std.proofs.lemmas.Bool.{cases_Bool, cases_eq, cases_lt, eq-eqb, ne_eqb, or_left, true≢false}
use Rattle.std.proofs.lemmas.List.{get_or-append_right, get_or_append_left, length-map}
use Rattle.std.proofs.lemmas.List.Elements.{All-nil, All-cons, All-weaker, All-from_get_or}
use Rattle.std.proofs.lemmas.List.Sums.{sum_by-append}
use Rattle.header_types.specs.declared.reference_pictures.DpbPicture.{DpbPicture}
use Rattle.header_types.specs.declared.reference_pictures.Mark.{Mark}
use Rattle.spec_reference_pictures.specs.ReferencePictureSet.{is_reference, no_picture}
use Rattle.plan_types.specs.declared.outputs.Outputs.{Outputs}
use Rattle.spec_output_order.specs.declared.current_picture.CurrentPicture.{CurrentPicture}
use Rattle.spec_output_order.specs.OutputOrder.{Bumped, all_marked, bumped, discarded, ended, entered, is_kept}
use Rattle.spec_output_order.specs.OutputOrder.{kept_from, none_out, not_needed, not_needed_at, outputs_of, started}
use Rattle.spec_output_order.specs.Waiting.{IsBumping, IsDiscarded, IsInRange, IsQuietAt, IsStill, StaysWaiting}
use Rattle.spec_output_order.specs.Waiting.{Waits}
use Rattle.spec_output_order.specs.Waiting.{WaitsAndThen, all_out, picture_at, times_in}
use Rattle.spec_output_order.proofs.AtOnce.{marked_length}
use Rattle.spec_output_order.proofs.Counts.{count-cons}
use Rattle.spec_output_order.proofs.FirstForOutput.{bumps}

-- 1 where the picture at a place is needed for output, else 0
abbrev pub need : List DpbPicture → ℕ → ℕ
need pictures place = cond (picture_at pictures place).needed_for_output 1 0

pub need_one : (pictures : List DpbPicture) (place : ℕ) → Waits pictures place → need pictures place ≡ 1
need_one pictures place w = rw w.needed refl

outside : (pictures : List DpbPicture) (place : ℕ) → length pictures ≤ place → picture_at pictures place ≡ no_picture
outside [] place l = refl
outside (p ∷ pictures) zero l = absurd (omega arith)
outside (p ∷ pictures) (suc place) l = outside pictures place (omega arith)

need_outside : (pictures : List DpbPicture) (place : ℕ) → length pictures ≤ place → need pictures place ≡ 0
need_outside pictures place l = rw (outside pictures place l) refl

pub waits_by : (pictures : List DpbPicture) (place : ℕ) → (picture_at pictures place).needed_for_output ≡ true
    → Waits pictures place
waits_by pictures place needed = elim (cases_lt place (length pictures)) [
  | inl l ↦ record { inside = l; needed = needed }
  | inr l ↦ absurd (true≢false (sym needed ∙ ap (λ (p : DpbPicture). p.needed_for_output) (outside pictures place l)))
]

-- ---- a picture goes out

need_gone : (pictures : List DpbPicture) (k : ℕ) → k < length pictures → need (not_needed_at pictures k) k ≡ 0
need_gone pictures k l =
    let same = get_or-set_same pictures k (not_needed (picture_at pictures k)) no_picture l in
    ap (λ (p : DpbPicture). cond p.needed_for_output 1 0) same

need_other : (pictures : List DpbPicture) (k place : ℕ) → place ≢ k
    → need (not_needed_at pictures k) place ≡ need pictures place
need_other pictures k place other =
    let same = get_or-set_other pictures k place (not_needed (picture_at pictures k)) no_picture other in
    ap (λ (p : DpbPicture). cond p.needed_for_output 1 0) same

times_here : (place : ℕ) (out : List ℕ) → times_in place (place ∷ out) ≡ 1 + times_in place out
times_here place out =
    let one = count-cons (λ k. k == place) place out in
    let is : (place == place) ≡ true = eq-eqb place place refl in
    let add : ◌≡◌ {A = ℕ} (cond (place == place) 1 0) 1 = rw is refl in
    omega (arith, one, add)

times_other : (k place : ℕ) (out : List ℕ) → (k ≡ place → ⊥) → times_in place (k ∷ out) ≡ times_in place out
times_other k place out other =
    let one = count-cons (λ i. i == place) k out in
    let is : (k == place) ≡ false = ne_eqb k place other in
    let add : ◌≡◌ {A = ℕ} (cond (k == place) 1 0) 0 = rw is refl in
    omega (arith, one, add)

-- what goes out and what is left to wait is what waited
pub run_counts : (reorder : ℕ) (size : Option ℕ) (pictures : List DpbPicture) (out : List ℕ) (left : List DpbPicture)
    → IsBumping reorder size pictures out left
    → (place : ℕ) → times_in place out + need left place ≡ need pictures place
run_counts reorder size pictures [] left run place =
    let same : need left place ≡ need pictures place = ap (λ (ps : List DpbPicture). need ps place) run.0 in
    omega (arith, same)
run_counts reorder size pictures (k ∷ out) left run place =
    let rest = run_counts reorder size (not_needed_at pictures k) out left run.2 place in
    elim (cases_eq k place) [
      | inl same ↦ subst (λ (i : ℕ). times_in i (k ∷ out) + need left i ≡ need pictures i) same
          (let rest = run_counts reorder size (not_needed_at pictures k) out left run.2 k in
          let here = times_here k out in
          let gone = need_gone pictures k run.1.waits.inside in
          let one = need_one pictures k run.1.waits in
          omega (arith, rest, here, gone, one))
      | inr other ↦
          let more = times_other k place out other in
          let same = need_other pictures k place (λ e. other (sym e)) in
          omega (arith, rest, more, same)
    ]

pub run_length : (reorder : ℕ) (size : Option ℕ) (pictures : List DpbPicture) (out : List ℕ) (left : List DpbPicture)
    → IsBumping reorder size pictures out left → length left ≡ length pictures
run_length reorder size pictures [] left run = ap (λ (ps : List DpbPicture). length ps) run.0
run_length reorder size pictures (k ∷ out) left run =
    run_length reorder size (not_needed_at pictures k) out left run.2
    ∙ length-set pictures k (not_needed (picture_at pictures k))

pub run_inside : (reorder : ℕ) (size : Option ℕ) (pictures : List DpbPicture) (out : List ℕ) (left : List DpbPicture)
    → IsBumping reorder size pictures out left → (n : ℕ) → length pictures ≡ n → All (λ (k : ℕ). k < n) out
run_inside reorder size pictures [] left run n is = All-nil (λ (k : ℕ). k < n)
run_inside reorder size pictures (k ∷ out) left run n is =
    let inside = run.1.waits.inside in
    let same = length-set pictures k (not_needed (picture_at pictures k)) in
    All-cons (λ (i : ℕ). i < n) k out (omega (arith, inside, is))
    (run_inside reorder size (not_needed_at pictures k) out left run.2 n (omega (arith, same, is)))

-- a picture is what it was, needed for output or not
still_at : (pictures : List DpbPicture) (k place : ℕ)
    → IsStill (picture_at (not_needed_at pictures k) place) (picture_at pictures place)
still_at [] k place = record { poc = refl; mark = refl }
still_at (p ∷ pictures) zero zero = record { poc = refl; mark = refl }
still_at (p ∷ pictures) zero (suc place) = record { poc = refl; mark = refl }
still_at (p ∷ pictures) (suc k) zero = record { poc = refl; mark = refl }
still_at (p ∷ pictures) (suc k) (suc place) = still_at pictures k place

pub run_still : (reorder : ℕ) (size : Option ℕ) (pictures : List DpbPicture) (out : List ℕ) (left : List DpbPicture)
    → IsBumping reorder size pictures out left
    → (place : ℕ) → IsStill (picture_at left place) (picture_at pictures place)
run_still reorder size pictures [] left run place = record {
  poc = ap (λ (ps : List DpbPicture). (picture_at ps place).poc) run.0;
  mark = ap (λ (ps : List DpbPicture). (picture_at ps place).mark) run.0;
}
run_still reorder size pictures (k ∷ out) left run place =
    let rest = run_still reorder size (not_needed_at pictures k) out left run.2 place in
    let here = still_at pictures k place in
    record { poc = rest.poc ∙ here.poc; mark = rest.mark ∙ here.mark }

-- ---- the buffer as it is marked, as it is discarded, and with the current picture

pub marked_need : (pictures : List DpbPicture) (marks : List Mark) (place : ℕ)
    → need (all_marked pictures marks) place ≡ need pictures place
marked_need [] marks place = refl
marked_need (p ∷ pictures) [] zero = refl
marked_need (p ∷ pictures) (m ∷ marks) zero = refl
marked_need (p ∷ pictures) [] (suc place) = marked_need pictures [] place
marked_need (p ∷ pictures) (m ∷ marks) (suc place) = marked_need pictures marks place

discarded_need : (pictures : List DpbPicture) (place : ℕ) → need (discarded pictures) place ≡ 0
discarded_need [] place = refl
discarded_need (p ∷ pictures) zero = refl
discarded_need (p ∷ pictures) (suc place) = discarded_need pictures place

discarded_still : (pictures : List DpbPicture) (place : ℕ)
    → IsStill (picture_at (discarded pictures) place) (picture_at pictures place)
discarded_still [] place = record { poc = refl; mark = refl }
discarded_still (p ∷ pictures) zero = record { poc = refl; mark = refl }
discarded_still (p ∷ pictures) (suc place) = discarded_still pictures place

entered_length : (current : CurrentPicture) (pictures : List DpbPicture)
    → length (entered current pictures) ≡ length pictures + 1
entered_length current pictures = length-append pictures _

-- the current picture's entry changes none of those before it, and is the same behind as many
entered_before : (current : CurrentPicture) (pictures : List DpbPicture) (place : ℕ) → place < length pictures
    → picture_at (entered current pictures) place ≡ picture_at pictures place
entered_before current pictures place l = get_or_append_left pictures _ no_picture place l

entered_behind : (current : CurrentPicture) (pictures : List DpbPicture) (n place : ℕ) → length pictures ≡ n → n ≤ place
    → picture_at (entered current pictures) place ≡ picture_at (entered current []) (place - n)
entered_behind current pictures n place is l = get_or-append_right pictures (entered current []) n place no_picture is l

entered_counts : (current : CurrentPicture) (now before : List DpbPicture) (place t : ℕ) → length now ≡ length before
    → t + need now place ≡ need before place
    → t + need (entered current now) place ≡ need (entered current before) place
entered_counts current now before place t same e = elim (cases_lt place (length before)) [
  | inl l ↦
      let a = entered_before current now place (omega (arith, same, l)) in
      let b = entered_before current before place l in
      rw (a, b) e
  | inr l ↦
      let a = entered_behind current now (length before) place same l in
      let b = entered_behind current before (length before) place refl l in
      let none = need_outside before place l in
      let no_t : t ≡ 0 = omega (arith, none, e) in
      rw (a, b, no_t) (omega arith)
]

-- ---- before the current picture is decoded

pub record IsStarted (current : CurrentPicture) (pictures : List DpbPicture) (s : Bumped) : Type 0 where
  pub same : length s.left ≡ length pictures
  inside : All (λ (k : ℕ). k < length pictures) s.out
  still : (place : ℕ) → IsStill (picture_at s.left place) (picture_at pictures place)
  counts : (place : ℕ) → (times_in place s.out + need s.left place ≡ need pictures place)
      ⊎ ((s.out ≡ []) × (need s.left place ≡ 0) × (current.begins_anew ≡ true)
      × (current.no_output_of_prior_pics_flag ≡ true))

started_bumped : (current : CurrentPicture) (pictures : List DpbPicture) (reorder : ℕ) (size : Option ℕ)
    → IsStarted current pictures (bumped reorder size pictures)
started_bumped current pictures reorder size =
    let run = bumps reorder size pictures in
    record {
      same = run_length reorder size pictures _ _ run;
      inside = run_inside reorder size pictures _ _ run (length pictures) refl;
      still = run_still reorder size pictures _ _ run;
      counts = λ place. inl (run_counts reorder size pictures _ _ run place);
    }

started_by : (current : CurrentPicture) (pictures : List DpbPicture) (reorder : ℕ) (size : Option ℕ)
    (anew discards : Bool)
    → current.begins_anew ≡ anew → current.no_output_of_prior_pics_flag ≡ discards
    → IsStarted current pictures (if anew
    then (if discards then none_out (discarded pictures) else bumped 0 None pictures)
    else bumped reorder size pictures)
started_by current pictures reorder size true true a d = record {
  same = length-map pictures not_needed;
  inside = All-nil (λ (k : ℕ). k < length pictures);
  still = discarded_still pictures;
  counts = λ place. inr (refl, discarded_need pictures place, a, d);
}
started_by current pictures reorder size true false a d = started_bumped current pictures 0 None
started_by current pictures reorder size false discards a d = started_bumped current pictures reorder size

pub is_started : (current : CurrentPicture) (pictures : List DpbPicture)
    → IsStarted current pictures (started current pictures)
unfolding started
is_started current pictures =
    started_by current pictures current.ordering.max_num_reorder_pics
    (Some (current.ordering.max_dec_pic_buffering_minus1 + 1))
    current.begins_anew current.no_output_of_prior_pics_flag refl refl

-- ---- the pictures that stay

-- where a picture of the buffer stands among those that stay
record IsKept (left : List DpbPicture) (base place at : ℕ) : Type 0 where
  inside : at < length (kept_from base left)
  is : get_or (kept_from base left) at 0 ≡ base + place
  same : picture_at (filter is_kept left) at ≡ picture_at left place

kept_later : (p : DpbPicture) (left : List DpbPicture) (base place at : ℕ) (kept : Bool) → is_kept p ≡ kept
    → IsKept left (suc base) place at
    → (later : ℕ) × IsKept (p ∷ left) base (suc place) later
kept_later p left base place at true e is = (
  suc at,
  record {
    inside = let i = is.inside in rw e (omega (arith, i));
    is = let i = is.is in rw e (omega (arith, i));
    same = rw e is.same;
  },
)
kept_later p left base place at false e is = (
  at,
  record {
    inside = let i = is.inside in rw e i;
    is = let i = is.is in rw e (omega (arith, i));
    same = rw e is.same;
  },
)

-- a picture that waits stays
kept_at : (left : List DpbPicture) (base place : ℕ) → Waits left place → (at : ℕ) × IsKept left base place at
kept_at [] base place w = absurd (let i = w.inside in omega arith)
kept_at (p ∷ left) base zero w =
    let needed : p.needed_for_output ≡ true = w.needed in
    let e : is_kept p ≡ true = or_left p.needed_for_output (is_reference p.mark) needed in
    (0, record { inside = rw e (omega arith); is = rw e (omega arith); same = rw e refl })
kept_at (p ∷ left) base (suc place) w =
    let later : Waits left place = record { inside = let i = w.inside in omega arith; needed = w.needed } in
    let rest = kept_at left (suc base) place later in
    kept_later p left base place rest.0 (is_kept p) refl rest.1

-- what stays is a picture of the buffer
pub record ComesFrom (left : List DpbPicture) (base at : ℕ) : Type 0 where
  pub place : ℕ
  pub inside : place < length left
  pub is : get_or (kept_from base left) at 0 ≡ base + place
  same : picture_at (filter is_kept left) at ≡ picture_at left place

comes_behind : (p : DpbPicture) (left : List DpbPicture) (base at : ℕ) → is_kept p ≡ true → ComesFrom left (suc base) at
    → ComesFrom (p ∷ left) base (suc at)
comes_behind p left base at e from = record {
  place = suc from.place;
  inside = let i = from.inside in omega (arith, i);
  is = let i = from.is in rw e (omega (arith, i));
  same = rw e from.same;
}

comes_over : (p : DpbPicture) (left : List DpbPicture) (base at : ℕ) → is_kept p ≡ false → ComesFrom left (suc base) at
    → ComesFrom (p ∷ left) base at
comes_over p left base at e from = record {
  place = suc from.place;
  inside = let i = from.inside in omega (arith, i);
  is = let i = from.is in rw e (omega (arith, i));
  same = rw e from.same;
}

comes_by : (p : DpbPicture) (left : List DpbPicture) (base : ℕ) (kept : Bool) → is_kept p ≡ kept
    → ((at : ℕ) → at < length (kept_from (suc base) left) → ComesFrom left (suc base) at)
    → (at : ℕ) → at < length (kept_from base (p ∷ left)) → ComesFrom (p ∷ left) base at
comes_by p left base true e rest zero l =
    record { place = 0; inside = omega arith; is = rw e (omega arith); same = rw e refl }
comes_by p left base true e rest (suc at) l =
    let inside = rw e at l in
    comes_behind p left base at e (rest at (omega (arith, inside)))
comes_by p left base false e rest at l =
    let inside = rw e at l in
    comes_over p left base at e (rest at inside)

pub comes_from : (left : List DpbPicture) (base at : ℕ) → at < length (kept_from base left) → ComesFrom left base at
comes_from [] base at l = absurd (omega arith)
comes_from (p ∷ left) base at l = comes_by p left base (is_kept p) refl (comes_from left (suc base)) at l

pub as_many : (left : List DpbPicture) (base : ℕ) → length (filter is_kept left) ≡ length (kept_from base left)
as_many [] base = refl
as_many (p ∷ left) base =
    let rest = as_many left (suc base) in
    elim (cases_Bool (is_kept p)) [
      | inl e ↦ rw e (omega (arith, rest))
      | inr e ↦ rw e rest
    ]

-- ---- what becomes of each picture

pub ended_bumps : (current : CurrentPicture) (pictures : List DpbPicture)
    → IsBumping current.ordering.max_num_reorder_pics None (entered current pictures) (ended current pictures).out
    (ended current pictures).left
unfolding ended
ended_bumps current pictures = bumps current.ordering.max_num_reorder_pics None (entered current pictures)

times_both : (place : ℕ) (xs ys : List ℕ) → times_in place (xs ++ ys) ≡ times_in place xs + times_in place ys
times_both place xs ys = sum_by-append (λ k. cond (k == place) 1 0) xs ys

-- what goes out and what is left to wait is what waited, but for what was discarded
counts_by : (current : CurrentPicture) (dpb : List DpbPicture) (marks : List Mark) (place : ℕ) (s : Bumped)
    → IsStarted current (all_marked dpb marks) s
    → (times_in place (s.out ++ (ended current s.left).out) + need (ended current s.left).left place
    ≡ need (entered current dpb) place)
    ⊎ ((times_in place (s.out ++ (ended current s.left).out) + need (ended current s.left).left place ≡ 0)
    × IsDiscarded current (length dpb) place)
counts_by current dpb marks place s is =
    let ended_counts =
    run_counts current.ordering.max_num_reorder_pics None (entered current s.left) _ _
    (ended_bumps current s.left) place in
    let both = times_both place s.out (ended current s.left).out in
    let long = marked_length dpb marks in
    let same = is.same in
    let needed = marked_need dpb marks place in
    elim (is.counts place) [
      | inl e ↦
          let all = entered_counts current s.left dpb place (times_in place s.out) (same ∙ long) (e ∙ needed) in
          inl (omega (arith, ended_counts, both, all))
      | inr e ↦ elim (cases_lt place (length dpb)) [
        | inl l ↦
            let none : times_in place s.out ≡ 0 = rw e.0 refl in
            let before = entered_before current s.left place (omega (arith, same, long, l)) in
            let here : need (entered current s.left) place ≡ 0 =
            ap (λ (p : DpbPicture). cond p.needed_for_output 1 0) before ∙ e.1 in
            inr (omega (arith, ended_counts, both, none, here), record { inside = l; anew = e.2; prior = e.3 })
        | inr l ↦
            let none : times_in place s.out ≡ 0 = rw e.0 refl in
            let now = entered_behind current s.left (length dpb) place (same ∙ long) l in
            let before = entered_behind current dpb (length dpb) place refl l in
            let here : need (entered current s.left) place ≡ need (entered current dpb) place =
            ap (λ (p : DpbPicture). cond p.needed_for_output 1 0) (now ∙ sym before) in
            inl (omega (arith, ended_counts, both, none, here))
      ]
    ]

abbrev Fate : CurrentPicture → List DpbPicture → Outputs → List DpbPicture → ℕ → Type 0
Fate current dpb o left place =
    (times_in place (all_out o) + need left place ≡ need (entered current dpb) place)
    ⊎ ((times_in place (all_out o) + need left place ≡ 0) × IsDiscarded current (length dpb) place)

pub need_none : (left : List DpbPicture) (place : ℕ) → (picture_at left place).needed_for_output ≡ false
    → need left place ≡ 0
need_none left place no_need = rw no_need refl

abbrev left_by : List ℕ → Bumped → Outputs
left_by before b = record { before = before; behind = b.out; kept = kept_from 0 b.left; dpb = filter is_kept b.left }

stays : (before : List ℕ) (b : Bumped) (place : ℕ) → Waits b.left place → StaysWaiting (left_by before b) place
stays before b place w =
    let k = kept_at b.left 0 place w in
    record {
      at = k.0;
      inside = k.1.inside;
      is = let e = k.1.is in omega (arith, e);
      waits = waits_by (filter is_kept b.left) k.0 (ap (λ (p : DpbPicture). p.needed_for_output) k.1.same ∙ w.needed);
    }

stays_no_more : (before : List ℕ) (b : Bumped) (place : ℕ) → need b.left place ≡ 0
    → ¬ StaysWaiting (left_by before b) place
stays_no_more before b place none = λ st.
    let from = comes_from b.left 0 st.at st.inside in
    let is = from.is in
    let at = st.is in
    let same : from.place ≡ place = omega (arith, is, at) in
    let needed : (picture_at b.left from.place).needed_for_output ≡ true =
    sym (ap (λ (p : DpbPicture). p.needed_for_output) from.same) ∙ st.waits.needed in
    let one =
    need_one b.left place
    (waits_by b.left place (subst (λ (k : ℕ). (picture_at b.left k).needed_for_output ≡ true) same needed)) in
    omega (arith, one, none)

fate_by : (current : CurrentPicture) (dpb : List DpbPicture) (before : List ℕ) (b : Bumped) (place : ℕ)
    → Fate current dpb (left_by before b) b.left place → Waits (entered current dpb) place
    → WaitsAndThen current (length dpb) (left_by before b) place
fate_by current dpb before b place (inl e) w =
    let one = need_one (entered current dpb) place w in
    elim (cases_Bool (picture_at b.left place).needed_for_output) [
      | inl needed ↦
          let on = waits_by b.left place needed in
          let here = need_one b.left place on in
          inr (omega (arith, e, one, here), inl (stays before b place on))
      | inr quiet ↦
          let here = need_none b.left place quiet in
          inl (omega (arith, e, one, here), stays_no_more before b place here)
    ]
fate_by current dpb before b place (inr e) w = let none = e.0 in inr (omega (arith, none), inr e.1)

none_by : (current : CurrentPicture) (dpb : List DpbPicture) (before : List ℕ) (b : Bumped) (place : ℕ)
    → Fate current dpb (left_by before b) b.left place → ¬ Waits (entered current dpb) place
    → IsQuietAt (left_by before b) place
none_by current dpb before b place (inl e) quiet =
    elim (cases_Bool (picture_at (entered current dpb) place).needed_for_output) [
      | inl needed ↦ absurd (quiet (waits_by (entered current dpb) place needed))
      | inr no_need ↦
          let none = need_none (entered current dpb) place no_need in
          (omega (arith, e, none), stays_no_more before b place (omega (arith, e, none)))
    ]
none_by current dpb before b place (inr e) quiet =
    let none = e.0 in
    (omega (arith, none), stays_no_more before b place (omega (arith, none)))

pub waiting_fate : (current : CurrentPicture) (dpb : List DpbPicture) (marks : List Mark) (place : ℕ)
    → Waits (entered current dpb) place
    → WaitsAndThen current (length dpb) (outputs_of current dpb marks) place
unfolding outputs_of
waiting_fate current dpb marks place w =
    let s = started current (all_marked dpb marks) in
    fate_by current dpb s.out (ended current s.left) place
    (counts_by current dpb marks place s (is_started current (all_marked dpb marks))) w

pub other_fate : (current : CurrentPicture) (dpb : List DpbPicture) (marks : List Mark) (place : ℕ)
    → ¬ Waits (entered current dpb) place
    → IsQuietAt (outputs_of current dpb marks) place
unfolding outputs_of
other_fate current dpb marks place quiet =
    let s = started current (all_marked dpb marks) in
    none_by current dpb s.out (ended current s.left) place
    (counts_by current dpb marks place s (is_started current (all_marked dpb marks))) quiet

discarded_start : (current : CurrentPicture) (pictures : List DpbPicture) → current.begins_anew ≡ true
    → current.no_output_of_prior_pics_flag ≡ true
    → started current pictures ≡ none_out (discarded pictures)
unfolding started
discarded_start current pictures anew prior = rw (anew, prior) refl

discarded_by : (current : CurrentPicture) (pictures : List DpbPicture) (place : ℕ) (s : Bumped)
    → s ≡ none_out (discarded pictures) → place < length pictures
    → IsQuietAt (left_by s.out (ended current s.left)) place
discarded_by current pictures place s is l =
    let counts =
    run_counts current.ordering.max_num_reorder_pics None (entered current s.left) _ _
    (ended_bumps current s.left) place in
    let both = times_both place s.out (ended current s.left).out in
    let none : times_in place s.out ≡ 0 = ap (λ (b : Bumped). times_in place b.out) is in
    let long : length s.left ≡ length pictures =
    ap (λ (b : Bumped). length b.left) is ∙ length-map pictures not_needed in
    let before = entered_before current s.left place (omega (arith, long, l)) in
    let here : need (entered current s.left) place ≡ 0 =
    ap (λ (p : DpbPicture). cond p.needed_for_output 1 0) before
    ∙ (ap (λ (b : Bumped). need b.left place) is ∙ discarded_need pictures place) in (
      omega (arith, counts, both, none, here),
      stays_no_more s.out (ended current s.left) place (omega (arith, counts, here)),
    )

pub discarded_fate : (current : CurrentPicture) (dpb : List DpbPicture) (marks : List Mark) (place : ℕ)
    → IsDiscarded current (length dpb) place
    → IsQuietAt (outputs_of current dpb marks) place
unfolding outputs_of
discarded_fate current dpb marks place is =
    let inside = is.inside in
    let long = marked_length dpb marks in
    let start = discarded_start current (all_marked dpb marks) is.anew is.prior in
    discarded_by current (all_marked dpb marks) place (started current (all_marked dpb marks)) start
    (omega (arith, inside, long))

-- ---- places

pub in_range : (current : CurrentPicture) (dpb : List DpbPicture) (marks : List Mark)
    → IsInRange (length dpb) (outputs_of current dpb marks)
unfolding outputs_of
in_range current dpb marks =
    let s = started current (all_marked dpb marks) in
    let is = is_started current (all_marked dpb marks) in
    let run = ended_bumps current s.left in
    let long = marked_length dpb marks in
    let same = is.same in
    let more = entered_length current s.left in
    let left = run_length current.ordering.max_num_reorder_pics None (entered current s.left) _ _ run in
    let behind =
    run_inside current.ordering.max_num_reorder_pics None (entered current s.left) _ _ run (length dpb + 1)
    (omega (arith, more, same, long)) in
    record {
      before = subst (λ (n : ℕ). All (λ (k : ℕ). k < n) s.out) long is.inside;
      behind =
          All-weaker (λ (k : ℕ). k < length dpb + 1) (λ (k : ℕ). k ≤ length dpb) (λ k l. omega (arith, l))
          (ended current s.left).out behind;
      kept = All-from_get_or (λ (k : ℕ). k ≤ length dpb) (kept_from 0 (ended current s.left).left) 0 (λ at l.
          let from = comes_from (ended current s.left).left 0 at l in
          let inside = from.inside in
          let at_place = from.is in
          omega (arith, inside, at_place, left, more, same, long));
      same = as_many (ended current s.left).left 0;
    }

-- ---- what stays is as it was marked

still_both : (p q r : DpbPicture) → IsStill p q → IsStill q r → IsStill p r
still_both p q r a b = record { poc = a.poc ∙ b.poc; mark = a.mark ∙ b.mark }

still_same : (p q : DpbPicture) → p ≡ q → IsStill p q
still_same p q e = record { poc = ap (λ (x : DpbPicture). x.poc) e; mark = ap (λ (x : DpbPicture). x.mark) e }

entered_still : (current : CurrentPicture) (now before : List DpbPicture) → length now ≡ length before
    → ((place : ℕ) → IsStill (picture_at now place) (picture_at before place))
    → (place : ℕ) → IsStill (picture_at (entered current now) place) (picture_at (entered current before) place)
entered_still current now before same still place = elim (cases_lt place (length before)) [
  | inl l ↦
      let a = entered_before current now place (omega (arith, same, l)) in
      let b = entered_before current before place l in
      still_both _ _ _ (still_same _ _ a) (still_both _ _ _ (still place) (still_same _ _ (sym b)))
  | inr l ↦
      let a = entered_behind current now (length before) place same l in
      let b = entered_behind current before (length before) place refl l in
      still_same _ _ (a ∙ sym b)
]

pub stays_as_marked : (current : CurrentPicture) (dpb : List DpbPicture) (marks : List Mark) (at : ℕ)
    → at < length (outputs_of current dpb marks).kept
    → IsStill (picture_at (outputs_of current dpb marks).dpb at)
    (picture_at (entered current (all_marked dpb marks)) (get_or (outputs_of current dpb marks).kept at 0))
unfolding outputs_of
stays_as_marked current dpb marks at l =
    let s = started current (all_marked dpb marks) in
    let is = is_started current (all_marked dpb marks) in
    let left = (ended current s.left).left in
    let from = comes_from left 0 at l in
    let at_place = from.is in
    let place : from.place ≡ get_or (kept_from 0 left) at 0 = omega (arith, at_place) in
    let run =
    run_still current.ordering.max_num_reorder_pics None (entered current s.left) _ _
    (ended_bumps current s.left) from.place in
    let marked = entered_still current s.left (all_marked dpb marks) is.same is.still from.place in
    subst
    (λ (k : ℕ). IsStill (picture_at (filter is_kept left) at) (picture_at (entered current (all_marked dpb marks)) k))
    place
    (still_both _ _ _ (still_same _ _ from.same) (still_both _ _ _ run marked))
