-- A picture's outputs are those of its start and then of its placing, in the buffer that its start leaves.
use Rattle.std.proofs.Common.{◌≡◌, ◌∙◌, ℕ, zero, suc, ◌+◌, ◌<◌, ◌≤◌, Bool, true, false, ◌&&◌, ◌||◌, cond}
use Rattle.std.proofs.Common.{if◌then◌else◌}
use Rattle.std.proofs.Common.{List, [], ◌∷◌, ◌++◌, length, map, get_or, Option, Some, None, nat_lt, int_le, arith}
use Rattle.std.proofs.Common.{refl}
use Rattle.std.proofs.Common.{sym, ap, subst, length-append, inl, inr}
use Rattle.std.specs.List.{All, count_by, filter}
use Rattle.std.proofs.lemmas.Bool.{cases_Bool, or_parts}
use Rattle.std.proofs.lemmas.List.{length-map}
use Rattle.std.proofs.lemmas.List.Elements.{All-head, All-tail, All-from_get_or}
use Rattle.std.proofs.lemmas.List.Sums.{count_by-le-length}
use Rattle.header_types.specs.declared.reference_pictures.DpbPicture.{DpbPicture}
use Rattle.header_types.specs.declared.reference_pictures.Mark.{Mark}
use Rattle.spec_reference_pictures.specs.ReferencePictureSet.{is_reference}
use Rattle.plan_types.specs.declared.outputs.Outputs.{Outputs}
use Rattle.spec_output_order.specs.declared.current_picture.CurrentPicture.{CurrentPicture}
use Rattle.spec_output_order.specs.declared.next_output.NextOutput.{NextOutput}
use Rattle.spec_output_order.specs.OutputOrder.{Bumped, all_marked, bumped, bumped_at_most, ended, entered, is_kept}
use Rattle.spec_output_order.specs.OutputOrder.{is_needed_for_output, kept_from, needs_bumping, newest, next_from}
use Rattle.spec_output_order.specs.OutputOrder.{next_output, none_out, not_needed_at, one_out, outputs_by, outputs_of}
use Rattle.spec_output_order.specs.OutputOrder.{sooner, started}
use Rattle.spec_output_order.specs.Buffer.{before_only, place_before, place_outputs, start_outputs, start_then_place}
use Rattle.spec_output_order.specs.Buffer.{started_and_placed}
use Rattle.spec_output_order.proofs.AtOnce.{at_most_none, marked_length}
use Rattle.spec_output_order.proofs.Counts.{count-cons, lowers}
use Rattle.spec_output_order.proofs.Fates.{as_many, comes_from, is_started, run_inside, run_length}
use Rattle.spec_output_order.proofs.FirstForOutput.{bumps, none_by_count}

-- ---- a buffer without some of its pictures, which are neither needed for output nor marked

-- those that a mask has; behind its end all
abbrev thin : List Bool → List DpbPicture → List DpbPicture
thin [] ps = ps
thin (b ∷ ms) [] = []
thin (true ∷ ms) (p ∷ ps) = p ∷ thin ms ps
thin (false ∷ ms) (p ∷ ps) = thin ms ps

-- where a picture of the thinned buffer stands in the whole one
abbrev place_by : List Bool → ℕ → ℕ
place_by [] k = k
place_by (true ∷ ms) zero = 0
place_by (true ∷ ms) (suc k) = suc (place_by ms k)
place_by (false ∷ ms) k = suc (place_by ms k)

abbrev LeavesQuiet : List Bool → List DpbPicture → Type 0
LeavesQuiet [] ps = Unit {0}
LeavesQuiet (b ∷ ms) [] = Unit {0}
LeavesQuiet (true ∷ ms) (p ∷ ps) = LeavesQuiet ms ps
LeavesQuiet (false ∷ ms) (p ∷ ps) = (is_kept p ≡ false) × LeavesQuiet ms ps

no_need : (p : DpbPicture) → is_kept p ≡ false → p.needed_for_output ≡ false
no_need p quiet = (or_parts p.needed_for_output (is_reference p.mark) quiet).0

-- ---- the next picture is the same

abbrev lifted : List Bool → Option NextOutput → Option NextOutput
lifted ms None = None
lifted ms (Some n) = Some (record { place = place_by ms n.place; poc = n.poc })

lifted_whole : (n : Option NextOutput) → n ≡ lifted [] n
lifted_whole None = refl
lifted_whole (Some n) = refl

lifted_if : (ms : List Bool) (b : Bool) (x y : Option NextOutput)
    → (if b then lifted ms x else lifted ms y) ≡ lifted ms (if b then x else y)
lifted_if ms true x y = refl
lifted_if ms false x y = refl

sooner_lifts : (ms : List Bool) (p : DpbPicture) (n : Option NextOutput)
    → sooner p (lifted ms n) ≡ lifted (true ∷ ms) (sooner p n)
sooner_lifts ms p None = lifted_if (true ∷ ms) p.needed_for_output (Some (record { place = 0; poc = p.poc })) None
sooner_lifts ms p (Some n) =
    lifted_if (true ∷ ms) (p.needed_for_output && int_le p.poc n.poc) (Some (record { place = 0; poc = p.poc }))
    (Some (record { place = suc n.place; poc = n.poc }))

quiet_lifts : (ms : List Bool) (p : DpbPicture) (n : Option NextOutput) → p.needed_for_output ≡ false
    → sooner p (lifted ms n) ≡ lifted (false ∷ ms) n
quiet_lifts ms p None quiet = rw quiet refl
quiet_lifts ms p (Some n) quiet = rw quiet refl

next_thin : (ms : List Bool) (ps : List DpbPicture) → LeavesQuiet ms ps
    → next_output ps ≡ lifted ms (next_output (thin ms ps))
next_thin [] ps quiet = lifted_whole (next_output ps)
next_thin (b ∷ ms) [] quiet = refl
next_thin (true ∷ ms) (p ∷ ps) quiet =
    ap (sooner p) (next_thin ms ps quiet) ∙ sooner_lifts ms p (next_output (thin ms ps))
next_thin (false ∷ ms) (p ∷ ps) quiet =
    ap (sooner p) (next_thin ms ps quiet.1) ∙ quiet_lifts ms p (next_output (thin ms ps)) (no_need p quiet.0)

-- ---- as many are needed for output

needed_thin : (ms : List Bool) (ps : List DpbPicture) → LeavesQuiet ms ps
    → count_by is_needed_for_output ps ≡ count_by is_needed_for_output (thin ms ps)
needed_thin [] ps quiet = refl
needed_thin (b ∷ ms) [] quiet = refl
needed_thin (true ∷ ms) (p ∷ ps) quiet =
    let all = count-cons is_needed_for_output p ps in
    let some = count-cons is_needed_for_output p (thin ms ps) in
    let rest = needed_thin ms ps quiet in
    omega (arith, all, some, rest)
needed_thin (false ∷ ms) (p ∷ ps) quiet =
    let all = count-cons is_needed_for_output p ps in
    let none : ◌≡◌ {A = ℕ} (cond p.needed_for_output 1 0) 0 = rw (no_need p quiet.0) refl in
    let rest = needed_thin ms ps quiet.1 in
    omega (arith, all, none, rest)

needs_thin : (ms : List Bool) (reorder : ℕ) (ps : List DpbPicture) → LeavesQuiet ms ps
    → needs_bumping reorder None ps ≡ needs_bumping reorder None (thin ms ps)
unfolding needs_bumping
needs_thin ms reorder ps quiet = ap (λ (n : ℕ). nat_lt reorder n || false) (needed_thin ms ps quiet)

-- ---- a picture goes out of both

thin_gone : (ms : List Bool) (ps : List DpbPicture) (k : ℕ)
    → thin ms (not_needed_at ps (place_by ms k)) ≡ not_needed_at (thin ms ps) k
thin_gone [] ps k = refl
thin_gone (b ∷ ms) [] k = refl
thin_gone (true ∷ ms) (p ∷ ps) zero = refl
thin_gone (true ∷ ms) (p ∷ ps) (suc k) = ap (λ (qs : List DpbPicture). p ∷ qs) (thin_gone ms ps k)
thin_gone (false ∷ ms) (p ∷ ps) k = thin_gone ms ps k

quiet_gone : (ms : List Bool) (ps : List DpbPicture) (k : ℕ) → LeavesQuiet ms ps
    → LeavesQuiet ms (not_needed_at ps (place_by ms k))
quiet_gone [] ps k quiet = tt
quiet_gone (b ∷ ms) [] k quiet = tt
quiet_gone (true ∷ ms) (p ∷ ps) zero quiet = quiet
quiet_gone (true ∷ ms) (p ∷ ps) (suc k) quiet = quiet_gone ms ps k quiet
quiet_gone (false ∷ ms) (p ∷ ps) k quiet = (quiet.0, quiet_gone ms ps k quiet.1)

-- ---- bumping is the same

record Lifts (ms : List Bool) (whole part : Bumped) : Type 0 where
  out : whole.out ≡ map (place_by ms) part.out
  left : thin ms whole.left ≡ part.left
  quiet : LeavesQuiet ms whole.left

lifts_by : (ms : List Bool) (reorder n : ℕ) (ps : List DpbPicture) → LeavesQuiet ms ps
    → ((qs : List DpbPicture) → LeavesQuiet ms qs
    → Lifts ms (bumped_at_most reorder None n qs) (bumped_at_most reorder None n (thin ms qs)))
    → (needs : Bool) (next : Option NextOutput)
    → Lifts ms (if needs then next_from ps (lifted ms next) (bumped_at_most reorder None n) else none_out ps)
    (if needs then next_from (thin ms ps) next (bumped_at_most reorder None n) else none_out (thin ms ps))
lifts_by ms reorder n ps quiet rest false next = record { out = refl; left = refl; quiet = quiet }
lifts_by ms reorder n ps quiet rest true None = record { out = refl; left = refl; quiet = quiet }
lifts_by ms reorder n ps quiet rest true (Some v) =
    let gone = not_needed_at ps (place_by ms v.place) in
    let later =
    subst (λ (qs : List DpbPicture). Lifts ms (bumped_at_most reorder None n gone) (bumped_at_most reorder None n qs))
    (thin_gone ms ps v.place) (rest gone (quiet_gone ms ps v.place quiet)) in
    record { out = ap (λ (ks : List ℕ). place_by ms v.place ∷ ks) later.out; left = later.left; quiet = later.quiet }

lifts : (ms : List Bool) (reorder n : ℕ) (ps : List DpbPicture) → LeavesQuiet ms ps
    → Lifts ms (bumped_at_most reorder None n ps) (bumped_at_most reorder None n (thin ms ps))
lifts ms reorder zero ps quiet = record { out = refl; left = refl; quiet = quiet }
lifts ms reorder (suc n) ps quiet =
    let needs = needs_thin ms reorder ps quiet in
    let next = next_thin ms ps quiet in
    rw (needs, next) (lifts_by ms reorder n ps quiet (lifts ms reorder n) (needs_bumping reorder None (thin ms ps))
    (next_output (thin ms ps)))

enough_by : (reorder : ℕ) (size : Option ℕ) (n m : ℕ) (ps : List DpbPicture)
    → ((w : NextOutput) → next_output ps ≡ Some w
    → bumped_at_most reorder size n (not_needed_at ps w.place)
    ≡ bumped_at_most reorder size m (not_needed_at ps w.place))
    → (needs : Bool) (next : Option NextOutput) → next_output ps ≡ next
    → (if needs then next_from ps next (bumped_at_most reorder size n) else none_out ps)
    ≡ (if needs then next_from ps next (bumped_at_most reorder size m) else none_out ps)
enough_by reorder size n m ps rest false next is = refl
enough_by reorder size n m ps rest true None is = refl
enough_by reorder size n m ps rest true (Some w) is = ap (one_out w.place) (rest w is)

-- as many times as pictures are needed for output are enough
enough : (reorder : ℕ) (size : Option ℕ) (n m : ℕ) (ps : List DpbPicture) → count_by is_needed_for_output ps ≤ n
    → count_by is_needed_for_output ps ≤ m
    → bumped_at_most reorder size n ps ≡ bumped_at_most reorder size m ps
enough reorder size zero m ps few more = sym (at_most_none reorder size m ps (none_by_count ps few))
enough reorder size (suc n) zero ps few more = at_most_none reorder size (suc n) ps (none_by_count ps more)
enough reorder size (suc n) (suc m) ps few more =
    enough_by reorder size n m ps
    (λ w is. let less = lowers ps w is in
    enough reorder size n m (not_needed_at ps w.place) (omega (arith, less, few)) (omega (arith, less, more)))
    (needs_bumping reorder size ps) (next_output ps) refl

bumped_lifts : (ms : List Bool) (reorder : ℕ) (ps : List DpbPicture) → LeavesQuiet ms ps
    → Lifts ms (bumped reorder None ps) (bumped reorder None (thin ms ps))
unfolding bumped
bumped_lifts ms reorder ps quiet =
    let same = needed_thin ms ps quiet in
    let all = count_by-le-length is_needed_for_output ps in
    subst (λ (b : Bumped). Lifts ms (bumped_at_most reorder None (length ps) ps) b)
    (enough reorder None (length ps) (length (thin ms ps)) (thin ms ps) (omega (arith, same, all))
    (count_by-le-length is_needed_for_output (thin ms ps)))
    (lifts ms reorder (length ps) ps quiet)

-- ---- what stays is the same

abbrev shifted : List DpbPicture → ℕ → Type 0
shifted ps from = kept_from (suc from) ps ≡ map suc (kept_from from ps)

kept_shifted : (ps : List DpbPicture) (from : ℕ) → shifted ps from
kept_shifted [] from = refl
kept_shifted (p ∷ ps) from = elim (cases_Bool (is_kept p)) [
  | inl kept ↦ rw kept (ap (λ (ks : List ℕ). suc from ∷ ks) (kept_shifted ps (suc from)))
  | inr gone ↦ rw gone (kept_shifted ps (suc from))
]

places_later : (ms : List Bool) (b : Bool) (ks : List ℕ)
    → map (place_by (b ∷ ms)) (map suc ks) ≡ map (λ k. place_by (b ∷ ms) (suc k)) ks
places_later ms b [] = refl
places_later ms b (k ∷ ks) = ap (λ (js : List ℕ). place_by (b ∷ ms) (suc k) ∷ js) (places_later ms b ks)

suc_places : (ms : List Bool) (ks : List ℕ) → map suc (map (place_by ms) ks) ≡ map (λ k. suc (place_by ms k)) ks
suc_places ms [] = refl
suc_places ms (k ∷ ks) = ap (λ (js : List ℕ). suc (place_by ms k) ∷ js) (suc_places ms ks)

same_places : (ks : List ℕ) → ks ≡ map (place_by []) ks
same_places [] = refl
same_places (k ∷ ks) = ap (λ (js : List ℕ). k ∷ js) (same_places ks)

kept_thin : (ms : List Bool) (ps : List DpbPicture) → LeavesQuiet ms ps
    → kept_from 0 ps ≡ map (place_by ms) (kept_from 0 (thin ms ps))
kept_thin [] ps quiet = same_places (kept_from 0 ps)
kept_thin (b ∷ ms) [] quiet = refl
kept_thin (true ∷ ms) (p ∷ ps) quiet =
    let whole : kept_from 1 ps ≡ map (λ k. suc (place_by ms k)) (kept_from 0 (thin ms ps))
    = kept_shifted ps 0 ∙ ap (map suc) (kept_thin ms ps quiet) ∙ suc_places ms (kept_from 0 (thin ms ps)) in
    let part : map (place_by (true ∷ ms)) (kept_from 1 (thin ms ps))
    ≡ map (λ k. suc (place_by ms k)) (kept_from 0 (thin ms ps))
    = ap (map (place_by (true ∷ ms))) (kept_shifted (thin ms ps) 0) ∙ places_later ms true (kept_from 0 (thin ms ps)) in
    elim (cases_Bool (is_kept p)) [
      | inl kept ↦ rw kept (ap (λ (ks : List ℕ). 0 ∷ ks) (whole ∙ sym part))
      | inr gone ↦ rw gone (whole ∙ sym part)
    ]
kept_thin (false ∷ ms) (p ∷ ps) quiet =
    let whole : kept_from 1 ps ≡ map (λ k. suc (place_by ms k)) (kept_from 0 (thin ms ps))
    = kept_shifted ps 0 ∙ ap (map suc) (kept_thin ms ps quiet.1) ∙ suc_places ms (kept_from 0 (thin ms ps)) in
    rw quiet.0 whole

filter_thin : (ms : List Bool) (ps : List DpbPicture) → LeavesQuiet ms ps
    → filter is_kept ps ≡ filter is_kept (thin ms ps)
filter_thin [] ps quiet = refl
filter_thin (b ∷ ms) [] quiet = refl
filter_thin (true ∷ ms) (p ∷ ps) quiet = elim (cases_Bool (is_kept p)) [
  | inl kept ↦ rw kept (ap (λ (qs : List DpbPicture). p ∷ qs) (filter_thin ms ps quiet))
  | inr gone ↦ rw gone (filter_thin ms ps quiet)
]
filter_thin (false ∷ ms) (p ∷ ps) quiet = rw quiet.0 (filter_thin ms ps quiet.1)

-- ---- the buffer that a start leaves, with one picture more

abbrev mask : List DpbPicture → List Bool
mask ps = map is_kept ps

thin_by : (b : Bool) (ms : List Bool) (p : DpbPicture) (ps : List DpbPicture)
    → thin (b ∷ ms) (p ∷ ps) ≡ (if b then p ∷ thin ms ps else thin ms ps)
thin_by true ms p ps = refl
thin_by false ms p ps = refl

thin_placed : (ps : List DpbPicture) (q : DpbPicture) → thin (mask ps) (ps ++ q ∷ []) ≡ filter is_kept ps ++ q ∷ []
thin_placed [] q = refl
thin_placed (p ∷ ps) q = thin_by (is_kept p) (mask ps) p (ps ++ q ∷ []) ∙ elim (cases_Bool (is_kept p)) [
  | inl kept ↦ rw kept (ap (λ (qs : List DpbPicture). p ∷ qs) (thin_placed ps q))
  | inr gone ↦ rw gone (thin_placed ps q)
]

quiet_by : (b : Bool) (ms : List Bool) (p : DpbPicture) (ps : List DpbPicture) → is_kept p ≡ b → LeavesQuiet ms ps
    → LeavesQuiet (b ∷ ms) (p ∷ ps)
quiet_by true ms p ps is quiet = quiet
quiet_by false ms p ps is quiet = (is, quiet)

quiet_placed : (ps : List DpbPicture) (q : DpbPicture) → LeavesQuiet (mask ps) (ps ++ q ∷ [])
quiet_placed [] q = tt
quiet_placed (p ∷ ps) q = quiet_by (is_kept p) (mask ps) p (ps ++ q ∷ []) refl (quiet_placed ps q)

placed_lifts : (reorder : ℕ) (ps : List DpbPicture) (q : DpbPicture)
    → Lifts (mask ps) (bumped reorder None (ps ++ q ∷ [])) (bumped reorder None (filter is_kept ps ++ q ∷ []))
placed_lifts reorder ps q =
    subst (λ (qs : List DpbPicture). Lifts (mask ps) (bumped reorder None (ps ++ q ∷ [])) (bumped reorder None qs))
    (thin_placed ps q) (bumped_lifts (mask ps) reorder (ps ++ q ∷ []) (quiet_placed ps q))

-- ---- places

abbrev IsPlace : List DpbPicture → ℕ → ℕ → ℕ → Type 0
IsPlace ps from d k = k ≤ length (kept_from from ps) → from + place_by (mask ps) k ≡ get_or (kept_from from ps) k d

place_kept : (p : DpbPicture) (ps : List DpbPicture) (from d k : ℕ) (b : Bool) → is_kept p ≡ b
    → d ≡ from + suc (length ps)
    → ((j : ℕ) → j ≤ length (kept_from (suc from) ps)
    → suc from + place_by (mask ps) j ≡ get_or (kept_from (suc from) ps) j d)
    → k ≤ length (if b then from ∷ kept_from (suc from) ps else kept_from (suc from) ps)
    → from + place_by (b ∷ mask ps) k
    ≡ get_or (if b then from ∷ kept_from (suc from) ps else kept_from (suc from) ps) k d
place_kept p ps from d zero true is e rest l = omega arith
place_kept p ps from d (suc k) true is e rest l = let later = rest k (omega (arith, l)) in omega (arith, later)
place_kept p ps from d k false is e rest l = let later = rest k l in omega (arith, later)

-- a picture that stays stands in the whole buffer where the kept places say so, and one behind them behind all
place_is : (ps : List DpbPicture) (from d k : ℕ) → d ≡ from + length ps → k ≤ length (kept_from from ps)
    → from + place_by (mask ps) k ≡ get_or (kept_from from ps) k d
place_is [] from d k e l = omega (arith, e, l)
place_is (p ∷ ps) from d k e l =
    place_kept p ps from d k (is_kept p) refl e (λ j m. place_is ps (suc from) d j (omega (arith, e)) m) l

maps_same : (f g : ℕ → ℕ) (n : ℕ) (ks : List ℕ) → ((k : ℕ) → k < n → f k ≡ g k) → All (λ (k : ℕ). k < n) ks
    → map f ks ≡ map g ks
maps_same f g n [] same all = refl
maps_same f g n (k ∷ ks) same all =
    rw (same k (All-head (λ (k : ℕ). k < n) k ks all), maps_same f g n ks same (All-tail (λ (k : ℕ). k < n) k ks all))
    refl

-- the places of a bumping behind a placing, by the places before the start
map_places : (ps : List DpbPicture) (size : ℕ) (ks : List ℕ) → size ≡ length ps
    → All (λ (k : ℕ). k < length (filter is_kept ps) + 1) ks
    → map (place_by (mask ps)) ks ≡ map (place_before size (kept_from 0 ps)) ks
map_places ps size ks e inside =
    let many = as_many ps 0 in
    maps_same (place_by (mask ps)) (place_before size (kept_from 0 ps)) (length (filter is_kept ps) + 1) ks
    (λ k l. let is = place_is ps 0 size k (omega (arith, e)) (omega (arith, l, many)) in omega (arith, is)) inside

placed_length : (ps : List DpbPicture) (q : DpbPicture)
    → length (filter is_kept ps ++ q ∷ []) ≡ length (filter is_kept ps) + 1
placed_length ps q = length-append (filter is_kept ps) (q ∷ [])

placed_out : (reorder : ℕ) (ps : List DpbPicture) (q : DpbPicture)
    → All (λ (k : ℕ). k < length (filter is_kept ps) + 1) (bumped reorder None (filter is_kept ps ++ q ∷ [])).out
placed_out reorder ps q =
    run_inside reorder None (filter is_kept ps ++ q ∷ []) _ _ (bumps reorder None (filter is_kept ps ++ q ∷ []))
    (length (filter is_kept ps) + 1) (placed_length ps q)

placed_kept : (reorder : ℕ) (ps : List DpbPicture) (q : DpbPicture)
    → All (λ (k : ℕ). k < length (filter is_kept ps) + 1)
    (kept_from 0 (bumped reorder None (filter is_kept ps ++ q ∷ [])).left)
placed_kept reorder ps q =
    let b = bumped reorder None (filter is_kept ps ++ q ∷ []) in
    let long = placed_length ps q in
    let left =
    run_length reorder None (filter is_kept ps ++ q ∷ []) b.out b.left
    (bumps reorder None (filter is_kept ps ++ q ∷ [])) in
    All-from_get_or (λ (k : ℕ). k < length (filter is_kept ps) + 1) (kept_from 0 b.left) 0 (λ at l.
    let from = comes_from b.left 0 at l in
    let inside = from.inside in
    let place = from.is in
    omega (arith, inside, place, left, long))

both_steps : (reorder size : ℕ) (s : Bumped) (q : DpbPicture) → size ≡ length s.left
    → outputs_by s.out (bumped reorder None (s.left ++ q ∷ []))
    ≡ start_then_place size (before_only s) (outputs_by [] (bumped reorder None (filter is_kept s.left ++ q ∷ [])))
both_steps reorder size s q e =
    let whole = bumped reorder None (s.left ++ q ∷ []) in
    let part = bumped reorder None (filter is_kept s.left ++ q ∷ []) in
    let same = placed_lifts reorder s.left q in
    let behind : whole.out ≡ map (place_before size (kept_from 0 s.left)) part.out
    = same.out ∙ map_places s.left size part.out e (placed_out reorder s.left q) in
    let kept : kept_from 0 whole.left ≡ map (place_before size (kept_from 0 s.left)) (kept_from 0 part.left)
    =
    kept_thin (mask s.left) whole.left same.quiet
    ∙ ap (λ (qs : List DpbPicture). map (place_by (mask s.left)) (kept_from 0 qs)) same.left
    ∙ map_places s.left size (kept_from 0 part.left) e (placed_kept reorder s.left q) in
    let dpb : filter is_kept whole.left ≡ filter is_kept part.left
    = filter_thin (mask s.left) whole.left same.quiet ∙ ap (filter is_kept) same.left in
    rw (behind, kept, dpb) refl

-- what a picture puts out, and leaves, is its start and then its placing
pub in_two_steps : (current : CurrentPicture) (dpb : List DpbPicture) (marks : List Mark)
    → outputs_of current dpb marks ≡ started_and_placed current dpb marks
unfolding outputs_of ended start_outputs place_outputs
in_two_steps current dpb marks =
    let s = started current (all_marked dpb marks) in
    let same = (is_started current (all_marked dpb marks)).same in
    let long = marked_length dpb marks in
    both_steps current.ordering.max_num_reorder_pics (length dpb) s (newest current.poc current.pic_output_flag)
    (omega (arith, same, long))
