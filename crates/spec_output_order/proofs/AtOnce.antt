-- Where no picture is needed for output, one that may not be reordered goes out at once.
use Rattle.std.proofs.Common.{◌≡◌, ◌∙◌, ℕ, zero, suc, ◌+◌, Bool, true, false, List, [], ◌∷◌, ◌++◌, length, Option}
use Rattle.std.proofs.Common.{Some}
use Rattle.std.proofs.Common.{None, if◌then◌else◌, arith, refl, ap, length-append}
use Rattle.std.proofs.lemmas.List.{length-map}
use Rattle.std.specs.List.{count_by}
use Rattle.std.proofs.lemmas.List.Elements.{All-nil, All-cons, All-head, All-tail, All-append, All-filter}
use Rattle.header_types.specs.declared.reference_pictures.DpbPicture.{DpbPicture}
use Rattle.header_types.specs.declared.reference_pictures.Mark.{Mark}
use Rattle.header_types.specs.declared.reference_pictures.Mark.TheVariants as mark
use Rattle.spec_output_order.specs.declared.current_picture.CurrentPicture.{CurrentPicture}
use Rattle.spec_output_order.specs.declared.next_output.NextOutput.{NextOutput}
use Rattle.spec_output_order.specs.OutputOrder.{Bumped, GoesOutAtOnce, NoneNeededForOutput, all_marked, bumped}
use Rattle.spec_output_order.specs.OutputOrder.{discarded, bumped_at_most, ended, entered, not_needed, needs_bumping}
use Rattle.spec_output_order.specs.OutputOrder.{is_kept, marked, next_from, next_output, none_out, last_outputs}
use Rattle.spec_output_order.specs.OutputOrder.{outputs_of, not_needed_at, started, is_needed_for_output}
use Rattle.spec_output_order.proofs.Counts.{count-cons}

abbrev IsQuiet : DpbPicture → Type 0
IsQuiet p = p.needed_for_output ≡ false

-- ---- nothing goes out where none is needed for output

next_none : (pictures : List DpbPicture) → NoneNeededForOutput pictures → next_output pictures ≡ None
next_none [] quiet = refl
next_none (p ∷ pictures) quiet =
    rw (next_none pictures (All-tail IsQuiet p pictures quiet), All-head IsQuiet p pictures quiet) refl

bumped_by : (reorder : ℕ) (size : Option ℕ) (n : ℕ) (pictures : List DpbPicture) (needs : Bool)
    (next : Option NextOutput)
    → next ≡ None
    → (if needs then next_from pictures next (bumped_at_most reorder size n) else none_out pictures) ≡ none_out pictures
bumped_by reorder size n pictures false next is = refl
bumped_by reorder size n pictures true next is = rw is refl

pub at_most_none : (reorder : ℕ) (size : Option ℕ) (n : ℕ) (pictures : List DpbPicture) → NoneNeededForOutput pictures
    → bumped_at_most reorder size n pictures ≡ none_out pictures
at_most_none reorder size zero pictures quiet = refl
at_most_none reorder size (suc n) pictures quiet =
    bumped_by reorder size n pictures (needs_bumping reorder size pictures) (next_output pictures)
    (next_none pictures quiet)

bumped_none : (reorder : ℕ) (size : Option ℕ) (pictures : List DpbPicture) → NoneNeededForOutput pictures
    → bumped reorder size pictures ≡ none_out pictures
unfolding bumped
bumped_none reorder size pictures quiet = at_most_none reorder size (length pictures) pictures quiet

marked_none : (pictures : List DpbPicture) (marks : List Mark) → NoneNeededForOutput pictures
    → NoneNeededForOutput (all_marked pictures marks)
marked_none [] marks quiet = All-nil IsQuiet
marked_none (p ∷ pictures) [] quiet =
    All-cons IsQuiet (marked p mark.Unused) (all_marked pictures []) (All-head IsQuiet p pictures quiet)
    (marked_none pictures [] (All-tail IsQuiet p pictures quiet))
marked_none (p ∷ pictures) (m ∷ marks) quiet =
    All-cons IsQuiet (marked p m) (all_marked pictures marks) (All-head IsQuiet p pictures quiet)
    (marked_none pictures marks (All-tail IsQuiet p pictures quiet))

pub discarded_none : (pictures : List DpbPicture) → NoneNeededForOutput (discarded pictures)
discarded_none [] = All-nil IsQuiet
discarded_none (p ∷ pictures) = All-cons IsQuiet (not_needed p) (discarded pictures) refl (discarded_none pictures)

-- nothing goes out before the current picture
record IsQuietStart (size : ℕ) (e : Bumped) : Type 0 where
  out : e.out ≡ []
  left : NoneNeededForOutput e.left
  same : length e.left ≡ size

quiet_start : (pictures : List DpbPicture) (e : Bumped) → e ≡ none_out pictures → NoneNeededForOutput pictures
    → IsQuietStart (length pictures) e
quiet_start pictures e is quiet = rw is (record { out = refl; left = quiet; same = refl })

started_by : (reorder : ℕ) (size : Option ℕ) (pictures : List DpbPicture) (anew discards : Bool)
    → NoneNeededForOutput pictures
    → IsQuietStart (length pictures) (if anew
    then (if discards then none_out (discarded pictures) else bumped 0 None pictures)
    else bumped reorder size pictures)
started_by reorder size pictures true true quiet =
    record { out = refl; left = discarded_none pictures; same = length-map pictures not_needed }
started_by reorder size pictures true false quiet =
    quiet_start pictures (bumped 0 None pictures) (bumped_none 0 None pictures quiet) quiet
started_by reorder size pictures false discards quiet =
    quiet_start pictures (bumped reorder size pictures) (bumped_none reorder size pictures quiet) quiet

started_none : (current : CurrentPicture) (pictures : List DpbPicture) → NoneNeededForOutput pictures
    → IsQuietStart (length pictures) (started current pictures)
unfolding started
started_none current pictures quiet =
    started_by current.ordering.max_num_reorder_pics (Some (current.ordering.max_dec_pic_buffering_minus1 + 1)) pictures
    current.begins_anew current.no_output_of_prior_pics_flag quiet

-- ---- the one picture that is needed for output goes out

next_last : (pictures : List DpbPicture) (q : DpbPicture) → NoneNeededForOutput pictures → q.needed_for_output ≡ true
    → next_output (pictures ++ q ∷ []) ≡ Some (record { place = length pictures; poc = q.poc })
next_last [] q quiet needed = rw needed refl
next_last (p ∷ pictures) q quiet needed =
    rw (next_last pictures q (All-tail IsQuiet p pictures quiet) needed, All-head IsQuiet p pictures quiet) refl

put_last : (pictures : List DpbPicture) (q : DpbPicture)
    → not_needed_at (pictures ++ q ∷ []) (length pictures) ≡ pictures ++ not_needed q ∷ []
put_last [] q = refl
put_last (p ∷ pictures) q = ap (λ (ps : List DpbPicture). p ∷ ps) (put_last pictures q)

pub none_count : (pictures : List DpbPicture) → NoneNeededForOutput pictures
    → count_by is_needed_for_output pictures ≡ 0
none_count [] quiet = refl
none_count (p ∷ pictures) quiet =
    count-cons is_needed_for_output p pictures
    ∙ rw (All-head IsQuiet p pictures quiet, none_count pictures (All-tail IsQuiet p pictures quiet)) refl

one_count : (pictures : List DpbPicture) (q : DpbPicture) → NoneNeededForOutput pictures → q.needed_for_output ≡ true
    → count_by is_needed_for_output (pictures ++ q ∷ []) ≡ 1
one_count [] q quiet needed = count-cons is_needed_for_output q [] ∙ rw needed refl
one_count (p ∷ pictures) q quiet needed =
    count-cons is_needed_for_output p (pictures ++ q ∷ [])
    ∙ rw (All-head IsQuiet p pictures quiet, one_count pictures q (All-tail IsQuiet p pictures quiet) needed) refl

one_needs : (pictures : List DpbPicture) (q : DpbPicture) → NoneNeededForOutput pictures → q.needed_for_output ≡ true
    → needs_bumping 0 None (pictures ++ q ∷ []) ≡ true
unfolding needs_bumping
one_needs pictures q quiet needed = rw (one_count pictures q quiet needed) refl

none_pushed : (pictures : List DpbPicture) (q : DpbPicture) → NoneNeededForOutput pictures
    → NoneNeededForOutput (pictures ++ not_needed q ∷ [])
none_pushed pictures q quiet =
    All-append IsQuiet pictures (not_needed q ∷ []) quiet (All-cons IsQuiet (not_needed q) [] refl (All-nil IsQuiet))

at_most_once : (n : ℕ) (pictures : List DpbPicture) (q : DpbPicture) → NoneNeededForOutput pictures
    → q.needed_for_output ≡ true
    → bumped_at_most 0 None (suc n) (pictures ++ q ∷ [])
    ≡ record { out = length pictures ∷ []; left = pictures ++ not_needed q ∷ [] }
at_most_once n pictures q quiet needed =
    rw (
      one_needs pictures q quiet needed,
      next_last pictures q quiet needed,
      put_last pictures q,
      at_most_none 0 None n (pictures ++ not_needed q ∷ []) (none_pushed pictures q quiet),
    )
    refl

bumped_once : (pictures : List DpbPicture) (q : DpbPicture) → NoneNeededForOutput pictures → q.needed_for_output ≡ true
    → bumped 0 None (pictures ++ q ∷ []) ≡ record { out = length pictures ∷ []; left = pictures ++ not_needed q ∷ [] }
unfolding bumped
bumped_once pictures q quiet needed =
    let one : length (pictures ++ q ∷ []) ≡ suc (length pictures) = omega (arith, length-append pictures (q ∷ [])) in
    ap (λ (n : ℕ). bumped_at_most 0 None n (pictures ++ q ∷ [])) one
    ∙ at_most_once (length pictures) pictures q quiet needed

ended_once : (current : CurrentPicture) (pictures : List DpbPicture) → NoneNeededForOutput pictures
    → current.pic_output_flag ≡ true → current.ordering.max_num_reorder_pics ≡ 0
    → (ended current pictures).out ≡ length pictures ∷ [] × NoneNeededForOutput (ended current pictures).left
unfolding ended
ended_once current pictures quiet shown none =
    let q : DpbPicture = record { poc = current.poc; mark = mark.Short; needed_for_output = current.pic_output_flag } in
    let e : bumped current.ordering.max_num_reorder_pics None (entered current pictures)
    ≡ record { out = length pictures ∷ []; left = pictures ++ not_needed q ∷ [] }
    = ap (λ (n : ℕ). bumped n None (pictures ++ q ∷ [])) none ∙ bumped_once pictures q quiet shown in
    rw e (refl, none_pushed pictures q quiet)

pub marked_length : (pictures : List DpbPicture) (marks : List Mark)
    → length (all_marked pictures marks) ≡ length pictures
marked_length [] marks = refl
marked_length (p ∷ pictures) [] = let rest = marked_length pictures [] in omega (arith, rest)
marked_length (p ∷ pictures) (m ∷ marks) = let rest = marked_length pictures marks in omega (arith, rest)

pub at_once : (current : CurrentPicture) (dpb : List DpbPicture) (marks : List Mark) → NoneNeededForOutput dpb
    → current.pic_output_flag ≡ true → current.ordering.max_num_reorder_pics ≡ 0
    → GoesOutAtOnce (length dpb) (outputs_of current dpb marks)
unfolding outputs_of
at_once current dpb marks quiet shown none =
    let begun = started_none current (all_marked dpb marks) (marked_none dpb marks quiet) in
    let goes = ended_once current (started current (all_marked dpb marks)).left begun.left shown none in
    record {
      before = begun.out;
      behind = goes.0 ∙ ap (λ (n : ℕ). n ∷ []) (begun.same ∙ marked_length dpb marks);
      left = All-filter is_kept IsQuiet (ended current (started current (all_marked dpb marks)).left).left goes.1;
    }

-- where none is needed for output, none goes out at the end
pub none_last : (dpb : List DpbPicture) → NoneNeededForOutput dpb → last_outputs dpb ≡ []
unfolding last_outputs
none_last dpb quiet = ap (λ (e : Bumped). e.out) (bumped_none 0 None dpb quiet)
