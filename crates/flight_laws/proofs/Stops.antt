-- A stop is for good.
use Rattle.std.proofs.Common.{◌≡◌, ℕ, Bool, true, false, not, ◌&&◌, cond, List, [], ◌∷◌, ◌++◌, All, Some, Result, Ok}
use Rattle.std.proofs.Common.{Err}
use Rattle.std.proofs.Common.{refl, sym, ap, subst, ◌∙◌, append-nil, length, drop}
use Rattle.std.proofs.Math.Seq.{drop-append_seam}
use Rattle.std.proofs.lemmas.List.Elements.{All-nil, All-cons}
use Rattle.hv_base.specs.declared.refusal.Stop.{Stop}
use Rattle.plan_types.specs.declared.picture_plan.PicturePlan.{PicturePlan}
use Rattle.plan_types.specs.declared.between.Between.{Between}
use Rattle.spec_nal_units.specs.Units.{Part, Raw, Stray, parts_of}
use Rattle.spec_nal_units.specs.Judged.{Told, Whole, Broken, Met, judged, next_number, then_told, told_from, told_of}
use Rattle.spec_nal_units.specs.Judged.{broken, unit_of}
use Rattle.hv_base.specs.declared.fault.FaultKind.TheVariants as rule
use Rattle.spec_nal_units.proofs.Going.{told_of-go}
use Rattle.nal_stream.specs.declared.answer.Next.{Next}
use Rattle.nal_stream.specs.declared.answer.Next.TheVariants as next
use Rattle.nal_stream.specs.Framing.{History, IsNext, with_answer}
use Rattle.spec_picture_plan.specs.Steps.{Stepped, step}
use Rattle.spec_picture_plan.specs.Planned.{Planned, behind_closed, planned_from, planned_next, planned_of}
use Rattle.spec_picture_plan.proofs.Fronts.{of_extends}
use Rattle.picture_plan.specs.Flights.{Gathered, cut_at_stop, waiting, with_pictures}
use Rattle.picture_plan.specs.Plans.{Given, Plans, at_end, behind_unit, halted, stepped}
use Rattle.nal_stream.specs.Answers.{told_by}
use Rattle.picture_plan.proofs.Pictures.{cut-none}
use Rattle.flight_laws.specs.Stops.{Answers, AreCalls, ByFinish, ByHalt, ByUnit, Feed, Finish, Answer, FramerCall}
use Rattle.flight_laws.specs.Stops.{GiveNothing, IsCall, IsStop, IsStopped, PlannerCall, behind_call, given_by}
use Rattle.flight_laws.specs.Stops.{has_stopped, nothing_given}
use Rattle.flight_laws.proofs.Calls.{end-none, halted-none}

-- ---- framing

-- nothing stands behind a broken rule or a limit
abbrev EndsAtStop : List Told → Type 0
EndsAtStop [] = Unit {0}
EndsAtStop (Whole u ∷ later) = EndsAtStop later
EndsAtStop (Broken f ∷ later) = later ≡ []
EndsAtStop (Met l ∷ later) = later ≡ []

then_ends : (t : Told) (later : List Told) → EndsAtStop later → EndsAtStop (then_told t later)
then_ends (Whole u) later ends = ends
then_ends (Broken f) later ends = refl
then_ends (Met l) later ends = refl

none_ends : (b : Bool) (t : Told) → EndsAtStop (cond b (then_told t []) [])
none_ends true t = then_ends t [] tt
none_ends false t = tt

from_ends : (began ended : Bool) (n : ℕ) (ps : List Part) → EndsAtStop (told_from began ended n ps)
from_ends began ended n [] = none_ends (ended && not began) (broken rule.NoNal 0)
from_ends began ended n (Raw u ∷ ps) =
    then_ends (judged n u) (told_from true ended (next_number n) ps) (from_ends true ended (next_number n) ps)
from_ends began ended n (Stray ∷ ps) = refl

nothing_behind : (xs later : List Told) → has_stopped xs ≡ true → EndsAtStop (xs ++ later) → later ≡ []
nothing_behind [] later stopped ends = absurd cc
nothing_behind (Whole u ∷ xs) later stopped ends = nothing_behind xs later stopped ends
nothing_behind (Broken f ∷ []) later stopped ends = ends
nothing_behind (Broken f ∷ x ∷ xs) later stopped ends = absurd cc
nothing_behind (Met l ∷ []) later stopped ends = ends
nothing_behind (Met l ∷ x ∷ xs) later stopped ends = absurd cc

pub framing_stays : (front rest : List ℕ) (ended : Bool) → has_stopped (told_of false front) ≡ true
    → told_of ended (front ++ rest) ≡ told_of false front
framing_stays front rest ended stopped =
    let told = told_of-go front rest ended in
    let none : told.0 ≡ [] = nothing_behind (told_of false front) told.0 stopped
    (subst EndsAtStop told.1 (from_ends false ended 0 (parts_of ended (front ++ rest)))) in
    told.1 ∙ ap (λ ts. told_of false front ++ ts) none ∙ append-nil (told_of false front)

-- ---- a framer

-- what a broken rule or a limit is told as
stop_told : (n : Next) → IsStop n → Told
stop_told (next.Unit u) is = absurd is
stop_told (next.Fault f) is = Broken f
stop_told (next.Limit l) is = Met l
stop_told next.More is = absurd is
stop_told next.End is = absurd is

next_told : (h : History) (n : Next) (is : IsStop n) → IsNext h n
    → told_of h.finished h.fed ≡ h.given ++ stop_told n is ∷ []
unfolding stop_told
next_told h (next.Unit u) is told = absurd is
next_told h (next.Fault f) is told = told
next_told h (next.Limit l) is told = told
next_told h next.More is told = absurd is
next_told h next.End is told = absurd is

told_next : (h : History) (n : Next) (is : IsStop n)
    → told_of h.finished h.fed ≡ h.given ++ stop_told n is ∷ [] → IsNext h n
unfolding stop_told
told_next h (next.Unit u) is told = absurd is
told_next h (next.Fault f) is told = told
told_next h (next.Limit l) is told = told
told_next h next.More is told = absurd is
told_next h next.End is told = absurd is

stop_stops : (n : Next) (is : IsStop n) (xs : List Told) → has_stopped (xs ++ stop_told n is ∷ []) ≡ true
unfolding stop_told
stop_stops n is (Whole u ∷ xs) = stop_stops n is xs
stop_stops n is (Broken f ∷ xs) = refl
stop_stops n is (Met l ∷ xs) = refl
stop_stops (next.Unit u) is [] = absurd is
stop_stops (next.Fault f) is [] = refl
stop_stops (next.Limit l) is [] = refl
stop_stops next.More is [] = absurd is
stop_stops next.End is [] = absurd is

-- behind bytes or the end of the input the same is next
more_next : (h g : History) (n : Next) (is : IsStop n) (rest : List ℕ) → h.finished ≡ false
    → g.fed ≡ h.fed ++ rest → g.given ≡ h.given → IsNext h n → IsNext g n
more_next h g n is rest going fed given now =
    let told : told_of false h.fed ≡ h.given ++ stop_told n is ∷ [] =
    ap (λ b. told_of b h.fed) (sym going) ∙ next_told h n is now in
    let stopped : has_stopped (told_of false h.fed) ≡ true = ap has_stopped told ∙ stop_stops n is h.given in
    told_next g n is
    (ap (told_of g.finished) fed ∙ framing_stays h.fed rest g.finished stopped ∙ told
    ∙ ap (λ ts. ts ++ stop_told n is ∷ []) (sym given))

ended_next : (h : History) (n : Next) (b : Bool) → h.finished ≡ b → IsStop n → IsNext h n
    → IsNext (behind_call h Finish) n
ended_next h n false going stop now =
    more_next h (behind_call h Finish) n stop [] going (sym (append-nil h.fed)) refl now
ended_next h n true closed stop now =
    told_next (behind_call h Finish) n stop (ap (λ b. told_of b h.fed) (sym closed) ∙ next_told h n stop now)

first : List Told → List Told
first [] = []
first (t ∷ ts) = t ∷ []

behind_given : (ts given rest : List Told) → ts ≡ given ++ rest → first (drop (length given) ts) ≡ first rest
behind_given ts given rest e = ap (λ us. first (drop (length given) us)) e ∙ ap first (drop-append_seam given rest)

-- what an answer tells is the first of what is told behind the units given
answer_told : (h : History) (n : Next) → IsNext h n
    → told_by n ≡ first (drop (length h.given) (told_of h.finished h.fed))
unfolding first
answer_told h (next.Unit u) is = sym (behind_given _ h.given (Whole (unit_of u) ∷ is.0) is.1)
answer_told h (next.Fault f) is = sym (behind_given _ h.given (Broken f ∷ []) is)
answer_told h (next.Limit l) is = sym (behind_given _ h.given (Met l ∷ []) is)
answer_told h next.More is =
    sym (behind_given _ h.given [] (ap (λ b. told_of b h.fed) is.0 ∙ is.1 ∙ sym (append-nil h.given)))
answer_told h next.End is =
    sym (behind_given _ h.given [] (ap (λ b. told_of b h.fed) is.0 ∙ is.1 ∙ sym (append-nil h.given)))

same_stop : (n m : Next) → IsStop n → told_by m ≡ told_by n → m ≡ n
same_stop (next.Fault f) (next.Unit u) is e = absurd cc
same_stop (next.Fault f) (next.Fault g) is e = cc
same_stop (next.Fault f) (next.Limit l) is e = absurd cc
same_stop (next.Fault f) next.More is e = absurd cc
same_stop (next.Fault f) next.End is e = absurd cc
same_stop (next.Limit k) (next.Unit u) is e = absurd cc
same_stop (next.Limit k) (next.Fault f) is e = absurd cc
same_stop (next.Limit k) (next.Limit l) is e = cc
same_stop (next.Limit k) next.More is e = absurd cc
same_stop (next.Limit k) next.End is e = absurd cc
same_stop (next.Unit u) m is e = absurd is
same_stop next.More m is e = absurd is
same_stop next.End m is e = absurd is

same_answer : (h : History) (n m : Next) → IsStop n → IsNext h n → IsNext h m → m ≡ n
same_answer h n m is now then = same_stop n m is (answer_told h m then ∙ sym (answer_told h n now))

stop_next : (h : History) (n : Next) → IsStop n → IsNext h n → IsNext (with_answer h n) n
stop_next h (next.Unit u) is now = absurd is
stop_next h (next.Fault f) is now = now
stop_next h (next.Limit l) is now = now
stop_next h next.More is now = absurd is
stop_next h next.End is now = absurd is

call_next : (h : History) (n : Next) (call : FramerCall) → IsStop n → IsNext h n → IsCall h call
    → IsNext (behind_call h call) n × Answers n call
call_next h n (Feed piece) is now does =
    (more_next h (behind_call h (Feed piece)) n is piece does refl refl now, tt)
call_next h n Finish is now does = (ended_next h n h.finished refl is now, tt)
call_next h n (Answer m) is now does =
    let same = same_answer h n m is now does in
    (subst (λ k. IsNext (with_answer h k) n) (sym same) (stop_next h n is now), same)

pub all_answer : (h : History) (n : Next) (calls : List FramerCall) → IsStop n → IsNext h n → AreCalls h calls
    → All (Answers n) calls
all_answer h n [] is now are = All-nil (Answers n)
all_answer h n (call ∷ calls) is now are =
    let step = call_next h n call is now are.0 in
    All-cons (Answers n) call calls step.1 (all_answer (behind_call h call) n calls is step.0 are.1)

-- ---- planning

next_stays : (r : Result Between Stop) (closed : List PicturePlan) (f g : Between → Planned) (e : Stop)
    → ((s : Between) → (f s).stop ≡ Some e → g s ≡ f s)
    → (behind_closed closed (planned_next r f)).stop ≡ Some e
    → behind_closed closed (planned_next r g) ≡ behind_closed closed (planned_next r f)
next_stays (Err x) closed f g e stays is = refl
next_stays (Ok s) closed f g e stays is = ap (behind_closed closed) (stays s is)

pub units_stay : (s : Between) (told later : List Told) (ended : Bool) (e : Stop)
    → (planned_from false s told).stop ≡ Some e → planned_from ended s (told ++ later) ≡ planned_from false s told
units_stay s [] later ended e is = absurd cc
units_stay s (t ∷ ts) later ended e is =
    next_stays (step s t).next (step s t).closed (λ n. planned_from false n ts)
    (λ n. planned_from ended n (ts ++ later))
    e (λ n stop. units_stay n ts later ended e stop) is

pub bytes_stay : (front rest : List ℕ) (ended : Bool) (e : Stop) → (planned_of false front).stop ≡ Some e
    → planned_of ended (front ++ rest) ≡ planned_of false front
bytes_stay front rest ended e is = (of_extends front rest ended).stopped e is

-- ---- a planner

stop-none : (next : Result Between Stop) (g : Gathered) (e : Stop) → next ≡ Err e → (cut_at_stop next g).pending ≡ []
stop-none (Ok s) g e is = absurd cc
stop-none (Err x) g e is = cut-none g

unit_stops : (ahead : ℕ) (pending : List PicturePlan) (next : Result Between Stop) (told : List Told) (s : Between)
    (e : Stop)
    → next ≡ Ok s
    → (behind_unit (record { ahead = ahead; pending = pending; next = next }) told).left.next ≡ Err e
    → IsStopped e (behind_unit (record { ahead = ahead; pending = pending; next = next }) told).left
unfolding behind_unit
unit_stops ahead pending (Err x) told s e going is = absurd cc
unit_stops ahead pending (Ok n) told s e going is =
    let t : Stepped = stepped n told in
    record { next = is; none = stop-none t.next (with_pictures ahead (waiting pending) t.closed) e is }

pub call_stops : (p : Plans) (call : PlannerCall) (s : Between) (e : Stop) → p.next ≡ Ok s
    → (given_by p call).left.next ≡ Err e → IsStopped e (given_by p call).left
call_stops p (ByUnit told) s e going is = unit_stops p.ahead p.pending p.next told s e going is
call_stops p ByFinish s e going is = record { next = is; none = end-none p }
call_stops p ByHalt s e going is = record { next = is; none = halted-none p }

gives_nothing : (ahead : ℕ) (pending : List PicturePlan) (next : Result Between Stop) (call : PlannerCall) (e : Stop)
    → next ≡ Err e → pending ≡ []
    → given_by (record { ahead = ahead; pending = pending; next = next }) call
    ≡ nothing_given (record { ahead = ahead; pending = pending; next = next })
unfolding behind_unit at_end halted
gives_nothing ahead (p ∷ ps) next call e is none = absurd cc
gives_nothing ahead [] (Ok s) call e is none = absurd cc
gives_nothing ahead [] (Err x) (ByUnit told) e is none = refl
gives_nothing ahead [] (Err x) ByFinish e is none = refl
gives_nothing ahead [] (Err x) ByHalt e is none = refl

pub give_nothing : (p : Plans) (e : Stop) (calls : List PlannerCall) → IsStopped e p → GiveNothing p calls
give_nothing p e [] stopped = tt
give_nothing p e (call ∷ calls) stopped =
    let nothing = gives_nothing p.ahead p.pending p.next call e stopped.next stopped.none in
    (nothing, subst (λ (g : Given). GiveNothing g.left calls) (sym nothing) (give_nothing p e calls stopped))
