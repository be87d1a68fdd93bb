-- Calls of a framer and of a planner, and what each gives where a broken rule or a limit stopped the stream before.
use Rattle.std.specs.Prelude.{◌≡◌, ⊤, ℕ, Bool, true, false, List, [], ◌∷◌, Err}
use Rattle.hv_base.specs.declared.refusal.Stop.{Stop}
use Rattle.spec_nal_units.specs.Judged.{Told, Whole, Broken, Met}
use Rattle.nal_stream.specs.declared.answer.Next.{Next}
use Rattle.nal_stream.specs.declared.answer.Next.TheVariants as next
use Rattle.nal_stream.specs.Framing.{History, IsNext, at_end, with_answer, with_piece}
use Rattle.picture_plan.specs.Plans.{Given, Plans, at_end as plans_at_end, behind_unit, halted}

-- whether a broken rule or a limit stands among what was told
abbrev pub has_stopped : List Told → Bool
has_stopped [] = false
has_stopped (Whole u ∷ later) = has_stopped later
has_stopped (Broken f ∷ later) = true
has_stopped (Met l ∷ later) = true

-- an answer of a framer that tells a broken rule or a limit
abbrev pub IsStop : Next → Type 0
IsStop (next.Unit n) = ⊥
IsStop (next.Fault f) = ⊤
IsStop (next.Limit l) = ⊤
IsStop next.More = ⊥
IsStop next.End = ⊥

-- a call of a framer that had memory: bytes that it was fed, the end of the input, or what it answered
pub data FramerCall : Type 0 where
  Feed : List ℕ → FramerCall
  Finish : FramerCall
  Answer : Next → FramerCall

-- the history of a framer behind a call
abbrev pub behind_call : History → FramerCall → History
behind_call h (Feed piece) = with_piece h piece
behind_call h Finish = at_end h
behind_call h (Answer n) = with_answer h n

-- a call of a framer that stands for a history: it isn't fed behind the end, and it answers what is next
abbrev pub IsCall : History → FramerCall → Type 0
IsCall h (Feed piece) = h.finished ≡ false
IsCall h Finish = ⊤
IsCall h (Answer n) = IsNext h n

-- calls one after the other
abbrev pub AreCalls : History → List FramerCall → Type 0
AreCalls h [] = ⊤
AreCalls h (call ∷ later) = IsCall h call × AreCalls (behind_call h call) later

-- what a call answers is this, if it answers
abbrev pub Answers : Next → FramerCall → Type 0
Answers n (Feed piece) = ⊤
Answers n Finish = ⊤
Answers n (Answer m) = m ≡ n

-- a call of a planner that had memory: what a unit tells or what stands in its place, the end of the input, or that no
-- more units come
pub data PlannerCall : Type 0 where
  ByUnit : List Told → PlannerCall
  ByFinish : PlannerCall
  ByHalt : PlannerCall

-- what a call of a planner gives, and what it leaves
abbrev pub given_by : Plans → PlannerCall → Given
given_by p (ByUnit told) = behind_unit p told
given_by p ByFinish = plans_at_end p
given_by p ByHalt = halted p

-- a planner that is stopped so: no picture waits for its flight's end
pub record IsStopped (e : Stop) (p : Plans) : Type 0 where
  pub next : p.next ≡ Err e
  pub none : p.pending ≡ []

-- no flight and no picture that goes out at the end, and the planner as it was
abbrev pub nothing_given : Plans → Given
nothing_given p = record { flights = []; last = []; left = p }

-- each of these calls, one after the other, gives nothing and leaves the planner as it was
abbrev pub GiveNothing : Plans → List PlannerCall → Type 0
GiveNothing p [] = ⊤
GiveNothing p (call ∷ later) =
    (given_by p call ≡ nothing_given p) × GiveNothing (given_by p call).left later
