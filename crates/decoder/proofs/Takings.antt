-- What taking units of a stream does, one after the other.
use Rattle.std.proofs.Common.{◌≡◌, ◌⊎◌, inl, inr, ℕ, ◌+◌, ◌≤◌, ◌<◌, Bool, true, false, List, [], ◌∷◌, ◌++◌, length}
use Rattle.std.proofs.Common.{take}
use Rattle.std.proofs.Common.{Option, Some, None, Result, Ok, Err, refl, sym, ap, subst, ◌∙◌, append_assoc}
use Rattle.std.proofs.Common.{append-nil}
use Rattle.std.proofs.Common.{arith}
use Rattle.std.specs.List.{concat}
use Rattle.std.proofs.lemmas.List.Folds.{concat-append}
use Rattle.std.proofs.Math.Seq.{take-append-add}
use Rattle.std.proofs.lemmas.List.{length-append}
use Rattle.std.specs.Prelude.{⊤, IsErrAnd}
use Rattle.std.proofs.lemmas.Result.{err_from_is_err_and}
use Rattle.hv_base.specs.declared.outcome.Outcome.{Outcome}
use Rattle.hv_base.specs.declared.outcome.Outcome.TheVariants as outcome
use Rattle.hv_base.specs.declared.refusal.Stop.{Stop}
use Rattle.hv_base.specs.declared.refusal.Stop.TheVariants as stop
use Rattle.hv_base.specs.declared.fault.Fault.{Fault}
use Rattle.hv_base.specs.declared.fault.FaultKind.TheVariants as rule
use Rattle.hv_io.specs.Streams.{Gains, Rose}
use Rattle.hv_io.proofs.StreamLemmas.{Gains-append, Gains-nil}
use Rattle.plan_types.specs.declared.picture_plan.PicturePlan.{PicturePlan}
use Rattle.spec_nal_units.specs.Judged.{Told, Whole, Broken, Met, unit_of, told_of}
use Rattle.nal_stream.specs.declared.answer.Next.{Next}
use Rattle.nal_stream.specs.declared.answer.Next.TheVariants as next
use Rattle.nal_stream.specs.declared.framer.Framer.{Framer}
use Rattle.nal_stream.specs.Answers.{told_by}
use Rattle.nal_stream.specs.Framing.{Answers, StandsFor, IsNext, with_answer}
use Rattle.spec_picture_plan.specs.Pictures.{beginning}
use Rattle.spec_picture_plan.specs.Planned as planning
use Rattle.spec_picture_plan.specs.Planned.{behind_closed, planned_from, planned_of}
use Rattle.picture_plan.specs.Flights.{pictures_of}
use Rattle.picture_plan.specs.Plans.{Plans, Given, behind_unit, at_end, halted, stop_of}
use Rattle.spec_decoder.specs.declared.form.Form.{Form}
use Rattle.spec_decoder.specs.Output.{OutPicture, told_number, written}
use Rattle.spec_decoder.specs.Decoder.{BufferPicture, Decoded, decoded, decoded_from, decoded_picture, entered}
use Rattle.spec_decoder.specs.Decoder.{finished}
use Rattle.spec_decoder.specs.Decoder.{kept_from}
use Rattle.spec_decoder.specs.Decoder.{ended as ended_with}
use Rattle.decoder.specs.declared.options.Options.{Options}
use Rattle.decoder.specs.declared.stream.Decoder.{Decoder}
use Rattle.decoder.specs.Buffers.{HeldBuffer, buffer_of}
use Rattle.decoder.specs.Headline.{Change, IsQuiet, outcome_of}
use Rattle.decoder.specs.Options.{IsInRange}
use Rattle.decoder.specs.Owed.{decoded_behind, owed_behind, planned_behind, still_owed}
use Rattle.decoder.specs.Taking.{Ended, HasTaken, IsCounted, IsEnd, Planned, PlansUnit, Reached, StillTells, all_owed}
use Rattle.decoder.specs.Taking.{Stops, left_of}
use Rattle.decoder.specs.Writing.{Ends, IsAnswered, Owed, Passes, WritesFirst, owed_from}
use Rattle.decoder.proofs.Writes.{all-back, all-front, behind, by, no_memory, number-then, owed-put, run-then}
use Rattle.decoder.proofs.Writes.{written-then}
use Rattle.decoder.proofs.Plannings.{owed-unit, unit-last, owed-stopped, owed-end, owed-halt, planned-unit}
use Rattle.decoder.proofs.Plannings.{broken-stops}
use Rattle.decoder.proofs.Plannings.{met-stops}
use Rattle.decoder.proofs.Tellings.{history, left-less, tells-unit, tells-fault, tells-limit}
use Rattle.session_laws.proofs.Pending.{few_wait, same_ahead}

-- ---- an end in pictures, or behind them where something stops the stream, isn't success

-- something stops it
abbrev pub IsStopped : Option Stop → Type 0
IsStopped None = ⊥
IsStopped (Some s) = ⊤

entered-stopped : (p : PicturePlan) (next : List BufferPicture → Decoded) (buffer : List BufferPicture)
    (r : Result BufferPicture Stop) → ((b : List BufferPicture) → IsStopped (next b).stop)
    → IsStopped (entered p next buffer r).stop
entered-stopped p next buffer (Err s) h = tt
entered-stopped p next buffer (Ok picture) h = h (kept_from p.outputs.kept 0 (buffer ++ picture ∷ []))

stopped-behind : (hash : Bool) (end : List BufferPicture → Decoded) (pictures : List PicturePlan)
    → ((b : List BufferPicture) → IsStopped (end b).stop) → (buffer : List BufferPicture)
    → IsStopped (decoded_from hash end pictures buffer).stop
stopped-behind hash end [] h buffer = h buffer
stopped-behind hash end (p ∷ pictures) h buffer =
    entered-stopped p (decoded_from hash end pictures) buffer (decoded_picture hash buffer p)
    (stopped-behind hash end pictures h)

not-success : (s : Option Stop) → IsStopped s → outcome.Ok ≡ outcome_of s → ⊥
not-success None h e = h
not-success (Some (stop.Fault f)) h e = absurd cc
not-success (Some (stop.Limit l)) h e = absurd cc

answered-stopped : (d : Owed) (out : Change) (o : Outcome) → IsStopped d.stop → IsAnswered d out o
    → ¬ (o ≡ outcome.Ok)
answered-stopped d out o h a = λ e.
    not-success d.stop h (subst (IsAnswered d out) e a).0.0

ends-stopped : (form : Form) (hash : Bool) (out : Change) (pictures : List PicturePlan) (old : HeldBuffer)
    (o : Outcome) → Ends form hash out pictures old o → ¬ (o ≡ outcome.Ok)
ends-stopped form hash out pictures old o w =
    let fault : Fault = record { kind = rule.NoNal; nal = 0; ctu = None } in
    let end : List BufferPicture → Decoded = λ b. ended_with (Some (stop.Fault fault)) in
    answered-stopped
    (owed_from form old.number (decoded_from hash end (pictures ++ []) (buffer_of old))) out o
    (stopped-behind hash end (pictures ++ []) (λ b. tt) (buffer_of old)) (w end [])

stop-stands : (s : Option Stop) (e : Stop) → s ≡ Some e → IsStopped s
stop-stands s e is = subst IsStopped (sym is) tt

-- the last flights of a stream that something stops
pub last-stopped : (form : Form) (hash : Bool) (out : Change) (pictures : List PicturePlan) (old : HeldBuffer)
    (last : List ℕ) (stop : Option Stop) (e : Stop) (o : Outcome) → stop ≡ Some e
    → IsAnswered (owed_from form old.number (decoded_from hash (finished last stop) pictures (buffer_of old))) out o
    → ¬ (o ≡ outcome.Ok)
last-stopped form hash out pictures old last stop e o is a =
    answered-stopped
    (owed_from form old.number (decoded_from hash (finished last stop) pictures (buffer_of old))) out o
    (stopped-behind hash (finished last stop) pictures (λ b. stop-stands stop e is) (buffer_of old)) a

abbrev given-as : List (List PicturePlan) → List ℕ → Plans → Given
given-as flights last left = record { flights = flights; last = last; left = left }

-- decoding ended in the flights of a unit
unit-over : (form : Form) (hash : Bool) (out : Change) (ended : Bool) (old : Decoder) (new : Plans) (told : List Told)
    (t : Told) (later : List Told) (flights : List (List PicturePlan)) (last : List ℕ) (o : Outcome)
    → told ≡ t ∷ [] → behind_unit old.planner told ≡ given-as flights last new
    → ((end : List BufferPicture → Decoded) (more : List PicturePlan)
    → IsAnswered (owed_from form old.buffer.number
    (decoded_from hash end (pictures_of flights ++ more) (buffer_of old.buffer))) out o)
    → IsAnswered (still_owed form hash ended old.planner old.buffer (t ∷ later)) out o
unit-over form hash out ended old new told t later flights last o is value w =
    let u = owed-unit hash ended old.planner (buffer_of old.buffer) t later in
    let end : List BufferPicture → Decoded = finished u.0.last u.0.stop in
    let e : behind_unit old.planner (t ∷ []) ≡ given-as flights last new =
    ap (behind_unit old.planner) (sym is) ∙ value in
    let before : owed_behind hash ended old.planner (buffer_of old.buffer) (t ∷ later)
    ≡ decoded_from hash end (pictures_of flights ++ u.0.pictures) (buffer_of old.buffer) =
    u.1
    ∙ ap (λ (g : Given). decoded_from hash end (pictures_of g.flights ++ u.0.pictures) (buffer_of old.buffer)) e in
    subst (λ (d : Decoded). IsAnswered (owed_from form old.buffer.number d) out o) (sym before) (w end u.0.pictures)

-- the flights of a unit that stops nothing
pub plans-unit : {X : Type 0}
    → (options : Options) (out : Change) (old new : Decoder) (told : List Told)
    (flights : List (List PicturePlan)) (last : List ℕ) (r : Result X Outcome)
    → behind_unit old.planner told ≡ given-as flights last new.planner → stop_of new.planner.next ≡ None
    → WritesFirst options.form options.hash out (pictures_of flights) old.buffer new.buffer r
    → PlansUnit options out old told new r
plans-unit options out old new told flights last (Ok x) value going w = record {
  decoded =
      subst (λ (g : Given). Passes options.form options.hash out (pictures_of g.flights) old.buffer [] new.buffer)
      (sym value) w;
  left = ap (λ (g : Given). g.left) value;
  going = going;
}
plans-unit options out old new told flights last (Err o) value going w = (
  ends-stopped options.form options.hash out (pictures_of flights) old.buffer o w,
  λ ended t later is before.
      unit-over options.form options.hash out ended old new.planner told t later flights last o is value w,
)

-- the flights of a unit that stops the stream
pub unit-ends : (form : Form) (hash : Bool) (out : Change) (ended : Bool) (old : Decoder) (new : Plans)
    (told : List Told) (t : Told) (later : List Told) (flights : List (List PicturePlan)) (last : List ℕ)
    (stop : Option Stop) (e : Stop) (o : Outcome)
    → told ≡ t ∷ [] → behind_unit old.planner told ≡ given-as flights last new → stop_of old.planner.next ≡ None
    → stop ≡ stop_of new.next → stop ≡ Some e
    → IsAnswered (owed_from form old.buffer.number
    (decoded_from hash (finished last stop) (pictures_of flights) (buffer_of old.buffer))) out o
    → IsAnswered (still_owed form hash ended old.planner old.buffer (t ∷ later)) out o
unit-ends form hash out ended old new told t later flights last stop e o is value going same some answered =
    let v : behind_unit old.planner (t ∷ []) ≡ given-as flights last new = ap (behind_unit old.planner) (sym is)
    ∙ value in
    let stopped : stop_of (behind_unit old.planner (t ∷ [])).left.next ≡ Some e =
    ap (λ (g : Given). stop_of g.left.next) v ∙ sym same ∙ some in
    let none : last ≡ [] = ap (λ (g : Given). g.last) (sym v) ∙ unit-last old.planner t in
    let owed : owed_behind hash ended old.planner (buffer_of old.buffer) (t ∷ later)
    ≡ decoded_from hash (finished last stop) (pictures_of flights) (buffer_of old.buffer) =
    owed-stopped hash ended old.planner (buffer_of old.buffer) t later e going stopped
    ∙ ap (λ (g : Given). decoded_from hash (finished [] (Some e)) (pictures_of g.flights) (buffer_of old.buffer)) v
    ∙ ap (λ (s : Option Stop). decoded_from hash (finished [] s) (pictures_of flights) (buffer_of old.buffer))
    (sym some)
    ∙ ap (λ (places : List ℕ). decoded_from hash (finished places stop) (pictures_of flights) (buffer_of old.buffer))
    (sym none) in
    subst (λ (d : Decoded). IsAnswered (owed_from form old.buffer.number d) out o) (sym owed) answered

-- an answer that tells a unit or a stop: what it tells, and what then is still to be told
pub record Ahead (f : Framer) (ended : Bool) (bytes : List ℕ) (n : Next) (given later : List Told) : Type 0 where
  pub told : Told
  pub rest : List Told
  pub is : told_by n ≡ told ∷ []
  pub later_is : later ≡ told ∷ rest
  pub tells : ((p : Plans) → stop_of (behind_unit p (told_by n)).left.next ≡ None → ⊥)
      ⊎ StillTells f ended bytes (given ++ told ∷ []) rest

pub ahead_of : (old new : Framer) (ended : Bool) (bytes : List ℕ) (given later : List Told) (n : Next)
    (t : StillTells old ended bytes given later)
    → (n ≡ next.More → ⊥) → (n ≡ next.End → ⊥) → IsNext (history given ended bytes) n
    → StandsFor new (with_answer (history given ended bytes) n) → Ahead new ended bytes n given later
ahead_of old new ended bytes given later (next.Unit n) t more end is stands =
    let u = tells-unit old new ended bytes given later n t is stands in
    record { told = Whole (unit_of n); rest = u.0; is = refl; later_is = u.1; tells = inr u.2 }
ahead_of old new ended bytes given later (next.Fault f) t more end is stands =
    record {
      told = Broken f;
      rest = [];
      is = refl;
      later_is = tells-fault old ended bytes given later f t is;
      tells = inl (λ p. broken-stops p f);
    }
ahead_of old new ended bytes given later (next.Limit l) t more end is stands =
    record {
      told = Met l;
      rest = [];
      is = refl;
      later_is = tells-limit old ended bytes given later l t is;
      tells = inl (λ p. met-stops p l);
    }
ahead_of old new ended bytes given later next.More t more end is stands = absurd (more refl)
ahead_of old new ended bytes given later next.End t more end is stands = absurd (end refl)

really-tells : (f : Framer) (ended : Bool) (bytes : List ℕ) (n : Next) (given rest : List Told) (p : Plans)
    → stop_of (behind_unit p (told_by n)).left.next ≡ None
    → ((p : Plans) → stop_of (behind_unit p (told_by n)).left.next ≡ None → ⊥) ⊎ StillTells f ended bytes given rest
    → StillTells f ended bytes given rest
really-tells f ended bytes n given rest p going (inl stops) = absurd (stops p going)
really-tells f ended bytes n given rest p going (inr tells) = tells

-- where the stream goes on behind an answer, less is left to tell
pub answer-less : (old new : Framer) (n : Next) (p : Plans) → (n ≡ next.More → ⊥) → (n ≡ next.End → ⊥)
    → stop_of (behind_unit p (told_by n)).left.next ≡ None → Answers n old new → left_of new < left_of old
answer-less old new (next.Unit n) p more end going a = left-less old new n a
answer-less old new (next.Fault f) p more end going a = absurd (broken-stops p f going)
answer-less old new (next.Limit l) p more end going a = absurd (met-stops p l going)
answer-less old new next.More p more end going a = absurd (more refl)
answer-less old new next.End p more end going a = absurd (end refl)

closed-both : (a b : List PicturePlan) (x : planning.Planned)
    → behind_closed a (behind_closed b x) ≡ behind_closed (a ++ b) x
closed-both a b x =
    ap (λ (ps : List PicturePlan). let q : planning.Planned = record { pictures = ps; last = x.last; stop = x.stop }
    in q)
    (sym (append_assoc a b x.pictures))

front-number : (outs : List OutPicture) (k : ℕ) → told_number (length outs) ≡ told_number k
    → told_number (0 + length outs) ≡ told_number k
front-number outs k e =
    let same : 0 + length outs ≡ length outs = omega arith in
    ap told_number same ∙ e

whole-number : (outs : List OutPicture) (k : ℕ) → told_number (0 + length outs) ≡ told_number k
    → told_number (length outs) ≡ told_number k
whole-number outs k e =
    let same : length outs ≡ 0 + length outs = omega arith in
    ap told_number same ∙ e

-- what the sinks gained behind more pictures
gained-then : (form : Form) (k : ℕ) (outs more : List OutPicture) (gained : List ℕ)
    → gained ≡ concat (written form 0 outs) → told_number (length outs) ≡ told_number k
    → gained ++ concat (written form k more) ≡ concat (written form 0 (outs ++ more))
gained-then form k outs more gained is e =
    ap (λ (bytes : List ℕ). bytes ++ concat (written form k more)) is
    ∙ sym (concat-append (written form 0 outs) (written form k more))
    ∙ ap concat (sym (written-then form 0 k outs more (front-number outs k e)))

-- a unit was planned, and the flights that it ends were decoded
pub took-unit : (options : Options) (out : Change) (old new : Decoder) (told : List Told) (t : Told)
    (given : List Told) (gained : List ℕ) → told ≡ t ∷ [] → HasTaken options old given gained
    → (p : Planned options out old told new)
    → HasTaken options new (given ++ t ∷ [])
    (gained ++ concat (written options.form old.buffer.number p.decoded.outs))
took-unit options out old new told t given gained is h p =
    let front : List PicturePlan = p.decoded.front in
    let now : Given = behind_unit old.planner (t ∷ []) in
    let same : behind_unit old.planner told ≡ now = ap (behind_unit old.planner) is in
    let left : now.left ≡ new.planner = ap (λ (g : Given). g.left) (sym same) ∙ p.left in
    let whole : pictures_of now.flights ≡ front =
    ap (λ (g : Given). pictures_of g.flights) (sym same) ∙ p.decoded.order ∙ append-nil front in
    record {
      done = h.done ++ front;
      outs = h.outs ++ p.decoded.outs;
      planned = λ ended later.
          ap (planned_from ended beginning) (append_assoc given (t ∷ []) later)
          ∙ h.planned ended (t ∷ later)
          ∙ ap (behind_closed h.done)
          (planned-unit ended old.planner t later
          ∙ ap (λ (ps : List PicturePlan). behind_closed ps (planned_behind ended now.left later)) whole
          ∙ ap (λ (q : Plans). behind_closed front (planned_behind ended q later)) left)
          ∙ closed-both h.done front (planned_behind ended new.planner later);
      run =
          run-then options.hash h.done front [] (buffer_of old.buffer) (buffer_of new.buffer) h.outs p.decoded.outs
          h.run p.decoded.run;
      number =
          whole-number (h.outs ++ p.decoded.outs) new.buffer.number
          (number-then 0 old.buffer.number new.buffer.number h.outs p.decoded.outs
          (front-number h.outs old.buffer.number h.number) p.decoded.went.number);
      bytes = gained-then options.form old.buffer.number h.outs p.decoded.outs gained h.bytes h.number;
      going = p.going;
      ahead = ap (λ (q : Plans). q.ahead) (sym p.left) ∙ same_ahead old.planner told ∙ h.ahead;
      some =
          subst (λ (n : ℕ). 1 ≤ n) (sym (ap (λ (q : Plans). q.ahead) (sym p.left)
          ∙ same_ahead old.planner told)) h.some;
      waiting =
          subst (λ (q : Plans). length q.pending ≤ q.ahead) p.left
          (subst (λ (n : ℕ). length (behind_unit old.planner told).left.pending ≤ n)
          (sym (same_ahead old.planner told)) (few_wait old.planner told h.some h.waiting));
      few = λ n all.
          p.decoded.few n (h.few n (all-front n h.done front all)) (all-back n h.done front all);
    }

-- before the first unit
pub took-none : (options : Options) (d : Decoder) → IsInRange options
    → d.planner ≡ record { ahead = options.ahead; pending = []; next = Ok beginning } → buffer_of d.buffer ≡ []
    → d.buffer.number ≡ 0 → HasTaken options d [] []
unfolding planned_behind
took-none options d range planner buffer number = record {
  done = [];
  outs = [];
  planned = λ ended later.
      ap (λ (q : Plans). behind_closed [] (planned_behind ended q later)) (sym planner);
  run = λ end later. ap (decoded_from options.hash end later) (sym buffer);
  number = ap told_number (sym number);
  bytes = refl;
  going = ap (λ (q : Plans). stop_of q.next) planner;
  ahead = ap (λ (q : Plans). q.ahead) planner;
  some = subst (λ (q : Plans). 1 ≤ q.ahead) (sym planner) range.2;
  waiting = subst (λ (q : Plans). length q.pending ≤ q.ahead) (sym planner) (omega arith);
  few = λ n all. subst (λ (ps : List BufferPicture). length ps ≤ n) (sym buffer) (omega arith);
}

-- what is owed of all is what the sinks gained, and what is still owed
pub owed-taken : (options : Options) (d : Decoder) (given : List Told) (gained : List ℕ) (ended : Bool)
    (bytes : List ℕ) (later : List Told) → (h : HasTaken options d given gained) → told_of ended bytes ≡ given ++ later
    → all_owed options ended bytes
    ≡ behind (written options.form 0 h.outs)
    (still_owed options.form options.hash ended d.planner d.buffer later)
unfolding decoded planned_of owed_behind
owed-taken options d given gained ended bytes later h told =
    let rest : planning.Planned = planned_behind ended d.planner later in
    let end : List BufferPicture → Decoded = finished rest.last rest.stop in
    let is : planned_from ended beginning (told_of ended bytes) ≡ behind_closed h.done rest =
    ap (planned_from ended beginning) told ∙ h.planned ended later in
    ap (owed_from options.form 0)
    (ap (λ (p : planning.Planned). decoded_from options.hash (finished p.last p.stop) p.pictures []) is
    ∙ h.run end rest.pictures)
    ∙ owed-put options.form 0 d.buffer.number h.outs
    (decoded_from options.hash end rest.pictures (buffer_of d.buffer)) (front-number h.outs d.buffer.number h.number)

-- ---- how decoding ended, by all that the sinks gained

gained-whole : (ps : List (List ℕ)) (e : Owed) (gained : List ℕ) → gained ≡ concat ps
    → gained ++ concat e.pieces ≡ concat (ps ++ e.pieces)
gained-whole ps e gained is =
    ap (λ (bytes : List ℕ). bytes ++ concat e.pieces) is ∙ sym (concat-append ps e.pieces)

gained-some : (ps : List (List ℕ)) (e : Owed) (gained : List ℕ) (n : ℕ) → gained ≡ concat ps
    → gained ++ concat (take n e.pieces) ≡ concat (take (length ps + n) (ps ++ e.pieces))
gained-some ps e gained n is =
    ap (λ (bytes : List ℕ). bytes ++ concat (take n e.pieces)) is
    ∙ sym (concat-append ps (take n e.pieces))
    ∙ ap concat (sym (take-append-add ps e.pieces n))

gained-cut : (ps : List (List ℕ)) (e : Owed) (gained : List ℕ) (n : ℕ) → gained ≡ concat ps
    → gained ++ take n (concat e.pieces) ≡ take (length (concat ps) + n) (concat (ps ++ e.pieces))
gained-cut ps e gained n is =
    ap (λ (bytes : List ℕ). bytes ++ take n (concat e.pieces)) is
    ∙ sym (take-append-add (concat ps) (concat e.pieces) n)
    ∙ ap (take (length (concat ps) + n)) (sym (concat-append ps e.pieces))

cut-length : (ps : List (List ℕ)) (e : Owed) (n : ℕ) → n ≤ length (concat e.pieces)
    → length (concat ps) + n ≤ length (concat (ps ++ e.pieces))
cut-length ps e n le =
    omega (arith, le, ap length (concat-append ps e.pieces), length-append (concat ps) (concat e.pieces))

ended_by : (out : Change) (ps : List (List ℕ)) (e : Owed) (gained : List ℕ) (o : Outcome) → gained ≡ concat ps
    → IsAnswered e out o → Ended out (behind ps e) gained o
ended_by out ps e gained outcome.Ok is a = record {
  more = concat e.pieces;
  gains = a.0.1;
  counted = a.1;
  end = (a.0.0, gained-whole ps e gained is);
}
ended_by out ps e gained (outcome.Fault f) is a = record {
  more = concat e.pieces;
  gains = a.0.1;
  counted = a.1;
  end = (a.0.0, gained-whole ps e gained is);
}
ended_by out ps e gained (outcome.Limit l) is a = record {
  more = concat e.pieces;
  gains = a.0.1;
  counted = a.1;
  end = (a.0.0, gained-whole ps e gained is);
}
ended_by out ps e gained outcome.Memory is a = record {
  more = concat (take a.0.0 e.pieces);
  gains = a.0.1;
  counted = a.1;
  end = (length ps + a.0.0, gained-some ps e gained a.0.0 is);
}
ended_by out ps e gained outcome.ReadFault is a = record {
  more = concat e.pieces;
  gains = a.0.1;
  counted = a.1;
  end = (a.0.0, gained-whole ps e gained is);
}
ended_by out ps e gained outcome.WriteFault is a = record {
  more = take a.1.0 (concat e.pieces);
  gains = a.1.1.1;
  counted = a.0;
  end = (length (concat ps) + a.1.0, (cut-length ps e a.1.0 a.1.1.0, gained-cut ps e gained a.1.0 is));
}

-- decoding ended behind the units that were taken
pub ended-behind : (options : Options) (out : Change) (d : Decoder) (given : List Told) (gained : List ℕ)
    (ended : Bool) (bytes : List ℕ) (later : List Told) (o : Outcome)
    → (h : HasTaken options d given gained) → told_of ended bytes ≡ given ++ later
    → IsAnswered (still_owed options.form options.hash ended d.planner d.buffer later) out o
    → Ended out (all_owed options ended bytes) gained o
ended-behind options out d given gained ended bytes later o h told answered =
    subst (λ (e : Owed). Ended out e gained o) (sym (owed-taken options d given gained ended bytes later h told))
    (ended_by out (written options.form 0 h.outs)
    (still_owed options.form options.hash ended d.planner d.buffer later) gained o h.bytes answered)

-- behind the last unit of an input that ended
pub rest-ended : (form : Form) (hash : Bool) (out : Change) (old new : Plans) (b : HeldBuffer)
    (flights : List (List PicturePlan)) (last : List ℕ) (stop : Option Stop) (o : Outcome)
    → at_end old ≡ given-as flights last new → stop ≡ stop_of new.next
    → IsAnswered (owed_from form b.number (decoded_from hash (finished last stop) (pictures_of flights) (buffer_of b)))
    out o
    → IsAnswered (still_owed form hash true old b []) out o
rest-ended form hash out old new b flights last stop o value same answered =
    subst (λ (d : Decoded). IsAnswered (owed_from form b.number d) out o)
    (sym (owed-end hash old (buffer_of b)
    ∙ ap (λ (g : Given). decoded_from hash (finished g.last (stop_of g.left.next)) (pictures_of g.flights)
    (buffer_of b)) value
    ∙ ap (λ (s : Option Stop). decoded_from hash (finished last s) (pictures_of flights) (buffer_of b)) (sym same)))
    answered

-- and of one that didn't
pub rest-halted : (form : Form) (hash : Bool) (out : Change) (old new : Plans) (b : HeldBuffer)
    (flights : List (List PicturePlan)) (last : List ℕ) (stop : Option Stop) (o : Outcome)
    → halted old ≡ given-as flights last new → stop ≡ stop_of new.next
    → IsAnswered (owed_from form b.number (decoded_from hash (finished last stop) (pictures_of flights) (buffer_of b)))
    out o
    → IsAnswered (still_owed form hash false old b []) out o
rest-halted form hash out old new b flights last stop o value same answered =
    subst (λ (d : Decoded). IsAnswered (owed_from form b.number d) out o)
    (sym (owed-halt hash old (buffer_of b)
    ∙ ap (λ (g : Given). decoded_from hash (finished g.last (stop_of g.left.next)) (pictures_of g.flights)
    (buffer_of b)) value
    ∙ ap (λ (s : Option Stop). decoded_from hash (finished last s) (pictures_of flights) (buffer_of b)) (sym same)))
    answered

-- an answer that nothing is left
pub none-left : (old new : Framer) (ended : Bool) (bytes : List ℕ) (given later : List Told)
    → StillTells old ended bytes given later → later ≡ [] → StandsFor new (history given ended bytes)
    → StillTells new ended bytes given []
none-left old new ended bytes given later t none stands = record {
  stands = stands;
  told = t.told ∙ ap (λ (ts : List Told). given ++ ts) none;
}

-- a unit was planned and its flights written
pub reached-unit : (options : Options) (out : Change) (f : Framer) (old new : Decoder) (ended : Bool)
    (bytes gained : List ℕ) (given later : List Told) (n : Next) → HasTaken options old given gained
    → (a : Ahead f ended bytes n given later) → Planned options out old (told_by n) new
    → Reached options out f new ended bytes gained a.rest
reached-unit options out f old new ended bytes gained given later n h a p = record {
  given = given ++ a.told ∷ [];
  tells =
      really-tells f ended bytes n (given ++ a.told ∷ []) a.rest old.planner
      (ap (λ (q : Plans). stop_of q.next) p.left ∙ p.going) a.tells;
  more = concat (written options.form old.buffer.number p.decoded.outs);
  gains = p.decoded.went.gained;
  quiet = p.decoded.went.quiet;
  taken = took-unit options out old new (told_by n) a.told given gained a.is h p;
}

-- decoding ended in a unit's flights, or by it
pub ended-ahead : (options : Options) (out : Change) (f g : Framer) (old : Decoder) (ended : Bool)
    (bytes gained : List ℕ) (given later : List Told) (n : Next) (o : Outcome)
    → StillTells f ended bytes given later → HasTaken options old given gained
    → (a : Ahead g ended bytes n given later)
    → IsAnswered (still_owed options.form options.hash ended old.planner old.buffer (a.told ∷ a.rest)) out o
    → Ended out (all_owed options ended bytes) gained o
ended-ahead options out f g old ended bytes gained given later n o t h a answered =
    ended-behind options out old given gained ended bytes (a.told ∷ a.rest) o h
    (t.told ∙ ap (λ (ts : List Told). given ++ ts) a.later_is) answered

-- the exit of a call that answers how decoding ended
pub exit-taken : {Y : Type 0} → (r : Result Y Outcome) (o : Outcome) → IsErrAnd r (λ y. y ≡ o) → r ≡ Err o
exit-taken {Y} r o is =
    let p = err_from_is_err_and r is in
    p.1 ∙ ap (λ (y : Outcome). let q : Result Y Outcome = Err y in q) p.2

pub not-memory : outcome.Memory ≡ outcome.Ok → ⊥
not-memory e = absurd cc

-- by the meanings of a sink: its bytes and its count of faults
module _ {X : Type 0} (bytes : X → Option (List ℕ)) (faults : X → ℕ) (options : Options) where
  -- nothing is taken yet
  pub reached-none : (a : X) (f : Framer) (d : Decoder) (ended : Bool) (stream : List ℕ) (given later : List Told)
      (gained : List ℕ) → StillTells f ended stream given later → HasTaken options d given gained
      → Reached options (by bytes faults a a) f d ended stream gained later
  reached-none a f d ended stream given later gained tells taken = record {
    given = given;
    tells = tells;
    more = [];
    gains = Gains-nil (bytes a);
    quiet = refl;
    taken = subst (HasTaken options d given) (sym (append-nil gained)) taken;
  }

  -- one call behind another
  pub reached-then : (a b c : X) (f g : Framer) (d e : Decoder) (ended : Bool) (stream gained : List ℕ)
      (later rest : List Told) → (r : Reached options (by bytes faults a b) f d ended stream gained later)
      → Reached options (by bytes faults b c) g e ended stream (gained ++ r.more) rest
      → Reached options (by bytes faults a c) g e ended stream gained rest
  reached-then a b c f g d e ended stream gained later rest r q = record {
    given = q.given;
    tells = q.tells;
    more = r.more ++ q.more;
    gains = Gains-append (bytes a) (bytes b) (bytes c) r.more q.more r.gains q.gains;
    quiet = q.quiet ∙ r.quiet;
    taken = subst (HasTaken options e q.given) (append_assoc gained r.more q.more) q.taken;
  }

  counted-then : (a b c : X) (o : Outcome) → IsQuiet (by bytes faults a b) → IsCounted (by bytes faults b c) o
      → IsCounted (by bytes faults a c) o
  counted-then a b c outcome.Ok s q = q ∙ s
  counted-then a b c (outcome.Fault f) s q = q ∙ s
  counted-then a b c (outcome.Limit l) s q = q ∙ s
  counted-then a b c outcome.Memory s q = q ∙ s
  counted-then a b c outcome.ReadFault s q = q ∙ s
  counted-then a b c outcome.WriteFault s q = subst (λ (n : ℕ). Rose n (faults c)) s q

  -- an end behind what sinks gained without a fault
  pub ended-then : (a b c : X) (d : Owed) (gained more : List ℕ) (o : Outcome) → Gains (bytes a) (bytes b) more
      → IsQuiet (by bytes faults a b) → Ended (by bytes faults b c) d (gained ++ more) o
      → Ended (by bytes faults a c) d gained o
  ended-then a b c d gained more o g s e = record {
    more = more ++ e.more;
    gains = Gains-append (bytes a) (bytes b) (bytes c) more e.more g e.gains;
    counted = counted-then a b c o s e.counted;
    end = subst (λ (all : List ℕ). IsEnd d all o) (append_assoc gained more e.more) e.end;
  }

  -- there was no memory for a call
  pub ended-unfed : (a : X) (d : Decoder) (given later : List Told) (gained : List ℕ) (ended : Bool) (stream : List ℕ)
      → HasTaken options d given gained → told_of ended stream ≡ given ++ later
      → Ended (by bytes faults a a) (all_owed options ended stream) gained outcome.Memory
  ended-unfed a d given later gained ended stream h told =
      ended-behind options (by bytes faults a a) d given gained ended stream later outcome.Memory h told
      (no_memory bytes faults a (still_owed options.form options.hash ended d.planner d.buffer later))

  pub stops-then : (a b c : X) (d : Owed) (gained more : List ℕ) (o : Outcome) → Gains (bytes a) (bytes b) more
      → IsQuiet (by bytes faults a b) → Stops (by bytes faults b c) d (gained ++ more) o
      → Stops (by bytes faults a c) d gained o
  stops-then a b c d gained more o g s e = (e.0, ended-then a b c d gained more o g s e.1)

  pub stopped-unfed : (a : X) (d : Decoder) (given later : List Told) (gained : List ℕ) (ended : Bool)
      (stream : List ℕ) → HasTaken options d given gained → told_of ended stream ≡ given ++ later
      → Stops (by bytes faults a a) (all_owed options ended stream) gained outcome.Memory
  stopped-unfed a d given later gained ended stream h told =
      (not-memory, ended-unfed a d given later gained ended stream h told)
