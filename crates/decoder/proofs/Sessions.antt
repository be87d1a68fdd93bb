-- What a session's calls leave it to stand for.
use Rattle.std.proofs.Common.{◌≡◌, ℕ, ◌≤◌, Bool, true, false, All, List, [], ◌∷◌, ◌++◌, length, take, Option, Some}
use Rattle.std.proofs.Common.{None}
use Rattle.std.proofs.Common.{Result, Ok, Err, refl, sym, ap, subst, ◌∙◌, append_assoc, append-nil, arith}
use Rattle.std.specs.List.{concat}
use Rattle.std.specs.Prelude.{OnOk, is_err}
use Rattle.std.proofs.lemmas.List.Folds.{concat-append}
use Rattle.std.proofs.lemmas.List.{length-append, take-append-le}
use Rattle.std.proofs.lemmas.Option.{none-some}
use Rattle.hv_base.specs.declared.outcome.Outcome.{Outcome}
use Rattle.hv_base.specs.declared.outcome.Outcome.TheVariants as outcome
use Rattle.hv_base.specs.declared.refusal.Stop.{Stop}
use Rattle.hv_base.specs.declared.refusal.Stop.TheVariants as stop
use Rattle.hv_io.specs.Streams.{Gains}
use Rattle.hv_io.proofs.StreamLemmas.{Gains-nil}
use Rattle.plan_types.specs.declared.picture_plan.PicturePlan.{PicturePlan}
use Rattle.plan_types.specs.declared.between.Between.{Between}
use Rattle.nal_stream.specs.Framing.{to_come}
use Rattle.spec_nal_units.specs.Judged.{Told, told_of}
use Rattle.spec_picture_plan.specs.Pictures.{beginning}
use Rattle.spec_picture_plan.specs.Planned as planning
use Rattle.spec_picture_plan.specs.Planned.{behind_closed, planned_from, planned_next, planned_of}
use Rattle.picture_plan.specs.Plans.{Plans, stop_of}
use Rattle.spec_decoder.specs.declared.form.Form.{Form}
use Rattle.spec_decoder.specs.Output.{OutPicture, written}
use Rattle.spec_decoder.specs.Decoder.{BufferPicture, Continues, Decoded, bytes_of, decoded, decoded_from, finished}
use Rattle.spec_decoder.specs.Decoder.{out_at}
use Rattle.spec_decoder.specs.Decoder.{put_out}
use Rattle.spec_decoder.specs.Decoder.{ended as ended_with}
use Rattle.spec_decoder.specs.Trail.{first_of, trail_of}
use Rattle.spec_decoder.proofs.Continuing.{of_continues}
use Rattle.session_laws.specs.Closings.{IsBeforeClosing}
use Rattle.session_laws.proofs.Kept.{few_are_kept}
use Rattle.session_laws.proofs.Standing.{closings_stand}
use Rattle.decoder.specs.declared.options.Options.{Options}
use Rattle.decoder.specs.declared.session.Session.{Session}
use Rattle.decoder.specs.declared.stream.Decoder.{Decoder}
use Rattle.decoder.specs.Buffers.{buffer_of}
use Rattle.decoder.specs.Headline.{Change, IsQuiet, change_of, outcome_of}
use Rattle.decoder.specs.Owed.{owed_behind, planned_behind}
use Rattle.decoder.specs.Session.{Holds, IsBefore, IsGoing, Pushed, Stands, StandsBy}
use Rattle.decoder.specs.Taking.{HasTaken, IsEnd, Reached, Stops, all_owed}
use Rattle.decoder.specs.Writing.{KeepsAtMost, Owed, owed_from}
use Rattle.decoder.proofs.HeadlineLaws.{no_read_fault, take_front, written_front}
use Rattle.decoder.proofs.Writes.{all-front, by}

-- ---- an end stays

cut-front : (form : Form) (short long : Decoded) (gained : List ℕ) → Continues short long
    → IsEnd (owed_from form 0 short) gained outcome.WriteFault
    → IsEnd (owed_from form 0 long) gained outcome.WriteFault
cut-front form short long gained c e =
    let more : List ℕ = concat (written form (length short.pictures) c.more) in
    let whole : bytes_of form long ≡ bytes_of form short ++ more = c.bytes form in (
      e.0,
      (
        omega (arith, e.1.0, ap length whole, length-append (bytes_of form short) more),
        e.1.1 ∙ sym (ap (take e.0) whole ∙ take-append-le e.0 (bytes_of form short) more e.1.0),
      ),
    )

whole-front : (form : Form) (short long : Decoded) (gained : List ℕ) → Continues short long
    → IsEnd (owed_from form 0 short) gained outcome.Memory → IsEnd (owed_from form 0 long) gained outcome.Memory
whole-front form short long gained c e =
    let r = take_front e.0 (written form 0 short.pictures) (written form (length short.pictures) c.more) in (
      r.0,
      e.1 ∙ ap concat (sym (ap (take r.0) (written_front form true short long c) ∙ r.1)),
    )

stopped-front : (form : Form) (short long : Decoded) (gained : List ℕ) (o : Outcome) → Continues short long
    → ¬ (o ≡ outcome.Ok) → o ≡ outcome_of short.stop → IsEnd (owed_from form 0 short) gained o
    → IsEnd (owed_from form 0 long) gained o
stopped-front form short long gained o c n is e =
    subst (λ (d : Decoded). IsEnd (owed_from form 0 d) gained o)
    (sym (c.stopped (λ none. n (is ∙ ap outcome_of none)))) e

end-front : (form : Form) (short long : Decoded) (gained : List ℕ) (o : Outcome) → Continues short long
    → ¬ (o ≡ outcome.Ok) → IsEnd (owed_from form 0 short) gained o → IsEnd (owed_from form 0 long) gained o
end-front form short long gained outcome.Ok c n e = absurd (n refl)
end-front form short long gained (outcome.Fault f) c n e =
    stopped-front form short long gained (outcome.Fault f) c n e.0 e
end-front form short long gained (outcome.Limit l) c n e =
    stopped-front form short long gained (outcome.Limit l) c n e.0 e
end-front form short long gained outcome.Memory c n e = whole-front form short long gained c e
end-front form short long gained outcome.ReadFault c n e = absurd (no_read_fault short.stop e.0)
end-front form short long gained outcome.WriteFault c n e = cut-front form short long gained c e

-- however much more of the stream comes
pub end-stays : (options : Options) (bytes piece gained : List ℕ) (o : Outcome) → ¬ (o ≡ outcome.Ok)
    → IsEnd (all_owed options false bytes) gained o → IsEnd (all_owed options false (bytes ++ piece)) gained o
end-stays options bytes piece gained o n e =
    end-front options.form (decoded options.hash false bytes) (decoded options.hash false (bytes ++ piece)) gained o
    (of_continues options.hash false bytes piece) n e

read-fault : (d : Owed) (gained : List ℕ) (o : Outcome) → IsEnd d gained o → ¬ (o ≡ outcome.ReadFault)
read-fault d gained o e = λ is. no_read_fault d.stop (subst (IsEnd d gained) is e).0

-- ---- what a session holds

pub going-of : (s : Session) (bytes gained : List ℕ) → s.outcome ≡ None → Stands s bytes gained
    → IsGoing s bytes gained
going-of s bytes gained none st = subst (λ (o : Option Outcome). StandsBy o s bytes gained) none st

pub over-of : (s : Session) (bytes gained : List ℕ) (o : Outcome) → s.outcome ≡ Some o → Stands s bytes gained
    → ¬ (o ≡ outcome.Ok) × IsEnd (all_owed s.options false bytes) gained o
over-of s bytes gained o is st = subst (λ (p : Option Outcome). StandsBy p s bytes gained) is st

no-more : (next : Result Between Stop) → (planned_next next (λ s. planning.planned_end false s)).pictures ≡ []
no-more (Ok s) = refl
no-more (Err e) = refl

waiting-last : (p : Plans) → (planned_behind false p []).pictures ≡ p.pending
unfolding planned_behind
waiting-last p = ap (λ (ps : List PicturePlan). p.pending ++ ps) (no-more p.next) ∙ append-nil p.pending

closed-last : (options : Options) (d : Decoder) (given : List Told) (gained bytes : List ℕ)
    → (h : HasTaken options d given gained) → told_of false bytes ≡ given ++ []
    → (planned_of false bytes).pictures ≡ h.done ++ d.planner.pending
unfolding planned_of
closed-last options d given gained bytes h told =
    ap (λ (ts : List Told). (planned_from false beginning ts).pictures) told
    ∙ ap (λ (p : planning.Planned). p.pictures) (h.planned false [])
    ∙ ap (λ (ps : List PicturePlan). h.done ++ ps) (waiting-last d.planner)

few-held : (options : Options) (d : Decoder) (given : List Told) (gained : List ℕ) (h : HasTaken options d given gained)
    → length (buffer_of d.buffer) ≤ 16
few-held options d given gained h =
    let all : All (KeepsAtMost 16) (h.done ++ (planned_behind false d.planner []).pictures) =
    subst (λ (p : planning.Planned). All (KeepsAtMost 16) p.pictures) (h.planned false []) (few_are_kept false
    (given ++ [])) in
    h.few 16 (all-front 16 h.done (planned_behind false d.planner []).pictures all)

before-first : (s : Session) (bytes gained : List ℕ) (given : List Told) (h : HasTaken s.options s.decoder given gained)
    → told_of false bytes ≡ given ++ [] → (p : PicturePlan) (more : List PicturePlan)
    → s.decoder.planner.pending ≡ p ∷ more → IsBefore s bytes gained h.done p
before-first s bytes gained given h told p more is =
    let e : (planned_of false bytes).pictures ≡ h.done ++ p ∷ more =
    closed-last s.options s.decoder given gained bytes h told ∙ ap (λ (ps : List PicturePlan). h.done ++ ps) is in
    let b : IsBeforeClosing s.options.hash (trail_of false bytes) h.done p =
    closings_stand s.options.hash false bytes h.done p more e in
    record {
      front = b.front;
      closes = b.behind;
      outs = h.outs;
      judged =
          b.decodes []
          ∙ ap (λ (ps : List PicturePlan). decoded_from s.options.hash (λ x. ended_with None) ps [])
          (sym (append-nil h.done))
          ∙ h.run (λ x. ended_with None) []
          ∙ ap (λ (ps : List OutPicture). let d : Decoded = record { pictures = ps; stop = None } in d)
          (append-nil h.outs);
      written = h.bytes;
    }

-- no picture waits
nothing-next : (hash : Bool) (next : Result Between Stop) (buffer : List BufferPicture) → stop_of next ≡ None
    → decoded_from hash
    (finished (planned_next next (λ s. planning.planned_end false s)).last
    (planned_next next (λ s. planning.planned_end false s)).stop)
    (planned_next next (λ s. planning.planned_end false s)).pictures buffer
    ≡ ended_with None
unfolding out_at
nothing-next hash (Ok s) buffer going = refl
nothing-next hash (Err e) buffer going = absurd cc

nothing-left : (hash : Bool) (p : Plans) (buffer : List BufferPicture) → p.pending ≡ [] → stop_of p.next ≡ None
    → decoded_from hash (finished (planned_behind false p []).last (planned_behind false p []).stop)
    (planned_behind false p []).pictures buffer
    ≡ ended_with None
unfolding planned_behind
nothing-left hash p buffer none going =
    ap (λ (ps : List PicturePlan). decoded_from hash
    (finished (planned_next p.next (λ s. planning.planned_end false s)).last
    (planned_next p.next (λ s. planning.planned_end false s)).stop)
    (ps ++ (planned_next p.next (λ s. planning.planned_end false s)).pictures) buffer) none
    ∙ nothing-next hash p.next buffer going

all-written : (options : Options) (d : Decoder) (given : List Told) (gained bytes : List ℕ)
    → (h : HasTaken options d given gained) → told_of false bytes ≡ given ++ [] → d.planner.pending ≡ []
    → decoded options.hash false bytes ≡ record { pictures = h.outs; stop = None }
unfolding decoded planned_of out_at
all-written options d given gained bytes h told none =
    let last : planning.Planned = planned_behind false d.planner [] in
    let is : planned_from false beginning (told_of false bytes) ≡ behind_closed h.done last =
    ap (planned_from false beginning) told ∙ h.planned false [] in
    ap (λ (p : planning.Planned). decoded_from options.hash (finished p.last p.stop) p.pictures []) is
    ∙ h.run (finished last.last last.stop) last.pictures
    ∙ ap (put_out h.outs) (nothing-left options.hash d.planner (buffer_of d.buffer) none h.going)
    ∙ ap (λ (ps : List OutPicture). let e : Decoded = record { pictures = ps; stop = None } in e) (append-nil h.outs)

pub holds : (s : Session) (bytes gained : List ℕ) → IsGoing s bytes gained → Holds s bytes gained
holds s bytes gained g =
    let h = g.taken in
    record {
      plans = subst (λ (n : ℕ). length s.decoder.planner.pending ≤ n) h.ahead h.waiting;
      pictures = few-held s.options s.decoder g.given gained h;
      first = h.done;
      last = closed-last s.options s.decoder g.given gained bytes h g.tells.told;
      held = before-first s bytes gained g.given h g.tells.told;
      none = λ none.
          let all = all-written s.options s.decoder g.given gained bytes h g.tells.told none in (
            ap (λ (d : Decoded). d.stop) all,
            h.bytes ∙ ap (bytes_of s.options.form) (sym all),
          );
    }

-- ---- pieces

pub fed-ok : {E : Type 0} (r : Result (Unit {0}) E) (P : Type 0) → OnOk r P → is_err r ≡ false → P
fed-ok (Ok x) P p ok = p
fed-ok (Err e) P p ok = absurd cc

-- nothing stopped behind a piece
pub pushed-on : (s : Session) (options : Options) (out : Change) (bytes gained : List ℕ) → s.outcome ≡ None
    → s.options ≡ options → Reached options out s.framer s.decoder false bytes gained []
    → Pushed s out bytes gained None
pushed-on s options out bytes gained none same t =
    let r : Reached s.options out s.framer s.decoder false bytes gained [] =
    subst (λ (o : Options). Reached o out s.framer s.decoder false bytes gained []) (sym same) t in
    let going : IsGoing s bytes (gained ++ r.more) = record { given = r.given; tells = r.tells; taken = r.taken } in
    record {
      more = r.more;
      gains = r.gains;
      stands = subst (λ (o : Option Outcome). StandsBy o s bytes (gained ++ r.more)) (sym none) going;
      said = holds s bytes (gained ++ r.more) going;
    }

-- decoding ended in it
pub pushed-over : (s : Session) (options : Options) (out : Change) (bytes gained : List ℕ) (o : Outcome)
    → s.outcome ≡ Some o → s.options ≡ options
    → Stops out (all_owed options false bytes) gained o → Pushed s out bytes gained (Some o)
pushed-over s options out bytes gained o is same t =
    let e : Stops out (all_owed s.options false bytes) gained o =
    subst (λ (p : Options). Stops out (all_owed p false bytes) gained o) (sym same) t in
    record {
      more = e.1.more;
      gains = e.1.gains;
      stands = subst (λ (p : Option Outcome). StandsBy p s bytes (gained ++ e.1.more)) (sym is) (e.0, e.1.end);
      said = (e.0, read-fault (all_owed s.options false bytes) (gained ++ e.1.more) o e.1.end, e.1.end);
    }

-- by the meanings of a sink: its bytes and its count of faults
module _ {X : Type 0} (sink : X → Option (List ℕ)) (faults : X → ℕ) where
  -- a piece behind the end
  pub pushed-again : (a : X) (s : Session) (bytes piece gained : List ℕ) (o : Outcome) → s.outcome ≡ Some o
      → Stands s bytes gained → Pushed s (by sink faults a a) (bytes ++ piece) gained (Some o)
  pushed-again a s bytes piece gained o is st =
      let e = over-of s bytes gained o is st in
      let stays : IsEnd (all_owed s.options false (bytes ++ piece)) gained o =
      end-stays s.options bytes piece gained o e.0 e.1 in
      let whole : IsEnd (all_owed s.options false (bytes ++ piece)) (gained ++ []) o =
      subst (λ (all : List ℕ). IsEnd (all_owed s.options false (bytes ++ piece)) all o) (sym (append-nil gained))
      stays in
      record {
        more = [];
        gains = Gains-nil (sink a);
        stands = subst (λ (p : Option Outcome). StandsBy p s (bytes ++ piece) (gained ++ [])) (sym is) (e.0, whole);
        said = (e.0, read-fault (all_owed s.options false (bytes ++ piece)) (gained ++ []) o whole, whole);
      }
