-- From reading a source and pushing what was read to what a run owes.
use Rattle.std.proofs.Common.{◌≡◌, ℕ, ◌≤◌, Bool, true, false, List, [], ◌++◌, length, take, Option, Some, None, refl}
use Rattle.std.proofs.Common.{sym, ap}
use Rattle.std.proofs.Common.{subst, ◌∙◌, append-nil}
use Rattle.std.specs.List.{concat}
use Rattle.std.specs.Option.{unwrap_or}
use Rattle.hv_base.specs.declared.outcome.Outcome.{Outcome}
use Rattle.hv_base.specs.declared.outcome.Outcome.TheVariants as outcome
use Rattle.hv_io.specs.Streams.{Gains, IsSpent, Rose, Takes}
use Rattle.hv_io.proofs.StreamLemmas.{Gains-append, Gains-nil, Takes-append}
use Rattle.decoder.specs.declared.options.Options.{Options}
use Rattle.decoder.specs.declared.session.Session.{Session}
use Rattle.decoder.specs.Headline.{Change, Headline, IsQuiet, change_of}
use Rattle.decoder.specs.Session.{HasRead, IsCountedBy, IsGoing, IsNoSuccess, Pushed, Stands, StandsBy, halted_as}
use Rattle.decoder.specs.Taking.{Ended, IsEnd, all_owed}
use Rattle.decoder.specs.Writing.{IsAnswered, Owed}
use Rattle.decoder.proofs.HeadlineLaws.{headline_ended, headline_open, headline_stopped}
use Rattle.decoder.proofs.Sessions.{going-of}
use Rattle.decoder.proofs.Takings.{ended-unfed, not-memory}

-- by the meanings of a sink: its bytes and its count of faults
module _ {T : Type 0} (sink : T → Option (List ℕ)) (faults : T → ℕ) where
  abbrev pub written-by : T → T → Change
  written-by a b = change_of sink faults a b

  all-gained : (x y w : T) (gained more all : List ℕ) → Gains (sink x) (sink y) gained → Gains (sink y) (sink w) more
      → gained ++ more ≡ all → Gains (sink x) (sink w) all
  all-gained x y w gained more all g m is =
      subst (Gains (sink x) (sink w)) is (Gains-append (sink x) (sink y) (sink w) gained more g m)

  -- an end behind what the sink gained before
  pub answered-by : (x y w : T) (d : Owed) (gained : List ℕ) (o : Outcome) → Gains (sink x) (sink y) gained
      → IsQuiet (written-by x y) → Ended (written-by y w) d gained o → IsAnswered d (written-by x w) o
  answered-by x y w d gained outcome.Ok g s e =
      ((e.end.0, all-gained x y w gained e.more (concat d.pieces) g e.gains e.end.1), e.counted ∙ s)
  answered-by x y w d gained (outcome.Fault f) g s e =
      ((e.end.0, all-gained x y w gained e.more (concat d.pieces) g e.gains e.end.1), e.counted ∙ s)
  answered-by x y w d gained (outcome.Limit l) g s e =
      ((e.end.0, all-gained x y w gained e.more (concat d.pieces) g e.gains e.end.1), e.counted ∙ s)
  answered-by x y w d gained outcome.Memory g s e =
      ((e.end.0, all-gained x y w gained e.more (concat (take e.end.0 d.pieces)) g e.gains e.end.1), e.counted ∙ s)
  answered-by x y w d gained outcome.ReadFault g s e =
      ((e.end.0, all-gained x y w gained e.more (concat d.pieces) g e.gains e.end.1), e.counted ∙ s)
  answered-by x y w d gained outcome.WriteFault g s e = (
    subst (λ (n : ℕ). Rose n (faults w)) s e.counted,
    (
      e.end.0,
      (
        e.end.1.0,
        all-gained x y w gained e.more (take e.end.0 (concat d.pieces)) g e.gains e.end.1.1,
      ),
    ),
  )

-- by those of a source too
module _ {S T : Type 0} (left : S → Option (List ℕ)) (failed : S → ℕ) (sink : T → Option (List ℕ)) (faults : T → ℕ)
    (options : Options) where
  abbrev pub Read : Session → S → S → T → T → Type 0
  Read s a b x y = HasRead options s (change_of left failed a b) (change_of sink faults x y)

  abbrev pub Owes : S → S → T → T → Outcome → Type 0
  Owes a b x y o = Headline options.form options.hash (change_of left failed a b) (change_of sink faults x y) o

  answered : (s : Session) (a b : S) (x y w : T) (ended : Bool) (bytes : List ℕ) (o : Outcome)
      → (h : Read s a b x y) → Ended (written-by sink faults y w) (all_owed s.options ended bytes) h.gained o
      → IsAnswered (all_owed options ended bytes) (written-by sink faults x w) o
  answered s a b x y w ended bytes o h e =
      answered-by sink faults x y w (all_owed options ended bytes) h.gained o h.gains h.wrote
      (subst (λ (p : Options). Ended (written-by sink faults y w) (all_owed p ended bytes) h.gained o) h.same e)

  none-taken : (a b z : S) (bytes buf : List ℕ) (n : ℕ) → Takes (left a) (left b) bytes
      → Takes (left b) (left z) (take n buf) → n ≡ 0 → Takes (left a) (left z) bytes
  none-taken a b z bytes buf n t u none =
      subst (Takes (left a) (left z)) (append-nil bytes)
      (Takes-append (left a) (left b) (left z) bytes [] t
      (subst (λ (m : ℕ). Takes (left b) (left z) (take m buf)) none u))

  -- the source ended
  pub source-ended : (s : Session) (a b z : S) (x y w : T) (n : ℕ) (buf : List ℕ) (o : Outcome) → (h : Read s a b x y)
      → Takes (left b) (left z) (take n buf) → n ≡ 0 → IsSpent (left z) → failed z ≡ failed b
      → Ended (written-by sink faults y w) (all_owed s.options true h.bytes) h.gained o → Owes a z x w o
  source-ended s a b z x y w n buf o h t none spent quiet e =
      headline_ended options.form options.hash (change_of left failed a z) (change_of sink faults x w) h.bytes o
      (none-taken a b z h.bytes buf n h.takes t none) spent (quiet ∙ h.read) (answered s a b x y w true h.bytes o h e)

  -- decoding ended in what was read
  pub stream-stopped : (s new : Session) (a b z : S) (x y w : T) (piece : List ℕ) (o : Outcome) → (h : Read s a b x y)
      → Takes (left b) (left z) piece → new.options ≡ s.options
      → Pushed new (written-by sink faults y w) (h.bytes ++ piece) h.gained (Some o)
      → IsCountedBy (written-by sink faults y w) (Some o) → Owes a z x w o
  stream-stopped s new a b z x y w piece o h t same p counted =
      let e : Ended (written-by sink faults y w) (all_owed new.options false (h.bytes ++ piece)) h.gained o =
      record { more = p.more; gains = p.gains; counted = counted; end = p.said.2 } in
      headline_stopped options.form options.hash (change_of left failed a z) (change_of sink faults x w)
      (h.bytes ++ piece) o (Takes-append (left a) (left b) (left z) h.bytes piece h.takes t) p.said.0
      (answered s a b x y w false (h.bytes ++ piece) o h
      (subst (λ (q : Options). Ended (written-by sink faults y w) (all_owed q false (h.bytes ++ piece)) h.gained o) same
      e))

  -- a piece was taken
  pub piece-taken : (s new : Session) (a b z : S) (x y w : T) (piece : List ℕ) → (h : Read s a b x y)
      → Takes (left b) (left z) piece → failed z ≡ failed b → new.options ≡ s.options → new.outcome ≡ None
      → Pushed new (written-by sink faults y w) (h.bytes ++ piece) h.gained None
      → IsCountedBy (written-by sink faults y w) None → Read new a z x w
  piece-taken s new a b z x y w piece h t quiet same going p counted = record {
    bytes = h.bytes ++ piece;
    gained = h.gained ++ p.more;
    takes = Takes-append (left a) (left b) (left z) h.bytes piece h.takes t;
    gains = Gains-append (sink x) (sink y) (sink w) h.gained p.more h.gains p.gains;
    stands = p.stands;
    going = going;
    same = same ∙ h.same;
    read = quiet ∙ h.read;
    wrote = counted ∙ h.wrote;
  }

  unread : (a b z : S) (bytes : List ℕ) → Takes (left a) (left b) bytes → left z ≡ left b
      → Takes (left a) (left z) bytes
  unread a b z bytes t same = subst (λ (rest : Option (List ℕ)). Takes (left a) rest bytes) (sym same) t

  halted : (s : Session) (a b z : S) (x y w : T) (r : Option Outcome) (h : Read s a b x y) → left z ≡ left b
      → Rose (failed b) (failed z) → IsNoSuccess r
      → Ended (written-by sink faults y w) (all_owed s.options false h.bytes) h.gained (halted_as r)
      → Owes a z x w (unwrap_or r outcome.ReadFault)
  halted s a b z x y w None h same rose other e =
      headline_open options.form options.hash (change_of left failed a z) (change_of sink faults x w) h.bytes
      (unread a b z h.bytes h.takes same) (subst (λ (n : ℕ). Rose n (failed z)) h.read rose)
      (answered s a b x y w false h.bytes outcome.Ok h e)
  halted s a b z x y w (Some o) h same rose other e =
      headline_stopped options.form options.hash (change_of left failed a z) (change_of sink faults x w) h.bytes o
      (unread a b z h.bytes h.takes same) (λ is. other (ap (λ (p : Outcome). Some p) is))
      (answered s a b x y w false h.bytes o h e)

  -- a read failed
  pub read-failed : (s : Session) (a b z : S) (x y w : T) (r : Option Outcome) (o : Outcome) (h : Read s a b x y)
      → left z ≡ left b → Rose (failed b) (failed z) → IsNoSuccess r
      → Ended (written-by sink faults y w) (all_owed s.options false h.bytes) h.gained (halted_as r)
      → o ≡ unwrap_or r outcome.ReadFault → Owes a z x w o
  read-failed s a b z x y w r o h same rose other e is =
      subst (Owes a z x w) (sym is) (halted s a b z x y w r h same rose other e)

  -- no more is read, as for want of memory
  pub reading-over : (s : Session) (a b : S) (x y : T) → Read s a b x y → Owes a b x y outcome.Memory
  reading-over s a b x y h =
      let going : IsGoing s h.bytes h.gained = going-of s h.bytes h.gained h.going h.stands in
      headline_stopped options.form options.hash (change_of left failed a b) (change_of sink faults x y) h.bytes
      outcome.Memory h.takes not-memory
      (answered s a b x y y false h.bytes outcome.Memory h
      (ended-unfed sink faults s.options y s.decoder going.given [] h.gained false h.bytes going.taken
      going.tells.told))

  -- nothing is read yet
  pub nothing-read : (s : Session) (a : S) (x : T) → Stands s [] [] → s.outcome ≡ None → s.options ≡ options
      → Takes (left a) (left a) [] → Read s a a x x
  nothing-read s a x stands going same takes = record {
    bytes = [];
    gained = [];
    takes = takes;
    gains = Gains-nil (sink x);
    stands = stands;
    going = going;
    same = same;
    read = refl;
    wrote = refl;
  }
