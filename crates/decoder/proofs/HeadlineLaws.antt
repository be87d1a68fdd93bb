-- From what reading and decoding a stream answer to what a run owes.
use Rattle.std.proofs.Common.{◌≡◌, ℕ, zero, suc, Bool, true, false, List, [], ◌∷◌, ◌++◌, length, take, Option, Some}
use Rattle.std.proofs.Common.{None}
use Rattle.std.proofs.Common.{refl, sym, ap, subst, ◌∙◌, inl, inr, ◌⊎◌}
use Rattle.std.specs.Prelude.{IfSome}
use Rattle.std.specs.List.{concat}
use Rattle.std.proofs.Math.Seq.{take-nil}
use Rattle.std.proofs.lemmas.List.{append-nil}
use Rattle.hv_base.specs.declared.outcome.Outcome.{Outcome}
use Rattle.hv_base.specs.declared.outcome.Outcome.TheVariants as outcome
use Rattle.hv_base.specs.declared.refusal.Stop.{Stop}
use Rattle.hv_base.specs.declared.refusal.Stop.TheVariants as stop
use Rattle.hv_io.specs.Streams.{IsSpent, Takes, Gains, GainsPrefix}
use Rattle.hv_io.proofs.StreamLemmas.{GainsPrefix-front}
use Rattle.spec_decoder.specs.declared.form.Form.{Form}
use Rattle.spec_decoder.specs.Output.{written}
use Rattle.spec_decoder.specs.Decoder.{Decoded, Continues, decoded, bytes_of}
use Rattle.spec_decoder.proofs.Written.{written_first}
use Rattle.spec_decoder.proofs.Continuing.{of_continues}
use Rattle.decoder.specs.Headline.{Change, Failed, IsQuiet, GainsAll, GainsWhole, GainsCut, outcome_of, IsResult}
use Rattle.decoder.specs.Headline.{IsDecoded, Headline, IsComplete}
use Rattle.decoder.specs.Writing.{IsAnswered, owed_from}

if_some : (o : Option (List ℕ)) (P Q : List ℕ → Type 0) → IfSome o P → ((b : List ℕ) → P b → Q b) → IfSome o Q
if_some None P Q p f = tt
if_some (Some b) P Q p f = f b p

always : (o : Option (List ℕ)) (P : List ℕ → Type 0) → ((b : List ℕ) → P b) → IfSome o P
always None P f = tt
always (Some b) P f = f b

pub no_read_fault : (end : Option Stop) → outcome.ReadFault ≡ outcome_of end → ⊥
no_read_fault None e = absurd cc
no_read_fault (Some (stop.Fault f)) e = absurd cc
no_read_fault (Some (stop.Limit l)) e = absurd cc

-- success is that nothing stops
not_stopped : (end : Option Stop) → outcome.Ok ≡ outcome_of end → end ≡ None
not_stopped None e = refl
not_stopped (Some (stop.Fault f)) e = absurd cc
not_stopped (Some (stop.Limit l)) e = absurd cc

-- the first pieces of a front are the first pieces of the whole
pub take_front : (n : ℕ) (ps more : List (List ℕ)) → (m : ℕ) × (take m (ps ++ more) ≡ take n ps)
take_front zero ps more = (0, refl)
take_front (suc n) [] more = (0, sym (take-nil (suc n)))
take_front (suc n) (p ∷ ps) more =
    let r = take_front n ps more in
    (suc r.0, ap (λ (qs : List (List ℕ)). p ∷ qs) r.1)

-- of what is written in a form, where stated hashes are compared or not
module _ (form : Form) (hash : Bool) where
  -- of the whole input: what holds of what was read to its end
  of_ended : (before after : Option (List ℕ)) (read : List ℕ) (P : Decoded → Type 0) → Takes before after read
      → IsSpent after
      → P (decoded hash true read) → IfSome before (λ b. P (decoded hash true b))
  of_ended None after read P takes spent p = tt
  of_ended (Some b) None read P takes spent p = absurd takes
  of_ended (Some b) (Some rest) read P takes spent p =
      subst (λ (c : List ℕ). P (decoded hash true c))
      (sym (takes ∙ ap (λ (r : List ℕ). read ++ r) spent ∙ append-nil read)) p

  -- and what holds of all that continues what was read
  of_front : (before after : Option (List ℕ)) (read : List ℕ) (P : Decoded → Type 0) → Takes before after read
      → ((long : Decoded) → Continues (decoded hash false read) long → P long)
      → IfSome before (λ b. P (decoded hash true b))
  of_front None after read P takes f = tt
  of_front (Some b) None read P takes f = absurd takes
  of_front (Some b) (Some rest) read P takes f =
      subst (λ (c : List ℕ). P (decoded hash true c)) (sym takes)
      (f (decoded hash true (read ++ rest)) (of_continues hash true read rest))

  -- decoding a stream that was read whole
  pub headline_ended : (src out : Change) (read : List ℕ) (o : Outcome) → Takes src.before src.after read
      → IsSpent src.after → IsQuiet src → IsAnswered (owed_from form 0 (decoded hash true read)) out o
      → Headline form hash src out o
  headline_ended src out read outcome.Ok takes spent quiet a =
      (of_ended src.before src.after read (IsResult form out outcome.Ok) takes spent a.0, spent, quiet, a.1)
  headline_ended src out read (outcome.Fault f) takes spent quiet a =
      (of_ended src.before src.after read (IsResult form out (outcome.Fault f)) takes spent a.0, a.1)
  headline_ended src out read (outcome.Limit l) takes spent quiet a =
      (of_ended src.before src.after read (IsResult form out (outcome.Limit l)) takes spent a.0, a.1)
  headline_ended src out read outcome.Memory takes spent quiet a =
      (of_ended src.before src.after read (GainsWhole form out) takes spent a.0, a.1)
  headline_ended src out read outcome.ReadFault takes spent quiet a =
      absurd (no_read_fault (decoded hash true read).stop a.0.0)
  headline_ended src out read outcome.WriteFault takes spent quiet a =
      (a.0, of_ended src.before src.after read (GainsCut form out) takes spent a.1)

  pub written_front : (short long : Decoded) → (c : Continues short long)
      → written form 0 long.pictures
      ≡ written form 0 short.pictures ++ written form (length short.pictures) c.more
  written_front short long c =
      ap (written form 0) c.pictures ∙ written_first form short.pictures c.more

  whole_front : (out : Change) (short long : Decoded) → Continues short long → GainsWhole form out short
      → GainsWhole form out long
  whole_front out short long c g =
      let r = take_front g.0 (written form 0 short.pictures) (written form (length short.pictures) c.more) in (
        r.0,
        subst (λ (ps : List (List ℕ)). Gains out.before out.after (concat ps))
            (sym (ap (take r.0) (written_front short long c) ∙ r.1)) g.1,
      )

  cut_front : (out : Change) (short long : Decoded) → Continues short long → GainsCut form out short
      → GainsCut form out long
  cut_front out short long c g =
      subst (GainsPrefix out.before out.after) (sym (c.bytes form))
      (GainsPrefix-front out.before out.after (bytes_of form short)
      (concat (written form (length short.pictures) c.more)) g)

  -- what stopped the front is what stops the whole
  stopped_front : (out : Change) (o : Outcome) (short long : Decoded) → Continues short long → ¬ (o ≡ outcome.Ok)
      → IsResult form out o short → IsResult form out o long
  stopped_front out o short long c n g =
      subst (IsResult form out o) (sym (c.stopped (λ e. n (g.0 ∙ ap outcome_of e)))) g

  decoded_front : (src out : Change) (read : List ℕ) (o : Outcome) → Takes src.before src.after read
      → ¬ (o ≡ outcome.Ok) → IsResult form out o (decoded hash false read) → IsDecoded form hash src out o
  decoded_front src out read o takes n g =
      of_front src.before src.after read (IsResult form out o) takes
      (λ long c. stopped_front out o (decoded hash false read) long c n g)

  -- decoding had stopped in what came before a failed read
  pub headline_stopped : (src out : Change) (read : List ℕ) (o : Outcome) → Takes src.before src.after read
      → ¬ (o ≡ outcome.Ok) → IsAnswered (owed_from form 0 (decoded hash false read)) out o
      → Headline form hash src out o
  headline_stopped src out read outcome.Ok takes n a = absurd (n refl)
  headline_stopped src out read (outcome.Fault f) takes n a =
      (decoded_front src out read (outcome.Fault f) takes n a.0, a.1)
  headline_stopped src out read (outcome.Limit l) takes n a =
      (decoded_front src out read (outcome.Limit l) takes n a.0, a.1)
  headline_stopped src out read outcome.Memory takes n a = (
    of_front src.before src.after read (GainsWhole form out) takes
        (λ long c. whole_front out (decoded hash false read) long c a.0),
    a.1,
  )
  headline_stopped src out read outcome.ReadFault takes n a =
      absurd (no_read_fault (decoded hash false read).stop a.0.0)
  headline_stopped src out read outcome.WriteFault takes n a = (
    a.0,
    of_front src.before src.after read (GainsCut form out) takes
        (λ long c. cut_front out (decoded hash false read) long c a.1),
  )

  open_read : (before after : Option (List ℕ)) (out : Change) (read : List ℕ) → Takes before after read
      → IsResult form out outcome.Ok (decoded hash false read)
      → IfSome before
      (λ b. (r : List ℕ) × Takes before after r × GainsAll form out (decoded hash false r)
      × ((decoded hash false r).stop ≡ None))
  open_read None after out read takes r = tt
  open_read (Some b) after out read takes r = (read, takes, r.1, not_stopped (decoded hash false read).stop r.0)

  -- a read failed, and nothing had stopped decoding before
  pub headline_open : (src out : Change) (read : List ℕ) → Takes src.before src.after read → Failed src
      → IsAnswered (owed_from form 0 (decoded hash false read)) out outcome.Ok
      → Headline form hash src out outcome.ReadFault
  headline_open src out read takes failed a = (failed, open_read src.before src.after out read takes a.0, a.1)

  decoded_or : (src out : Change) (o : Outcome) → IsDecoded form hash src out o
      → IfSome src.before (λ b. (o ≡ outcome_of (decoded hash true b).stop) ⊎ (o ≡ outcome.Memory))
  decoded_or src out o d =
      if_some src.before (λ b. IsResult form out o (decoded hash true b))
      (λ b. (o ≡ outcome_of (decoded hash true b).stop) ⊎ (o ≡ outcome.Memory)) d (λ b e. inl e.0)

  -- where nothing failed, the outcome is that of sequential decoding, or there was no memory
  pub headline_complete : (src out : Change) (o : Outcome) → Headline form hash src out o → IsComplete hash src out o
  headline_complete src out outcome.Ok h = λ read wrote. decoded_or src out outcome.Ok h.0
  headline_complete src out (outcome.Fault f) h = λ read wrote. decoded_or src out (outcome.Fault f) h.0
  headline_complete src out (outcome.Limit l) h = λ read wrote. decoded_or src out (outcome.Limit l) h.0
  headline_complete src out outcome.Memory h = λ read wrote. always src.before
      (λ b. (outcome.Memory ≡ outcome_of (decoded hash true b).stop) ⊎ (outcome.Memory ≡ outcome.Memory))
      (λ b. inr refl)
  headline_complete src out outcome.ReadFault h = λ read wrote. absurd (read h.0)
  headline_complete src out outcome.WriteFault h = λ read wrote. absurd (wrote h.0)
