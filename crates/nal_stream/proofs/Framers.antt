-- How a framer's state goes on with the stream.
use Rattle.std.proofs.Common.{◌≡◌, ℕ, ◌-◌, ◌<◌, ◌≤◌, Bool, true, false, List, [], ◌∷◌, ◌++◌, length, take, drop, Some}
use Rattle.std.proofs.Common.{None, Result, Ok, Err, IfOk, refl, sym, ap, ◌∙◌, arith, append_assoc, length-drop}
use Rattle.std.proofs.lemmas.List.{drop-append-le, append-nil}
use Rattle.std.proofs.Math.ListN.{drop_of_length-le}
use Rattle.spec_nal_units.specs.Units.{ends_unit, unit_end, unit_at, unit_to, trimmed, Raw, Padding, Inside, parts}
use Rattle.spec_nal_units.specs.Judged.{Told, Whole, Broken, Met, unit_of, judged, next_number, then_told, told_from}
use Rattle.spec_nal_units.specs.Judged.{told_of}
use Rattle.spec_nal_units.proofs.Ends.{ends_unit-append, parts-inside}
use Rattle.spec_nal_units.proofs.Going.{unit-then-rest}
use Rattle.nal_stream.specs.declared.answer.Next.{Next}
use Rattle.nal_stream.specs.declared.answer.Next.TheVariants as next
use Rattle.nal_stream.specs.declared.refused.Refused.{Refused}
use Rattle.nal_stream.specs.declared.refused.Refused.TheVariants as refused
use Rattle.nal_stream.specs.declared.framer.Framer.{Framer}
use Rattle.nal_stream.specs.Answers.{told_by}
use Rattle.nal_stream.specs.Framing.{History, with_answer, IsNext, pending, parts_here, told_refused, to_come_of}
use Rattle.nal_stream.specs.Framing.{to_come, CanGoOn, StandsFor, Goes, Answers, before, IsJudged}

-- the places that were searched stay searched when bytes come
pub searched-append : (bs piece : List ℕ) (start searched : ℕ) → start ≤ length bs
    → searched ≤ length (drop start bs) - 2
    → ((j : ℕ) → j < searched → ends_unit (drop j (drop start bs)) ≡ false)
    → (j : ℕ) → j < searched → ends_unit (drop j (drop start (bs ++ piece))) ≡ false
searched-append bs piece start searched le few none j lt =
    let inside : j ≤ length (drop start bs) = omega arith in
    let long : 2 < length (drop j (drop start bs)) = omega (arith, length-drop j (drop start bs)) in
    ap (λ xs. ends_unit (drop j xs)) (drop-append-le start bs piece le)
    ∙ ap ends_unit (drop-append-le j (drop start bs) piece inside)
    ∙ ends_unit-append (drop j (drop start bs)) piece long
    ∙ none j lt

pub go_now : (b : Bool) → CanGoOn b b []
go_now true = (refl, refl)
go_now false = tt

go_along : (a b ended : Bool) (rest : List ℕ) → a ≡ b → CanGoOn b ended rest → CanGoOn a ended rest
go_along true true ended rest e g = g
go_along false false ended rest e g = tt
go_along true false ended rest e g = cc
go_along false true ended rest e g = tt

-- a framer that told nothing stands for the same
pub StandsFor-same : (old new : Framer) (h : History) → Goes old new [] → StandsFor old h → StandsFor new h
StandsFor-same old new h g s = record {
  finished = g.finished ∙ s.finished;
  told = λ ended rest c. let d = go_along old.finished new.finished ended rest (sym g.finished) c in
      s.told ended rest d ∙ ap (λ ts. h.given ++ ts) (g.to_tell ended rest d);
}

StandsFor-told : (old new : Framer) (h : History) (t : Told) → Goes old new (t ∷ []) → StandsFor old h
    → StandsFor new (record { fed = h.fed; given = h.given ++ t ∷ []; finished = h.finished })
StandsFor-told old new h t g s = record {
  finished = g.finished ∙ s.finished;
  told = λ ended rest c. let d = go_along old.finished new.finished ended rest (sym g.finished) c in
      s.told ended rest d ∙ ap (λ ts. h.given ++ ts) (g.to_tell ended rest d)
      ∙ sym (append_assoc h.given (t ∷ []) (to_come new ended rest));
}

-- what a framer is to tell now
told_now : (f : Framer) (h : History) → StandsFor f h → told_of h.finished h.fed ≡ h.given ++ to_come f f.finished []
told_now f h s =
    ap (λ e. told_of e h.fed) (sym s.finished) ∙ ap (told_of f.finished) (sym (append-nil h.fed))
    ∙ s.told f.finished [] (go_now f.finished)

told_then : (old new : Framer) (h : History) (t : Told) → Goes old new (t ∷ []) → StandsFor old h
    → told_of h.finished h.fed ≡ h.given ++ t ∷ to_come new old.finished []
told_then old new h t g s =
    told_now old h s ∙ ap (λ ts. h.given ++ ts) (g.to_tell old.finished [] (go_now old.finished))

told_refusal : (new : Framer) (h : History) (r : Refused) → new.refused ≡ Some r → StandsFor new h
    → told_of h.finished h.fed ≡ h.given ++ told_refused r ∷ []
told_refusal new h r e s = told_now new h s ∙ ap (λ o. h.given ++ to_come_of o new new.finished []) e

told_none : (new : Framer) (h : History) (b : Bool) → new.finished ≡ b → to_come new b [] ≡ [] → StandsFor new h
    → (h.finished ≡ b) × (told_of b h.fed ≡ h.given)
told_none new h b is e s =
    let same : h.finished ≡ b = sym s.finished ∙ is in (
      same,
      ap (λ c. told_of c h.fed) (sym same) ∙ told_now new h s ∙ ap (λ c. h.given ++ to_come new c []) is
          ∙ ap (λ ts. h.given ++ ts) e ∙ append-nil h.given,
    )

-- an answer is the next of the history, which it extends
answer_is_next : (n : Next) (old new : Framer) (h : History) → Answers n old new → StandsFor old h
    → IsNext h n × StandsFor new (with_answer h n)
answer_is_next (next.Unit n) old new h a s =
    ((to_come new old.finished [], told_then old new h _ a s), StandsFor-told old new h _ a s)
answer_is_next (next.Fault f) old new h a s =
    let m = StandsFor-same old new h a.0 s in (told_refusal new h (refused.Fault f) a.1 m, m)
answer_is_next (next.Limit l) old new h a s =
    let m = StandsFor-same old new h a.0 s in (told_refusal new h (refused.Limit l) a.1 m, m)
answer_is_next next.More old new h a s =
    let m = StandsFor-same old new h a.0 s in (told_none new h false (a.0.finished ∙ a.1) a.2 m, m)
answer_is_next next.End old new h a s =
    let m = StandsFor-same old new h a.0 s in (told_none new h true (a.0.finished ∙ a.1) a.2 m, m)

-- the same behind padding, where the call had memory
pub next-value : {E : Type 0} (r : Result Next E) (old middle new : Framer) (h : History) → Goes old middle []
    → IfOk r (λ n. Answers n middle new) → StandsFor old h
    → IfOk r (λ n. IsNext h n × StandsFor new (with_answer h n))
next-value (Ok n) old middle new h g a s = answer_is_next n middle new h a (StandsFor-same old middle h g s)
next-value (Err e) old middle new h g a s = tt

goes-behind : (old middle new : Framer) (told : List Told) → Goes old middle [] → Goes middle new told
    → Goes old new told
goes-behind old middle new told g a = record {
  finished = a.finished ∙ g.finished;
  to_tell = λ ended rest c.
      g.to_tell ended rest c
      ∙ a.to_tell ended rest (go_along middle.finished old.finished ended rest g.finished c);
}

-- an answer behind padding that was passed over
answers_behind : (n : Next) (old middle new : Framer) → Goes old middle [] → Answers n middle new → Answers n old new
answers_behind (next.Unit n) old middle new g a = goes-behind old middle new (Whole (unit_of n) ∷ []) g a
answers_behind (next.Fault f) old middle new g a = (goes-behind old middle new [] g a.0, a.1)
answers_behind (next.Limit l) old middle new g a = (goes-behind old middle new [] g a.0, a.1)
answers_behind next.More old middle new g a =
    (goes-behind old middle new [] g a.0, sym g.finished ∙ a.1, a.2)
answers_behind next.End old middle new g a =
    (goes-behind old middle new [] g a.0, sym g.finished ∙ a.1, a.2)

pub next-answers : {E : Type 0} (r : Result Next E) (old middle new : Framer) → Goes old middle []
    → IfOk r (λ n. Answers n middle new) → IfOk r (λ n. Answers n old new)
next-answers (Ok n) old middle new g a = answers_behind n old middle new g a
next-answers (Err e) old middle new g a = tt

before-told : (n : Next) (t : Told) (later : List Told) → told_by n ≡ t ∷ [] → then_told t later ≡ before n later
before-told (next.Unit n) t later e = let is : Whole (unit_of n) ≡ t = cc in ap (λ u. then_told u later) (sym is)
before-told (next.Fault f) t later e = let is : Broken f ≡ t = cc in ap (λ u. then_told u later) (sym is)
before-told (next.Limit l) t later e = let is : Met l ≡ t = cc in ap (λ u. then_told u later) (sym is)
before-told next.More t later e = cc
before-told next.End t later e = cc

at_unit : (f : Framer) (ended : Bool) (rest : List ℕ) → f.inside ≡ true → f.refused ≡ None
    → to_come f ended rest
    ≡ told_from f.began ended f.index (unit_at ended (pending f ++ rest) ++ parts ended Inside (pending f ++ rest))
at_unit f ended rest i r =
    ap (λ o. to_come_of o f ended rest) r
    ∙ ap (λ b. told_from f.began ended f.index (parts_here b f.zeros ended (pending f ++ rest))) i

-- a unit whose end came is judged
pub judged-whole : (f : Framer) (n : Next) (size : ℕ) → f.inside ≡ true → f.refused ≡ None
    → unit_end (pending f) ≡ Some size
    → told_by n ≡ judged f.index (take size (pending f)) ∷ [] → IsJudged f n size
judged-whole f n size i r e t = λ ended rest g.
    at_unit f ended rest i r
    ∙ ap (told_from f.began ended f.index) (unit-then-rest ended (pending f) rest size e)
    ∙ before-told n _ _ t

last_unit : (f : Framer) (n : Next) (taken : ℕ) (ended : Bool) (rest : List ℕ) → f.inside ≡ true → f.refused ≡ None
    → unit_end (pending f) ≡ None
    → taken ≡ length (pending f) → told_by n ≡ judged f.index (trimmed (pending f)) ∷ [] → ended ≡ true → rest ≡ []
    → to_come f ended rest
    ≡ before n (told_from true ended (next_number f.index) (parts ended (Padding 0) (drop taken (pending f) ++ rest)))
last_unit f n taken false rest i r e size t is none = cc
last_unit f n taken true (b ∷ rest) i r e size t is none = cc
last_unit f n taken true [] i r e size t is none =
    let bytes = pending f in
    let gone : drop taken bytes ++ [] ≡ [] = append-nil (drop taken bytes) ∙ drop_of_length-le bytes (omega arith) in
    at_unit f true [] i r
    ∙ ap (λ bs. told_from f.began true f.index (unit_at true bs ++ parts true Inside bs)) (append-nil bytes)
    ∙ ap (λ o. told_from f.began true f.index (unit_to true bytes o ++ parts true Inside bytes)) e
    ∙ ap (λ ps. told_from f.began true f.index (Raw (trimmed bytes) ∷ ps)) (parts-inside true bytes e)
    ∙ before-told n _ _ t
    ∙ sym (ap (λ bs. before n (told_from true true (next_number f.index) (parts true (Padding 0) bs))) gone)

-- at the input's end the last unit is judged, without the zero bytes at its end
pub judged-last : (f : Framer) (n : Next) (taken : ℕ) → f.inside ≡ true → f.refused ≡ None → f.finished ≡ true
    → unit_end (pending f) ≡ None
    → taken ≡ length (pending f) → told_by n ≡ judged f.index (trimmed (pending f)) ∷ [] → IsJudged f n taken
judged-last f n taken i r end e size t = λ ended rest g.
    let d = go_along true f.finished ended rest (sym end) g in last_unit f n taken ended rest i r e size t d.0 d.1

-- a unit that isn't whole tells nothing yet
pub unfinished : (f : Framer) → f.inside ≡ true → f.refused ≡ None → unit_end (pending f) ≡ None
    → to_come f false [] ≡ []
unfinished f i r e =
    let bytes = pending f in
    at_unit f false [] i r
    ∙ ap (λ bs. told_from f.began false f.index (unit_at false bs ++ parts false Inside bs)) (append-nil bytes)
    ∙ ap (λ o. told_from f.began false f.index (unit_to false bytes o ++ parts false Inside bytes)) e
    ∙ ap (told_from f.began false f.index) (parts-inside false bytes e)
