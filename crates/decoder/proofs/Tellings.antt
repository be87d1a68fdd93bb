-- What a framer's calls leave to be told.
use Rattle.std.proofs.Common.{◌≡◌, ℕ, Bool, true, false, List, [], ◌∷◌, ◌++◌, length, refl, sym, ap, subst, ◌∙◌}
use Rattle.std.proofs.Common.{◌<◌, append_assoc, append-nil, arith}
use Rattle.std.proofs.lemmas.List.{append_cancel_left}
use Rattle.hv_base.specs.declared.fault.Fault.{Fault}
use Rattle.hv_base.specs.declared.limit.Limit.{Limit}
use Rattle.hv_base.specs.declared.nal.Nal.{Nal}
use Rattle.spec_nal_units.specs.Judged.{Told, Whole, Broken, Met, unit_of, told_of}
use Rattle.nal_stream.specs.declared.answer.Next.TheVariants as next
use Rattle.nal_stream.specs.declared.framer.Framer.{Framer}
use Rattle.nal_stream.specs.Framing.{Answers, History, StandsFor, CanGoOn, IsNext, with_answer, to_come}
use Rattle.decoder.specs.Taking.{StillTells, left_of}

can_end : (b : Bool) → CanGoOn b b []
can_end true = (refl, refl)
can_end false = tt

-- how much a framer has still to tell is as much less as it answered
pub left-less : (old new : Framer) (n : Nal) → Answers (next.Unit n) old new → left_of new < left_of old
unfolding left_of
left-less old new n a =
    let e : to_come old old.finished [] ≡ Whole (unit_of n) ∷ to_come new old.finished [] =
    a.to_tell old.finished [] (can_end old.finished) in
    let same : to_come new new.finished [] ≡ to_come new old.finished [] =
    ap (λ (b : Bool). to_come new b []) a.finished in
    omega (arith, ap length e, ap length same)

abbrev pub history : List Told → Bool → List ℕ → History
history given ended bytes = record { fed = bytes; given = given; finished = ended }

ended-at : (b c : Bool) (bytes : List ℕ) (given : List Told) → b ≡ c → told_of c bytes ≡ given → told_of b bytes ≡ given
ended-at b c bytes given e is = ap (λ (d : Bool). told_of d bytes) e ∙ is

rest-is : (ended : Bool) (bytes : List ℕ) (given later rest : List Told) → told_of ended bytes ≡ given ++ later
    → told_of ended bytes ≡ given ++ rest → later ≡ rest
rest-is ended bytes given later rest a b = append_cancel_left given later rest (sym a ∙ b)

-- a unit is told first, and the framer then tells the rest
pub tells-unit : (old new : Framer) (ended : Bool) (bytes : List ℕ) (given later : List Told) (n : Nal)
    (t : StillTells old ended bytes given later)
    → IsNext (history given ended bytes) (next.Unit n)
    → StandsFor new (with_answer (history given ended bytes) (next.Unit n))
    → (rest : List Told) × (later ≡ Whole (unit_of n) ∷ rest)
    × StillTells new ended bytes (given ++ Whole (unit_of n) ∷ []) rest
tells-unit old new ended bytes given later n t is stands = (
  is.0,
  rest-is ended bytes given later (Whole (unit_of n) ∷ is.0) t.told is.1,
  record {
    stands = stands;
    told = is.1 ∙ sym (append_assoc given (Whole (unit_of n) ∷ []) is.0);
  },
)

pub tells-fault : (old : Framer) (ended : Bool) (bytes : List ℕ) (given later : List Told) (f : Fault)
    (t : StillTells old ended bytes given later)
    → IsNext (history given ended bytes) (next.Fault f) → later ≡ Broken f ∷ []
tells-fault old ended bytes given later f t is = rest-is ended bytes given later (Broken f ∷ []) t.told is

pub tells-limit : (old : Framer) (ended : Bool) (bytes : List ℕ) (given later : List Told) (l : Limit)
    (t : StillTells old ended bytes given later)
    → IsNext (history given ended bytes) (next.Limit l) → later ≡ Met l ∷ []
tells-limit old ended bytes given later l t is = rest-is ended bytes given later (Met l ∷ []) t.told is

-- nothing is left to be told
pub tells-more : (old : Framer) (ended : Bool) (bytes : List ℕ) (given later : List Told)
    (t : StillTells old ended bytes given later)
    → IsNext (history given ended bytes) next.More → later ≡ []
tells-more old ended bytes given later t is =
    rest-is ended bytes given later [] t.told
    (ended-at ended false bytes given is.0 is.1 ∙ sym (append-nil given))

pub tells-end : (old : Framer) (ended : Bool) (bytes : List ℕ) (given later : List Told)
    (t : StillTells old ended bytes given later)
    → IsNext (history given ended bytes) next.End → later ≡ []
tells-end old ended bytes given later t is =
    rest-is ended bytes given later [] t.told (ended-at ended true bytes given is.0 is.1 ∙ sym (append-nil given))

-- a framer that was fed more
pub fed-tells : (old new : Framer) (bytes piece : List ℕ) (given : List Told) → StillTells old false bytes given []
    → StandsFor new (history given false (bytes ++ piece))
    → StillTells new false (bytes ++ piece) given (to_come new false [])
fed-tells old new bytes piece given t stands = record {
  stands = stands;
  told =
      ap (told_of false) (sym (append-nil (bytes ++ piece)))
      ∙ stands.told false [] (subst (λ (b : Bool). CanGoOn b false []) (sym stands.finished) tt);
}

-- a framer whose input has ended
pub ended-tells : (old new : Framer) (bytes : List ℕ) (given : List Told) → StillTells old false bytes given []
    → StandsFor new (history given true bytes) → StillTells new true bytes given (to_come new true [])
ended-tells old new bytes given t stands = record {
  stands = stands;
  told =
      ap (told_of true) (sym (append-nil bytes))
      ∙ stands.told true [] (subst (λ (b : Bool). CanGoOn b true []) (sym stands.finished) (refl, refl));
}

-- what a framer that is fed a piece more will tell of it, whether it has memory for it or not
pub told-more : (f : Framer) (bytes piece : List ℕ) (given : List Told) → StillTells f false bytes given []
    → told_of false (bytes ++ piece) ≡ given ++ to_come f false piece
told-more f bytes piece given t =
    t.stands.told false piece (subst (λ (b : Bool). CanGoOn b false piece) (sym t.stands.finished) tt)
