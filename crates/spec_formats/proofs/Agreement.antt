-- What is read is spelled by words that the data have, and what those spell is read: for every format.
use Rattle.std.proofs.Common.{◌≡◌, append_assoc, append-nil, List, [], ◌∷◌, ◌++◌, Result, Ok, Err, refl, sym, ap}
use Rattle.std.proofs.Common.{subst}
use Rattle.std.proofs.Common.{◌∙◌}
use Rattle.hv_base.specs.declared.breach.Breach.{Breach}
use Rattle.spec_formats.specs.Format.{Format, Give, Refuse, One, Then, Answers, bind, reading, Word, Spells, Has}
use Rattle.spec_formats.specs.Format.{IsSpelledAs, Writes}

module _ {S : Type 0} where
  abbrev done : {X : Type 0} → X × S → Result (X × S) Breach
  done x = Ok x

  pub ok_is : {X : Type 0} (x y : X × S) → done x ≡ done y → x ≡ y
  ok_is x y e = cc

  -- the value of a step that wasn't refused
  pub record Step {X Y : Type 0} (r : Result (X × S) Breach) (f : X → S → Result (Y × S) Breach)
      (y : Y × S) : Type 0 where
    pub value : X
    pub state : S
    pub read : r ≡ Ok (value, state)
    pub then_read : f value state ≡ Ok y

  pub bind_ok : {X Y : Type 0} (r : Result (X × S) Breach) (f : X → S → Result (Y × S) Breach) (y : Y × S)
      → bind r f ≡ Ok y → Step r f y
  bind_ok (Ok x) f y e = record { value = x.0; state = x.1; read = refl; then_read = e }
  bind_ok (Err e') f y e = absurd cc

module _ {S Question : Type 0} {Answer : Question → Type 0} where
  pub Has-append : (answers : Answers S Question Answer) (a b : List (Word Question Answer)) (s t u : S)
      → Has answers s a t → Has answers t b u → Has answers s (a ++ b) u
  Has-append answers [] b s t u has more = subst (λ (v : S). Has answers v b u) (sym has) more
  Has-append answers (x ∷ a) b s t u has more = (has.0, has.1, Has-append answers a b has.0 t u has.2 more)

  pub Has-split : (answers : Answers S Question Answer) (a b : List (Word Question Answer)) (s u : S)
      → Has answers s (a ++ b) u → (t : S) × Has answers s a t × Has answers t b u
  Has-split answers [] b s u has = (s, refl, has)
  Has-split answers (x ∷ a) b s u has =
      let rest = Has-split answers a b has.0 u has.2 in (rest.0, (has.0, has.1, rest.1), rest.2)

  -- words of the data that spell a value
  pub record Spelled (answers : Answers S Question Answer) {X : Type 0} (format : Format Question Answer X) (s : S)
      (x : X × S) : Type 0 where
    pub words : List (Word Question Answer)
    pub spells : Spells format x.0 words
    pub has : Has answers s words x.1

  pub found : (answers : Answers S Question Answer) {X : Type 0} (format : Format Question Answer X) (s : S) (x : X × S)
      → reading answers format s ≡ Ok x → Spelled answers format s x
  found answers (Give y) s x e = record {
    words = [];
    spells = (ap (λ (p : _ × S). p.0) (ok_is (y, s) x e), refl);
    has = ap (λ (p : _ × S). p.1) (ok_is (y, s) x e);
  }
  found answers (Refuse b) s x e = absurd cc
  found answers (One a) s x e = record { words = (a, x.0) ∷ []; spells = refl; has = (x.1, e, refl) }
  found answers (Then m f) s x e =
      let step = bind_ok (reading answers m s) (λ v t. reading answers (f v) t) x e in
      let first = found answers m s (step.value, step.state) step.read in
      let rest = found answers (f step.value) step.state x step.then_read in
      record {
        words = first.words ++ rest.words;
        spells = (step.value, first.words, rest.words, first.spells, rest.spells, refl);
        has = Has-append answers first.words rest.words s step.state x.1 first.has rest.has;
      }

  pub only : (answers : Answers S Question Answer) {X : Type 0} (format : Format Question Answer X) (x : X)
      (words : List (Word Question Answer)) (s t : S)
      → Spells format x words → Has answers s words t → reading answers format s ≡ Ok (x, t)
  only answers (Give y) x words s t spells has =
      let same = subst (λ w. Has answers s w t) spells.1 has in
      ap (λ v. Ok (v, s)) spells.0 ∙ ap (λ u. Ok (x, u)) same
  only answers (Refuse b) x words s t spells has = absurd spells
  only answers (One a) x words s t spells has =
      let h = subst (λ w. Has answers s w t) spells has in
      h.1 ∙ ap (λ u. Ok (x, u)) h.2
  only answers (Then m f) x words s t spells has =
      let h = Has-split answers spells.1 spells.2 s t (subst (λ w. Has answers s w t) spells.5 has) in
      ap (λ r. bind r (λ v u. reading answers (f v) u)) (only answers m spells.0 spells.1 s h.0 spells.3 h.1)
      ∙ only answers (f spells.0) x spells.2 h.0 t spells.4 h.2

  pub agree : (answers : Answers S Question Answer) {X : Type 0} (format : Format Question Answer X)
      → IsSpelledAs answers format
  agree answers format = record {
    found = λ s t x e. let f = found answers format s (x, t) e in (f.words, f.spells, f.has);
    only = λ s t x words spells has. only answers format x words s t spells has;
  }

module _ {Question : Type 0} {Answer : Question → Type 0} where
  -- what was written is spelled behind what stood before
  pub writes_spells : {X : Type 0} (format : Format Question Answer X) (x : X)
      (before after : List (Word Question Answer))
      → Writes format x before after
      → (words : List (Word Question Answer)) × Spells format x words × (after ≡ before ++ words)
  writes_spells (Give y) x before after w = ([], (w.0, refl), w.1 ∙ sym (append-nil before))
  writes_spells (Refuse b) x before after w = absurd w
  writes_spells (One a) x before after w = ((a, x) ∷ [], refl, w)
  writes_spells (Then m f) x before after w =
      let first = writes_spells m w.0 before w.1 w.2 in
      let rest = writes_spells (f w.0) x w.1 after w.3 in (
        first.0 ++ rest.0,
        (w.0, first.0, rest.0, first.1, rest.1, refl),
        rest.2 ∙ ap (λ b. b ++ rest.0) first.2 ∙ append_assoc before first.0 rest.0,
      )

module _ {S Question : Type 0} {Answer : Question → Type 0} where
  -- what was written is read from data that have it
  pub again : (answers : Answers S Question Answer) {X : Type 0} (format : Format Question Answer X) (x : X)
      (words : List (Word Question Answer)) (s t : S)
      → Writes format x [] words → Has answers s words t → reading answers format s ≡ Ok (x, t)
  again answers format x words s t w has =
      let spelled = writes_spells format x [] words w in
      only answers format x spelled.0 s t spelled.1 (subst (λ v. Has answers s v t) spelled.2 has)
