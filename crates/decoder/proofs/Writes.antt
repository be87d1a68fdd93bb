-- What several writes of pictures do, one after the other.
use Rattle.std.proofs.Common.{◌≡◌, inl, inr, ℕ, suc, ◌+◌, ◌<◌, ◌≤◌, Bool, All, get_or, drop, drop-cons, add-one, List}
use Rattle.std.proofs.Common.{[], ◌∷◌, ◌++◌, length, take, Option, Some, None, Result, Ok, Err, refl, sym, ap, subst}
use Rattle.std.proofs.Common.{◌∙◌, append_assoc, append-nil, arith}
use Rattle.std.specs.Prelude.{IsErrAnd, slice_get}
use Rattle.std.proofs.lemmas.Result.{err_from_is_err_and}
use Rattle.std.specs.List.{concat}
use Rattle.std.proofs.lemmas.List.Folds.{concat-append}
use Rattle.std.proofs.Math.Seq.{take-append-add}
use Rattle.std.proofs.lemmas.List.{drop_all, take-append-drop}
use Rattle.std.proofs.lemmas.List.Elements.{All-cons, All-head, All-nil, All-tail}
use Rattle.std.proofs.lemmas.List.{length-append}
use Rattle.hv_base.specs.declared.outcome.Outcome.{Outcome}
use Rattle.hv_base.specs.declared.outcome.Outcome.TheVariants as outcome
use Rattle.hv_base.specs.declared.refusal.Stop.{Stop}
use Rattle.hv_base.specs.declared.refusal.Stop.TheVariants as stop
use Rattle.hv_io.specs.Streams.{Gains, GainsPrefix, Rose}
use Rattle.hv_io.proofs.StreamLemmas.{Gains-nil, Gains-append, GainsPrefix-append, GainsPrefix-front}
use Rattle.plan_types.specs.declared.picture_plan.PicturePlan.{PicturePlan}
use Rattle.picture_plan.specs.Flights.{pictures_of}
use Rattle.spec_decoder.specs.declared.form.Form.{Form}
use Rattle.spec_decoder.specs.Output.{OutPicture, piece_of, told_number, written}
use Rattle.spec_decoder.specs.Decoder.{BufferPicture, Decoded, behind_picture, decoded_from, decoded_picture, ended}
use Rattle.spec_decoder.specs.Decoder.{entered, finished, kept_from, next_out, out_at, picture_out, put_out}
use Rattle.spec_decoder.specs.Decoder.{with_picture}
use Rattle.spec_decoder.proofs.Written.{written_append, written_told}
use Rattle.session_laws.proofs.Places.{few_places}
use Rattle.decoder.specs.Buffers.{HeldBuffer, buffer_of}
use Rattle.decoder.specs.Headline.{Change, IsQuiet, change_of, outcome_of}
use Rattle.decoder.specs.Pictures.{EntersBuffer, IsRefused}
use Rattle.decoder.specs.Writing.{Breaks, Ends, IsAnswered, KeepsAtMost, Leaves, Owed, Passes, RanPicture, Run, Went}
use Rattle.decoder.specs.Writing.{owed_from}

-- pieces, and what is owed behind them
abbrev pub behind : List (List ℕ) → Owed → Owed
behind pieces later = record { pieces = pieces ++ later.pieces; stop = later.stop }

gains-behind : (a b c : Option (List ℕ)) (ps qs : List (List ℕ)) → Gains a b (concat ps) → Gains b c (concat qs)
    → Gains a c (concat (ps ++ qs))
gains-behind a b c ps qs p q =
    subst (Gains a c) (sym (concat-append ps qs)) (Gains-append a b c (concat ps) (concat qs) p q)

prefix-behind : (a b c : Option (List ℕ)) (ps qs : List (List ℕ)) → Gains a b (concat ps) → GainsPrefix b c (concat qs)
    → GainsPrefix a c (concat (ps ++ qs))
prefix-behind a b c ps qs p q =
    subst (GainsPrefix a c) (sym (concat-append ps qs)) (GainsPrefix-append a b c (concat ps) (concat qs) p q)

whole-behind : (a b c : Option (List ℕ)) (ps qs : List (List ℕ)) → Gains a b (concat ps)
    → (n : ℕ) × Gains b c (concat (take n qs)) → (n : ℕ) × Gains a c (concat (take n (ps ++ qs)))
whole-behind a b c ps qs p q = (
  length ps + q.0,
  subst (λ (rs : List (List ℕ)). Gains a c (concat rs)) (sym (take-append-add ps qs q.0))
      (gains-behind a b c ps (take q.0 qs) p q.1),
)

pub drop-next : {A : Type 0} → (items : List A) (i : ℕ) (x d : A) → i < length items → x ≡ get_or items i d
    → drop i items ≡ x ∷ drop (i + 1) items
drop-next items i x d lt is =
    drop-cons items i d lt
    ∙ ap (λ y. y ∷ drop (suc i) items) (sym is)
    ∙ ap (λ (n : ℕ). x ∷ drop n items) (sym (add-one i))

-- the first of these pictures, and those behind them
pub parts-of : (n : ℕ) (left part rest : List PicturePlan) → part ≡ take n left → rest ≡ drop n left
    → left ≡ part ++ rest
parts-of n left part rest p r =
    sym (take-append-drop n left)
    ∙ ap (λ (ps : List PicturePlan). ps ++ drop n left) (sym p)
    ∙ ap (λ (ps : List PicturePlan). part ++ ps) (sym r)

-- the exit of a call that answers how decoding ended
pub exit-is : (r : Result (Unit {0}) Outcome) (o : Outcome) → IsErrAnd r (λ y. y ≡ o) → r ≡ Err o
exit-is r o is =
    let p = err_from_is_err_and r is in
    p.1 ∙ ap (λ (y : Outcome). let q : Result (Unit {0}) Outcome = Err y in q) p.2

-- pictures that go out one after the other
pub put-both : (d : Decoded) (ps qs : List OutPicture) → put_out (ps ++ qs) d ≡ put_out ps (put_out qs d)
put-both d ps qs =
    ap (λ (rs : List OutPicture). let e : Decoded = record { pictures = rs; stop = d.stop } in e)
    (append_assoc ps qs d.pictures)

next-first : (p : Option BufferPicture) (later : List OutPicture) → next_out p later ≡ next_out p [] ++ later
next-first None later = refl
next-first (Some p) later = refl

-- the picture at the next place, and then those at the places behind it
out-next : (buffer : List BufferPicture) (places : List ℕ) (i x d : ℕ) → i < length places → x ≡ get_or places i d
    → out_at buffer (drop i places) ≡ next_out (slice_get buffer x) [] ++ out_at buffer (drop (i + 1) places)
unfolding out_at
out-next buffer places i x d lt is =
    ap (out_at buffer) (drop-next places i x d lt is)
    ∙ next-first (slice_get buffer x) (out_at buffer (drop (i + 1) places))

-- pictures that go out are pieces; those behind them are numbered on
pub owed-put : (form : Form) (k j : ℕ) (ps : List OutPicture) (later : Decoded)
    → told_number (k + length ps) ≡ told_number j
    → owed_from form k (put_out ps later) ≡ behind (written form k ps) (owed_from form j later)
owed-put form k j ps later e =
    ap (λ (rs : List (List ℕ)). let o : Owed = record { pieces = rs; stop = later.stop } in o)
    (written_append form k ps later.pictures
    ∙ ap (λ (rs : List (List ℕ)). written form k ps ++ rs) (written_told form (k + length ps) j later.pictures e))

-- a number behind those that are told alike
pub told-add : (a b n : ℕ) → told_number a ≡ told_number b → told_number (a + n) ≡ told_number (b + n)
told-add a b n e = omega (arith, e)

-- the number behind more pictures
pub number-then : (k j m : ℕ) (ps qs : List OutPicture) → told_number (k + length ps) ≡ told_number j
    → told_number (j + length qs) ≡ told_number m → told_number (k + length (ps ++ qs)) ≡ told_number m
number-then k j m ps qs p q =
    let e : k + length (ps ++ qs) ≡ k + length ps + length qs = omega (arith, length-append ps qs) in
    ap told_number e ∙ told-add (k + length ps) j (length qs) p ∙ q

-- what is written of pictures and of those behind them
pub written-then : (form : Form) (k j : ℕ) (ps qs : List OutPicture) → told_number (k + length ps) ≡ told_number j
    → written form k (ps ++ qs) ≡ written form k ps ++ written form j qs
written-then form k j ps qs e =
    written_append form k ps qs
    ∙ ap (λ (rs : List (List ℕ)). written form k ps ++ rs) (written_told form (k + length ps) j qs e)

-- the front of pictures of which each leaves so few
pub all-front : (n : ℕ) (ps qs : List PicturePlan) → All (KeepsAtMost n) (ps ++ qs) → All (KeepsAtMost n) ps
all-front n [] qs h = All-nil (KeepsAtMost n)
all-front n (p ∷ ps) qs h =
    All-cons (KeepsAtMost n) p ps (All-head (KeepsAtMost n) p (ps ++ qs) h)
    (all-front n ps qs (All-tail (KeepsAtMost n) p (ps ++ qs) h))

pub all-back : (n : ℕ) (ps qs : List PicturePlan) → All (KeepsAtMost n) (ps ++ qs) → All (KeepsAtMost n) qs
all-back n [] qs h = h
all-back n (p ∷ ps) qs h = all-back n ps qs (All-tail (KeepsAtMost n) p (ps ++ qs) h)

-- pictures that run one after the other
pub run-none : (hash : Bool) (b : List BufferPicture) → Run hash [] b [] b
run-none hash b = λ end later. refl

pub run-then : (hash : Bool) (ps qs : List PicturePlan) (a b c : List BufferPicture) (outs more : List OutPicture)
    → Run hash ps a outs b → Run hash qs b more c → Run hash (ps ++ qs) a (outs ++ more) c
run-then hash ps qs a b c outs more p q = λ end later.
    ap (λ (rs : List PicturePlan). decoded_from hash end rs a) (append_assoc ps qs later)
    ∙ p end (qs ++ later) ∙ ap (put_out outs) (q end later)
    ∙ sym (put-both (decoded_from hash end later c) outs more)

-- by the meanings of a sink: its bytes and its count of faults
module _ {X : Type 0} (bytes : X → Option (List ℕ)) (faults : X → ℕ) where
  abbrev pub by : X → X → Change
  by a b = change_of bytes faults a b

  answered-behind : (a b c : X) (ps : List (List ℕ)) (e : Owed) (o : Outcome) → Gains (bytes a) (bytes b) (concat ps)
      → IsQuiet (by a b)
      → IsAnswered e (by b c) o → IsAnswered (behind ps e) (by a c) o
  answered-behind a b c ps e outcome.Ok p s q =
      ((q.0.0, gains-behind (bytes a) (bytes b) (bytes c) ps e.pieces p q.0.1), q.1 ∙ s)
  answered-behind a b c ps e (outcome.Fault f) p s q =
      ((q.0.0, gains-behind (bytes a) (bytes b) (bytes c) ps e.pieces p q.0.1), q.1 ∙ s)
  answered-behind a b c ps e (outcome.Limit l) p s q =
      ((q.0.0, gains-behind (bytes a) (bytes b) (bytes c) ps e.pieces p q.0.1), q.1 ∙ s)
  answered-behind a b c ps e outcome.Memory p s q =
      (whole-behind (bytes a) (bytes b) (bytes c) ps e.pieces p q.0, q.1 ∙ s)
  answered-behind a b c ps e outcome.ReadFault p s q =
      ((q.0.0, gains-behind (bytes a) (bytes b) (bytes c) ps e.pieces p q.0.1), q.1 ∙ s)
  answered-behind a b c ps e outcome.WriteFault p s q =
      (subst (λ (n : ℕ). Rose n (faults c)) s q.0, prefix-behind (bytes a) (bytes b) (bytes c) ps e.pieces p q.1)

  -- nothing is owed but this end
  nothing_owed : (form : Form) (k : ℕ) (a : X) (end : Option Stop)
      → IsAnswered (owed_from form k (ended end)) (by a a) (outcome_of end)
  nothing_owed form k a None = ((refl, Gains-nil (bytes a)), refl)
  nothing_owed form k a (Some (stop.Fault f)) = ((refl, Gains-nil (bytes a)), refl)
  nothing_owed form k a (Some (stop.Limit l)) = ((refl, Gains-nil (bytes a)), refl)

  -- want of memory before anything is written
  pub no_memory : (a : X) (d : Owed) → IsAnswered d (by a a) outcome.Memory
  no_memory a d = ((0, Gains-nil (bytes a)), refl)

  -- ---- pictures that go out, in a form

  module _ (form : Form) where
    pub went-none : (a : X) (k : ℕ) → Went form (by a a) k [] k
    went-none a k = record { gained = Gains-nil (bytes a); quiet = refl; number = omega arith }

    pub went-then : (a b c : X) (k j m : ℕ) (ps qs : List OutPicture) → Went form (by a b) k ps j
        → Went form (by b c) j qs m → Went form (by a c) k (ps ++ qs) m
    went-then a b c k j m ps qs p q = record {
      gained =
          subst (λ (rs : List (List ℕ)). Gains (bytes a) (bytes c) (concat rs))
          (sym (written-then form k j ps qs p.number))
          (gains-behind (bytes a) (bytes b) (bytes c) (written form k ps) (written form j qs) p.gained q.gained);
      quiet = q.quiet ∙ p.quiet;
      number = number-then k j m ps qs p.number q.number;
    }

    -- an end behind pictures that went out
    pub went-answered : (a b c : X) (k j : ℕ) (ps : List OutPicture) (later : Decoded) (o : Outcome)
        → Went form (by a b) k ps j → IsAnswered (owed_from form j later) (by b c) o
        → IsAnswered (owed_from form k (put_out ps later)) (by a c) o
    went-answered a b c k j ps later o w answered =
        subst (λ (d : Owed). IsAnswered d (by a c) o) (sym (owed-put form k j ps later w.number))
        (answered-behind a b c (written form k ps) (owed_from form j later) o w.gained w.quiet answered)

    -- one picture
    out-written : (a b : X) (k j : ℕ) (picture : OutPicture) → told_number (k + 1) ≡ told_number j
        → Gains (bytes a) (bytes b) (piece_of form k picture) → IsQuiet (by a b)
        → Went form (by a b) k (picture ∷ []) j
    out-written a b k j picture e g q = record {
      gained = subst (Gains (bytes a) (bytes b)) (sym (append-nil (piece_of form k picture))) g;
      quiet = q;
      number = e;
    }

    -- one that is cut by a write fault
    out-cut : (a b : X) (k : ℕ) (picture : OutPicture)
        → GainsPrefix (bytes a) (bytes b) (piece_of form k picture) → Rose (faults a) (faults b)
        → Breaks form (by a b) k (picture ∷ []) outcome.WriteFault
    out-cut a b k picture g rose = λ later. (
      rose,
      GainsPrefix-front (bytes a) (bytes b) (piece_of form k picture) (concat (written form (suc k) later.pictures)) g,
    )

    pub leaves-none : (a : X) (k : ℕ) (pictures : List OutPicture) → Leaves form (by a a) k pictures k pictures
    leaves-none a k pictures = record { front = []; order = refl; went = went-none a k }

    -- one more is written
    pub leaves-one : (a b c : X) (k j m : ℕ) (buffer : List BufferPicture) (all : List OutPicture) (places : List ℕ)
        (i x d : ℕ)
        → i < length places → x ≡ get_or places i d
        → Leaves form (by a b) k all j (out_at buffer (drop i places))
        → Went form (by b c) j (next_out (slice_get buffer x) []) m
        → Leaves form (by a c) k all m (out_at buffer (drop (i + 1) places))
    leaves-one a b c k j m buffer all places i x d lt is l w =
        let now : List OutPicture = next_out (slice_get buffer x) [] in
        record {
          front = l.front ++ now;
          order = l.order
              ∙ ap (λ (ps : List OutPicture). l.front ++ ps) (out-next buffer places i x d lt is)
              ∙ sym (append_assoc l.front now (out_at buffer (drop (i + 1) places)));
          went = went-then a b c k j m l.front now l.went w;
        }

    leaves-to : (buffer : List BufferPicture) (all front : List OutPicture) (places : List ℕ) (i x d : ℕ)
        (later : Decoded)
        → i < length places → x ≡ get_or places i d → all ≡ front ++ out_at buffer (drop i places)
        → put_out all later
        ≡ put_out front
        (put_out (next_out (slice_get buffer x) []) (put_out (out_at buffer (drop (i + 1) places)) later))
    leaves-to buffer all front places i x d later lt is order =
        ap (λ (ps : List OutPicture). put_out ps later)
        (order ∙ ap (λ (ps : List OutPicture). front ++ ps) (out-next buffer places i x d lt is))
        ∙ put-both later front (next_out (slice_get buffer x) [] ++ out_at buffer (drop (i + 1) places))
        ∙ ap (put_out front)
        (put-both later (next_out (slice_get buffer x) []) (out_at buffer (drop (i + 1) places)))

    pub leaves-over : (a b c : X) (k j : ℕ) (buffer : List BufferPicture) (all : List OutPicture) (places : List ℕ)
        (i x d : ℕ) (o : Outcome)
        → i < length places → x ≡ get_or places i d
        → Leaves form (by a b) k all j (out_at buffer (drop i places))
        → Breaks form (by b c) j (next_out (slice_get buffer x) []) o → Breaks form (by a c) k all o
    leaves-over a b c k j buffer all places i x d o lt is l w = λ later.
        let rest : Decoded = put_out (out_at buffer (drop (i + 1) places)) later in
        subst (λ (e : Decoded). IsAnswered (owed_from form k e) (by a c) o)
        (sym (leaves-to buffer all l.front places i x d later lt is l.order))
        (went-answered a b c k j l.front (put_out (next_out (slice_get buffer x) []) rest) o l.went (w rest))

    -- nothing goes out at a place behind the last
    pub place-none : (a : X) (k x : ℕ) (buffer : List BufferPicture) → slice_get buffer x ≡ None
        → Went form (by a a) k (next_out (slice_get buffer x) []) k
    place-none a k x buffer is =
        subst (λ (p : Option BufferPicture). Went form (by a a) k (next_out p []) k) (sym is) (went-none a k)

    -- a picture does at its place
    pub place-written : (a b : X) (k j x : ℕ) (buffer : List BufferPicture) (picture : BufferPicture)
        → slice_get buffer x ≡ Some picture → told_number (k + 1) ≡ told_number j
        → Gains (bytes a) (bytes b) (piece_of form k (picture_out picture)) → IsQuiet (by a b)
        → Went form (by a b) k (next_out (slice_get buffer x) []) j
    place-written a b k j x buffer picture is e g q =
        subst (λ (p : Option BufferPicture). Went form (by a b) k (next_out p []) j) (sym is)
        (out-written a b k j (picture_out picture) e g q)

    pub place-cut : (a b : X) (k x : ℕ) (buffer : List BufferPicture) (picture : BufferPicture)
        → slice_get buffer x ≡ Some picture
        → GainsPrefix (bytes a) (bytes b) (piece_of form k (picture_out picture)) → Rose (faults a) (faults b)
        → Breaks form (by a b) k (next_out (slice_get buffer x) []) outcome.WriteFault
    place-cut a b k x buffer picture is g rose =
        subst (λ (p : Option BufferPicture). Breaks form (by a b) k (next_out p []) outcome.WriteFault) (sym is)
        (out-cut a b k (picture_out picture) g rose)

    -- what goes out of a buffer goes out of one with the same pictures
    pub went-of : (a b : X) (k j x : ℕ) (buffer same : List BufferPicture) → buffer ≡ same
        → Went form (by a b) k (next_out (slice_get buffer x) []) j
        → Went form (by a b) k (next_out (slice_get same x) []) j
    went-of a b k j x buffer same is w =
        subst (λ (ps : List BufferPicture). Went form (by a b) k (next_out (slice_get ps x) []) j) is w

    pub breaks-of : (a b : X) (k x : ℕ) (buffer same : List BufferPicture) (o : Outcome) → buffer ≡ same
        → Breaks form (by a b) k (next_out (slice_get buffer x) []) o
        → Breaks form (by a b) k (next_out (slice_get same x) []) o
    breaks-of a b k x buffer same o is w =
        subst (λ (ps : List BufferPicture). Breaks form (by a b) k (next_out (slice_get ps x) []) o) is w

    -- all are written
    pub leaves-end : (a b : X) (k j : ℕ) (buffer : List BufferPicture) (all : List OutPicture) (places : List ℕ) (i : ℕ)
        → length places ≤ i
        → Leaves form (by a b) k all j (out_at buffer (drop i places)) → Went form (by a b) k all j
    unfolding out_at
    leaves-end a b k j buffer all places i le l =
        let none : out_at buffer (drop i places) ≡ [] = ap (out_at buffer) (drop_all i places le) in
        subst (λ (ps : List OutPicture). Went form (by a b) k ps j)
        (sym (l.order ∙ ap (λ (ps : List OutPicture). l.front ++ ps) none ∙ append-nil l.front)) l.went

    -- ---- a picture

    -- what was written at these places is what was written at those
    went-at : (a b : X) (k j : ℕ) (buffer : List BufferPicture) (places same : List ℕ) → places ≡ same
        → Went form (by a b) k (out_at buffer places) j → Went form (by a b) k (out_at buffer same) j
    went-at a b k j buffer places same is w =
        subst (λ (ps : List ℕ). Went form (by a b) k (out_at buffer ps) j) is w

    breaks-at : (a b : X) (k : ℕ) (buffer : List BufferPicture) (places same : List ℕ) (o : Outcome) → places ≡ same
        → Breaks form (by a b) k (out_at buffer places) o → Breaks form (by a b) k (out_at buffer same) o
    breaks-at a b k buffer places same o is w =
        subst (λ (ps : List ℕ). Breaks form (by a b) k (out_at buffer ps) o) is w

    -- what goes out before a picture is written, and the buffer has the same pictures
    pub record Began (a b : X) (p : PicturePlan) (old mid : HeldBuffer) : Type 0 where
      pub went : Went form (by a b) old.number (out_at (buffer_of old) p.outputs.before) mid.number
      pub same : buffer_of mid ≡ buffer_of old

    pub began : (a b : X) (p : PicturePlan) (old mid : HeldBuffer) (places : List ℕ) → places ≡ p.outputs.before
        → Went form (by a b) old.number (out_at (buffer_of old) places) mid.number → buffer_of mid ≡ buffer_of old
        → Began a b p old mid
    began a b p old mid places is w same = record {
      went = went-at a b old.number mid.number (buffer_of old) places p.outputs.before is w;
      same = same;
    }

  module _ (form : Form) (hash : Bool) where
    -- and the picture is decoded
    pub record Entered (p : PicturePlan) (mid with : HeldBuffer) : Type 0 where
      pub enters : EntersBuffer (buffer_of mid) (buffer_of with) (decoded_picture hash (buffer_of mid) p)
      pub number : with.number ≡ mid.number

    entered-is : (p : PicturePlan) (next : List BufferPicture → Decoded) (mid with : List BufferPicture)
        → EntersBuffer mid with (decoded_picture hash mid p)
        → entered p next mid (decoded_picture hash mid p) ≡ behind_picture p next with
    entered-is p next mid with e = ap (entered p next mid) e.decodes ∙ ap (behind_picture p next) (sym e.buffer)

    -- a picture that entered the buffer owes what goes out behind it
    decoded-to : (a b : X) (p : PicturePlan) (old mid with : HeldBuffer) (next : List BufferPicture → Decoded)
        → Began form a b p old mid → Entered p mid with
        → with_picture hash p next (buffer_of old)
        ≡ put_out (out_at (buffer_of old) p.outputs.before) (behind_picture p next (buffer_of with))
    decoded-to a b p old mid with next before e =
        ap (put_out (out_at (buffer_of old) p.outputs.before))
        (ap (λ (buffer : List BufferPicture). entered p next buffer (decoded_picture hash buffer p)) (sym before.same)
        ∙ entered-is p next (buffer_of mid) (buffer_of with) e.enters)

    went-by : (a b : X) (k mid with : ℕ) (ps : List OutPicture) → with ≡ mid → Went form (by a b) k ps mid
        → Went form (by a b) k ps with
    went-by a b k mid with ps is w = subst (λ (n : ℕ). Went form (by a b) k ps n) (sym is) w

    -- and what goes out behind it is written; last is the buffer behind that, of which these stay
    pub picture-taken : (a b c : X) (p : PicturePlan) (old mid with last new : HeldBuffer) (behind kept : List ℕ)
        → Began form a b p old mid → Entered p mid with
        → behind ≡ p.outputs.behind → Went form (by b c) with.number (out_at (buffer_of with) behind) last.number
        → buffer_of last ≡ buffer_of with
        → kept ≡ p.outputs.kept → buffer_of new ≡ kept_from kept 0 (buffer_of last) → new.number ≡ last.number
        → RanPicture form hash (by a c) p old new
    picture-taken a b c p old mid with last new behind kept before e is w same stay stays number =
        let now : List BufferPicture = buffer_of with in
        let left : kept_from p.outputs.kept 0 now ≡ buffer_of new =
        sym (stays ∙ ap (kept_from kept 0) same ∙ ap (λ (ps : List ℕ). kept_from ps 0 now) stay) in
        let front : List OutPicture = out_at (buffer_of old) p.outputs.before in
        let back : List OutPicture = out_at now p.outputs.behind in
        record {
          outs = front ++ back;
          went =
              went-by a c old.number last.number new.number (front ++ back) number
              (went-then form a b c old.number with.number last.number front back
              (went-by a b old.number mid.number with.number front e.number before.went)
              (went-at form b c with.number last.number now behind p.outputs.behind is w));
          run = λ next.
              decoded-to a b p old mid with next before e
              ∙ ap (λ (d : Decoded). put_out front (put_out back d)) (ap next left)
              ∙ sym (put-both (next (buffer_of new)) front back);
          few =
              subst (λ (ps : List BufferPicture). length ps ≤ length p.outputs.kept) left
              (few_places p.outputs.kept 0 now);
        }

    -- decoding ended in what goes out before it
    pub picture-before : (a b : X) (p : PicturePlan) (old : HeldBuffer) (places : List ℕ) (o : Outcome)
        → places ≡ p.outputs.before → Breaks form (by a b) old.number (out_at (buffer_of old) places) o
        → (next : List BufferPicture → Decoded)
        → IsAnswered (owed_from form old.number (with_picture hash p next (buffer_of old))) (by a b) o
    picture-before a b p old places o is w next =
        breaks-at form a b old.number (buffer_of old) places p.outputs.before o is w
        (entered p next (buffer_of old) (decoded_picture hash (buffer_of old) p))

    refused : (b : X) (k : ℕ) (p : PicturePlan) (buffer : List BufferPicture) (r : Result BufferPicture Stop)
        (o : Outcome) (next : List BufferPicture → Decoded)
        → IsRefused r o → IsAnswered (owed_from form k (entered p next buffer r)) (by b b) o
    refused b k p buffer r o next (inl is) =
        subst (IsAnswered (owed_from form k (entered p next buffer r)) (by b b)) (sym is)
        (no_memory b (owed_from form k (entered p next buffer r)))
    refused b k p buffer (Ok picture) o next (inr e) = absurd e
    refused b k p buffer (Err s) o next (inr e) =
        subst (IsAnswered (owed_from form k (ended (Some s))) (by b b)) (sym e) (nothing_owed form k b (Some s))

    -- something is broken or met in it, or there was no memory
    pub picture-refused : (a b : X) (p : PicturePlan) (old mid : HeldBuffer) (o : Outcome) → Began form a b p old mid
        → IsRefused (decoded_picture hash (buffer_of mid) p) o
        → (next : List BufferPicture → Decoded)
        → IsAnswered (owed_from form old.number (with_picture hash p next (buffer_of old))) (by a b) o
    picture-refused a b p old mid o before e next =
        let rest : Decoded = entered p next (buffer_of old) (decoded_picture hash (buffer_of old) p) in
        let same : IsRefused (decoded_picture hash (buffer_of old) p) o =
        subst (λ (buffer : List BufferPicture). IsRefused (decoded_picture hash buffer p) o) before.same e in
        went-answered form a b b old.number mid.number (out_at (buffer_of old) p.outputs.before) rest o before.went
        (refused b mid.number p (buffer_of old) (decoded_picture hash (buffer_of old) p) o next same)

    -- decoding ended in what goes out behind it
    pub picture-behind : (a b c : X) (p : PicturePlan) (old mid with : HeldBuffer) (behind : List ℕ) (o : Outcome)
        → Began form a b p old mid → Entered p mid with
        → behind ≡ p.outputs.behind → Breaks form (by b c) with.number (out_at (buffer_of with) behind) o
        → (next : List BufferPicture → Decoded)
        → IsAnswered (owed_from form old.number (with_picture hash p next (buffer_of old))) (by a c) o
    picture-behind a b c p old mid with behind o before e is w next =
        let front : List OutPicture = out_at (buffer_of old) p.outputs.before in
        subst (λ (d : Decoded). IsAnswered (owed_from form old.number d) (by a c) o)
        (sym (decoded-to a b p old mid with next before e))
        (went-answered form a b c old.number with.number front (behind_picture p next (buffer_of with)) o
        (went-by a b old.number mid.number with.number front e.number before.went)
        (breaks-at form b c with.number (buffer_of with) behind p.outputs.behind o is w
        (next (kept_from p.outputs.kept 0 (buffer_of with)))))

    -- ---- pictures

    -- what these pictures owe from a buffer on, and what follows them
    abbrev owed-of : (List BufferPicture → Decoded) → List PicturePlan → HeldBuffer → Owed
    owed-of end pictures b = owed_from form b.number (decoded_from hash end pictures (buffer_of b))

    -- none is decoded yet
    pub passes-none : (a : X) (pictures : List PicturePlan) (b : HeldBuffer)
        → Passes form hash (by a a) pictures b pictures b
    passes-none a pictures b = record {
      front = [];
      order = refl;
      outs = [];
      went = went-none form a b.number;
      run = run-none hash (buffer_of b);
      few = λ n le all. le;
    }

    -- an end behind the first of these pictures
    ends-behind : (a b c : X) (pictures rest : List PicturePlan) (old mid : HeldBuffer) (o : Outcome)
        → (p : Passes form hash (by a b) pictures old rest mid)
        → (end : List BufferPicture → Decoded) (later : List PicturePlan)
        → IsAnswered (owed-of end (rest ++ later) mid) (by b c) o
        → IsAnswered (owed-of end (pictures ++ later) old) (by a c) o
    ends-behind a b c pictures rest old mid o p end later answered =
        let is : decoded_from hash end (pictures ++ later) (buffer_of old)
        ≡ put_out p.outs (decoded_from hash end (rest ++ later) (buffer_of mid)) =
        ap (λ (ps : List PicturePlan). decoded_from hash end ps (buffer_of old))
        (ap (λ (ps : List PicturePlan). ps ++ later) p.order ∙ append_assoc p.front rest later)
        ∙ p.run end (rest ++ later) in
        subst (λ (d : Decoded). IsAnswered (owed_from form old.number d) (by a c) o) (sym is)
        (went-answered form a b c old.number mid.number p.outs
        (decoded_from hash end (rest ++ later) (buffer_of mid)) o p.went answered)

    -- one more of these pictures is decoded
    pub passes-one : (a b c : X) (pictures : List PicturePlan) (old mid new : HeldBuffer) (i : ℕ) (x : PicturePlan)
        → i < length pictures → x ≡ get_or pictures i x
        → Passes form hash (by a b) pictures old (drop i pictures) mid → RanPicture form hash (by b c) x mid new
        → Passes form hash (by a c) pictures old (drop (i + 1) pictures) new
    passes-one a b c pictures old mid new i x lt is p q = record {
      front = p.front ++ x ∷ [];
      order = p.order
          ∙ ap (λ (ps : List PicturePlan). p.front ++ ps) (drop-next pictures i x x lt is)
          ∙ sym (append_assoc p.front (x ∷ []) (drop (i + 1) pictures));
      outs = p.outs ++ q.outs;
      went = went-then form a b c old.number mid.number new.number p.outs q.outs p.went q.went;
      run =
          run-then hash p.front (x ∷ []) (buffer_of old) (buffer_of mid) (buffer_of new) p.outs q.outs p.run
          (λ end later. q.run (decoded_from hash end later));
      few = λ n le all.
          let last : length x.outputs.kept ≤ n =
          All-head (KeepsAtMost n) x [] (all-back n p.front (x ∷ []) all) in
          omega (arith, last, q.few);
    }

    pub over-one : (a b c : X) (pictures : List PicturePlan) (old mid : HeldBuffer) (i : ℕ) (x : PicturePlan)
        (o : Outcome)
        → i < length pictures → x ≡ get_or pictures i x
        → Passes form hash (by a b) pictures old (drop i pictures) mid
        → ((next : List BufferPicture → Decoded)
        → IsAnswered (owed_from form mid.number (with_picture hash x next (buffer_of mid))) (by b c) o)
        → Ends form hash (by a c) pictures old o
    over-one a b c pictures old mid i x o lt is p q = λ end later.
        ends-behind a b c pictures (drop i pictures) old mid o p end later
        (subst (λ (ps : List PicturePlan). IsAnswered (owed-of end (ps ++ later) mid) (by b c) o)
        (sym (drop-next pictures i x x lt is))
        (q (decoded_from hash end (drop (i + 1) pictures ++ later))))

    -- want of memory before a picture is decoded
    pub picture-unwritten : (a : X) (x : PicturePlan) (old : HeldBuffer) (next : List BufferPicture → Decoded)
        → IsAnswered (owed_from form old.number (with_picture hash x next (buffer_of old))) (by a a) outcome.Memory
    picture-unwritten a x old = λ next.
        no_memory a (owed_from form old.number (with_picture hash x next (buffer_of old)))

    -- want of memory before any is written
    pub ends-unwritten : (a : X) (pictures : List PicturePlan) (old : HeldBuffer)
        → Ends form hash (by a a) pictures old outcome.Memory
    ends-unwritten a pictures old = λ end later. no_memory a (owed-of end (pictures ++ later) old)

    pub passes-end : (a b : X) (pictures : List PicturePlan) (old new : HeldBuffer) (i : ℕ) → length pictures ≤ i
        → Passes form hash (by a b) pictures old (drop i pictures) new
        → Passes form hash (by a b) pictures old [] new
    passes-end a b pictures old new i le p =
        subst (λ (ps : List PicturePlan). Passes form hash (by a b) pictures old ps new) (drop_all i pictures le) p

    left-first : (flight pictures : List PicturePlan) (left new : List (List PicturePlan))
        → left ≡ flight ∷ new → pictures ≡ flight → pictures_of left ≡ pictures ++ pictures_of new
    left-first flight pictures left new e is =
        ap pictures_of e ∙ ap (λ (ps : List PicturePlan). ps ++ pictures_of new) (sym is)

    -- some more of these pictures are decoded
    pub passes-part : (a b c : X) (all left part rest : List PicturePlan) (old mid new : HeldBuffer)
        → left ≡ part ++ rest
        → Passes form hash (by a b) all old left mid → Passes form hash (by b c) part mid [] new
        → Passes form hash (by a c) all old rest new
    passes-part a b c all left part rest old mid new e p q =
        let whole : part ≡ q.front = q.order ∙ append-nil q.front in
        record {
          front = p.front ++ q.front;
          order = p.order
              ∙ ap (λ (ps : List PicturePlan). p.front ++ ps)
              (e ∙ ap (λ (ps : List PicturePlan). ps ++ rest) whole)
              ∙ sym (append_assoc p.front q.front rest);
          outs = p.outs ++ q.outs;
          went = went-then form a b c old.number mid.number new.number p.outs q.outs p.went q.went;
          run =
              run-then hash p.front q.front (buffer_of old) (buffer_of mid) (buffer_of new) p.outs q.outs p.run q.run;
          few = λ n le kept.
              q.few n (p.few n le (all-front n p.front q.front kept)) (all-back n p.front q.front kept);
        }

    pub over-part : (a b c : X) (all left part rest : List PicturePlan) (old mid : HeldBuffer) (o : Outcome)
        → left ≡ part ++ rest
        → Passes form hash (by a b) all old left mid → Ends form hash (by b c) part mid o
        → Ends form hash (by a c) all old o
    over-part a b c all left part rest old mid o e p q = λ end later.
        ends-behind a b c all left old mid o p end later
        (subst (λ (ps : List PicturePlan). IsAnswered (owed-of end ps mid) (by b c) o)
        (sym (ap (λ (ps : List PicturePlan). ps ++ later) e ∙ append_assoc part rest later))
        (q end (rest ++ later)))

    -- one more flight is decoded
    pub passes-flight : (a b c : X) (all : List PicturePlan) (left rest : List (List PicturePlan))
        (flight pictures : List PicturePlan) (old mid new : HeldBuffer)
        → left ≡ flight ∷ rest → pictures ≡ flight
        → Passes form hash (by a b) all old (pictures_of left) mid → Passes form hash (by b c) pictures mid [] new
        → Passes form hash (by a c) all old (pictures_of rest) new
    passes-flight a b c all left rest flight pictures old mid new e is p q =
        passes-part a b c all (pictures_of left) pictures (pictures_of rest) old mid new
        (left-first flight pictures left rest e is) p q

    pub over-flight : (a b c : X) (all : List PicturePlan) (left rest : List (List PicturePlan))
        (flight pictures : List PicturePlan) (old mid : HeldBuffer) (o : Outcome)
        → left ≡ flight ∷ rest → pictures ≡ flight
        → Passes form hash (by a b) all old (pictures_of left) mid → Ends form hash (by b c) pictures mid o
        → Ends form hash (by a c) all old o
    over-flight a b c all left rest flight pictures old mid o e is p q =
        over-part a b c all (pictures_of left) pictures (pictures_of rest) old mid o
        (left-first flight pictures left rest e is) p q

    -- ---- the end

    -- the pictures that go out at the input's end are written
    pub end-written : (a b : X) (k j : ℕ) (buffer : List BufferPicture) (last : List ℕ) (end : Option Stop)
        → Went form (by a b) k (out_at buffer last) j
        → IsAnswered (owed_from form k (finished last end buffer)) (by a b) (outcome_of end)
    end-written a b k j buffer last end w =
        subst (λ (ps : List OutPicture). IsAnswered (owed_from form k (record { pictures = ps; stop = end })) (by a b)
        (outcome_of end))
        (append-nil (out_at buffer last))
        (went-answered form a b b k j (out_at buffer last) (ended end) (outcome_of end) w (nothing_owed form j b end))

    pub end-over : (a b : X) (k : ℕ) (buffer : List BufferPicture) (last : List ℕ) (end : Option Stop) (o : Outcome)
        → Breaks form (by a b) k (out_at buffer last) o
        → IsAnswered (owed_from form k (finished last end buffer)) (by a b) o
    end-over a b k buffer last end o w =
        subst (λ (ps : List OutPicture). IsAnswered (owed_from form k (record { pictures = ps; stop = end }))
        (by a b) o)
        (append-nil (out_at buffer last)) (w (ended end))

    -- the last pictures are decoded
    pub last-written : (a b c : X) (pictures : List PicturePlan) (old new : HeldBuffer)
        (end : List BufferPicture → Decoded) (o : Outcome)
        → Passes form hash (by a b) pictures old [] new
        → IsAnswered (owed_from form new.number (end (buffer_of new))) (by b c) o
        → IsAnswered (owed-of end pictures old) (by a c) o
    last-written a b c pictures old new end o w answered =
        subst (λ (ps : List PicturePlan). IsAnswered (owed-of end ps old) (by a c) o) (append-nil pictures)
        (ends-behind a b c pictures [] old new o w end [] answered)

    pub last-over : (a b : X) (pictures : List PicturePlan) (old : HeldBuffer) (end : List BufferPicture → Decoded)
        (o : Outcome)
        → Ends form hash (by a b) pictures old o → IsAnswered (owed-of end pictures old) (by a b) o
    last-over a b pictures old end o w =
        subst (λ (ps : List PicturePlan). IsAnswered (owed-of end ps old) (by a b) o) (append-nil pictures) (w end [])
