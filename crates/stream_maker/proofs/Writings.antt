-- What is written of a stream, picture by picture.
use Rattle.std.proofs.Common.{◌≡◌, ℕ, ◌+◌, ◌<◌, ◌≤◌, List, [], ◌++◌, length, Option, Result, Err, inl, inr}
use Rattle.std.proofs.Common.{refl, sym, ap, subst, ◌∙◌, arith, append-nil, take_all}
use Rattle.std.specs.Prelude.{IsErrAnd, take}
use Rattle.std.proofs.lemmas.Result.{err_from_is_err_and}
use Rattle.hv_io.specs.Streams.{Gains, GainsPrefix, Rose}
use Rattle.hv_io.proofs.StreamLemmas.{Gains-append, GainsPrefix-front, GainsPrefix-append}
use Rattle.spec_made.specs.Stream.{Making, set_units, start_of}
use Rattle.spec_made.specs.Flat.{Turned, picture_by, pictures_by, made_by}
use Rattle.stream_maker.specs.declared.output.MakeError.{MakeError}
use Rattle.stream_maker.specs.declared.output.MakeError.TheVariants as error
use Rattle.stream_maker.specs.Writing.{Wrote, GainsWhole, PieceCut, StreamCut, WritesStream}
use Rattle.stream_maker.proofs.Pictures.{behind, made_none, made_sets, made_more, behind_next, made_front}

-- a call that answers why a stream isn't written
pub exit_is : {X : Type 0} (r : Result X MakeError) (e : MakeError) → IsErrAnd r (λ y. y ≡ e) → r ≡ Err e
exit_is r e is =
    let p = err_from_is_err_and r is in
    p.1 ∙ ap (λ (y : MakeError). let q : Result _ MakeError = Err y in q) p.2

-- a whole piece is a front of it
whole_is_front : (a b : Option (List ℕ)) (bytes : List ℕ) → Gains a b bytes → GainsPrefix a b bytes
whole_is_front a b bytes gained =
    let all : take (length bytes) bytes ≡ bytes = take_all _ _ (omega arith) in
    (length bytes, (omega arith, subst (Gains a b) (sym all) gained))

front_of : (a b : Option (List ℕ)) (bytes whole rest : List ℕ) → whole ≡ bytes ++ rest → GainsPrefix a b bytes
    → GainsPrefix a b whole
front_of a b bytes whole rest is gained =
    subst (GainsPrefix a b) (sym is) (GainsPrefix-front a b bytes rest gained)

-- whole pictures are a front of a stream
pictures_are_front : (t : Turned) (a b : Option (List ℕ)) (seed n : ℕ) → GainsWhole a b (made_by t seed) n
    → GainsPrefix a b (made_by t seed n)
pictures_are_front t a b seed n (inl none) =
    front_of a b [] (made_by t seed n) (made_by t seed n) refl (whole_is_front a b [] none)
pictures_are_front t a b seed n (inr some) =
    let later = made_front t seed some.0 n some.1 in
    front_of a b (made_by t seed some.0) (made_by t seed n) later.0 later.1
    (whole_is_front a b (made_by t seed some.0) some.2)

-- by the meanings of a sink: its bytes and its count of faults
module _ {O : Type 0} (contents : O → Option (List ℕ)) (faults : O → ℕ) (t : Turned) where
  -- the sets and so many pictures are written
  pub record Going (before now : O) (seed n j : ℕ) (m : Making) : Type 0 where
    pub wrote : Wrote contents faults before now (made_by t seed j)
    pub at : m ≡ behind t 0 j (start_of seed)
    pub within : j ≤ n

  pub going_first : (a b : O) (seed n : ℕ) (m : Making) → Wrote contents faults a b set_units → m ≡ start_of seed
      → Going a b seed n 0 m
  going_first a b seed n m wrote is = record {
    wrote = (subst (Gains (contents a) (contents b)) (sym (made_none t seed)) wrote.0, wrote.1);
    at = is;
    within = omega arith;
  }

  pub going_on : (a b c : O) (seed n j : ℕ) (m next : Making) → j < n → Going a b seed n j m
      → Wrote contents faults b c (picture_by t j m).0 → next ≡ (picture_by t j m).1
      → Going a c seed n (j + 1) next
  going_on a b c seed n j m next inside so_far wrote is = record {
    wrote = (
      subst (Gains (contents a) (contents c)) (sym (made_more t seed j m so_far.at))
          (Gains-append (contents a) (contents b) (contents c) (made_by t seed j) (picture_by t j m).0
          so_far.wrote.0 wrote.0),
      wrote.1 ∙ so_far.wrote.1,
    );
    at = behind_next t seed j m next so_far.at is;
    within = omega (arith, inside);
  }

  pub going_all : (a b : O) (seed n j : ℕ) (m : Making) → n ≤ j → Going a b seed n j m
      → Wrote contents faults a b (made_by t seed n)
  going_all a b seed n j m past so_far =
      let z : j ≡ n = omega (arith, past, so_far.within) in
      (subst (λ k. Gains (contents a) (contents b) (made_by t seed k)) z so_far.wrote.0, so_far.wrote.1)

  sets_why : (a b : O) (seed n : ℕ) (e : MakeError) → PieceCut contents faults a b set_units e
      → StreamCut contents faults a b (made_by t seed) n e
  sets_why a b seed n error.Memory cut = (inl cut.0, cut.1)
  sets_why a b seed n error.Write cut = (
    front_of (contents a) (contents b) set_units (made_by t seed n) (pictures_by t 0 n (start_of seed))
        (made_sets t seed n) cut.0,
    cut.1,
  )

  -- the sets aren't written
  pub sets_cut : {X : Type 0} (a b : O) (seed n : ℕ) (r : Result X MakeError) (e : MakeError) → r ≡ Err e
      → PieceCut contents faults a b set_units e → WritesStream contents faults a b (made_by t seed) n r
  sets_cut {X} a b seed n r e is cut =
      subst (WritesStream {X = X} contents faults a b (made_by t seed) n) (sym is) (sets_why a b seed n e cut)

  -- there is no memory behind the sets
  pub start_cut : {X : Type 0} (a b : O) (seed n : ℕ) (r : Result X MakeError) → r ≡ Err error.Memory
      → Wrote contents faults a b set_units → WritesStream contents faults a b (made_by t seed) n r
  start_cut {X} a b seed n r is wrote =
      subst (WritesStream {X = X} contents faults a b (made_by t seed) n) (sym is)
      (inr (0, omega arith, subst (Gains (contents a) (contents b)) (sym (made_none t seed)) wrote.0), wrote.1)

  picture_why : (a b c : O) (seed n j : ℕ) (m : Making) (e : MakeError) → j < n → Going a b seed n j m
      → PieceCut contents faults b c (picture_by t j m).0 e → StreamCut contents faults a c (made_by t seed) n e
  picture_why a b c seed n j m error.Memory inside so_far cut = (
    inr (
      j,
      omega (arith, inside),
      subst (Gains (contents a) (contents c)) (append-nil (made_by t seed j))
          (Gains-append (contents a) (contents b) (contents c) (made_by t seed j) [] so_far.wrote.0 cut.0),
    ),
    cut.1 ∙ so_far.wrote.1,
  )
  picture_why a b c seed n j m error.Write inside so_far cut =
      let later = made_front t seed (j + 1) n (omega (arith, inside)) in
      let one : GainsPrefix (contents a) (contents c) (made_by t seed (j + 1)) =
      subst (GainsPrefix (contents a) (contents c)) (sym (made_more t seed j m so_far.at))
      (GainsPrefix-append (contents a) (contents b) (contents c) (made_by t seed j) (picture_by t j m).0
      so_far.wrote.0 cut.0) in (
        front_of (contents a) (contents c) (made_by t seed (j + 1)) (made_by t seed n) later.0 later.1 one,
        subst (λ k. Rose k (faults c)) so_far.wrote.1 cut.1,
      )

  -- a picture isn't written
  pub picture_cut : {X : Type 0} (a b c : O) (seed n j : ℕ) (m : Making) (r : Result X MakeError) (e : MakeError)
      → j < n → Going a b seed n j m → r ≡ Err e → PieceCut contents faults b c (picture_by t j m).0 e
      → WritesStream contents faults a c (made_by t seed) n r
  picture_cut {X} a b c seed n j m r e inside so_far is cut =
      subst (WritesStream {X = X} contents faults a c (made_by t seed) n) (sym is)
      (picture_why a b c seed n j m e inside so_far cut)

  -- what is written of a stream is a front of it
  pub cut_is_front : (a b : O) (seed n : ℕ) (e : MakeError) → StreamCut contents faults a b (made_by t seed) n e
      → GainsPrefix (contents a) (contents b) (made_by t seed n)
  cut_is_front a b seed n error.Memory cut = pictures_are_front t (contents a) (contents b) seed n cut.0
  cut_is_front a b seed n error.Write cut = cut.0
