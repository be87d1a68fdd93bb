-- The pictures of a stream that is made are decoded as they are drawn, one behind the other.
use Rattle.std.proofs.Common.{◌≡◌, ℕ, zero, suc, ◌+◌, ◌-◌, ◌%◌, ◌<◌, ◌≤◌, false, List, [], ◌∷◌, ◌++◌, length, map}
use Rattle.std.proofs.Common.{refl, sym, ap, subst, ◌∙◌, arith, Bool}
use Rattle.std.specs.Prelude.{◌==◌, Ok}
use Rattle.spec_picture_build.specs.References.{DecodedPicture}
use Rattle.spec_made.specs.Planes.{Planes}
use Rattle.made_laws.specs.Outputs.{number_at}
use Rattle.made_laws.specs.Plans.{buffer_use_at, made_plan}
use Rattle.made_laws.specs.Streams.{making_at, plan_of}
use Rattle.made_picture_laws.specs.Pictures.{HasDrawn, IsDecodedAs}
use Rattle.made_picture_laws.proofs.Tests.{other_test}
use Rattle.made_decoding_laws.specs.References.{HasReferences, planes_of}
use Rattle.made_decoding_laws.specs.Turns.{AreDrawn, IsDecodedInTurn, behind, buffer_before, left_behind}
use Rattle.made_decoding_laws.specs.Turns.{numbers_before, pictures_at}
use Rattle.made_decoding_laws.proofs.Buffers.{AreInside, drawn_there, kept_drawn, one_more}
use Rattle.made_decoding_laws.proofs.Making.{last_of, older_first, older_later, one_first, one_later}
use Rattle.made_decoding_laws.proofs.Planned.{number_decoded}

-- the pictures in the buffer before picture j, which is of a number in its group, if it isn't the first of the stream
abbrev pub held : ℕ → ℕ → List ℕ
held zero j = (j - 3) ∷ (j - 1) ∷ []
held (suc zero) j = (j - 1) ∷ []
held (suc (suc zero)) j = (j - 2) ∷ (j - 1) ∷ []
held (suc (suc (suc zero))) j = (j - 3) ∷ (j - 2) ∷ (j - 1) ∷ []
held (suc (suc (suc (suc zero)))) j = (j - 3) ∷ (j - 1) ∷ []
held (suc (suc (suc (suc (suc zero))))) j = (j - 4) ∷ (j - 2) ∷ (j - 1) ∷ []
held (suc (suc (suc (suc (suc (suc zero)))))) j = (j - 3) ∷ (j - 1) ∷ []
held (suc (suc (suc (suc (suc (suc (suc g))))))) j = (j - 4) ∷ (j - 2) ∷ (j - 1) ∷ []

one_number : (a b : ℕ) → a ≡ b → a ∷ [] ≡ b ∷ []
one_number a b e = ap (λ x. x ∷ []) e

two_numbers : (a b c d : ℕ) → a ≡ c → b ≡ d → a ∷ b ∷ [] ≡ c ∷ d ∷ []
two_numbers a b c d e f = ap (λ x. x ∷ b ∷ []) e ∙ ap (λ x. c ∷ x ∷ []) f

three_numbers : (a b c d e f : ℕ) → a ≡ d → b ≡ e → c ≡ f → a ∷ b ∷ c ∷ [] ≡ d ∷ e ∷ f ∷ []
three_numbers a b c d e f p q r = ap (λ x. x ∷ b ∷ c ∷ []) p ∙ ap (λ l. d ∷ l) (two_numbers b c e f q r)

-- what a picture that isn't the first leaves
record Leaves (g j : ℕ) : Type 0 where
  pub next : map (number_at (held g j ++ j ∷ [])) (buffer_use_at false g).kept ≡ held ((g + 1) % 8) (j + 1)
  pub inside : AreInside (buffer_use_at false g).kept (length (held g j ++ j ∷ []))

leaves : (g j : ℕ) → g < 8 → Leaves g j
leaves zero j h = record { next = one_number _ _ (omega arith); inside = (omega arith, tt) }
leaves (suc zero) j h = record {
  next = two_numbers _ _ _ _ (omega arith) (omega arith);
  inside = (omega arith, (omega arith, tt));
}
leaves (suc (suc zero)) j h = record {
  next = three_numbers _ _ _ _ _ _ (omega arith) (omega arith) (omega arith);
  inside = (omega arith, (omega arith, (omega arith, tt)));
}
leaves (suc (suc (suc zero))) j h = record {
  next = two_numbers _ _ _ _ (omega arith) (omega arith);
  inside = (omega arith, (omega arith, tt));
}
leaves (suc (suc (suc (suc zero)))) j h = record {
  next = three_numbers _ _ _ _ _ _ (omega arith) (omega arith) (omega arith);
  inside = (omega arith, (omega arith, (omega arith, tt)));
}
leaves (suc (suc (suc (suc (suc zero))))) j h = record {
  next = two_numbers _ _ _ _ (omega arith) (omega arith);
  inside = (omega arith, (omega arith, tt));
}
leaves (suc (suc (suc (suc (suc (suc zero)))))) j h = record {
  next = three_numbers _ _ _ _ _ _ (omega arith) (omega arith) (omega arith);
  inside = (omega arith, (omega arith, (omega arith, tt)));
}
leaves (suc (suc (suc (suc (suc (suc (suc zero))))))) j h = record {
  next = two_numbers _ _ _ _ (omega arith) (omega arith);
  inside = (omega arith, (omega arith, tt));
}
leaves (suc (suc (suc (suc (suc (suc (suc (suc g)))))))) j h = absurd (omega arith)

-- ---- its references

drawn_as : (planes other : Planes) (buffer : List DecodedPicture) (place : ℕ) → planes ≡ other
    → HasDrawn other buffer place → HasDrawn planes buffer place
drawn_as planes other buffer place e has = subst (λ (p : Planes). HasDrawn p buffer place) (sym e) has

module _ (seed : ℕ) (buffer : List DecodedPicture) (j : ℕ) where
  first_p : j % 8 ≡ 1 → AreDrawn seed (held 1 j) buffer → HasReferences 1 (making_at seed j) buffer
  first_p e are = record {
    one = λ is. drawn_as _ _ buffer 0 (one_first seed j e) (drawn_there seed (held 1 j) buffer 0 are (omega arith));
    older = λ n even. absurd (even refl);
    last = λ n even. absurd (even refl);
  }

  first_b : j % 8 ≡ 2 → AreDrawn seed (held 2 j) buffer → HasReferences 2 (making_at seed j) buffer
  first_b e are = record {
    one = λ is. absurd (omega (arith, is));
    older = λ n even. drawn_as _ _ buffer 0 (older_first seed j e)
        (drawn_there seed (held 2 j) buffer 0 are (omega arith));
    last = λ n even. drawn_as _ _ buffer 1 (last_of seed j (λ k. absurd (omega arith)) (omega arith))
        (drawn_there seed (held 2 j) buffer 1 are (omega arith));
  }

  references : (g : ℕ) → g < 8 → j % 8 ≡ g → AreDrawn seed (held g j) buffer
      → HasReferences g (making_at seed j) buffer
  references zero h e are = record {
    one = λ is. absurd (omega (arith, is));
    older = λ n even. absurd (n refl);
    last = λ n even. absurd (n refl);
  }
  references (suc zero) h e are = first_p e are
  references (suc (suc zero)) h e are = first_b e are
  references (suc (suc (suc zero))) h e are = record {
    one = λ is. drawn_as _ _ buffer 1 (one_later seed j (λ k. absurd (omega arith)) (omega arith))
        (drawn_there seed (held 3 j) buffer 1 are (omega arith));
    older = λ n even. absurd (even refl);
    last = λ n even. absurd (even refl);
  }
  references (suc (suc (suc (suc zero)))) h e are = record {
    one = λ is. absurd (omega (arith, is));
    older = λ n even. drawn_as _ _ buffer 0
        (older_later seed j (λ k. absurd (omega arith)) (λ k. absurd (omega arith)) (omega arith))
        (drawn_there seed (held 4 j) buffer 0 are (omega arith));
    last = λ n even. drawn_as _ _ buffer 1 (last_of seed j (λ k. absurd (omega arith)) (omega arith))
        (drawn_there seed (held 4 j) buffer 1 are (omega arith));
  }
  references (suc (suc (suc (suc (suc zero))))) h e are = record {
    one = λ is. drawn_as _ _ buffer 1 (one_later seed j (λ k. absurd (omega arith)) (omega arith))
        (drawn_there seed (held 5 j) buffer 1 are (omega arith));
    older = λ n even. absurd (even refl);
    last = λ n even. absurd (even refl);
  }
  references (suc (suc (suc (suc (suc (suc zero)))))) h e are = record {
    one = λ is. absurd (omega (arith, is));
    older = λ n even. drawn_as _ _ buffer 0
        (older_later seed j (λ k. absurd (omega arith)) (λ k. absurd (omega arith)) (omega arith))
        (drawn_there seed (held 6 j) buffer 0 are (omega arith));
    last = λ n even. drawn_as _ _ buffer 1 (last_of seed j (λ k. absurd (omega arith)) (omega arith))
        (drawn_there seed (held 6 j) buffer 1 are (omega arith));
  }
  references (suc (suc (suc (suc (suc (suc (suc zero))))))) h e are = record {
    one = λ is. drawn_as _ _ buffer 1 (one_later seed j (λ k. absurd (omega arith)) (omega arith))
        (drawn_there seed (held 7 j) buffer 1 are (omega arith));
    older = λ n even. absurd (even refl);
    last = λ n even. absurd (even refl);
  }
  references (suc (suc (suc (suc (suc (suc (suc (suc g)))))))) h e are = absurd (omega arith)

-- ---- one behind the other

kept_of : (seed j : ℕ) → (plan_of seed j).outputs.kept ≡ (buffer_use_at (j == 0) (j % 8)).kept
unfolding made_plan
kept_of seed j = refl

later_kept : (seed j : ℕ) → 1 ≤ j → (plan_of seed j).outputs.kept ≡ (buffer_use_at false (j % 8)).kept
later_kept seed j some =
    kept_of seed j
    ∙ ap (λ (b : Bool). (buffer_use_at b (j % 8)).kept) (other_test j 0 (λ is. absurd (omega arith)))

-- the numbers before a picture that isn't the first
pub numbers_are : (seed j : ℕ) → numbers_before seed (suc j) ≡ held (suc j % 8) (suc j)
unfolding numbers_before made_plan
numbers_are seed zero = refl
numbers_are seed (suc j) =
    let i : ℕ = suc j in
    let next : (i % 8 + 1) % 8 ≡ suc i % 8 = omega arith in
    let on : i + 1 ≡ suc i = omega arith in
    ap (λ l. map (number_at (l ++ i ∷ [])) (plan_of seed i).outputs.kept) (numbers_are seed j)
    ∙ ap (map (number_at (held (i % 8) i ++ i ∷ []))) (later_kept seed i (omega arith))
    ∙ (leaves (i % 8) i (omega arith)).next ∙ ap (λ k. held k (i + 1)) next ∙ ap (held (suc i % 8)) on

none_before : (seed : ℕ) (buffer : List DecodedPicture) → HasReferences 0 (making_at seed 0) buffer
none_before seed buffer = record {
  one = λ is. absurd (omega (arith, is));
  older = λ n even. absurd (n refl);
  last = λ n even. absurd (n refl);
}

has_references : (seed j : ℕ) (buffer : List DecodedPicture) → AreDrawn seed (numbers_before seed j) buffer
    → HasReferences (j % 8) (making_at seed j) buffer
has_references seed zero buffer are = none_before seed buffer
has_references seed (suc j) buffer are =
    references seed buffer (suc j) (suc j % 8) (omega arith) refl
    (subst (λ (l : List ℕ). AreDrawn seed l buffer) (numbers_are seed j) are)

-- the picture of a number, by every buffer that has those drawn that its plan expects
pub decoded_by_drawn : (seed j : ℕ) (buffer : List DecodedPicture) → AreDrawn seed (numbers_before seed j) buffer
    → IsDecodedAs buffer (plan_of seed j) (planes_of seed j)
decoded_by_drawn seed j buffer are = number_decoded seed j buffer (has_references seed j buffer are)

kept_inside : (seed j : ℕ)
    → AreInside (plan_of seed j).outputs.kept (length (numbers_before seed j ++ j ∷ []))
unfolding numbers_before made_plan
kept_inside seed zero = (omega arith, tt)
kept_inside seed (suc j) =
    let i : ℕ = suc j in
    subst (λ (l : List ℕ). AreInside (plan_of seed i).outputs.kept (length (l ++ i ∷ []))) (sym (numbers_are seed j))
    (subst (λ (l : List ℕ). AreInside l (length (held (i % 8) i ++ i ∷ []))) (sym (later_kept seed i (omega arith)))
    (leaves (i % 8) i (omega arith)).inside)

-- the buffer that it leaves
pub left_drawn : (seed j : ℕ) (buffer : List DecodedPicture) (picture : DecodedPicture)
    → AreDrawn seed (numbers_before seed j) buffer → AreDrawn seed (j ∷ []) (picture ∷ [])
    → AreDrawn seed (numbers_before seed (suc j)) (pictures_at (buffer ++ picture ∷ []) (plan_of seed j).outputs.kept)
unfolding numbers_before
left_drawn seed j buffer picture are is =
    kept_drawn seed (numbers_before seed j ++ j ∷ []) (buffer ++ picture ∷ []) (plan_of seed j).outputs.kept
    (one_more seed j (numbers_before seed j) buffer picture are is.0) (kept_inside seed j)

turn_of : (seed j : ℕ) (buffer : List DecodedPicture) → buffer_before seed j ≡ Ok buffer
    → AreDrawn seed (numbers_before seed j) buffer → IsDecodedInTurn seed j
turn_of seed j buffer before are = record {
  buffer = buffer;
  before = before;
  drawn = are;
  decoded = decoded_by_drawn seed j buffer are;
}

pub in_turn : (seed j : ℕ) → IsDecodedInTurn seed j
unfolding buffer_before numbers_before
in_turn seed zero = turn_of seed 0 [] refl tt
in_turn seed (suc j) =
    let t : IsDecodedInTurn seed j = in_turn seed j in
    let before : buffer_before seed (suc j)
    ≡ Ok (pictures_at (t.buffer ++ t.decoded.picture ∷ []) (plan_of seed j).outputs.kept) =
    ap (behind (plan_of seed j)) t.before ∙ ap (left_behind (plan_of seed j) t.buffer) t.decoded.decoded in
    turn_of seed (suc j) (pictures_at (t.buffer ++ t.decoded.picture ∷ []) (plan_of seed j).outputs.kept) before
    (left_drawn seed j t.buffer t.decoded.picture t.drawn (t.decoded.drawn, tt))
