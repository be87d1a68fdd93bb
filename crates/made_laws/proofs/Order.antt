-- The output order of a made stream.
use Rattle.std.proofs.Common.{◌≡◌, ℕ, zero, suc, ◌+◌, ◌*◌, ◌-◌, ◌%◌, ◌<◌, ◌≤◌, Bool, true, false, List, [], ◌∷◌}
use Rattle.std.proofs.Common.{cond, map, refl, sym, ap, ◌∙◌, arith}
use Rattle.std.specs.Prelude.{◌==◌}
use Rattle.std.specs.List.{range_with_len}
use Rattle.std.proofs.lemmas.Bool.Decides.{nat_tests}
use Rattle.plan_types.specs.declared.picture_plan.PicturePlan.{PicturePlan}
use Rattle.plan_types.specs.declared.stated_hash.StatedHash.{StatedHash}
use Rattle.spec_made.specs.Stream.{Making, picture_made}
use Rattle.made_laws.specs.Outputs.{number_at, outputs_from, shown_at}
use Rattle.made_laws.specs.Plans.{MadeSlice, made_plan}
use Rattle.made_laws.proofs.Places.{shown_b, shown_idr, shown_last, shown_p, shown_seven}
use Rattle.made_laws.proofs.Lists.{plans_from}
use Rattle.made_laws.specs.Streams.{hashes_at, last_out, number_of, slice_at}

-- the pictures in the buffer before picture j, which is of a number in its group, if it isn't the first of the stream
abbrev held_before : ℕ → ℕ → List ℕ
held_before zero j = (j - 3) ∷ (j - 1) ∷ []
held_before (suc zero) j = (j - 1) ∷ []
held_before (suc (suc zero)) j = (j - 2) ∷ (j - 1) ∷ []
held_before (suc (suc (suc zero))) j = (j - 3) ∷ (j - 2) ∷ (j - 1) ∷ []
held_before (suc (suc (suc (suc zero)))) j = (j - 3) ∷ (j - 1) ∷ []
held_before (suc (suc (suc (suc (suc zero))))) j = (j - 4) ∷ (j - 2) ∷ (j - 1) ∷ []
held_before (suc (suc (suc (suc (suc (suc zero)))))) j = (j - 3) ∷ (j - 1) ∷ []
held_before (suc (suc (suc (suc (suc (suc (suc g))))))) j = (j - 4) ∷ (j - 2) ∷ (j - 1) ∷ []

-- the picture that goes out at it
abbrev out_at : ℕ → ℕ → ℕ
out_at zero j = j - 1
out_at (suc zero) j = j - 1
out_at (suc (suc zero)) j = j
out_at (suc (suc (suc zero))) j = j - 2
out_at (suc (suc (suc (suc zero)))) j = j
out_at (suc (suc (suc (suc (suc zero))))) j = j - 2
out_at (suc (suc (suc (suc (suc (suc zero)))))) j = j
out_at (suc (suc (suc (suc (suc (suc (suc g))))))) j = j - 2

-- what a picture puts out, and what it leaves
record Puts (g j : ℕ) : Type 0 where
  pub step : (nal : ℕ) (s : MadeSlice) (hashes : List StatedHash) (later : List PicturePlan) (last : List ℕ)
      → outputs_from j (held_before g j) (made_plan false g nal s hashes ∷ later) last
      ≡ out_at g j ∷ outputs_from (j + 1) (held_before ((g + 1) % 8) (j + 1)) later last
  pub shown : (n : ℕ) → 1 ≤ j → j % 8 ≡ g → j < n → out_at g j ≡ shown_at n (j - 1)
  pub last : 1 ≤ j → j % 8 ≡ g → map (number_at (held_before g j)) (last_out j) ≡ shown_at j (j - 1) ∷ []

-- the buffer before the next picture, by its numbers
next_numbers : (j : ℕ) (out : ℕ) (a b : List ℕ) (later : List PicturePlan) (last : List ℕ) → a ≡ b
    → out ∷ outputs_from (j + 1) a later last ≡ out ∷ outputs_from (j + 1) b later last
next_numbers j out a b later last e = ap (λ l. out ∷ outputs_from (j + 1) l later last) e

one_number : (a b : ℕ) → a ≡ b → a ∷ [] ≡ b ∷ []
one_number a b e = ap (λ x. x ∷ []) e

two_numbers : (a b c d : ℕ) → a ≡ c → b ≡ d → a ∷ b ∷ [] ≡ c ∷ d ∷ []
two_numbers a b c d e f = ap (λ x. x ∷ b ∷ []) e ∙ ap (λ x. c ∷ x ∷ []) f

three_numbers : (a b c d e f : ℕ) → a ≡ d → b ≡ e → c ≡ f → a ∷ b ∷ c ∷ [] ≡ d ∷ e ∷ f ∷ []
three_numbers a b c d e f p q r = ap (λ x. x ∷ b ∷ c ∷ []) p ∙ ap (λ l. d ∷ l) (two_numbers b c e f q r)

-- which picture goes out at the end, behind picture j - 1
last_of : (j : ℕ) → 1 ≤ j → last_out j ≡ cond {A = List ℕ} ((j - 1) % 8 == 0) (0 ∷ []) (1 ∷ [])
last_of zero some = absurd (omega arith)
last_of (suc i) some =
    let e : i ≡ suc i - 1 = omega arith in
    ap (λ k. cond {A = List ℕ} (k % 8 == 0) (0 ∷ []) (1 ∷ [])) e

last_shown : (numbers : List ℕ) (j : ℕ) (begins : Bool) (out : ℕ) → 1 ≤ j → ((j - 1) % 8 == 0) ≡ begins
    → map (number_at numbers) (cond {A = List ℕ} begins (0 ∷ []) (1 ∷ [])) ≡ out ∷ []
    → map (number_at numbers) (last_out j) ≡ out ∷ []
last_shown numbers j begins out some test is =
    ap (map (number_at numbers)) (last_of j some ∙ ap (λ t. cond {A = List ℕ} t (0 ∷ []) (1 ∷ [])) test) ∙ is

before_two : (j : ℕ) → j - 1 - 1 ≡ j - 2
before_two j = omega arith

behind_one : (j : ℕ) → 1 ≤ j → j - 1 + 1 ≡ j
behind_one j some = omega arith

idr : (j : ℕ) → Puts 0 j
unfolding outputs_from made_plan
idr j = record {
  step = λ nal s hashes later last. next_numbers j (j - 1) (j ∷ [])
      ((j + 1 - 1) ∷ []) later last
      (one_number _ _ (omega arith));
  shown = λ n some is inside. sym (shown_seven n (j - 1) (omega arith));
  last = λ some is. last_shown ((j - 3) ∷ (j - 1) ∷ []) j false (shown_at j (j - 1)) some
      (grind (arith, nat_tests))
      (one_number (j - 1) (shown_at j (j - 1)) (sym (shown_seven j (j - 1) (omega arith))));
}

first_p : (j : ℕ) → Puts 1 j
unfolding outputs_from made_plan
first_p j = record {
  step = λ nal s hashes later last. next_numbers j (j - 1) ((j - 1) ∷ j ∷ [])
      ((j + 1 - 2) ∷ (j + 1 - 1) ∷ []) later last
      (two_numbers _ _ _ _ (omega arith) (omega arith));
  shown = λ n some is inside. sym (shown_idr n (j - 1) (omega arith));
  last = λ some is. last_shown ((j - 1) ∷ []) j true (shown_at j (j - 1)) some
      (grind (arith, nat_tests))
      (one_number (j - 1) (shown_at j (j - 1)) (sym (shown_idr j (j - 1) (omega arith))));
}

first_b : (j : ℕ) → Puts 2 j
unfolding outputs_from made_plan
first_b j = record {
  step = λ nal s hashes later last. next_numbers j j ((j - 2) ∷ (j - 1) ∷ j ∷ [])
      ((j + 1 - 3) ∷ (j + 1 - 2) ∷ (j + 1 - 1) ∷ []) later last
      (three_numbers _ _ _ _ _ _ (omega arith) (omega arith) (omega arith));
  shown = λ n some is inside. sym (shown_b n (j - 1) (omega arith) (omega arith) (omega arith) ∙ behind_one j some);
  last = λ some is. last_shown ((j - 2) ∷ (j - 1) ∷ []) j false (shown_at j (j - 1)) some
      (grind (arith, nat_tests))
      (one_number (j - 1) (shown_at j (j - 1)) (sym (shown_last j (j - 1) (omega arith) (omega arith))));
}

second_p : (j : ℕ) → Puts 3 j
unfolding outputs_from made_plan
second_p j = record {
  step = λ nal s hashes later last. next_numbers j (j - 2) ((j - 2) ∷ j ∷ [])
      ((j + 1 - 3) ∷ (j + 1 - 1) ∷ []) later last
      (two_numbers _ _ _ _ (omega arith) (omega arith));
  shown = λ n some is inside. sym (shown_p n (j - 1) (omega arith) (omega arith) ∙ before_two j);
  last = λ some is. last_shown ((j - 3) ∷ (j - 2) ∷ (j - 1) ∷ []) j false (shown_at j (j - 1)) some
      (grind (arith, nat_tests))
      (one_number (j - 2) (shown_at j (j - 1)) (sym (shown_p j (j - 1) (omega arith) (omega arith) ∙ before_two j)));
}

second_b : (j : ℕ) → Puts 4 j
unfolding outputs_from made_plan
second_b j = record {
  step = λ nal s hashes later last. next_numbers j j ((j - 3) ∷ (j - 1) ∷ j ∷ [])
      ((j + 1 - 4) ∷ (j + 1 - 2) ∷ (j + 1 - 1) ∷ []) later last
      (three_numbers _ _ _ _ _ _ (omega arith) (omega arith) (omega arith));
  shown = λ n some is inside. sym (shown_b n (j - 1) (omega arith) (omega arith) (omega arith) ∙ behind_one j some);
  last = λ some is. last_shown ((j - 3) ∷ (j - 1) ∷ []) j false (shown_at j (j - 1)) some
      (grind (arith, nat_tests))
      (one_number (j - 1) (shown_at j (j - 1)) (sym (shown_last j (j - 1) (omega arith) (omega arith))));
}

third_p : (j : ℕ) → Puts 5 j
unfolding outputs_from made_plan
third_p j = record {
  step = λ nal s hashes later last. next_numbers j (j - 2) ((j - 2) ∷ j ∷ [])
      ((j + 1 - 3) ∷ (j + 1 - 1) ∷ []) later last
      (two_numbers _ _ _ _ (omega arith) (omega arith));
  shown = λ n some is inside. sym (shown_p n (j - 1) (omega arith) (omega arith) ∙ before_two j);
  last = λ some is. last_shown ((j - 4) ∷ (j - 2) ∷ (j - 1) ∷ []) j false (shown_at j (j - 1)) some
      (grind (arith, nat_tests))
      (one_number (j - 2) (shown_at j (j - 1)) (sym (shown_p j (j - 1) (omega arith) (omega arith) ∙ before_two j)));
}

third_b : (j : ℕ) → Puts 6 j
unfolding outputs_from made_plan
third_b j = record {
  step = λ nal s hashes later last. next_numbers j j ((j - 3) ∷ (j - 1) ∷ j ∷ [])
      ((j + 1 - 4) ∷ (j + 1 - 2) ∷ (j + 1 - 1) ∷ []) later last
      (three_numbers _ _ _ _ _ _ (omega arith) (omega arith) (omega arith));
  shown = λ n some is inside. sym (shown_b n (j - 1) (omega arith) (omega arith) (omega arith) ∙ behind_one j some);
  last = λ some is. last_shown ((j - 3) ∷ (j - 1) ∷ []) j false (shown_at j (j - 1)) some
      (grind (arith, nat_tests))
      (one_number (j - 1) (shown_at j (j - 1)) (sym (shown_last j (j - 1) (omega arith) (omega arith))));
}

fourth_p : (j : ℕ) → Puts 7 j
unfolding outputs_from made_plan
fourth_p j = record {
  step = λ nal s hashes later last. next_numbers j (j - 2) ((j - 2) ∷ j ∷ [])
      ((j + 1 - 3) ∷ (j + 1 - 1) ∷ []) later last
      (two_numbers _ _ _ _ (omega arith) (omega arith));
  shown = λ n some is inside. sym (shown_p n (j - 1) (omega arith) (omega arith) ∙ before_two j);
  last = λ some is. last_shown ((j - 4) ∷ (j - 2) ∷ (j - 1) ∷ []) j false (shown_at j (j - 1)) some
      (grind (arith, nat_tests))
      (one_number (j - 2) (shown_at j (j - 1)) (sym (shown_p j (j - 1) (omega arith) (omega arith) ∙ before_two j)));
}

any : (g j : ℕ) → g < 8 → Puts g j
any zero j h = idr j
any (suc zero) j h = first_p j
any (suc (suc zero)) j h = first_b j
any (suc (suc (suc zero))) j h = second_p j
any (suc (suc (suc (suc zero)))) j h = second_b j
any (suc (suc (suc (suc (suc zero))))) j h = third_p j
any (suc (suc (suc (suc (suc (suc zero)))))) j h = third_b j
any (suc (suc (suc (suc (suc (suc (suc zero))))))) j h = fourth_p j
any (suc (suc (suc (suc (suc (suc (suc (suc g)))))))) j h = absurd (omega arith)

-- ---- the whole stream

-- the places of the output order from one on, and one more
places_more : (a n b c : ℕ) → b ≡ a + 1 → c ≡ suc n → a ∷ range_with_len b n ≡ range_with_len a c
places_more a n b c e f = rw (e, f) refl

order_from : (n j : ℕ) (m : Making) → 1 ≤ j
    → outputs_from j (held_before (j % 8) j) (plans_from j n m) (last_out (j + n))
    ≡ map (shown_at (j + n)) (range_with_len (j - 1) (n + 1))
unfolding plans_from outputs_from
order_from zero j m some =
    let e : j ≡ j + 0 = omega arith in
    let p = any (j % 8) j (omega arith) in
    ap (λ k. map (number_at (held_before (j % 8) j)) (last_out k)) (sym e) ∙ p.last some refl
    ∙ ap (λ k. shown_at k (j - 1) ∷ []) e
order_from (suc n) j m some =
    let g : ℕ = j % 8 in
    let nal : ℕ = number_of (2 + 2 * j) in
    let s : MadeSlice = slice_at g m in
    let hashes : List StatedHash = hashes_at j g m in
    let later : Making = (picture_made g m).1 in
    let plans : List PicturePlan = plans_from (j + 1) n later in
    let p = any g j (omega arith) in
    let no : (j == 0) ≡ false = grind (arith, nat_tests) in
    let e : j + suc n ≡ j + 1 + n = omega arith in
    let next : (g + 1) % 8 ≡ (j + 1) % 8 = omega arith in
    let from : j + 1 - 1 ≡ j - 1 + 1 = omega arith in
    let count : suc n + 1 ≡ suc (n + 1) = omega arith in
    ap (λ first. outputs_from j (held_before g j) (made_plan first g nal s hashes ∷ plans) (last_out (j + suc n))) no
    ∙ p.step nal s hashes plans (last_out (j + suc n))
    ∙ ap (λ out. out ∷ outputs_from (j + 1) (held_before ((g + 1) % 8) (j + 1)) plans (last_out (j + suc n)))
    (p.shown (j + suc n) some refl (omega arith))
    ∙ ap (λ l. shown_at (j + suc n) (j - 1) ∷ l)
    (ap (λ k. outputs_from (j + 1) (held_before k (j + 1)) plans (last_out (j + suc n))) next
    ∙ ap (λ k. outputs_from (j + 1) (held_before ((j + 1) % 8) (j + 1)) plans (last_out k)) e
    ∙ order_from n (j + 1) later (omega arith)
    ∙ ap (λ k. map (shown_at k) (range_with_len (j + 1 - 1) (n + 1))) (sym e))
    ∙ ap (map (shown_at (j + suc n))) (places_more (j - 1) (n + 1) (j + 1 - 1) (suc n + 1) from count)

-- the pictures go out in that order
pub made_order : (n : ℕ) (m : Making)
    → outputs_from 0 [] (plans_from 0 n m) (last_out n) ≡ map (shown_at n) (range_with_len 0 n)
unfolding plans_from outputs_from made_plan
made_order zero m = refl
made_order (suc n) m =
    let e : suc n ≡ 1 + n = omega arith in
    let count : n + 1 ≡ suc n = omega arith in
    ap (λ k. outputs_from 1 (0 ∷ []) (plans_from 1 n (picture_made 0 m).1) (last_out k)) e
    ∙ order_from n 1 (picture_made 0 m).1 (omega arith)
    ∙ ap (λ k. map (shown_at (1 + n)) (range_with_len 0 k)) count
    ∙ ap (λ k. map (shown_at k) (range_with_len 0 (suc n))) (sym e)
