-- Which pictures stand before each picture of a stream that is made, by their numbers.
use Rattle.std.proofs.Common.{◌≡◌, ℕ, suc, ◌+◌, ◌-◌, ◌%◌, cond, Bool, true, false, List, refl, ap, ◌∙◌, arith}
use Rattle.std.specs.Prelude.{◌==◌}
use Rattle.spec_made.specs.Stream.{Making, idr_made, inter_made, picture_made}
use Rattle.made_laws.specs.Streams.{idr_picture, inter_picture, making_at, picture_at}
use Rattle.made_picture_laws.proofs.Tests.{other_test, same_test}
use Rattle.made_decoding_laws.specs.References.{planes_of}

module _ (one two order other : ℕ) (m : Making) where
  abbrev next : Bool → Bool → Making
  next idr p =
      (cond {A = List ℕ × Making} idr (idr_made m)
      (cond {A = List ℕ × Making} p (inter_made false one m) (inter_made true two m))).1

  last_idr : (idr p : Bool) → idr ≡ true
      → (next idr p).last
      ≡ (cond idr (idr_picture m) (cond p (inter_picture false one m) (inter_picture true two m))).planes
  unfolding idr_made idr_picture
  last_idr true p e = refl
  last_idr false p e = absurd cc

  last_p : (idr p : Bool) → idr ≡ false → p ≡ true
      → (next idr p).last
      ≡ (cond idr (idr_picture m) (cond p (inter_picture false one m) (inter_picture true two m))).planes
  unfolding inter_made inter_picture
  last_p true p e f = absurd cc
  last_p false true e f = refl
  last_p false false e f = absurd cc

  older_p : (idr p : Bool) → idr ≡ false → p ≡ true → (next idr p).older ≡ m.last
  unfolding inter_made
  older_p true p e f = absurd cc
  older_p false true e f = refl
  older_p false false e f = absurd cc

  last_b : (idr p : Bool) → idr ≡ false → p ≡ false → (next idr p).last ≡ m.last
  unfolding inter_made
  last_b true p e f = absurd cc
  last_b false true e f = absurd cc
  last_b false false e f = refl

module _ (seed i : ℕ) where
  abbrev group : ℕ
  group = i % 8

  pub after_idr : i % 8 ≡ 0 → (making_at seed (suc i)).last ≡ planes_of seed i
  unfolding making_at picture_made picture_at
  after_idr e =
      last_idr (group + 1) (group - 1) 0 0 (making_at seed i) (group == 0) (group % 2 == 1) (same_test group 0 e)

  pub after_p : i % 2 ≡ 1 → (making_at seed (suc i)).last ≡ planes_of seed i
  unfolding making_at picture_made picture_at
  after_p e =
      last_p (group + 1) (group - 1) 0 0 (making_at seed i) (group == 0) (group % 2 == 1)
      (other_test group 0 (λ is. absurd (omega arith))) (same_test (group % 2) 1 (omega arith))

  pub older_after_p : i % 2 ≡ 1 → (making_at seed (suc i)).older ≡ (making_at seed i).last
  unfolding making_at picture_made
  older_after_p e =
      older_p (group + 1) (group - 1) 0 0 (making_at seed i) (group == 0) (group % 2 == 1)
      (other_test group 0 (λ is. absurd (omega arith))) (same_test (group % 2) 1 (omega arith))

  pub after_b : ¬ (i % 8 ≡ 0) → i % 2 ≡ 0 → (making_at seed (suc i)).last ≡ (making_at seed i).last
  unfolding making_at picture_made
  after_b n e =
      last_b (group + 1) (group - 1) 0 0 (making_at seed i) (group == 0) (group % 2 == 1)
      (other_test group 0 n) (other_test (group % 2) 1 (λ is. absurd (omega arith)))

-- the reference of the first P picture of a group, and of each later one
pub one_first : (seed j : ℕ) → j % 8 ≡ 1 → (making_at seed j).last ≡ planes_of seed (j - 1)
one_first seed j e =
    let is : j ≡ suc (j - 1) = omega arith in
    ap (λ k. (making_at seed k).last) is ∙ after_idr seed (j - 1) (omega arith)

pub one_later : (seed j : ℕ) → ¬ (j % 8 ≡ 1) → j % 2 ≡ 1 → (making_at seed j).last ≡ planes_of seed (j - 2)
one_later seed j n e =
    let is : j ≡ suc (j - 1) = omega arith in
    let two : j - 1 ≡ suc (j - 2) = omega arith in
    ap (λ k. (making_at seed k).last) is ∙ after_b seed (j - 1) (λ k. absurd (omega arith)) (omega arith)
    ∙ ap (λ k. (making_at seed k).last) two ∙ after_p seed (j - 2) (omega arith)

-- those of a B picture
pub last_of : (seed j : ℕ) → ¬ (j % 8 ≡ 0) → j % 2 ≡ 0 → (making_at seed j).last ≡ planes_of seed (j - 1)
last_of seed j n e =
    let is : j ≡ suc (j - 1) = omega arith in
    ap (λ k. (making_at seed k).last) is ∙ after_p seed (j - 1) (omega arith)

pub older_first : (seed j : ℕ) → j % 8 ≡ 2 → (making_at seed j).older ≡ planes_of seed (j - 2)
older_first seed j e =
    let is : j ≡ suc (j - 1) = omega arith in
    let two : j - 1 - 1 ≡ j - 2 = omega arith in
    ap (λ k. (making_at seed k).older) is ∙ older_after_p seed (j - 1) (omega arith)
    ∙ one_first seed (j - 1) (omega arith) ∙ ap (planes_of seed) two

pub older_later : (seed j : ℕ) → ¬ (j % 8 ≡ 0) → ¬ (j % 8 ≡ 2) → j % 2 ≡ 0
    → (making_at seed j).older ≡ planes_of seed (j - 3)
older_later seed j n m e =
    let is : j ≡ suc (j - 1) = omega arith in
    let three : j - 1 - 2 ≡ j - 3 = omega arith in
    ap (λ k. (making_at seed k).older) is ∙ older_after_p seed (j - 1) (omega arith)
    ∙ one_later seed (j - 1) (λ k. absurd (omega arith)) (omega arith) ∙ ap (planes_of seed) three
