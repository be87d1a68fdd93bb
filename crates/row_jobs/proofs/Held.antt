-- Parts for pictures, and the pictures that they hold.
use Rattle.std.proofs.Common.{◌≡◌, ℕ, suc, zero, ◌+◌, ◌<◌, List, [], ◌∷◌, ◌++◌, Some, length, slice_get, drop}
use Rattle.std.proofs.Common.{length-append, refl, sym, ap, ◌∙◌, subst, arith, inl, inr}
use Rattle.std.proofs.lemmas.Bool.{cases_lt}
use Rattle.std.proofs.lemmas.Option.{same_Some, slice_get_within}
use Rattle.std.specs.List.{remove}
use Rattle.std.specs.Prelude.{IfOk, Result, Ok, Err}
use Rattle.plan_types.specs.declared.picture_plan.PicturePlan.{PicturePlan}
use Rattle.picture_buffer.specs.Pictures.{HeldPicture}
use Rattle.taken_flights.specs.TakenPictures.{held_picture}
use Rattle.taken_flights.specs.Taken.{AreSized, IsSized, Part}
use Rattle.taken_flights.proofs.Lists.{back_at, front_at}
use Rattle.row_jobs.specs.Boards.{ArePictures}

-- what follows from what two clauses say of the value in an `Ok`
pub if_ok_both : {X Y : Type 0} (r : Result X Y) {P Q S : X → Type 0} → IfOk r P → IfOk r Q
    → ((x : X) → P x → Q x → S x) → IfOk r S
if_ok_both (Ok x) p q f = f x p q
if_ok_both (Err e) p q f = tt

-- the last item of a list
last_at : {X : Type 0} (xs : List X) (x y : X) (k : ℕ) → k ≡ length xs → slice_get (xs ++ x ∷ []) k ≡ Some y → x ≡ y
last_at xs x y k is has =
    same_Some x y (sym (back_at xs (x ∷ []) 0 k (omega (arith, is))) ∙ has)

-- the first item behind a place
pub first_behind : {X : Type 0} (xs : List X) (k : ℕ) (x : X) → slice_get (drop k xs) 0 ≡ Some x
    → slice_get xs k ≡ Some x
first_behind [] zero x has = has
first_behind [] (suc k) x has = has
first_behind (y ∷ xs) zero x has = has
first_behind (y ∷ xs) (suc k) x has = first_behind xs k x has

-- without it
pub left_behind : {X : Type 0} (xs : List X) (k : ℕ) → k < length xs → remove (drop k xs) 0 ≡ drop (k + 1) xs
left_behind [] k less = absurd (omega (arith, less))
left_behind (y ∷ xs) zero less = refl
left_behind (y ∷ xs) (suc k) less =
    let next : suc (k + 1) ≡ suc k + 1 = omega arith in
    left_behind xs k (omega (arith, less)) ∙ ap (λ n. drop n (y ∷ xs)) next

-- one more part
pub one_sized : (plans : List PicturePlan) (old : List Part) {new : List Part} {p : PicturePlan} {part : Part}
    → slice_get plans (length old) ≡ Some p → IsSized p part → new ≡ old ++ part ∷ [] → AreSized plans old
    → AreSized plans new
one_sized plans old {new} {p} {part} plan sized is far k q x has there =
    let at : slice_get (old ++ part ∷ []) k ≡ Some x = ap (λ xs. slice_get xs k) (sym is) ∙ there in
    elim (cases_lt k (length old)) [
      | inl less ↦ far k q x has (sym (front_at old (part ∷ []) k less) ∙ at)
      | inr most ↦
          let within = slice_get_within (old ++ part ∷ []) k x at in
          let many = length-append old (part ∷ []) in
          let here : k ≡ length old = omega (arith, most, within, many) in
          let part_is : part ≡ x = last_at old part x k here at in
          let plan_is : p ≡ q = same_Some p q (sym plan ∙ (ap (slice_get plans) (sym here) ∙ has)) in
          subst (IsSized q) part_is (subst (λ r. IsSized r part) plan_is sized)
    ]

-- one more picture
pub one_picture : {plans : List PicturePlan} {parts : List Part} {k : ℕ} {old new : List HeldPicture}
    {p : PicturePlan} {part : Part} {picture : HeldPicture}
    → slice_get plans k ≡ Some p → slice_get parts k ≡ Some part
    → picture ≡ held_picture p.sps.format part.0 part.1 → new ≡ old ++ picture ∷ []
    → ArePictures plans parts k old → ArePictures plans parts (k + 1) new
one_picture {plans} {parts} {k} {old} {new} {p} {part} {picture} plan there holds is far = record {
  as_many =
      let many = length-append old (picture ∷ []) in
      let count : length new ≡ length (old ++ picture ∷ []) = ap length is in
      let before = far.as_many in
      omega (arith, many, count, before);
  each = λ i q x h has at got.
      let in_all : slice_get (old ++ picture ∷ []) i ≡ Some h = ap (λ xs. slice_get xs i) (sym is) ∙ got in
      let before = far.as_many in
      elim (cases_lt i (length old)) [
        | inl less ↦ far.each i q x h has at (sym (front_at old (picture ∷ []) i less) ∙ in_all)
        | inr most ↦
            let within = slice_get_within (old ++ picture ∷ []) i h in_all in
            let many = length-append old (picture ∷ []) in
            let last : i ≡ length old = omega (arith, most, within, many) in
            let here : i ≡ k = omega (arith, last, before) in
            let held_is : picture ≡ h = last_at old picture h i last in_all in
            let part_is : part ≡ x = same_Some part x (sym there ∙ (ap (slice_get parts) (sym here) ∙ at)) in
            let plan_is : p ≡ q = same_Some p q (sym plan ∙ (ap (slice_get plans) (sym here) ∙ has)) in
            sym held_is
            ∙ holds
            ∙ ap (λ (r : PicturePlan). held_picture r.sps.format part.0 part.1) plan_is
            ∙ ap (λ (y : Part). held_picture q.sps.format y.0 y.1) part_is
      ];
}
