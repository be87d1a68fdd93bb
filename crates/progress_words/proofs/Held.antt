-- Views of which one is replaced: what holds of each, who holds a line, and that no two hold the same.
use Rattle.std.proofs.Common.{◌≡◌, ◌≢◌, ◌⊎◌, ℕ, List, [], ◌∷◌, ◌++◌, length, set, Option, Some, None, refl, sym, ap}
use Rattle.std.proofs.Common.{◌∙◌, subst, ⊎_elim, inl, inr, arith, length-set}
use mathlib.Core.Logic.{dite}
use mathlib.Core.Option.{some, some-ne-none, some-injective}
use native.Mathlib.Decide.{ℕ_discrete}
use lib.ListN.{get_elem?}
use Rattle.atomic_table.proofs.Lists.{at_set, set_else}
use Rattle.progress_words.specs.declared.view.View.{View}
use Rattle.progress_words.specs.Rule.{IsHeld, AreApart}

abbrev job_or : Option ℕ → ℕ
job_or None = 0
job_or (Some l) = l

pub same_job : (a b : ℕ) → Some a ≡ Some b → a ≡ b
same_job a b e = ap job_or e

pub at_inside : {A : Type 0} (xs : List A) (i : ℕ) (a b : A) → get_elem? xs i ≡ some a
    → get_elem? (set xs i b) i ≡ some b
at_inside [] i a b e = absurd (some-ne-none a (sym e))
at_inside (x ∷ xs) Rattle.std.proofs.Common.zero a b e = refl
at_inside (x ∷ xs) (Rattle.std.proofs.Common.suc i) a b e = at_inside xs i a b e

module _ {F : Type 0} where
  pub each_set : (K : ℕ → View F → Type 0) (vs : List (View F)) (me : ℕ) (w : View F) → K me w
      → ((j : ℕ) (u : View F) → j ≢ me → get_elem? vs j ≡ some u → K j u)
      → (j : ℕ) (u : View F) → get_elem? (set vs me w) j ≡ some u → K j u
  each_set K vs me w mine others j u e =
      ⊎_elim
      (λ (t : (j ≡ me) × (w ≡ u)). subst (λ (x : ℕ × View F). K x.0 x.1) (λ i. (sym t.0 i, t.1 i)) mine)
      (λ (t : (j ≢ me) × (get_elem? vs j ≡ some u)). others j u t.0 t.1)
      (at_set vs me j w u e)

  pub held_set : (vs : List (View F)) (me : ℕ) (v w : View F) (l : ℕ) → get_elem? vs me ≡ some v
      → (v.job ≡ Some l → w.job ≡ Some l) → IsHeld vs l → IsHeld (set vs me w) l
  held_set vs me v w l at keeps held =
      let i = held.0 in let u = held.1.0 in
      dite (ℕ_discrete i me)
      (λ same.
      let is : v ≡ u = some-injective v u (sym at ∙ (ap (get_elem? vs) (sym same) ∙ held.1.1.0)) in
      (me, (w, (at_inside vs me v w at, keeps (ap (λ (x : View F). x.job) is ∙ held.1.1.1)))))
      (λ other. (i, (u, (set_else vs me i w other ∙ held.1.1.0, held.1.1.1))))

  pub apart_set : (vs : List (View F)) (me : ℕ) (w : View F) → AreApart vs → ((j l : ℕ) (u : View F) → j ≢ me
      → get_elem? vs j ≡ some u → w.job ≡ Some l → u.job ≢ Some l) → AreApart (set vs me w)
  apart_set vs me w apart alone i j l v u at_i at_j has_i has_j =
      ⊎_elim
      (λ (t : (i ≡ me) × (w ≡ v)).
      ⊎_elim
      (λ (t' : (j ≡ me) × (w ≡ u)). t.0 ∙ sym t'.0)
      (λ (t' : (j ≢ me) × (get_elem? vs j ≡ some u)). absurd (alone j l u t'.0 t'.1 (ap
      (λ (x : View F). x.job) t.1 ∙ has_i) has_j))
      (at_set vs me j w u at_j))
      (λ (t : (i ≢ me) × (get_elem? vs i ≡ some v)).
      ⊎_elim
      (λ (t' : (j ≡ me) × (w ≡ u)). absurd (alone i l v t.0 t.1 (ap (λ (x : View F). x.job) t'.1 ∙ has_j) has_i))
      (λ (t' : (j ≢ me) × (get_elem? vs j ≡ some u)). apart i j l v u t.1 t'.1 has_i has_j)
      (at_set vs me j w u at_j))
      (at_set vs me i w v at_i)

  -- the job that a view has already
  pub apart_same : (vs : List (View F)) (me : ℕ) (v w : View F) → get_elem? vs me ≡ some v → w.job ≡ v.job
      → AreApart vs → AreApart (set vs me w)
  apart_same vs me v w at same apart =
      apart_set vs me w apart (λ j l u other at_j has_w has_u. other (apart j me l u v at_j at has_u (sym same
      ∙ has_w)))

  -- another view holds it, or the one that is replaced did
  pub held_or : (vs : List (View F)) (me : ℕ) (v w : View F) (l : ℕ) → get_elem? vs me ≡ some v → IsHeld vs l
      → IsHeld (set vs me w) l ⊎ (v.job ≡ Some l)
  held_or vs me v w l at held =
      let i = held.0 in let u = held.1.0 in
      dite (ℕ_discrete i me)
      (λ same.
      let is : v ≡ u = some-injective v u (sym at ∙ (ap (get_elem? vs) (sym same) ∙ held.1.1.0)) in
      inr (ap (λ (x : View F). x.job) is ∙ held.1.1.1))
      (λ other. inl (i, (u, (set_else vs me i w other ∙ held.1.1.0, held.1.1.1))))
