-- A job that has ended for its holder is over in the words.
use Rattle.std.proofs.Common.{◌≡◌, ℕ, ◌≤◌, List, Some, subst, sym, ⊎_elim, inl, inr, arith}
use Rattle.progress_words.specs.declared.view.View.{View}
use Rattle.progress_words.specs.Meanings.{Meaning}
use Rattle.progress_words.specs.Faults.{unit_in}
use Rattle.progress_words.specs.Core.{fault_in}
use Rattle.progress_words.specs.Views.{HasEnded}
use Rattle.progress_words.specs.Rule.{Fits, IsShown, IsOver}

pub unit_le : (a b : ℕ) → a ≤ b → unit_in a ≤ unit_in b
unit_le a b le = omega arith

module _ {F : Type 0} (m : Meaning) (key : F) (words : List ℕ) (shown : IsShown m words) (v : View F)
    (fits : Fits m key words v) (ended : HasEnded m v) where
  pub over_of : (l : ℕ) → v.job ≡ Some l → IsOver m words l
  over_of l has =
      let h = fits.job l has in let c = h.count in
      ⊎_elim
      (λ full. inl (let z = shown.counts l h.line in omega arith))
      (λ stopped. let low = unit_le (fault_in m words) v.least fits.least in
      inr (subst (λ (x : ℕ). unit_in (fault_in m words) ≤ m.number l x) (sym c) (omega arith)))
      (ended l has)
