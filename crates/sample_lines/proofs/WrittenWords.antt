-- Words of samples that are written one behind the other.
use Rattle.std.proofs.Common.{◌≡◌, ℕ, zero, suc, ◌+◌, ◌<◌, arith, ap, ◌∙◌, refl, subst, sym}
use Rattle.hv_base.specs.declared.line.Phase.{Phase}
use Rattle.hv_base.specs.declared.line.Phase.TheVariants.{S}
use Rattle.sample_words.specs.declared.sizes.FlightSizes.{FlightSizes}
use Rattle.sample_words.specs.Contents.{component_words, components_before, unit_width}
use Rattle.sample_words.specs.Sizes.{filtered_words, sample_words}
use Rattle.sample_words.specs.Words.{phase_words}
use Rattle.progress_words.specs.declared.pass.Pass.{Pass}
use Rattle.progress_words.specs.declared.view.View.{View}
use Rattle.progress_words.specs.Meanings.{Meaning}
use Rattle.progress_words.specs.Passes.{Knows, view}
use Rattle.progress_words.specs.Rule.{IsNext}
use Rattle.line_words.specs.Passes.{writing_run}
use Rattle.line_words.specs.Places.{UnitAt, words_at}
use Rattle.line_words.proofs.Words.{next_still, none_written}
use Rattle.sample_lines.specs.Lines.{luma_height, luma_width}

-- a component's words follow those before it
pub component_next : (s : FlightSizes) (width height c : ℕ) → c < 3
    → components_before s width height c + component_words s width height c ≡ components_before s width height (c + 1)
component_next s width height zero few = omega arith
component_next s width height (suc zero) few = omega arith
component_next s width height (suc (suc zero)) few = omega arith
component_next s width height (suc (suc (suc c))) few = absurd (omega (arith, few))

-- behind all loop filters all components are the unit
final_all : (s : FlightSizes) (height unit : ℕ)
    → components_before s (unit_width s S unit) height 3 ≡ phase_words s S height unit
unfolding filtered_words sample_words
final_all s height unit = omega arith

pub components_all : (at : UnitAt) → at.line.phase ≡ S
    → components_before at.sizes (luma_width at) (luma_height at) 3 ≡ words_at at
components_all at final =
    subst
    (λ (p : Phase). components_before at.sizes (unit_width at.sizes p at.unit) (luma_height at) 3
    ≡ phase_words at.sizes p (luma_height at) at.unit)
    (sym final) (final_all at.sizes (luma_height at) at.unit)

module _ {F : Type 0} where
  run_more : (v : View F) (n k : ℕ) → writing_run (writing_run v n) k ≡ writing_run v (n + k)
  run_more v n k = let e : v.written + n + k ≡ v.written + (n + k) = omega arith in λ i. record v { written = e i }

  pub nothing_written : (p : Pass F) (n : ℕ) → n ≡ 0 → Knows p p (writing_run (view p) n)
  nothing_written p n none =
      (refl, none_written (view p) ∙ ap (λ (k : ℕ). writing_run (view p) k) (sym none))

  -- as many more words are written
  pub knows_more : (p q r : Pass F) (n k m : ℕ) → Knows p q (writing_run (view p) n)
      → Knows q r (writing_run (view q) k) → n + k ≡ m → Knows p r (writing_run (view p) m)
  knows_more p q r n k m first second sum = (
    second.0 ∙ first.0,
    second.1
        ∙ (ap (λ (v : View F). writing_run v k) first.1
        ∙ (run_more (view p) n k ∙ ap (λ (j : ℕ). writing_run (view p) j) sum)),
  )

  -- the next unit is still the next one
  pub next_kept : (m : Meaning) (p q : Pass F) (l n : ℕ) → Knows p q (writing_run (view p) n) → IsNext m (view p) l
      → IsNext m (view q) l
  next_kept m p q l n knows next =
      subst (λ (v : View F). IsNext m v l) (sym knows.1) (next_still m (view p) l n next)

  -- and so many words are written of it
  pub written_kept : (p q : Pass F) (n : ℕ) → Knows p q (writing_run (view p) n)
      → (view q).written ≡ (view p).written + n
  written_kept p q n knows = ap (λ (v : View F). v.written) knows.1
