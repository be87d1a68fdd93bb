use Rattle.std.proofs.Common.{◌≡◌, ℕ, ◌+◌, ◌-◌, ◌*◌, List, length, Option, refl, sym, ap, ◌∙◌, arith}
use Rattle.spec_motion.specs.declared.pairs.TheConstants.{COMBINED_PAIRS}
use Rattle.spec_motion.specs.declared.slice_motion.SliceMotion.{SliceMotion}
use Rattle.spec_motion.specs.declared.vectors.Motion.{Motion}
use Rattle.spec_motion.specs.Merging.{combination, combinations}
use Rattle.spec_motion.specs.Vectors.{no_motion}
use Rattle.motion_candidates.proofs.FilterMap.{count_none, count_some, given_among}
use Rattle.motion_candidates.proofs.Lists.{taken_few}
use Rattle.motion_candidates.proofs.combining.nth_combination.Goals as goal
use Rattle.motion_candidates.proofs.combining.nth_combination.Goals.{in-Some+else-count-wanted, in-None}

abbrev of_pair : SliceMotion → List Motion → ℕ × ℕ → Option Motion
of_pair slice found pair = combination slice found pair.0 pair.1

pub loop-k-preserved : goal.loop-k-preserved
loop-k-preserved c = elim c.match-combination.branch [
  | in-Some+else-count-wanted w ↦ record {
    told =
        w.count-is ∙ ap (λ (n : ℕ). n + 1) c.loop-k.invariant.told
        ∙ sym (count_some (of_pair c.args.slice.now c.args.found.now) COMBINED_PAIRS c.loop-k.k _ w.in-Some.motion
        (omega arith) (sym c.combination.ensures ∙ w.in-Some.is));
    few = omega arith;
  }
  | in-None w ↦ record {
    told =
        w.count-is ∙ c.loop-k.invariant.told
        ∙ sym (count_none (of_pair c.args.slice.now c.args.found.now) COMBINED_PAIRS c.loop-k.k _ (omega arith)
        (sym c.combination.ensures ∙ w.in-None.is));
    few = omega arith;
  }
]

same_pairs : (a b : ℕ) → a ≡ b → a * (a - 1) ≡ b * (b - 1)
same_pairs a b e = ap (λ (n : ℕ). n * (n - 1)) e

pub returns-then-count-wanted-clause-within : goal.returns-then-count-wanted-clause-within
unfolding combinations
returns-then-count-wanted-clause-within c =
    let n : ℕ = length c.args.found.now * (length c.args.found.now - 1) in
    let same = same_pairs _ _ c.len.ensures.value in
    let told =
    given_among (of_pair c.args.slice.now c.args.found.now) COMBINED_PAIRS c.loop-k.k n _ c.in-Some.motion no_motion
    (omega arith) (omega arith) (sym c.combination.ensures ∙ c.in-Some.is) in
    let v = sym c.if-count-wanted.true ∙ c.loop-k.invariant.told in
    rw v (told.0, sym told.1)

pub returns-clause-beyond : goal.returns-clause-beyond
unfolding combinations
returns-clause-beyond c =
    let n : ℕ = length c.args.found.now * (length c.args.found.now - 1) in
    let same = same_pairs _ _ c.len.ensures.value in (
      c.loop-k.invariant.told
          ∙ ap length
          (taken_few (of_pair c.args.slice.now c.args.found.now) COMBINED_PAIRS n 12 c.loop-k.k refl (omega arith)),
      c.loop-k.invariant.few,
    )
