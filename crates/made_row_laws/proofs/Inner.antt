-- What is written of a unit is bins that others may follow.
use Rattle.std.proofs.Common.{◌≡◌, ℕ, zero, suc, ◌+◌, ◌-◌, ◌*◌, ◌<◌, Bool, true, false, List, [], ◌∷◌, ◌++◌}
use Rattle.std.proofs.Common.{length, replicate, get_or, refl, arith, Option, Some, None}
use Rattle.std.proofs.Common.{length-append}
use Rattle.std.specs.Prelude.{nat_lt, ◌==◌, All, pos, if◌then◌else◌}
use Rattle.std.specs.List.{list_all}
use Rattle.std.proofs.lemmas.List.Elements.{All-head, All-tail}
use Rattle.std.proofs.lemmas.List.Sums.{AllPass-from_list_all}
use Rattle.std.proofs.lemmas.List.{get_or_past}
use Rattle.std.proofs.lemmas.Bool.{cases_lt, ltb-true}
use Rattle.std.proofs.Common.{inl, inr}
use Rattle.spec_bits.specs.Spelling.{u_bits}
use Rattle.spec_bits.proofs.Digits.{length-u_bits}
use Rattle.spec_cabac.specs.Bins.{Decision, Bypass, Terminate}
use Rattle.spec_cabac.specs.declared.init_values.TheConstants.{ABS_MVD_GREATER1_FLAG, MVP_FLAG, RQT_ROOT_CBF}
use Rattle.spec_cabac.specs.Contexts.{first_contexts, first_context, pre_context_state}
use Rattle.cabac_writer.specs.Coding.{AreInner, AreContexts}
use Rattle.cabac_writer.specs.Pulses.{AreSamples, sample_bits}
use Rattle.spec_made.specs.declared.units.InterUnit.{InterUnit}
use Rattle.spec_made.specs.declared.units.Motion.{Motion}
use Rattle.spec_made.specs.declared.units.Shift.{Shift}
use Rattle.spec_made.specs.Draws.{no_unit}
use Rattle.spec_made.specs.Written.{Bins}
use Rattle.spec_made.specs.InterRows.{is_skipped, size_of, log_of, bypasses, size_words, moves}
use Rattle.spec_made.specs.InterRows.{vector_words, list_words, second_words, coded_words, part_words, quarter_words}
use Rattle.spec_made.specs.InterRows.{unit_words, beside, later_motion, left_of, above_of, end_words, words_at}
use Rattle.spec_made.specs.InterRows.{words_from}
use Rattle.made_row_laws.specs.Words.{pulses_of}

pub inner-append : (a b : Bins) → AreInner a → AreInner b → AreInner (a ++ b)
inner-append [] b p q = q
inner-append (w ∷ a) b p q = (p.0, inner-append a b p.1 q)

inner_if : (c : Bool) (a b : Bins) → AreInner a → AreInner b → AreInner (if c then a else b)
inner_if true a b p q = p
inner_if false a b p q = q

inner_bypasses : (bins : List Bool) → AreInner (bypasses bins)
inner_bypasses [] = tt
inner_bypasses (b ∷ bins) = (tt, inner_bypasses bins)

inner_decision : (i : ℕ) (b : Bool) (later : Bins) → AreInner later → AreInner ((Decision i, b) ∷ later)
inner_decision i b later p = (tt, p)

inner_bypass : (b : Bool) (later : Bins) → AreInner later → AreInner ((Bypass, b) ∷ later)
inner_bypass b later p = (tt, p)

inner_none : AreInner []
inner_none = tt

inner_size : (d : ℕ) → AreInner (size_words d)
unfolding size_words
inner_size d =
    inner-append _ _
    (inner-append _ _ (inner_bypasses (replicate (log_of (size_of d) - 1) true))
    (inner_bypass false _ (inner_bypasses (u_bits (log_of (size_of d)) (size_of d)))))
    (inner_bypass (nat_lt d 100) [] inner_none)

inner_vector : (s : Shift) → AreInner (vector_words s)
unfolding vector_words
inner_vector s = (
  tt,
  (
    tt,
    inner-append _ _ (inner_if (moves s.across) _ [] (inner_decision ABS_MVD_GREATER1_FLAG true [] tt) tt)
        (inner-append _ _ (inner_if (moves s.down) _ [] (inner_decision ABS_MVD_GREATER1_FLAG true [] tt) tt)
        (inner-append _ _ (inner_if (moves s.across) (size_words s.across) [] (inner_size s.across) tt)
        (inner-append _ _ (inner_if (moves s.down) (size_words s.down) [] (inner_size s.down) tt)
        (inner_decision MVP_FLAG false [] tt)))),
  ),
)

inner_lists : (depth : ℕ) (second : Option Shift) → AreInner (list_words depth second)
inner_lists depth None = tt
inner_lists depth (Some s) = (tt, tt)

inner_second : (second : Option Shift) → AreInner (second_words second)
inner_second None = tt
inner_second (Some s) = inner_vector s

inner_coded : (depth : ℕ) (m : Motion) → AreInner (coded_words depth m)
unfolding coded_words
inner_coded depth m = (
  tt,
  (
    tt,
    (
      tt,
      inner-append _ _ (inner_lists depth m.second)
          (inner-append _ _ (inner_vector m.first) (inner-append _ _ (inner_second m.second)
          (inner_decision RQT_ROOT_CBF false [] tt))),
    ),
  ),
)

inner_part : (depth near : ℕ) (skipped : Bool) (m : Motion) → AreInner (part_words depth near skipped m)
unfolding part_words
inner_part depth near true m = (tt, tt)
inner_part depth near false m = (tt, inner_coded depth m)

inner_unit : (first later : Motion) (l a u : InterUnit) → AreInner (unit_words first later l a u)
unfolding unit_words
inner_unit first later l a u = (
  tt,
  inner_if u.split (quarter_words first later l a u)
      (part_words 0 (beside (is_skipped l 1) (is_skipped a 2)) (is_skipped u 0) first)
      (inner-append _ _ (inner_part 1 _ (is_skipped u 0) first)
      (inner-append _ _ (inner_part 1 _ (is_skipped u 1) later)
      (inner-append _ _ (inner_part 1 _ (is_skipped u 2) later) (inner_part 1 _ (is_skipped u 3) later))))
      (inner_part 0 _ (is_skipped u 0) first),
)

pub inner_end : (i : ℕ) → AreInner (end_words i)
inner_end i = inner_if (i == 47) [] ((Terminate, false) ∷ []) tt (refl, tt)

pub inner_from : (m : Motion) (units : List InterUnit) (n i : ℕ) → AreInner (words_from m units i n)
unfolding words_from words_at
inner_from m units zero i = tt
inner_from m units (suc n) i =
    inner-append _ _
    (inner-append _ _ (inner_unit (if i == 0 then m else later_motion m) (later_motion m) (left_of units i)
    (above_of units i) (get_or units i no_unit)) (inner_end i))
    (inner_from m units n (i + 1))

-- ---- samples

pub are_samples : (values : List ℕ) → All (λ v. v < 256) values → AreSamples (pulses_of values)
are_samples [] small = tt
are_samples (v ∷ values) small =
    (All-head (λ v. v < 256) v values small, are_samples values (All-tail (λ v. v < 256) v values small))

pub whole_bytes : (values : List ℕ) → length (sample_bits (pulses_of values)) ≡ 8 * length values
whole_bytes [] = refl
whole_bytes (v ∷ values) =
    omega (
      arith,
      length-append (u_bits 8 v) (sample_bits (pulses_of values)),
      length-u_bits 8 v,
      whole_bytes values,
    )

-- ---- contexts

small_0 : list_all (λ v. nat_lt v 126) (first_contexts (pos 26) 0) ≡ true
unfolding first_contexts first_context pre_context_state
small_0 = refl

small_1 : list_all (λ v. nat_lt v 126) (first_contexts (pos 26) 1) ≡ true
unfolding first_contexts first_context pre_context_state
small_1 = refl

small_2 : list_all (λ v. nat_lt v 126) (first_contexts (pos 26) 2) ≡ true
unfolding first_contexts first_context pre_context_state
small_2 = refl

small_all : (contexts : List ℕ) → list_all (λ v. nat_lt v 126) contexts ≡ true → AreContexts contexts
small_all contexts all i =
    elim (cases_lt i (length contexts)) [
      | inl inside ↦ ltb-true _ _ (AllPass-from_list_all (λ v. nat_lt v 126) contexts all i 0 inside)
      | inr past ↦ rw (get_or_past contexts i 0 past) (omega arith)
    ]

pub first_small : (init_type : ℕ) → init_type < 3 → AreContexts (first_contexts (pos 26) init_type)
first_small zero few = small_all (first_contexts (pos 26) 0) small_0
first_small (suc zero) few = small_all (first_contexts (pos 26) 1) small_1
first_small (suc (suc zero)) few = small_all (first_contexts (pos 26) 2) small_2
first_small (suc (suc (suc n))) few = absurd (omega arith)
