-- Vectors: mvd_coding and mvp_flag are what is written of a shift.
use Rattle.std.proofs.Common.{◌≡◌, ℕ, zero, suc, ◌+◌, ◌-◌, ◌*◌, ◌^◌, ◌<◌, ◌≤◌, Bool, true, false, List, [], ◌∷◌, ◌++◌}
use Rattle.std.proofs.Common.{length, replicate, refl, sym, ap, ◌∙◌, arith, append_assoc, subst, inl, inr}
use Rattle.std.specs.Prelude.{nat_lt, nat_eq, ◌==◌, ◌||◌, if◌then◌else◌, ℤ, pos}
use Rattle.std.specs.List.{list_all, range_with_len}
use Rattle.std.proofs.lemmas.Bool.{cases_eq, ltb-true, eqb-true}
use Rattle.std.proofs.lemmas.Bool.Decides.{nat_tests}
use Rattle.hv_base.specs.declared.breach.Breach.{Breach}
use Rattle.ctu_records.specs.declared.prediction.VectorSyntax.{VectorSyntax}
use Rattle.spec_bits.specs.Bits.{number_after, bit_of, digit}
use Rattle.spec_bits.specs.Spelling.{u_bits}
use Rattle.spec_bits.proofs.Digits.{length-u_bits}
use Rattle.spec_formats.specs.Format.{Give, Refuse, wanted}
use Rattle.spec_cabac.specs.Bins.{Tree, Decision, Bypass, bypass, unary, fixed_after, exp_golomb}
use Rattle.spec_cabac.proofs.TableRules.{tested}
use Rattle.spec_cabac.specs.declared.init_values.TheConstants.{ABS_MVD_GREATER0_FLAG, ABS_MVD_GREATER1_FLAG, MVP_FLAG}
use Rattle.spec_slice_data.specs.Offset.{signed}
use Rattle.spec_slice_data.specs.Inter.{is_difference, difference_size, some_difference, difference, mvd_coding}
use Rattle.spec_slice_data.specs.Inter.{abs_mvd_greater1_flag, vector_in, out_of_vectors}
use Rattle.spec_made.specs.declared.units.Shift.{Shift}
use Rattle.spec_made.specs.Written.{Bins}
use Rattle.spec_made.specs.InterRows.{size_of, log_of, bypasses, size_words, moves, where_moves, vector_words}
use Rattle.made_row_laws.specs.Units.{vector_of}
use Rattle.made_row_laws.proofs.Taking.{Takes, gives, asks, then_takes}

-- so many bins of 1 and a 0
ones_taken : (over : Tree ℕ) (n m i v : ℕ) (rest : Bins) → n < m → v ≡ i + n
    → Takes (unary over (λ k. bypass) i m) v (bypasses (replicate n true) ++ (Bypass, false) ∷ rest) rest
unfolding unary
ones_taken over n zero i v rest few is = absurd (omega arith)
ones_taken over zero (suc m) i v rest few is =
    let e : i ≡ v = omega arith in
    then_takes (asks Bypass false rest) (subst (λ (k : ℕ). Takes (Give i) k rest rest) e (gives i rest))
ones_taken over (suc n) (suc m) i v rest few is =
    then_takes (asks Bypass true (bypasses (replicate n true) ++ (Bypass, false) ∷ rest))
    (ones_taken over n m (i + 1) v rest (omega arith) (omega arith))

-- digits, the greatest first
digits_taken : (digits : List Bool) (v : ℕ) (rest : Bins)
    → Takes (fixed_after (length digits) v) (number_after v digits) (bypasses digits ++ rest) rest
unfolding fixed_after
digits_taken [] v rest = gives v rest
digits_taken (b ∷ digits) v rest =
    then_takes (asks Bypass b (bypasses digits ++ rest)) (digits_taken digits (2 * v + digit b) rest)

-- ---- the sizes of differences, each of which was computed

log_at : ℕ → ℕ
log_at d = log_of (size_of d)

-- what EG1 tells by the bins of a difference, and 2 more
told_of : ℕ → ℕ
told_of d = 2 ^ (1 + (log_at d - 1)) - 2 ^ 1 + number_after 0 (u_bits (log_at d) (size_of d)) + 2

told_all : list_all (λ d. d == 100 || nat_eq (told_of d) (size_of d)) (range_with_len 0 201) ≡ true
unfolding u_bits bit_of told_of log_at
told_all = refl

few_all : list_all (λ d. d == 100 || nat_lt (log_at d - 1) 32) (range_with_len 0 201) ≡ true
unfolding log_at
few_all = refl

some_all : list_all (λ d. d == 100 || nat_eq (1 + (log_at d - 1)) (log_at d)) (range_with_len 0 201) ≡ true
unfolding log_at
some_all = refl

inside_all : list_all (λ d. is_difference (size_of d) (nat_lt d 100)) (range_with_len 0 201) ≡ true
unfolding is_difference
inside_all = refl

but_for : (d : ℕ) (b : Bool) → (d == 100) ≡ false → (d == 100 || b) ≡ true → b ≡ true
but_for d b other e = rw other at e

record IsSize (d : ℕ) : Type 0 where
  told : told_of d ≡ size_of d
  few : nat_lt (log_at d - 1) 32 ≡ true
  some : 1 + (log_at d - 1) ≡ log_at d
  inside : is_difference (size_of d) (nat_lt d 100) ≡ true

sized : (d : ℕ) → d ≤ 200 → (d == 100) ≡ false → IsSize d
sized d small other =
    record {
      told = eqb-true _ _ (but_for d _ other
          (tested (λ d. d == 100 || nat_eq (told_of d) (size_of d)) 201 told_all d (omega arith)));
      few = but_for d _ other (tested (λ d. d == 100 || nat_lt (log_at d - 1) 32) 201 few_all d (omega arith));
      some = eqb-true _ _ (but_for d _ other
          (tested (λ d. d == 100 || nat_eq (1 + (log_at d - 1)) (log_at d)) 201 some_all d (omega arith)));
      inside = tested (λ d. is_difference (size_of d) (nat_lt d 100)) 201 inside_all d (omega arith);
    }

-- ---- a difference, and a vector

-- bins that end behind others are those behind which others stand
joined : (a b c rest : Bins) → (a ++ b ++ c) ++ rest ≡ a ++ (b ++ (c ++ rest))
joined a b c rest = append_assoc (a ++ b) c rest ∙ append_assoc a b (c ++ rest)

five_joined : (a b c d e rest : Bins)
    → (a ++ (b ++ (c ++ (d ++ e)))) ++ rest ≡ a ++ (b ++ (c ++ (d ++ (e ++ rest))))
five_joined a b c d e rest =
    append_assoc a (b ++ (c ++ (d ++ e))) rest
    ∙ ap (λ l. a ++ l) (append_assoc b (c ++ (d ++ e)) rest
    ∙ ap (λ l. b ++ l) (append_assoc c (d ++ e) rest ∙ ap (λ l. c ++ l) (append_assoc d e rest)))

digits_of_size : (d : ℕ) (rest : Bins) → 1 + (log_at d - 1) ≡ log_at d
    → Takes (fixed_after (1 + (log_at d - 1)) 0) (number_after 0 (u_bits (log_at d) (size_of d)))
    (bypasses (u_bits (log_at d) (size_of d)) ++ rest) rest
digits_of_size d rest some =
    let digits : List Bool = u_bits (log_at d) (size_of d) in
    let long : length digits ≡ 1 + (log_at d - 1) = length-u_bits (log_at d) (size_of d) ∙ sym some in
    subst (λ (n : ℕ). Takes (fixed_after n 0) (number_after 0 digits) (bypasses digits ++ rest) rest) long
    (digits_taken digits 0 rest)

golomb_taken : (d : ℕ) (rest : Bins) → IsSize d
    → Takes (exp_golomb out_of_vectors 1)
    (2 ^ (1 + (log_at d - 1)) - 2 ^ 1 + number_after 0 (u_bits (log_at d) (size_of d)))
    (bypasses (replicate (log_at d - 1) true)
    ++ (Bypass, false) ∷ (bypasses (u_bits (log_at d) (size_of d)) ++ rest)) rest
unfolding exp_golomb
golomb_taken d rest is =
    let digits : List Bool = u_bits (log_at d) (size_of d) in
    let n : ℕ = log_at d - 1 in
    let few : n < 32 = ltb-true n 32 is.few in
    then_takes (ones_taken (Refuse out_of_vectors) n 32 0 n (bypasses digits ++ rest) few (omega arith))
    (then_takes (digits_of_size d rest is.some) (gives (2 ^ (1 + n) - 2 ^ 1 + number_after 0 digits) rest))

size_taken : (d : ℕ) (rest : Bins) → IsSize d
    → Takes (difference_size true) (size_of d)
    (bypasses (replicate (log_at d - 1) true)
    ++ (Bypass, false) ∷ (bypasses (u_bits (log_at d) (size_of d)) ++ rest)) rest
unfolding difference_size told_of
size_taken d rest is =
    let found : ℕ = 2 ^ (1 + (log_at d - 1)) - 2 ^ 1 + number_after 0 (u_bits (log_at d) (size_of d)) in
    then_takes (golomb_taken d rest is)
    (subst (λ (k : ℕ). Takes (Give (found + 2)) k rest rest) is.told (gives (found + 2) rest))

wanted_taken : (fact : Bool) (e : Breach) (rest : Bins) → fact ≡ true → Takes (wanted fact e) fact rest rest
wanted_taken true e rest is = gives true rest
wanted_taken false e rest is = absurd cc

some_taken : (d : ℕ) (rest : Bins) → IsSize d
    → Takes (some_difference true) (signed (size_of d) (nat_lt d 100)) (size_words d ++ rest) rest
unfolding some_difference size_words log_at
some_taken d rest is =
    let ones : Bins = bypasses (replicate (log_of (size_of d) - 1) true) in
    let digits : Bins = bypasses (u_bits (log_of (size_of d)) (size_of d)) in
    let sign : Bins = (Bypass, nat_lt d 100) ∷ [] in
    let value : ℤ = signed (size_of d) (nat_lt d 100) in
    let format : Tree ℤ = some_difference true in
    subst (λ (l : Bins). Takes format value l rest) (sym (joined ones ((Bypass, false) ∷ digits) sign rest))
    (then_takes (size_taken d (sign ++ rest) is)
    (then_takes (asks Bypass (nat_lt d 100) rest)
    (then_takes (wanted_taken (is_difference (size_of d) (nat_lt d 100)) out_of_vectors rest is.inside)
    (gives value rest))))

-- a coordinate, which is coded where it isn't 0
coordinate_taken : (d : ℕ) (rest : Bins) → d ≤ 200
    → Takes (difference (moves d) (moves d)) (signed (size_of d) (nat_lt d 100))
    (where_moves d (size_words d) ++ rest) rest
unfolding signed
coordinate_taken d rest small =
    elim (cases_eq d 100) [
      | inl e ↦ rw e (gives (pos 0) rest)
      | inr n ↦
          let other : (d == 100) ≡ false = grind (arith, nat_tests) in
          rw other (some_taken d rest (sized d small other))
    ]

greater_taken : (b : Bool) (rest : Bins)
    → Takes (abs_mvd_greater1_flag b) b ((if b then (Decision ABS_MVD_GREATER1_FLAG, true) ∷ [] else []) ++ rest) rest
greater_taken true rest = asks (Decision ABS_MVD_GREATER1_FLAG) true rest
greater_taken false rest = gives false rest

-- a vector by the only reference of a list
pub vector_taken : (s : Shift) (rest : Bins) → s.across ≤ 200 → s.down ≤ 200
    → Takes (vector_in 1 true) (vector_of s) (vector_words s ++ rest) rest
unfolding vector_in mvd_coding vector_words unary
vector_taken s rest across down =
    let greater : Bins = (Decision ABS_MVD_GREATER1_FLAG, true) ∷ [] in
    let mvp : Bins = (Decision MVP_FLAG, false) ∷ rest in
    let x_words : Bins = where_moves s.across (size_words s.across) in
    let y_words : Bins = where_moves s.down (size_words s.down) in
    let format : Tree VectorSyntax = vector_in 1 true in
    subst (λ (l : Bins). Takes format (vector_of s)
    ((Decision ABS_MVD_GREATER0_FLAG, moves s.across) ∷ (Decision ABS_MVD_GREATER0_FLAG, moves s.down) ∷ l) rest)
    (sym (five_joined (where_moves s.across greater) (where_moves s.down greater) x_words y_words
    ((Decision MVP_FLAG, false) ∷ []) rest))
    (then_takes (gives 0 ((Decision ABS_MVD_GREATER0_FLAG, moves s.across)
    ∷ (Decision ABS_MVD_GREATER0_FLAG, moves s.down)
    ∷ (where_moves s.across greater ++ (where_moves s.down greater ++ (x_words ++ (y_words ++ mvp))))))
    (then_takes
    (then_takes (asks (Decision ABS_MVD_GREATER0_FLAG) (moves s.across) _)
    (then_takes (asks (Decision ABS_MVD_GREATER0_FLAG) (moves s.down) _)
    (then_takes (greater_taken (moves s.across) _)
    (then_takes (greater_taken (moves s.down) _)
    (then_takes (coordinate_taken s.across (y_words ++ mvp) across)
    (then_takes (coordinate_taken s.down mvp down)
    (gives (vector_of s).mvd mvp)))))))
    (then_takes (asks (Decision MVP_FLAG) false rest) (gives (vector_of s) rest))))
