-- The ranges of the scaling lists that are read.
use Rattle.std.proofs.Common.{◌≡◌, ℕ, zero, suc, ◌+◌, ◌-◌, ◌*◌, ◌%◌, ◌<◌, ◌≤◌, ℤ, pos, negsuc, ◌+ℤ◌, Bool, true}
use Rattle.std.proofs.Common.{false}
use Rattle.std.proofs.Common.{cond, ◌&&◌, List, [], ◌∷◌, ◌++◌, length, replicate, take, drop, slice_index_or, All, Ok}
use Rattle.std.proofs.Common.{refl, ap, ◌∙◌, append_assoc, length-append, arith}
use Rattle.std.specs.Prelude.{nat_lt, nat_le, ◌==◌, unsigned_abs}
use Rattle.std.specs.List.{list_all}
use Rattle.std.proofs.Math.Nat.{pos_of_ne-zero}
use Rattle.std.proofs.lemmas.Int.{ints}
use Rattle.std.proofs.lemmas.Bool.{ltb-true, leb-true, eqb-false, and_parts}
use Rattle.std.proofs.lemmas.List.{take_at, drop_at}
use Rattle.std.proofs.lemmas.List.Elements.{All-cons, All-nil, All-push, All-replicate, All-append, All-weaker}
use Rattle.std.proofs.lemmas.List.Sums.{AllPass-from_list_all}
use Rattle.hv_base.specs.declared.field_rules.FieldRules.{FieldRules}
use Rattle.spec_reference_pictures.specs.HeaderTypes.{ScalingList}
use Rattle.spec_reference_pictures.specs.HeaderTypes.{ScalingLists}
use Rattle.spec_reference_pictures.specs.HeaderTypes.{IsFactor, IsScalingList, IsScalingLists}
use Rattle.spec_reference_pictures.specs.SpecFormats.{when◌then◌else◌}
use Rattle.spec_reference_pictures.specs.SpecFormats.{◌>>=◌, give, is_within, se_within, read}
use Rattle.spec_reference_pictures.proofs.SpecFormatsLemmas.{CanBe, can_be}
use Rattle.spec_parameter_sets.specs.declared.tables.TheConstants.{DEFAULT_INTRA, DEFAULT_INTER}
use Rattle.spec_parameter_sets.specs.Scaling.{list_count, coef_num, default_factors, default_list, predicted_list}
use Rattle.spec_parameter_sets.specs.Scaling.{next_coef, coded_factor, coded_factors, coded_dc, coded_list}
use Rattle.spec_parameter_sets.specs.Scaling.{scaling_list, lists_behind, lists_of, scaling_list_data}

-- factors

next_in_range : (n : ℕ) → nat_lt 0 (n % 256) ≡ true → IsFactor (n % 256)
next_in_range n above = record { least = ltb-true _ _ above; greatest = omega arith }

factor_in_range : (next factor : ℕ) → CanBe (coded_factor next) factor → IsFactor factor
unfolding coded_factor next_coef
factor_in_range next factor (delta, is_delta, (fact, above, e)) =
    rw (← e) (next_in_range (unsigned_abs (pos next +ℤ delta +ℤ pos 256)) above)

record AreFactors (n : ℕ) (fs : List ℕ) : Type 0 where
  pub count : length fs ≡ n
  pub each : All IsFactor fs

factors_in_range : (n next : ℕ) (fs : List ℕ) → CanBe (coded_factors n next) fs → AreFactors n fs
unfolding coded_factors
factors_in_range zero next fs e = rw (← e) (record { count = refl; each = All-nil IsFactor })
factors_in_range (suc n) next fs (first, one, (others, rest, e)) =
    let are = factors_in_range n first others rest in
    rw (← e) (record {
      count = ap suc are.count;
      each = All-cons IsFactor first others (factor_in_range next first one) are.each;
    })

-- the DC factor

dc_is_factor : (z : ℤ) → is_within 7 247 z ≡ true → IsFactor (unsigned_abs (z +ℤ pos 8))
dc_is_factor (pos n) h = let le : n ≤ 247 = leb-true _ _ h in record { least = omega arith; greatest = omega arith }
dc_is_factor (negsuc n) h =
    let lt : n < 7 = ltb-true _ _ h in record { least = omega (arith, ints); greatest = omega (arith, ints) }

is_sixteen : IsFactor 16
is_sixteen = record { least = omega arith; greatest = omega arith }

dc_either : (coded : Bool) (dc : ℕ)
    → CanBe (when coded then (se_within 7 247 >>= λ minus8. give (unsigned_abs (minus8 +ℤ pos 8))) else give 16) dc
    → IsFactor dc
dc_either false dc e = rw (← e) is_sixteen
dc_either true dc (minus8, within, e) = rw (← e) (dc_is_factor minus8 within)

dc_in_range : (size dc : ℕ) → CanBe (coded_dc size) dc → IsFactor dc
unfolding coded_dc
dc_in_range size dc is = dc_either (nat_lt 1 size) dc is

-- default lists

abbrev is_factor : ℕ → Bool
is_factor f = nat_le 1 f && nat_le f 255

passed : (f : ℕ) → is_factor f ≡ true → IsFactor f
passed f h =
    let p = and_parts (nat_le 1 f) (nat_le f 255) h in record { least = leb-true _ _ p.0; greatest = leb-true _ _ p.1 }

intra_passes : list_all is_factor DEFAULT_INTRA ≡ true
intra_passes = refl

inter_passes : list_all is_factor DEFAULT_INTER ≡ true
inter_passes = refl

tested_factors : (fs : List ℕ) → list_all is_factor fs ≡ true → All IsFactor fs
tested_factors fs h = All-weaker (λ f. is_factor f ≡ true) IsFactor passed fs (AllPass-from_list_all is_factor fs h)

chosen_in_range : (least intra : Bool)
    → AreFactors (cond least 16 64) (cond least (replicate 16 16) (cond intra DEFAULT_INTRA DEFAULT_INTER))
chosen_in_range true intra = record { count = refl; each = All-replicate IsFactor 16 16 is_sixteen }
chosen_in_range false true = record { count = refl; each = tested_factors DEFAULT_INTRA intra_passes }
chosen_in_range false false = record { count = refl; each = tested_factors DEFAULT_INTER inter_passes }

default_in_range : (size matrix : ℕ) → IsScalingList (coef_num size) (default_list size matrix)
unfolding default_list default_factors
default_in_range size matrix =
    let chosen = chosen_in_range (size == 0) (nat_lt (2 * matrix) (list_count size)) in
    record { count = chosen.count; factors = chosen.each; dc = is_sixteen }

-- lists

copied_in_range : (size delta : ℕ) (former : List ScalingList) → delta ≤ length former
    → All (IsScalingList (coef_num size)) former → (default : Bool) → (delta == 0) ≡ default
    → IsScalingList (coef_num size)
    (cond default (default_list size (length former))
    (slice_index_or former (length former - delta) (default_list size (length former))))
copied_in_range size delta former le all true e = default_in_range size (length former)
copied_in_range size delta former le all false e =
    let some : 0 < delta = pos_of_ne-zero (eqb-false _ _ e) in
    all (length former - delta) (default_list size (length former)) (omega arith)

coded_in_range : (size : ℕ) (list : ScalingList) → CanBe (coded_list size) list → IsScalingList (coef_num size) list
unfolding coded_list
coded_in_range size list (dc, is_dc, (factors, is, e)) =
    let are = factors_in_range (coef_num size) _ factors is in
    rw (← e) (record { count = are.count; factors = are.each; dc = dc_in_range size dc is_dc })

either_in_range : (size : ℕ) (former : List ScalingList) (coded : Bool) (list : ScalingList)
    → All (IsScalingList (coef_num size)) former
    → CanBe (when coded then coded_list size else predicted_list size former) list → IsScalingList (coef_num size) list
unfolding predicted_list
either_in_range size former true list all is = coded_in_range size list is
either_in_range size former false list all (delta, inside, e) =
    rw (← e) (copied_in_range size delta former inside all (delta == 0) refl)

record AreLists (n m : ℕ) (ls : List ScalingList) : Type 0 where
  pub count : length ls ≡ m
  pub each : All (IsScalingList n) ls

lists_in_range : (size n : ℕ) (former lists : List ScalingList) → All (IsScalingList (coef_num size)) former
    → CanBe (lists_behind size n former) lists → AreLists (coef_num size) (length former + n) lists
unfolding lists_behind scaling_list
lists_in_range size zero former lists all e = rw (← e) (record { count = omega arith; each = all })
lists_in_range size (suc n) former lists all (list, (coded, is_coded, is), rest) =
    let more =
    lists_in_range size n (former ++ list ∷ []) lists
    (All-push (IsScalingList (coef_num size)) former list all (either_in_range size former coded list all is)) rest in
    record { count = more.count ∙ omega (arith, length-append former (list ∷ [])); each = more.each }

of_size_in_range : (size : ℕ) (lists : List ScalingList) → CanBe (lists_of size) lists
    → AreLists (coef_num size) (list_count size) lists
unfolding lists_of
of_size_in_range size lists is =
    let are = lists_in_range size (list_count size) [] lists (All-nil (IsScalingList (coef_num size))) is in
    record { count = omega (arith, are.count); each = are.each }

four_in_range : (a b c d : List ScalingList) → AreLists 16 6 a → AreLists 64 6 b → AreLists 64 6 c → AreLists 64 2 d
    → IsScalingLists (record { lists = a ++ b ++ c ++ d })
four_in_range a b c d of_4x4 of_8x8 of_16x16 of_32x32 =
    let Q = IsScalingList 64 in
    let others : All Q (b ++ (c ++ d)) =
    All-append Q b (c ++ d) of_8x8.each (All-append Q c d of_16x16.each of_32x32.each) in
    let regrouped : a ++ b ++ c ++ d ≡ a ++ (b ++ (c ++ d)) = append_assoc (a ++ b) c d ∙ append_assoc a b (c ++ d) in
    let count : length (a ++ (b ++ (c ++ d))) ≡ 20 =
    omega (
      arith,
      length-append a (b ++ (c ++ d)),
      length-append b (c ++ d),
      length-append c d,
      of_4x4.count,
      of_8x8.count,
      of_16x16.count,
      of_32x32.count,
    ) in
    let first : All (IsScalingList 16) (take 6 (a ++ (b ++ (c ++ d)))) =
    rw (take_at a (b ++ (c ++ d)) 6 of_4x4.count) of_4x4.each in
    let rest : All Q (drop 6 (a ++ (b ++ (c ++ d)))) = rw (drop_at a (b ++ (c ++ d)) 6 of_4x4.count) others in
    record { count = rw regrouped count; least_size = rw regrouped first; others = rw regrouped rest }

pub data_can_be : (s : ScalingLists) → CanBe scaling_list_data s → IsScalingLists s
unfolding scaling_list_data
data_can_be s (a, is_a, (b, is_b, (c, is_c, (d, is_d, e)))) =
    rw (← e) (four_in_range a b c d (of_size_in_range 0 a is_a) (of_size_in_range 1 b is_b) (of_size_in_range 2 c is_c)
    (of_size_in_range 3 d is_d))

pub data_in_range : (rules : FieldRules) (bs left : List Bool) (s : ScalingLists)
    → read rules scaling_list_data bs ≡ Ok (s, left) → IsScalingLists s
data_in_range rules bs left s e = data_can_be s (can_be rules scaling_list_data bs left s e)
