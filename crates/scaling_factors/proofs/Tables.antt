-- The table of factors, block after block.
use Rattle.std.proofs.Common.{◌≡◌, ℕ, Bool, zero, suc, ◌+◌, ◌-◌, ◌*◌, ◌/◌, ◌%◌, ◌^◌, ◌<◌, ◌≤◌, List, ◌∷◌, ◌++◌, Some}
use Rattle.std.proofs.Common.{length, get_or, take, map, replicate, refl, sym, ap, ◌∙◌, append_assoc, arith}
use Rattle.std.specs.List.{range_with_len}
use Rattle.std.proofs.lemmas.Bool.Decides.{nat_tests}
use Rattle.std.proofs.lemmas.List.{take_all}
use Rattle.std.proofs.lemmas.List.FromFn.{fill_by_all}
use Rattle.std.proofs.Math.ListN.{get_or-eq_default}
use Rattle.header_types.specs.declared.scaling.ScalingList.{ScalingList}
use Rattle.header_types.specs.declared.scaling.ScalingLists.{ScalingLists}
use Rattle.spec_reconstruction.specs.declared.format.ScalingFactors.{ScalingFactors}
use Rattle.spec_reconstruction.specs.Factors.{listed_factor, scaling_factor, list_of, matrix_of, no_list}
use Rattle.spec_reconstruction.specs.Factors.{factors_in_rows, factors_of_size, scaling_factors}
use Rattle.scaling_factors.specs.Blocks.{block_of_list}

-- the blocks of all sizes
all_blocks : (one two three four a b c d : List ℕ) → length four ≡ 2032
    → take 48 one ≡ a → take 240 two ≡ take 48 one ++ b → take 1008 three ≡ take 240 two ++ c
    → take 2032 four ≡ take 1008 three ++ d
    → four ≡ a ++ (b ++ (c ++ d))
all_blocks one two three four a b c d count p q r s =
    sym (take_all 2032 four (omega (arith, count)))
    ∙ s
    ∙ ap (λ (xs : List ℕ). xs ++ d) (r ∙ ap (λ (xs : List ℕ). xs ++ c) (q ∙ ap (λ (xs : List ℕ). xs ++ b) p))
    ∙ append_assoc (a ++ b) c d
    ∙ append_assoc a b (c ++ d)

-- the table of all blocks
pub table_filled : (lists : ScalingLists) (intra : Bool) (one two three : List ℕ) (table : ScalingFactors)
    → length table.by_place ≡ 2032
    → take 48 one ≡ factors_of_size (Some lists) intra 2
    → take 240 two ≡ take 48 one ++ factors_of_size (Some lists) intra 3
    → take 1008 three ≡ take 240 two ++ factors_of_size (Some lists) intra 4
    → take 2032 table.by_place ≡ take 1008 three ++ factors_in_rows (Some lists) intra 5 0
    → table ≡ scaling_factors (Some lists) intra
unfolding scaling_factors
table_filled lists intra one two three table count p q r s =
    let of_places : List ℕ → ScalingFactors = λ places. record { by_place = places } in
    ap of_places
    (all_blocks one two three table.by_place (factors_of_size (Some lists) intra 2)
    (factors_of_size (Some lists) intra 3) (factors_of_size (Some lists) intra 4)
    (factors_in_rows (Some lists) intra 5 0) count p q r s)

-- the factors by a list
pub block_filled : (list : ScalingList) (log2 : ℕ) (block : List ℕ) → length block ≡ 2 ^ log2 * 2 ^ log2
    → ((k : ℕ) → k < 2 ^ log2 * 2 ^ log2 → get_or block k 0 ≡ listed_factor list log2 (k % 2 ^ log2) (k / 2 ^ log2))
    → block ≡ block_of_list list log2
block_filled list log2 block count told =
    fill_by_all (λ k. listed_factor list log2 (k % 2 ^ log2) (k / 2 ^ log2)) block (2 ^ log2 * 2 ^ log2) 0 count told

-- without a list
unlisted : (log2 x y : ℕ) → listed_factor no_list log2 x y ≡ 16
unfolding listed_factor
unlisted log2 x y = grind (arith, nat_tests)

flat_rows : (log2 a n : ℕ)
    → replicate n 16 ≡ map (λ k. listed_factor no_list log2 (k % 2 ^ log2) (k / 2 ^ log2)) (range_with_len a n)
flat_rows log2 a zero = refl
flat_rows log2 a (suc n) =
    ap (λ (xs : List ℕ). 16 ∷ xs) (flat_rows log2 (a + 1) n)
    ∙ ap (λ (x : ℕ). x ∷ map (λ k. listed_factor no_list log2 (k % 2 ^ log2) (k / 2 ^ log2)) (range_with_len (a + 1) n))
    (sym (unlisted log2 (a % 2 ^ log2) (a / 2 ^ log2)))

-- the block of a list that the lists have, or not
pub listed_rows : (lists : ScalingLists) (intra : Bool) (log2 c : ℕ) (list : ScalingList)
    → list_of lists intra log2 c ≡ list → block_of_list list log2 ≡ factors_in_rows (Some lists) intra log2 c
unfolding scaling_factor
listed_rows lists intra log2 c list e = ap (λ (l : ScalingList). block_of_list l log2) (sym e)

pub unlisted_rows : (lists : ScalingLists) (intra : Bool) (log2 c n : ℕ) → list_of lists intra log2 c ≡ no_list
    → n ≡ 2 ^ log2 * 2 ^ log2 → replicate n 16 ≡ factors_in_rows (Some lists) intra log2 c
unlisted_rows lists intra log2 c n e count =
    ap (λ (k : ℕ). replicate k 16) count ∙ flat_rows log2 0 (2 ^ log2 * 2 ^ log2)
    ∙ listed_rows lists intra log2 c no_list e

-- a place past the lists
pub past_lists : (lists : ScalingLists) (intra : Bool) (log2 c matrix : ℕ) (items : List ScalingList)
    → items ≡ lists.lists → matrix ≡ matrix_of intra log2 c → length items ≤ 6 * (log2 - 2) + matrix
    → list_of lists intra log2 c ≡ no_list
past_lists lists intra log2 c matrix items e is past = get_or-eq_default lists.lists no_list (rw (← e, ← is) past)
