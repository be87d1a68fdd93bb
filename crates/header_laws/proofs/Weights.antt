-- The ranges of weights of prediction that are read.
use Rattle.std.proofs.Common.{◌≡◌, ◌∙◌, ℕ, ◌≤◌, ℤ, pos, negsuc, ◌+ℤ◌, ◌≤ℤ◌}
use Rattle.std.specs.Prelude.{Bool}
use Rattle.std.proofs.Common.{true, false, ◌&&◌, List, length, slice_index_or}
use Rattle.std.proofs.Common.{All, arith}
use Rattle.std.specs.Prelude.{int_le}
use Rattle.std.specs.List.{range_with_len}
use Rattle.std.proofs.lemmas.Int.{ints}
use Rattle.std.proofs.lemmas.Bool.{and_parts, leb-true}
use Rattle.std.proofs.lemmas.List.FromFn.{length-range_with_len}
use Rattle.slice_types.specs.declared.weights.ChromaWeight.{ChromaWeight}
use Rattle.slice_types.specs.declared.weights.LumaWeight.{LumaWeight}
use Rattle.slice_types.specs.declared.weights.PredWeightTable.{PredWeightTable}
use Rattle.slice_types.specs.declared.weights.RefWeights.{RefWeights}
use Rattle.header_types.specs.PictureParameterSet.{IsWithin}
use Rattle.slice_types.specs.SliceHeaders.{IsChromaWeight, IsLumaWeight}
use Rattle.slice_types.specs.SliceHeaders.{IsPredWeightTable, IsRefWeights}
use Rattle.spec_formats.proofs.Values.{CanBe}
use Rattle.spec_slice_headers.specs.Weights.{chroma_weight, chroma_weights, entry_weights, list_weights, luma_weight}
use Rattle.spec_slice_headers.specs.Weights.{pred_weight_table, weights_at}
use Rattle.header_laws.proofs.Values.{each_is, optional_is}
use Rattle.header_laws.proofs.Values.{within}

luma_is : (w : LumaWeight) → CanBe luma_weight w → IsLumaWeight w
unfolding luma_weight
luma_is w (weight, weight-is, (offset, offset-is, e)) =
    rw (← e) (record { weight = within 128 127 weight weight-is; offset = within 128 127 offset offset-is })

chroma_is : (w : ChromaWeight) → CanBe chroma_weight w → IsChromaWeight w
unfolding chroma_weight
chroma_is w (weight, weight-is, (offset, offset-is, e)) =
    rw (← e) (record { weight = within 128 127 weight weight-is; offset = within 512 511 offset offset-is })

both_are : (w : ChromaWeight × ChromaWeight) → CanBe chroma_weights w → IsChromaWeight w.0 × IsChromaWeight w.1
unfolding chroma_weights
both_are w (cb, cb-is, (cr, cr-is, e)) = rw (← e) (chroma_is cb cb-is, chroma_is cr cr-is)

entry_is : (luma chroma : Bool) (r : RefWeights) → CanBe (entry_weights luma chroma) r → IsRefWeights r
unfolding entry_weights
entry_is luma chroma r (l, l-is, (c, c-is, e)) = rw (← e) (record {
  luma = optional_is IsLumaWeight luma luma_weight l luma_is l-is;
  cb = optional_is (λ w. IsChromaWeight w.0) chroma chroma_weights c (λ w is. (both_are w is).0) c-is;
  cr = optional_is (λ w. IsChromaWeight w.1) chroma chroma_weights c (λ w is. (both_are w is).1) c-is;
})

list_is : (active : ℕ) (rs : List RefWeights) → CanBe (list_weights active) rs
    → (length rs ≡ active) × All IsRefWeights rs
unfolding list_weights
list_is active rs (luma, luma-is, (chroma, chroma-is, is)) =
    let are =
    each_is IsRefWeights (weights_at luma chroma) (range_with_len 0 active) rs
    (λ i r. entry_is (slice_index_or luma i false) (slice_index_or chroma i false) r) is in
    (are.0 ∙ length-range_with_len 0 active, are.1)

least_is : (z : ℤ) → int_le (pos 0) z ≡ true → pos 0 ≤ℤ z
least_is (pos n) h = omega (arith, ints)
least_is (negsuc n) h = absurd cc

between : (low high : ℕ) (z : ℤ) → (int_le (pos low) z && int_le z (pos high)) ≡ true → (pos low ≤ℤ z) × (z ≤ℤ pos high)
between low high (pos n) h =
    let p = and_parts (int_le (pos low) (pos n)) (int_le (pos n) (pos high)) h in
    let le : low ≤ n = leb-true _ _ p.0 in
    let ge : n ≤ high = leb-true _ _ p.1 in
    (omega (arith, ints), omega (arith, ints))
between low high (negsuc n) h = absurd cc

denominators : (z : ℤ) → (int_le (pos 0) z && int_le z (pos 7)) ≡ true → IsWithin 0 7 z
denominators z h = let b = between 0 7 z h in record { least = b.0; greatest = b.1 }

pub table_is : (of_l0 of_l1 : ℕ) (t : PredWeightTable) → CanBe (pred_weight_table of_l0 of_l1) t
    → IsPredWeightTable of_l0 of_l1 t
unfolding pred_weight_table
table_is of_l0 of_l1 t (luma, luma-is, (chroma, chroma-is, (fact, in_range, (l0, l0-is, (l1, l1-is, e))))) =
    let first = list_is of_l0 l0 l0-is in
    let second = list_is of_l1 l1 l1-is in
    rw (← e) (record {
      luma_denom = luma-is;
      chroma_denom = denominators (pos luma +ℤ chroma) in_range;
      count_0 = first.0;
      count_1 = second.0;
      l0 = first.1;
      l1 = second.1;
    })
