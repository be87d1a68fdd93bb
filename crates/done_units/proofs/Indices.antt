-- Where the contents of a unit stand among its words, counted from the first word of their row.
use Rattle.std.proofs.Common.{◌≡◌, ℕ, ◌+◌, ◌*◌, ◌/◌, arith, ap, sym}
use Rattle.sample_words.specs.declared.sizes.FlightSizes.{FlightSizes}
use Rattle.sample_words.specs.declared.unit_content.UnitContent.TheVariants.{Samples, Vectors, Modes, Offsets}
use Rattle.sample_words.specs.declared.unit_content.UnitContent.TheVariants.{Contexts, Carried}
use Rattle.sample_words.specs.Contents.{component_side, components_before, index_of}
use Rattle.sample_words.specs.Sizes.{common_words, context_words, line_words, places, sample_words}

-- a word of a row behind the first one
in_row : (start row count words k first : ℕ) → words ≡ count → first ≡ start + row * words
    → start + (row * count + k) ≡ first + k
in_row start row count words k first many at =
    let e : row * words ≡ row * count = ap (λ (n : ℕ). row * n) many in omega (arith, e, at)

module _ (s : FlightSizes) (width height column : ℕ) where
  pub samples_index : (c line k words first : ℕ) → words ≡ line_words s (component_side c width)
      → first ≡ components_before s width height c + line * words
      → index_of s width height column (Samples c line k) ≡ first + k
  unfolding index_of
  samples_index c line k words first many at =
      in_row (components_before s width height c) line (line_words s (component_side c width)) words k first many at

  pub vectors_index : (x y words first : ℕ) → words ≡ width / 4 → first ≡ sample_words s width height + y * words
      → index_of s width height column (Vectors x y) ≡ first + x
  unfolding index_of
  vectors_index x y words first many at = in_row (sample_words s width height) y (width / 4) words x first many at

  pub modes_index : (x y words first : ℕ) → words ≡ width / 4
      → first ≡ sample_words s width height + places width height + y * words
      → index_of s width height column (Modes x y) ≡ first + x
  unfolding index_of
  modes_index x y words first many at =
      in_row (sample_words s width height + places width height) y (width / 4) words x first many at

  pub offsets_index : (k first : ℕ) → first ≡ sample_words s width height + 2 * places width height
      → index_of s width height column (Offsets k) ≡ first + k
  unfolding index_of
  offsets_index k first at = ap (λ (n : ℕ). n + k) (sym at)

  pub contexts_index : (k first : ℕ) → first ≡ common_words s width height
      → index_of s width height column (Contexts k) ≡ first + k
  unfolding index_of common_words
  contexts_index k first at = ap (λ (n : ℕ). n + k) (sym at)

  pub carried_index : (k first : ℕ) → first ≡ common_words s width height + context_words column
      → index_of s width height column (Carried k) ≡ first + k
  unfolding index_of common_words
  carried_index k first at = ap (λ (n : ℕ). n + k) (sym at)
