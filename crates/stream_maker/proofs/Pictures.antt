-- Pictures one after the other.
use Rattle.std.proofs.Common.{◌≡◌, ℕ, zero, suc, ◌+◌, ◌-◌, ◌≤◌, List, ◌++◌, refl, sym, ap, ◌∙◌, arith}
use Rattle.std.proofs.Common.{append_assoc, append-nil}
use Rattle.spec_made.specs.Stream.{Making, set_units, start_of}
use Rattle.spec_made.specs.Flat.{Turned, picture_by, pictures_by, made_by}

module _ (t : Turned) where
  -- what stands behind so many pictures from one on
  abbrev pub behind : ℕ → ℕ → Making → Making
  behind j zero m = m
  behind j (suc n) m = behind (j + 1) n (picture_by t j m).1

  one_more : (j n : ℕ) (m : Making)
      → pictures_by t j (suc n) m ≡ pictures_by t j n m ++ (picture_by t (j + n) (behind j n m)).0
  unfolding pictures_by
  one_more j zero m =
      let z : j ≡ j + 0 = omega arith in
      append-nil (picture_by t j m).0 ∙ ap (λ k. (picture_by t k m).0) z
  one_more j (suc n) m =
      let z : (j + 1) + n ≡ j + suc n = omega arith in
      let next : Making = (picture_by t j m).1 in
      ap (λ l. (picture_by t j m).0 ++ l) (one_more (j + 1) n next)
      ∙ sym (append_assoc (picture_by t j m).0 (pictures_by t (j + 1) n next)
      (picture_by t ((j + 1) + n) (behind (j + 1) n next)).0)
      ∙ ap (λ k. ((picture_by t j m).0 ++ pictures_by t (j + 1) n next)
      ++ (picture_by t k (behind (j + 1) n next)).0) z

  behind_more : (j n : ℕ) (m : Making) → behind j (suc n) m ≡ (picture_by t (j + n) (behind j n m)).1
  behind_more j zero m =
      let z : j ≡ j + 0 = omega arith in
      ap (λ k. (picture_by t k m).1) z
  behind_more j (suc n) m =
      let z : (j + 1) + n ≡ j + suc n = omega arith in
      let next : Making = (picture_by t j m).1 in
      behind_more (j + 1) n next ∙ ap (λ k. (picture_by t k (behind (j + 1) n next)).1) z

  front : (j n k : ℕ) (m : Making) → (rest : List ℕ) × (pictures_by t j (n + k) m ≡ pictures_by t j n m ++ rest)
  unfolding pictures_by
  front j zero k m =
      let z : 0 + k ≡ k = omega arith in
      (pictures_by t j k m, ap (λ c. pictures_by t j c m) z)
  front j (suc n) k m =
      let z : suc n + k ≡ suc (n + k) = omega arith in
      let next : Making = (picture_by t j m).1 in
      let later = front (j + 1) n k next in (
        later.0,
        ap (λ c. pictures_by t j c m) z ∙ ap (λ l. (picture_by t j m).0 ++ l) later.1
            ∙ sym (append_assoc (picture_by t j m).0 (pictures_by t (j + 1) n next) later.0),
      )

  -- ---- streams

  -- a stream with no picture
  pub made_none : (seed : ℕ) → made_by t seed 0 ≡ set_units
  unfolding made_by pictures_by
  made_none seed = append-nil set_units

  -- a stream begins with its sets
  pub made_sets : (seed n : ℕ) → made_by t seed n ≡ set_units ++ pictures_by t 0 n (start_of seed)
  unfolding made_by
  made_sets seed n = refl

  -- one picture more
  pub made_more : (seed n : ℕ) (m : Making) → m ≡ behind 0 n (start_of seed)
      → made_by t seed (n + 1) ≡ made_by t seed n ++ (picture_by t n m).0
  unfolding made_by
  made_more seed n m is =
      let z : n + 1 ≡ suc n = omega arith in
      let o : 0 + n ≡ n = omega arith in
      let whole : List ℕ = set_units ++ pictures_by t 0 n (start_of seed) in
      ap (λ k. set_units ++ pictures_by t 0 k (start_of seed)) z
      ∙ ap (λ l. set_units ++ l) (one_more 0 n (start_of seed))
      ∙ sym (append_assoc set_units (pictures_by t 0 n (start_of seed))
      (picture_by t (0 + n) (behind 0 n (start_of seed))).0)
      ∙ ap (λ k. whole ++ (picture_by t k (behind 0 n (start_of seed))).0) o
      ∙ ap (λ s. whole ++ (picture_by t n s).0) (sym is)

  pub behind_next : (seed n : ℕ) (m next : Making) → m ≡ behind 0 n (start_of seed)
      → next ≡ (picture_by t n m).1 → next ≡ behind 0 (n + 1) (start_of seed)
  behind_next seed n m next is told =
      let z : suc n ≡ n + 1 = omega arith in
      let o : n ≡ 0 + n = omega arith in
      told ∙ ap (λ s. (picture_by t n s).1) is
      ∙ ap (λ k. (picture_by t k (behind 0 n (start_of seed))).1) o
      ∙ sym (behind_more 0 n (start_of seed)) ∙ ap (λ k. behind 0 k (start_of seed)) z

  -- a stream with fewer pictures is a front
  pub made_front : (seed j n : ℕ) → j ≤ n → (rest : List ℕ) × (made_by t seed n ≡ made_by t seed j ++ rest)
  unfolding made_by
  made_front seed j n within =
      let z : n ≡ j + (n - j) = omega (arith, within) in
      let later = front 0 j (n - j) (start_of seed) in (
        later.0,
        ap (λ k. set_units ++ pictures_by t 0 k (start_of seed)) z ∙ ap (λ l. set_units ++ l) later.1
            ∙ sym (append_assoc set_units (pictures_by t 0 j (start_of seed)) later.0),
      )
