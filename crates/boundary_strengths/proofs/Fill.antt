-- Places that are filled one after the other.
use Rattle.std.proofs.Common.{◌≡◌, ◌≢◌, ℕ, ◌+◌, ◌<◌, List, length, get_or, inl, inr, arith, ap, sym, ◌∙◌}
use Rattle.std.specs.Prelude.{slice_set}
use Rattle.std.proofs.lemmas.Bool.{cases_lt}
use Rattle.std.proofs.lemmas.Grind.{get_or-set_at}
use Rattle.std.proofs.lemmas.List.{get_or-set_other}

pub filled_more : {A : Type 0} (xs : List A) (k : ℕ) (v : A) (f : ℕ → A) → k < length xs
    → ((q : ℕ) (d : A) → q < k → get_or xs q d ≡ f q) → v ≡ f k
    → (q : ℕ) (d : A) → q < k + 1 → get_or (slice_set xs k v) q d ≡ f q
filled_more xs k v f lt told e q d h = elim (cases_lt q k) [
  | inl below ↦ let other : q ≢ k = omega arith in get_or-set_other xs k q v d other ∙ told q d below
  | inr above ↦ let same : q ≡ k = omega arith in get_or-set_at xs k q v d same lt ∙ (e ∙ ap f (sym same))
]

-- one more behind so many that begin at a place
pub row_more : {A : Type 0} (xs : List A) (first k : ℕ) (v : A) (f : ℕ → A) → first + k < length xs
    → ((q : ℕ) (d : A) → q < k → get_or xs (first + q) d ≡ f q) → v ≡ f k
    → (q : ℕ) (d : A) → q < k + 1 → get_or (slice_set xs (first + k) v) (first + q) d ≡ f q
row_more xs first k v f lt told e q d h = elim (cases_lt q k) [
  | inl below ↦
      let other : first + q ≢ first + k = omega arith in
      get_or-set_other xs (first + k) (first + q) v d other ∙ told q d below
  | inr above ↦
      let same : q ≡ k = omega arith in
      let at : first + q ≡ first + k = omega arith in
      get_or-set_at xs (first + k) (first + q) v d at lt ∙ (e ∙ ap f (sym same))
]

-- those before a place that is filled
pub stays_before : {A : Type 0} (xs old : List A) (first k : ℕ) (v : A)
    → ((q : ℕ) (d : A) → q < first → get_or xs q d ≡ get_or old q d)
    → (q : ℕ) (d : A) → q < first → get_or (slice_set xs (first + k) v) q d ≡ get_or old q d
stays_before xs old first k v told q d h =
    let other : q ≢ first + k = omega (arith, h) in
    get_or-set_other xs (first + k) q v d other ∙ told q d h
