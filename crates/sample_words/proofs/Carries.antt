-- What a row carries on is taken out of its words as it was put in.
use Rattle.std.proofs.Common.{◌≡◌, refl, ℕ, zero, suc, ◌+◌, ◌-◌, ◌<◌, List, [], ◌∷◌, inl, inr, arith, ap}
use Rattle.std.proofs.Common.{◌∙◌}
use Rattle.std.proofs.Common.{slice_index}
use Rattle.std.proofs.lemmas.Bool.{cases_lt, lt-ltb, le-ltb, eq-eqb}
use Rattle.sample_words.specs.declared.carry.Carry.{Carry}
use Rattle.sample_words.specs.Carried.{carried_word}

abbrev pub carry_in : List ℕ → List ℕ → Carry
carry_in words contexts = record {
  state = slice_index words 0 ∷ slice_index words 1 ∷ slice_index words 2 ∷ [];
  contexts = contexts;
  last = slice_index words 23;
}

pub carried_found : (words contexts : List ℕ) → ((k : ℕ) → k < 20 → slice_index contexts k ≡ slice_index words (3 + k))
    → (k : ℕ) → k < 24 → carried_word (carry_in words contexts) k ≡ slice_index words k
carried_found words contexts told zero lt = refl
carried_found words contexts told (suc zero) lt = refl
carried_found words contexts told (suc (suc zero)) lt = refl
carried_found words contexts told (suc (suc (suc n))) lt =
    let k : ℕ = suc (suc (suc n)) in
    let t = le-ltb k 3 (omega arith) in
    elim (cases_lt n 20) [
      | inl inside ↦
          let u = lt-ltb k 23 (omega arith) in
          let e : k - 3 ≡ n = omega arith in
          let f : 3 + n ≡ k = omega arith in
          rw (t, u) (ap (slice_index contexts) e ∙ told n inside ∙ ap (slice_index words) f)
      | inr behind ↦
          let u = le-ltb k 23 (omega arith) in
          let f : 23 ≡ k = omega arith in
          let e = eq-eqb k 23 (omega arith) in
          rw (t, u, e) (ap (slice_index words) f)
    ]
