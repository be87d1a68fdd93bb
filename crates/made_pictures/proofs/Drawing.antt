-- What is drawn one after the other.
use Rattle.std.proofs.Common.{◌≡◌, ℕ, suc, ◌+◌, ◌-◌, ◌<◌, ◌≤◌, List, [], ◌∷◌, ◌++◌, length, take, drop, set, map}
use Rattle.std.proofs.Common.{refl, sym, ap, ◌∙◌, arith, append_assoc, length-append}
use Rattle.std.proofs.lemmas.List.{set_split, take_at, length-take-le, take_all}
use Rattle.rand_pcg.specs.Lcg.{Lcg}
use Rattle.rand_pcg.specs.Pcg.{pcg32}
use Rattle.spec_made.specs.Draws.{Drawn, draws, low_bits, all_of}

-- ---- so many of what a function draws

-- those that are there, and those that are left
pub record Left {X : Type 0} (one : Lcg → Drawn X) (n i : ℕ) (start g : Lcg) (items : List X) : Type 0 where
  pub value : (all_of one n start).0 ≡ items ++ (all_of one (n - i) g).0
  pub behind : (all_of one n start).1 ≡ (all_of one (n - i) g).1
  pub count : length items ≡ i

pub left_all : {X : Type 0} (one : Lcg → Drawn X) (n : ℕ) (start : Lcg) → Left one n 0 start start []
left_all one n start =
    let z : n - 0 ≡ n = omega arith in record {
      value = ap (λ k. (all_of one k start).0) (sym z);
      behind = ap (λ k. (all_of one k start).1) (sym z);
      count = refl;
    }

pub left_step : {X : Type 0} (one : Lcg → Drawn X) (n i : ℕ) (start g next : Lcg) (items more : List X) (x : X) → i < n
    → x ≡ (one g).0 → next ≡ (one g).1 → more ≡ items ++ x ∷ []
    → Left one n i start g items → Left one n (i + 1) start next more
unfolding all_of
left_step one n i start g next items more x inside is is_next is_more l =
    let m : n - i ≡ suc (n - (i + 1)) = omega arith in
    let grown : more ≡ items ++ (one g).0 ∷ [] = is_more ∙ ap (λ y. items ++ y ∷ []) is in
    record {
      value =
          l.value ∙ ap (λ k. items ++ (all_of one k g).0) m
          ∙ sym (append_assoc items ((one g).0 ∷ []) (all_of one (n - (i + 1)) (one g).1).0)
          ∙ ap (λ r. r ++ (all_of one (n - (i + 1)) (one g).1).0) (sym grown)
          ∙ ap (λ h. more ++ (all_of one (n - (i + 1)) h).0) (sym is_next);
      behind =
          l.behind ∙ ap (λ k. (all_of one k g).1) m ∙ ap (λ h. (all_of one (n - (i + 1)) h).1) (sym is_next);
      count = omega (arith, ap length is_more, length-append items (x ∷ []), l.count);
    }

no_more : {X : Type 0} (items : List X) → items ++ [] ≡ items
no_more [] = refl
no_more (x ∷ items) = ap (λ l. x ∷ l) (no_more items)

pub left_none : {X : Type 0} (one : Lcg → Drawn X) (n i : ℕ) (start g : Lcg) (items : List X) → n ≤ i
    → Left one n i start g items
    → (items ≡ (all_of one n start).0) × (g ≡ (all_of one n start).1)
unfolding all_of
left_none one n i start g items past l =
    let z : n - i ≡ 0 = omega arith in (
      sym (l.value ∙ ap (λ k. items ++ (all_of one k g).0) z ∙ no_more items),
      sym (l.behind ∙ ap (λ k. (all_of one k g).1) z),
    )

-- ---- samples in an array

pub record Sampled (i : ℕ) (start g : Lcg) (samples : List ℕ) : Type 0 where
  pub value : map low_bits (draws 384 start).0 ≡ take i samples ++ map low_bits (draws (384 - i) g).0
  pub behind : (draws 384 start).1 ≡ (draws (384 - i) g).1
  pub count : length samples ≡ 384

pub sampled_all : (start : Lcg) (samples : List ℕ) → length samples ≡ 384 → Sampled 0 start start samples
sampled_all start samples count = record { value = refl; behind = refl; count = count }

set_taken : (xs : List ℕ) (i v : ℕ) → i < length xs → take (i + 1) (set xs i v) ≡ take i xs ++ v ∷ []
set_taken xs i v inside =
    let front : List ℕ = take i xs ++ v ∷ [] in
    let long : length front ≡ i + 1 =
    omega (arith, length-append (take i xs) (v ∷ []), length-take-le i xs (omega arith)) in
    ap (take (i + 1)) (set_split xs i v inside ∙ sym (append_assoc (take i xs) (v ∷ []) (drop (suc i) xs)))
    ∙ take_at front (drop (suc i) xs) (i + 1) long

pub sampled_step : (i : ℕ) (start g next : Lcg) (samples : List ℕ) (v word : ℕ) → i < 384
    → word ≡ (pcg32 g).0 → next ≡ (pcg32 g).1 → v ≡ low_bits word → length (set samples i v) ≡ 384
    → Sampled i start g samples → Sampled (i + 1) start next (set samples i v)
unfolding draws
sampled_step i start g next samples v word inside is is_next is_v count s =
    let m : 384 - i ≡ suc (384 - (i + 1)) = omega arith in
    let rest : List ℕ = map low_bits (draws (384 - (i + 1)) (pcg32 g).1).0 in
    let same : v ≡ low_bits (pcg32 g).0 = is_v ∙ ap low_bits is in
    record {
      value =
          s.value ∙ ap (λ k. take i samples ++ map low_bits (draws k g).0) m
          ∙ ap (λ y. take i samples ++ y ∷ rest) (sym same)
          ∙ sym (append_assoc (take i samples) (v ∷ []) rest)
          ∙ ap (λ l. l ++ rest) (sym (set_taken samples i v (omega (arith, s.count))))
          ∙ ap (λ h. take (i + 1) (set samples i v) ++ map low_bits (draws (384 - (i + 1)) h).0) (sym is_next);
      behind = s.behind ∙ ap (λ k. (draws k g).1) m ∙ ap (λ h. (draws (384 - (i + 1)) h).1) (sym is_next);
      count = count;
    }

pub sampled_none : (i : ℕ) (start g : Lcg) (samples : List ℕ) → i ≡ 384 → Sampled i start g samples
    → (samples ≡ map low_bits (draws 384 start).0) × (g ≡ (draws 384 start).1)
unfolding draws
sampled_none i start g samples end s =
    let z : 384 - i ≡ 0 = omega arith in
    let whole : take i samples ≡ samples = take_all i samples (omega (arith, s.count)) in (
      sym (s.value ∙ ap (λ k. take i samples ++ map low_bits (draws k g).0) z ∙ no_more (take i samples) ∙ whole),
      sym (s.behind ∙ ap (λ k. (draws k g).1) z),
    )
