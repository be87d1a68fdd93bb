-- The places of the words, and the laws of the flight.
use Rattle.std.proofs.Common.{◌≡◌, ℕ, ◌+◌, ◌-◌, ◌*◌, ◌/◌, ◌%◌, ◌<◌, List, refl, sym, ap, ◌∙◌, arith, div-add-mod'}
use Rattle.std.proofs.Math.Nat.{div-lt_iff_lt-mul, mod-lt}
use Rattle.std.proofs.lemmas.Nat.{div-mul-add, mod-mul-add, mul-add-lt}
use Rattle.progress_words.specs.Meanings.{Spot, IsLaid}
use Rattle.board_tests.specs.Sums.{place, owner, meaning_of}

module _ (rows w : ℕ) (some_width : 0 < w) where
  unit_is : (l k j : ℕ) → j < 2 → ((l * w + k) * 2 + j) / 2 ≡ l * w + k
  unit_is l k j small = div-mul-add (l * w + k) 2 j small

  after : (x : ℕ) → (8 * rows + 16) + x - (8 * rows + 16) ≡ x
  after x = omega arith

  pub owner_is : (l k j : ℕ) → k < w → j < 2
      → owner rows w (place rows w l k j) ≡ (let o : Spot = record { line = l; unit = k; index = j } in o)
  owner_is l k j inside small =
      let x : ℕ = (l * w + k) * 2 + j in
      let e : (8 * rows + 16) + x - (8 * rows + 16) ≡ x = after x in
      λ i. record {
        line = ((λ c. e c / 2 / w) ∙ ((λ c. unit_is l k j small c / w) ∙ div-mul-add l w k inside)) i;
        unit = ((λ c. e c / 2 % w) ∙ ((λ c. unit_is l k j small c % w) ∙ mod-mul-add l w k inside)) i;
        index = ((λ c. e c % 2) ∙ mod-mul-add (l * w + k) 2 j small) i;
      }

  pub unit_below : (l k : ℕ) → l < rows → k < w → l * w + k < rows * w
  unit_below l k row inside =
      let a : l * w + k < w * rows = mul-add-lt l w k rows row inside in
      let c : w * rows ≡ rows * w = Rattle.std.proofs.Math.Nat.mul_comm w rows in omega arith

  pub place_inside : (l k j : ℕ) → l < rows → k < w → j < 2 → place rows w l k j < (8 * rows + 16) + rows * w * 2
  place_inside l k j row inside small = let a = unit_below l k row inside in omega arith

  pub laid : (xs marks : List ℕ) → (8 * rows + 16) + rows * w * 2 < 288230376151711744 → w < 288230376151711744
      → IsLaid (meaning_of xs marks rows w)
  unfolding meaning_of
  laid xs marks small narrow = record {
    room = omega arith;
    small = omega arith;
    narrow = λ l. omega arith;
    ticketed = λ l a. (a, refl);
    drawn = λ t a. (a, refl);
    few = λ l k a b. let c = unit_below l k a b in omega arith;
    ordered = λ l j k a le b. omega arith;
    inside = λ at here.
        let d : ℕ = at - (8 * rows + 16) in let h0 = here.0 in let h1 = here.1 in
        let a : d / 2 < rows * w = (div-lt_iff_lt-mul {k = 2} {x = d} {y = rows * w} (omega arith)).1 (omega arith) in (
          (div-lt_iff_lt-mul {k = w} {x = d / 2} {y = rows} some_width).1 a,
          mod-lt (d / 2) some_width,
          mod-lt d (omega arith),
        );
    once = λ at at' here here' same.
        let d : ℕ = at - (8 * rows + 16) in let d' : ℕ = at' - (8 * rows + 16) in let h = here.0 in
        let h' = here'.0 in
        let line : d / 2 / w ≡ d' / 2 / w = ap (λ (o : Spot). o.line) same in
        let unit : d / 2 % w ≡ d' / 2 % w = ap (λ (o : Spot). o.unit) same in
        let index : d % 2 ≡ d' % 2 = ap (λ (o : Spot). o.index) same in
        let halves : d / 2 ≡ d' / 2 = sym (div-add-mod' (d / 2) w) ∙ ((λ c. line c * w + unit c)
        ∙ div-add-mod' (d' / 2) w) in
        let whole : d ≡ d' = sym (div-add-mod' d 2) ∙ ((λ c. halves c * 2 + index c) ∙ div-add-mod' d' 2) in
        omega arith;
  }
