-- A product by a range's reciprocal, and the quotient by the range.
use Rattle.std.proofs.Common.{◌≡◌, ℕ, ◌+◌, ◌-◌, ◌*◌, ◌/◌, ◌%◌, ◌<◌, ◌≤◌, true, refl, sym, ap, subst, ◌∙◌}
use Rattle.std.proofs.Common.{arith}
use Rattle.std.specs.Prelude.{nat_le, slice_index}
use Rattle.std.specs.List.{list_all, range_with_len}
use Rattle.std.proofs.lemmas.Bool.{leb-true}
use Rattle.std.proofs.lemmas.Nat.{div-mul-add, div-add-mod'}
use Rattle.std.proofs.Math.Nat.{mul-le-mul_right, mul-le-mul_left, mul-le-mul, mod-lt}
use Rattle.spec_cabac.proofs.TableRules.{tested}
use Rattle.cabac_engine.specs.declared.quotients.TheConstants.{RECIPROCALS}

-- a reciprocal times its range is 2^36, or little more
abbrev product : ℕ → ℕ
product i = slice_index RECIPROCALS i * (i + 256)

low_all : list_all (λ i. nat_le 68719476736 (product i)) (range_with_len 0 255) ≡ true
low_all = refl

high_all : list_all (λ i. nat_le (product i) 68719477247) (range_with_len 0 255) ≡ true
high_all = refl

least_all : list_all (λ i. nat_le 134217728 (slice_index RECIPROCALS i)) (range_with_len 0 255) ≡ true
least_all = refl

greatest_all : list_all (λ i. nat_le (slice_index RECIPROCALS i) 268435456) (range_with_len 0 255) ≡ true
greatest_all = refl

pub record Reciprocal (m range : ℕ) : Type 0 where
  pub low : 68719476736 ≤ m * range
  pub high : m * range ≤ 68719477247
  pub least : 134217728 ≤ m
  pub greatest : m ≤ 268435456

pub reciprocal_of : (range : ℕ) → 256 ≤ range → range ≤ 510 → Reciprocal (slice_index RECIPROCALS (range - 256)) range
reciprocal_of range low high =
    let i = range - 256 in
    let inside : i < 255 = omega arith in
    let is : i + 256 ≡ range = omega arith in
    subst (Reciprocal (slice_index RECIPROCALS i)) is (record {
      low = leb-true _ _ (tested (λ k. nat_le 68719476736 (product k)) 255 low_all i inside);
      high = leb-true _ _ (tested (λ k. nat_le (product k) 68719477247) 255 high_all i inside);
      least = leb-true _ _ (tested (λ k. nat_le 134217728 (slice_index RECIPROCALS k)) 255 least_all i inside);
      greatest = leb-true _ _ (tested (λ k. nat_le (slice_index RECIPROCALS k) 268435456) 255 greatest_all i inside);
    })

-- the quotient is in the product's digits from 2^36 on
pub quotient_is : (x m range : ℕ) → x < 33554432 → 256 ≤ range → range ≤ 510 → Reciprocal m range
    → x * m / 68719476736 ≡ x / range
quotient_is x m range small low high r =
    let q = x / range in
    let rest = x % range in
    let whole : q * range + rest ≡ x = div-add-mod' x range in
    let under : rest < range = mod-lt x (omega arith) in
    let few : q * 256 ≤ q * range = mul-le-mul_left q low in
    let q_small : q ≤ 131072 = omega (arith, few, whole, small) in
    let e = m * range - 68719476736 in
    let e_small : e ≤ 511 = omega (arith, r.high) in
    let product_is : m * range ≡ 68719476736 + e = omega (arith, r.low) in
    let errors : q * e ≤ 131072 * 511 = mul-le-mul q_small e_small in
    let most : (rest + 1) * m ≤ range * m = mul-le-mul_right m (let le : rest + 1 ≤ range = omega arith in le) in
    let one_more : (rest + 1) * m ≡ rest * m + m = grind arith in
    let turned : range * m ≡ m * range = grind arith in
    let d = q * e + rest * m in
    let below : d < 68719476736 =
    omega (arith, errors, most, one_more, turned, product_is, e_small, r.least) in
    let parts : (q * range + rest) * m ≡ q * (m * range) + rest * m = grind arith in
    let more : q * (68719476736 + e) + rest * m ≡ q * 68719476736 + (q * e + rest * m) = grind arith in
    ap (λ k. k / 68719476736)
    (ap (λ k. k * m) (sym whole) ∙ parts ∙ ap (λ k. q * k + rest * m) product_is ∙ more)
    ∙ div-mul-add q 68719476736 d below
