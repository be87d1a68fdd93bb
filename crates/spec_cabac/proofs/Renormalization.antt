-- What renormalization makes of a range and an offset.
use Rattle.std.proofs.Common.{◌≡◌, ℕ, ◌+◌, ◌-◌, ◌*◌, ◌%◌, ◌^◌, ◌<◌, ◌≤◌, Bool, true, List, refl, subst, arith}
use Rattle.std.specs.Prelude.{nat_le, nat_eq}
use Rattle.std.specs.List.{list_all, range_with_len}
use Rattle.std.proofs.lemmas.Bool.{leb-true, eqb-true}
use lib.Count.{count_leading_zeros}
use Rattle.std.proofs.Math.Nat.{mod-eq_of_lt}
use Rattle.spec_cabac.specs.Engine.{IsLive, doublings}
use Rattle.spec_cabac.proofs.TableRules.{tested}

-- how often a range from 2 to 510 is doubled, and where that leads
pub record Doubled (range : ℕ) : Type 0 where
  pub few : doublings range ≤ 7
  pub low : 256 ≤ range * 2 ^ doublings range
  pub high : range * 2 ^ doublings range ≤ 510

few_all : list_all (λ i. nat_le (doublings (i + 2)) 7) (range_with_len 0 509) ≡ true
unfolding doublings
few_all = refl

low_all : list_all (λ i. nat_le 256 ((i + 2) * 2 ^ doublings (i + 2))) (range_with_len 0 509) ≡ true
unfolding doublings
low_all = refl

high_all : list_all (λ i. nat_le ((i + 2) * 2 ^ doublings (i + 2)) 510) (range_with_len 0 509) ≡ true
unfolding doublings
high_all = refl

pub Doubled-range : (range : ℕ) → 2 ≤ range → range ≤ 510 → Doubled range
Doubled-range range low high =
    let inside : range - 2 < 509 = omega arith in
    let is : range - 2 + 2 ≡ range = omega arith in
    subst Doubled is (record {
      few = leb-true _ _ (tested (λ i. nat_le (doublings (i + 2)) 7) 509 few_all (range - 2) inside);
      low = leb-true _ _ (tested (λ i. nat_le 256 ((i + 2) * 2 ^ doublings (i + 2))) 509 low_all (range - 2) inside);
      high = leb-true _ _ (tested (λ i. nat_le ((i + 2) * 2 ^ doublings (i + 2)) 510) 509 high_all (range - 2) inside);
    })

-- an offset below the range stays below it
pub scaled_below : (offset range more n : ℕ) → offset < range → more < 2 ^ n → offset * 2 ^ n + more < range * 2 ^ n
scaled_below offset range more n below small = grind arith

-- what renormalization leaves is live, in numbers of 32 bits too
pub renormalized_live : (range offset more n at : ℕ) (bits : List Bool) → 2 ≤ range → range ≤ 510 → offset < range
    → n ≡ doublings range → more < 2 ^ n
    → IsLive (record {
      range = range * 2 ^ n % 4294967296;
      offset = offset * 2 ^ n % 4294967296 + more;
      bits = bits;
      at = at;
    })
renormalized_live range offset more n at bits low high below is small =
    let d : Doubled range = Doubled-range range low high in
    let least : 256 ≤ range * 2 ^ n = rw is d.low in
    let greatest : range * 2 ^ n ≤ 510 = rw is d.high in
    let inside : offset * 2 ^ n + more < range * 2 ^ n = scaled_below offset range more n below small in
    let range_is : range * 2 ^ n % 4294967296 ≡ range * 2 ^ n = mod-eq_of_lt (omega arith) in
    let offset_is : offset * 2 ^ n % 4294967296 ≡ offset * 2 ^ n = mod-eq_of_lt (omega arith) in
    record { low = omega arith; high = omega arith; below = omega arith }

-- how a processor counts doublings: the zero bits in front of a range in 32 bits, less those that 256 has
abbrev leading_ok : ℕ → Bool
leading_ok i = nat_eq (count_leading_zeros 32 (i + 2)) (doublings (i + 2) + 23)

leading_all : list_all leading_ok (range_with_len 0 509) ≡ true
unfolding doublings count_leading_zeros
leading_all = refl

pub leading_zeros-doublings : (range : ℕ) → 2 ≤ range → range ≤ 510
    → count_leading_zeros 32 range ≡ doublings range + 23
leading_zeros-doublings range low high =
    let inside : range - 2 < 509 = omega arith in
    let is : range - 2 + 2 ≡ range = omega arith in
    subst (λ (r : ℕ). count_leading_zeros 32 r ≡ doublings r + 23) is
    (eqb-true _ _ (tested leading_ok 509 leading_all (range - 2) inside))
