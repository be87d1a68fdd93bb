-- The known units of a picture stand in the order of their addresses.
use Rattle.std.proofs.Common.{◌≡◌, ℕ, zero, suc, ◌+◌, ◌-◌, ◌<◌, ◌≤◌, List, [], ◌∷◌, ◌++◌, All, Option, Some, None}
use Rattle.std.proofs.Common.{sym, ap, subst, ◌∙◌, arith, flat_map}
use Rattle.std.specs.List.{range_with_len}
use Rattle.std.proofs.lemmas.Grind.{flat_map-append}
use Rattle.std.proofs.lemmas.List.Concat.{flat_map-cons}
use Rattle.std.proofs.lemmas.List.Elements.{All-append, All-cons, All-nil}
use Rattle.std.proofs.lemmas.List.Folds.{flat_map-map}
use Rattle.header_types.specs.SequenceParameterSets.{size_in_ctbs}
use Rattle.known_unit_laws.specs.PlanTypes.{PicturePlan}
use Rattle.locality_laws.specs.BlockGeometry.{ctb_scan}
use Rattle.known_unit_laws.specs.SpecPictureTrees.{TreeUnit}
use Rattle.known_unit_laws.specs.SpecKnownUnits.{KnownUnit, as_given, known_before, known_units, units_known}
use Rattle.spec_flights.specs.References.{given_at}
use Rattle.known_picture_laws.specs.Order.{IsInOrder}

-- a range, cut at one of its numbers
split : (first a r : ℕ)
    → range_with_len first (a + suc r) ≡ range_with_len first a ++ (first + a) ∷ range_with_len (first + a + 1) r
split first zero r =
    let none : 0 + suc r ≡ suc r = omega arith in
    let e : first ≡ first + 0 = omega arith in
    ap (range_with_len first) none ∙ ap (λ k. k ∷ range_with_len (k + 1) r) e
split first (suc a) r =
    let more : suc a + suc r ≡ suc (a + suc r) = omega arith in
    let e : first + 1 + a ≡ first + suc a = omega arith in
    ap (range_with_len first) more
    ∙ ap (λ l. first ∷ l)
    (split (first + 1) a r ∙ ap (λ k. range_with_len (first + 1) a ++ k ∷ range_with_len (k + 1) r) e)

module _ (p : PicturePlan) where
  abbrev given : ℕ → List TreeUnit
  given address = as_given address (units_known p address)

  -- the known ones of so many units from one on
  abbrev given_from : ℕ → ℕ → List TreeUnit
  given_from first count = flat_map given (range_with_len first count)

  units_are : known_units p ≡ given_from 0 (size_in_ctbs p.sps)
  unfolding known_before
  units_are =
      let long : size_in_ctbs p.sps - 0 ≡ size_in_ctbs p.sps = omega arith in
      flat_map-map given ctb_scan (range_with_len 0 (size_in_ctbs p.sps - 0)) ∙ ap (given_from 0) long

  one_all : (P : ℕ → Type 0) (address : ℕ) (o : Option KnownUnit) → P address
      → All (λ (u : TreeUnit). P u.ctu) (as_given address o)
  one_all P address None h = All-nil (λ (u : TreeUnit). P u.ctu)
  one_all P address (Some known) h =
      All-cons (λ (u : TreeUnit). P u.ctu) (given_at address known) [] h (All-nil (λ (u : TreeUnit). P u.ctu))

  all_from : (P : ℕ → Type 0) (first count : ℕ) → ((k : ℕ) → first ≤ k → k < first + count → P k)
      → All (λ (u : TreeUnit). P u.ctu) (given_from first count)
  all_from P first zero each = All-nil (λ (u : TreeUnit). P u.ctu)
  all_from P first (suc count) each =
      subst (All (λ (u : TreeUnit). P u.ctu)) (sym (flat_map-cons given first (range_with_len (first + 1) count)))
      (All-append (λ (u : TreeUnit). P u.ctu) (given first) (given_from (first + 1) count)
      (one_all P first (units_known p first) (each first (omega arith) (omega arith)))
      (all_from P (first + 1) count (λ k low high. each k (omega (arith, low)) (omega (arith, high)))))

  pub in_order : (address : ℕ) (known : KnownUnit) → address < size_in_ctbs p.sps → units_known p address ≡ Some known
      → IsInOrder (known_units p) (given_at address known)
  in_order address known inside is =
      let rest : ℕ = size_in_ctbs p.sps - (address + 1) in
      let whole : size_in_ctbs p.sps ≡ address + suc (size_in_ctbs p.sps - (address + 1)) = omega (arith, inside) in
      let same : 0 + address ≡ address = omega arith in
      let cut : given_from 0 (size_in_ctbs p.sps)
      ≡ given_from 0 address ++ (given address ++ given_from (address + 1) rest) =
      ap (given_from 0) whole
      ∙ ap (flat_map given)
      (split 0 address rest ∙ ap (λ k. range_with_len 0 address ++ k ∷ range_with_len (k + 1) rest) same)
      ∙ flat_map-append given (range_with_len 0 address) (address ∷ range_with_len (address + 1) rest)
      ∙ ap (λ l. given_from 0 address ++ l) (flat_map-cons given address (range_with_len (address + 1) rest)) in
      record {
        before = given_from 0 address;
        later = given_from (address + 1) rest;
        is =
            units_are ∙ cut
            ∙ ap (λ o. given_from 0 address ++ (as_given address o ++ given_from (address + 1) rest)) is;
        earlier = all_from (λ k. k < address) 0 address (λ k low high. omega (arith, high));
        behind = all_from (λ k. address < k) (address + 1) rest (λ k low high. omega (arith, low));
      }
