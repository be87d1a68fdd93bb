-- Sequential decoding beside the known units of a picture, and the reading of one of them.
use Rattle.std.proofs.Common.{◌≡◌, ℕ, Bool, true, false, List, [], ◌∷◌, ◌++◌, Some, None, Result}
use Rattle.std.proofs.Common.{Ok, Err, is_some, get_or, refl, sym, ap, subst, ◌∙◌, if◌then◌else◌}
use Rattle.std.specs.List.{list_all}
use Rattle.std.proofs.lemmas.List.{get_or_push}
use Rattle.hv_base.specs.declared.breach.Breach.{Breach}
use Rattle.known_unit_laws.specs.PlanTypes.{PicturePlan}
use Rattle.ctu_records.specs.Tree.{Ctu}
use Rattle.known_unit_laws.specs.SpecSliceData.{Between, no_group, nothing_read, unit_of, unit_step}
use Rattle.known_unit_laws.specs.SpecPictureTrees.{Halt, Progress, SegmentAt, picture_read}
use Rattle.known_unit_laws.specs.UnitTreeLaws.{AddsSame, Agree, IsSameStep}
use Rattle.known_unit_laws.proofs.UnitTreeLaws.{steps_same}
use Rattle.known_unit_laws.specs.SpecKnownUnits.{IsAsInOrder}
use Rattle.known_unit_laws.specs.SpecKnownUnits.{KnownUnit, behind_step, between_from, entries_before}
use Rattle.known_unit_laws.specs.SpecKnownUnits.{picture_segments}
use Rattle.known_unit_laws.specs.SpecKnownUnits.{read_in}
use Rattle.known_unit_laws.specs.SpecKnownUnits.{read_uses, segment_having, unit_read, units_known}
use Rattle.known_unit_laws.proofs.Beside.{long_from}
use Rattle.known_unit_laws.proofs.Reading.{as_in_order}
use Rattle.locality_laws.specs.SpecPictureBuild.{DecodedPicture}
use Rattle.spec_flights.specs.SpecDecodedPictures.{picture_decoded, reading_decoded, units_decoded}
use Rattle.spec_flights.specs.Rows.{broken_at, broken_by}
use Rattle.known_picture_laws.specs.Decoded.{IsDecodedAsKnown}
use Rattle.known_picture_laws.specs.Reading.{IsReadAs, Leaves}

by_reading : (buffer : List DecodedPicture) (p : PicturePlan) (r : Result Progress Halt) → IsAsInOrder p r
    → IsDecodedAsKnown buffer p (reading_decoded buffer p r)
unfolding broken_at
by_reading buffer p (Ok progress) h = record { picture_is = ap (units_decoded buffer p) h.given; all = h.all }
by_reading buffer p (Err halt) h = record {
  inside = h.inside;
  before = h.before;
  rule = ap broken_by h.breaks;
  at = h.at;
  segment = h.segment;
  nal = h.nal;
}

pub as_known : (buffer : List DecodedPicture) (p : PicturePlan) → IsDecodedAsKnown buffer p (picture_decoded buffer p)
unfolding picture_decoded
as_known buffer p = by_reading buffer p (picture_read p []) (as_in_order p)

module _ (p : PicturePlan) (address : ℕ) (at : SegmentAt) (before : Between) (r : Result KnownUnit Breach) where
  -- what stands before the unit by those that are known
  abbrev from : Between
  from = between_from (entries_before (units_known p) address) at.picture address

  abbrev nothing : Ctu
  nothing = nothing_read at.picture.size no_group

  -- what is known of a unit behind which this stands
  abbrev known_behind : Between → KnownUnit
  known_behind x = record {
    segment = at.number;
    read = unit_of at.picture x address;
    engine = x.engine;
    contexts = x.contexts;
    last = x.last;
  }

  unit_is : (x y : Between) → (s : AddsSame from before x y) → unit_of at.picture x address ≡ s.ctu
  unit_is x y s =
      ap (λ (l : List Ctu). get_or l address nothing) s.units_a
      ∙ get_or_push from.units s.ctu nothing address (long_from p at.picture address)

  leaves : (x y : Between) → AddsSame from before x y → Leaves at before (known_behind x) y
  leaves x y s = record {
    segment = refl;
    units = s.units_b ∙ ap (λ (c : Ctu). before.units ++ c ∷ []) (sym (unit_is x y s));
    engine = sym s.engine;
    contexts = sym s.contexts;
    last = sym s.last;
  }

  by_steps : (t : Bool) (a b : Result Between Breach) → (if t then Some (behind_step at address a) else None) ≡ Some r
      → IsSameStep from before a b → IsReadAs at before r b
  by_steps false a b e same = absurd cc
  by_steps true (Ok x) (Ok y) e same =
      let is : Ok (known_behind x) ≡ r = cc in
      subst (λ (k : Result KnownUnit Breach). IsReadAs at before k (Ok y)) is (leaves x y same)
  by_steps true (Err x) (Err y) e same =
      let is : Err x ≡ r = cc in
      let found : y ≡ x = sym same in
      subst (λ (k : Result KnownUnit Breach). IsReadAs at before k (Err y)) is found
  by_steps true (Ok x) (Err y) e same = let no : ⊥ = same in absurd no
  by_steps true (Err x) (Ok y) e same = let no : ⊥ = same in absurd no

  pub read_as : segment_having (picture_segments p) address ≡ Some at
      → unit_read p (units_known p) address ≡ Some r → Agree at.picture at.shape address from before
      → IsReadAs at before r (unit_step at.syntax at.picture at.shape address before)
  unfolding unit_read read_in
  read_as having is agree =
      by_steps
      (list_all (λ used. is_some (entries_before (units_known p) address used)) (read_uses at address))
      (unit_step at.syntax at.picture at.shape address from)
      (unit_step at.syntax at.picture at.shape address before)
      (sym (ap (read_in (entries_before (units_known p) address) address) having) ∙ is)
      (steps_same at.syntax at.picture at.shape address from before agree)
