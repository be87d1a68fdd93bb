-- The ranges of the parameter sets that a header names.
use Rattle.std.proofs.Common.{◌≡◌, ◌∙◌, ℕ, inl, inr}
use Rattle.std.specs.Prelude.{Bool}
use Rattle.std.proofs.Common.{true, false, ◌==◌, ◌||◌, List, length, slice_index_or, Option, Some, None}
use Rattle.std.proofs.Common.{IfSome, All, Ok, refl, ap, subst}
use Rattle.std.proofs.lemmas.Bool.{cases_lt}
use Rattle.std.proofs.lemmas.List.{get_or_past}
use Rattle.std.proofs.lemmas.List.Elements.{All-get_or}
use Rattle.hv_base.specs.declared.breach.Breach.{Breach}
use Rattle.hv_base.specs.declared.fault.FaultKind.TheVariants as rule
use Rattle.header_types.specs.declared.former.Sets.{Sets}
use Rattle.header_types.specs.declared.pps.PpsFields.{PpsFields}
use Rattle.header_types.specs.declared.sps.SpsFields.{SpsFields}
use Rattle.header_types.specs.PictureParameterSet.{IsPps}
use Rattle.header_types.specs.SequenceParameterSets.{IsSps}
use Rattle.spec_formats.proofs.Values.{CanBe}
use Rattle.spec_slice_headers.specs.SpecParameterSets.{fits}
use Rattle.spec_slice_headers.specs.Context.{Context, ◌>>=◌, agrees, fault, first_of, judged, kept}
use Rattle.spec_slice_headers.specs.Context.{no_rasl_output_flag}
use Rattle.spec_slice_headers.specs.NamedSets.{Named, is_active, named_by, named_sets, with_pps, with_sps}
use Rattle.header_laws.specs.Ranges.{AreSets, IsNamed}
use Rattle.header_laws.proofs.Values.{judged_is}

-- what stands at a place of a list of places, if anything, is as all that stand there
index_or_is : {X : Type 0} (P : X → Type 0) (xs : List (Option X)) (i : ℕ) → All (λ o. IfSome o P) xs
    → IfSome (slice_index_or xs i None) P
index_or_is P xs i all = elim (cases_lt i (length xs)) [
  | inl lt ↦ All-get_or (λ o. IfSome o P) xs i None lt all
  | inr ge ↦ rw (get_or_past xs i None ge) tt
]

with_sps_is : (pps : PpsFields) (o : Option SpsFields) (n : Named) → IsPps pps → IfSome o IsSps
    → with_sps pps o ≡ Some n → IsNamed n
with_sps_is pps None n is-pps is-sps e = absurd cc
with_sps_is pps (Some sps) n is-pps is-sps e = subst (λ o. IfSome o IsNamed) e (record { sps = is-sps; pps = is-pps })

with_pps_is : (sets : Sets) (o : Option PpsFields) (n : Named) → AreSets sets → IfSome o IsPps
    → with_pps sets o ≡ Some n → IsNamed n
with_pps_is sets None n are is e = absurd cc
with_pps_is sets (Some pps) n are is e =
    with_sps_is pps (slice_index_or sets.sps pps.identity.pps_seq_parameter_set_id None) n is
    (index_or_is IsSps sets.sps pps.identity.pps_seq_parameter_set_id are.sps) e

pub named_is : (sets : Sets) (id : ℕ) (n : Named) → AreSets sets → named_by sets id ≡ Some n → IsNamed n
named_is sets id n are e =
    with_pps_is sets (slice_index_or sets.pps id None) n are (index_or_is IsPps sets.pps id are.pps) e

pub named_by_is : (sets : Sets) (id : ℕ) (o : Option Named) → AreSets sets → named_by sets id ≡ o → IfSome o IsNamed
named_by_is sets id None are e = tt
named_by_is sets id (Some n) are e = named_is sets id n are e

kept_same : (m n : Named) (a b d : Bool) (e f g : Breach)
    → (kept a e >>= λ x. kept b f >>= λ y. kept d g >>= λ z. Ok m) ≡ Ok n → (m ≡ n) × (d ≡ true)
kept_same m n true true true e f g is = (cc, refl)
kept_same m n false b d e f g is = absurd cc
kept_same m n true false d e f g is = absurd cc
kept_same m n true true false e f g is = absurd cc

-- the sets that a header names are the accepted ones of its id, which is that of the picture's first header
pub record AreNamed (c : Context) (first : Bool) (id : ℕ) (n : Named) : Type 0 where
  pub sets : named_by c.sets id ≡ Some n
  pub same : agrees (first_of c first) (λ h. h.segment.slice_pic_parameter_set_id == id) ≡ true

are_named_by : (c : Context) (first : Bool) (id : ℕ) (n : Named) (o : Option Named) → named_by c.sets id ≡ o
    → named_sets c first id ≡ Ok n → AreNamed c first id n
unfolding named_sets
are_named_by c first id n None is e = let e' = rw is at e in absurd cc
are_named_by c first id n (Some m) is e =
    let e' = rw is at e in
    let kept =
    kept_same m n (fits m.sps m.pps)
    (no_rasl_output_flag c.nal_type c.former.first_in_sequence || is_active c.former.active m.sps)
    (agrees (first_of c first) (λ h. h.segment.slice_pic_parameter_set_id == id)) (fault rule.SetMismatch)
    (fault rule.SpsChanged) (fault rule.SliceMismatch) e' in
    record { sets = is ∙ ap Some kept.0; same = kept.1 }

pub are_named : (c : Context) (first : Bool) (id : ℕ) (n : Named) → CanBe (judged (named_sets c first id)) n
    → AreNamed c first id n
are_named c first id n is = are_named_by c first id n (named_by c.sets id) refl (judged_is (named_sets c first id) n is)
