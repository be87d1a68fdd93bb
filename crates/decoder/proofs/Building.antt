-- The next picture of a flight, and what is left of it.
use Rattle.std.proofs.Common.{◌≡◌, inr, Bool, List, [], ◌∷◌, Option, Some, None, Result, Ok, refl, sym}
use Rattle.std.proofs.Common.{ap, subst, ◌∙◌}
use Rattle.std.specs.Prelude.{IsErrAnd}
use Rattle.std.proofs.lemmas.Result.{err_from_is_err_and}
use Rattle.hv_base.specs.declared.fault.Fault.{Fault}
use Rattle.hv_base.specs.declared.outcome.Outcome.TheVariants as outcome
use Rattle.hv_base.specs.declared.refusal.Stop.{Stop}
use Rattle.plan_types.specs.declared.picture_plan.PicturePlan.{PicturePlan}
use Rattle.row_jobs.specs.PictureBuild.{decoded_of}
use Rattle.picture_buffer.specs.Pictures.{HeldPicture}
use Rattle.spec_picture_trees.specs.Picture.{PictureBroken}
use Rattle.spec_picture_build.specs.References.{DecodedPicture}
use Rattle.spec_decoded_pictures.specs.Decoded.{picture_decoded}
use Rattle.spec_decoder.specs.Decoder.{BufferPicture, compared, decoded_data, hashes_judged}
use Rattle.row_jobs.specs.declared.result.FlightResult.{FlightResult}
use Rattle.row_jobs.specs.FlightResults.{Decodes}
use Rattle.decoder.specs.Flights.{TakesNext}
use Rattle.decoder.specs.Headline.{outcome_of}
use Rattle.decoder.specs.Pictures.{IsRefused}

-- the first of the pictures that a flight was decoded to
first-decoded : (buffer : List DecodedPicture) (p : PicturePlan) (later : List PicturePlan) (old new : FlightResult)
    (picture : HeldPicture) → old.pictures ≡ picture ∷ new.pictures → new.fault ≡ old.fault
    → Decodes buffer (p ∷ later) old.pictures old.fault
    → Decodes buffer (p ∷ later) (picture ∷ new.pictures) new.fault
first-decoded buffer p later old new picture first fault d =
    subst (λ (f : Option Stop). Decodes buffer (p ∷ later) (picture ∷ new.pictures) f) (sym fault)
    (subst (λ (ps : List HeldPicture). Decodes buffer (p ∷ later) ps old.fault) first d)

-- it has the hashes that are stated for it
pub next-taken : (hash : Bool) (buffer : List DecodedPicture) (p : PicturePlan) (later : List PicturePlan)
    (old new : FlightResult) (picture : HeldPicture) → old.pictures ≡ picture ∷ new.pictures → new.fault ≡ old.fault
    → None ≡ compared hash p (decoded_of picture) → Decodes buffer (p ∷ later) old.pictures old.fault
    → TakesNext hash buffer p later new (Ok picture)
next-taken hash buffer p later old new picture first fault none d =
    let at = first-decoded buffer p later old new picture first fault d in
    (ap (decoded_data hash p) at.0 ∙ ap (hashes_judged p (decoded_of picture)) (sym none), at.1)

-- it hasn't
pub next-differs : (hash : Bool) (buffer : List DecodedPicture) (p : PicturePlan) (later : List PicturePlan)
    (old new : FlightResult) (picture : HeldPicture) (differs : Fault) → old.pictures ≡ picture ∷ new.pictures
    → new.fault ≡ old.fault
    → Some differs ≡ compared hash p (decoded_of picture) → Decodes buffer (p ∷ later) old.pictures old.fault
    → IsRefused (decoded_data hash p (picture_decoded buffer p)) (outcome.Fault differs)
next-differs hash buffer p later old new picture differs first fault some d =
    let at = first-decoded buffer p later old new picture first fault d in
    let told = ap (decoded_data hash p) at.0 ∙ ap (hashes_judged p (decoded_of picture)) (sym some) in
    inr (subst (λ (r : Result BufferPicture Stop). IsErrAnd r (λ s. outcome.Fault differs ≡ outcome_of (Some s)))
    (sym told) refl)

-- there is none: its data broke a rule
pub next-stopped : (hash : Bool) (buffer : List DecodedPicture) (p : PicturePlan) (later : List PicturePlan)
    (old : FlightResult) (fault : Option Stop) → old.pictures ≡ [] → fault ≡ old.fault
    → Decodes buffer (p ∷ later) old.pictures old.fault
    → IsRefused (decoded_data hash p (picture_decoded buffer p)) (outcome_of fault)
next-stopped hash buffer p later old fault none same d =
    let broke = subst (λ (ps : List HeldPicture). Decodes buffer (p ∷ later) ps old.fault) none d in
    let r = err_from_is_err_and (picture_decoded buffer p) broke in
    inr (subst (λ (x : Result DecodedPicture PictureBroken).
    IsErrAnd (decoded_data hash p x) (λ s. outcome_of fault ≡ outcome_of (Some s))) (sym r.1)
    (ap outcome_of (same ∙ r.2)))
