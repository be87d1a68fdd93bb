-- What is left of a flight while its pictures are written.
use Rattle.std.proofs.Common.{◌≡◌, ℕ, ◌+◌, ◌<◌, List, ◌∷◌, drop, get_or, length, sym, ap, subst, ◌∙◌}
use Rattle.plan_types.specs.declared.picture_plan.PicturePlan.{PicturePlan}
use Rattle.spec_decoder.specs.Decoder.{BufferPicture, kept_from, pictures_in}
use Rattle.spec_picture_build.specs.References.{DecodedPicture}
use Rattle.row_jobs.specs.SpecFlights.{staying}
use Rattle.row_jobs.specs.declared.result.FlightResult.{FlightResult}
use Rattle.row_jobs.specs.FlightResults.{Decodes}
use Rattle.row_jobs.proofs.FlightResultsLemmas.{kept_pictures}
use Rattle.decoder.specs.Buffers.{HeldBuffer, buffer_of}
use Rattle.decoder.specs.Flights.{IsLeft}
use Rattle.decoder.proofs.Writes.{drop-next}

-- what a flight is decoded to from a buffer on
abbrev pub FollowsFrom : HeldBuffer → List PicturePlan → FlightResult → Type 0
FollowsFrom b plan flight = Decodes (pictures_in (buffer_of b)) plan flight.pictures flight.fault

-- from one with the same pictures on
pub on-same : (p : PicturePlan) (later : List PicturePlan) (old mid : HeldBuffer) (flight : FlightResult)
    → buffer_of mid ≡ buffer_of old → FollowsFrom old (p ∷ later) flight → FollowsFrom mid (p ∷ later) flight
on-same p later old mid flight same d =
    subst (λ (b : List BufferPicture). Decodes (pictures_in b) (p ∷ later) flight.pictures flight.fault) (sym same) d

-- behind a picture, from those that stay on
pub left-behind : (p : PicturePlan) (later : List PicturePlan) (with last new : HeldBuffer) (flight : FlightResult)
    (kept : List ℕ) → kept ≡ p.outputs.kept → buffer_of last ≡ buffer_of with
    → buffer_of new ≡ kept_from kept 0 (buffer_of last) → IsLeft p later with flight → FollowsFrom new later flight
left-behind p later with last new flight kept stay same stays d =
    let is : pictures_in (buffer_of new) ≡ staying p.outputs.kept 0 (pictures_in (buffer_of with)) =
    ap pictures_in stays
    ∙ kept_pictures kept 0 (buffer_of last)
    ∙ ap (λ (b : List BufferPicture). staying kept 0 (pictures_in b)) same
    ∙ ap (λ (places : List ℕ). staying places 0 (pictures_in (buffer_of with))) stay in
    subst (λ (ps : List DecodedPicture). Decodes ps later flight.pictures flight.fault) (sym is) d

-- the next of these pictures
pub left-first : (plan : List PicturePlan) (i : ℕ) (p : PicturePlan) (b : HeldBuffer) (flight : FlightResult)
    → i < length plan → p ≡ get_or plan i p → FollowsFrom b (drop i plan) flight
    → FollowsFrom b (p ∷ drop (i + 1) plan) flight
left-first plan i p b flight lt is d =
    subst (λ (ps : List PicturePlan). FollowsFrom b ps flight) (drop-next plan i p p lt is) d
