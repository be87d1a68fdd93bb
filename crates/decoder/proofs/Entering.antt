-- A decoded picture enters the buffer.
use Rattle.std.proofs.Common.{◌≡◌, Bool, List, [], ◌∷◌, ◌++◌, Result, Ok, sym, ap, subst, ◌∙◌}
use Rattle.std.proofs.lemmas.List.{map-append}
use Rattle.hv_base.specs.declared.outcome.Outcome.{Outcome}
use Rattle.hv_base.specs.declared.refusal.Stop.{Stop}
use Rattle.plan_types.specs.declared.picture_plan.PicturePlan.{PicturePlan}
use Rattle.picture_buffer.specs.Pictures.{HeldPicture}
use Rattle.row_jobs.specs.PictureBuild.{decoded_of}
use Rattle.spec_picture_build.specs.References.{DecodedPicture}
use Rattle.spec_decoded_pictures.specs.Decoded.{picture_decoded}
use Rattle.spec_decoder.specs.Decoder.{BufferPicture, decoded_data, decoded_picture, kept_as, pictures_in}
use Rattle.row_jobs.specs.SpecFlights.{staying}
use Rattle.row_jobs.specs.declared.result.FlightResult.{FlightResult}
use Rattle.row_jobs.specs.FlightResults.{Decodes, buffer_with}
use Rattle.decoder.specs.declared.tag.Tag.{Tag}
use Rattle.decoder.specs.Buffers.{HeldBuffer, all_tagged, buffer_of, tagged}
use Rattle.decoder.specs.Flights.{IsLeft}
use Rattle.decoder.specs.Pictures.{DecodesAs, EntersBuffer, IsRefused}
use Rattle.decoder.proofs.Buffers.{AreEven, tagged-more}

-- it can't be decoded
pub refused-in : (hash : Bool) (b : HeldBuffer) (p : PicturePlan) (o : Outcome)
    → IsRefused (decoded_data hash p (picture_decoded (pictures_in (buffer_of b)) p)) o
    → IsRefused (decoded_picture hash (buffer_of b) p) o
unfolding decoded_picture
refused-in hash b p o r = r

tagged-is : (p : PicturePlan) (t : Tag) (picture : DecodedPicture) → t.poc ≡ p.poc → t.nal_type ≡ p.kind.nal_type
    → kept_as p picture
    ≡ (let b : BufferPicture = record { poc = t.poc; nal_type = t.nal_type; picture = picture } in b)
tagged-is p t picture poc kind =
    ap (λ o. let b : BufferPicture = record { poc = o; nal_type = p.kind.nal_type; picture = picture } in b) (sym poc)
    ∙ ap (λ k. let b : BufferPicture = record { poc = t.poc; nal_type = k; picture = picture } in b) (sym kind)

-- the pictures of a buffer behind one that stands behind the last
pub entered-is : (old new : HeldBuffer) (t : Tag) (held : HeldPicture) → AreEven old
    → new.tags ≡ old.tags ++ t ∷ [] → new.pictures ≡ old.pictures ++ held ∷ []
    → buffer_of new ≡ buffer_of old ++ tagged t held ∷ []
entered-is old new t held even tags pictures =
    ap (λ (ts : List Tag). all_tagged ts new.pictures) tags
    ∙ ap (all_tagged (old.tags ++ t ∷ [])) pictures
    ∙ tagged-more old.tags old.pictures t held even

-- it is, and stands behind the last
pub entered-in : (hash : Bool) (old new : HeldBuffer) (p : PicturePlan) (t : Tag) (held : HeldPicture) → AreEven old
    → DecodesAs p (Ok held) (decoded_data hash p (picture_decoded (pictures_in (buffer_of old)) p))
    → t.poc ≡ p.poc → t.nal_type ≡ p.kind.nal_type
    → new.tags ≡ old.tags ++ t ∷ [] → new.pictures ≡ old.pictures ++ held ∷ []
    → EntersBuffer (buffer_of old) (buffer_of new) (decoded_picture hash (buffer_of old) p)
unfolding decoded_picture
entered-in hash old new p t held even d poc kind tags pictures = record {
  picture = tagged t held;
  decodes = d
      ∙ ap (λ (b : BufferPicture). let r : Result BufferPicture Stop = Ok b in r)
      (tagged-is p t (decoded_of held) poc kind);
  buffer = entered-is old new t held even tags pictures;
}

-- and this is left of its flight
pub left-in : (old new : HeldBuffer) (p : PicturePlan) (later : List PicturePlan) (flight : FlightResult) (t : Tag)
    (held : HeldPicture) → AreEven old
    → Decodes (buffer_with p (pictures_in (buffer_of old)) (decoded_of held)) later flight.pictures flight.fault
    → new.tags ≡ old.tags ++ t ∷ [] → new.pictures ≡ old.pictures ++ held ∷ []
    → IsLeft p later new flight
left-in old new p later flight t held even d tags pictures =
    let is : pictures_in (buffer_of new) ≡ pictures_in (buffer_of old) ++ decoded_of held ∷ [] =
    ap pictures_in (entered-is old new t held even tags pictures)
    ∙ map-append (λ (b : BufferPicture). b.picture) (buffer_of old) (tagged t held ∷ []) in
    subst (λ (ps : List DecodedPicture). Decodes (staying p.outputs.kept 0 ps) later flight.pictures flight.fault)
    (sym is) d
