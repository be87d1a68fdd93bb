-- Pictures that are decoded one after the other.
use Rattle.std.proofs.Common.{◌≡◌, ℕ, suc, ◌+◌, ◌<◌, ◌≤◌, List, [], ◌∷◌, ◌++◌, length, drop, get_or, Option}
use Rattle.std.proofs.Common.{Some, None, Result, Ok, Err, refl, sym, ap, subst, ◌∙◌, add-one, append_assoc}
use Rattle.std.proofs.Common.{append-nil}
use Rattle.std.proofs.Common.{drop-cons}
use Rattle.std.specs.Prelude.{IfOk, IsErrAnd}
use Rattle.std.proofs.lemmas.List.{drop_all, map-append}
use Rattle.hv_base.specs.declared.refusal.Stop.{Stop}
use Rattle.plan_types.specs.declared.picture_plan.PicturePlan.{PicturePlan}
use Rattle.picture_buffer.specs.Pictures.{HeldPicture}
use Rattle.flight_ranges.specs.PictureBuild.{BuildsPicture}
use Rattle.flight_ranges.specs.PictureBuild.{buffer_of, decoded_of}
use Rattle.picture_trees.specs.declared.trees.ReadError.{ReadError}
use Rattle.picture_trees.specs.declared.trees.ReadError.TheVariants as error
use Rattle.spec_picture_trees.specs.Picture.{PictureBroken}
use Rattle.spec_picture_build.specs.References.{DecodedPicture}
use Rattle.row_workers.specs.SpecDecodedPictures.{picture_decoded}
use Rattle.row_workers.specs.SpecDecoder.{told}
use Rattle.row_workers.specs.SpecFlights.{staying}
use Rattle.flight_results.specs.Decoding.{Decodes, buffer_with}
use Rattle.row_jobs.specs.Decoding.{TellsError}
use Rattle.row_jobs.proofs.Keeping.{staying_map}

-- the plan at a place, and those behind it
next_plan : (plan : List PicturePlan) (i : ℕ) (p : PicturePlan) → i < length plan → p ≡ get_or plan i p
    → drop i plan ≡ p ∷ drop (i + 1) plan
next_plan plan i p lt is =
    drop-cons plan i p lt
    ∙ ap (λ (q : PicturePlan). q ∷ drop (suc i) plan) (sym is)
    ∙ ap (λ (n : ℕ). p ∷ drop n plan) (sym (add-one i))

-- a buffer as it is held is the one behind a picture, where it stands behind the last and these stay
buffer_is : (p : PicturePlan) (old new : List HeldPicture) (picture : HeldPicture) (kept : List ℕ)
    → kept ≡ p.outputs.kept → new ≡ staying kept 0 (old ++ picture ∷ [])
    → buffer_with p (buffer_of old) (decoded_of picture) ≡ buffer_of new
buffer_is p old new picture kept stay is =
    sym (ap buffer_of is
    ∙ staying_map decoded_of kept 0 (old ++ picture ∷ [])
    ∙ ap (staying kept 0) (map-append decoded_of old (picture ∷ []))
    ∙ ap (λ (places : List ℕ). staying places 0 (buffer_of old ++ decoded_of picture ∷ [])) stay)

-- of planned pictures those before a place were decoded: whatever is decoded of the others stands behind them
abbrev pub Decoded : List HeldPicture → List PicturePlan → ℕ → List HeldPicture → List HeldPicture → Type 0
Decoded bases plan i buffer pictures =
    (rest : List HeldPicture) (fault : Option Stop) → Decodes (buffer_of buffer) (drop i plan) rest fault
    → Decodes (buffer_of bases) plan (pictures ++ rest) fault

pub decoded_none : (bases buffer pictures : List HeldPicture) (plan : List PicturePlan) → buffer ≡ bases
    → pictures ≡ [] → Decoded bases plan 0 buffer pictures
decoded_none bases buffer pictures plan same none = λ rest fault d.
    subst (λ (ps : List HeldPicture). Decodes (buffer_of bases) plan (ps ++ rest) fault) (sym none)
    (subst (λ (b : List HeldPicture). Decodes (buffer_of b) plan rest fault) same d)

-- one more is decoded
pub decoded_one : (bases old new before pictures : List HeldPicture) (plan : List PicturePlan) (i : ℕ)
    (p : PicturePlan) (picture : HeldPicture) (kept : List ℕ)
    → i < length plan → p ≡ get_or plan i p
    → picture_decoded (buffer_of old) p ≡ Ok (decoded_of picture)
    → kept ≡ p.outputs.kept → new ≡ staying kept 0 (old ++ picture ∷ []) → pictures ≡ before ++ picture ∷ []
    → Decoded bases plan i old before → Decoded bases plan (i + 1) new pictures
decoded_one bases old new before pictures plan i p picture kept lt is built stay buffer more told = λ rest fault d.
    let here : Decodes (buffer_of old) (p ∷ drop (i + 1) plan) (picture ∷ rest) fault = (
      built,
      subst (λ (b : List DecodedPicture). Decodes b (drop (i + 1) plan) rest fault)
          (sym (buffer_is p old new picture kept stay buffer)) d,
    ) in
    subst (λ (ps : List HeldPicture). Decodes (buffer_of bases) plan ps fault)
    (sym (ap (λ (ps : List HeldPicture). ps ++ rest) more ∙ append_assoc before (picture ∷ []) rest))
    (told (picture ∷ rest) fault
    (subst (λ (ps : List PicturePlan). Decodes (buffer_of old) ps (picture ∷ rest) fault)
    (sym (next_plan plan i p lt is)) here))

-- all are
pub decoded_all : (bases buffer pictures : List HeldPicture) (plan : List PicturePlan) (i : ℕ) → length plan ≤ i
    → Decoded bases plan i buffer pictures → Decodes (buffer_of bases) plan pictures None
decoded_all bases buffer pictures plan i le told =
    subst (λ (ps : List HeldPicture). Decodes (buffer_of bases) plan ps None) (append-nil pictures)
    (told [] None
    (subst (λ (ps : List PicturePlan). Decodes (buffer_of buffer) ps [] None) (sym (drop_all i plan le)) refl))

stopped : (buffer : List DecodedPicture) (p : PicturePlan) (broken : PictureBroken) (fault : Option Stop)
    → picture_decoded buffer p ≡ Err broken → fault ≡ Some (told broken)
    → IsErrAnd (picture_decoded buffer p) (λ b. fault ≡ Some (told b))
stopped buffer p broken fault e is =
    subst (λ (r : Result DecodedPicture PictureBroken). IsErrAnd r (λ b. fault ≡ Some (told b))) (sym e) is

-- the data of one break a rule
pub decoded_stop : (bases buffer pictures held : List HeldPicture) (plan : List PicturePlan) (i : ℕ) (p : PicturePlan)
    (e : ReadError) (fault : Option Stop) → i < length plan → p ≡ get_or plan i p
    → BuildsPicture (Err e) (picture_decoded (buffer_of buffer) p) → held ≡ pictures → TellsError e fault
    → Decoded bases plan i buffer pictures → Decodes (buffer_of bases) plan held fault
decoded_stop bases buffer pictures held plan i p error.Memory fault lt is e same tells d = absurd tells
decoded_stop bases buffer pictures held plan i p (error.Broken breach nal ctu) fault lt is e same tells d =
    subst (λ (ps : List HeldPicture). Decodes (buffer_of bases) plan ps fault) (append-nil pictures ∙ sym same)
    (d [] fault
    (subst (λ (ps : List PicturePlan). Decodes (buffer_of buffer) ps [] fault)
    (sym (next_plan plan i p lt is))
    (stopped (buffer_of buffer) p (record { breach = breach; nal = nal; ctu = ctu }) fault e tells)))

-- what follows from what a clause says of the value in an `Ok`
pub if_ok_then : {X Y : Type 0} (r : Result X Y) {P Q : X → Type 0} → IfOk r P → ((x : X) → P x → Q x) → IfOk r Q
if_ok_then (Ok x) p f = f x p
if_ok_then (Err e) p f = tt
