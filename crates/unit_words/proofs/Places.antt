-- What is known of a place is taken out of its words as it was put in.
use Rattle.std.proofs.Common.{◌≡◌, ℕ, Bool, cond, Option, Some, None, is_none, ap, ◌∙◌}
use Rattle.std.specs.Option.{unwrap_or}
use Rattle.spec_motion.specs.declared.vectors.Motion.{Motion}
use Rattle.sample_words.specs.Values.{modes_in, motion_in, vectors_word}
use Rattle.sample_words.specs.declared.modes.PlaceModes.{PlaceModes}
use Rattle.sample_words.proofs.Motions.{modes_found, motion_found}
use Rattle.unit_words.specs.Above.{ArePlace}
use Rattle.unit_words.specs.Units.{no_motion}
use Rattle.unit_words.specs.declared.unit_above.KnownPlace.{KnownPlace}

by_intra : (motion : Option Motion) (intra : Bool) → intra ≡ is_none motion
    → cond intra None (Some (unwrap_or motion no_motion)) ≡ motion
by_intra None intra e = ap (λ (t : Bool). cond t None (Some no_motion)) e
by_intra (Some m) intra e = ap (λ (t : Bool). cond t None (Some m)) e

abbrev made : Option Motion → PlaceModes → KnownPlace
made motion modes = record { motion = motion; modes = modes }

pub place_found : (first second : ℕ) (found : PlaceModes) (m : Motion) (result : Option Motion)
    → found ≡ modes_in second → m ≡ motion_in first second → result ≡ cond found.side.intra None (Some m)
    → (motion : Option Motion) (place : PlaceModes) → ArePlace motion place first second
    → made result found ≡ made motion place
place_found first second found m result e f told motion place are =
    let v : Motion = unwrap_or motion no_motion in
    let p : found ≡ place =
    e ∙ ap modes_in are.modes ∙ modes_found place v are.modes_fit are.motion_fits in
    let q : m ≡ v =
    f ∙ ap (λ (n : ℕ). motion_in n second) are.vectors ∙ ap (motion_in (vectors_word v)) are.modes
    ∙ motion_found place v are.modes_fit are.motion_fits in
    let r : result ≡ motion =
    told ∙ ap (λ (x : PlaceModes). cond x.side.intra None (Some m)) p
    ∙ ap (λ (x : Motion). cond place.side.intra None (Some x)) q ∙ by_intra motion place.side.intra are.intra in
    ap (λ (x : Option Motion). made x found) r ∙ ap (made motion) p
