use Rattle.std.proofs.Common.{◌≡◌, Option, Some, None, ap, sym, ◌∙◌, subst, slice_get}
use Rattle.std.specs.Option.{option_copied}
use Rattle.picture_buffer.specs.Motion.{FieldPlaces, motions_of}
use Rattle.picture_buffer.specs.Pictures.{HeldPicture}
use Rattle.row_borders.specs.Building.{IsBeneath}
use Rattle.border_words.specs.Beneath.{base_motions}
use Rattle.border_words.proofs.beneath.lay_base.Goals as goal

pub returns-in-Some-clause-beneath : goal.returns-in-Some-clause-beneath
returns-in-Some-clause-beneath c =
    let has : slice_get c.args.bases.now c.args.place ≡ Some c.in-Some.picture.now =
    sym c.get-found.ensures ∙ ap option_copied c.in-Some.is in
    subst (λ (o : Option HeldPicture). IsBeneath c.lay_field.new.border (base_motions o)) (sym has)
    (subst (λ (f : FieldPlaces). IsBeneath c.lay_field.new.border (motions_of f)) c.motion.ensures
    c.lay_field.ensures.beneath)

pub returns-in-None-clause-beneath : goal.returns-in-None-clause-beneath
returns-in-None-clause-beneath c =
    let has : slice_get c.args.bases.now c.args.place ≡ None =
    sym c.get-found.ensures ∙ ap option_copied c.in-None.is in
    subst (λ (o : Option HeldPicture). IsBeneath c.clear_beneath.new.self (base_motions o)) (sym has)
    (λ column row across down. c.clear_beneath.ensures.motion column row)
