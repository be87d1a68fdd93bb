use Rattle.std.proofs.Common.{◌≡◌, refl, rules}
use Rattle.std.specs.List.{filter}
use Rattle.std.proofs.lemmas.Fn.{filter_same}
use Rattle.spec_reference_pictures.specs.ShortTermSets.{is_before, is_after, sides}
use Rattle.ref_picture_sets.proofs.short_term_predicted.sides.Goals as goal

pub returns : goal.returns
unfolding sides
returns c =
    let below : c.retain.new.self.items ≡ filter is_before c.in_ok-negative.negative.items =
    filter_same _ _ _ (λ x b f' k. search rules) _ _ c.retain.ensures.filtered in
    let above : c.retain-2.new.self.items ≡ filter is_after c.args.falling.items =
    filter_same _ _ _ (λ x b f' k. search rules) _ _ c.retain-2.ensures.filtered in
    rw (
      c.from_items.ensures,
      c.from_items-2.ensures,
      c.reverse.ensures.items,
      below,
      above,
      c.in_ok-negative.ensures.items,
      c.as_slice.ensures.value,
    )
    refl
