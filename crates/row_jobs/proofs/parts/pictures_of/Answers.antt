use Rattle.std.proofs.Common.{rules, ◌≡◌, ◌<◌, ◌+◌, ◌-◌, [], ◌∷◌, ◌++◌, length, slice_get, drop, sym, ap}
use Rattle.std.proofs.Common.{◌∙◌, refl, arith}
use Rattle.std.proofs.lemmas.List.{length-drop}
use Rattle.std.proofs.lemmas.Option.{slice_get_read}
use Rattle.std.specs.List.{remove}
use Rattle.row_jobs.proofs.Held.{first_behind, left_behind, one_picture}
use Rattle.row_jobs.proofs.parts.pictures_of.Goals as goal

pub picture_of-requires : goal.picture_of-requires
picture_of-requires c =
    let plans = c.args.plans.now in
    let parts = c.args.parts.items in
    let k = c.loop-place.place in
    let many = c.requires.plans in
    let most = c.requires.count in
    let test : k < c.args.count = search rules in
    let less : k < length plans = omega (arith, most, test) in
    let inside : k < length parts = omega (arith, many, less) in
    let left = c.loop-place.invariant.left in
    let count : length c.loop-place.left.items ≡ length (drop k parts) = ap length left in
    let behind = length-drop k parts in
    let some : 0 < length c.loop-place.left.items = omega (arith, inside, count, behind) in
    let plan = slice_get_read plans (length plans) k c.index-plans-place.result refl less c.index-plans-place.is in
    let first = slice_get_read c.loop-place.left.items (length c.loop-place.left.items) 0 c.remove-planes.result refl
    some c.remove-planes.ensures.value in
    let part = first_behind parts k c.remove-planes.result (ap (λ xs. slice_get xs 0) (sym left) ∙ first) in
    record { sized = c.requires.sized k c.index-plans-place.result c.remove-planes.result plan part }

pub loop-place-preserved : goal.loop-place-preserved
loop-place-preserved c =
    let plans = c.args.plans.now in
    let parts = c.args.parts.items in
    let k = c.loop-place.place in
    let many = c.requires.plans in
    let most = c.requires.count in
    let test : k < c.args.count = search rules in
    let less : k < length plans = omega (arith, most, test) in
    let inside : k < length parts = omega (arith, many, less) in
    let left = c.loop-place.invariant.left in
    let count : length c.loop-place.left.items ≡ length (drop k parts) = ap length left in
    let behind = length-drop k parts in
    let some : 0 < length c.loop-place.left.items = omega (arith, inside, count, behind) in
    let plan = slice_get_read plans (length plans) k c.index-plans-place.result refl less c.index-plans-place.is in
    let first = slice_get_read c.loop-place.left.items (length c.loop-place.left.items) 0 c.remove-planes.result refl
    some c.remove-planes.ensures.value in
    let part = first_behind parts k c.remove-planes.result (ap (λ xs. slice_get xs 0) (sym left) ∙ first) in
    let next : c.push.new.self ≡ c.loop-place.pictures ++ c.picture_of.result ∷ [] = search rules in
    record {
      left =
          c.remove-planes.ensures.items ∙ ap (λ xs. remove xs 0) left ∙ left_behind parts k inside;
      are = one_picture plan part c.picture_of.ensures next c.loop-place.invariant.are;
    }
