use Rattle.std.proofs.Common.{ℕ, suc, ◌≡◌, ◌∙◌, ◌+◌, ◌*◌, ◌^◌, ◌≤◌, Option, List, arith, refl, ap, slice_index_or}
use Rattle.header_types.specs.declared.reference_pictures.LongTermRef.{LongTermRef}
use Rattle.header_types.specs.declared.reference_pictures.PictureName.{PictureName}
use Rattle.spec_reference_pictures.specs.ReferencePictureSet.{no_entry, long_term_name, msb_cycle_before, name_by}
use Rattle.spec_reference_pictures.specs.ReferencePictureSet.{place_of}
use Rattle.ref_picture_sets.proofs.Growing.{places_more}
use Rattle.ref_picture_sets.proofs.long_term.long_term_places.Goals as goal

pub loop-i-init : goal.loop-i-init
unfolding msb_cycle_before
loop-i-init c = record { cycle = refl; small = omega arith; told = c.new-places.ensures }

pub loop-i-preserved : goal.loop-i-preserved
unfolding long_term_name
loop-i-preserved c =
    let f : ℕ → Option ℕ =
    λ i. place_of (long_term_name c.args.current.kind c.args.long.now c.args.current.poc i) c.args.counts.now in
    let name : LongTermRef → ℕ → PictureName =
    λ e n. name_by c.args.current.kind.max_lsb c.args.current.poc e.poc_lsb_lt n e.delta_poc_msb_cycle_lt in
    let at : List LongTermRef → LongTermRef = λ entries. slice_index_or entries c.loop-i.i no_entry in
    let one : c.loop-i.i + 1 ≡ suc c.loop-i.i = omega arith in
    let cycle : c.msb_cycle-cycle.result ≡ msb_cycle_before c.args.long.now (suc c.loop-i.i) =
    c.msb_cycle-cycle.ensures.value ∙ ap (msb_cycle_before c.args.long.now) one in
    let next : c.place_of.result ≡ f c.loop-i.i =
    c.place_of.ensures
    ∙ ap (λ n. place_of n c.args.counts.now)
    (c.name_by-name.ensures.value
    ∙ ap (λ entries. name (at entries) c.msb_cycle-cycle.result) c.as_slice-entry-items.ensures
    ∙ ap (name (at c.args.long.now.entries)) cycle) in
    let bound : c.msb_cycle-cycle.result ≤ (c.loop-i.i + 1) * 2 ^ 32 = omega arith in
    record {
      cycle = c.msb_cycle-cycle.ensures.value;
      small = bound;
      told = places_more f c.loop-i.i _ _ _ c.loop-i.invariant.told next c.in_ok-push.ensures.ok;
    }
