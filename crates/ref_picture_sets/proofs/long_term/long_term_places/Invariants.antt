use Rattle.std.proofs.Common.{◌≡◌, ◌*◌, ◌^◌, ◌≤◌, map}
use Rattle.std.specs.List.{range_with_len}
use Rattle.spec_reference_pictures.specs.ReferencePictureSet.{long_term_name, msb_cycle_before, place_of}
use Rattle.ref_picture_sets.proofs.long_term.long_term_places.Given as goal

abbrev pub invariant-loop-i : goal.invariant-loop-i
invariant-loop-i l =
    record {
      cycle : l.cycle ≡ msb_cycle_before l.long l.i;
      small : l.cycle ≤ l.i * 2 ^ 32;
      told : l.places
          ≡ map (λ i. place_of (long_term_name l.current.kind l.long l.current.poc i) l.counts) (range_with_len 0 l.i);
    }
