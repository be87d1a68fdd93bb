use Rattle.std.proofs.Common.{◌-◌, ◌*◌, ◌≤◌}
use Rattle.header_fields.specs.SpecFormats.{read}
use Rattle.header_fields.proofs.SpecFormatsLemmas.{behind}
use Rattle.header_fields.proofs.Loops.{IsAt}
use Rattle.spec_reference_pictures.specs.ShortTermSets.{outward}
use Rattle.ref_picture_sets.proofs.short_term_explicit.outward.Given as goal

abbrev pub invariant-loop : goal.invariant-loop
invariant-loop l = record {
  at : IsAt l.fn.reader.rules
      (λ bs. behind l.entries (read l.fn.reader.rules (outward l.negative l.distance (l.count - l.counter)) bs))
      (read l.fn.reader.rules (outward l.negative 0 l.count) l.fn.reader.bits) l.reader;
  far : l.distance ≤ 32768 * l.counter;
}
