use Rattle.std.proofs.Common.{◌≡◌}
use Rattle.picture_buffer.specs.Planes.{samples_of}
use Rattle.picture_build.proofs.fresh.FreshPlanes.lay_zeros.Given as goal

abbrev pub invariant-loop-next : goal.invariant-loop-next
invariant-loop-next l = record {
  picture : l.self.picture ≡ l.fn.self.picture;
  layout : l.layout ≡ l.fn.self.picture;
  laid : l.self.laid ≡ l.next;
  samples : samples_of l.self.planes ≡ samples_of l.fn.self.planes;
}
