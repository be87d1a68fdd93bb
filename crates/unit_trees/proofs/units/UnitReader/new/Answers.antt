use Rattle.std.proofs.Common.{◌≡◌, [], refl, arith}
use Rattle.spec_bits.specs.Bits.{bits}
use Rattle.coding_quadtree.specs.SpecCabac.{Engine}
use Rattle.spec_picture_trees.specs.Picture.{before_picture}
use Rattle.unit_trees.proofs.units.UnitReader.new.Goals as goal

pub returns : goal.returns
unfolding bits before_picture
returns c =
    let engine : Engine = record { range = 256; offset = 0; bits = []; at = 0 } in
    let same : c.resume.result ≡ engine = c.resume.ensures.value engine refl (omega arith) refl in
    rw (same, c.init.ensures) refl
