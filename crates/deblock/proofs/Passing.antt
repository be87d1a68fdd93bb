-- A pass of which a part is known.
use Rattle.std.proofs.Common.{◌≡◌, ℕ, ◌+◌, ◌-◌, ◌*◌, ◌/◌, Bool, true, cond, List, refl}
use Rattle.spec_deblocking.specs.declared.place.Place.{Place}
use Rattle.spec_deblocking.specs.declared.place.Plane.{Plane}
use Rattle.spec_deblocking.specs.Places.{side}
use Rattle.spec_deblocking.specs.Planes.{edge_sample}
use Rattle.deblock.specs.declared.pass.Pass.{Pass}
use Rattle.deblock.specs.Passes.{is_beside}
use Rattle.deblock.specs.Windows.{holds, seen}

abbrev pub pass_with : Pass → Plane → Bool → Pass
pass_with pass plane turned = record {
  plane = plane;
  bit_depth = pass.bit_depth;
  side = pass.side;
  window = record {
    turned = turned;
    across_first = pass.window.across_first;
    across_end = pass.window.across_end;
    along_first = pass.window.along_first;
    along_end = pass.window.along_end;
  };
  first = pass.first;
  end = pass.end;
  along_first = pass.along_first;
  along_end = pass.along_end;
}

pub same_pass : (pass : Pass) (plane : Plane) (turned : Bool) → pass.plane ≡ plane → pass.window.turned ≡ turned
    → pass_with pass plane turned ≡ pass
same_pass pass plane turned e f = rw (← e, ← f) refl

-- samples of which an edge at the lines of a place is filtered
abbrev pub IsFiltered : Pass → ℕ → ℕ → Place → Place → List ℕ → List ℕ → Type 0
IsFiltered pass e s p q old new =
    (places : ℕ → ℕ → Place) → p ≡ places ((8 * e - 1) / side pass.plane) s
    → q ≡ places (8 * e / side pass.plane) s
    → (i j : ℕ) → holds pass.window i j ≡ true
    → seen pass.window new i j
    ≡ cond (is_beside pass.plane s e i j)
    (edge_sample pass.plane pass.bit_depth places (seen pass.window old) e j (i + 4 - 8 * e)) (seen pass.window old i j)
