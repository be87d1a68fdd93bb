-- The contexts of a slice by the SliceQpY that is held in its range.
use Rattle.std.proofs.Common.{◌≡◌, ℕ, ℤ, pos, [], get_or, ap}
use lib.Signed.{mag}
use Rattle.coding_quadtree.specs.SpecCabac.{INIT_VALUES}
use Rattle.coding_quadtree.specs.SpecCabac.{clip3, contexts_of, first_contexts}

pub contexts_same : (v w : ℤ) (init_type : ℕ) → clip3 (pos 0) (pos 51) v ≡ clip3 (pos 0) (pos 51) w
    → first_contexts v init_type ≡ first_contexts w init_type
unfolding first_contexts
contexts_same v w init_type e = ap (λ z. contexts_of (mag z) (get_or INIT_VALUES init_type [])) e
