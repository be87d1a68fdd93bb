-- The coding quadtree by its depth.
use Rattle.std.proofs.Common.{◌≡◌, ℕ, suc, ◌+◌, ◌-◌, ◌<◌, ap, arith}
use Rattle.ctu_records.specs.declared.item.Square.{Square}
use Rattle.ctu_records.specs.Tree.{Ctu}
use Rattle.spec_cabac.specs.Bins.{State, read}
use Rattle.spec_slice_data.specs.declared.syntax.CtuSyntax.{CtuSyntax}
use Rattle.spec_slice_data.specs.Quantization.{grouped}
use Rattle.spec_slice_data.specs.Tree.{coding_quadtree, where_reached, split_or_unit}

pub quadtree_some : (syntax : CtuSyntax) (n depth : ℕ) (square : Square) (ctu : Ctu) (s : State) → 0 < n
    → read (coding_quadtree syntax n depth square ctu) s
    ≡ read (where_reached syntax square ctu
    (split_or_unit syntax (coding_quadtree syntax (n - 1) (depth + 1)) depth square (grouped syntax square ctu)))
    s
unfolding coding_quadtree
quadtree_some syntax n depth square ctu s some =
    let e : n ≡ suc (n - 1) = omega arith in
    ap (λ k. read (coding_quadtree syntax k depth square ctu) s) e
