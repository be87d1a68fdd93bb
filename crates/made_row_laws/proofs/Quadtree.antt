-- The coding quadtree of a unit: one coding unit, or four.
use Rattle.std.proofs.Common.{◌≡◌, ℕ, ◌+◌, ◌^◌, Bool, true, false, List, [], ◌∷◌, ◌++◌, refl, sym, subst}
use Rattle.std.specs.Prelude.{nat_lt, nat_le, ◌==◌, slice_index_or, is_some}
use Rattle.ctu_records.specs.declared.item.Square.{Square}
use Rattle.ctu_records.specs.declared.offset.Sao.{Sao}
use Rattle.ctu_records.specs.declared.side.Side.{Side}
use Rattle.ctu_records.specs.Tree.{Ctu, no_side, coding_at, skipped_left, skipped_above, depth_left, depth_above}
use Rattle.ctu_records.specs.Tree.{qp_left, qp_above}
use Rattle.spec_cabac.specs.Bins.{Tree, Decision}
use Rattle.spec_cabac.specs.declared.init_values.TheConstants.{SPLIT_CU_FLAG}
use Rattle.spec_slice_data.specs.declared.syntax.CtuSyntax.{CtuSyntax}
use Rattle.spec_slice_data.specs.declared.syntax.InterSyntax.{InterSyntax}
use Rattle.spec_slice_data.specs.Inter.{skipped_beside}
use Rattle.spec_slice_data.specs.Offset.{sao, no_sao}
use Rattle.spec_slice_data.specs.Quantization.{grouped, group_at}
use Rattle.spec_slice_data.specs.Tree.{deeper, split_cu_flag, begun_unit, coding_unit, where_reached, coding_quadtree}
use Rattle.spec_slice_data.specs.Tree.{coding_tree_unit}
use Rattle.spec_made.specs.declared.units.InterUnit.{InterUnit}
use Rattle.spec_made.specs.declared.units.Motion.{Motion}
use Rattle.spec_made.specs.Written.{Bins}
use Rattle.spec_made.specs.InterRows.{is_skipped, part_words, unit_words, beside}
use Rattle.made_row_laws.specs.Shapes.{made_inter}
use Rattle.made_row_laws.specs.Units.{whole, quarter, unit_items, unit_with, IsMotion}
use Rattle.made_row_laws.proofs.Taking.{Takes, gives, asks, then_takes}
use Rattle.made_row_laws.proofs.Predicted.{placed, part_behind, part_taken, four_joined}

-- a unit that lies in the picture as a whole, which has so many columns and rows from its first ones on
pub record IsInside (right lower : ℕ) : Type 0 where
  pub first_column : nat_lt 0 right ≡ true
  pub third_column : nat_lt 2 right ≡ true
  pub columns : nat_le 4 right ≡ true
  pub first_row : nat_lt 0 lower ≡ true
  pub third_row : nat_lt 2 lower ≡ true
  pub rows : nat_le 4 lower ≡ true

flag_taken : (inter : InterSyntax) (has_left has_above : Bool) (right lower : ℕ) (ctu : Ctu) (split : Bool)
    (rest : Bins) → IsInside right lower
    → Takes (split_cu_flag (placed inter has_left has_above right lower) 0 whole ctu) split
    ((Decision (SPLIT_CU_FLAG + deeper ctu 0 0 0), split) ∷ rest) rest
unfolding split_cu_flag
flag_taken inter has_left has_above right lower ctu split rest is =
    rw (is.columns, is.rows) (asks (Decision (SPLIT_CU_FLAG + deeper ctu 0 0 0)) split rest)

reached : (syntax : CtuSyntax) (square : Square) (ctu next : Ctu) (tree : Tree Ctu) (all rest : Bins)
    → nat_lt square.x syntax.right ≡ true → nat_lt square.y syntax.lower ≡ true → Takes tree next all rest
    → Takes (where_reached syntax square ctu tree) next all rest
reached syntax square ctu next tree all rest column row t = rw (column, row) t

quarter_taken : (inter : InterSyntax) (has_left has_above : Bool) (right lower x y : ℕ) (ctu next : Ctu)
    (all rest : Bins) → nat_lt x right ≡ true → nat_lt y lower ≡ true
    → Takes (coding_unit (placed inter has_left has_above right lower) 1 (record { x = x; y = y; log2_size = 1 }) ctu)
    next all rest
    → Takes (coding_quadtree (placed inter has_left has_above right lower) 1 1
    (record { x = x; y = y; log2_size = 1 }) ctu) next all rest
unfolding coding_quadtree split_cu_flag grouped
quarter_taken inter has_left has_above right lower x y ctu next all rest column row t =
    rw (column, row) (then_takes (gives false all) t)

-- a unit before its coding units
abbrev pub begun : List Side → List Side → Ctu
begun left above = unit_with left above []

pub whole_taken : (inter : InterSyntax) (has_left has_above : Bool) (right lower : ℕ) (left above : List Side)
    (next : Ctu) (all rest : Bins) → IsInside right lower
    → Takes (coding_unit (placed inter has_left has_above right lower) 0 whole (begun left above)) next all rest
    → Takes (coding_quadtree (placed inter has_left has_above right lower) 2 0 whole (begun left above)) next
    ((Decision (SPLIT_CU_FLAG + deeper (begun left above) 0 0 0), false) ∷ all) rest
unfolding coding_quadtree grouped group_at qp_left qp_above
whole_taken inter has_left has_above right lower left above next all rest is t =
    rw (is.first_column, is.first_row)
    (then_takes (flag_taken inter has_left has_above right lower (begun left above) false all is) t)

pub quarters_taken : (inter : InterSyntax) (has_left has_above : Bool) (right lower : ℕ) (left above : List Side)
    (first second third fourth : Ctu) (all one two three rest : Bins) → IsInside right lower
    → Takes (coding_unit (placed inter has_left has_above right lower) 1 (quarter 0 0) (begun left above)) first all one
    → Takes (coding_unit (placed inter has_left has_above right lower) 1 (quarter 1 0) first) second one two
    → Takes (coding_unit (placed inter has_left has_above right lower) 1 (quarter 0 1) second) third two three
    → Takes (coding_unit (placed inter has_left has_above right lower) 1 (quarter 1 1) third) fourth three rest
    → Takes (coding_quadtree (placed inter has_left has_above right lower) 2 0 whole (begun left above)) fourth
    ((Decision (SPLIT_CU_FLAG + deeper (begun left above) 0 0 0), true) ∷ all) rest
unfolding coding_quadtree grouped group_at qp_left qp_above
quarters_taken inter has_left has_above right lower left above first second third fourth all one two three rest is a b
    c d =
    let ctu : Ctu = begun left above in
    let p = quarter_taken inter has_left has_above right lower 0 0 ctu first all one is.first_column is.first_row a in
    let q =
    quarter_taken inter has_left has_above right lower 2 0 first second one two is.third_column is.first_row b in
    let r =
    quarter_taken inter has_left has_above right lower 0 2 second third two three is.first_column is.third_row c in
    let s =
    quarter_taken inter has_left has_above right lower 2 2 third fourth three rest is.third_column is.third_row d in
    reached (placed inter has_left has_above right lower) whole ctu fourth _ _ rest is.first_column is.first_row
    (then_takes (flag_taken inter has_left has_above right lower ctu true all is)
    (then_takes p (then_takes q (then_takes r s))))

-- sample adaptive offset isn't coded
pub unit_taken : (inter : InterSyntax) (has_left has_above : Bool) (right lower : ℕ) (sao_left sao_above : Sao)
    (left above : List Side) (next : Ctu) (all rest : Bins)
    → Takes (coding_quadtree (placed inter has_left has_above right lower) 2 0 whole (begun left above)) next all rest
    → Takes (coding_tree_unit (placed inter has_left has_above right lower) sao_left sao_above (begun left above)) next
    all rest
unfolding coding_tree_unit sao
unit_taken inter has_left has_above right lower sao_left sao_above left above next all rest t =
    then_takes (gives no_sao all) t

-- ---- P and B pictures

-- places that tell which coding units of the units on the left and above are skipped, and whether they are split
pub record IsBeside (left above : List Side) (l a : InterUnit) : Type 0 where
  pub left_first : (slice_index_or left 0 no_side).skipped ≡ is_skipped l 1
  pub left_third : (slice_index_or left 2 no_side).skipped ≡ is_skipped l 3
  pub left_depth : nat_lt 0 (slice_index_or left 0 no_side).depth ≡ l.split
  pub above_first : (slice_index_or above 0 no_side).skipped ≡ is_skipped a 2
  pub above_third : (slice_index_or above 2 no_side).skipped ≡ is_skipped a 3
  pub above_depth : nat_lt 0 (slice_index_or above 0 no_side).depth ≡ a.split

deeper_is : (left above : List Side) (l a : InterUnit) → IsBeside left above l a
    → deeper (begun left above) 0 0 0 ≡ beside l.split a.split
unfolding deeper depth_left depth_above
deeper_is left above l a is = rw (is.left_depth, is.above_depth) refl

first_is : (left above : List Side) (l a : InterUnit) → IsBeside left above l a
    → skipped_beside (begun left above) 0 0 ≡ beside (is_skipped l 1) (is_skipped a 2)
unfolding skipped_beside skipped_left skipped_above
first_is left above l a is = rw (is.left_first, is.above_first) refl

second_is : (left above : List Side) (l a : InterUnit) (s : Bool) (m : Motion) → IsBeside left above l a
    → skipped_beside (part_behind 1 (quarter 0 0) s m (begun left above)) 2 0 ≡ beside s (is_skipped a 3)
unfolding skipped_beside skipped_left skipped_above coding_at begun_unit
second_is left above l a s m is = rw is.above_third refl

third_is : (left above : List Side) (l a : InterUnit) (s t : Bool) (m n : Motion) → IsBeside left above l a
    → skipped_beside (part_behind 1 (quarter 1 0) t n (part_behind 1 (quarter 0 0) s m (begun left above))) 0 2
    ≡ beside (is_skipped l 3) s
unfolding skipped_beside skipped_left skipped_above coding_at begun_unit
third_is left above l a s t m n is = rw is.left_third refl

fourth_is : (left above : List Side) (s t u : Bool) (m n : Motion)
    → skipped_beside (part_behind 1 (quarter 0 1) u n
    (part_behind 1 (quarter 1 0) t n (part_behind 1 (quarter 0 0) s m (begun left above)))) 2 2 ≡ beside u t
unfolding skipped_beside skipped_left skipped_above coding_at begun_unit
fourth_is left above s t u m n = refl

-- a coding unit whose context is known
one_taken : (is_b has_left has_above : Bool) (right lower depth x y log2 near : ℕ) (ctu : Ctu) (skipped : Bool)
    (m : Motion) (rest : Bins)
    → (2 ^ log2 + 2 ^ log2 == 3) ≡ false → is_some m.second ≡ is_b → IsMotion m → skipped_beside ctu x y ≡ near
    → Takes (coding_unit (placed (made_inter true is_b) has_left has_above right lower) depth
    (record { x = x; y = y; log2_size = log2 }) ctu)
    (part_behind depth (record { x = x; y = y; log2_size = log2 }) skipped m ctu)
    (part_words depth near skipped m ++ rest) rest
one_taken is_b has_left has_above right lower depth x y log2 near ctu skipped m rest large both small is =
    let square : Square = record { x = x; y = y; log2_size = log2 } in
    subst (λ (n : ℕ). Takes (coding_unit (placed (made_inter true is_b) has_left has_above right lower) depth square
    ctu) (part_behind depth square skipped m ctu) (part_words depth n skipped m ++ rest) rest) is
    (subst (λ (b : Bool). Takes (coding_unit (placed (made_inter true b) has_left has_above right lower) depth square
    ctu) (part_behind depth square skipped m ctu) (part_words depth (skipped_beside ctu x y) skipped m ++ rest) rest)
    both (part_taken has_left has_above right lower depth square ctu skipped m rest large small))

inter_tree : (is_b has_left has_above : Bool) (right lower : ℕ) (left above : List Side) (first later : Motion)
    (l a : InterUnit) (split : Bool) (skips : List Bool) (rest : Bins)
    → IsInside right lower → IsBeside left above l a → is_some first.second ≡ is_b → is_some later.second ≡ is_b
    → IsMotion first → IsMotion later
    → Takes (coding_quadtree (placed (made_inter true is_b) has_left has_above right lower) 2 0 whole
    (begun left above))
    (unit_with left above (unit_items first later (record { split = split; skips = skips })))
    (unit_words first later l a (record { split = split; skips = skips }) ++ rest) rest
unfolding unit_words begun_unit
inter_tree is_b has_left has_above right lower left above first later l a false skips rest inside is one other small
    fits =
    let u : InterUnit = record { split = false; skips = skips } in
    let next : Ctu = part_behind 0 whole (is_skipped u 0) first (begun left above) in
    let words : Bins = part_words 0 (beside (is_skipped l 1) (is_skipped a 2)) (is_skipped u 0) first in
    let unit =
    one_taken is_b has_left has_above right lower 0 0 0 2 (beside (is_skipped l 1) (is_skipped a 2))
    (begun left above) (is_skipped u 0) first rest refl one small (first_is left above l a is) in
    subst (λ (n : ℕ). Takes (coding_quadtree (placed (made_inter true is_b) has_left has_above right lower) 2 0 whole
    (begun left above)) next ((Decision (SPLIT_CU_FLAG + n), false) ∷ (words ++ rest)) rest)
    (deeper_is left above l a is)
    (whole_taken (made_inter true is_b) has_left has_above right lower left above next (words ++ rest) rest inside unit)
inter_tree is_b has_left has_above right lower left above first later l a true skips rest inside is one other small
    fits =
    let u : InterUnit = record { split = true; skips = skips } in
    let inter : InterSyntax = made_inter true is_b in
    let c0 : Ctu = begun left above in
    let c1 : Ctu = part_behind 1 (quarter 0 0) (is_skipped u 0) first c0 in
    let c2 : Ctu = part_behind 1 (quarter 1 0) (is_skipped u 1) later c1 in
    let c3 : Ctu = part_behind 1 (quarter 0 1) (is_skipped u 2) later c2 in
    let c4 : Ctu = part_behind 1 (quarter 1 1) (is_skipped u 3) later c3 in
    let w0 : Bins = part_words 1 (beside (is_skipped l 1) (is_skipped a 2)) (is_skipped u 0) first in
    let w1 : Bins = part_words 1 (beside (is_skipped u 0) (is_skipped a 3)) (is_skipped u 1) later in
    let w2 : Bins = part_words 1 (beside (is_skipped l 3) (is_skipped u 0)) (is_skipped u 2) later in
    let w3 : Bins = part_words 1 (beside (is_skipped u 2) (is_skipped u 1)) (is_skipped u 3) later in
    let l3 : Bins = w3 ++ rest in
    let l2 : Bins = w2 ++ l3 in
    let l1 : Bins = w1 ++ l2 in
    let l0 : Bins = w0 ++ l1 in
    let p =
    one_taken is_b has_left has_above right lower 1 0 0 1 (beside (is_skipped l 1) (is_skipped a 2)) c0
    (is_skipped u 0) first l1 refl one small (first_is left above l a is) in
    let q =
    one_taken is_b has_left has_above right lower 1 2 0 1 (beside (is_skipped u 0) (is_skipped a 3)) c1
    (is_skipped u 1) later l2 refl other fits (second_is left above l a (is_skipped u 0) first is) in
    let r =
    one_taken is_b has_left has_above right lower 1 0 2 1 (beside (is_skipped l 3) (is_skipped u 0)) c2
    (is_skipped u 2) later l3 refl other fits
    (third_is left above l a (is_skipped u 0) (is_skipped u 1) first later is) in
    let s =
    one_taken is_b has_left has_above right lower 1 2 2 1 (beside (is_skipped u 2) (is_skipped u 1)) c3
    (is_skipped u 3) later rest refl other fits
    (fourth_is left above (is_skipped u 0) (is_skipped u 1) (is_skipped u 2) first later) in
    let t =
    quarters_taken inter has_left has_above right lower left above c1 c2 c3 c4 l0 l1 l2 l3 rest inside p q r s in
    subst (λ (words : Bins). Takes (coding_quadtree (placed inter has_left has_above right lower) 2 0 whole c0) c4
    ((Decision (SPLIT_CU_FLAG + beside l.split a.split), true) ∷ words) rest) (sym (four_joined w0 w1 w2 w3 rest))
    (subst (λ (n : ℕ). Takes (coding_quadtree (placed inter has_left has_above right lower) 2 0 whole c0) c4
    ((Decision (SPLIT_CU_FLAG + n), true) ∷ l0) rest) (deeper_is left above l a is) t)

pub inter_taken : (is_b has_left has_above : Bool) (right lower : ℕ) (sao_left sao_above : Sao)
    (left above : List Side) (first later : Motion) (l a u : InterUnit) (rest : Bins)
    → IsInside right lower → IsBeside left above l a → is_some first.second ≡ is_b → is_some later.second ≡ is_b
    → IsMotion first → IsMotion later
    → Takes (coding_tree_unit (placed (made_inter true is_b) has_left has_above right lower) sao_left sao_above
    (begun left above)) (unit_with left above (unit_items first later u)) (unit_words first later l a u ++ rest) rest
inter_taken is_b has_left has_above right lower sao_left sao_above left above first later l a u rest inside is one other
    small fits =
    unit_taken (made_inter true is_b) has_left has_above right lower sao_left sao_above left above
    (unit_with left above (unit_items first later u)) (unit_words first later l a u ++ rest) rest
    (inter_tree is_b has_left has_above right lower left above first later l a u.split u.skips rest inside is one other
    small fits)
