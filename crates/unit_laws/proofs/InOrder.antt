-- The coding units of a coding tree unit are read in z-scan order.
use Rattle.std.proofs.Common.{◌≡◌, ℕ, zero, suc, ◌+◌, ◌-◌, ◌%◌, ◌^◌, ◌<◌, ◌≤◌, Bool, true, false, List, [], ◌∷◌, ◌++◌}
use Rattle.std.proofs.Common.{length, take, All, refl, sym, ap, subst, ◌∙◌, arith, inl, inr, zero-add}
use Rattle.std.specs.Prelude.{◌||◌, ◌&&◌, nat_lt, nat_le, slice_index_or}
use Rattle.std.proofs.Math.Seq.{take-append_seam}
use Rattle.std.proofs.lemmas.Bool.{and_from, and_parts, cases_Bool, cases_lt, le-ltb, leb-true, lt-ltb, ltb-true}
use Rattle.std.proofs.Math.Nat.{mul-mod_left}
use Rattle.std.proofs.lemmas.List.Elements.{All-nil, All-cons, All-append}
use Rattle.std.proofs.lemmas.List.{get_or_append_left, get_or_push, length-append, take-append-le}
use Rattle.block_geometry.specs.Availability.{spread}
use Rattle.ctu_records.specs.declared.item.Square.{Square}
use Rattle.ctu_records.specs.declared.offset.Sao.{Sao}
use Rattle.ctu_records.specs.Tree.{Ctu, with_sao}
use Rattle.spec_cabac.specs.Bins.{Tree}
use Rattle.spec_slice_data.specs.declared.syntax.CtuSyntax.{CtuSyntax}
use Rattle.spec_slice_data.specs.declared.syntax.End.{End}
use Rattle.spec_slice_data.specs.Modes.{upper_left, upper_right, lower_left, lower_right}
use Rattle.spec_slice_data.specs.Quantization.{grouped}
use Rattle.spec_picture_build.specs.SpecPictureTrees.{first_column, first_row}
use Rattle.spec_slice_data.specs.Segment.{Between, PictureShape, SegmentShape, begins_row, is_last, next_unit}
use Rattle.spec_slice_data.specs.Segment.{syntax_at}
use Rattle.spec_slice_data.specs.Segment.{unit_at, unit_begins}
use Rattle.spec_slice_data.specs.Tree.{coding_quadtree, coding_tree_unit, coding_unit, split_cu_flag, split_or_unit}
use Rattle.spec_slice_data.specs.Tree.{unit_and_end}
use Rattle.spec_slice_data.specs.Tree.{where_reached, whole_unit}
use Rattle.unit_laws.proofs.Bodies.{grouped_same, unit_gives}
use Rattle.unit_laws.proofs.Formats.{Gives, after_any, always, give_gives, then_gives, when_gives}
use Rattle.unit_laws.proofs.ScanOrder.{IsAligned, end_at, fourth_at, grown, lower_left_aligned, lower_right_aligned}
use Rattle.unit_laws.proofs.ScanOrder.{second_at, third_at, upper_left_aligned, upper_right_aligned, whole_aligned}
use Rattle.unit_laws.specs.Order.{AreInScanOrder, AreScanned, HaveThoseBefore, coding_squares, is_in, is_in_any}
use Rattle.unit_laws.specs.Order.{no_square}
use Rattle.unit_laws.specs.Order.{IsWhole, unit_order}

either_first : (a b c : Bool) → (a || (b || c)) ≡ (b || (a || c))
either_first true true c = refl
either_first true false c = refl
either_first false true c = refl
either_first false false c = refl

any_behind : (squares : List Square) (s : Square) (i j : ℕ)
    → is_in_any (squares ++ s ∷ []) i j ≡ (is_in s i j || is_in_any squares i j)
any_behind [] s i j = refl
any_behind (t ∷ squares) s i j =
    ap (λ b. is_in t i j || b) (any_behind squares s i j)
    ∙ either_first (is_in t i j) (is_in s i j) (is_in_any squares i j)

-- what an aligned square is in the words of the law
whole_of : (min_coding unit n : ℕ) (s : Square) → IsAligned unit n s → min_coding ≤ n → IsWhole min_coding unit s
whole_of min_coding unit n s aligned least =
    let side : 2 ^ s.log2_size ≡ 2 ^ n = ap (λ k. 2 ^ k) aligned.size in
    record {
      least = omega (arith, least, aligned.size);
      across = omega (arith, aligned.across, side);
      down = omega (arith, aligned.down, side);
      column = ap (λ k. s.x % k) side ∙ ap (λ k. k % 2 ^ n) aligned.x ∙ mul-mod_left aligned.a (2 ^ n);
      row = ap (λ k. s.y % k) side ∙ ap (λ k. k % 2 ^ n) aligned.y ∙ mul-mod_left aligned.b (2 ^ n);
    }

module _ (min_coding unit right lower : ℕ) where
  -- the coding units so far are in order, and have the places before one in z-scan order
  pub record Reaches (place : ℕ) (squares : List Square) : Type 0 where
    pub each : All (IsWhole min_coding unit) squares
    pub order : AreInScanOrder right lower squares
    pub before : HaveThoseBefore right lower squares place

  -- one more square, which begins where the others end
  order_behind : (squares : List Square) (s : Square) → Reaches (unit_order s.x s.y) squares
      → AreInScanOrder right lower (squares ++ s ∷ [])
  order_behind squares s reaches k below = elim (cases_lt k (length squares)) [
    | inl inside ↦
        let same : take k (squares ++ s ∷ []) ≡ take k squares =
        take-append-le k squares (s ∷ []) (omega (arith, inside)) in
        let at : slice_index_or (squares ++ s ∷ []) k no_square ≡ slice_index_or squares k no_square =
        get_or_append_left squares (s ∷ []) no_square k inside in
        subst (λ q. HaveThoseBefore right lower (take k (squares ++ s ∷ [])) (unit_order q.x q.y)) (sym at)
        (subst (λ qs. HaveThoseBefore right lower qs (unit_order (slice_index_or squares k no_square).x
        (slice_index_or squares k no_square).y)) (sym same) (reaches.order k inside))
    | inr past ↦
        let count : length squares ≡ k = omega (arith, past, below, length-append squares (s ∷ [])) in
        let same : take k (squares ++ s ∷ []) ≡ squares =
        ap (λ m. take m (squares ++ s ∷ [])) (sym count) ∙ take-append_seam squares (s ∷ []) in
        let at : slice_index_or (squares ++ s ∷ []) k no_square ≡ s = get_or_push squares s no_square k count in
        subst (λ q. HaveThoseBefore right lower (take k (squares ++ s ∷ [])) (unit_order q.x q.y)) (sym at)
        (subst (λ qs. HaveThoseBefore right lower qs (unit_order s.x s.y)) (sym same) reaches.before)
  ]

  pub one_more : (n : ℕ) (s : Square) (squares : List Square) → IsAligned unit n s → min_coding ≤ n
      → Reaches (unit_order s.x s.y) squares
      → Reaches (unit_order s.x s.y + 4 ^ n) (squares ++ s ∷ [])
  one_more n s squares aligned least reaches = record {
    each = All-append (IsWhole min_coding unit) squares (s ∷ []) reaches.each
        (All-cons (IsWhole min_coding unit) s [] (whole_of min_coding unit n s aligned least)
        (All-nil (IsWhole min_coding unit)));
    order = order_behind squares s reaches;
    before = λ i j i_small j_small inside above.
        any_behind squares s i j
        ∙ ap (λ b. is_in s i j || b) (reaches.before i j i_small j_small inside above)
        ∙ sym (grown n s aligned i j i_small j_small);
  }

  -- a square that the picture doesn't reach
  pub passed : (n : ℕ) (s : Square) (squares : List Square) → IsAligned unit n s
      → (nat_lt s.x right && nat_lt s.y lower) ≡ false → Reaches (unit_order s.x s.y) squares
      → Reaches (unit_order s.x s.y + 4 ^ n) squares
  passed n s squares aligned outside reaches = record {
    each = reaches.each;
    order = reaches.order;
    before = λ i j i_small j_small inside above.
        reaches.before i j i_small j_small inside above
        ∙ sym (grown n s aligned i j i_small j_small
        ∙ ap (λ b. b || nat_lt (unit_order i j) (unit_order s.x s.y)) (none i j inside above));
  }
    where
      none : (i j : ℕ) → i < right → j < lower → is_in s i j ≡ false
      none i j inside above = elim (cases_Bool (is_in s i j)) [
        | inl held ↦
            let both = and_parts (nat_le s.x i && nat_lt i (s.x + 2 ^ s.log2_size)) _ held in
            let left = leb-true s.x i (and_parts (nat_le s.x i) _ both.0).0 in
            let top = leb-true s.y j (and_parts (nat_le s.y j) _ both.1).0 in
            let across : s.x < right = omega (arith, left, inside) in
            let down : s.y < lower = omega (arith, top, above) in
            let there = and_from (nat_lt s.x right) _ (lt-ltb s.x right across) (lt-ltb s.y lower down) in
            absurd (differ _ there outside)
        | inr other ↦ other
      ]
        where
          differ : (b : Bool) → b ≡ true → b ≡ false → ⊥
          differ true t f = absurd cc
          differ false t f = absurd cc

pub gives_same : {P : Ctu → Type 0} {m : Tree Ctu} (Q : Ctu → Type 0) → ((c : Ctu) → Q c → P c) → Gives Q m → Gives P m
gives_same Q weaker gives = record { gives = λ s t x e. weaker x (gives.gives s t x e) }

-- the coding quadtree, whose coding units come right behind what comes before them
module _ (syntax : CtuSyntax) (unit : ℕ) (UpTo : ℕ → Ctu → Type 0)
    (unit_up : (n depth : ℕ) (s : Square) (ctu : Ctu) → IsAligned unit n s → syntax.log2_min_coding ≤ n
    → UpTo (unit_order s.x s.y) ctu
    → Gives (UpTo (unit_order s.x s.y + 4 ^ n)) (coding_unit syntax depth s ctu))
    (passed_up : (n : ℕ) (s : Square) (ctu : Ctu) → IsAligned unit n s
    → (nat_lt s.x syntax.right && nat_lt s.y syntax.lower) ≡ false → UpTo (unit_order s.x s.y) ctu
    → UpTo (unit_order s.x s.y + 4 ^ n) ctu)
    (grouped_up : (place : ℕ) (s : Square) (ctu : Ctu) → UpTo place ctu → UpTo place (grouped syntax s ctu)) where
  next_at : (place other : ℕ) (ctu : Ctu) → place ≡ other → UpTo place ctu → UpTo other ctu
  next_at place other ctu is before = subst (λ k. UpTo k ctu) is before

  -- a coding unit of the least size isn't split
  split_gives : (depth : ℕ) (square : Square) (ctu : Ctu)
      → Gives (λ split. split ≡ true → syntax.log2_min_coding < square.log2_size)
      (split_cu_flag syntax depth square ctu)
  unfolding split_cu_flag
  split_gives depth square ctu =
      when_gives (nat_lt syntax.log2_min_coding square.log2_size)
      (λ held. always _ (λ split e. ltb-true syntax.log2_min_coding square.log2_size held))
      (λ held. give_gives false (λ e. absurd cc))

  split_up : (n : ℕ) (quarter : Square → Ctu → Tree Ctu)
      → (syntax.log2_min_coding ≤ n → (s : Square) (c : Ctu) → IsAligned unit n s → UpTo (unit_order s.x s.y) c
      → Gives (UpTo (unit_order s.x s.y + 4 ^ n)) (quarter s c))
      → (depth : ℕ) (s : Square) (ctu : Ctu) → IsAligned unit (suc n) s → syntax.log2_min_coding ≤ suc n
      → UpTo (unit_order s.x s.y) ctu
      → Gives (UpTo (unit_order s.x s.y + 4 ^ suc n)) (split_or_unit syntax quarter depth s ctu)
  split_up n quarter every depth s ctu aligned least before =
      then_gives (split_gives depth s ctu) (λ split greater. when_gives split
      (λ held.
      let above = greater held in
      let each = every (omega (arith, above, aligned.size)) in
      then_gives (each (upper_left s) ctu (upper_left_aligned n s aligned) before) (λ first first_before.
      then_gives (each (upper_right s) first (upper_right_aligned n s aligned)
      (next_at _ _ first (sym (second_at n s aligned)) first_before)) (λ second second_before.
      then_gives (each (lower_left s) second (lower_left_aligned n s aligned)
      (next_at _ _ second (sym (third_at n s aligned)) second_before)) (λ third third_before.
      gives_same (UpTo (unit_order (lower_right s).x (lower_right s).y + 4 ^ n))
      (λ c is. next_at _ _ c (end_at n s aligned) is)
      (each (lower_right s) third (lower_right_aligned n s aligned)
      (next_at _ _ third (sym (fourth_at n s aligned)) third_before))))))
      (λ held. unit_up (suc n) depth s ctu aligned least before))

  reached_up : (n : ℕ) (s : Square) (ctu : Ctu) (tree : Tree Ctu) → IsAligned unit n s
      → UpTo (unit_order s.x s.y) ctu → Gives (UpTo (unit_order s.x s.y + 4 ^ n)) tree
      → Gives (UpTo (unit_order s.x s.y + 4 ^ n)) (where_reached syntax s ctu tree)
  reached_up n s ctu tree aligned before gives =
      when_gives (nat_lt s.x syntax.right && nat_lt s.y syntax.lower) (λ held. gives)
      (λ outside. give_gives ctu (passed_up n s ctu aligned outside before))

  pub quadtree_up : (n depth : ℕ) (s : Square) (ctu : Ctu) → IsAligned unit n s → syntax.log2_min_coding ≤ n
      → UpTo (unit_order s.x s.y) ctu
      → Gives (UpTo (unit_order s.x s.y + 4 ^ n)) (coding_quadtree syntax n depth s ctu)
  unfolding coding_quadtree
  quadtree_up zero depth s ctu aligned least before =
      reached_up zero s ctu _ aligned before
      (unit_up zero depth s (grouped syntax s ctu) aligned least (grouped_up (unit_order s.x s.y) s ctu before))
  quadtree_up (suc n) depth s ctu aligned least before =
      reached_up (suc n) s ctu _ aligned before
      (split_up n (coding_quadtree syntax n (depth + 1)) (λ less t c a b. quadtree_up n (depth + 1) t c a less b) depth
      s (grouped syntax s ctu) aligned least (grouped_up (unit_order s.x s.y) s ctu before))

-- before the first square, and behind the last
pub nothing_before : (min_block unit right lower : ℕ) → Reaches min_block unit right lower (unit_order 0 0) []
unfolding spread
nothing_before min_block unit right lower = record {
  each = All-nil (IsWhole min_block unit);
  order = λ k below. absurd (omega (arith, below));
  before = λ i j i_small j_small inside above. sym (le-ltb (unit_order i j) 0 (omega arith));
}

pub scanned : (min_block unit right lower : ℕ) (squares : List Square)
    → Reaches min_block unit right lower (unit_order 0 0 + 4 ^ unit) squares
    → AreScanned min_block unit right lower squares
unfolding spread
scanned min_block unit right lower squares reaches = record {
  each = reaches.each;
  order = reaches.order;
  all = subst (HaveThoseBefore right lower squares) (zero-add (4 ^ unit)) reaches.before;
}

-- a coding tree unit, read from the first place on
module _ (syntax : CtuSyntax) (left above : Sao) (ctu : Ctu) (small : ctu.size ≤ 4)
    (least : syntax.log2_min_coding ≤ ctu.size) where
  pub tree_up : (UpTo : ℕ → Ctu → Type 0)
      → ((n depth : ℕ) (s : Square) (c : Ctu) → IsAligned ctu.size n s → syntax.log2_min_coding ≤ n
      → UpTo (unit_order s.x s.y) c
      → Gives (UpTo (unit_order s.x s.y + 4 ^ n)) (coding_unit syntax depth s c))
      → ((n : ℕ) (s : Square) (c : Ctu) → IsAligned ctu.size n s
      → (nat_lt s.x syntax.right && nat_lt s.y syntax.lower) ≡ false → UpTo (unit_order s.x s.y) c
      → UpTo (unit_order s.x s.y + 4 ^ n) c)
      → ((place : ℕ) (s : Square) (c : Ctu) → UpTo place c → UpTo place (grouped syntax s c))
      → ((offsets : Sao) → UpTo (unit_order 0 0) (with_sao ctu offsets))
      → Gives (UpTo (unit_order 0 0 + 4 ^ ctu.size)) (coding_tree_unit syntax left above ctu)
  unfolding coding_tree_unit
  tree_up UpTo unit_up passed_up grouped_up first =
      after_any (λ offsets.
      quadtree_up syntax ctu.size UpTo unit_up passed_up grouped_up ctu.size 0 (whole_unit ctu.size)
      (with_sao ctu offsets) (whole_aligned ctu.size small) least (first offsets))

-- ---- coding units

module _ (syntax : CtuSyntax) (unit : ℕ) where
  abbrev Before : ℕ → Ctu → Type 0
  Before place ctu =
      Reaches syntax.log2_min_coding unit syntax.right syntax.lower place (coding_squares ctu.items)

  unit_scanned : (n depth : ℕ) (s : Square) (ctu : Ctu) → IsAligned unit n s → syntax.log2_min_coding ≤ n
      → Before (unit_order s.x s.y) ctu
      → Gives (Before (unit_order s.x s.y + 4 ^ n)) (coding_unit syntax depth s ctu)
  unit_scanned n depth s ctu aligned least before =
      gives_same (λ (c : Ctu). coding_squares c.items ≡ coding_squares ctu.items ++ s ∷ [])
      (λ c is.
      subst (Reaches syntax.log2_min_coding unit syntax.right syntax.lower (unit_order s.x s.y + 4 ^ n)) (sym is)
      (one_more syntax.log2_min_coding unit syntax.right syntax.lower n s (coding_squares ctu.items) aligned least
      before))
      (unit_gives syntax depth s ctu)

  grouped_before : (place : ℕ) (s : Square) (ctu : Ctu) → Before place ctu → Before place (grouped syntax s ctu)
  grouped_before place s ctu before =
      subst (λ items. Reaches syntax.log2_min_coding unit syntax.right syntax.lower place (coding_squares items))
      (sym (grouped_same syntax s ctu)) before

  first_before : (ctu : Ctu) → coding_squares ctu.items ≡ [] → Before (unit_order 0 0) ctu
  first_before ctu none =
      subst (Reaches syntax.log2_min_coding unit syntax.right syntax.lower (unit_order 0 0)) (sym none)
      (nothing_before syntax.log2_min_coding unit syntax.right syntax.lower)

module _ (syntax : CtuSyntax) where
  tree_scanned : (left above : Sao) (ctu : Ctu) → ctu.size ≤ 4 → syntax.log2_min_coding ≤ ctu.size
      → coding_squares ctu.items ≡ []
      → Gives
      (λ (read : Ctu). AreScanned syntax.log2_min_coding ctu.size syntax.right syntax.lower (coding_squares read.items))
      (coding_tree_unit syntax left above ctu)
  tree_scanned left above ctu small least none =
      gives_same (Before syntax ctu.size (unit_order 0 0 + 4 ^ ctu.size))
      (λ c is. scanned syntax.log2_min_coding ctu.size syntax.right syntax.lower (coding_squares c.items) is)
      (tree_up syntax left above ctu small least (Before syntax ctu.size) (unit_scanned syntax ctu.size)
      (λ n s c aligned outside before.
      passed syntax.log2_min_coding ctu.size syntax.right syntax.lower n s (coding_squares c.items) aligned outside
      before)
      (grouped_before syntax ctu.size) (λ offsets. first_before syntax ctu.size (with_sao ctu offsets) none))

  pub unit_and_end_scanned : (left above : Sao) (is_last ends_subset : Bool) (ctu : Ctu) → ctu.size ≤ 4
      → syntax.log2_min_coding ≤ ctu.size → coding_squares ctu.items ≡ []
      → Gives
      (λ (read : Ctu × End).
      AreScanned syntax.log2_min_coding ctu.size syntax.right syntax.lower (coding_squares read.0.items))
      (unit_and_end syntax left above is_last ends_subset ctu)
  unfolding unit_and_end
  unit_and_end_scanned left above is_last ends_subset ctu small least none =
      then_gives (tree_scanned left above ctu small least none)
      (λ read scan. after_any (λ follows. give_gives (read, follows) scan))

-- the unit at an address
pub unit_at_scanned : (common : CtuSyntax) (picture : PictureShape) (segment : SegmentShape) (address : ℕ)
    (between : Between)
    → picture.size ≤ 4 → common.log2_min_coding ≤ picture.size
    → Gives
    (λ (read : Ctu × End).
    AreScanned common.log2_min_coding picture.size (picture.across - first_column picture address)
    (picture.down - first_row picture address) (coding_squares read.0.items))
    (unit_at common picture segment address between)
unfolding syntax_at unit_begins
unit_at_scanned common picture segment address between small least =
    unit_and_end_scanned (syntax_at common picture segment address) _ _ (is_last segment address)
    (begins_row picture (next_unit address)) (unit_begins picture segment address between) small least refl
