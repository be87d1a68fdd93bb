-- The coding quadtree of a coding tree unit: its coding units lie in the picture, and lay each of its places once.
use Rattle.std.proofs.Common.{◌≡◌, ℕ, zero, suc, ◌+◌, ◌*◌, ◌/◌, ◌%◌, ◌^◌, ◌<◌, ◌≤◌, Bool, true, false, ◌||◌, ◌&&◌}
use Rattle.std.proofs.Common.{not, cond, List, [], ◌∷◌, ◌++◌, All, refl, ap, sym, subst, ◌∙◌, arith, inl, inr, nat_le}
use Rattle.std.proofs.Common.{nat_lt}
use Rattle.std.specs.List.{list_all, range_with_len}
use Rattle.std.proofs.Math.Nat.{div-add-mod', lt_of_mul-lt-mul_right, mul-le-mul_right}
use Rattle.std.proofs.lemmas.Bool.{and_parts, cases_Bool, le-leb, leb-true, le-ltb, lt-ltb, ltb-false, ltb-true}
use Rattle.std.proofs.lemmas.List.Elements.{All-append, All-cons, All-nil}
use Rattle.block_geometry.specs.Availability.{spread}
use Rattle.ctu_records.specs.declared.item.CodingPlace.{CodingPlace}
use Rattle.ctu_records.specs.declared.item.CodingUnit.{CodingUnit}
use Rattle.ctu_records.specs.declared.item.Item.{Item}
use Rattle.ctu_records.specs.declared.item.Item.TheVariants as item
use Rattle.ctu_records.specs.declared.item.Square.{Square}
use Rattle.ctu_records.specs.declared.offset.Sao.{Sao}
use Rattle.ctu_records.specs.Tree.{Ctu, coding_at, coding_place, with_sao}
use Rattle.spec_cabac.specs.Bins.{Tree}
use Rattle.spec_slice_data.specs.declared.syntax.CtuSyntax.{CtuSyntax}
use Rattle.spec_slice_data.specs.declared.syntax.End.{End}
use Rattle.spec_slice_data.specs.Modes.{lower_left, lower_right, upper_left, upper_right}
use Rattle.spec_slice_data.specs.Quantization.{grouped}
use Rattle.spec_slice_data.specs.Tree.{coding_quadtree, coding_tree_unit, coding_unit, split_cu_flag, split_or_unit}
use Rattle.spec_slice_data.specs.Tree.{unit_and_end, where_reached, whole_unit}
use Rattle.unit_laws.proofs.Bodies.{grouped_same}
use Rattle.unit_laws.proofs.Formats.{Gives, after_any, always, give_gives, then_gives, when_gives}
use Rattle.unit_laws.proofs.InOrder.{gives_same}
use Rattle.unit_laws.proofs.ScanOrder.{IsAligned, end_at, fourth_at, grown, implied, lower_left_aligned}
use Rattle.unit_laws.proofs.ScanOrder.{lower_right_aligned, second_at, side_small, tested_pair, third_at}
use Rattle.unit_laws.proofs.ScanOrder.{upper_left_aligned, upper_right_aligned, whole_aligned}
use Rattle.unit_laws.specs.Order.{is_in, unit_order}
use Rattle.row_above_laws.proofs.Laying.{IsOf, Misses, coding_behind, is_predicted, none_predicted, outside_missed}
use Rattle.row_above_laws.proofs.Laying.{outside_predicted, predicted_append}
use Rattle.row_above_laws.proofs.Bodies.{IsUnitMore, unit_more}
use Rattle.row_above_laws.proofs.Parts.{has_place, no_both, place_of}

-- ---- squares that a picture has

-- a multiple of a side that is less than another leaves room for one more
room_for : (a m x r : ℕ) → x ≡ a * m → r % m ≡ 0 → x < r → x + m ≤ r
room_for a m x r is whole less =
    let parts = div-add-mod' r m in
    let q : r ≡ r / m * m = omega (arith, parts, whole) in
    let below : a * m < r / m * m = omega (arith, is, q, less) in
    let count : a < r / m = lt_of_mul-lt-mul_right m below in
    let most : (a + 1) * m ≤ r / m * m = mul-le-mul_right m (omega (arith, count)) in
    let next : (a + 1) * m ≡ a * m + m = grind arith in
    omega (arith, most, next, is, q)

module _ (syntax : CtuSyntax) (unit : ℕ) where
  -- a square of which the picture has all places
  pub record IsThere (n : ℕ) (s : Square) : Type 0 where
    pub column : s.x + 2 ^ n ≤ syntax.right
    pub row : s.y + 2 ^ n ≤ syntax.lower

  module _ (columns : syntax.right % 2 ^ syntax.log2_min_coding ≡ 0)
      (rows : syntax.lower % 2 ^ syntax.log2_min_coding ≡ 0) where
    least_there : (n : ℕ) (s : Square) → IsAligned unit n s → syntax.log2_min_coding ≡ n
        → (nat_lt s.x syntax.right && nat_lt s.y syntax.lower) ≡ true → IsThere n s
    least_there n s aligned least reached =
        let both = and_parts (nat_lt s.x syntax.right) _ reached in
        let side : 2 ^ syntax.log2_min_coding ≡ 2 ^ n = ap (λ k. 2 ^ k) least in
        record {
          column =
              room_for aligned.a (2 ^ n) s.x syntax.right aligned.x
              (ap (λ k. syntax.right % k) (sym side) ∙ columns) (ltb-true _ _ both.0);
          row =
              room_for aligned.b (2 ^ n) s.y syntax.lower aligned.y
              (ap (λ k. syntax.lower % k) (sym side) ∙ rows) (ltb-true _ _ both.1);
        }

    -- a square of the least size isn't split, and one that is not split is there
    record IsSplit (n : ℕ) (s : Square) (split : Bool) : Type 0 where
      greater : split ≡ true → syntax.log2_min_coding < s.log2_size
      there : split ≡ false → IsThere n s

    split_gives : (n depth : ℕ) (s : Square) (ctu : Ctu) → IsAligned unit n s → syntax.log2_min_coding ≤ n
        → (nat_lt s.x syntax.right && nat_lt s.y syntax.lower) ≡ true
        → Gives (IsSplit n s) (split_cu_flag syntax depth s ctu)
    unfolding split_cu_flag
    split_gives n depth s ctu aligned least reached =
        when_gives (nat_lt syntax.log2_min_coding s.log2_size)
        (λ held.
        let more = ltb-true syntax.log2_min_coding s.log2_size held in
        when_gives (nat_le (s.x + 2 ^ s.log2_size) syntax.right && nat_le (s.y + 2 ^ s.log2_size) syntax.lower)
        (λ fits.
        let both = and_parts (nat_le (s.x + 2 ^ s.log2_size) syntax.right) _ fits in
        let across = leb-true _ _ both.0 in
        let down = leb-true _ _ both.1 in
        let side : 2 ^ s.log2_size ≡ 2 ^ n = ap (λ k. 2 ^ k) aligned.size in
        always _ (λ split. record {
          greater = λ e. more;
          there = λ e. record { column = omega (arith, across, side); row = omega (arith, down, side) };
        }))
        (λ out. give_gives true (record { greater = λ e. more; there = λ e. absurd cc })))
        (λ held.
        let most = ltb-false syntax.log2_min_coding s.log2_size held in
        let same : syntax.log2_min_coding ≡ n = omega (arith, most, least, aligned.size) in
        give_gives false (record {
          greater = λ e. absurd cc;
          there = λ e. least_there n s aligned same reached;
        }))

    -- coding units come right behind what comes before them in z-scan order, and the picture has all their places
    module _ (UpTo : ℕ → Ctu → Type 0)
        (unit_up : (n depth : ℕ) (s : Square) (ctu : Ctu) → IsAligned unit n s → syntax.log2_min_coding ≤ n
        → IsThere n s → UpTo (unit_order s.x s.y) ctu
        → Gives (UpTo (unit_order s.x s.y + 4 ^ n)) (coding_unit syntax depth s ctu))
        (passed_up : (n : ℕ) (s : Square) (ctu : Ctu) → IsAligned unit n s
        → (nat_lt s.x syntax.right && nat_lt s.y syntax.lower) ≡ false → UpTo (unit_order s.x s.y) ctu
        → UpTo (unit_order s.x s.y + 4 ^ n) ctu)
        (grouped_up : (place : ℕ) (s : Square) (ctu : Ctu) → UpTo place ctu → UpTo place (grouped syntax s ctu))
      where
        next_at : (place other : ℕ) (ctu : Ctu) → place ≡ other → UpTo place ctu → UpTo other ctu
        next_at place other ctu is before = subst (λ k. UpTo k ctu) is before

        split_up : (n : ℕ) (quarter : Square → Ctu → Tree Ctu)
            → (syntax.log2_min_coding ≤ n → (s : Square) (c : Ctu) → IsAligned unit n s
            → UpTo (unit_order s.x s.y) c → Gives (UpTo (unit_order s.x s.y + 4 ^ n)) (quarter s c))
            → (depth : ℕ) (s : Square) (ctu : Ctu) → IsAligned unit (suc n) s → syntax.log2_min_coding ≤ suc n
            → (nat_lt s.x syntax.right && nat_lt s.y syntax.lower) ≡ true → UpTo (unit_order s.x s.y) ctu
            → Gives (UpTo (unit_order s.x s.y + 4 ^ suc n)) (split_or_unit syntax quarter depth s ctu)
        split_up n quarter every depth s ctu aligned least reached before =
            then_gives (split_gives (suc n) depth s ctu aligned least reached) (λ split known. when_gives split
            (λ held.
            let above = known.greater held in
            let each = every (omega (arith, above, aligned.size)) in
            then_gives (each (upper_left s) ctu (upper_left_aligned n s aligned) before) (λ first first_before.
            then_gives (each (upper_right s) first (upper_right_aligned n s aligned)
            (next_at _ _ first (sym (second_at n s aligned)) first_before)) (λ second second_before.
            then_gives (each (lower_left s) second (lower_left_aligned n s aligned)
            (next_at _ _ second (sym (third_at n s aligned)) second_before)) (λ third third_before.
            gives_same (UpTo (unit_order (lower_right s).x (lower_right s).y + 4 ^ n))
            (λ c is. next_at _ _ c (end_at n s aligned) is)
            (each (lower_right s) third (lower_right_aligned n s aligned)
            (next_at _ _ third (sym (fourth_at n s aligned)) third_before))))))
            (λ held. unit_up (suc n) depth s ctu aligned least (known.there held) before))

        reached_up : (n : ℕ) (s : Square) (ctu : Ctu) (tree : Tree Ctu) → IsAligned unit n s
            → UpTo (unit_order s.x s.y) ctu
            → ((nat_lt s.x syntax.right && nat_lt s.y syntax.lower) ≡ true
            → Gives (UpTo (unit_order s.x s.y + 4 ^ n)) tree)
            → Gives (UpTo (unit_order s.x s.y + 4 ^ n)) (where_reached syntax s ctu tree)
        reached_up n s ctu tree aligned before gives =
            when_gives (nat_lt s.x syntax.right && nat_lt s.y syntax.lower) gives
            (λ outside. give_gives ctu (passed_up n s ctu aligned outside before))

        pub quadtree_up : (n depth : ℕ) (s : Square) (ctu : Ctu) → IsAligned unit n s → syntax.log2_min_coding ≤ n
            → UpTo (unit_order s.x s.y) ctu
            → Gives (UpTo (unit_order s.x s.y + 4 ^ n)) (coding_quadtree syntax n depth s ctu)
        unfolding coding_quadtree
        quadtree_up zero depth s ctu aligned least before =
            reached_up zero s ctu _ aligned before (λ reached.
            unit_up zero depth s (grouped syntax s ctu) aligned least
            (least_there zero s aligned (omega (arith, least)) reached)
            (grouped_up (unit_order s.x s.y) s ctu before))
        quadtree_up (suc n) depth s ctu aligned least before =
            reached_up (suc n) s ctu _ aligned before (λ reached.
            split_up n (coding_quadtree syntax n (depth + 1)) (λ less t c a b. quadtree_up n (depth + 1) t c a less b)
            depth s (grouped syntax s ctu) aligned least reached (grouped_up (unit_order s.x s.y) s ctu before))

-- ---- z-scan order

-- a greater column or row comes no earlier
rising_ok : ℕ → ℕ → Bool
rising_ok a b = not (nat_le a b) || nat_le (spread a) (spread b)

rising_all : list_all (λ j. rising_ok (j / 16) (j % 16)) (range_with_len 0 256) ≡ true
unfolding rising_ok spread
rising_all = refl

rising : (a b : ℕ) → a ≤ b → b < 16 → spread a ≤ spread b
unfolding rising_ok
rising a b le small =
    leb-true _ _ (implied _ _ (le-leb a b le) (tested_pair rising_ok rising_all a b (omega (arith, le, small)) small))

-- a place of a square comes no earlier than its first one
begins_first : (s : Square) (i j : ℕ) → i < 16 → j < 16 → is_in s i j ≡ true → unit_order s.x s.y ≤ unit_order i j
begins_first s i j i_small j_small held =
    let has = place_of s.x s.y (2 ^ s.log2_size) (2 ^ s.log2_size) i j held in
    omega (arith, rising s.x i has.left i_small, rising s.y j has.top j_small)

-- ---- what is laid

-- a place that the picture has in a unit
pub record IsHere (unit right lower i j : ℕ) : Type 0 where
  pub column : i < 2 ^ unit
  pub row : j < 2 ^ unit
  pub across : i < right
  pub down : j < lower

module _ (unit right lower : ℕ) (small : unit ≤ 4) where
  abbrev Here : ℕ → ℕ → Type 0
  Here i j = IsHere unit right lower i j

  -- up to a place each is laid, in intra mode where it isn't predicted; none behind it is predicted; and nothing is
  -- laid where the unit or the picture has no place
  pub record IsUpTo (place : ℕ) (items : List Item) : Type 0 where
    pub told : (i j : ℕ) → IsHere unit right lower i j → unit_order i j < place
        → (coding_at items i j).intra ≡ not (is_predicted items i j)
    pub rest : (i j : ℕ) → IsHere unit right lower i j → place ≤ unit_order i j → is_predicted items i j ≡ false
    pub outside : (i j : ℕ) → (IsHere unit right lower i j → ⊥) → All (Misses i j) items

  narrow : (i j : ℕ) → Here i j → (i < 16) × (j < 16)
  narrow i j here =
      let most = side_small unit small in (omega (arith, here.column, most), omega (arith, here.row, most))

  neither : (a b : Bool) → a ≡ false → b ≡ false → (a || b) ≡ false
  neither true b e f = absurd cc
  neither false b e f = f

  under : (b : Bool) (v w : CodingPlace) → b ≡ true → cond b v w ≡ v
  under true v w e = refl
  under false v w e = absurd cc

  over : (b : Bool) (v w : CodingPlace) → b ≡ false → cond b v w ≡ w
  over true v w e = absurd cc
  over false v w e = refl

  module _ (n : ℕ) (s : Square) (aligned : IsAligned unit n s) where
    abbrev place : ℕ
    place = unit_order s.x s.y

    before_or_in : (i j : ℕ) → Here i j → unit_order i j < place + 4 ^ n → is_in s i j ≡ false
        → unit_order i j < place
    before_or_in i j here less out =
        let few = narrow i j here in
        let e : (is_in s i j || nat_lt (unit_order i j) place) ≡ true =
        sym (grown n s aligned i j few.0 few.1) ∙ lt-ltb _ _ less in
        ltb-true (unit_order i j) place (sym (ap (λ b. b || nat_lt (unit_order i j) place) out) ∙ e)

    not_in : (i j : ℕ) → Here i j → place + 4 ^ n ≤ unit_order i j → is_in s i j ≡ false
    not_in i j here behind =
        let few = narrow i j here in
        first_false (is_in s i j) (nat_lt (unit_order i j) place)
        (sym (grown n s aligned i j few.0 few.1) ∙ le-ltb _ _ behind)
      where
        first_false : (a b : Bool) → (a || b) ≡ false → a ≡ false
        first_false true b e = absurd cc
        first_false false b e = refl

    passed : (items : List Item) → (nat_lt s.x right && nat_lt s.y lower) ≡ false → IsUpTo place items
        → IsUpTo (place + 4 ^ n) items
    passed items outside up = record {
      told = λ i j here less. up.told i j here (before_or_in i j here less (none i j here));
      rest = λ i j here behind. up.rest i j here (omega (arith, behind));
      outside = up.outside;
    }
      where
        none : (i j : ℕ) → Here i j → is_in s i j ≡ false
        none i j here = elim (cases_Bool (is_in s i j)) [
          | inl held ↦
              let has = place_of s.x s.y (2 ^ s.log2_size) (2 ^ s.log2_size) i j held in
              let across : s.x < right = omega (arith, has.left, here.across) in
              let down : s.y < lower = omega (arith, has.top, here.down) in
              absurd (no_both (nat_lt s.x right && nat_lt s.y lower) (all_of across down) outside)
          | inr other ↦ other
        ]
          where
            all_of : s.x < right → s.y < lower → (nat_lt s.x right && nat_lt s.y lower) ≡ true
            all_of across down =
                ap (λ b. b && nat_lt s.y lower) (lt-ltb s.x right across) ∙ lt-ltb s.y lower down

    -- one more coding unit, whose places the picture has
    module _ (coded : CodingUnit) (here_is : coded.square ≡ s) (across : s.x + 2 ^ n ≤ right)
        (down : s.y + 2 ^ n ≤ lower) (before body : List Item) (each : All (IsOf coded.square coded.intra) body)
        (up : IsUpTo place before)
        (covered : coded.intra ≡ false → (i j : ℕ) → is_in coded.square i j ≡ true
        → is_predicted (before ++ item.Unit coded ∷ body) i j ≡ true) where
      abbrev items : List Item
      items = before ++ item.Unit coded ∷ body

      in_same : (i j : ℕ) → is_in coded.square i j ≡ is_in s i j
      in_same i j = ap (λ q. is_in q i j) here_is

      predicted_is : (i j : ℕ) → is_predicted items i j ≡ (is_predicted before i j || is_predicted body i j)
      predicted_is i j = predicted_append before (item.Unit coded ∷ body) i j

      in_unit : (i j : ℕ) → Here i j → is_in s i j ≡ true → (b : Bool) → coded.intra ≡ b
          → b ≡ not (is_predicted items i j)
      in_unit i j here held true intra =
          let few = narrow i j here in
          let none : is_predicted items i j ≡ false =
          predicted_is i j
          ∙ neither (is_predicted before i j) (is_predicted body i j)
          (up.rest i j here (begins_first s i j few.0 few.1 held))
          (none_predicted coded.square body (subst (λ m. All (IsOf coded.square m) body) intra each) i j) in
          sym (ap not none)
      in_unit i j here held false inter =
          sym (ap not (covered inter i j (in_same i j ∙ held)))

      beside : (i j : ℕ) → is_in s i j ≡ false → is_predicted items i j ≡ is_predicted before i j
      beside i j out =
          predicted_is i j
          ∙ ap (λ b. is_predicted before i j || b)
          (outside_predicted coded.square coded.intra body each i j (in_same i j ∙ out))
          ∙ no_more (is_predicted before i j)
        where
          no_more : (a : Bool) → (a || false) ≡ a
          no_more true = refl
          no_more false = refl

      told_at : (i j : ℕ) → Here i j → unit_order i j < place + 4 ^ n
          → (coding_at items i j).intra ≡ not (is_predicted items i j)
      told_at i j here less = elim (cases_Bool (is_in s i j)) [
        | inl held ↦
            ap (λ (c : CodingPlace). c.intra) (coding_behind before coded body each i j)
            ∙ ap (λ (c : CodingPlace). c.intra)
            (under (is_in coded.square i j) (coding_place coded) (coding_at before i j) (in_same i j ∙ held))
            ∙ in_unit i j here held coded.intra refl
        | inr out ↦
            ap (λ (c : CodingPlace). c.intra) (coding_behind before coded body each i j)
            ∙ ap (λ (c : CodingPlace). c.intra)
            (over (is_in coded.square i j) (coding_place coded) (coding_at before i j) (in_same i j ∙ out))
            ∙ up.told i j here (before_or_in i j here less out) ∙ sym (ap not (beside i j out))
      ]

      inside_of : (i j : ℕ) → is_in s i j ≡ true → Here i j
      inside_of i j held =
          let has = place_of s.x s.y (2 ^ s.log2_size) (2 ^ s.log2_size) i j held in
          let side : 2 ^ s.log2_size ≡ 2 ^ n = ap (λ k. 2 ^ k) aligned.size in
          record {
            column = omega (arith, has.right, side, aligned.across);
            row = omega (arith, has.bottom, side, aligned.down);
            across = omega (arith, has.right, side, across);
            down = omega (arith, has.bottom, side, down);
          }

      out_at : (i j : ℕ) → (Here i j → ⊥) → is_in s i j ≡ false
      out_at i j none = elim (cases_Bool (is_in s i j)) [
        | inl held ↦ absurd (none (inside_of i j held))
        | inr other ↦ other
      ]

      pub one_more : IsUpTo (place + 4 ^ n) items
      one_more = record {
        told = told_at;
        rest = λ i j here behind.
            beside i j (not_in i j here behind) ∙ up.rest i j here (omega (arith, behind));
        outside = λ i j none.
            let out : is_in coded.square i j ≡ false = in_same i j ∙ out_at i j none in
            All-append (Misses i j) before (item.Unit coded ∷ body) (up.outside i j none)
            (All-cons (Misses i j) (item.Unit coded) body out
            (outside_missed coded.square coded.intra body each i j out));
      }

  nothing_yet : IsUpTo (unit_order 0 0) []
  unfolding spread
  nothing_yet = record {
    told = λ i j here less. absurd (omega (arith, less));
    rest = λ i j here behind. refl;
    outside = λ i j none. All-nil (Misses i j);
  }

  -- all that a unit lays
  pub record IsLaid (items : List Item) : Type 0 where
    pub told : (i j : ℕ) → IsHere unit right lower i j
        → (coding_at items i j).intra ≡ not (is_predicted items i j)
    pub outside : (i j : ℕ) → (IsHere unit right lower i j → ⊥) → All (Misses i j) items

  all_before : (i j : ℕ) → Here i j → unit_order i j < unit_order 0 0 + 4 ^ unit
  all_before i j here =
      let few = narrow i j here in
      let whole : is_in (whole_unit unit) i j ≡ true =
      has_place 0 0 (2 ^ unit) (2 ^ unit) i j (record {
        left = omega arith;
        right = omega (arith, here.column);
        top = omega arith;
        bottom = omega (arith, here.row);
      }) in
      ltb-true _ _ (grown unit (whole_unit unit) (whole_aligned unit small) i j few.0 few.1
      ∙ ap (λ b. b || nat_lt (unit_order i j) (unit_order 0 0)) whole)

  whole_laid : (read : List Item) → IsUpTo (unit_order 0 0 + 4 ^ unit) read → IsLaid read
  whole_laid read up = record {
    told = λ i j here. up.told i j here (all_before i j here);
    outside = up.outside;
  }

-- ---- a coding tree unit

module _ (syntax : CtuSyntax) (unit : ℕ) (small : unit ≤ 4) (some : 1 ≤ syntax.log2_min_coding) where
  abbrev Up : ℕ → Ctu → Type 0
  Up place ctu = IsUpTo unit syntax.right syntax.lower small place ctu.items

  unit_laid : (n depth : ℕ) (s : Square) (ctu : Ctu) → IsAligned unit n s → syntax.log2_min_coding ≤ n
      → IsThere syntax unit n s → Up (unit_order s.x s.y) ctu
      → Gives (Up (unit_order s.x s.y + 4 ^ n)) (coding_unit syntax depth s ctu)
  unit_laid n depth s ctu aligned least there up =
      gives_same (λ (c : Ctu). IsUnitMore ctu.items s c.items)
      (λ c more.
      subst (IsUpTo unit syntax.right syntax.lower small (unit_order s.x s.y + 4 ^ n)) (sym more.is)
      (one_more unit syntax.right syntax.lower small n s aligned more.unit more.here there.column there.row ctu.items
      more.body more.each up (λ inter i j held.
      sym (ap (λ items. is_predicted items i j) more.is) ∙ more.covered inter i j held)))
      (unit_more syntax depth s ctu (omega (arith, some, least, aligned.size)))

  grouped_laid : (place : ℕ) (s : Square) (ctu : Ctu) → Up place ctu → Up place (grouped syntax s ctu)
  grouped_laid place s ctu up =
      subst (IsUpTo unit syntax.right syntax.lower small place) (sym (grouped_same syntax s ctu)) up

-- what its reading gives
pub unit_and_end_laid : (syntax : CtuSyntax) (left above : Sao) (is_last ends_subset : Bool) (ctu : Ctu)
    (small : ctu.size ≤ 4) → 1 ≤ syntax.log2_min_coding → syntax.log2_min_coding ≤ ctu.size
    → syntax.right % 2 ^ syntax.log2_min_coding ≡ 0 → syntax.lower % 2 ^ syntax.log2_min_coding ≡ 0
    → ctu.items ≡ []
    → Gives (λ (read : Ctu × End). IsLaid ctu.size syntax.right syntax.lower small read.0.items)
    (unit_and_end syntax left above is_last ends_subset ctu)
unfolding unit_and_end coding_tree_unit
unit_and_end_laid syntax left above is_last ends_subset ctu small some least columns rows none =
    let size : ℕ = ctu.size in
    let first : IsUpTo size syntax.right syntax.lower small (unit_order 0 0) ctu.items =
    subst (IsUpTo size syntax.right syntax.lower small (unit_order 0 0)) (sym none)
    (nothing_yet size syntax.right syntax.lower small) in
    then_gives
    (after_any (λ offsets.
    quadtree_up syntax size columns rows (Up syntax size small some) (unit_laid syntax size small some)
    (λ n s c aligned out up. passed size syntax.right syntax.lower small n s aligned c.items out up)
    (grouped_laid syntax size small some) size 0 (whole_unit size) (with_sao ctu offsets)
    (whole_aligned size small) least first))
    (λ read up. after_any (λ follows. give_gives (read, follows)
    (whole_laid size syntax.right syntax.lower small read.items up)))
