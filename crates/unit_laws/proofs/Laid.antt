-- Samples are laid in z-scan order.
use Rattle.std.proofs.Common.{◌≡◌, ℕ, zero, suc, ◌+◌, ◌-◌, ◌^◌, ◌<◌, ◌≤◌, Bool, true, false, List, [], ◌∷◌, ◌++◌}
use Rattle.std.proofs.Common.{refl, sym, subst, ◌∙◌, arith, inl, inr}
use Rattle.std.specs.Prelude.{◌||◌, ◌&&◌, not, nat_lt, nat_le, if◌then◌else◌}
use Rattle.std.proofs.lemmas.Bool.{and_parts, cases_Bool, eqb-true, ltb-true}
use Rattle.std.proofs.lemmas.List.Sums.{fold-append}
use Rattle.ctu_records.specs.declared.item.CodingUnit.{CodingUnit}
use Rattle.ctu_records.specs.declared.item.Item.{Item}
use Rattle.ctu_records.specs.declared.item.Item.TheVariants as item
use Rattle.ctu_records.specs.declared.item.Square.{Square}
use Rattle.ctu_records.specs.declared.item.TransformUnit.{TransformUnit}
use Rattle.ctu_records.specs.declared.offset.Sao.{Sao}
use Rattle.ctu_records.specs.Tree.{Ctu, added}
use Rattle.spec_cabac.specs.Bins.{Tree}
use Rattle.spec_picture_build.specs.SpecPictureTrees.{first_column, first_row}
use Rattle.spec_slice_data.specs.declared.syntax.ChromaFlags.{ChromaFlags}
use Rattle.spec_slice_data.specs.declared.syntax.CtuSyntax.{CtuSyntax}
use Rattle.spec_slice_data.specs.declared.syntax.End.{End}
use Rattle.spec_slice_data.specs.declared.syntax.UnitStart.{UnitStart}
use Rattle.spec_slice_data.specs.declared.syntax.UnitSyntax.{UnitSyntax}
use Rattle.spec_slice_data.specs.Modes.{upper_left, upper_right, lower_left, lower_right}
use Rattle.spec_slice_data.specs.Quantization.{grouped}
use Rattle.spec_slice_data.specs.Segment.{Between, PictureShape, SegmentShape, begins_row, is_last, next_unit}
use Rattle.spec_slice_data.specs.Segment.{syntax_at}
use Rattle.spec_slice_data.specs.Segment.{unit_at, unit_begins}
use Rattle.spec_slice_data.specs.Transform.{max_depth, split_or_blocks, split_transform_flag, splits_first, transform}
use Rattle.spec_slice_data.specs.Transform.{transform_tree, transform_unit}
use Rattle.spec_slice_data.specs.Tree.{begun_unit, coding_tree_unit, coding_unit, intra_body, intra_syntax}
use Rattle.spec_slice_data.specs.Tree.{intra_unit}
use Rattle.spec_slice_data.specs.Tree.{unit_and_end, unit_at as started, unit_body}
use Rattle.unit_laws.proofs.Bodies.{IsQuiet, blocks_have, grouped_same, inter_has, modes_have, pcm_has, skipped_has}
use Rattle.unit_laws.proofs.Bodies.{start_gives}
use Rattle.unit_laws.proofs.Formats.{Gives, after_any, always, give_gives, then_gives, when_gives}
use Rattle.unit_laws.proofs.InOrder.{Reaches, gives_same, nothing_before, one_more, passed, scanned, tree_up}
use Rattle.unit_laws.proofs.ScanOrder.{IsAligned, end_at, fourth_at, lower_left_aligned, lower_right_aligned}
use Rattle.unit_laws.proofs.ScanOrder.{second_at}
use Rattle.unit_laws.proofs.ScanOrder.{third_at, upper_left_aligned, upper_right_aligned}
use Rattle.unit_laws.specs.Laid.{Laid, laid_by, laid_items, nothing_laid}
use Rattle.unit_laws.specs.Order.{AreScanned, unit_order}

added_laid : (items : List Item) (item : Item) → laid_items (items ++ item ∷ []) ≡ laid_by (laid_items items) item
unfolding laid_items
added_laid items item = fold-append laid_by nothing_laid items (item ∷ [])

quiet_same : (laid : Laid) (item : Item) → IsQuiet item → laid_by laid item ≡ laid
quiet_same laid (item.Unit unit) quiet = absurd quiet
quiet_same laid (item.Pcm square) quiet = absurd quiet
quiet_same laid (item.Transform unit) quiet = absurd quiet
quiet_same laid other quiet = refl

-- what holds of the squares laid so far stays with quiet items
module _ (P : Laid → Type 0) where
  abbrev Kept : List Item → Type 0
  Kept items = P (laid_items items)

  stays : (items : List Item) (item : Item) → IsQuiet item → Kept items → Kept (items ++ item ∷ [])
  stays items item quiet kept =
      subst P (sym (added_laid items item ∙ quiet_same (laid_items items) item quiet)) kept

module _ (min_block unit right lower : ℕ) where
  abbrev Squares : ℕ → List Square → Type 0
  Squares = Reaches min_block unit right lower

  -- squares laid up to a place, in a coding unit of a mode
  record Reach (intra : Bool) (place : ℕ) (laid : Laid) : Type 0 where
    mode : laid.intra ≡ intra
    reaches : Squares place laid.squares

  abbrev UpTo : ℕ → List Item → Type 0
  UpTo place items = Squares place (laid_items items).squares

  abbrev In : Bool → ℕ → List Item → Type 0
  In intra place items = Reach intra place (laid_items items)

  up_to : (intra : Bool) (place : ℕ) (items : List Item) → In intra place items → UpTo place items
  up_to intra place items in_mode = in_mode.reaches

  -- a coding unit begins
  begun : (n : ℕ) (laid : Laid) (coded : CodingUnit) (intra : Bool) → IsAligned unit n coded.square → min_block ≤ n
      → coded.intra ≡ intra
      → Squares (unit_order coded.square.x coded.square.y) laid.squares
      → Reach intra (unit_order coded.square.x coded.square.y + (if intra then 0 else 4 ^ n))
      (laid_by laid (item.Unit coded))
  begun n laid coded true aligned least is before = record {
    mode = is;
    reaches =
        subst (λ k. Squares k (laid_by laid (item.Unit coded)).squares)
        (none_more (unit_order coded.square.x coded.square.y))
        (subst (λ b. Squares (unit_order coded.square.x coded.square.y)
        (if b then laid.squares else laid.squares ++ coded.square ∷ [])) (sym is) before);
  }
    where
      none_more : (k : ℕ) → k ≡ k + 0
      none_more k = omega arith
  begun n laid coded false aligned least is before = record {
    mode = is;
    reaches = subst (λ b. Squares (unit_order coded.square.x coded.square.y + 4 ^ n)
        (if b then laid.squares else laid.squares ++ coded.square ∷ [])) (sym is)
        (one_more min_block unit right lower n coded.square laid.squares aligned least before);
  }

  -- a transform unit of a coding unit in intra mode, and of one in inter mode
  transform_laid : (n : ℕ) (laid : Laid) (part : TransformUnit) → IsAligned unit n part.square → min_block ≤ n
      → Reach true (unit_order part.square.x part.square.y) laid
      → Reach true (unit_order part.square.x part.square.y + 4 ^ n) (laid_by laid (item.Transform part))
  transform_laid n laid part aligned least before =
      subst (Reach true (unit_order part.square.x part.square.y + 4 ^ n)) (sym (by_mode laid.intra before.mode))
      (record {
        mode = before.mode;
        reaches = one_more min_block unit right lower n part.square laid.squares aligned least before.reaches;
      })
    where
      by_mode : (b : Bool) → b ≡ true
          → (if b then record { intra = laid.intra; squares = laid.squares ++ part.square ∷ [] } else laid)
          ≡ record { intra = laid.intra; squares = laid.squares ++ part.square ∷ [] }
      by_mode true e = refl
      by_mode false e = absurd cc

  residual_laid : (place : ℕ) (items : List Item) (part : TransformUnit) → In false place items
      → In false place (items ++ item.Transform part ∷ [])
  residual_laid place items part before =
      subst (Reach false place)
      (sym (added_laid items (item.Transform part) ∙ by_mode (laid_items items).intra before.mode))
      before
    where
      by_mode : (b : Bool) → b ≡ false
          → (if b
          then record {
            intra = (laid_items items).intra;
            squares = (laid_items items).squares ++ part.square ∷ [];
          }
          else laid_items items)
          ≡ laid_items items
      by_mode true e = absurd cc
      by_mode false e = refl

  -- samples by pulse code modulation
  pulses_laid : (n : ℕ) (items : List Item) (s : Square) → IsAligned unit n s → min_block ≤ n
      → UpTo (unit_order s.x s.y) items → UpTo (unit_order s.x s.y + 4 ^ n) (items ++ item.Pcm s ∷ [])
  pulses_laid n items s aligned least before =
      subst (λ (laid : Laid). Squares (unit_order s.x s.y + 4 ^ n) laid.squares) (sym (added_laid items (item.Pcm s)))
      (one_more min_block unit right lower n s (laid_items items).squares aligned least before)

or_second : (a b : Bool) → a ≡ false → (a || b) ≡ true → b ≡ true
or_second true b lacks e = absurd cc
or_second false b lacks e = e

module _ (syntax : CtuSyntax) (unit : ℕ) (fits : syntax.log2_min_transform < syntax.log2_min_coding)
    (most : syntax.log2_min_transform ≤ syntax.log2_max_transform) where
  abbrev Min : ℕ
  Min = syntax.log2_min_transform

  abbrev Up : ℕ → Ctu → Type 0
  Up place ctu = UpTo Min unit syntax.right syntax.lower place ctu.items

  abbrev State : Bool → ℕ → Laid → Type 0
  State = Reach Min unit syntax.right syntax.lower

  abbrev InMode : Bool → ℕ → Ctu → Type 0
  InMode intra place ctu = State intra place (laid_items ctu.items)

  -- a node that is split isn't of the least size
  split_gives : (part : UnitSyntax) (n depth : ℕ) → (depth ≡ 0 → Min < n)
      → Gives (λ split. split ≡ true → Min < n) (split_transform_flag syntax part n depth)
  unfolding split_transform_flag
  split_gives part n depth top =
      when_gives ((nat_le n syntax.log2_max_transform && nat_lt Min n)
      && (nat_lt depth (max_depth syntax part) && not (splits_first part depth)))
      (λ held. always _ (λ split e.
      let sizes = (and_parts (nat_le n syntax.log2_max_transform && nat_lt Min n) _ held).0 in
      ltb-true Min n (and_parts (nat_le n syntax.log2_max_transform) _ sizes).1))
      (λ held. give_gives (nat_lt syntax.log2_max_transform n || splits_first part depth) (λ e. forced e))
    where
      forced : (nat_lt syntax.log2_max_transform n || splits_first part depth) ≡ true → Min < n
      forced e = elim (cases_Bool (nat_lt syntax.log2_max_transform n)) [
        | inl greater ↦
            let above : syntax.log2_max_transform < n = ltb-true syntax.log2_max_transform n greater in
            omega (arith, most, above)
        | inr other ↦
            let first = or_second (nat_lt syntax.log2_max_transform n) (splits_first part depth) other e in
            top (eqb-true depth 0 (and_parts part.split _ first).1)
      ]

  leaf : (n : ℕ) (part : UnitSyntax) (flags : ChromaFlags) (depth : ℕ) (s : Square) (ctu : Ctu) → IsAligned unit n s
      → Min ≤ n → InMode true (unit_order s.x s.y) ctu
      → Gives (InMode true (unit_order s.x s.y + 4 ^ n)) (transform_unit syntax part flags depth s ctu)
  unfolding transform_unit
  leaf n part flags depth s ctu aligned least before =
      after_any (λ coded.
      let block : TransformUnit = transform s depth coded flags in
      blocks_have (Kept (State true (unit_order s.x s.y + 4 ^ n)))
      (stays (State true (unit_order s.x s.y + 4 ^ n))) syntax
      part coded flags s (added ctu (item.Transform block))
      (subst (State true (unit_order s.x s.y + 4 ^ n)) (sym (added_laid ctu.items (item.Transform block)))
      (transform_laid Min unit syntax.right syntax.lower n (laid_items ctu.items) block aligned least before)))

  next_in : (place other : ℕ) (ctu : Ctu) → place ≡ other → InMode true place ctu → InMode true other ctu
  next_in place other ctu is before = subst (λ k. InMode true k ctu) is before

  split_in : (n : ℕ) (quarter : ChromaFlags → Square → Ctu → Tree Ctu)
      → (Min ≤ n → (flags : ChromaFlags) (s : Square) (c : Ctu) → IsAligned unit n s
      → InMode true (unit_order s.x s.y) c
      → Gives (InMode true (unit_order s.x s.y + 4 ^ n)) (quarter flags s c))
      → (part : UnitSyntax) (above : ChromaFlags) (depth : ℕ) (s : Square) (ctu : Ctu) → IsAligned unit (suc n) s
      → Min ≤ suc n → (depth ≡ 0 → Min < suc n) → InMode true (unit_order s.x s.y) ctu
      → Gives (InMode true (unit_order s.x s.y + 4 ^ suc n)) (split_or_blocks quarter syntax part above depth s ctu)
  split_in n quarter every part above depth s ctu aligned least top before =
      then_gives
      (split_gives part s.log2_size depth (λ e. let high = top e in omega (arith, high, aligned.size)))
      (λ split greater. after_any (λ flags. when_gives split
      (λ held.
      let more = greater held in
      let each = every (omega (arith, more, aligned.size)) flags in
      then_gives (each (upper_left s) ctu (upper_left_aligned n s aligned) before) (λ first first_before.
      then_gives (each (upper_right s) first (upper_right_aligned n s aligned)
      (next_in _ _ first (sym (second_at n s aligned)) first_before)) (λ second second_before.
      then_gives (each (lower_left s) second (lower_left_aligned n s aligned)
      (next_in _ _ second (sym (third_at n s aligned)) second_before)) (λ third third_before.
      gives_same (InMode true (unit_order (lower_right s).x (lower_right s).y + 4 ^ n))
      (λ c is. next_in _ _ c (end_at n s aligned) is)
      (each (lower_right s) third (lower_right_aligned n s aligned)
      (next_in _ _ third (sym (fourth_at n s aligned)) third_before))))))
      (λ held. leaf (suc n) part flags depth s ctu aligned least before)))

  tree_in : (part : UnitSyntax) (above : ChromaFlags) (n depth : ℕ) (s : Square) (ctu : Ctu) → IsAligned unit n s
      → Min ≤ n → (depth ≡ 0 → Min < n) → InMode true (unit_order s.x s.y) ctu
      → Gives (InMode true (unit_order s.x s.y + 4 ^ n)) (transform_tree syntax part above n depth s ctu)
  unfolding transform_tree
  tree_in part above zero depth s ctu aligned least top before = leaf zero part above depth s ctu aligned least before
  tree_in part above (suc n) depth s ctu aligned least top before =
      split_in n (λ flags. transform_tree syntax part flags n (depth + 1))
      (λ less flags t c a b. tree_in part flags n (depth + 1) t c a less (λ e. absurd (omega (arith, e))) b) part above
      depth s ctu aligned least top before

  module _ (n : ℕ) (start : UnitStart) (aligned : IsAligned unit n start.square)
      (least : syntax.log2_min_coding ≤ n) where
    abbrev Here : ℕ
    Here = unit_order start.square.x start.square.y

    enough : Min ≤ n
    enough = omega (arith, fits, least)

    intra_laid : (split : Bool) (ctu : Ctu) → InMode true Here ctu
        → Gives (Up (Here + 4 ^ n)) (intra_unit syntax start split ctu)
    unfolding intra_unit
    intra_laid split ctu before =
        then_gives (modes_have (Kept (State true Here)) (stays (State true Here)) split start.square ctu before)
        (λ predicted predicted_before.
        after_any (λ mode.
        gives_same (InMode true (Here + 4 ^ start.square.log2_size))
        (λ c is. subst (λ k. Up (Here + 4 ^ k) c) aligned.size is.reaches)
        (tree_in (intra_syntax start split mode) (record { cb = true; cr = true }) start.square.log2_size 0 start.square
        (added predicted (item.Chroma mode))
        (subst (λ k. IsAligned unit k start.square) (sym aligned.size) aligned)
        (omega (arith, enough, aligned.size)) (λ e. omega (arith, fits, least, aligned.size))
        (stays (State true Here) predicted.items (item.Chroma mode) tt predicted_before))))

    intra_body_laid : (ctu : Ctu) → InMode true Here ctu → Gives (Up (Here + 4 ^ n)) (intra_body syntax start ctu)
    unfolding intra_body
    intra_body_laid ctu before =
        after_any (λ split. after_any (λ pcm. when_gives pcm
        (λ is. pcm_has (UpTo Min unit syntax.right syntax.lower (Here + 4 ^ n))
        (stays (λ (laid : Laid). Squares Min unit syntax.right syntax.lower (Here + 4 ^ n) laid.squares)) syntax.pcm
        start.square ctu
        (pulses_laid Min unit syntax.right syntax.lower n ctu.items start.square aligned enough before.reaches))
        (λ other. intra_laid split ctu before)))

    body_laid : (ctu : Ctu) → Up Here ctu → Gives (Up (Here + 4 ^ n)) (unit_body syntax start (begun_unit start ctu))
    unfolding begun_unit
    body_laid ctu before =
        let coded : CodingUnit = started start ctu in
        when_gives start.intra
        (λ held.
        let none_more : Here + 0 ≡ Here = omega arith in
        intra_body_laid (begun_unit start ctu)
        (subst (State true Here) (sym (added_laid ctu.items (item.Unit coded)))
        (subst (λ k. State true k (laid_by (laid_items ctu.items) (item.Unit coded))) none_more
        (begun Min unit syntax.right syntax.lower n (laid_items ctu.items) coded true aligned enough held before))))
        (λ other.
        let first : InMode false (Here + 4 ^ n) (begun_unit start ctu) =
        subst (State false (Here + 4 ^ n)) (sym (added_laid ctu.items (item.Unit coded)))
        (begun Min unit syntax.right syntax.lower n (laid_items ctu.items) coded false aligned enough other before) in
        gives_same (InMode false (Here + 4 ^ n)) (λ c is. is.reaches)
        (when_gives start.skipped
        (λ held. skipped_has (Kept (State false (Here + 4 ^ n))) (stays (State false (Here + 4 ^ n)))
        (residual_laid Min unit syntax.right syntax.lower (Here + 4 ^ n)) syntax start (begun_unit start ctu) first)
        (λ held. inter_has (Kept (State false (Here + 4 ^ n))) (stays (State false (Here + 4 ^ n)))
        (residual_laid Min unit syntax.right syntax.lower (Here + 4 ^ n)) syntax start (begun_unit start ctu) first)))

  unit_laid : (n depth : ℕ) (s : Square) (ctu : Ctu) → IsAligned unit n s → syntax.log2_min_coding ≤ n
      → Up (unit_order s.x s.y) ctu
      → Gives (Up (unit_order s.x s.y + 4 ^ n)) (coding_unit syntax depth s ctu)
  unfolding coding_unit
  unit_laid n depth s ctu aligned least before =
      then_gives (start_gives syntax depth s ctu) (λ start is.
      subst (λ q. Gives (Up (unit_order q.x q.y + 4 ^ n)) (unit_body syntax start (begun_unit start ctu))) is
      (body_laid n start (subst (IsAligned unit n) (sym is) aligned) least ctu
      (subst (λ q. Up (unit_order q.x q.y) ctu) (sym is) before)))

  passed_laid : (n : ℕ) (s : Square) (ctu : Ctu) → IsAligned unit n s
      → (nat_lt s.x syntax.right && nat_lt s.y syntax.lower) ≡ false → Up (unit_order s.x s.y) ctu
      → Up (unit_order s.x s.y + 4 ^ n) ctu
  passed_laid n s ctu aligned outside before =
      passed Min unit syntax.right syntax.lower n s (laid_items ctu.items).squares aligned outside before

  grouped_laid : (place : ℕ) (s : Square) (ctu : Ctu) → Up place ctu → Up place (grouped syntax s ctu)
  grouped_laid place s ctu before =
      subst (UpTo Min unit syntax.right syntax.lower place) (sym (grouped_same syntax s ctu)) before

module _ (syntax : CtuSyntax) (fits : syntax.log2_min_transform < syntax.log2_min_coding)
    (most : syntax.log2_min_transform ≤ syntax.log2_max_transform) where
  tree_laid : (left above : Sao) (ctu : Ctu) → ctu.size ≤ 4 → syntax.log2_min_coding ≤ ctu.size
      → laid_items ctu.items ≡ nothing_laid
      → Gives
      (λ (read : Ctu).
      AreScanned syntax.log2_min_transform ctu.size syntax.right syntax.lower (laid_items read.items).squares)
      (coding_tree_unit syntax left above ctu)
  tree_laid left above ctu small least none =
      gives_same (Up syntax ctu.size fits most (unit_order 0 0 + 4 ^ ctu.size))
      (λ c is.
      scanned syntax.log2_min_transform ctu.size syntax.right syntax.lower (laid_items c.items).squares is)
      (tree_up syntax left above ctu small least (Up syntax ctu.size fits most) (unit_laid syntax ctu.size fits most)
      (passed_laid syntax ctu.size fits most) (grouped_laid syntax ctu.size fits most)
      (λ offsets.
      subst (λ (laid : Laid). Squares syntax.log2_min_transform ctu.size syntax.right syntax.lower (unit_order 0 0)
      laid.squares) (sym none)
      (nothing_before syntax.log2_min_transform ctu.size syntax.right syntax.lower)))

  unit_and_end_laid : (left above : Sao) (is_last ends_subset : Bool) (ctu : Ctu) → ctu.size ≤ 4
      → syntax.log2_min_coding ≤ ctu.size → laid_items ctu.items ≡ nothing_laid
      → Gives
      (λ (read : Ctu × End).
      AreScanned syntax.log2_min_transform ctu.size syntax.right syntax.lower (laid_items read.0.items).squares)
      (unit_and_end syntax left above is_last ends_subset ctu)
  unfolding unit_and_end
  unit_and_end_laid left above is_last ends_subset ctu small least none =
      then_gives (tree_laid left above ctu small least none)
      (λ read scan. after_any (λ follows. give_gives (read, follows) scan))

-- the unit at an address
pub unit_at_laid : (common : CtuSyntax) (picture : PictureShape) (segment : SegmentShape) (address : ℕ)
    (between : Between)
    → picture.size ≤ 4 → common.log2_min_coding ≤ picture.size → common.log2_min_transform < common.log2_min_coding
    → common.log2_min_transform ≤ common.log2_max_transform
    → Gives
    (λ (read : Ctu × End).
    AreScanned common.log2_min_transform picture.size (picture.across - first_column picture address)
    (picture.down - first_row picture address) (laid_items read.0.items).squares)
    (unit_at common picture segment address between)
unfolding syntax_at unit_begins laid_items
unit_at_laid common picture segment address between small least fits most =
    unit_and_end_laid (syntax_at common picture segment address) fits most _ _ (is_last segment address)
    (begins_row picture (next_unit address)) (unit_begins picture segment address between) small least refl
