-- What the items of a coding tree unit lay over its places.
use Rattle.std.proofs.Common.{◌≡◌, ℕ, Bool, true, false, ◌||◌, cond, List, [], ◌∷◌, ◌++◌, All, fold}
use Rattle.std.proofs.Common.{refl, ap, ◌∙◌}
use Rattle.std.specs.Prelude.{⊤}
use Rattle.std.proofs.lemmas.List.Elements.{All-head, All-tail}
use Rattle.std.proofs.lemmas.List.Sums.{fold-append}
use Rattle.ctu_records.specs.declared.item.CodingPlace.{CodingPlace}
use Rattle.ctu_records.specs.declared.item.CodingUnit.{CodingUnit}
use Rattle.ctu_records.specs.declared.item.Item.{Item}
use Rattle.ctu_records.specs.declared.item.Item.TheVariants as item
use Rattle.ctu_records.specs.declared.item.Square.{Square}
use Rattle.ctu_records.specs.declared.prediction.PredictionUnit.{PredictionUnit}
use Rattle.ctu_records.specs.declared.side.Side.{Side}
use Rattle.ctu_records.specs.Prediction.{is_inside, part_block}
use Rattle.ctu_records.specs.Tree.{Ctu, coding_at, coding_laid, coding_place, luma_mode_at, luma_mode_laid, no_coding}
use Rattle.ctu_records.specs.Tree.{no_codings, no_mode, no_side, not_read, qp_at, qp_laid}
use Rattle.spec_slice_data.specs.Segment.{side_of}
use Rattle.unit_laws.specs.Order.{is_in}

-- a square lies in another
abbrev pub IsWithin : Square → Square → Type 0
IsWithin inner outer = (i j : ℕ) → is_in outer i j ≡ false → is_in inner i j ≡ false

-- the block of a prediction unit does
abbrev pub IsPartWithin : PredictionUnit → Square → Type 0
IsPartWithin unit outer =
    (i j : ℕ) → is_in outer i j ≡ false → is_inside (part_block unit.unit unit.part_mode unit.part) i j ≡ false

-- an item behind the beginning of a coding unit of this square and this mode
abbrev pub IsOf : Square → Bool → Item → Type 0
IsOf square intra (item.Unit unit) = ⊥
IsOf square intra (item.Luma luma) = IsWithin luma.square square
IsOf square intra (item.Delta delta) = IsWithin delta.square square
IsOf square intra (item.Prediction unit) = (intra ≡ false) × IsPartWithin unit square
IsOf square intra other = ⊤

-- whether the block of a prediction unit has a place
abbrev pub predicts : Item → ℕ → ℕ → Bool
predicts (item.Prediction unit) i j = is_inside (part_block unit.unit unit.part_mode unit.part) i j
predicts other i j = false

abbrev pub is_predicted : List Item → ℕ → ℕ → Bool
is_predicted [] i j = false
is_predicted (item ∷ items) i j = predicts item i j || is_predicted items i j

-- an item lays nothing over a place
abbrev pub Misses : ℕ → ℕ → Item → Type 0
Misses i j (item.Unit unit) = is_in unit.square i j ≡ false
Misses i j (item.Luma luma) = is_in luma.square i j ≡ false
Misses i j (item.Delta delta) = is_in delta.square i j ≡ false
Misses i j other = ⊤

or_assoc : (a b c : Bool) → (a || (b || c)) ≡ ((a || b) || c)
or_assoc true b c = refl
or_assoc false b c = refl

pub predicted_append : (xs ys : List Item) (i j : ℕ)
    → is_predicted (xs ++ ys) i j ≡ (is_predicted xs i j || is_predicted ys i j)
predicted_append [] ys i j = refl
predicted_append (item ∷ xs) ys i j =
    ap (λ b. predicts item i j || b) (predicted_append xs ys i j)
    ∙ or_assoc (predicts item i j) (is_predicted xs i j) (is_predicted ys i j)

neither : (a b : Bool) → a ≡ false → b ≡ false → (a || b) ≡ false
neither true b e f = absurd cc
neither false b e f = f

-- in intra mode there is no prediction unit
none_by : (square : Square) (i : Item) → IsOf square true i → (x y : ℕ) → predicts i x y ≡ false
none_by square (item.Prediction unit) of x y = absurd (let e : true ≡ false = of.0 in cc)
none_by square other of x y = refl

pub none_predicted : (square : Square) (items : List Item) → All (IsOf square true) items → (x y : ℕ)
    → is_predicted items x y ≡ false
none_predicted square [] all x y = refl
none_predicted square (item ∷ items) all x y =
    neither (predicts item x y) (is_predicted items x y)
    (none_by square item (All-head (IsOf square true) item items all) x y)
    (none_predicted square items (All-tail (IsOf square true) item items all) x y)

-- and none reaches out of its coding unit
outside_by : (square : Square) (intra : Bool) (i : Item) → IsOf square intra i → (x y : ℕ) → is_in square x y ≡ false
    → predicts i x y ≡ false
outside_by square intra (item.Prediction unit) of x y out = of.1 x y out
outside_by square intra other of x y out = refl

pub outside_predicted : (square : Square) (intra : Bool) (items : List Item) → All (IsOf square intra) items
    → (x y : ℕ) → is_in square x y ≡ false → is_predicted items x y ≡ false
outside_predicted square intra [] all x y out = refl
outside_predicted square intra (item ∷ items) all x y out =
    neither (predicts item x y) (is_predicted items x y)
    (outside_by square intra item (All-head (IsOf square intra) item items all) x y out)
    (outside_predicted square intra items (All-tail (IsOf square intra) item items all) x y out)

-- nothing of a coding unit is laid outside it
misses_by : (square : Square) (intra : Bool) (i : Item) → IsOf square intra i → (x y : ℕ) → is_in square x y ≡ false
    → Misses x y i
misses_by square intra (item.Unit unit) of x y out = absurd of
misses_by square intra (item.Luma luma) of x y out = of x y out
misses_by square intra (item.Delta delta) of x y out = of x y out
misses_by square intra other of x y out = tt

pub outside_missed : (square : Square) (intra : Bool) (items : List Item) → All (IsOf square intra) items
    → (x y : ℕ) → is_in square x y ≡ false → All (Misses x y) items
outside_missed square intra items all x y out =
    λ k d lt. misses_by square intra _ (all k d lt) x y out

-- it lays no other coding unit
coding_by : (square : Square) (intra : Bool) (i : Item) → IsOf square intra i → (places : ℕ → ℕ → CodingPlace)
    → coding_laid places i ≡ places
coding_by square intra (item.Unit unit) of places = absurd of
coding_by square intra other of places = refl

pub coding_same : (square : Square) (intra : Bool) (items : List Item) → All (IsOf square intra) items
    → (places : ℕ → ℕ → CodingPlace) → fold coding_laid places items ≡ places
coding_same square intra [] all places = refl
coding_same square intra (item ∷ items) all places =
    ap (λ p. fold coding_laid p items)
    (coding_by square intra item (All-head (IsOf square intra) item items all) places)
    ∙ coding_same square intra items (All-tail (IsOf square intra) item items all) places

-- a coding unit behind others
pub coding_behind : (before : List Item) (unit : CodingUnit) (body : List Item)
    → All (IsOf unit.square unit.intra) body → (x y : ℕ)
    → coding_at (before ++ item.Unit unit ∷ body) x y
    ≡ cond (is_in unit.square x y) (coding_place unit) (coding_at before x y)
unfolding coding_at
coding_behind before unit body all x y =
    ap (λ (f : ℕ → ℕ → CodingPlace). f x y) (fold-append coding_laid no_codings before (item.Unit unit ∷ body))
    ∙ ap (λ (f : ℕ → ℕ → CodingPlace). f x y)
    (coding_same unit.square unit.intra body all
    (coding_laid (fold coding_laid no_codings before) (item.Unit unit)))

-- ---- a place over which nothing is laid

not_laid : {A : Type 0} (b : Bool) (v w : A) → b ≡ false → cond b v w ≡ w
not_laid true v w e = absurd cc
not_laid false v w e = refl

module _ (x y : ℕ) where
  coding_missed_by : (places : ℕ → ℕ → CodingPlace) (i : Item) → Misses x y i → coding_laid places i x y ≡ places x y
  coding_missed_by places (item.Unit unit) misses = not_laid (is_in unit.square x y) _ (places x y) misses
  coding_missed_by places other misses = refl

  coding_missed : (items : List Item) (places : ℕ → ℕ → CodingPlace) → All (Misses x y) items
      → fold coding_laid places items x y ≡ places x y
  coding_missed [] places all = refl
  coding_missed (item ∷ items) places all =
      coding_missed items (coding_laid places item) (All-tail (Misses x y) item items all)
      ∙ coding_missed_by places item (All-head (Misses x y) item items all)

  mode_missed_by : (modes : ℕ → ℕ → ℕ) (i : Item) → Misses x y i → luma_mode_laid modes i x y ≡ modes x y
  mode_missed_by modes (item.Luma luma) misses = not_laid (is_in luma.square x y) _ (modes x y) misses
  mode_missed_by modes other misses = refl

  mode_missed : (items : List Item) (modes : ℕ → ℕ → ℕ) → All (Misses x y) items
      → fold luma_mode_laid modes items x y ≡ modes x y
  mode_missed [] modes all = refl
  mode_missed (item ∷ items) modes all =
      mode_missed items (luma_mode_laid modes item) (All-tail (Misses x y) item items all)
      ∙ mode_missed_by modes item (All-head (Misses x y) item items all)

  qp_missed_by : (qps : ℕ → ℕ → ℕ) (i : Item) → Misses x y i → qp_laid qps i x y ≡ qps x y
  qp_missed_by qps (item.Unit unit) misses = not_laid (is_in unit.square x y) _ (qps x y) misses
  qp_missed_by qps (item.Delta delta) misses = not_laid (is_in delta.square x y) _ (qps x y) misses
  qp_missed_by qps other misses = refl

  qp_missed : (items : List Item) (qps : ℕ → ℕ → ℕ) → All (Misses x y) items
      → fold qp_laid qps items x y ≡ qps x y
  qp_missed [] qps all = refl
  qp_missed (item ∷ items) qps all =
      qp_missed items (qp_laid qps item) (All-tail (Misses x y) item items all)
      ∙ qp_missed_by qps item (All-head (Misses x y) item items all)

abbrev side_by : CodingPlace → ℕ → ℕ → Side
side_by coding mode qp = record {
  depth = coding.depth;
  skipped = coding.skipped;
  intra = coding.intra;
  luma_mode = mode;
  qp = qp;
}

-- there nothing was read
pub side_missed : (ctu : Ctu) (x y : ℕ) → All (Misses x y) ctu.items → side_of ctu x y ≡ no_side
unfolding coding_at luma_mode_at qp_at
side_missed ctu x y all =
    ap (λ c. side_by c (luma_mode_at ctu.items x y) (qp_at ctu.items x y))
    (coding_missed x y ctu.items no_codings all)
    ∙ ap (λ m. side_by no_coding m (qp_at ctu.items x y)) (mode_missed x y ctu.items no_mode all)
    ∙ ap (λ q. side_by no_coding 1 q) (qp_missed x y ctu.items not_read all)
