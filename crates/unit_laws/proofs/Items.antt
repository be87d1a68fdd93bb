-- What is kept of a unit while it is read: its items are sound, and so is what the next ones are derived from.
use Rattle.std.proofs.Common.{ℕ, ◌^◌, ◌<◌, ◌≤◌, Bool, true, false, cond, List, [], ◌∷◌, ◌++◌, sym, subst, arith}
use Rattle.std.specs.Prelude.{slice_index_or, ⊤}
use Rattle.std.specs.List.{All, fold}
use Rattle.std.proofs.lemmas.List.{get_or_append_left, length-append}
use Rattle.std.proofs.lemmas.List.Elements.{All-nil, All-cons, All-append}
use Rattle.std.proofs.lemmas.List.Sums.{fold-append}
use Rattle.ctu_records.specs.declared.item.Item.{Item}
use Rattle.ctu_records.specs.declared.item.Item.TheVariants.{Unit, Luma, Chroma, Prediction, Pcm, Sample, Transform}
use Rattle.ctu_records.specs.declared.item.Item.TheVariants.{Delta, Block, Level}
use Rattle.ctu_records.specs.declared.item.Square.{Square}
use Rattle.ctu_records.specs.declared.records.Quantization.{Quantization}
use Rattle.ctu_records.specs.declared.offset.Sao.{Sao}
use Rattle.ctu_records.specs.Places.{inside}
use Rattle.ctu_records.specs.Tree.{Ctu, added, with_sao, with_quantization, no_side, no_mode, not_read}
use Rattle.ctu_records.specs.Tree.{luma_mode_laid}
use Rattle.ctu_records.specs.Tree.{luma_mode_at, qp_laid, qp_at}
use Rattle.spec_picture_build.specs.SpecReconstruction.{UnitFormat}
use Rattle.spec_picture_build.specs.SpecReconstruction.{sample_of}
use Rattle.spec_picture_build.specs.SpecReconstruction.{IsSound, HasPulses, BeginsPulses, ArePulses}

-- quantization parameters up to a greatest one
pub record IsQuantized (greatest : ℕ) (q : Quantization) : Type 0 where
  pub last : q.last ≤ greatest
  pub predicted : q.predicted ≤ greatest
  pub qp : q.qp ≤ greatest

-- by the format of its samples, and the greatest quantization parameter
pub record IsRead (format : UnitFormat) (greatest : ℕ) (ctu : Ctu) : Type 0 where
  pub each : All (IsSound format) ctu.items
  pub modes : (i j : ℕ) → luma_mode_at ctu.items i j ≤ 34
  pub parameters : (i j : ℕ) → qp_at ctu.items i j ≤ greatest
  pub quantized : IsQuantized greatest ctu.quantization
  pub left : (k : ℕ) → (slice_index_or ctu.left k no_side).luma_mode ≤ 34

-- the same where all samples of the squares by pulse code modulation are read
pub record IsKept (format : UnitFormat) (greatest : ℕ) (ctu : Ctu) : Type 0 where
  pub each : All (IsSound format) ctu.items
  pub pulses : ArePulses format ctu.items
  pub modes : (i j : ℕ) → luma_mode_at ctu.items i j ≤ 34
  pub parameters : (i j : ℕ) → qp_at ctu.items i j ≤ greatest
  pub quantized : IsQuantized greatest ctu.quantization
  pub left : (k : ℕ) → (slice_index_or ctu.left k no_side).luma_mode ≤ 34

-- an item behind which no sample has to stand
abbrev pub IsWhole : Item → Type 0
IsWhole (Pcm square) = ⊥
IsWhole other = ⊤

pub whole_pulses : (format : UnitFormat) (item : Item) → IsWhole item → ArePulses format (item ∷ [])
unfolding ArePulses
whole_pulses format (Pcm square) whole = absurd whole
whole_pulses format other whole = (tt, tt)

has_more : (format : UnitFormat) (square : Square) (xs ys : List Item) → HasPulses format square xs
    → HasPulses format square (xs ++ ys)
has_more format square xs ys has = record {
  count = omega (arith, has.count, length-append xs ys);
  luma = λ k below. subst (λ item. sample_of item < 2 ^ format.pcm_luma_bits)
      (sym (get_or_append_left xs ys (Sample 0) k (omega (arith, below, has.count)))) (has.luma k below);
  chroma = λ k above below. subst (λ item. sample_of item < 2 ^ format.pcm_chroma_bits)
      (sym (get_or_append_left xs ys (Sample 0) k (omega (arith, below, has.count)))) (has.chroma k above below);
}

begins_more : (format : UnitFormat) (item : Item) (xs ys : List Item) → BeginsPulses format item xs
    → BeginsPulses format item (xs ++ ys)
begins_more format (Pcm square) xs ys has = has_more format square xs ys has
begins_more format other xs ys has = tt

pub pulses_appended : (format : UnitFormat) (xs ys : List Item) → ArePulses format xs → ArePulses format ys
    → ArePulses format (xs ++ ys)
unfolding ArePulses
pulses_appended format [] ys before behind = behind
pulses_appended format (item ∷ xs) ys before behind =
    (begins_more format item xs ys before.0, pulses_appended format xs ys before.1 behind)

-- what an item lays is in range
abbrev pub LaysMode : Item → Type 0
LaysMode (Luma luma) = luma.mode ≤ 34
LaysMode other = ⊤

abbrev pub LaysParameter : ℕ → Item → Type 0
LaysParameter greatest (Unit unit) = unit.qp ≤ greatest
LaysParameter greatest (Delta delta) = delta.qp ≤ greatest
LaysParameter greatest other = ⊤

pub cond_below : (b : Bool) (greatest v w : ℕ) → v ≤ greatest → w ≤ greatest → cond b v w ≤ greatest
cond_below true greatest v w first second = first
cond_below false greatest v w first second = second

mode_laid : (modes : ℕ → ℕ → ℕ) (item : Item) → LaysMode item → ((i j : ℕ) → modes i j ≤ 34)
    → (i j : ℕ) → luma_mode_laid modes item i j ≤ 34
mode_laid modes (Unit unit) lays below i j = below i j
mode_laid modes (Luma luma) lays below i j =
    cond_below (inside luma.square.x luma.square.y _ i j) 34 luma.mode (modes i j) lays (below i j)
mode_laid modes (Chroma mode) lays below i j = below i j
mode_laid modes (Prediction unit) lays below i j = below i j
mode_laid modes (Pcm square) lays below i j = below i j
mode_laid modes (Sample value) lays below i j = below i j
mode_laid modes (Transform unit) lays below i j = below i j
mode_laid modes (Delta delta) lays below i j = below i j
mode_laid modes (Block block) lays below i j = below i j
mode_laid modes (Level place value) lays below i j = below i j

parameter_laid : (greatest : ℕ) (qps : ℕ → ℕ → ℕ) (item : Item) → LaysParameter greatest item
    → ((i j : ℕ) → qps i j ≤ greatest) → (i j : ℕ) → qp_laid qps item i j ≤ greatest
parameter_laid greatest qps (Unit unit) lays below i j =
    cond_below (inside unit.square.x unit.square.y _ i j) greatest unit.qp (qps i j) lays (below i j)
parameter_laid greatest qps (Luma luma) lays below i j = below i j
parameter_laid greatest qps (Chroma mode) lays below i j = below i j
parameter_laid greatest qps (Prediction unit) lays below i j = below i j
parameter_laid greatest qps (Pcm square) lays below i j = below i j
parameter_laid greatest qps (Sample value) lays below i j = below i j
parameter_laid greatest qps (Transform unit) lays below i j = below i j
parameter_laid greatest qps (Delta delta) lays below i j =
    cond_below (inside delta.square.x delta.square.y _ i j) greatest delta.qp (qps i j) lays (below i j)
parameter_laid greatest qps (Block block) lays below i j = below i j
parameter_laid greatest qps (Level place value) lays below i j = below i j

modes_added : (items : List Item) (item : Item) → LaysMode item → ((i j : ℕ) → luma_mode_at items i j ≤ 34)
    → (i j : ℕ) → luma_mode_at (items ++ item ∷ []) i j ≤ 34
unfolding luma_mode_at
modes_added items item lays below i j =
    subst (λ (f : ℕ → ℕ → ℕ). f i j ≤ 34) (sym (fold-append luma_mode_laid no_mode items (item ∷ [])))
    (mode_laid (fold luma_mode_laid no_mode items) item lays below i j)

parameters_added : (greatest : ℕ) (items : List Item) (item : Item) → LaysParameter greatest item
    → ((i j : ℕ) → qp_at items i j ≤ greatest) → (i j : ℕ) → qp_at (items ++ item ∷ []) i j ≤ greatest
unfolding qp_at
parameters_added greatest items item lays below i j =
    subst (λ (f : ℕ → ℕ → ℕ). f i j ≤ greatest) (sym (fold-append qp_laid not_read items (item ∷ [])))
    (parameter_laid greatest (fold qp_laid not_read items) item lays below i j)

module _ (format : UnitFormat) (greatest : ℕ) where
  pub added_read : (ctu : Ctu) (item : Item) → IsRead format greatest ctu → IsSound format item → LaysMode item
      → LaysParameter greatest item → IsRead format greatest (added ctu item)
  added_read ctu item kept sound mode parameter = record {
    each =
        All-append (IsSound format) ctu.items (item ∷ []) kept.each
        (All-cons (IsSound format) item [] sound (All-nil (IsSound format)));
    modes = modes_added ctu.items item mode kept.modes;
    parameters = parameters_added greatest ctu.items item parameter kept.parameters;
    quantized = kept.quantized;
    left = kept.left;
  }

  pub read_of : (ctu : Ctu) → IsKept format greatest ctu → IsRead format greatest ctu
  read_of ctu kept = record {
    each = kept.each;
    modes = kept.modes;
    parameters = kept.parameters;
    quantized = kept.quantized;
    left = kept.left;
  }

  pub kept_of : (ctu : Ctu) → IsRead format greatest ctu → ArePulses format ctu.items → IsKept format greatest ctu
  kept_of ctu read pulses = record {
    each = read.each;
    pulses = pulses;
    modes = read.modes;
    parameters = read.parameters;
    quantized = read.quantized;
    left = read.left;
  }

  pub added_kept : (ctu : Ctu) (item : Item) → IsKept format greatest ctu → IsSound format item → LaysMode item
      → LaysParameter greatest item → IsWhole item → IsKept format greatest (added ctu item)
  added_kept ctu item kept sound mode parameter whole =
      kept_of (added ctu item) (added_read ctu item (read_of ctu kept) sound mode parameter)
      (pulses_appended format ctu.items (item ∷ []) kept.pulses (whole_pulses format item whole))

  pub quantized_kept : (ctu : Ctu) (q : Quantization) → IsKept format greatest ctu → IsQuantized greatest q
      → IsKept format greatest (with_quantization ctu q)
  quantized_kept ctu q kept quantized = record {
    each = kept.each;
    pulses = kept.pulses;
    modes = kept.modes;
    parameters = kept.parameters;
    quantized = quantized;
    left = kept.left;
  }

  pub sao_kept : (ctu : Ctu) (sao : Sao) → IsKept format greatest ctu → IsKept format greatest (with_sao ctu sao)
  sao_kept ctu sao kept = record {
    each = kept.each;
    pulses = kept.pulses;
    modes = kept.modes;
    parameters = kept.parameters;
    quantized = kept.quantized;
    left = kept.left;
  }
