-- Short-term reference picture sets: st_ref_pic_set (7.3.7, 7.4.8).
use Rattle.std.specs.Prelude.{◌≡◌, ℕ, zero, suc, ◌+◌, ◌-◌, ◌≤◌, ℤ, pos, ◌+ℤ◌, ◌<ℤ◌, neg_ℤ, int_lt, Bool, true, false}
use Rattle.std.specs.Prelude.{List, [], ◌∷◌, ◌++◌, reverse, filter, length, All, AllPairs, slice_index_or, Ok, nat_le}
use Rattle.std.specs.Prelude.{◌==◌, if◌then◌else◌}
use Rattle.hv_base.specs.declared.field_rules.FieldRules.{FieldRules}
use Rattle.header_types.specs.declared.short_term_set.ShortTermRef.{ShortTermRef}
use Rattle.header_types.specs.declared.short_term_set.StRps.{StRps}
use Rattle.header_types.specs.ReferencePictures.{IsStRps}
use Rattle.spec_formats.specs.Format.{when◌then◌else◌}
use Rattle.spec_formats.specs.Fields.{Header, read, ◌>>=◌, give, ranged, flag, ue, ue_to}

-- whether an entry comes before the picture, or after it, in the order of picture order counts
abbrev pub is_before : ShortTermRef → Bool
is_before r = int_lt r.delta_poc (pos 0)

-- whether an entry is behind the picture in output order
abbrev pub is_after : ShortTermRef → Bool
is_after r = int_lt (pos 0) r.delta_poc

-- each entry is below all that follow it
abbrev pub IsRising : List ShortTermRef → Type 0
IsRising rs = AllPairs (λ (a b : ShortTermRef). a.delta_poc <ℤ b.delta_poc) rs

-- each entry is above all that follow it
abbrev pub IsFalling : List ShortTermRef → Type 0
IsFalling rs = AllPairs (λ (a b : ShortTermRef). b.delta_poc <ℤ a.delta_poc) rs

-- the entries before the picture and those after it, the nearest first
pub record IsNearestFirst (s : StRps) : Type 0 where
  pub before : All (λ (r : ShortTermRef). r.delta_poc <ℤ pos 0) s.negative
  pub after : All (λ (r : ShortTermRef). pos 0 <ℤ r.delta_poc) s.positive
  pub falling : IsFalling s.negative
  pub rising : IsRising s.positive

-- a difference by its size and its sign
unfoldable pub signed : Bool → ℕ → ℤ
signed negative size = if negative then neg_ℤ (pos size) else pos size

-- how much further out than the one before it an entry is, and whether it is used
unfoldable pub step : Header (ℕ × Bool)
step = do
  delta_poc_minus1 ← ue_to 32767
  used_by_curr_pic_flag ← flag
  give (delta_poc_minus1 + 1, used_by_curr_pic_flag)

-- so many entries on one side, from a distance outward
unfoldable pub outward : Bool → ℕ → ℕ → Header (List ShortTermRef)
outward negative distance zero = give []
outward negative distance (suc n) = do
  further ← step
  others ← outward negative (distance + further.0) n
  give (record { delta_poc = signed negative (distance + further.0); used = further.1 } ∷ others)

-- a set that tells its entries
unfoldable pub explicit_set : ℕ → Header StRps
explicit_set greatest = do
  num_negative_pics ← ue
  num_positive_pics ← ue
  in_range ← ranged (nat_le (num_negative_pics + num_positive_pics) greatest)
  negative ← outward true 0 num_negative_pics
  positive ← outward false 0 num_positive_pics
  give (record { negative = negative; positive = positive })

-- use_delta_flag, which is 1 where an entry is used
unfoldable pub use_delta : Bool → Header Bool
use_delta true = give true
use_delta false = flag

-- used_by_curr_pic_flag and use_delta_flag
unfoldable pub use_flags : Header (Bool × Bool)
use_flags = do
  used_by_curr_pic_flag ← flag
  use_delta_flag ← use_delta used_by_curr_pic_flag
  give (used_by_curr_pic_flag, use_delta_flag)

-- an entry moved by deltaRps, where it is in use
unfoldable pub moved_entry : ℤ → ShortTermRef → Bool × Bool → List ShortTermRef
moved_entry delta entry flags =
    if flags.1 then record { delta_poc = entry.delta_poc +ℤ delta; used = flags.0 } ∷ [] else []

-- those of a source's entries that are in use, each moved by deltaRps
unfoldable pub moved : ℤ → List ShortTermRef → Header (List ShortTermRef)
moved delta [] = give []
moved delta (entry ∷ entries) = do
  flags ← use_flags
  others ← moved delta entries
  give (moved_entry delta entry flags ++ others)

-- the set that has these entries, given in falling order: those before the picture as they come, those after it from
-- the last on, and no entry at the picture itself (7-59, 7-60)
unfoldable pub sides : List ShortTermRef → StRps
sides falling = record { negative = filter is_before falling; positive = reverse (filter is_after falling) }

-- the picture that the source belongs to, as an entry of it
abbrev pub itself : ShortTermRef
itself = record { delta_poc = pos 0; used = false }

-- a set that tells which entries of another, and whether the other's own picture, it takes over
unfoldable pub moved_set : StRps → ℤ → Header StRps
moved_set source delta = do
  negative ← moved delta source.negative
  positive ← moved delta source.positive
  own ← moved delta (itself ∷ [])
  let set = sides (reverse positive ++ (own ++ negative)) in do
    in_range ← ranged (nat_le (length set.negative + length set.positive) 16)
    give set

-- how far back the source stands, which only the set of a slice segment header tells
unfoldable pub delta_idx_minus1 : ℕ → ℕ → Header ℕ
delta_idx_minus1 index count = when index == count then ue_to (index - 1) else give 0

-- the set at RefRpsIdx, or an empty one where there is none
unfoldable pub source_at : List StRps → ℕ → StRps
source_at former place = slice_index_or former place (record { negative = []; positive = [] })

-- a set that is predicted from another
unfoldable pub predicted_set : ℕ → ℕ → List StRps → Header StRps
predicted_set index count former = do
  delta_idx_minus1 ← delta_idx_minus1 index count
  delta_rps_sign ← flag
  abs_delta_rps_minus1 ← ue_to 32767
  moved_set (source_at former (index - (delta_idx_minus1 + 1))) (signed delta_rps_sign (abs_delta_rps_minus1 + 1))

-- inter_ref_pic_set_prediction_flag, which is 0 for the first set
unfoldable pub is_predicted : ℕ → Header Bool
is_predicted index = when nat_le 1 index then flag else give false

-- st_ref_pic_set(index) of num_short_term_ref_pic_sets sets, behind those that were read before it, where greatest is
-- sps_max_dec_pic_buffering_minus1 of the highest sub-layer
unfoldable pub st_ref_pic_set : ℕ → ℕ → List StRps → ℕ → Header StRps
st_ref_pic_set index count former greatest = do
  inter_ref_pic_set_prediction_flag ← is_predicted index
  when inter_ref_pic_set_prediction_flag
      then predicted_set index count former
      else explicit_set greatest

-- where the entries of each set read before are the nearest first, so are those of a set that is read
abbrev pub KeepsOrder : Type 0
KeepsOrder =
    (rules : FieldRules) (index count : ℕ) (former : List StRps) (greatest : ℕ) (bits : List Bool) (s : StRps)
    (left : List Bool)
    → All IsNearestFirst former → read rules (st_ref_pic_set index count former greatest) bits ≡ Ok (s, left)
    → IsNearestFirst s

-- a set that is read has at most 16 entries; where those of the sets read before are within 32768 n, they are within
-- 32768 (n + 1)
abbrev pub StaysNear : Type 0
StaysNear =
    (rules : FieldRules) (index count : ℕ) (former : List StRps) (greatest : ℕ) (bits : List Bool) (s : StRps)
    (left : List Bool) (n : ℕ)
    → greatest ≤ 15 → 14 ≤ n → All (IsStRps n) former
    → read rules (st_ref_pic_set index count former greatest) bits ≡ Ok (s, left) → IsStRps (n + 1) s
