-- What holds of each entry of the tables.
use Rattle.std.proofs.Common.{◌≡◌, ℕ, ◌+◌, ◌-◌, ◌*◌, ◌/◌, ◌%◌, ◌<◌, ◌≤◌, Bool, true, length, get_or, min, max, refl}
use Rattle.std.proofs.Common.{subst, ◌∙◌, zero-add, arith}
use Rattle.std.specs.Prelude.{slice_index, nat_le, nat_eq}
use Rattle.std.specs.List.{list_all, range_with_len}
use Rattle.std.proofs.lemmas.Bool.{leb-true, eqb-true}
use Rattle.std.proofs.lemmas.List.Sums.{AllPass-from_list_all}
use Rattle.std.proofs.lemmas.List.FromFn.{length-range_with_len, get_or-range_with_len}
use Rattle.spec_cabac.specs.Contexts.{lps_range_of, state_after_lps, state_after_mps, pre_context_state}
use Rattle.spec_cabac.specs.declared.tables.TheConstants.{RANGE_TAB_LPS, TRANS_IDX_LPS, TRANS_IDX_MPS}

-- a test of each number below n, once it was computed
pub tested : (p : ℕ → Bool) (n : ℕ) → list_all p (range_with_len 0 n) ≡ true → (k : ℕ) → k < n → p k ≡ true
tested p n computed k below =
    let all = AllPass-from_list_all p (range_with_len 0 n) computed in
    let at : get_or (range_with_len 0 n) k 0 ≡ k = get_or-range_with_len 0 n k 0 below ∙ zero-add k in
    let inside : k < length (range_with_len 0 n) = omega (arith, length-range_with_len 0 n) in
    subst (λ (i : ℕ). p i ≡ true) at (all k 0 inside)

-- each range of a less probable symbol is at least 6, and at most 240
low_all : list_all (λ i. nat_le 6 (slice_index RANGE_TAB_LPS i)) (range_with_len 0 252) ≡ true
low_all = refl

high_all : list_all (λ i. nat_le (slice_index RANGE_TAB_LPS i) 240) (range_with_len 0 252) ≡ true
high_all = refl

pub record IsLpsRange (range : ℕ) : Type 0 where
  pub least : 6 ≤ range
  pub greatest : range ≤ 240

pub lps_range_bounds : (state range : ℕ) → state < 63 → IsLpsRange (lps_range_of state range)
unfolding lps_range_of
lps_range_bounds state range h =
    let inside : 4 * state + range / 64 % 4 < 252 = omega arith in
    record {
      least = leb-true _ _ (tested (λ i. nat_le 6 (slice_index RANGE_TAB_LPS i)) 252 low_all _ inside);
      greatest = leb-true _ _ (tested (λ i. nat_le (slice_index RANGE_TAB_LPS i) 240) 252 high_all _ inside);
    }

-- each next state is below 63
lps_below_all : list_all (λ i. nat_le (slice_index TRANS_IDX_LPS i) 62) (range_with_len 0 63) ≡ true
lps_below_all = refl

mps_below_all : list_all (λ i. nat_le (slice_index TRANS_IDX_MPS i) 62) (range_with_len 0 63) ≡ true
mps_below_all = refl

pub state_after_lps_bound : (state : ℕ) → state < 63 → state_after_lps state < 63
unfolding state_after_lps
state_after_lps_bound state h =
    let le = leb-true _ _ (tested (λ i. nat_le (slice_index TRANS_IDX_LPS i) 62) 63 lps_below_all state h) in
    omega arith

pub state_after_mps_bound : (state : ℕ) → state < 63 → state_after_mps state < 63
unfolding state_after_mps
state_after_mps_bound state h =
    let le = leb-true _ _ (tested (λ i. nat_le (slice_index TRANS_IDX_MPS i) 62) 63 mps_below_all state h) in
    omega arith

-- preCtxState in numbers without a sign, as the code computes it
abbrev pub unsigned_pre_state : ℕ → ℕ → ℕ
unsigned_pre_state qp init_value =
    max 161 (min ((5 * (init_value / 16) * qp + 2304 - 45 * qp) / 16 + 8 * (init_value % 16)) 286) - 160

abbrev same_pre_state : ℕ → Bool
same_pre_state i = nat_eq (unsigned_pre_state (i / 256) (i % 256)) (pre_context_state (i / 256) (i % 256))

same_pre_state_all : list_all same_pre_state (range_with_len 0 13312) ≡ true
unfolding pre_context_state
same_pre_state_all = refl

pub unsigned_pre_state-is : (qp init_value : ℕ) → qp ≤ 51 → init_value < 256
    → unsigned_pre_state qp init_value ≡ pre_context_state qp init_value
unsigned_pre_state-is qp init_value low small =
    let inside : 256 * qp + init_value < 13312 = omega arith in
    let d : (256 * qp + init_value) / 256 ≡ qp = omega arith in
    let m : (256 * qp + init_value) % 256 ≡ init_value = omega arith in
    let e = eqb-true _ _ (tested same_pre_state 13312 same_pre_state_all (256 * qp + init_value) inside) in
    subst (λ (i : ℕ). unsigned_pre_state i init_value ≡ pre_context_state i init_value) d
    (subst (λ (i : ℕ). unsigned_pre_state ((256 * qp + init_value) / 256) i
    ≡ pre_context_state ((256 * qp + init_value) / 256) i)
    m e)

falls_all : list_all (λ i. nat_le (slice_index RANGE_TAB_LPS (i + 4)) (slice_index RANGE_TAB_LPS i))
    (range_with_len 0 248)
    ≡ true
falls_all = refl

grows_all : list_all (λ i. nat_le (slice_index RANGE_TAB_LPS (4 * (i / 3) + i % 3))
    (slice_index RANGE_TAB_LPS (4 * (i / 3) + (i % 3 + 1))))
    (range_with_len 0 189)
    ≡ true
grows_all = refl

lowers_all : list_all (λ i. nat_le (slice_index TRANS_IDX_LPS i) i) (range_with_len 0 63) ≡ true
lowers_all = refl

raises_all : list_all (λ i. nat_eq (slice_index TRANS_IDX_MPS i) (min (i + 1) 62)) (range_with_len 0 63) ≡ true
raises_all = refl

pub range_falls : (state q : ℕ) → state < 62 → q < 4
    → slice_index RANGE_TAB_LPS (4 * (state + 1) + q) ≤ slice_index RANGE_TAB_LPS (4 * state + q)
range_falls state q low small =
    let at : 4 * (state + 1) + q ≡ 4 * state + q + 4 = omega arith in
    rw at (leb-true _ _
    (tested (λ i. nat_le (slice_index RANGE_TAB_LPS (i + 4)) (slice_index RANGE_TAB_LPS i)) 248 falls_all
    (4 * state + q) (omega arith)))

pub range_grows : (state q : ℕ) → state < 63 → q < 3
    → slice_index RANGE_TAB_LPS (4 * state + q) ≤ slice_index RANGE_TAB_LPS (4 * state + (q + 1))
range_grows state q low small =
    let d : (3 * state + q) / 3 ≡ state = omega arith in
    let m : (3 * state + q) % 3 ≡ q = omega arith in
    let all =
    leb-true _ _
    (tested (λ i. nat_le (slice_index RANGE_TAB_LPS (4 * (i / 3) + i % 3))
    (slice_index RANGE_TAB_LPS (4 * (i / 3) + (i % 3 + 1))))
    189 grows_all (3 * state + q) (omega arith)) in
    subst (λ (k : ℕ). slice_index RANGE_TAB_LPS (4 * k + q) ≤ slice_index RANGE_TAB_LPS (4 * k + (q + 1))) d
    (subst (λ (k : ℕ). slice_index RANGE_TAB_LPS (4 * ((3 * state + q) / 3) + k)
    ≤ slice_index RANGE_TAB_LPS (4 * ((3 * state + q) / 3) + (k + 1)))
    m all)

pub lps_lowers : (state : ℕ) → state < 63 → slice_index TRANS_IDX_LPS state ≤ state
lps_lowers state h = leb-true _ _ (tested (λ i. nat_le (slice_index TRANS_IDX_LPS i) i) 63 lowers_all state h)

pub mps_raises : (state : ℕ) → state < 63 → slice_index TRANS_IDX_MPS state ≡ min (state + 1) 62
mps_raises state h =
    eqb-true _ _ (tested (λ i. nat_eq (slice_index TRANS_IDX_MPS i) (min (i + 1) 62)) 63 raises_all state h)
