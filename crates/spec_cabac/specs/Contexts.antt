-- Contexts: their first values, and how a bin changes them. A context is 2 * pStateIdx + valMps.
use Rattle.std.specs.Prelude.{ℕ, ◌+◌, ◌-◌, ◌*◌, ◌/◌, ◌%◌, ◌==◌, nat_le, if◌then◌else◌, slice_index, get_or, List, []}
use Rattle.std.specs.Prelude.{map, ℤ, pos, ◌+ℤ◌, ◌-ℤ◌, ◌*ℤ◌}
use Rattle.std.specs.Int.{int_shr, int_max, int_min}
use Rattle.std.specs.List.{range_with_len}
use lib.Signed.{mag}
use Rattle.spec_cabac.specs.declared.tables.TheConstants.{RANGE_TAB_LPS, TRANS_IDX_LPS, TRANS_IDX_MPS}
use Rattle.spec_cabac.specs.declared.init_values.TheConstants.{INIT_VALUES}

-- ivlLpsRange, where qRangeIdx is (ivlCurrRange >> 6) & 3 (9.3.4.3.2)
unfoldable pub lps_range_of : ℕ → ℕ → ℕ
lps_range_of state range = slice_index RANGE_TAB_LPS (4 * state + range / 64 % 4)

-- the state transition process (9.3.4.3.2.2)
unfoldable pub state_after_lps : ℕ → ℕ
state_after_lps state = slice_index TRANS_IDX_LPS state

-- transIdxMps
unfoldable pub state_after_mps : ℕ → ℕ
state_after_mps state = slice_index TRANS_IDX_MPS state

-- a less probable symbol in state 0 exchanges the symbols
unfoldable pub context_after_lps : ℕ → ℕ
context_after_lps context =
    2 * state_after_lps (context / 2) + (if context / 2 == 0 then 1 - context % 2 else context % 2)

-- a context behind a more probable symbol
unfoldable pub context_after_mps : ℕ → ℕ
context_after_mps context = 2 * state_after_mps (context / 2) + context % 2

-- Clip3(low, high, v), where low isn't above high
abbrev pub clip3 : ℤ → ℤ → ℤ → ℤ
clip3 low high v = int_max low (int_min v high)

-- preCtxState, from 1 to 126, where qp is Clip3(0, 51, SliceQpY) (9.3.2.2)
unfoldable pub pre_context_state : ℕ → ℕ → ℕ
pre_context_state qp init_value =
    let slope = pos (init_value / 16 * 5) -ℤ pos 45 in
    let offset = pos (init_value % 16 * 8) -ℤ pos 16 in
    mag (clip3 (pos 1) (pos 126) (int_shr (slope *ℤ pos qp) 4 +ℤ offset))

-- valMps is 1 from 64 on, and pStateIdx tells how far preCtxState is from the middle
abbrev pub context_of_pre_state : ℕ → ℕ
context_of_pre_state pre = if nat_le pre 63 then 2 * (63 - pre) else 2 * (pre - 64) + 1

-- the first value of a context variable (9.3.2.2)
unfoldable pub first_context : ℕ → ℕ → ℕ
first_context qp init_value = context_of_pre_state (pre_context_state qp init_value)

-- the contexts of these initValues
abbrev pub contexts_of : ℕ → List ℕ → List ℕ
contexts_of qp init_values = map (λ i. first_context qp (slice_index init_values i)) (range_with_len 0 154)

-- all contexts before the first bin of a slice, from SliceQpY and initType (9.3.2.2)
unfoldable pub first_contexts : ℤ → ℕ → List ℕ
first_contexts qp init_type = contexts_of (mag (clip3 (pos 0) (pos 51) qp)) (get_or INIT_VALUES init_type [])
