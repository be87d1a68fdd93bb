-- The tables of arithmetic decoding a second time, laid out the other way: the ranges column by column, both next
-- states of each state side by side, and initValue of each context for all three initTypes, element by element.
use Rattle.std.specs.Prelude.{ℕ, ◌+◌, List, [], ◌∷◌, ◌++◌, length, get_or, slice_index}
use Rattle.spec_cabac.specs.declared.init_values.TheConstants.{ABS_MVD_GREATER0_FLAG, ABS_MVD_GREATER1_FLAG}
use Rattle.spec_cabac.specs.declared.init_values.TheConstants.{CBF_CHROMA}
use Rattle.spec_cabac.specs.declared.init_values.TheConstants.{CBF_LUMA, CODED_SUB_BLOCK_FLAG}
use Rattle.spec_cabac.specs.declared.init_values.TheConstants.{COEFF_ABS_LEVEL_GREATER1_FLAG}
use Rattle.spec_cabac.specs.declared.init_values.TheConstants.{COEFF_ABS_LEVEL_GREATER2_FLAG, CU_QP_DELTA_ABS}
use Rattle.spec_cabac.specs.declared.init_values.TheConstants.{CU_SKIP_FLAG, CU_TRANSQUANT_BYPASS_FLAG, INIT_VALUES}
use Rattle.spec_cabac.specs.declared.init_values.TheConstants.{INTER_PRED_IDC, INTRA_CHROMA_PRED_MODE}
use Rattle.spec_cabac.specs.declared.init_values.TheConstants.{LAST_SIG_COEFF_X_PREFIX, LAST_SIG_COEFF_Y_PREFIX}
use Rattle.spec_cabac.specs.declared.init_values.TheConstants.{MERGE_FLAG, MERGE_IDX, MVP_FLAG, PART_MODE}
use Rattle.spec_cabac.specs.declared.init_values.TheConstants.{PRED_MODE_FLAG, PREV_INTRA_LUMA_PRED_FLAG, REF_IDX}
use Rattle.spec_cabac.specs.declared.init_values.TheConstants.{RQT_ROOT_CBF, SAO_MERGE_FLAG, SAO_TYPE_IDX}
use Rattle.spec_cabac.specs.declared.init_values.TheConstants.{SIG_COEFF_FLAG, SPLIT_CU_FLAG, SPLIT_TRANSFORM_FLAG}
use Rattle.spec_cabac.specs.declared.init_values.TheConstants.{TRANSFORM_SKIP_FLAG}

-- rangeTabLps where qRangeIdx is 0: the ranges of all pStateIdx (9.3.4.3.2)
abbrev ranges_0 : List ℕ
ranges_0 =
    128 ∷ 128 ∷ 128 ∷ 123 ∷ 116 ∷ 111 ∷ 105 ∷ 100 ∷ 95 ∷ 90 ∷ 85 ∷ 81 ∷ 77 ∷ 73 ∷ 69 ∷ 66 ∷
    62 ∷ 59 ∷ 56 ∷ 53 ∷ 51 ∷ 48 ∷ 46 ∷ 43 ∷ 41 ∷ 39 ∷ 37 ∷ 35 ∷ 33 ∷ 32 ∷ 30 ∷ 29 ∷
    27 ∷ 26 ∷ 24 ∷ 23 ∷ 22 ∷ 21 ∷ 20 ∷ 19 ∷ 18 ∷ 17 ∷ 16 ∷ 15 ∷ 14 ∷ 14 ∷ 13 ∷ 12 ∷
    12 ∷ 11 ∷ 11 ∷ 10 ∷ 10 ∷ 9 ∷ 9 ∷ 8 ∷ 8 ∷ 7 ∷ 7 ∷ 7 ∷ 6 ∷ 6 ∷ 6 ∷ 2 ∷ []

-- rangeTabLps where qRangeIdx is 1: the ranges of all pStateIdx (9.3.4.3.2)
abbrev ranges_1 : List ℕ
ranges_1 =
    176 ∷ 167 ∷ 158 ∷ 150 ∷ 142 ∷ 135 ∷ 128 ∷ 122 ∷ 116 ∷ 110 ∷ 104 ∷ 99 ∷ 94 ∷ 89 ∷ 85 ∷ 80 ∷
    76 ∷ 72 ∷ 69 ∷ 65 ∷ 62 ∷ 59 ∷ 56 ∷ 53 ∷ 50 ∷ 48 ∷ 45 ∷ 43 ∷ 41 ∷ 39 ∷ 37 ∷ 35 ∷
    33 ∷ 31 ∷ 30 ∷ 28 ∷ 27 ∷ 26 ∷ 24 ∷ 23 ∷ 22 ∷ 21 ∷ 20 ∷ 19 ∷ 18 ∷ 17 ∷ 16 ∷ 15 ∷
    14 ∷ 14 ∷ 13 ∷ 12 ∷ 12 ∷ 11 ∷ 11 ∷ 10 ∷ 9 ∷ 9 ∷ 9 ∷ 8 ∷ 8 ∷ 7 ∷ 7 ∷ 2 ∷ []

-- rangeTabLps where qRangeIdx is 2: the ranges of all pStateIdx (9.3.4.3.2)
abbrev ranges_2 : List ℕ
ranges_2 =
    208 ∷ 197 ∷ 187 ∷ 178 ∷ 169 ∷ 160 ∷ 152 ∷ 144 ∷ 137 ∷ 130 ∷ 123 ∷ 117 ∷ 111 ∷ 105 ∷ 100 ∷ 95 ∷
    90 ∷ 86 ∷ 81 ∷ 77 ∷ 73 ∷ 69 ∷ 66 ∷ 63 ∷ 59 ∷ 56 ∷ 54 ∷ 51 ∷ 48 ∷ 46 ∷ 43 ∷ 41 ∷
    39 ∷ 37 ∷ 35 ∷ 33 ∷ 32 ∷ 30 ∷ 29 ∷ 27 ∷ 26 ∷ 25 ∷ 23 ∷ 22 ∷ 21 ∷ 20 ∷ 19 ∷ 18 ∷
    17 ∷ 16 ∷ 15 ∷ 15 ∷ 14 ∷ 13 ∷ 12 ∷ 12 ∷ 11 ∷ 11 ∷ 10 ∷ 10 ∷ 9 ∷ 9 ∷ 8 ∷ 2 ∷ []

-- rangeTabLps where qRangeIdx is 3: the ranges of all pStateIdx (9.3.4.3.2)
abbrev ranges_3 : List ℕ
ranges_3 =
    240 ∷ 227 ∷ 216 ∷ 205 ∷ 195 ∷ 185 ∷ 175 ∷ 166 ∷ 158 ∷ 150 ∷ 142 ∷ 135 ∷ 128 ∷ 122 ∷ 116 ∷ 110 ∷
    104 ∷ 99 ∷ 94 ∷ 89 ∷ 85 ∷ 80 ∷ 76 ∷ 72 ∷ 69 ∷ 65 ∷ 62 ∷ 59 ∷ 56 ∷ 53 ∷ 50 ∷ 48 ∷
    45 ∷ 43 ∷ 41 ∷ 39 ∷ 37 ∷ 35 ∷ 33 ∷ 31 ∷ 30 ∷ 28 ∷ 27 ∷ 25 ∷ 24 ∷ 23 ∷ 22 ∷ 21 ∷
    20 ∷ 19 ∷ 18 ∷ 17 ∷ 16 ∷ 15 ∷ 14 ∷ 14 ∷ 13 ∷ 12 ∷ 12 ∷ 11 ∷ 11 ∷ 10 ∷ 9 ∷ 2 ∷ []

-- the column of each qRangeIdx
unfoldable pub ranges_by_index : List (List ℕ)
ranges_by_index = ranges_0 ∷ ranges_1 ∷ ranges_2 ∷ ranges_3 ∷ []

-- transIdxLps and transIdxMps of each pStateIdx (9.3.4.3.2.2)
unfoldable pub next_states : List (ℕ × ℕ)
next_states =
    (0, 1) ∷ (0, 2) ∷ (1, 3) ∷ (2, 4) ∷ (2, 5) ∷ (4, 6) ∷ (4, 7) ∷ (5, 8) ∷
    (6, 9) ∷ (7, 10) ∷ (8, 11) ∷ (9, 12) ∷ (9, 13) ∷ (11, 14) ∷ (11, 15) ∷ (12, 16) ∷
    (13, 17) ∷ (13, 18) ∷ (15, 19) ∷ (15, 20) ∷ (16, 21) ∷ (16, 22) ∷ (18, 23) ∷ (18, 24) ∷
    (19, 25) ∷ (19, 26) ∷ (21, 27) ∷ (21, 28) ∷ (22, 29) ∷ (22, 30) ∷ (23, 31) ∷ (24, 32) ∷
    (24, 33) ∷ (25, 34) ∷ (26, 35) ∷ (26, 36) ∷ (27, 37) ∷ (27, 38) ∷ (28, 39) ∷ (29, 40) ∷
    (29, 41) ∷ (30, 42) ∷ (30, 43) ∷ (30, 44) ∷ (31, 45) ∷ (32, 46) ∷ (32, 47) ∷ (33, 48) ∷
    (33, 49) ∷ (33, 50) ∷ (34, 51) ∷ (34, 52) ∷ (35, 53) ∷ (35, 54) ∷ (35, 55) ∷ (36, 56) ∷
    (36, 57) ∷ (36, 58) ∷ (37, 59) ∷ (37, 60) ∷ (37, 61) ∷ (38, 62) ∷ (38, 62) ∷ (63, 63) ∷ []

-- the contexts of a syntax element: where they begin among all contexts, and initValue of each for initType 0, 1 and 2
pub record ElementContexts : Type 0 where
  pub base : ℕ
  pub init_values : List (ℕ × ℕ × ℕ)

abbrev element : ℕ → List (ℕ × ℕ × ℕ) → ElementContexts
element base init_values = record { base = base; init_values = init_values }

-- the syntax elements in the order of their contexts (9.3.2.2)
unfoldable pub elements : List ElementContexts
elements =
    element SAO_MERGE_FLAG ((153, 153, 153) ∷ []) ∷
    element SAO_TYPE_IDX ((200, 185, 160) ∷ []) ∷
    element SPLIT_CU_FLAG ((139, 107, 107) ∷ (141, 139, 139) ∷ (157, 126, 126) ∷ []) ∷
    element CU_TRANSQUANT_BYPASS_FLAG ((154, 154, 154) ∷ []) ∷
    element CU_SKIP_FLAG ((154, 197, 197) ∷ (154, 185, 185) ∷ (154, 201, 201) ∷ []) ∷
    element PRED_MODE_FLAG ((154, 149, 134) ∷ []) ∷
    element PART_MODE ((184, 154, 154) ∷ (154, 139, 139) ∷ (154, 154, 154) ∷ (154, 154, 154) ∷ []) ∷
    element PREV_INTRA_LUMA_PRED_FLAG ((184, 154, 183) ∷ []) ∷
    element INTRA_CHROMA_PRED_MODE ((63, 152, 152) ∷ []) ∷
    element MERGE_FLAG ((154, 110, 154) ∷ []) ∷
    element MERGE_IDX ((154, 122, 137) ∷ []) ∷
    element INTER_PRED_IDC ((154, 95, 95) ∷ (154, 79, 79) ∷ (154, 63, 63) ∷ (154, 31, 31) ∷ (154, 31, 31) ∷ []) ∷
    element REF_IDX ((154, 153, 153) ∷ (154, 153, 153) ∷ []) ∷
    element ABS_MVD_GREATER0_FLAG ((154, 140, 169) ∷ []) ∷
    element ABS_MVD_GREATER1_FLAG ((154, 198, 198) ∷ []) ∷
    element MVP_FLAG ((154, 168, 168) ∷ []) ∷
    element RQT_ROOT_CBF ((154, 79, 79) ∷ []) ∷
    element SPLIT_TRANSFORM_FLAG ((153, 124, 224) ∷ (138, 138, 167) ∷ (138, 94, 122) ∷ []) ∷
    element CBF_LUMA ((111, 153, 153) ∷ (141, 111, 111) ∷ []) ∷
    element CBF_CHROMA ((94, 149, 149) ∷ (138, 107, 92) ∷ (182, 167, 167) ∷ (154, 154, 154) ∷ []) ∷
    element TRANSFORM_SKIP_FLAG ((139, 139, 139) ∷ (139, 139, 139) ∷ []) ∷
    element CU_QP_DELTA_ABS ((154, 154, 154) ∷ (154, 154, 154) ∷ []) ∷
    element LAST_SIG_COEFF_X_PREFIX (
    (110, 125, 125) ∷ (110, 110, 110) ∷ (124, 94, 124) ∷ (125, 110, 110) ∷ (140, 95, 95) ∷ (153, 79, 94) ∷
    (125, 125, 125) ∷ (127, 111, 111) ∷ (140, 110, 111) ∷ (109, 78, 79) ∷ (111, 110, 125) ∷ (143, 111, 126) ∷
    (127, 111, 111) ∷ (111, 95, 111) ∷ (79, 94, 79) ∷ (108, 108, 108) ∷ (123, 123, 123) ∷ (63, 108, 93) ∷ []) ∷
    element LAST_SIG_COEFF_Y_PREFIX (
    (110, 125, 125) ∷ (110, 110, 110) ∷ (124, 94, 124) ∷ (125, 110, 110) ∷ (140, 95, 95) ∷ (153, 79, 94) ∷
    (125, 125, 125) ∷ (127, 111, 111) ∷ (140, 110, 111) ∷ (109, 78, 79) ∷ (111, 110, 125) ∷ (143, 111, 126) ∷
    (127, 111, 111) ∷ (111, 95, 111) ∷ (79, 94, 79) ∷ (108, 108, 108) ∷ (123, 123, 123) ∷ (63, 108, 93) ∷ []) ∷
    element CODED_SUB_BLOCK_FLAG ((91, 121, 121) ∷ (171, 140, 140) ∷ (134, 61, 61) ∷ (141, 154, 154) ∷ []) ∷
    element SIG_COEFF_FLAG (
    (111, 155, 170) ∷ (111, 154, 154) ∷ (125, 139, 139) ∷ (110, 153, 153) ∷ (110, 139, 139) ∷ (94, 123, 123) ∷
    (124, 123, 123) ∷ (108, 63, 63) ∷ (124, 153, 124) ∷ (107, 166, 166) ∷ (125, 183, 183) ∷ (141, 140, 140) ∷
    (179, 136, 136) ∷ (153, 153, 153) ∷ (125, 154, 154) ∷ (107, 166, 166) ∷ (125, 183, 183) ∷ (141, 140, 140) ∷
    (179, 136, 136) ∷ (153, 153, 153) ∷ (125, 154, 154) ∷ (107, 166, 166) ∷ (125, 183, 183) ∷ (141, 140, 140) ∷
    (179, 136, 136) ∷ (153, 153, 153) ∷ (125, 154, 154) ∷ (140, 170, 170) ∷ (139, 153, 153) ∷ (182, 123, 138) ∷
    (182, 123, 138) ∷ (152, 107, 122) ∷ (136, 121, 121) ∷ (152, 107, 122) ∷ (136, 121, 121) ∷ (153, 167, 167) ∷
    (136, 151, 151) ∷ (139, 183, 183) ∷ (111, 140, 140) ∷ (136, 151, 151) ∷ (139, 183, 183) ∷ (111, 140, 140) ∷ []) ∷
    element COEFF_ABS_LEVEL_GREATER1_FLAG (
    (140, 154, 154) ∷ (92, 196, 196) ∷ (137, 196, 167) ∷ (138, 167, 167) ∷ (140, 154, 154) ∷ (152, 152, 152) ∷
    (138, 167, 167) ∷ (139, 182, 182) ∷ (153, 182, 182) ∷ (74, 134, 134) ∷ (149, 149, 149) ∷ (92, 136, 136) ∷
    (139, 153, 153) ∷ (107, 121, 121) ∷ (122, 136, 136) ∷ (152, 137, 122) ∷ (140, 169, 169) ∷ (179, 194, 208) ∷
    (166, 166, 166) ∷ (182, 167, 167) ∷ (140, 154, 154) ∷ (227, 167, 152) ∷ (122, 137, 167) ∷ (197, 182, 182) ∷ []) ∷
    element COEFF_ABS_LEVEL_GREATER2_FLAG (
    (138, 107, 107) ∷ (153, 167, 167) ∷ (136, 91, 91) ∷ (167, 122, 107) ∷ (152, 107, 107) ∷ (152, 167, 167) ∷ []) ∷ []

-- initValue of a context for initType 0, 1 and 2
abbrev pub init_values_at : ℕ → ℕ × ℕ × ℕ
init_values_at i = (
  slice_index (get_or INIT_VALUES 0 []) i,
  slice_index (get_or INIT_VALUES 1 []) i,
  slice_index (get_or INIT_VALUES 2 []) i,
)

-- initValue of all contexts, one element's behind the other's
abbrev pub all_init_values : List ElementContexts → List (ℕ × ℕ × ℕ)
all_init_values [] = []
all_init_values (e ∷ later) = e.init_values ++ all_init_values later

-- where the contexts of each element begin: behind those of the elements before it
abbrev pub bases_from : ℕ → List ElementContexts → List ℕ
bases_from base [] = []
bases_from base (e ∷ later) = base ∷ bases_from (base + length e.init_values) later
