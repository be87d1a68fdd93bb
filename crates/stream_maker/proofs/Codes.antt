-- Codes one after the other.
use Rattle.std.proofs.Common.{◌≡◌, ℕ, ◌+◌, ◌-◌, ◌%◌, ◌<◌, ◌≤◌, Bool, true, false, cond, List, [], ◌∷◌, ◌++◌, length}
use Rattle.std.proofs.Common.{drop}
use Rattle.std.proofs.Common.{refl, sym, ap, ◌∙◌, arith, append_assoc}
use Rattle.std.specs.Prelude.{ℤ, get_or}
use Rattle.std.proofs.lemmas.List.{drop_more, drop_all}
use Rattle.spec_bits.specs.Bits.{bits, bit_of}
use Rattle.spec_bits.specs.Spelling.{u_bits, ue_bits, se_bits, aligned_bits}
use Rattle.std.specs.Prelude.{replicate}
use Rattle.std.proofs.Common.{length-append}
use Rattle.std.proofs.lemmas.List.{length-replicate}
use Rattle.spec_made.specs.Written.{bytes_of}
use Rattle.made_rows.specs.Small.{AreBytes}
use Rattle.made_rows.proofs.Bytes.{bytes_are}
use Rattle.spec_written_headers.specs.Codes.{Code, Bits, Flagged, Golomb, Signed, bits_of, spelled}
use Rattle.spec_made.specs.Headers.{entry_codes}

no_more : (items : List Bool) → items ++ [] ≡ items
no_more [] = refl
no_more (x ∷ items) = ap (λ l. x ∷ l) (no_more items)

pub one_code : (w : List Bool) (c : Code) → w ++ spelled (c ∷ []) [] ≡ w ++ bits_of c
unfolding spelled
one_code w c = ap (λ l. w ++ l) (no_more (bits_of c))

pub flag_is : (b : Bool) → u_bits 1 (cond b 1 0) ≡ bits_of (Flagged b)
unfolding u_bits bits_of bit_of
flag_is true = refl
flag_is false = refl

spelled_append : (front back : List Code) → spelled (front ++ back) [] ≡ spelled front [] ++ spelled back []
unfolding spelled
spelled_append [] back = refl
spelled_append (c ∷ front) back =
    ap (λ l. bits_of c ++ l) (spelled_append front back)
    ∙ sym (append_assoc (bits_of c) (spelled front []) (spelled back []))

pub codes_append : (w : List Bool) (front back : List Code)
    → (w ++ spelled front []) ++ spelled back [] ≡ w ++ spelled (front ++ back) []
codes_append w front back =
    append_assoc w (spelled front []) (spelled back []) ∙ ap (λ l. w ++ l) (sym (spelled_append front back))

pub flag_bits : (w : List Bool) (b : Bool) → w ++ u_bits 1 (cond b 1 0) ≡ w ++ spelled (Flagged b ∷ []) []
flag_bits w b = ap (λ l. w ++ l) (flag_is b) ∙ sym (one_code w (Flagged b))

pub code_bits : (w : List Bool) (n value : ℕ) → w ++ u_bits n value ≡ w ++ spelled (Bits n value ∷ []) []
unfolding bits_of
code_bits w n value = sym (one_code w (Bits n value))

pub golomb_bits : (w : List Bool) (value : ℕ) → w ++ ue_bits value ≡ w ++ spelled (Golomb value ∷ []) []
unfolding bits_of
golomb_bits w value = sym (one_code w (Golomb value))

pub signed_bits : (w : List Bool) (value : ℤ) → w ++ se_bits value ≡ w ++ spelled (Signed value ∷ []) []
unfolding bits_of
signed_bits w value = sym (one_code w (Signed value))

-- ---- entry points that are left

pub entries_step : (w next whole : List Bool) (offsets : List ℕ) (k offset : ℕ) → k < length offsets
    → offset ≡ get_or offsets k 0 → next ≡ w ++ spelled (Bits 32 offset ∷ []) []
    → w ++ spelled (entry_codes (drop k offsets)) [] ≡ whole
    → next ++ spelled (entry_codes (drop (k + 1) offsets)) [] ≡ whole
entries_step w next whole offsets k offset inside is is_next told =
    let rest : List Code = entry_codes (drop (k + 1) offsets) in
    ap (λ l. l ++ spelled rest []) is_next ∙ codes_append w (Bits 32 offset ∷ []) rest
    ∙ ap (λ o. w ++ spelled (Bits 32 o ∷ rest) []) is
    ∙ ap (λ l. w ++ spelled (entry_codes l) []) (sym (drop_more offsets k 0 inside)) ∙ told

pub entries_done : (w whole : List Bool) (offsets : List ℕ) (k : ℕ) → length offsets ≤ k
    → w ++ spelled (entry_codes (drop k offsets)) [] ≡ whole → w ≡ whole
unfolding spelled
entries_done w whole offsets k past told =
    sym (no_more w) ∙ ap (λ l. w ++ spelled (entry_codes l) []) (sym (drop_all k offsets past)) ∙ told

-- ---- byte alignment

length-aligned : (n : ℕ) → length (aligned_bits n) ≡ 8 - n % 8
unfolding aligned_bits
length-aligned n = let r = length-replicate (7 - n % 8) false in omega (arith, r)

none_to_fill : (w : List Bool) → (8 - length (w ++ aligned_bits (length w)) % 8) % 8 ≡ 0
none_to_fill w =
    let n : ℕ = length w in
    let e : length (w ++ aligned_bits n) ≡ n + (8 - n % 8) = length-append w (aligned_bits n)
    ∙ ap (λ k. n + k) (length-aligned n) in
    omega (arith, e)

pub aligned_are : (w after : List Bool) (written : List ℕ) → AreBytes written → after ≡ w ++ aligned_bits (length w)
    → bits written ≡ after ++ replicate ((8 - length after % 8) % 8) false
    → written ≡ bytes_of (w ++ aligned_bits (length w))
aligned_are w after written small is told =
    let all : List Bool = w ++ aligned_bits (length w) in
    let here : bits written ≡ all ++ replicate ((8 - length all % 8) % 8) false =
    told ∙ ap (λ a. a ++ replicate ((8 - length a % 8) % 8) false) is in
    bytes_are written all small
    (here ∙ ap (λ k. all ++ replicate k false) (none_to_fill w) ∙ no_more all)
