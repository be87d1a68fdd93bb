-- Samples that are hashed piece by piece.
use Rattle.std.proofs.Common.{◌≡◌, ℕ, suc, ◌+◌, ◌*◌, ◌<◌, ◌≤◌, ◌%◌, Bool, true, false, List, [], ◌∷◌, ◌++◌, length}
use Rattle.std.proofs.Common.{get_or, map, drop, refl, sym, ap, subst, ◌∙◌, append_assoc, append-nil, length-append}
use Rattle.std.proofs.Common.{length-drop, arith}
use Rattle.std.specs.Prelude.{◌/◌, if◌then◌else◌, nat_le}
use Rattle.std.proofs.lemmas.Bool.Decides.{nat_tests}
use Rattle.std.specs.List.{flat_map}
use Rattle.std.proofs.lemmas.List.{ext_get_or, get_or-map, length-map}
use Rattle.std.proofs.lemmas.List.Concat.{flat_map-append, flat_map_single}
use Rattle.md5.specs.Md5.{Holds}
use Rattle.md5.specs.declared.Md5.{Md5}
use Rattle.hash_sei.specs.PlaneHash.{picture_data, sample_bytes}

-- one hash has these samples more than another
abbrev pub AddsSamples : ℕ → Md5 → Md5 → List ℕ → Type 0
AddsSamples depth before after samples =
    (m : List ℕ) → Holds before m → Holds after (m ++ picture_data depth samples)

-- some samples are hashed, and these are left
pub record Added (depth : ℕ) (before now : Md5) (samples rest : List ℕ) : Type 0 where
  pub done : List ℕ
  pub whole : samples ≡ done ++ rest
  pub adds : AddsSamples depth before now done

pub none_added : (depth : ℕ) (h : Md5) (samples : List ℕ) → Added depth h h samples samples
none_added depth h samples = record {
  done = [];
  whole = refl;
  adds = λ m held. subst (Holds h) (sym (append-nil m)) held;
}

both-added : (depth : ℕ) (before now after : Md5) (first later : List ℕ) → AddsSamples depth before now first
    → AddsSamples depth now after later → AddsSamples depth before after (first ++ later)
both-added depth before now after first later p q = λ m held.
    subst (Holds after)
    (append_assoc m (picture_data depth first) (picture_data depth later)
    ∙ ap (λ (bs : List ℕ). m ++ bs) (sym (flat_map-append (sample_bytes depth) first later)))
    (q (m ++ picture_data depth first) (p m held))

-- a piece more
pub piece_added : (depth : ℕ) (before now after : Md5) (samples rest piece behind : List ℕ) → rest ≡ piece ++ behind
    → Added depth before now samples rest → AddsSamples depth now after piece
    → Added depth before after samples behind
piece_added depth before now after samples rest piece behind is a q = record {
  done = a.done ++ piece;
  whole = a.whole ∙ ap (λ (bs : List ℕ). a.done ++ bs) is ∙ sym (append_assoc a.done piece behind);
  adds = both-added depth before now after a.done piece a.adds q;
}

-- all
pub all_added : (depth : ℕ) (before after : Md5) (samples rest : List ℕ) → rest ≡ []
    → Added depth before after samples rest → AddsSamples depth before after samples
all_added depth before after samples rest none a =
    subst (AddsSamples depth before after)
    (sym (a.whole ∙ ap (λ (bs : List ℕ). a.done ++ bs) none ∙ append-nil a.done)) a.adds

-- up to 8 bits each sample is a byte
bytes_are : (depth : ℕ) (samples : List ℕ) → nat_le depth 8 ≡ true
    → picture_data depth samples ≡ map (λ s. s % 256) samples
bytes_are depth samples small =
    ap (λ (b : Bool). flat_map (λ s. if b then s % 256 ∷ [] else s % 256 ∷ s / 256 ∷ []) samples) small
    ∙ flat_map_single (λ s. s % 256) samples

-- the bytes of samples, by place
pub narrowed : (depth : ℕ) (samples bytes : List ℕ) → depth ≤ 8 → length bytes ≡ length samples
    → ((k : ℕ) → k < length samples → get_or bytes k 0 ≡ get_or samples k 0 % 256) → bytes ≡ picture_data depth samples
narrowed depth samples bytes small count told =
    let le : nat_le depth 8 ≡ true = grind (arith, nat_tests) in
    ext_get_or 0 bytes (map (λ s. s % 256) samples) (count ∙ sym (length-map samples (λ s. s % 256)))
    (λ k lt. told k (omega (arith, count, lt))
    ∙ sym (get_or-map (λ s. s % 256) samples k 0 0 (omega (arith, count, lt))))
    ∙ sym (bytes_are depth samples le)

-- above 8 bits each sample is two
two_bytes_are : (depth : ℕ) (samples : List ℕ) → nat_le depth 8 ≡ false
    → picture_data depth samples ≡ flat_map (λ s. s % 256 ∷ s / 256 ∷ []) samples
two_bytes_are depth samples large =
    ap (λ (b : Bool). flat_map (λ s. if b then s % 256 ∷ [] else s % 256 ∷ s / 256 ∷ []) samples) large

two_more : (a b c d : ℕ) (l m : List ℕ) → a ≡ c → b ≡ d → l ≡ m → a ∷ b ∷ l ≡ c ∷ d ∷ m
two_more a b c d l m e f g = ap (λ v. v ∷ b ∷ l) e ∙ ap (λ v. c ∷ v ∷ l) f ∙ ap (λ v. c ∷ d ∷ v) g

in_pairs : (samples bytes : List ℕ) → length bytes ≡ 2 * length samples
    → ((k : ℕ) → k < length samples → get_or bytes (2 * k) 0 ≡ get_or samples k 0 % 256)
    → ((k : ℕ) → k < length samples → get_or bytes (2 * k + 1) 0 ≡ get_or samples k 0 / 256)
    → bytes ≡ flat_map (λ s. s % 256 ∷ s / 256 ∷ []) samples
in_pairs [] [] count low high = refl
in_pairs [] (b ∷ bytes) count low high = absurd (omega (arith, count))
in_pairs (s ∷ samples) [] count low high = absurd (omega (arith, count))
in_pairs (s ∷ samples) (b ∷ []) count low high = absurd (omega (arith, count))
in_pairs (s ∷ samples) (a ∷ b ∷ bytes) count low high =
    two_more a b (s % 256) (s / 256) bytes (flat_map (λ s. s % 256 ∷ s / 256 ∷ []) samples)
    (low 0 (omega arith)) (high 0 (omega arith))
    (in_pairs samples bytes (omega (arith, count))
    (λ k lt.
    let next : 2 * suc k ≡ suc (suc (2 * k)) = omega arith in
    sym (ap (λ i. get_or (a ∷ b ∷ bytes) i 0) next) ∙ low (suc k) (omega (arith, lt)))
    (λ k lt.
    let next : 2 * suc k + 1 ≡ suc (suc (2 * k + 1)) = omega arith in
    sym (ap (λ i. get_or (a ∷ b ∷ bytes) i 0) next) ∙ high (suc k) (omega (arith, lt))))

pub widened : (depth : ℕ) (samples bytes : List ℕ) → 8 < depth → length bytes ≡ 2 * length samples
    → ((k : ℕ) → k < length samples → get_or bytes (2 * k) 0 ≡ get_or samples k 0 % 256)
    → ((k : ℕ) → k < length samples → get_or bytes (2 * k + 1) 0 ≡ get_or samples k 0 / 256)
    → bytes ≡ picture_data depth samples
widened depth samples bytes large count low high =
    let more : nat_le depth 8 ≡ false = grind (arith, nat_tests) in
    in_pairs samples bytes count low high ∙ sym (two_bytes_are depth samples more)

-- none are left
pub none_left : {X : Type 0} (xs : List X) → length xs ≡ 0 → xs ≡ []
none_left [] e = refl
none_left (x ∷ xs) e = absurd (omega (arith, e))

-- the room of a piece, filled
pub refilled : (total : ℕ) (bytes new : List ℕ) (n : ℕ) → length bytes ≡ total → n ≤ total → length new ≡ n
    → length (new ++ drop n bytes) ≡ total
refilled total bytes new n count few same =
    omega (arith, length-append new (drop n bytes), length-drop n bytes, count, few, same)
