-- Coding units by pulse code modulation, one after the other.
use Rattle.std.proofs.Common.{◌≡◌, ℕ, zero, suc, ◌+◌, ◌-◌, ◌*◌, ◌<◌, ◌≤◌, true, false, List, [], ◌∷◌, ◌++◌}
use Rattle.std.proofs.Common.{refl, sym, ap, ◌∙◌, arith, append_assoc}
use Rattle.std.specs.Prelude.{◌==◌, get_or}
use Rattle.std.proofs.lemmas.Bool.Decides.{nat_tests}
use Rattle.cabac_writer.specs.Pulses.{contexts_behind}
use Rattle.spec_made.specs.declared.units.PcmUnit.{PcmUnit}
use Rattle.spec_made.specs.Written.{Bins, section_bytes}
use Rattle.spec_made.specs.InterRows.{end_words}
use Rattle.spec_made.specs.PcmRows.{Part, no_samples, parts_of, parts_from, bytes_of_part, part_bytes}
use Rattle.spec_made.specs.PcmRows.{contexts_behind_parts, row_bytes}
use Rattle.made_rows.specs.Small.{before_words}

pub part_bytes-append : (front back : List Part) (contexts : List ℕ)
    → part_bytes (front ++ back) contexts
    ≡ part_bytes front contexts ++ part_bytes back (contexts_behind_parts front contexts)
part_bytes-append [] back contexts = refl
part_bytes-append (p ∷ front) back contexts =
    ap (λ l. bytes_of_part p contexts ++ l) (part_bytes-append front back (contexts_behind p.bins contexts))
    ∙ sym (append_assoc (bytes_of_part p contexts) (part_bytes front (contexts_behind p.bins contexts)) _)

pub contexts-append : (front back : List Part) (contexts : List ℕ)
    → contexts_behind_parts (front ++ back) contexts
    ≡ contexts_behind_parts back (contexts_behind_parts front contexts)
contexts-append [] back contexts = refl
contexts-append (p ∷ front) back contexts = contexts-append front back (contexts_behind p.bins contexts)

-- a unit that isn't the last of its picture
not_last : (i : ℕ) → i < 47 → (i == 47) ≡ false
not_last i h = grind (arith, nat_tests)

ends_as : (i : ℕ) → i < 47 → end_words i ≡ before_words true
ends_as i h = rw (not_last i h) refl

-- units behind another
pub later_before : (units : List PcmUnit) (i n : ℕ) → i + 1 + n ≤ 48
    → parts_from units (i + 1) n (end_words i) ≡ parts_from units (i + 1) n (before_words true)
unfolding parts_from
later_before units i zero inside = refl
later_before units i (suc n) inside = ap (parts_from units (i + 1) (suc n)) (ends_as i (omega arith))

-- what a row has so far, and its units that are left
pub record Left (units : List PcmUnit) (i n : ℕ) (before : Bins) (row contexts whole end : List ℕ) : Type 0 where
  pub bytes : row ++ part_bytes (parts_from units i n before) contexts ≡ whole
  pub behind : contexts_behind_parts (parts_from units i n before) contexts ≡ end

pub left_all : (units : List PcmUnit) (first n : ℕ) (before : Bins) (row contexts : List ℕ)
    → Left units (first + 0) (n - 0) before row contexts
    (row ++ part_bytes (parts_from units first n before) contexts)
    (contexts_behind_parts (parts_from units first n before) contexts)
left_all units first n before row contexts =
    let e : first + 0 ≡ first = omega arith in
    let z : n - 0 ≡ n = omega arith in
    rw (e, z) (record { bytes = refl; behind = refl })

empty_right : (row : List ℕ) → row ++ [] ≡ row
empty_right [] = refl
empty_right (b ∷ row) = ap (λ l. b ∷ l) (empty_right row)

pub left_none : (units : List PcmUnit) (first k n : ℕ) (before : Bins) (row contexts whole end : List ℕ) → n ≤ k
    → Left units (first + k) (n - k) before row contexts whole end
    → (row ≡ whole) × (contexts ≡ end)
unfolding parts_from
left_none units first k n before row contexts whole end past l =
    let z : n - k ≡ 0 = omega arith in (
      sym (empty_right row) ∙ sym (ap (λ j. row ++ part_bytes (parts_from units (first + k) j before) contexts) z)
          ∙ l.bytes,
      sym (ap (λ j. contexts_behind_parts (parts_from units (first + k) j before) contexts) z) ∙ l.behind,
    )

pub left_step : (units : List PcmUnit) (first k n : ℕ) (before : Bins) (row contexts next behind whole end : List ℕ)
    → k < n → first + n ≤ 48
    → next ≡ row ++ part_bytes (parts_of units (first + k) (get_or units (first + k) no_samples) before) contexts
    → behind ≡ contexts_behind_parts (parts_of units (first + k) (get_or units (first + k) no_samples) before) contexts
    → Left units (first + k) (n - k) before row contexts whole end
    → Left units (first + (k + 1)) (n - (k + 1)) (before_words true) next behind whole end
unfolding parts_from
left_step units first k n before row contexts next behind whole end inside fits is_next is_behind l =
    let i : ℕ = first + k in
    let m : ℕ = n - (k + 1) in
    let e : first + (k + 1) ≡ i + 1 = omega arith in
    let z : n - k ≡ suc m = omega arith in
    let ps : List Part = parts_of units i (get_or units i no_samples) before in
    let rest : List Part = parts_from units (i + 1) m (end_words i) in
    let same : parts_from units (i + 1) m (before_words true) ≡ rest = sym (later_before units i m (omega arith)) in
    rw e (record {
      bytes =
          ap (λ l. next ++ part_bytes l behind) same
          ∙ ap (λ r. r ++ part_bytes rest behind) is_next
          ∙ ap (λ c. (row ++ part_bytes ps contexts) ++ part_bytes rest c) is_behind
          ∙ append_assoc row (part_bytes ps contexts) (part_bytes rest (contexts_behind_parts ps contexts))
          ∙ ap (λ l. row ++ l) (sym (part_bytes-append ps rest contexts))
          ∙ sym (ap (λ j. row ++ part_bytes (parts_from units i j before) contexts) z) ∙ l.bytes;
      behind =
          ap (λ l. contexts_behind_parts l behind) same
          ∙ ap (contexts_behind_parts rest) is_behind ∙ sym (contexts-append ps rest contexts)
          ∙ sym (ap (λ j. contexts_behind_parts (parts_from units i j before) contexts) z) ∙ l.behind;
    })

-- two units of a row, and then the other six
two_and_six : (units : List PcmUnit) (i : ℕ) → i + 8 ≤ 48
    → parts_from units i 8 [] ≡ parts_from units i 2 [] ++ parts_from units (i + 2) 6 (before_words true)
unfolding parts_from
two_and_six units i inside =
    let e : i + 1 + 1 ≡ i + 2 = omega arith in
    let a : List Part = parts_of units i (get_or units i no_samples) [] in
    let b : List Part = parts_of units (i + 1) (get_or units (i + 1) no_samples) (end_words i) in
    let six : parts_from units (i + 1 + 1) 6 (end_words (i + 1)) ≡ parts_from units (i + 2) 6 (before_words true) =
    later_before units (i + 1) 6 (omega arith) ∙ ap (λ k. parts_from units k 6 (before_words true)) e in
    ap (λ l. a ++ (b ++ l)) six
    ∙ sym (append_assoc a (b ++ []) (parts_from units (i + 2) 6 (before_words true))
    ∙ ap (λ l. a ++ l) (append_assoc b [] (parts_from units (i + 2) 6 (before_words true))))

pub row_joined_by : (ended : List ℕ → List ℕ) (units : List PcmUnit) (r : ℕ) (contexts behind last : List ℕ) → r < 6
    → behind ≡ contexts_behind_parts (parts_from units (8 * r) 2 []) contexts
    → last ≡ contexts_behind_parts (parts_from units (8 * r + 2) 6 (before_words true)) behind
    → ((part_bytes (parts_from units (8 * r) 2 []) contexts
    ++ part_bytes (parts_from units (8 * r + 2) 6 (before_words true)) behind)
    ++ ended last)
    ≡ part_bytes (parts_from units (8 * r) 8 []) contexts
    ++ ended (contexts_behind_parts (parts_from units (8 * r) 8 []) contexts)
row_joined_by ended units r contexts behind last inside is_behind is_last =
    let a : List Part = parts_from units (8 * r) 2 [] in
    let b : List Part = parts_from units (8 * r + 2) 6 (before_words true) in
    let all : parts_from units (8 * r) 8 [] ≡ a ++ b = two_and_six units (8 * r) (omega arith) in
    let bytes : part_bytes a contexts ++ part_bytes b behind ≡ part_bytes (parts_from units (8 * r) 8 []) contexts =
    ap (λ c. part_bytes a contexts ++ part_bytes b c) is_behind ∙ sym (part_bytes-append a b contexts)
    ∙ ap (λ l. part_bytes l contexts) (sym all) in
    let end : last ≡ contexts_behind_parts (parts_from units (8 * r) 8 []) contexts =
    is_last ∙ ap (contexts_behind_parts b) is_behind ∙ sym (contexts-append a b contexts)
    ∙ ap (λ l. contexts_behind_parts l contexts) (sym all) in
    ap (λ l. l ++ ended last) bytes
    ∙ ap (λ c. part_bytes (parts_from units (8 * r) 8 []) contexts ++ ended c) end

pub row_joined : (units : List PcmUnit) (r : ℕ) (contexts two behind last : List ℕ) → r < 6
    → behind ≡ contexts_behind_parts (parts_from units (8 * r) 2 []) contexts
    → last ≡ contexts_behind_parts (parts_from units (8 * r + 2) 6 (before_words true)) behind
    → ((part_bytes (parts_from units (8 * r) 2 []) contexts
    ++ part_bytes (parts_from units (8 * r + 2) 6 (before_words true)) behind)
    ++ section_bytes (end_words (8 * r + 7)) last)
    ≡ row_bytes units r contexts
unfolding row_bytes
row_joined units r contexts two behind last inside is_behind is_last =
    row_joined_by (section_bytes (end_words (8 * r + 7))) units r contexts behind last inside is_behind is_last
