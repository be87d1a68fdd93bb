-- Sample adaptive offset is taken out of its two words as it was put in.
use Rattle.std.proofs.Common.{◌≡◌, ℕ, ◌<◌, ℤ, pos, refl, ap, ◌∙◌, arith, List, [], ◌∷◌, ◌++◌, length}
use Rattle.std.proofs.Common.{lit<}
use Rattle.std.specs.Prelude.{slice_index_or}
use Rattle.std.specs.Int.{w8, cast_signed, cast_unsigned}
use Rattle.std.specs.Int.RustNames.{FitsSigned}
use Rattle.std.proofs.Math.Facts.{Fits-of_z}
use Rattle.std.proofs.lemmas.Int.{to_z-of_z}
use Rattle.spec_motion.specs.CtuRecords.{ComponentOffset}
use Rattle.spec_motion.specs.CtuRecords.{Off, Band, Edge}
use Rattle.spec_motion.specs.CtuRecords.{Sao}
use Rattle.sample_words.specs.Packing.{Field}
use Rattle.sample_words.specs.Offsets.{AreOffsets, IsComponent, IsSao, component_in, first_word}
use Rattle.sample_words.specs.Offsets.{kind_fields}
use Rattle.sample_words.specs.Offsets.{kind_of, offset_fields, offsets_of, position_of, sao_in}
use Rattle.sample_words.specs.Offsets.{second_word}
use Rattle.sample_words.proofs.Fields.{AllFit, field_found}

unsigned_8 : (z : ℤ) → FitsSigned w8 z → cast_unsigned w8 z < 256
unsigned_8 z fits = omega (arith, Fits-of_z fits)

zero_fits : FitsSigned w8 (pos 0)
zero_fits = record { sfits = lit< tt }

-- four offsets that fit
record AreFour (offsets : List ℤ) : Type 0 where
  one : FitsSigned w8 (slice_index_or offsets 0 (pos 0))
  two : FitsSigned w8 (slice_index_or offsets 1 (pos 0))
  three : FitsSigned w8 (slice_index_or offsets 2 (pos 0))
  four : FitsSigned w8 (slice_index_or offsets 3 (pos 0))
  count : length offsets ≡ 4

are_four : (offsets : List ℤ) → AreOffsets offsets → AreFour offsets
are_four offsets is =
    let count = is.0 in
    record {
      one = is.1 0 (pos 0) (omega arith);
      two = is.1 1 (pos 0) (omega arith);
      three = is.1 2 (pos 0) (omega arith);
      four = is.1 3 (pos 0) (omega arith);
      count = count;
    }

of_component : (c : ComponentOffset) → IsComponent c → AreFour (offsets_of c)
of_component Off is = record { one = zero_fits; two = zero_fits; three = zero_fits; four = zero_fits; count = refl }
of_component (Band position offsets) is = are_four offsets is.1
of_component (Edge class offsets) is = are_four offsets is.1

-- a list of four
listed : (a b c d : ℤ) (offsets : List ℤ) → length offsets ≡ 4 → a ≡ slice_index_or offsets 0 (pos 0)
    → b ≡ slice_index_or offsets 1 (pos 0) → c ≡ slice_index_or offsets 2 (pos 0) → d ≡ slice_index_or offsets 3 (pos 0)
    → a ∷ b ∷ c ∷ d ∷ [] ≡ offsets
listed a b c d [] count p q r s = absurd (omega arith)
listed a b c d (e ∷ []) count p q r s = absurd (omega arith)
listed a b c d (e ∷ f ∷ []) count p q r s = absurd (omega arith)
listed a b c d (e ∷ f ∷ g ∷ []) count p q r s = absurd (omega arith)
listed a b c d (e ∷ f ∷ g ∷ h ∷ []) count p q r s = rw (p, q, r, s) refl
listed a b c d (e ∷ f ∷ g ∷ h ∷ i ∷ more) count p q r s = absurd (omega arith)

signed_again : (z : ℤ) (n : ℕ) → FitsSigned w8 z → n ≡ cast_unsigned w8 z → cast_signed w8 n ≡ z
signed_again z n fits e = ap (cast_signed w8) e ∙ to_z-of_z w8 z fits

four_fit : (offsets : List ℤ) → AreFour offsets → (more : List Field) → AllFit more
    → AllFit (offset_fields offsets ++ more)
four_fit offsets is more fits =
    (unsigned_8 _ is.one, (unsigned_8 _ is.two, (unsigned_8 _ is.three, (unsigned_8 _ is.four, fits))))

-- a component by its fields
component_found : (c : ComponentOffset) → IsComponent c → (kind position : ℕ) (offsets : List ℤ) → kind ≡ kind_of c
    → position ≡ position_of c → offsets ≡ offsets_of c → component_in kind position offsets ≡ c
component_found Off is kind position offsets p q r = rw p refl
component_found (Band at given) is kind position offsets p q r = rw (p, q, r) refl
component_found (Edge at given) is kind position offsets p q r = rw (p, q, r) refl

kind_fits : (c : ComponentOffset) → kind_of c < 4
kind_fits Off = omega arith
kind_fits (Band position offsets) = omega arith
kind_fits (Edge class offsets) = omega arith

position_fits : (c : ComponentOffset) → IsComponent c → position_of c < 256
position_fits Off is = omega arith
position_fits (Band position offsets) is = is.0
position_fits (Edge class offsets) is = is.0

first_fit : (sao : Sao) → IsSao sao → AllFit (offset_fields (offsets_of sao.luma) ++ offset_fields (offsets_of sao.cb))
first_fit sao is =
    let cb = of_component sao.cb is.cb in
    four_fit (offsets_of sao.luma) (of_component sao.luma is.luma) (offset_fields (offsets_of sao.cb))
    (unsigned_8 _ cb.one, (unsigned_8 _ cb.two, (unsigned_8 _ cb.three, (unsigned_8 _ cb.four, tt))))

second_fit : (sao : Sao) → IsSao sao
    → AllFit (offset_fields (offsets_of sao.cr) ++ kind_fields sao.luma ++ kind_fields sao.cb ++ kind_fields sao.cr)
second_fit sao is =
    let cr = of_component sao.cr is.cr in (
      unsigned_8 _ cr.one,
      (
        unsigned_8 _ cr.two,
        (
          unsigned_8 _ cr.three,
          (
            unsigned_8 _ cr.four,
            (
              kind_fits sao.luma,
              (
                position_fits sao.luma is.luma,
                (
                  kind_fits sao.cb,
                  (
                    position_fits sao.cb is.cb,
                    (kind_fits sao.cr, (position_fits sao.cr is.cr, tt)),
                  ),
                ),
              ),
            ),
          ),
        ),
      ),
    )

same_sao : (sao : Sao) (luma cb cr : ComponentOffset) → luma ≡ sao.luma → cb ≡ sao.cb → cr ≡ sao.cr
    → record { luma = luma; cb = cb; cr = cr } ≡ sao
same_sao sao luma cb cr p q r = rw (p, q, r) refl

pub sao_found : (sao : Sao) → IsSao sao → sao_in (first_word sao) (second_word sao) ≡ sao
sao_found sao is =
    let luma = of_component sao.luma is.luma in
    let cb = of_component sao.cb is.cb in
    let cr = of_component sao.cr is.cr in
    let first = λ (k : ℕ). field_found (offset_fields (offsets_of sao.luma) ++ offset_fields (offsets_of sao.cb)) k
    (first_fit sao is) in
    let second = λ (k : ℕ). field_found
    (offset_fields (offsets_of sao.cr) ++ kind_fields sao.luma ++ kind_fields sao.cb ++ kind_fields sao.cr) k
    (second_fit sao is) in
    same_sao sao _ _ _
    (component_found sao.luma is.luma _ _ _ (second 4) (second 5) (listed _ _ _ _ (offsets_of sao.luma) luma.count
    (signed_again _ _ luma.one (first 0)) (signed_again _ _ luma.two (first 1))
    (signed_again _ _ luma.three (first 2)) (signed_again _ _ luma.four (first 3))))
    (component_found sao.cb is.cb _ _ _ (second 6) (second 7) (listed _ _ _ _ (offsets_of sao.cb) cb.count
    (signed_again _ _ cb.one (first 4)) (signed_again _ _ cb.two (first 5))
    (signed_again _ _ cb.three (first 6)) (signed_again _ _ cb.four (first 7))))
    (component_found sao.cr is.cr _ _ _ (second 8) (second 9) (listed _ _ _ _ (offsets_of sao.cr) cr.count
    (signed_again _ _ cr.one (second 0)) (signed_again _ _ cr.two (second 1))
    (signed_again _ _ cr.three (second 2)) (signed_again _ _ cr.four (second 3))))
