-- Sample adaptive offset that is read fits its words.
use Rattle.std.proofs.Common.{ℕ, zero, suc, ◌-◌, ◌^◌, ◌<◌, ◌≤◌, ◌==◌, Bool, true, false, [], ◌∷◌}
use Rattle.std.proofs.Common.{min, Option, Some, None, ℤ, pos, refl, arith}
use Rattle.std.specs.Int.{w8}
use Rattle.std.specs.Int.RustNames.{FitsSigned}
use Rattle.std.proofs.Math.Nat.{pow-le-pow_right}
use Rattle.std.proofs.lemmas.List.Elements.{All-cons, All-nil}
use Rattle.ctu_records.specs.declared.offset.ComponentOffset.{ComponentOffset}
use Rattle.ctu_records.specs.declared.offset.ComponentOffset.TheVariants.{Off, Band, Edge}
use Rattle.ctu_records.specs.declared.offset.Sao.{Sao}
use Rattle.spec_cabac.specs.Bins.{bypass}
use Rattle.spec_slice_data.specs.declared.syntax.CtuSyntax.{CtuSyntax}
use Rattle.spec_slice_data.specs.Offset.{band, band_offset, class_of, class_where, component, edge, edge_offset}
use Rattle.spec_slice_data.specs.Offset.{greatest_offset, kind_of, like_component, like_where, merged_or_own, no_sao}
use Rattle.spec_slice_data.specs.Offset.{offsets, own_component, own_sao, own_where, sao, sao_offset_abs}
use Rattle.spec_slice_data.specs.Offset.{sao_or_above, signed}
use Rattle.sample_words.specs.Offsets.{AreOffsets, IsComponent, IsSao}
use Rattle.sample_laws.proofs.UnitLawsLemmas.{Gives, after_any, fixed_gives, give_gives, then_gives, truncated_gives}
use Rattle.sample_laws.proofs.UnitLawsLemmas.{when_gives}

abbrev IsSmall : ℕ → Type 0
IsSmall v = v ≤ 31

abbrev Fits : ℤ → Type 0
Fits z = FitsSigned w8 z

greatest_small : (depth : ℕ) → greatest_offset depth ≤ 31
unfolding greatest_offset
greatest_small depth =
    let few : min depth 10 - 5 ≤ 5 = omega arith in
    let most : 2 ^ (min depth 10 - 5) ≤ 2 ^ 5 = pow-le-pow_right {n = 2} (omega arith) few in
    omega (arith, most)

abs_gives : (depth : ℕ) → Gives IsSmall (sao_offset_abs depth)
unfolding sao_offset_abs
abs_gives depth = record {
  gives = λ s t v e.
      let below = (truncated_gives (λ i. bypass) (greatest_offset depth)).gives s t v e in
      omega (arith, below, greatest_small depth);
}

signed_fits : (size : ℕ) (negative : Bool) → size ≤ 31 → Fits (signed size negative)
unfolding signed
signed_fits zero true small = record { sfits = omega arith }
signed_fits (suc n) true small = record { sfits = omega (arith, small) }
signed_fits size false small = record { sfits = omega (arith, small) }

pos_fits : (size : ℕ) → size ≤ 31 → Fits (pos size)
pos_fits size small = record { sfits = omega (arith, small) }

four_fit : (a b c d : ℤ) → Fits a → Fits b → Fits c → Fits d → AreOffsets (a ∷ b ∷ c ∷ d ∷ [])
four_fit a b c d fa fb fc fd = (
  refl,
  All-cons Fits a (b ∷ c ∷ d ∷ []) fa
      (All-cons Fits b (c ∷ d ∷ []) fb (All-cons Fits c (d ∷ []) fc (All-cons Fits d [] fd (All-nil Fits)))),
)

band_offset_gives : (size : ℕ) → size ≤ 31 → Gives Fits (band_offset size)
unfolding band_offset
band_offset_gives size small = after_any (λ negative. give_gives _ (signed_fits size negative small))

band_gives : (a b c d : ℕ) → IsSmall a → IsSmall b → IsSmall c → IsSmall d → Gives IsComponent (band a b c d)
unfolding band
band_gives a b c d sa sb sc sd =
    then_gives (band_offset_gives a sa) (λ first f1.
    then_gives (band_offset_gives b sb) (λ second f2.
    then_gives (band_offset_gives c sc) (λ third f3.
    then_gives (band_offset_gives d sd) (λ fourth f4.
    then_gives (fixed_gives 5 0) (λ position small.
    give_gives _ (omega (arith, small), four_fit first second third fourth f1 f2 f3 f4))))))

-- a class that is below 256, where there is one
abbrev IsClass : Option ℕ → Type 0
IsClass None = Unit {0}
IsClass (Some class) = class < 256

class_gives : (shared : Option ℕ) → IsClass shared → Gives (λ class. class < 256) (class_where shared)
class_gives None is =
    record { gives = λ s t v e. let small = (fixed_gives 2 0).gives s t v e in omega (arith, small) }
class_gives (Some class) is = give_gives class is

edge_gives : (shared : Option ℕ) (a b c d : ℕ) → IsClass shared → IsSmall a → IsSmall b → IsSmall c → IsSmall d
    → Gives IsComponent (edge_offset shared a b c d)
edge_gives shared a b c d is sa sb sc sd =
    then_gives (class_gives shared is) (λ class small.
    give_gives (edge class a b c d) (
      small,
      four_fit (pos a) (pos b) (signed c true) (signed d true) (pos_fits a sa) (pos_fits b sb)
          (signed_fits c true sc) (signed_fits d true sd),
    ))

offsets_gives : (depth kind : ℕ) (shared : Option ℕ) → IsClass shared → Gives IsComponent (offsets depth kind shared)
unfolding offsets
offsets_gives depth kind shared is =
    then_gives (abs_gives depth) (λ a sa. then_gives (abs_gives depth) (λ b sb. then_gives (abs_gives depth)
    (λ c sc. then_gives (abs_gives depth) (λ d sd.
    when_gives (kind == 1) (λ held. band_gives a b c d sa sb sc sd)
    (λ held. edge_gives shared a b c d is sa sb sc sd)))))

component_gives : (depth kind : ℕ) (shared : Option ℕ) → IsClass shared
    → Gives IsComponent (component depth kind shared)
component_gives depth kind shared is =
    when_gives (kind == 0) (λ held. give_gives Off tt) (λ held. offsets_gives depth kind shared is)

own_gives : (depth : ℕ) (applied : Bool) → Gives IsComponent (own_where depth applied)
unfolding own_component
own_gives depth applied =
    when_gives applied (λ held. after_any (λ kind. component_gives depth kind None tt)) (λ held. give_gives Off tt)

class_is : (cb : ComponentOffset) → IsComponent cb → class_of cb < 256
class_is Off is = omega arith
class_is (Band position values) is = omega arith
class_is (Edge class values) is = is.0

like_gives : (depth : ℕ) (applied : Bool) (cb : ComponentOffset) → IsComponent cb
    → Gives IsComponent (like_where depth applied cb)
unfolding like_component
like_gives depth applied cb is =
    when_gives applied (λ held. component_gives depth (kind_of cb) (Some (class_of cb)) (class_is cb is))
    (λ held. give_gives Off tt)

own_sao_gives : (syntax : CtuSyntax) → Gives IsSao (own_sao syntax)
unfolding own_sao
own_sao_gives syntax =
    then_gives (own_gives syntax.luma_depth syntax.sao_luma) (λ luma is_luma.
    then_gives (own_gives syntax.chroma_depth syntax.sao_chroma) (λ cb is_cb.
    then_gives (like_gives syntax.chroma_depth syntax.sao_chroma cb is_cb) (λ cr is_cr.
    give_gives _ (record { luma = is_luma; cb = is_cb; cr = is_cr }))))

pub no_sao_fits : IsSao no_sao
no_sao_fits = record { luma = tt; cb = tt; cr = tt }

above_gives : (syntax : CtuSyntax) (above : Sao) → IsSao above → Gives IsSao (sao_or_above syntax above)
above_gives syntax above is =
    after_any (λ merged. when_gives merged (λ held. give_gives above is) (λ held. own_sao_gives syntax))

merged_gives : (syntax : CtuSyntax) (left above : Sao) → IsSao left → IsSao above
    → Gives IsSao (merged_or_own syntax left above)
merged_gives syntax left above is too =
    after_any (λ merged. when_gives merged (λ held. give_gives left is) (λ held. above_gives syntax above too))

pub sao_gives : (syntax : CtuSyntax) (left above : Sao) → IsSao left → IsSao above
    → Gives IsSao (sao syntax left above)
unfolding sao
sao_gives syntax left above is too =
    when_gives syntax.sao_luma (λ held. merged_gives syntax left above is too)
    (λ held. when_gives syntax.sao_chroma (λ more. merged_gives syntax left above is too)
    (λ none. give_gives no_sao no_sao_fits))
