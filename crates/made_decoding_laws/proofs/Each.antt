-- Each picture of a made stream is decoded as it is drawn.
use Rattle.std.proofs.Common.{◌≡◌, ℕ, zero, suc, ◌+◌, ◌-◌, ◌%◌, cond, Bool, true, false, List, [], ◌∷◌, get_or}
use Rattle.std.proofs.Common.{refl, arith}
use Rattle.std.specs.Prelude.{◌==◌, slice_index_or, slice_set}
use Rattle.std.proofs.lemmas.Bool.Decides.{nat_tests}
use Rattle.header_types.specs.declared.reference_pictures.Mark.TheVariants.{Short, Unused}
use Rattle.slice_types.specs.declared.slice.SliceType.TheVariants as slice
use Rattle.plan_types.specs.declared.stated_hash.StatedHash.{StatedHash}
use Rattle.rand_pcg.specs.Lcg.{Lcg}
use Rattle.spec_picture_build.specs.References.{DecodedPicture}
use Rattle.spec_made.specs.declared.units.InterUnit.{InterUnit}
use Rattle.spec_made.specs.Draws.{all_of, coded_first, inter_unit_of, inter_units_of, motion_of, no_unit}
use Rattle.spec_made.specs.Draws.{pcm_units_of, shift_of}
use Rattle.spec_made.specs.InterRows.{is_skipped}
use Rattle.spec_made.specs.Stream.{Making}
use Rattle.made_laws.specs.Headers.{order_at}
use Rattle.made_laws.specs.Plans.{BufferUse, MadeSlice, any_b, first_idr, first_p, later_idr, later_p, made_plan}
use Rattle.made_laws.specs.Plans.{plan_with}
use Rattle.made_laws.specs.Streams.{idr_picture, inter_picture, picture_at, slice_at}
use Rattle.made_row_laws.specs.Rows.{IsReadAs}
use Rattle.made_row_laws.specs.Units.{pcm_items}
use Rattle.made_row_laws.proofs.Ranges.{are_drawn, motion_small}
use Rattle.made_stream_laws.specs.Streams.{items_at, predicted_items}
use Rattle.made_picture_laws.specs.Pictures.{HasDrawn, IsDecodedAs}
use Rattle.made_picture_laws.proofs.Idr.{idr_decoded}
use Rattle.made_picture_laws.proofs.Made.{b_decoded, p_decoded}
use Rattle.made_decoding_laws.specs.References.{AreMade, HasReferences}

-- the first coding unit of a P or B picture isn't skipped
set_false : (skips : List Bool) (quarter : ℕ) → quarter ≡ 0 → get_or (slice_set skips 0 false) quarter false ≡ false
set_false [] zero e = refl
set_false (s ∷ skips) zero e = refl
set_false skips (suc q) e = absurd (omega arith)

either_zero : (b : Bool) → cond {A = ℕ} b 0 0 ≡ 0
either_zero true = refl
either_zero false = refl

first_coded : (u : InterUnit) → is_skipped (coded_first u) 0 ≡ false
first_coded u = set_false u.skips (cond u.split 0 0) (either_zero u.split)

coded_is : (g : Lcg) → is_skipped (slice_index_or (inter_units_of g).0 0 no_unit) 0 ≡ false
unfolding all_of
coded_is g = first_coded (inter_unit_of g).0

module _ (buffer : List DecodedPicture) (poc nal : ℕ) (s : MadeSlice) (hashes : List StatedHash) (m : Making)
    (made : AreMade m) where
  first_p_decoded : (order : ℕ) → HasDrawn m.last buffer 0
      → IsReadAs (plan_with first_p slice.P poc nal s hashes) (predicted_items false m)
      → IsDecodedAs buffer (plan_with first_p slice.P poc nal s hashes) (inter_picture false order m).planes
  unfolding inter_picture predicted_items motion_of
  first_p_decoded order has read =
      p_decoded (Short ∷ []) [] (0 ∷ []) (0 ∷ 1 ∷ []) poc nal s hashes buffer 0 m.last (shift_of m.generator).0
      (inter_units_of (motion_of false m.generator).1).0 (motion_small false m.generator).0
      (coded_is (motion_of false m.generator).1) made.last has read

  later_p_decoded : (order : ℕ) → HasDrawn m.last buffer 1
      → IsReadAs (plan_with later_p slice.P poc nal s hashes) (predicted_items false m)
      → IsDecodedAs buffer (plan_with later_p slice.P poc nal s hashes) (inter_picture false order m).planes
  unfolding inter_picture predicted_items motion_of
  later_p_decoded order has read =
      p_decoded (Unused ∷ Short ∷ Unused ∷ []) [] (1 ∷ []) (1 ∷ 3 ∷ []) poc nal s hashes buffer 1 m.last
      (shift_of m.generator).0 (inter_units_of (motion_of false m.generator).1).0 (motion_small false m.generator).0
      (coded_is (motion_of false m.generator).1) made.last has read

  any_b_decoded : (order : ℕ) → HasDrawn m.older buffer 0 → HasDrawn m.last buffer 1
      → IsReadAs (plan_with any_b slice.B poc nal s hashes) (predicted_items true m)
      → IsDecodedAs buffer (plan_with any_b slice.B poc nal s hashes) (inter_picture true order m).planes
  unfolding inter_picture predicted_items motion_of
  any_b_decoded order older last read =
      b_decoded (Short ∷ Short ∷ []) [] (2 ∷ []) (0 ∷ 1 ∷ 2 ∷ []) poc nal s hashes buffer 0 1 m.older m.last
      (shift_of m.generator).0 (shift_of (shift_of m.generator).1).0
      (inter_units_of (motion_of true m.generator).1).0 (motion_small true m.generator).0
      (motion_small true m.generator).1 (coded_is (motion_of true m.generator).1) made.older made.last older last read

-- ---- the picture of a number in its group

references_p : (g : ℕ) (m : Making) (buffer : List DecodedPicture) → HasReferences g m buffer
    → (g % 2 == 1) ≡ true → HasDrawn m.last buffer (cond (g == 1) 0 1)
references_p g m buffer has odd = has.one (grind (arith, nat_tests))

module _ (buffer : List DecodedPicture) (poc nal : ℕ) (s : MadeSlice) (hashes : List StatedHash) (m : Making)
    (made : AreMade m) where
  any_idr_decoded : (d : BufferUse) → IsReadAs (plan_with d slice.I poc nal s hashes) (pcm_items (pcm_units_of
      m.generator).0)
      → IsDecodedAs buffer (plan_with d slice.I poc nal s hashes) (idr_picture m).planes
  unfolding idr_picture
  any_idr_decoded d read =
      idr_decoded buffer d poc nal s hashes (pcm_units_of m.generator).0 (are_drawn m.generator) read

  any_decoded : (zero first odd one : Bool) (order other : ℕ)
      → (zero ≡ false → odd ≡ true → HasDrawn m.last buffer (cond one 0 1))
      → (zero ≡ false → odd ≡ false → HasDrawn m.older buffer 0)
      → (zero ≡ false → odd ≡ false → HasDrawn m.last buffer 1)
      → IsReadAs
      (plan_with (cond zero (cond first first_idr later_idr) (cond odd (cond one first_p later_p) any_b))
      (cond zero slice.I (cond odd slice.P slice.B)) poc nal s hashes)
      (cond zero (pcm_items (pcm_units_of m.generator).0)
      (cond odd (predicted_items false m) (predicted_items true m)))
      → IsDecodedAs buffer
      (plan_with (cond zero (cond first first_idr later_idr) (cond odd (cond one first_p later_p) any_b))
      (cond zero slice.I (cond odd slice.P slice.B)) poc nal s hashes)
      (cond zero (idr_picture m) (cond odd (inter_picture false order m) (inter_picture true other m))).planes
  any_decoded true first odd one order other p older last read =
      any_idr_decoded (cond first first_idr later_idr) read
  any_decoded false first true true order other p older last read =
      first_p_decoded buffer poc nal s hashes m made order (p refl refl) read
  any_decoded false first true false order other p older last read =
      later_p_decoded buffer poc nal s hashes m made order (p refl refl) read
  any_decoded false first false one order other p older last read =
      any_b_decoded buffer poc nal s hashes m made other (older refl refl) (last refl refl) read

not_first : (g : ℕ) → (g == 0) ≡ false → ¬ (g ≡ 0)
not_first g e = λ is. absurd (grind (arith, nat_tests))

not_odd : (g : ℕ) → (g % 2 == 1) ≡ false → ¬ (g % 2 ≡ 1)
not_odd g e = λ is. absurd (grind (arith, nat_tests))

-- a picture that is made is decoded as it is drawn
pub each_decoded : (first : Bool) (g nal : ℕ) (m : Making) (hashes : List StatedHash) (buffer : List DecodedPicture)
    → AreMade m → HasReferences g m buffer → IsReadAs (made_plan first g nal (slice_at g m) hashes) (items_at g m)
    → IsDecodedAs buffer (made_plan first g nal (slice_at g m) hashes) (picture_at g m).planes
unfolding made_plan items_at picture_at
each_decoded first g nal m hashes buffer made has read =
    any_decoded buffer (order_at g) nal (slice_at g m) hashes m made (g == 0) first (g % 2 == 1) (g == 1) (g + 1)
    (g - 1) (λ _ odd. references_p g m buffer has odd)
    (λ n even. has.older (not_first g n) (not_odd g even)) (λ n even. has.last (not_first g n) (not_odd g even)) read
