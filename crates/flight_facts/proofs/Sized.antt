-- The sizes of a flight of pictures in words.
use Rattle.std.proofs.Common.{◌≡◌, refl, ℕ, zero, suc, ◌+◌, ◌%◌, ◌^◌, ◌<◌, ◌≤◌, arith, ap, sym, subst, ◌∙◌}
use Rattle.std.proofs.Common.{List, [], ◌∷◌, length, Some, slice_get, inl, inr}
use Rattle.std.proofs.lemmas.Option.{slice_get_cases, slice_get_within}
use Rattle.std.specs.Prelude.{nat_lt, ◌||◌}
use Rattle.header_types.specs.declared.sps.SpsFields.{SpsFields}
use Rattle.header_types.specs.SequenceParameterSets.{IsSps, blocks_across, ctb_log2, height_in_ctbs}
use Rattle.header_types.specs.SequenceParameterSets.{width_in_ctbs}
use Rattle.plan_types.specs.declared.picture_plan.PicturePlan.{PicturePlan}
use Rattle.flight_plan.specs.Flight.{picture_at}
use Rattle.sample_words.specs.Sizes.{IsFlight as AreSizes, columns, rows}
use Rattle.flight_unit_laws.specs.SpecFlights.{PlannedFlight}
use Rattle.flight_unit_laws.specs.SpecFlights.{flight_rows}
use Rattle.flight_unit_laws.specs.SpecFlights.{flight_sizes}
use Rattle.flight_unit_laws.specs.Planned.{IsPlanned}
use Rattle.flight_unit_laws.proofs.Pictures.{as_many, height_is, width_is}
use Rattle.flight_unit_laws.proofs.Range.{is_flight}
use Rattle.line_words.specs.FlightLines.{IsSized}
use Rattle.flight_facts.specs.Boards.{sizes_in}

-- a multiple of a smallest coding block's side is one of eight
eighth : (n m : ℕ) → m ≤ 3 → n % 2 ^ (m + 3) ≡ 0 → n % 8 ≡ 0
eighth n zero few e = e
eighth n (suc zero) few e = let h : n % 16 ≡ 0 = e in omega (arith, h)
eighth n (suc (suc zero)) few e = let h : n % 32 ≡ 0 = e in omega (arith, h)
eighth n (suc (suc (suc zero))) few e = let h : n % 64 ≡ 0 = e in omega (arith, h)
eighth n (suc (suc (suc (suc m)))) few e = absurd (omega (arith, few))

whole_eights : (n : ℕ) → 1 ≤ n → n % 8 ≡ 0 → 8 ≤ n
whole_eights n some whole = omega (arith, some, whole)

pub are_sizes : (sps : SpsFields) (n : ℕ) → IsSps sps → 1 ≤ n → n ≤ 65536 → AreSizes (flight_sizes sps n)
are_sizes sps n is some few =
    let m : ℕ = sps.blocks.log2_min_luma_coding_block_size_minus3 in
    let columns = eighth sps.format.pic_width_in_luma_samples m is.blocks.min_cb is.blocks.columns in
    let rows = eighth sps.format.pic_height_in_luma_samples m is.blocks.min_cb is.blocks.rows in
    record {
      some_width = whole_eights sps.format.pic_width_in_luma_samples is.format.some_width columns;
      width = is.format.width;
      whole_columns = columns;
      some_height = whole_eights sps.format.pic_height_in_luma_samples is.format.some_height rows;
      height = is.format.height;
      whole_rows = rows;
      least_unit = is.blocks.least_ctb;
      greatest_unit = is.blocks.greatest_ctb;
      some_pictures = some;
      pictures = few;
    }

same_sizes : (a b : SpsFields) (n : ℕ) → a.format ≡ b.format → a.blocks ≡ b.blocks → flight_sizes a n ≡ flight_sizes b n
same_sizes a b n format blocks = λ i. record {
  width = (format i).pic_width_in_luma_samples;
  height = (format i).pic_height_in_luma_samples;
  ctb_log2 = ctb_log2 (blocks i);
  deep = nat_lt 0 (format i).bit_depth_luma_minus8 || nat_lt 0 (format i).bit_depth_chroma_minus8;
  pictures = n;
}

-- the sizes are those of any picture that agrees with the first
sizes_by : (ps : List PicturePlan) (k : ℕ) (p : PicturePlan) → slice_get ps k ≡ Some p
    → ((q : PicturePlan) → slice_get ps 0 ≡ Some q → (q.sps.format ≡ p.sps.format) × (q.sps.blocks ≡ p.sps.blocks))
    → sizes_in ps ≡ flight_sizes p.sps (length ps)
sizes_by [] k p has each = let less = slice_get_within [] k p has in absurd (omega (arith, less))
sizes_by (q ∷ later) k p has each =
    let same = each q refl in
    same_sizes q.sps p.sps (length (q ∷ later)) same.0 same.1

columns_are : (sps : SpsFields) (n : ℕ) → width_in_ctbs sps ≡ columns (flight_sizes sps n)
unfolding blocks_across columns
columns_are sps n = refl

rows_are : (sps : SpsFields) (n : ℕ) → height_in_ctbs sps ≡ rows (flight_sizes sps n)
unfolding blocks_across rows
rows_are sps n = refl

module _ (f : PlannedFlight) (planned : IsPlanned f) where
  pub sizes_are : (k : ℕ) (p : PicturePlan) → slice_get f.pictures k ≡ Some p
      → sizes_in f.pictures ≡ flight_sizes p.sps (length f.pictures)
  sizes_are k p has =
      sizes_by f.pictures k p has
      (λ q first. (planned.formats 0 k q p first has, planned.blocks 0 k q p first has))

  first_sizes : AreSizes (sizes_in f.pictures)
  first_sizes =
      elim ((slice_get_cases f.pictures 0).1) [
        | inl there ↦
            subst AreSizes (sym (sizes_are 0 there.0 there.2))
            (are_sizes there.0.sps (length f.pictures) (planned.sps 0 there.0 there.2) planned.some planned.few)
        | inr past ↦ absurd (omega (arith, past.0, planned.some))
      ]

  count_by : (ps : List PicturePlan) → length ps ≡ (sizes_in ps).pictures
  count_by [] = refl
  count_by (p ∷ later) = refl

  wide : (k : ℕ) → k < length f.pictures → (picture_at (flight_rows f) k).width ≡ columns (sizes_in f.pictures)
  wide k less =
      elim ((slice_get_cases f.pictures k).1) [
        | inl there ↦
            width_is f k there.0 there.2
            ∙ (columns_are there.0.sps (length f.pictures) ∙ ap columns (sym (sizes_are k there.0 there.2)))
        | inr past ↦ absurd (omega (arith, past.0, less))
      ]

  high : (k : ℕ) → k < length f.pictures → (picture_at (flight_rows f) k).rows ≡ rows (sizes_in f.pictures)
  high k less =
      elim ((slice_get_cases f.pictures k).1) [
        | inl there ↦
            height_is f k there.0 there.2
            ∙ (rows_are there.0.sps (length f.pictures) ∙ ap rows (sym (sizes_are k there.0 there.2)))
        | inr past ↦ absurd (omega (arith, past.0, less))
      ]

  pub flight_sized : IsSized (flight_rows f) (sizes_in f.pictures)
  flight_sized =
      let many = as_many f in
      record {
        flight = is_flight f planned;
        sizes = first_sizes;
        count = many ∙ count_by f.pictures;
        widths = λ k less. wide k (omega (arith, less, many));
        heights = λ k less. high k (omega (arith, less, many));
      }
