-- A unit that holds the values of its picture is packed into the words that are expected.
use Rattle.std.proofs.Common.{◌≡◌, ℕ, length, sym, ap, subst, ◌∙◌, ◌<◌, ◌^◌}
use Rattle.hv_base.specs.declared.line.Phase.TheVariants.{B}
use Rattle.header_types.specs.SequenceParameterSets.{IsSps}
use Rattle.plan_types.specs.declared.picture_plan.PicturePlan.{PicturePlan}
use Rattle.spec_known_units.specs.Known.{KnownUnit}
use Rattle.sample_words.specs.declared.unit_word.UnitWord.{UnitWord}
use Rattle.sample_words.specs.Contents.{PictureValues, expected_word}
use Rattle.sample_words.specs.Values.{IsModes, IsMotion, sample_bits}
use Rattle.sample_words.specs.Words.{unit_word}
use Rattle.unit_words.specs.declared.done_unit.DoneUnit.{DoneUnit}
use Rattle.unit_words.specs.Work.{HasWord, HoldsValues, IsPackable}
use Rattle.row_borders.specs.SpecFlights.{PlannedFlight, folded_at}
use Rattle.row_borders.specs.SpecFlights.{expected, expected_in, values_in}
use Rattle.flight_value_laws.specs.Ranges.{FitWords, IsInRange}
use Rattle.flight_value_laws.proofs.Values.{values_fit}
use Rattle.flight_packing_laws.specs.Done.{IsDone}
use Rattle.flight_packing_laws.proofs.Holding.{holds}
use Rattle.flight_packing_laws.proofs.Placed.{few_columns, few_rows}

module _ (f : PlannedFlight) (range : IsInRange f) (k : ℕ) (p : PicturePlan) (known : KnownUnit) (d : DoneUnit)
    (done : IsDone f k p known d) where
  abbrev sps : IsSps p.sps
  sps = (range.plans k p done.picture).sps

  abbrev values : PictureValues
  values = values_in p (folded_at f k)

  held : HoldsValues values d
  held = holds f range k p known d done

  fit : FitWords d.layout.now values
  fit = subst (λ s. FitWords s values) (sym done.layout) (values_fit f range k p done.picture)

  pub packable : IsPackable d
  packable = record {
    row = few_rows p.sps p.pps sps (length f.pictures) d.row d.column done.column done.row;
    column = few_columns p.sps p.pps sps (length f.pictures) d.row d.column done.column;
    samples = λ c x y few less lower.
        subst (λ v. v < 2 ^ sample_bits d.layout.now) (held.samples c x y few less lower) (fit.samples B c _ _);
    motion = λ x y less lower. subst IsMotion (held.motion x y less lower) (fit.motion _ _);
    modes = λ x y less lower. subst IsModes (held.modes x y less lower) (fit.modes _ _);
  }

  -- a word of the unit
  abbrev word_at : ℕ → UnitWord
  word_at index = unit_word B k d.row d.column index

  pub word_is : (index word : ℕ) → HasWord d index word → word ≡ expected f (unit_word B k d.row d.column index)
  unfolding expected expected_word
  word_is index word has =
      has values k held
      ∙ ap (λ s. expected_word s (λ j. values) (word_at index)) done.layout
      ∙ sym (ap (λ o. expected_in f o (word_at index)) done.picture)
