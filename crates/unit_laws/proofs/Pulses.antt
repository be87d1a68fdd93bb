-- Samples by pulse code modulation, read one after the other.
use Rattle.std.proofs.Common.{◌≡◌, ℕ, zero, suc, ◌+◌, ◌-◌, ◌*◌, ◌^◌, ◌<◌, List, [], ◌∷◌, ◌++◌, length, refl, ap, sym}
use Rattle.std.proofs.Common.{subst, ◌∙◌, append_assoc, append-nil, arith}
use Rattle.std.specs.Prelude.{slice_index_or}
use Rattle.std.specs.List.{All}
use Rattle.std.proofs.lemmas.List.{get_or_append_left, get_or-append_right, length-append}
use Rattle.std.proofs.lemmas.List.Elements.{All-nil, All-cons, All-append}
use Rattle.ctu_records.specs.declared.item.Item.{Item}
use Rattle.ctu_records.specs.declared.item.Item.TheVariants.{Pcm, Sample}
use Rattle.ctu_records.specs.declared.item.Square.{Square}
use Rattle.ctu_records.specs.Tree.{Ctu, added}
use Rattle.spec_cabac.specs.Bins.{Tree, times}
use Rattle.spec_picture_build.specs.SpecReconstruction.{UnitFormat}
use Rattle.spec_picture_build.specs.SpecReconstruction.{sample_of}
use Rattle.spec_picture_build.specs.SpecReconstruction.{HasPulses, ArePulses}
use Rattle.spec_slice_data.specs.Tree.{pcm_sample, pcm_samples}
use Rattle.unit_laws.proofs.Formats.{Gives, give_gives, then_gives, sample_gives}
use Rattle.unit_laws.proofs.Items.{IsRead, IsKept, added_read, kept_of, whole_pulses, pulses_appended}

-- what holds of each number of steps
times_counted : {X : Type 0} (P : ℕ → X → Type 0) (step : ℕ → X → Tree X)
    → ((i : ℕ) (x : X) → P i x → Gives (P (i + 1)) (step i x)) → (i n : ℕ) (x : X) → P i x
    → Gives (P (i + n)) (times i n step x)
unfolding times
times_counted P step each i zero x p = let e : i ≡ i + 0 = omega arith in give_gives x (subst (λ k. P k x) e p)
times_counted P step each i (suc n) x p =
    let e : i + 1 + n ≡ i + suc n = omega arith in
    then_gives (each i x p)
    (λ y q. subst (λ k. Gives (P k) (times (i + 1) n step y)) e (times_counted P step each (i + 1) n y q))

-- so many samples of so many bits behind a unit's items
pub record IsRun (format : UnitFormat) (greatest : ℕ) (start : Ctu) (bits i : ℕ) (ctu : Ctu) : Type 0 where
  pub read : IsRead format greatest ctu
  pub seen : List Item
  pub is : ctu.items ≡ start.items ++ seen
  pub count : length seen ≡ i
  pub small : All (λ item. sample_of item < 2 ^ bits) seen
  pub pulses : ArePulses format seen

module _ (format : UnitFormat) (greatest : ℕ) where
  run_begins : (start : Ctu) (bits : ℕ) → IsRead format greatest start → IsRun format greatest start bits 0 start
  unfolding ArePulses
  run_begins start bits read = record {
    read = read;
    seen = [];
    is = sym (append-nil start.items);
    count = refl;
    small = All-nil (λ item. sample_of item < 2 ^ bits);
    pulses = tt;
  }

  run_more : (start : Ctu) (bits i : ℕ) (ctu : Ctu) (value : ℕ) → IsRun format greatest start bits i ctu
      → value < 2 ^ bits → IsRun format greatest start bits (i + 1) (added ctu (Sample value))
  run_more start bits i ctu value run below = record {
    read = added_read format greatest ctu (Sample value) run.read tt tt tt;
    seen = run.seen ++ Sample value ∷ [];
    is =
        ap (λ (xs : List Item). xs ++ Sample value ∷ []) run.is ∙ append_assoc start.items run.seen (Sample value ∷ []);
    count = omega (arith, run.count, length-append run.seen (Sample value ∷ []));
    small =
        All-append (λ item. sample_of item < 2 ^ bits) run.seen (Sample value ∷ []) run.small
        (All-cons (λ item. sample_of item < 2 ^ bits) (Sample value) [] below
        (All-nil (λ item. sample_of item < 2 ^ bits)));
    pulses = pulses_appended format run.seen (Sample value ∷ []) run.pulses (whole_pulses format (Sample value) tt);
  }

  pub samples_run : (bits count : ℕ) (start : Ctu) → IsRead format greatest start
      → Gives (IsRun format greatest start bits count) (pcm_samples bits count start)
  samples_run bits count start read =
      let e : 0 + count ≡ count = omega arith in
      subst (λ k. Gives (IsRun format greatest start bits k) (pcm_samples bits count start)) e
      (times_counted (IsRun format greatest start bits) (pcm_sample bits)
      (λ i c run. then_gives (sample_gives bits) (λ value below. give_gives (added c (Sample value))
      (run_more start bits i c value run below)))
      0 count start (run_begins start bits read))

  module _ (square : Square) (luma_bits chroma_bits : ℕ) (luma_is : luma_bits ≡ format.pcm_luma_bits)
      (chroma_is : chroma_bits ≡ format.pcm_chroma_bits) where
    has_both : (luma chroma : List Item) → length luma ≡ 16 * 4 ^ square.log2_size
        → length chroma ≡ 8 * 4 ^ square.log2_size
        → All (λ item. sample_of item < 2 ^ luma_bits) luma → All (λ item. sample_of item < 2 ^ chroma_bits) chroma
        → HasPulses format square (luma ++ chroma)
    has_both luma chroma many half first second = record {
      count = omega (arith, length-append luma chroma, many, half);
      luma = λ k below.
          subst (λ item. sample_of item < 2 ^ format.pcm_luma_bits)
          (sym (get_or_append_left luma chroma (Sample 0) k (omega (arith, below, many))))
          (subst (λ bits. sample_of (slice_index_or luma k (Sample 0)) < 2 ^ bits) luma_is
          (first k (Sample 0) (omega (arith, below, many))));
      chroma = λ k above below.
          subst (λ item. sample_of item < 2 ^ format.pcm_chroma_bits)
          (sym (get_or-append_right luma chroma (16 * 4 ^ square.log2_size) k (Sample 0) many above))
          (subst (λ bits. sample_of (slice_index_or chroma (k - 16 * 4 ^ square.log2_size) (Sample 0)) < 2 ^ bits)
          chroma_is (second (k - 16 * 4 ^ square.log2_size) (Sample 0) (omega (arith, above, below, half))));
    }

  -- a square whose samples are read
  pub pulses_kept : (square : Square) (ctu luma chroma : Ctu) (luma_bits chroma_bits : ℕ) → IsKept format greatest ctu
      → luma_bits ≡ format.pcm_luma_bits → chroma_bits ≡ format.pcm_chroma_bits
      → IsRun format greatest (added ctu (Pcm square)) luma_bits (16 * 4 ^ square.log2_size) luma
      → IsRun format greatest luma chroma_bits (8 * 4 ^ square.log2_size) chroma → IsKept format greatest chroma
  unfolding ArePulses
  pulses_kept square ctu luma chroma luma_bits chroma_bits kept luma_is chroma_is first second =
      let both = first.seen ++ second.seen in
      let items : chroma.items ≡ ctu.items ++ Pcm square ∷ both =
      second.is ∙ ap (λ (xs : List Item). xs ++ second.seen) first.is
      ∙ append_assoc (ctu.items ++ Pcm square ∷ []) first.seen second.seen
      ∙ append_assoc ctu.items (Pcm square ∷ []) both in
      let has =
      has_both square luma_bits chroma_bits luma_is chroma_is first.seen second.seen first.count second.count
      first.small second.small in
      let filled : ArePulses format (Pcm square ∷ both) =
      (has, pulses_appended format first.seen second.seen first.pulses second.pulses) in
      kept_of format greatest chroma second.read
      (subst (ArePulses format) (sym items) (pulses_appended format ctu.items (Pcm square ∷ both) kept.pulses filled))
