-- Items one after the other.
use Rattle.std.proofs.Common.{◌≡◌, ℕ, ◌+◌, ◌*◌, ◌<◌, ◌≤◌, Bool, true, false, ◌||◌, List, [], length, get_or, take}
use Rattle.std.proofs.Common.{replicate, refl, ap, sym, ◌∙◌, arith}
use Rattle.std.proofs.Math.Bool.{or-false}
use Rattle.std.specs.List.{fold, list_any}
use Rattle.std.proofs.lemmas.List.{take_all, get_or-replicate}
use Rattle.std.proofs.lemmas.List.Folds.{list_any_more}
use Rattle.std.proofs.lemmas.List.Sums.{fold_more}
use Rattle.ctu_records.specs.declared.item.Item.{Item}
use Rattle.ctu_records.specs.declared.item.Item.TheVariants.{Unit, Luma, Chroma, Prediction, Pcm, Sample, Transform}
use Rattle.ctu_records.specs.declared.item.Item.TheVariants.{Delta, Block, Level}
use Rattle.ctu_records.specs.Places.{by_place}
use Rattle.spec_boundary_strengths.specs.Edges.{is_transform_left}
use Rattle.spec_boundary_strengths.specs.Edges.{is_transform_top, is_prediction_left, is_prediction_top}
use Rattle.spec_boundary_strengths.specs.Places.{kept_laid, kept_at}
use Rattle.spec_boundary_strengths.specs.Strengths.{coded_laid, coded_at, nowhere}
use Rattle.boundary_strengths.specs.declared.marks.Marks.{Marks}
use Rattle.boundary_strengths.specs.Held.{AreMarked}
use Rattle.boundary_strengths.specs.Marking.{IsAdded, adds_nothing}

-- an item without blocks leaves marks as they are
stays : (old : Bool) → old ≡ (old || false)
stays old = sym (or-false old)

pub same_added : (pcm_disabled : Bool) (item : Item) (marks : Marks) → adds_nothing item ≡ true
    → IsAdded pcm_disabled item marks marks
same_added pcm_disabled (Unit unit) marks e = absurd cc
same_added pcm_disabled (Luma luma) marks e = record {
  transform_left = λ i j hi hj. stays _;
  transform_top = λ i j hi hj. stays _;
  prediction_left = λ i j hi hj. stays _;
  prediction_top = λ i j hi hj. stays _;
  coded = λ i j hi hj. refl;
  kept = λ i j hi hj. refl;
}
same_added pcm_disabled (Chroma mode) marks e = record {
  transform_left = λ i j hi hj. stays _;
  transform_top = λ i j hi hj. stays _;
  prediction_left = λ i j hi hj. stays _;
  prediction_top = λ i j hi hj. stays _;
  coded = λ i j hi hj. refl;
  kept = λ i j hi hj. refl;
}
same_added pcm_disabled (Prediction unit) marks e = absurd cc
same_added pcm_disabled (Pcm square) marks e = absurd cc
same_added pcm_disabled (Sample value) marks e = record {
  transform_left = λ i j hi hj. stays _;
  transform_top = λ i j hi hj. stays _;
  prediction_left = λ i j hi hj. stays _;
  prediction_top = λ i j hi hj. stays _;
  coded = λ i j hi hj. refl;
  kept = λ i j hi hj. refl;
}
same_added pcm_disabled (Transform unit) marks e = absurd cc
same_added pcm_disabled (Delta delta) marks e = record {
  transform_left = λ i j hi hj. stays _;
  transform_top = λ i j hi hj. stays _;
  prediction_left = λ i j hi hj. stays _;
  prediction_top = λ i j hi hj. stays _;
  coded = λ i j hi hj. refl;
  kept = λ i j hi hj. refl;
}
same_added pcm_disabled (Block block) marks e = record {
  transform_left = λ i j hi hj. stays _;
  transform_top = λ i j hi hj. stays _;
  prediction_left = λ i j hi hj. stays _;
  prediction_top = λ i j hi hj. stays _;
  coded = λ i j hi hj. refl;
  kept = λ i j hi hj. refl;
}
same_added pcm_disabled (Level place value) marks e = record {
  transform_left = λ i j hi hj. stays _;
  transform_top = λ i j hi hj. stays _;
  prediction_left = λ i j hi hj. stays _;
  prediction_top = λ i j hi hj. stays _;
  coded = λ i j hi hj. refl;
  kept = λ i j hi hj. refl;
}

-- what is laid over a place depends on what was there alone
coded_by : (places other : ℕ → ℕ → Bool) (item : Item) (i j : ℕ) → places i j ≡ other i j
    → coded_laid places item i j ≡ coded_laid other item i j
coded_by places other (Transform unit) i j e = rw e refl
coded_by places other rest i j e = e

kept_by : (pcm_disabled : Bool) (places other : ℕ → ℕ → Bool) (item : Item) (i j : ℕ) → places i j ≡ other i j
    → kept_laid pcm_disabled places item i j ≡ kept_laid pcm_disabled other item i j
kept_by pcm_disabled places other (Unit unit) i j e = rw e refl
kept_by pcm_disabled places other (Luma luma) i j e = e
kept_by pcm_disabled places other (Chroma mode) i j e = e
kept_by pcm_disabled places other (Prediction unit) i j e = e
kept_by true places other (Pcm square) i j e = rw e refl
kept_by false places other (Pcm square) i j e = e
kept_by pcm_disabled places other (Sample value) i j e = e
kept_by pcm_disabled places other (Transform unit) i j e = e
kept_by pcm_disabled places other (Delta delta) i j e = e
kept_by pcm_disabled places other (Block block) i j e = e
kept_by pcm_disabled places other (Level place value) i j e = e

-- one more item of a list in which a test passes
any_more : (test : Item → Bool) (items : List Item) (k : ℕ) (d item : Item) (old new : Bool) → k < length items
    → get_or items k d ≡ item
    → old ≡ list_any test (take k items) → new ≡ (old || test item) → new ≡ list_any test (take (k + 1) items)
any_more test items k d item old new lt is told added =
    added
    ∙ (ap (λ (b : Bool). b || test item) told
    ∙ (ap (λ (x : Item). list_any test (take k items) || test x) (sym is) ∙ sym (list_any_more test items k d lt)))

coded_more : (items : List Item) (k : ℕ) (d item : Item) → k < length items → get_or items k d ≡ item
    → (i j : ℕ) → coded_at (take (k + 1) items) i j ≡ coded_laid (coded_at (take k items)) item i j
unfolding coded_at
coded_more items k d item lt is i j =
    ap (λ (f : ℕ → ℕ → Bool). f i j) (fold_more coded_laid nowhere items k d lt)
    ∙ ap (λ (x : Item). coded_laid (fold coded_laid nowhere (take k items)) x i j) is

kept_more : (pcm_disabled : Bool) (items : List Item) (k : ℕ) (d item : Item) → k < length items
    → get_or items k d ≡ item → (i j : ℕ)
    → kept_at pcm_disabled (take (k + 1) items) i j
    ≡ kept_laid pcm_disabled (kept_at pcm_disabled (take k items)) item i j
unfolding kept_at
kept_more pcm_disabled items k d item lt is i j =
    ap (λ (f : ℕ → ℕ → Bool). f i j) (fold_more (kept_laid pcm_disabled) nowhere items k d lt)
    ∙ ap (λ (x : Item). kept_laid pcm_disabled (fold (kept_laid pcm_disabled) nowhere (take k items)) x i j) is

-- one more item
pub marked_more : (pcm_disabled : Bool) (items : List Item) (k : ℕ) (d item : Item) (old new : Marks) → k < length items
    → get_or items k d ≡ item
    → IsAdded pcm_disabled item old new → AreMarked pcm_disabled (take k items) old
    → AreMarked pcm_disabled (take (k + 1) items) new
unfolding is_transform_left is_transform_top is_prediction_left is_prediction_top
marked_more pcm_disabled items k d item old new lt is added told = record {
  transform_left =
      λ i j hi hj. any_more _ items k d item _ _ lt is (told.transform_left i j hi hj) (added.transform_left i j hi hj);
  transform_top =
      λ i j hi hj. any_more _ items k d item _ _ lt is (told.transform_top i j hi hj) (added.transform_top i j hi hj);
  prediction_left = λ i j hi hj. any_more _ items k d item _ _ lt is (told.prediction_left i j hi hj)
      (added.prediction_left i j hi hj);
  prediction_top =
      λ i j hi hj. any_more _ items k d item _ _ lt is (told.prediction_top i j hi hj) (added.prediction_top i j hi hj);
  coded = λ i j hi hj. added.coded i j hi hj
      ∙ (coded_by _ _ item i j (told.coded i j hi hj) ∙ sym (coded_more items k d item lt is i j));
  kept = λ i j hi hj. added.kept i j hi hj
      ∙ (kept_by pcm_disabled _ _ item i j (told.kept i j hi hj)
      ∙ sym (kept_more pcm_disabled items k d item lt is i j));
}

-- behind the last item
pub marked_all : (pcm_disabled : Bool) (items : List Item) (k : ℕ) (marks : Marks) → length items ≤ k
    → AreMarked pcm_disabled (take k items) marks → AreMarked pcm_disabled items marks
marked_all pcm_disabled items k marks le told = rw (take_all k items le) at told

field_none : (cells : List Bool) (i j : ℕ) → cells ≡ replicate 256 false → i < 16 → j < 16
    → by_place false cells i j ≡ false
field_none cells i j e hi hj = rw e (get_or-replicate 256 (16 * j + i) false false (omega arith))

-- no marks, before the first item
pub marked_none : (pcm_disabled : Bool) (marks : Marks) → marks.transform_left ≡ replicate 256 false
    → marks.transform_top ≡ replicate 256 false → marks.prediction_left ≡ replicate 256 false
    → marks.prediction_top ≡ replicate 256 false → marks.coded ≡ replicate 256 false → marks.kept ≡ replicate 256 false
    → AreMarked pcm_disabled [] marks
unfolding is_transform_left is_transform_top is_prediction_left is_prediction_top coded_at kept_at
marked_none pcm_disabled marks tl top pl pt c k = record {
  transform_left = λ i j hi hj. field_none _ i j tl hi hj;
  transform_top = λ i j hi hj. field_none _ i j top hi hj;
  prediction_left = λ i j hi hj. field_none _ i j pl hi hj;
  prediction_top = λ i j hi hj. field_none _ i j pt hi hj;
  coded = λ i j hi hj. field_none _ i j c hi hj;
  kept = λ i j hi hj. field_none _ i j k hi hj;
}
