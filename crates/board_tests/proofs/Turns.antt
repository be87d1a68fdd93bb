-- What steps leave of a unit under way.
use Rattle.std.proofs.Common.{◌≡◌, ℕ, suc, ◌+◌, ◌-◌, ◌*◌, ◌<◌, ◌≤◌, min, sym, ap, ◌∙◌, subst, arith}
use Rattle.std.proofs.Common.{get_or}
use Rattle.progress_words.specs.declared.view.View.{View}
use Rattle.progress_words.specs.Faults.{unit_in}
use Rattle.progress_words.specs.Views.{seen_of, looking, checking, writing, counting, AllSound, HasEnded}
use Rattle.progress_words.proofs.Counts.{put_same, put_other}
use Rattle.board_tests.specs.declared.flight.Sums.{Sums}
use Rattle.board_tests.specs.declared.flight.Meant.{Meant}
use Rattle.board_tests.specs.declared.hand.Turn.{Turn}
use Rattle.board_tests.specs.Passes.{meaning_in}
use Rattle.board_tests.specs.Steps.{IsAt}
use Rattle.board_tests.specs.Sums.{value, left_of}
use Rattle.board_tests.specs.Stands.{IsUnder, IsFed}
use Rattle.board_tests.proofs.Builds.{ready_is, fed_is, one_more, counted_at, stopped_at, full_at}

-- what stands on the left of the next unit
pub left_next : (f : Sums) (l k : ℕ) → left_of f.input.items f.width l (k + 1) ≡ value f.input.items f.width l k
left_next f l k = let e : k + 1 ≡ suc k = omega arith in ap (λ (x : ℕ). left_of f.input.items f.width l x) e

module _ (f : Sums) (v : View Meant) (t : Turn) where
  -- a look at the row above
  pub looked_under : (x : ℕ) → 0 < t.line → IsUnder f v t 0 → IsUnder f (looking v (t.line - 1) x) t 0
  looked_under x some_row under = record {
    none = under.none;
    row = under.row;
    column = under.column;
    at = record {
      job = under.at.job;
      count = put_other v.seen (t.line - 1) x t.line (λ e. omega arith) ∙ under.at.count;
      written = under.at.written;
    };
    before = under.before;
  }

  pub looked_fed : (x : ℕ) → 0 < t.line → IsUnder f v t 0 → min (t.unit + 2) f.width ≤ x
      → AllSound (meaning_in f) (t.line - 1) x → IsFed f (looking v (t.line - 1) x) t
  looked_fed x some_row under enough sound =
      let row_in = under.row in
      record {
        ready = ready_is f.input.items f.marks.items f.rows f.width f.some_width (looking v (t.line - 1) x) t.line
            t.unit some_row (omega arith)
            (subst (λ (n : ℕ). min (t.unit + 2) f.width ≤ n) (sym (put_same v.seen (t.line - 1) x)) enough);
        fed = fed_is f.input.items f.marks.items f.rows f.width f.some_width t.line t.unit x some_row under.column
            sound enough;
      }

  -- a look at the fault word
  pub checked_under : (x : ℕ) → IsUnder f v t 0 → IsUnder f (checking v x) t 0
  checked_under x under = record {
    none = under.none;
    row = under.row;
    column = under.column;
    at = record { job = under.at.job; count = under.at.count; written = under.at.written };
    before = under.before;
  }

  pub checked_ended : (x : ℕ) → IsUnder f v t 0 → unit_in x < t.line * f.width + t.unit
      → HasEnded (meaning_in f) (checking v x)
  checked_ended x under below =
      stopped_at f.input.items f.marks.items f.rows f.width f.some_width (checking v x) t.line t.unit 0
      (checked_under x under).at below

  -- one more word
  pub written_under : (n : ℕ) → IsUnder f v t n → IsUnder f (writing v) t (n + 1)
  written_under n under = record {
    none = under.none;
    row = under.row;
    column = under.column;
    at = one_more f.input.items f.marks.items f.rows f.width f.some_width v t.line t.unit n under.at;
    before = under.before;
  }

  pub written_fed : IsFed f v t → IsFed f (writing v) t
  written_fed is = record { ready = is.ready; fed = is.fed }

  -- the unit is counted, and the next one is under way, or the line is full
  pub counted_under : (s : ℕ) → IsUnder f v t 2 → t.unit < get_or f.marks.items t.line 0 → t.unit + 1 < f.width
      → IsUnder f (counting v t.line (seen_of v t.line + 1)) (record { line = t.line; unit = t.unit + 1; sum = s }) 0
  counted_under s under before inside = record {
    none = under.none;
    row = under.row;
    column = inside;
    at = counted_at f.input.items f.marks.items f.rows f.width f.some_width v t.line t.unit 2 under.at;
    before = omega arith;
  }

  pub counted_full : IsUnder f v t 2 → t.unit + 1 ≡ f.width
      → HasEnded (meaning_in f) (counting v t.line (seen_of v t.line + 1))
  counted_full under full =
      let u : View Meant = counting v t.line (seen_of v t.line + 1) in
      full_at f.input.items f.marks.items f.rows f.width f.some_width u t.line 0 (subst (λ (k : ℕ). IsAt u t.line k 0)
      full (counted_at f.input.items f.marks.items f.rows f.width f.some_width v t.line t.unit 2 under.at))
