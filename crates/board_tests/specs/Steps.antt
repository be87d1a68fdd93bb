-- How far a pass is.
use Rattle.std.specs.Prelude.{ℕ, ◌≡◌, ◌+◌, List, Some, true}
use Rattle.progress_words.specs.declared.view.View.{View}
use Rattle.progress_words.specs.Meanings.{Meaning}
use Rattle.progress_words.specs.Views.{seen_of, HasEnded}
use Rattle.progress_words.specs.Core.{AreMet}
use Rattle.board_tests.specs.Sums.{needs, meaning_of}

-- it holds line l, of which k units are counted and n words of the next one are written
pub record IsAt {F : Type 0} (v : View F) (l k n : ℕ) : Type 0 where
  pub job : v.job ≡ Some l
  pub count : seen_of v l ≡ k
  pub written : v.written ≡ n

-- the same draws, splits and joins
pub record IsSame {F : Type 0} (v w : View F) : Type 0 where
  pub none : w.none ≡ v.none
  pub opens : w.opens ≡ v.opens
  pub splits : w.splits ≡ v.splits
  pub joins : w.joins ≡ v.joins

-- what unit k of line l needs is seen counted
abbrev pub IsReady : {F : Type 0} → List ℕ → List ℕ → ℕ → ℕ → View F → ℕ → ℕ → Type 0
IsReady xs marks rows w v l k = AreMet (meaning_of xs marks rows w) (seen_of v) (needs w l k)

-- a draw gave none, the job held last has ended, and it has split and joined as before
pub record IsDone {F : Type 0} (m : Meaning) (v u : View F) : Type 0 where
  pub none : u.none ≡ true
  pub ended : HasEnded m u
  pub opens : u.opens ≡ v.opens
  pub splits : u.splits ≡ v.splits
  pub joins : u.joins ≡ v.joins

-- the same, and as many joins were added as splits
pub record IsGathered {F : Type 0} (m : Meaning) (v u : View F) : Type 0 where
  pub none : u.none ≡ true
  pub ended : HasEnded m u
  pub opens : u.opens ≡ v.opens
  pub whole : u.splits + v.joins ≡ u.joins + v.splits
