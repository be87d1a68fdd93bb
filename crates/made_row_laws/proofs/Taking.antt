-- Words that a tree takes off a list: those that spell its value stand at the front of the list.
use Rattle.std.proofs.Common.{◌≡◌, List, [], ◌∷◌, ◌++◌, Some, refl, sym, ap, ◌∙◌}
use Rattle.std.proofs.Common.{append_assoc, append-nil, subst}
use Rattle.spec_formats.specs.Format.{Give, One, Then, Spells}
use Rattle.spec_cabac.specs.Bins.{Bin, BinValue, Tree}
use Rattle.spec_driven_trees.specs.Driven.{Answer, Driven, driven}
use Rattle.spec_driven_trees.proofs.Spelling.{spelled}
use Rattle.spec_made.specs.Written.{Bins}

pub record Takes {X : Type 0} (format : Tree X) (x : X) (all rest : Bins) : Type 0 where
  pub words : Bins
  pub spells : Spells format x words
  pub is : all ≡ words ++ rest

pub gives : {X : Type 0} (x : X) (rest : Bins) → Takes (Give x) x rest rest
gives x rest = record { words = []; spells = (refl, refl); is = refl }

pub asks : (q : Bin) (x : BinValue q) (rest : Bins) → Takes (One q) x ((q, x) ∷ rest) rest
asks q x rest = record { words = (q, x) ∷ []; spells = refl; is = refl }

pub then_takes : {X Y : Type 0} {m : Tree X} {f : X → Tree Y} {x : X} {y : Y} {all mid rest : Bins}
    → Takes m x all mid → Takes (f x) y mid rest → Takes (Then m f) y all rest
then_takes {X} {Y} {m} {f} {x} {y} {all} {mid} {rest} a b = record {
  words = a.words ++ b.words;
  spells = (x, a.words, b.words, a.spells, b.spells, refl);
  is = a.is ∙ ap (λ l. a.words ++ l) b.is ∙ sym (append_assoc a.words b.words rest);
}

-- answers that drive a tree tell its words
pub driven_takes : {X : Type 0} (format : Tree X) (answers : List Answer) (d : Driven X) (rest : Bins)
    → driven format answers ≡ Some d → Takes format d.value (d.words ++ rest) rest
driven_takes format answers d rest is =
    record { words = d.words; spells = spelled format answers d is; is = refl }

-- what is taken off a list that is its words alone
pub all_taken : {X : Type 0} (format : Tree X) (x : X) (all : Bins) → Takes format x all [] → Spells format x all
all_taken format x all t = subst (λ words. Spells format x words) (sym (t.is ∙ append-nil t.words)) t.spells
