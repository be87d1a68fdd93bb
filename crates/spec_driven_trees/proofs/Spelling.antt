-- What answers give is spelled by its words.
use Rattle.std.proofs.Common.{◌≡◌, List, [], ◌∷◌, ◌++◌, Option, Some, None, refl, sym, ap, subst, ◌∙◌}
use Rattle.std.proofs.lemmas.Option.{none-some, same_Some}
use Rattle.spec_formats.specs.Format.{Format, Give, Refuse, One, Then, Word, Spells}
use Rattle.spec_cabac.specs.Bins.{Bin, BinValue, Decision, Bypass, Terminate, PcmStart, Sample, PcmEnd, Tree}
use Rattle.spec_driven_trees.specs.Driven.{Answer, Bit, Number, Driven, asked, answered, behind, then_driven, driven}

one_spelled : (bin : Bin) (x : BinValue bin) (left : List Answer) (d : Driven (BinValue bin))
    → asked bin x left ≡ Some d
    → Spells (One bin) d.value d.words
one_spelled bin x left d e =
    subst (λ (v : Driven (BinValue bin)). Spells (One bin) v.value v.words) (same_Some _ _ e) refl

pub question_spelled : (bin : Bin) (answers : List Answer) (d : Driven (BinValue bin)) → answered bin answers ≡ Some d
    → Spells (One bin) d.value d.words
unfolding answered
question_spelled (Decision i) (Bit b ∷ left) d e = one_spelled (Decision i) b left d e
question_spelled Bypass (Bit b ∷ left) d e = one_spelled Bypass b left d e
question_spelled Terminate (Bit b ∷ left) d e = one_spelled Terminate b left d e
question_spelled PcmStart left d e = one_spelled PcmStart tt left d e
question_spelled (Sample size) (Number n ∷ left) d e = one_spelled (Sample size) n left d e
question_spelled PcmEnd left d e = one_spelled PcmEnd tt left d e
question_spelled bin left d e = absurd (none-some d e)

record Later {X Y : Type 0} (r : Option (Driven X)) (f : X → List Answer
    → Option (Driven Y)) (d : Driven Y) : Type 0 where
  pub first : Driven X
  pub is : r ≡ Some first
  pub second : Driven Y
  pub follows : f first.value first.left ≡ Some second
  pub value : second.value ≡ d.value
  pub words : d.words ≡ first.words ++ second.words

behind_of : {X Y : Type 0} (first : Driven X) (f : X → List Answer
    → Option (Driven Y)) (r : Option (Driven Y)) (d : Driven Y)
    → r ≡ f first.value first.left → behind first.words r ≡ Some d → Later (Some first) f d
behind_of first f None d is e = absurd (none-some d e)
behind_of first f (Some second) d is e = record {
  first = first;
  is = refl;
  second = second;
  follows = sym is;
  value = ap (λ (v : Driven _). v.value) (same_Some _ _ e);
  words = sym (ap (λ (v : Driven _). v.words) (same_Some _ _ e));
}

later_of : {X Y : Type 0} (r : Option (Driven X)) (f : X → List Answer → Option (Driven Y)) (d : Driven Y)
    → then_driven r f ≡ Some d → Later r f d
later_of None f d e = absurd (none-some d e)
later_of (Some first) f d e = behind_of first f (f first.value first.left) d refl e

-- what answers give to a tree is spelled by its words
pub spelled : {X : Type 0} (format : Tree X) (answers : List Answer) (d : Driven X) → driven format answers ≡ Some d
    → Spells format d.value d.words
spelled (Give x) answers d e =
    let s = same_Some _ _ e in
    (ap (λ (v : Driven _). v.value) s, sym (ap (λ (v : Driven _). v.words) s))
spelled (Refuse b) answers d e = absurd (none-some d e)
spelled (One bin) answers d e = question_spelled bin answers d e
spelled (Then m f) answers d e =
    let l = later_of (driven m answers) (λ x left. driven (f x) left) d e in (
      l.first.value,
      l.first.words,
      l.second.words,
      spelled m answers l.first l.is,
      subst (λ x. Spells (f l.first.value) x l.second.words) l.value
          (spelled (f l.first.value) l.first.left l.second l.follows),
      l.words,
    )
