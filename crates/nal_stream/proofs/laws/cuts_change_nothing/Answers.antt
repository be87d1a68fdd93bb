use Rattle.std.proofs.Common.{◌≡◌, List, [], ◌∷◌, ◌++◌, length, refl, sym, ap, ◌∙◌, arith}
use Rattle.std.proofs.lemmas.List.{append-nil}
use Rattle.spec_nal_units.specs.Judged.{Told, Whole, Broken, Met, unit_of, told_of}
use Rattle.nal_stream.specs.declared.answer.Next.{Next}
use Rattle.nal_stream.specs.declared.answer.Next.TheVariants as next
use Rattle.nal_stream.specs.Answers.{told_by}
use Rattle.nal_stream.specs.Framing.{History, IsNext}
use Rattle.nal_stream.proofs.laws.cuts_change_nothing.Goals as goal

first : List Told → List Told
first [] = []
first (t ∷ ts) = t ∷ []

-- what remains behind the units given, of which an answer tells the first
record Remains (h : History) (n : Next) : Type 0 where
  rest : List Told
  told : told_of h.finished h.fed ≡ h.given ++ rest
  answer : told_by n ≡ first rest

remains : (h : History) (n : Next) → IsNext h n → Remains h n
unfolding first
remains h (next.Unit u) is = record { rest = Whole (unit_of u) ∷ is.0; told = is.1; answer = refl }
remains h (next.Fault f) is = record { rest = Broken f ∷ []; told = is; answer = refl }
remains h (next.Limit l) is = record { rest = Met l ∷ []; told = is; answer = refl }
remains h next.More is =
    record { rest = []; told = ap (λ b. told_of b h.fed) is.0 ∙ is.1 ∙ sym (append-nil h.given); answer = refl }
remains h next.End is =
    record { rest = []; told = ap (λ b. told_of b h.fed) is.0 ∙ is.1 ∙ sym (append-nil h.given); answer = refl }

same_front : (a b x y : List Told) → length a ≡ length b → a ++ x ≡ b ++ y → (a ≡ b) × (x ≡ y)
same_front [] [] x y l e = (refl, e)
same_front [] (t ∷ b) x y l e = absurd (omega arith)
same_front (t ∷ a) [] x y l e = absurd (omega arith)
same_front (s ∷ a) (t ∷ b) x y l e =
    let head : s ≡ t = cc in
    let tail : a ++ x ≡ b ++ y = cc in
    let r = same_front a b x y (omega arith) tail in
    let front : a ≡ b = r.0 in
    (cc, r.1)

pub returns : goal.returns
returns c = λ g h m n fed finished len a b.
    let p = remains g m a in
    let q = remains h n b in
    let same : told_of g.finished g.fed ≡ told_of h.finished h.fed = cc in
    let r = same_front g.given h.given p.rest q.rest len (sym p.told ∙ same ∙ q.told) in
    (r.0, p.answer ∙ ap first r.1 ∙ sym q.answer)
