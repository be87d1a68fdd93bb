-- What follows a unit.
use Rattle.std.proofs.Common.{◌≡◌, Bool, true, false, Result, Ok, Err, ap, sym, refl, ◌∙◌, if◌then◌else◌}
use Rattle.std.specs.Bool.{beq}
use Rattle.hv_base.specs.declared.breach.Breach.{Breach}
use Rattle.hv_base.specs.declared.breach.Breach.TheVariants as breach
use Rattle.hv_base.specs.declared.fault.FaultKind.TheVariants as rule
use Rattle.ctu_records.specs.declared.offset.Sao.{Sao}
use Rattle.ctu_records.specs.Tree.{Ctu}
use Rattle.coding_quadtree.specs.SpecCabac.{State, bin_at, read, Terminate}
use Rattle.coding_quadtree.specs.SpecFormats.{bind, give, wanted, when◌then◌else◌, ◌>>=◌}
use Rattle.spec_slice_data.specs.declared.syntax.CtuSyntax.{CtuSyntax}
use Rattle.spec_slice_data.specs.declared.syntax.End.{End}
use Rattle.spec_slice_data.specs.declared.syntax.End.TheVariants as end
use Rattle.spec_slice_data.specs.Segment.{judged_end}
use Rattle.spec_slice_data.specs.Tree.{coding_tree_unit, unit_and_end, unit_end}
use Rattle.coding_quadtree.specs.Judged.{judged}

-- behind end_of_slice_segment_flag of a unit that ends neither a segment nor a substream
flag_more : (ended : Bool) (s after : State) (follows : End)
    → read (do
      right ← wanted (beq ended false) (breach.Fault rule.SliceEnd)
      when ended then give end.Segment else give end.More) s ≡ Ok (follows, after)
    → follows ≡ end.More
flag_more true s after follows e = absurd cc
flag_more false s after follows e =
    let same : (end.More, s) ≡ (follows, after) = cc in sym (ap (λ (p : End × State). p.0) same)

bin_more : (r : Result (Bool × State) Breach) (after : State) (follows : End)
    → bind r (λ ended t. read (do
      right ← wanted (beq ended false) (breach.Fault rule.SliceEnd)
      when ended then give end.Segment else give end.More) t) ≡ Ok (follows, after)
    → follows ≡ end.More
bin_more (Ok x) after follows e = flag_more x.0 x.1 after follows e
bin_more (Err d) after follows e = absurd cc

end_more : (s after : State) (follows : End) → read (unit_end false false) s ≡ Ok (follows, after) → follows ≡ end.More
unfolding unit_end
end_more s after follows e = bin_more (bin_at Terminate s) after follows e

pair_more : (r : Result (End × State) Breach) (tree ctu : Ctu) (after : State) (follows : End)
    → ((t : State) (f : End) → r ≡ Ok (f, t) → f ≡ end.More)
    → bind {Y = Ctu × End} r (λ f t. Ok ((tree, f), t)) ≡ Ok ((ctu, follows), after) → follows ≡ end.More
pair_more (Ok x) tree ctu after follows more e =
    let same : ((tree, x.0), x.1) ≡ ((ctu, follows), after) = cc in
    sym (ap (λ (p : (Ctu × End) × State). p.0.1) same) ∙ more x.1 x.0 refl
pair_more (Err d) tree ctu after follows more e = absurd cc

tree_more : (r : Result (Ctu × State) Breach) (ctu : Ctu) (after : State) (follows : End)
    → bind {Y = Ctu × End} r (λ tree t. bind {Y = Ctu × End} (read (unit_end false false) t) (λ f u. Ok ((tree, f), u)))
    ≡ Ok ((ctu, follows), after)
    → follows ≡ end.More
tree_more (Ok x) ctu after follows e =
    pair_more (read (unit_end false false) x.1) x.0 ctu after follows (λ t f h. end_more x.1 t f h) e
tree_more (Err d) ctu after follows e = absurd cc

unit_more : (syntax : CtuSyntax) (left above : Sao) (begun ctu : Ctu) (s after : State) (follows : End)
    → read (unit_and_end syntax left above false false begun) s ≡ Ok ((ctu, follows), after) → follows ≡ end.More
unfolding unit_and_end
unit_more syntax left above begun ctu s after follows e =
    tree_more (read (coding_tree_unit syntax left above begun) s) ctu after follows e

right_end : (right : Bool) (x : (Ctu × End) × State) (y : (Ctu × End) × State)
    → (if right then Ok x else Err (breach.Fault rule.TrailingBits)) ≡ Ok y → x ≡ y
right_end true x y e = cc
right_end false x y e = absurd cc

unjudged : (r : Result ((Ctu × End) × State) Breach) (x : (Ctu × End) × State) → judged r ≡ Ok x → r ≡ Ok x
unjudged (Ok y) x e = ap (λ (p : (Ctu × End) × State). Ok p) (right_end (judged_end y.0.1 y.1.0) y x e)
unjudged (Err d) x e = absurd cc

-- behind a unit that ends neither a segment nor a substream more units follow
pub follows_more : (syntax : CtuSyntax) (left above : Sao) (last subset : Bool) (begun ctu : Ctu) (s after : State)
    (follows : End)
    → judged (read (unit_and_end syntax left above last subset begun) s) ≡ Ok ((ctu, follows), after) → last ≡ false
    → subset ≡ false → follows ≡ end.More
follows_more syntax left above last subset begun ctu s after follows e not_last no_subset =
    unit_more syntax left above begun ctu s after follows
    (ap (λ l. read (unit_and_end syntax left above l false begun) s) (sym not_last)
    ∙ ap (λ b. read (unit_and_end syntax left above last b begun) s) (sym no_subset) ∙ unjudged _ _ e)
