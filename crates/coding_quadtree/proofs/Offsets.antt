-- sao doesn't depend on the offsets of a unit that isn't there.
use Rattle.std.proofs.Common.{◌≡◌, Bool, true, false, Result, Ok, Err, refl, ap}
use Rattle.hv_base.specs.declared.breach.Breach.{Breach}
use Rattle.ctu_records.specs.declared.offset.Sao.{Sao}
use Rattle.ctu_records.specs.Tree.{Ctu}
use Rattle.spec_cabac.specs.Bins.{State, Tree, read}
use Rattle.spec_cabac.specs.SpecFormats.{◌>>=◌, bind, give, when◌then◌else◌}
use Rattle.spec_slice_data.specs.declared.syntax.CtuSyntax.{CtuSyntax}
use Rattle.spec_slice_data.specs.Offset.{merge_flag, merged_or_own, sao, sao_or_above}
use Rattle.spec_slice_data.specs.Tree.{coding_tree_unit, unit_and_end}

bind_same : {X Y : Type 0} (r : Result (X × State) Breach) (f g : X → State → Result (Y × State) Breach)
    → ((x : X) (t : State) → f x t ≡ g x t) → bind r f ≡ bind r g
bind_same (Ok x) f g same = same x.0 x.1
bind_same (Err e) f g same = refl

when_same : {X : Type 0} (b : Bool) (m n rest other : Tree X) (s : State) → ((t : State) → read m t ≡ read n t)
    → ((t : State) → read rest t ≡ read other t) → read (when b then m else rest) s ≡ read (when b then n else other) s
when_same true m n rest other s same rests = same s
when_same false m n rest other s same rests = rests s

merge_same : (there : Bool) (m n : Sao) (rest other : Tree Sao) (s : State) → (there ≡ true → m ≡ n)
    → ((t : State) → read rest t ≡ read other t)
    → read (merge_flag there >>= (λ merged. when merged then give m else rest)) s
    ≡ read (merge_flag there >>= (λ merged. when merged then give n else other)) s
merge_same true m n rest other s same rests =
    bind_same (read (merge_flag true) s) _ _
    (λ merged t. when_same merged (give m) (give n) rest other t (λ u. ap (λ (x : Sao). Ok (x, u)) (same refl)) rests)
merge_same false m n rest other s same rests = rests s

pub sao_same : (syntax : CtuSyntax) (left above left' above' : Sao) (s : State)
    → (syntax.has_left ≡ true → left ≡ left') → (syntax.has_above ≡ true → above ≡ above')
    → read (sao syntax left above) s ≡ read (sao syntax left' above') s
unfolding sao
sao_same syntax left above left' above' s lefts aboves =
    let over : (t : State) → read (sao_or_above syntax above) t ≡ read (sao_or_above syntax above') t =
    λ t. merge_same syntax.has_above above above' _ _ t aboves (λ u. refl) in
    let both : (t : State) → read (merged_or_own syntax left above) t ≡ read (merged_or_own syntax left' above') t =
    λ t. merge_same syntax.has_left left left' _ _ t lefts over in
    when_same syntax.sao_luma _ _ _ _ s both (λ t. when_same syntax.sao_chroma _ _ _ _ t both (λ u. refl))

pub unit_same : (syntax : CtuSyntax) (left above left' above' : Sao) (is_last ends_subset : Bool) (ctu : Ctu)
    (s : State)
    → (syntax.has_left ≡ true → left ≡ left') → (syntax.has_above ≡ true → above ≡ above')
    → read (unit_and_end syntax left above is_last ends_subset ctu) s
    ≡ read (unit_and_end syntax left' above' is_last ends_subset ctu) s
unfolding unit_and_end coding_tree_unit
unit_same syntax left above left' above' is_last ends_subset ctu s lefts aboves =
    rw (sao_same syntax left above left' above' s lefts aboves) refl
