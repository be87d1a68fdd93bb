-- What a unit leaves to the one below it is taken out of its words as it was put in.
use Rattle.std.proofs.Common.{◌≡◌, ℕ, ◌-◌, ◌<◌, Bool, true, false, cond, nat_lt, List, length, slice_index}
use Rattle.std.proofs.Common.{ap, sym, ◌∙◌, refl}
use Rattle.std.proofs.Math.Path.{fun_ext}
use Rattle.std.proofs.lemmas.Bool.{ltb-false, ltb-true}
use Rattle.ctu_records.specs.Tree.{Ctu, no_side, side}
use Rattle.ctu_records.specs.declared.side.Side.{Side}
use Rattle.ctu_records.specs.declared.offset.Sao.{Sao}
use Rattle.unit_trees.specs.SpecSliceData.{side_of}
use Rattle.unit_trees.specs.Edges.{bottom_of}
use Rattle.unit_trees.specs.declared.edges.Edge.{Edge}
use Rattle.sample_words.specs.Offsets.{first_word, sao_in}
use Rattle.sample_words.specs.Values.{modes_in}
use Rattle.sample_words.specs.declared.modes.PlaceModes.{PlaceModes}
use Rattle.sample_words.proofs.Motions.{modes_found}
use Rattle.sample_words.proofs.OffsetWords.{sao_found}
use Rattle.unit_words.specs.Above.{AreBottom}

chosen : (test : Bool) (x y z : Side) → (test ≡ true → x ≡ y) → (test ≡ false → y ≡ z) → cond test x z ≡ y
chosen true x y z here there = here refl
chosen false x y z here there = sym (there refl)

side_found : (n : ℕ) (ctu : Ctu) (modes offsets : List ℕ) (are : AreBottom n ctu modes offsets) (k : ℕ)
    → k < length modes → (modes_in (slice_index modes k)).side ≡ side_of ctu k (n - 1)
side_found n ctu modes offsets are k below =
    ap (λ (word : ℕ). (modes_in word).side) (are.words k below)
    ∙ ap (λ (p : PlaceModes). p.side)
    (modes_found (are.place k) (are.motion k) (are.modes_fit k below) (are.motion_fits k below))
    ∙ are.sides k below

-- the side of each place
sides_found : (n : ℕ) (ctu : Ctu) (modes offsets : List ℕ) (are : AreBottom n ctu modes offsets) (k : ℕ)
    → cond (nat_lt k (length modes)) (modes_in (slice_index modes k)).side no_side ≡ side_of ctu k (n - 1)
sides_found n ctu modes offsets are k =
    chosen (nat_lt k (length modes)) (modes_in (slice_index modes k)).side (side_of ctu k (n - 1)) no_side
    (λ t. side_found n ctu modes offsets are k (ltb-true k (length modes) t))
    (λ t. are.behind k (ltb-false k (length modes) t))

pub bottom_found : (modes offsets : List ℕ) (places : List Side) (sao : Sao)
    → places ≡ side 16 (λ k. cond (nat_lt k (length modes)) (modes_in (slice_index modes k)).side no_side)
    → sao ≡ sao_in (slice_index offsets 0) (slice_index offsets 1)
    → (n : ℕ) (ctu : Ctu) → AreBottom n ctu modes offsets → record { places = places; sao = sao } ≡ bottom_of n ctu
bottom_found modes offsets places sao told offset n ctu are =
    let p : places ≡ side 16 (λ k. side_of ctu k (n - 1)) =
    told ∙ ap (side 16) (fun_ext (sides_found n ctu modes offsets are)) in
    let first : sao ≡ sao_in (first_word ctu.sao) (slice_index offsets 1) =
    offset ∙ ap (λ (word : ℕ). sao_in word (slice_index offsets 1)) are.first in
    let both : sao ≡ ctu.sao =
    first ∙ ap (λ (word : ℕ). sao_in (first_word ctu.sao) word) are.second ∙ sao_found ctu.sao are.offsets_fit in
    let edge : List Side → Sao → Edge = λ xs s. record { places = xs; sao = s } in
    ap (λ (xs : List Side). edge xs sao) p ∙ ap (edge (side 16 (λ k. side_of ctu k (n - 1)))) both
