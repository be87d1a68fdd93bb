-- A unit is read by those before it, however many are known behind it.
use Rattle.std.proofs.Common.{◌≡◌, ℕ, zero, suc, ◌+◌, ◌-◌, ◌<◌, ◌≤◌, Bool, true, false, Option, None, eqb, refl, sym}
use Rattle.std.proofs.Common.{ap}
use Rattle.std.proofs.Common.{◌∙◌}
use Rattle.std.proofs.Common.{if◌then◌else◌, arith, true-eqb, false-eqb, eq-eqb, ne_eqb, lt-ltb, nat_lt, [], ◌∷◌}
use Rattle.std.proofs.Common.{List}
use Rattle.std.proofs.lemmas.Bool.{cases_Bool, eqb-false, ltb-true}
use Rattle.std.proofs.Math.Path.{fun_ext}
use Rattle.header_types.specs.SequenceParameterSets.{size_in_ctbs}
use Rattle.spec_known_units.specs.PlanTypes.{PicturePlan}
use Rattle.unit_tree_laws.specs.BlockGeometry.{is_decoded_before}
use Rattle.spec_known_units.specs.Known.{Entries, KnownUnit, entries_before, known_of, picture_segments, read_in}
use Rattle.spec_known_units.specs.Known.{segment_having, unit_read, units_known, units_to}

pick : {A : Type 0} (b : Bool) (x y : A) → b ≡ false → (if b then x else y) ≡ y
pick b x y e = ap (λ t. if t then x else y) e

-- a later unit leaves what is known of another
more : (p : PicturePlan) (n address : ℕ) → address < n → units_to p (suc n) address ≡ units_to p n address
unfolding units_to
more p n address lt = pick (eqb address n) _ _ (ne_eqb address n (λ e. omega (arith, e, lt)))

stays : (p : PicturePlan) (k n address : ℕ) → address < n → units_to p (n + k) address ≡ units_to p n address
stays p zero n address lt = let e : n + 0 ≡ n = omega arith in ap (λ m. units_to p m address) e
stays p (suc k) n address lt =
    let e : n + suc k ≡ suc (n + k) = omega arith in
    ap (λ m. units_to p m address) e ∙ more p (n + k) address (omega (arith, lt)) ∙ stays p k n address lt

-- what is known of a unit once so many are read is what is known of it once more are
same_to : (p : PicturePlan) (n m address : ℕ) → address < n → n ≤ m → units_to p m address ≡ units_to p n address
same_to p n m address lt le =
    let e : m ≡ n + (m - n) = omega arith in
    ap (λ j. units_to p j address) e ∙ stays p (m - n) n address lt

at_last : (p : PicturePlan) (address : ℕ)
    → units_to p (suc address) address ≡ known_of (unit_read p (units_to p address) address)
unfolding units_to
at_last p address =
    ap (λ b. if b then known_of (unit_read p (units_to p address) address) else units_to p address address)
    (eq-eqb address address refl)

before_if : (earlier : Bool) (x y : Option KnownUnit) → (earlier ≡ true → x ≡ y)
    → (if earlier then x else None) ≡ (if earlier then y else None)
before_if true x y same = same refl
before_if false x y same = refl

-- only the units before one are asked for
before_same : (known other : Entries) (address : ℕ) → ((a : ℕ) → a < address → known a ≡ other a)
    → entries_before known address ≡ entries_before other address
before_same known other address same =
    fun_ext (λ a. before_if (is_decoded_before a address) (known a) (other a) (λ e. same a (ltb-true a address e)))

pub reads_same : (p : PicturePlan) (known other : Entries) (address : ℕ)
    → ((a : ℕ) → a < address → known a ≡ other a) → unit_read p known address ≡ unit_read p other address
unfolding unit_read
reads_same p known other address same =
    ap (λ (entries : Entries). read_in entries address (segment_having (picture_segments p) address))
    (before_same known other address same)

pub known_step : (p : PicturePlan) (address : ℕ) → address < size_in_ctbs p.sps
    → units_known p address ≡ known_of (unit_read p (units_known p) address)
unfolding units_known
known_step p address lt =
    same_to p (suc address) (size_in_ctbs p.sps) address (omega arith) (omega (arith, lt))
    ∙ at_last p address
    ∙ ap known_of
    (reads_same p (units_to p address) (units_known p) address
    (λ a before. sym (same_to p address (size_in_ctbs p.sps) a before (omega (arith, lt)))))
