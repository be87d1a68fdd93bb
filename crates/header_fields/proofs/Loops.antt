-- What a loop reads: from an item on, it is that item and what is read behind it.
use Rattle.std.proofs.Common.{◌≡◌, ℕ, suc, ◌+◌, ◌-◌, ◌<◌, ◌≤◌, Bool, List, [], ◌∷◌, ◌++◌, length, get_or, drop, refl}
use Rattle.std.proofs.Common.{sym, ap, ◌∙◌, append-nil, append_assoc, add-one, drop-cons, arith}
use Rattle.std.proofs.Math.ListN.{drop_of_length-le}
use Rattle.std.specs.Prelude.{Result, Ok, Err}
use Rattle.hv_base.specs.declared.breach.Breach.{Breach}
use Rattle.hv_base.specs.declared.field_rules.FieldRules.{FieldRules}
use Rattle.hv_base.specs.declared.refusal.Refusal.{Refusal}
use Rattle.hv_base.specs.declared.refusal.Refusal.TheVariants as refusal
use Rattle.spec_formats.specs.Format.{bind}
use Rattle.spec_formats.specs.Fields.{Header, read, repeated, each, Refuses}
use Rattle.spec_formats.proofs.Lists.{behind}
use Rattle.header_fields.specs.declared.field_reader.FieldReader.{FieldReader}

-- what is read from an item on, in the state before it, up to the value of the state behind the last one
pub record IsLoop {S A Y : Type 0} (rules : FieldRules) (count : ℕ) (item : ℕ → S → Header A) (next : ℕ → S → A → S)
    (value : S → Y) (from : ℕ → S → List Bool → Result (Y × List Bool) Breach) : Type 0 where
  pub one : (k : ℕ) (s : S) (bs : List Bool) → k < count
      → from k s bs ≡ bind (read rules (item k s) bs) (λ a t. from (k + 1) (next k s a) t)
  pub none : (k : ℕ) (s : S) (bs : List Bool) → count ≤ k → from k s bs ≡ Ok (value s, bs)

-- a reader stands where the rest of the whole begins
abbrev pub IsAt : {Y : Type 0} → FieldRules → (List Bool → Result (Y × List Bool) Breach)
    → Result (Y × List Bool) Breach → FieldReader → Type 0
IsAt rules rest whole reader = (rest reader.bits ≡ whole) × (reader.rules ≡ rules)

-- what was read so far stands before what the rest is read as, and the two are the whole
abbrev pub IsBehind : {X : Type 0} → FieldReader → FieldReader → List X → Header (List X) → Header (List X) → Type 0
IsBehind old new done rest whole =
    IsAt old.rules (λ bs. behind done (read old.rules rest bs)) (read old.rules whole old.bits) new

-- the rest is read as the whole is
abbrev pub IsBefore : {Y : Type 0} → FieldReader → FieldReader → Header Y → Header Y → Type 0
IsBefore old new rest whole = IsAt old.rules (read old.rules rest) (read old.rules whole old.bits) new

stops : {A Y : Type 0} (e : Refusal) (r : Result (A × List Bool) Breach)
    (f : A → List Bool → Result (Y × List Bool) Breach)
    → Refuses e r → Refuses e (bind r f)
stops refusal.Memory r f h = tt
stops (refusal.Fault kind) r f h = rw h refl
stops (refusal.Limit kind) r f h = rw h refl

module _ {S A Y : Type 0} {rules : FieldRules} {count : ℕ} {item : ℕ → S → Header A} {next : ℕ → S → A → S}
    {value : S → Y} {from : ℕ → S → List Bool → Result (Y × List Bool) Breach}
    (is : IsLoop rules count item next value from) where
  -- the call for an item answered it
  pub goes_on : (k : ℕ) (s : S) (a : A) (whole : Result (Y × List Bool) Breach) (old new : FieldReader)
      → IsAt rules (from k s) whole old → k < count
      → (read old.rules (item k s) old.bits ≡ Ok (a, new.bits)) × (new.rules ≡ old.rules)
      → IsAt rules (from (k + 1) (next k s a)) whole new
  goes_on k s a whole old new at less answer =
      let told = rw at.1 at answer.0 in (
        sym (is.one k s old.bits less ∙ ap (λ r. bind r (λ b t. from (k + 1) (next k s b) t)) told) ∙ at.0,
        answer.1 ∙ at.1,
      )

  -- the call for an item refused it
  pub refuses : (k : ℕ) (s : S) (e : Refusal) (whole : Result (Y × List Bool) Breach) (old new : FieldReader)
      → IsAt rules (from k s) whole old → k < count
      → Refuses e (read old.rules (item k s) old.bits) × (new.rules ≡ old.rules)
      → Refuses e whole × (new.rules ≡ rules)
  refuses k s e whole old new at less answer =
      let told = rw at.1 at answer.0 in (
        rw (← at.0, is.one k s old.bits less)
            (stops e (read rules (item k s) old.bits) (λ a t. from (k + 1) (next k s a) t) told),
        answer.1 ∙ at.1,
      )

  pub ends : (k : ℕ) (s : S) (whole : Result (Y × List Bool) Breach) (reader : FieldReader)
      → IsAt rules (from k s) whole reader → count ≤ k → (whole ≡ Ok (value s, reader.bits)) × (reader.rules ≡ rules)
  ends k s whole reader at all = (sym at.0 ∙ is.none k s reader.bits all, at.1)

-- items that an answer adds to those before it
pub behind_adds : {A X : Type 0} (done : List X) (add : A → List X) (r : Result (A × List Bool) Breach)
    (rest : A → List Bool → Result (List X × List Bool) Breach)
    → behind done (bind r (λ a t. bind (rest a t) (λ others u. Ok (add a ++ others, u))))
    ≡ bind r (λ a t. behind (done ++ add a) (rest a t))
behind_adds done add (Err e) rest = refl
behind_adds done add (Ok r) rest = adds (rest r.0 r.1)
  where
    adds : (others : Result (List _ × List Bool) Breach)
        → behind done (bind others (λ xs u. Ok (add r.0 ++ xs, u))) ≡ behind (done ++ add r.0) others
    adds (Ok x) = rw (append_assoc done (add r.0) x.0) refl
    adds (Err e) = refl

pub nothing_behind : {X : Type 0} (done : List X) (bs : List Bool) → behind done (Ok ([], bs)) ≡ Ok (done, bs)
nothing_behind done bs = ap (λ xs. Ok (xs, bs)) (append-nil done)

pub repeated_is_loop : {X : Type 0} (rules : FieldRules) (format : Header X) (count : ℕ)
    → IsLoop rules count (λ k done. format) (λ k (done : List X) x. done ++ x ∷ []) (λ done. done)
    (λ k done bs. behind done (read rules (repeated (count - k) format) bs))
unfolding repeated
repeated_is_loop rules format count = record {
  one = λ k done bs less.
      let left : count - k ≡ suc (count - (k + 1)) = omega arith in
      rw left (behind_adds done (λ x. x ∷ []) (read rules format bs)
      (λ x t. read rules (repeated (count - (k + 1)) format) t));
  none = λ k done bs all.
      let left : count - k ≡ 0 = omega arith in
      rw left (nothing_behind done bs);
}

pub each_is_loop : {X Y : Type 0} (rules : FieldRules) (format : X → Header Y) (items : List X) (d : X)
    → IsLoop rules (length items) (λ k done. format (get_or items k d)) (λ k (done : List Y) y. done ++ y ∷ [])
    (λ done. done) (λ k done bs. behind done (read rules (each format (drop k items)) bs))
unfolding each
each_is_loop rules format items d = record {
  one = λ k done bs less.
      rw (add-one, drop-cons items k d less) (behind_adds done (λ y. y ∷ []) (read rules (format (get_or items k d)) bs)
      (λ y t. read rules (each format (drop (suc k) items)) t));
  none = λ k done bs all. rw (drop_of_length-le items all) (nothing_behind done bs);
}
