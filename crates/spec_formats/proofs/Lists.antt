-- Lists that are read item by item: what was read so far, and what is read from there on, is the whole.
use Rattle.std.proofs.Common.{◌≡◌, ℕ, zero, suc, ◌+◌, ◌-◌, ◌<◌, ◌≤◌, Bool, List, [], ◌∷◌, ◌++◌, length, get_or, drop}
use Rattle.std.proofs.Common.{All, refl, sym, ap, ◌∙◌, arith, append_assoc, append-nil, drop-cons, add-one}
use Rattle.std.proofs.Common.{length-append}
use Rattle.std.specs.Prelude.{Result, Ok, Err}
use Rattle.std.proofs.lemmas.List.Elements.{All-nil, All-cons, All-append}
use Rattle.hv_base.specs.declared.breach.Breach.{Breach}
use Rattle.hv_base.specs.declared.field_rules.FieldRules.{FieldRules}
use Rattle.hv_base.specs.declared.refusal.Refusal.{Refusal}
use Rattle.hv_base.specs.declared.refusal.Refusal.TheVariants as refusal
use Rattle.spec_formats.specs.Format.{bind}
use Rattle.spec_formats.specs.Fields.{Header, read, repeated, each, Refuses}

-- these items stand before those that are read
abbrev pub behind : {X : Type 0} → List X → Result (List X × List Bool) Breach → Result (List X × List Bool) Breach
behind done (Ok r) = Ok (done ++ r.0, r.1)
behind done (Err e) = Err e

-- a list of one more item at its end
pub length-push : {X : Type 0} (xs : List X) (x : X) (n : ℕ) → length xs ≡ n → length (xs ++ x ∷ []) ≡ n + 1
length-push xs x n e = omega (arith, length-append xs (x ∷ []))

pub All-push : {X : Type 0} (P : X → Type 0) (xs : List X) (x : X) → All P xs → P x → All P (xs ++ x ∷ [])
All-push P xs x all one = All-append P xs (x ∷ []) all (All-cons P x [] one (All-nil P))

-- one more item
behind-cons : {X : Type 0} (done : List X) (x : X) (r : Result (List X × List Bool) Breach)
    → behind done (bind r (λ others t. Ok (x ∷ others, t))) ≡ behind (done ++ x ∷ []) r
behind-cons done x (Ok r) = rw (append_assoc done (x ∷ []) r.0) refl
behind-cons done x (Err e) = refl

-- so many items of one format
module _ {X : Type 0} (rules : FieldRules) (format : Header X) where
  abbrev many : ℕ → List Bool → Result (List X × List Bool) Breach
  many n bs = read rules (repeated n format) bs

  repeated-more : (n : ℕ) (done : List X) (bs : List Bool) (x : X) (rest : List Bool)
      → read rules format bs ≡ Ok (x, rest) → behind done (many (suc n) bs) ≡ behind (done ++ x ∷ []) (many n rest)
  unfolding repeated
  repeated-more n done bs x rest e = rw e (behind-cons done x (many n rest))

  repeated-stops : (n : ℕ) (done : List X) (bs : List Bool) (e : Breach) → read rules format bs ≡ Err e
      → behind done (many (suc n) bs) ≡ Err e
  unfolding repeated
  repeated-stops n done bs e is = rw is refl

  repeated-none : (done : List X) (bs : List Bool) → behind done (many zero bs) ≡ Ok (done, bs)
  unfolding repeated
  repeated-none done bs = rw (append-nil done) refl

  -- a loop after one more item, at a refusal, and at its end
  pub repeated-goes_on : (count k : ℕ) (done : List X) (bs : List Bool) (whole : Result (List X × List Bool) Breach)
      (x : X) (rest : List Bool)
      → behind done (many (count - k) bs) ≡ whole → k < count → read rules format bs ≡ Ok (x, rest)
      → behind (done ++ x ∷ []) (many (count - (k + 1)) rest) ≡ whole
  repeated-goes_on count k done bs whole x rest is less e =
      let next : count - k ≡ suc (count - (k + 1)) = omega arith in
      sym (repeated-more (count - (k + 1)) done bs x rest e) ∙ sym (ap (λ n. behind done (many n bs)) next) ∙ is

  stopped : (count k : ℕ) (done : List X) (bs : List Bool) (whole : Result (List X × List Bool) Breach) (e : Breach)
      → behind done (many (count - k) bs) ≡ whole → k < count → read rules format bs ≡ Err e → whole ≡ Err e
  stopped count k done bs whole e is less refused =
      let next : count - k ≡ suc (count - (k + 1)) = omega arith in
      sym is ∙ ap (λ n. behind done (many n bs)) next ∙ repeated-stops (count - (k + 1)) done bs e refused

  pub repeated-refuses : (count k : ℕ) (done : List X) (bs : List Bool) (whole : Result (List X × List Bool) Breach)
      (e : Refusal)
      → behind done (many (count - k) bs) ≡ whole → k < count → Refuses e (read rules format bs) → Refuses e whole
  repeated-refuses count k done bs whole refusal.Memory is less e = tt
  repeated-refuses count k done bs whole (refusal.Fault kind) is less e = stopped count k done bs whole _ is less e
  repeated-refuses count k done bs whole (refusal.Limit kind) is less e = stopped count k done bs whole _ is less e

  pub repeated-ends : (count k : ℕ) (done : List X) (bs : List Bool) (whole : Result (List X × List Bool) Breach)
      → behind done (many (count - k) bs) ≡ whole → count ≤ k → whole ≡ Ok (done, bs)
  repeated-ends count k done bs whole is all =
      let none : count - k ≡ zero = omega arith in
      sym is ∙ ap (λ n. behind done (many n bs)) none ∙ repeated-none done bs

drop-past : {X : Type 0} (k : ℕ) (items : List X) → length items ≤ k → drop k items ≡ []
drop-past zero [] h = refl
drop-past zero (x ∷ xs) h = absurd (omega arith)
drop-past (suc k) [] h = refl
drop-past (suc k) (x ∷ xs) h = drop-past k xs (omega arith)

-- an item for each of a list, behind the first k of it
module _ {X Y : Type 0} (rules : FieldRules) (format : X → Header Y) where
  abbrev all : List X → List Bool → Result (List Y × List Bool) Breach
  all items bs = read rules (each format items) bs

  each-more : (item : X) (items : List X) (done : List Y) (bs : List Bool) (y : Y) (rest : List Bool)
      → read rules (format item) bs ≡ Ok (y, rest)
      → behind done (all (item ∷ items) bs) ≡ behind (done ++ y ∷ []) (all items rest)
  unfolding each
  each-more item items done bs y rest e = rw e (behind-cons done y (all items rest))

  each-stops : (item : X) (items : List X) (done : List Y) (bs : List Bool) (e : Breach)
      → read rules (format item) bs ≡ Err e → behind done (all (item ∷ items) bs) ≡ Err e
  unfolding each
  each-stops item items done bs e is = rw is refl

  each-none : (done : List Y) (bs : List Bool) → behind done (all [] bs) ≡ Ok (done, bs)
  unfolding each
  each-none done bs = rw (append-nil done) refl

  pub each-goes_on : (items : List X) (k : ℕ) (d : X) (done : List Y) (bs : List Bool)
      (whole : Result (List Y × List Bool) Breach) (y : Y) (rest : List Bool)
      → behind done (all (drop k items) bs) ≡ whole → k < length items
      → read rules (format (get_or items k d)) bs ≡ Ok (y, rest)
      → behind (done ++ y ∷ []) (all (drop (k + 1) items) rest) ≡ whole
  each-goes_on items k d done bs whole y rest is less e =
      let next = drop-cons items k d less in
      rw (add-one k) (sym (each-more (get_or items k d) (drop (suc k) items) done bs y rest e)
      ∙ sym (ap (λ xs. behind done (all xs bs)) next) ∙ is)

  each-stopped : (items : List X) (k : ℕ) (d : X) (done : List Y) (bs : List Bool)
      (whole : Result (List Y × List Bool) Breach) (e : Breach)
      → behind done (all (drop k items) bs) ≡ whole → k < length items
      → read rules (format (get_or items k d)) bs ≡ Err e → whole ≡ Err e
  each-stopped items k d done bs whole e is less refused =
      let next = drop-cons items k d less in
      sym is ∙ ap (λ xs. behind done (all xs bs)) next
      ∙ each-stops (get_or items k d) (drop (suc k) items) done bs e refused

  pub each-refuses : (items : List X) (k : ℕ) (d : X) (done : List Y) (bs : List Bool)
      (whole : Result (List Y × List Bool) Breach) (e : Refusal)
      → behind done (all (drop k items) bs) ≡ whole → k < length items
      → Refuses e (read rules (format (get_or items k d)) bs) → Refuses e whole
  each-refuses items k d done bs whole refusal.Memory is less e = tt
  each-refuses items k d done bs whole (refusal.Fault kind) is less e = each-stopped items k d done bs whole _ is less e
  each-refuses items k d done bs whole (refusal.Limit kind) is less e = each-stopped items k d done bs whole _ is less e

  pub each-ends : (items : List X) (k : ℕ) (done : List Y) (bs : List Bool) (whole : Result (List Y × List Bool) Breach)
      → behind done (all (drop k items) bs) ≡ whole → length items ≤ k → whole ≡ Ok (done, bs)
  each-ends items k done bs whole is past =
      sym is ∙ ap (λ xs. behind done (all xs bs)) (drop-past k items past) ∙ each-none done bs
