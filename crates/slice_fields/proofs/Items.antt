-- Loops that read the items of a list one after the other.
use Rattle.std.proofs.Common.{◌≡◌, ℕ, ◌+◌, ◌-◌, ◌<◌, ◌≤◌, List, [], ◌∷◌, ◌++◌, length, get_or, drop, arith, Result}
use Rattle.std.proofs.Common.{Ok}
use Rattle.std.proofs.Common.{Err, ◌∙◌}
use Rattle.std.specs.Result.{IsErrAnd}
use Rattle.std.specs.List.{range_with_len}
use Rattle.std.proofs.lemmas.List.FromFn.{get_or-range_with_len, length-range_with_len}
use Rattle.std.proofs.lemmas.Result.{err_from_is_err_and}
use Rattle.hv_base.specs.declared.refusal.Refusal.{Refusal}
use Rattle.spec_formats.specs.Fields.{Header, read, repeated, each}
use Rattle.spec_formats.proofs.Lists.{behind, repeated-goes_on, repeated-refuses, repeated-ends, each-goes_on}
use Rattle.spec_formats.proofs.Lists.{each-refuses, each-ends}
use Rattle.header_fields.specs.declared.field_reader.FieldReader.{FieldReader}
use Rattle.header_fields.specs.Takes.{Takes}

-- behind these items a reader stands where the rest of a list begins
pub record IsBehind {X : Type 0} (whole rest : Header (List X)) (old : FieldReader) (items : List X)
    (now : FieldReader) : Type 0 where
  pub told : behind items (read old.rules rest now.bits) ≡ read old.rules whole old.bits
  pub rules : now.rules ≡ old.rules

-- so many items of one format, of which the first k are read
module _ {X : Type 0} (format : Header X) (count k : ℕ) (old : FieldReader) (items : List X) (now : FieldReader) where
  abbrev pub AreRead : Type 0
  AreRead = IsBehind (repeated count format) (repeated (count - k) format) old items now

  pub goes_on : (next : FieldReader) (x : X) → AreRead → k < count → Takes {X = X} (λ y. y) (Ok x) now next format
      → IsBehind (repeated count format) (repeated (count - (k + 1)) format) old (items ++ x ∷ []) next
  goes_on next x are less takes = record {
    told =
        repeated-goes_on old.rules format count k items now.bits _ x next.bits are.told less (rw are.rules at takes.0);
    rules = takes.1 ∙ are.rules;
  }

  pub stops : (next : FieldReader) (e : Refusal) (result : Result (List X) Refusal) → AreRead → k < count
      → Takes {X = X} (λ y. y) (Err e) now next format → IsErrAnd result (λ y. y ≡ e)
      → Takes (λ y. y) result old next (repeated count format)
  stops next e result are less takes is_err =
      let p = err_from_is_err_and result is_err in
      rw (p.1, p.2) (
        repeated-refuses old.rules format count k items now.bits _ e are.told less
            (rw are.rules at takes.0),
        takes.1 ∙ are.rules,
      )

  pub ends : AreRead → count ≤ k → Takes {X = List X} (λ y. y) (Ok items) old now (repeated count format)
  ends are all = (repeated-ends old.rules format count k items now.bits _ are.told all, are.rules)

-- an item for each number below a count, of which the first k are read
module _ {X : Type 0} (format : ℕ → Header X) (count k : ℕ) (old : FieldReader) (items : List X)
    (now : FieldReader) where
  abbrev pub AreReadBy : Type 0
  AreReadBy =
      IsBehind (each format (range_with_len 0 count)) (each format (drop k (range_with_len 0 count))) old items now

  place : k < count → (k < length (range_with_len 0 count)) × (get_or (range_with_len 0 count) k 0 ≡ k)
  place less = (rw (length-range_with_len 0 count) less, omega (arith, get_or-range_with_len 0 count k 0 less))

  pub goes_on_by : (next : FieldReader) (x : X) → AreReadBy → k < count
      → Takes {X = X} (λ y. y) (Ok x) now next (format k)
      → IsBehind (each format (range_with_len 0 count)) (each format (drop (k + 1) (range_with_len 0 count))) old
      (items ++ x ∷ []) next
  goes_on_by next x are less takes = record {
    told =
        each-goes_on old.rules format (range_with_len 0 count) k 0 items now.bits _ x next.bits are.told (place less).0
        (rw (place less).1 (rw are.rules at takes.0));
    rules = takes.1 ∙ are.rules;
  }

  pub stops_by : (next : FieldReader) (e : Refusal) (result : Result (List X) Refusal) → AreReadBy → k < count
      → Takes {X = X} (λ y. y) (Err e) now next (format k) → IsErrAnd result (λ y. y ≡ e)
      → Takes (λ y. y) result old next (each format (range_with_len 0 count))
  stops_by next e result are less takes is_err =
      let p = err_from_is_err_and result is_err in
      rw (p.1, p.2) (
        each-refuses old.rules format (range_with_len 0 count) k 0 items now.bits _ e are.told
            (place less).0 (rw (place less).1 (rw are.rules at takes.0)),
        takes.1 ∙ are.rules,
      )

  pub ends_by : AreReadBy → count ≤ k
      → Takes {X = List X} (λ y. y) (Ok items) old now (each format (range_with_len 0 count))
  ends_by are all = (
    each-ends old.rules format (range_with_len 0 count) k items now.bits _ are.told
        (rw (length-range_with_len 0 count) all),
    are.rules,
  )
