use Rattle.std.proofs.Common.{◌≡◌, ℕ, ◌-◌, ◌<◌, ◌≤◌, Bool, true, false, cond, List, ◌++◌, length, drop, sym, subst}
use Rattle.std.proofs.Common.{arith, length-append, length-drop}
use Rattle.std.specs.Prelude.{is_ok}
use Rattle.spec_nal_units.specs.Units.{ends_unit}
use Rattle.nal_stream.proofs.Framers.{searched-append}
use Rattle.nal_stream.proofs.framer.Framer.append.Goals as goal

-- what holds of the bytes as they are and with a piece holds whichever they became
either : (P : List ℕ → Type 0) (b : Bool) (long short now : List ℕ) → now ≡ cond b long short → P long → P short → P now
either P true long short now e p q = subst P (sym e) p
either P false long short now e p q = subst P (sym e) q

pub invariant_of-self-clause-taken : goal.invariant_of-self-clause-taken
invariant_of-self-clause-taken c =
    let bytes = c.args.self.now.bytes.items in
    let piece = c.args.piece.now in
    let P : List ℕ → Type 0 = λ bs. c.args.self.now.start ≤ length bs in
    either P (is_ok c.extend_from_slice.result) (bytes ++ piece) bytes _ c.extend_from_slice.ensures.items
    (omega (arith, length-append bytes piece, c.args.self.now.taken)) c.args.self.now.taken

pub invariant_of-self-clause-known : goal.invariant_of-self-clause-known
invariant_of-self-clause-known c =
    let bytes = c.args.self.now.bytes.items in
    let piece = c.args.piece.now in
    let start = c.args.self.now.start in
    let P : List ℕ → Type 0 = λ bs. c.args.self.now.searched ≤ length (drop start bs) - 2 in
    either P (is_ok c.extend_from_slice.result) (bytes ++ piece) bytes _ c.extend_from_slice.ensures.items
    (omega (
      arith,
      length-append bytes piece,
      length-drop start bytes,
      length-drop start (bytes ++ piece),
      c.args.self.now.taken,
      c.args.self.now.known,
    ))
    c.args.self.now.known

pub invariant_of-self-clause-no_end : goal.invariant_of-self-clause-no_end
invariant_of-self-clause-no_end c =
    let bytes = c.args.self.now.bytes.items in
    let piece = c.args.piece.now in
    let start = c.args.self.now.start in
    let P : List ℕ → Type 0 =
    λ bs. (j : ℕ) → j < c.args.self.now.searched → ends_unit (drop j (drop start bs)) ≡ false in
    either P (is_ok c.extend_from_slice.result) (bytes ++ piece) bytes _ c.extend_from_slice.ensures.items
    (searched-append bytes piece start c.args.self.now.searched c.args.self.now.taken c.args.self.now.known
    c.args.self.now.no_end)
    c.args.self.now.no_end
