use Rattle.std.proofs.Common.{ℕ, ◌≡◌, true, false, subst, refl}
use Rattle.hv_base.specs.declared.line.Line.{Line}
use Rattle.board_core.specs.States.{IsReadable}
use Rattle.board_core.proofs.Units.{place_tree, place_unique}
use Rattle.board_core.proofs.core_state.Core.is_found.Goals as goal

pub returns-in-Some : goal.returns-in-Some
returns-in-Some c =
    let plan = c.args.self.now.plan in
    let s = c.args.self.now.state in (
      λ t. (c.in-Some.line, c.in-Some.x, c.in-Some.ensures.found, c.is_readable.ensures.0 t),
      λ h. let same = place_unique plan c.args.unit h.0 c.in-Some.line h.1 c.in-Some.x h.2 c.in-Some.ensures.found in
          let P : Line → Type 0 = λ l. IsReadable plan s l h.1 in
          let Q : ℕ → Type 0 = λ x. IsReadable plan s c.in-Some.line x in
          c.is_readable.ensures.1 (subst Q same.1 (subst P same.0 h.3)),
    )

pub returns-in-None : goal.returns-in-None
returns-in-None c = (
  λ t. let e : false ≡ true = t in cc,
  λ h. absurd (c.in-None.ensures.none refl (place_tree c.args.self.now.plan c.args.unit h.0 h.1 h.2 h.3.next.phase)),
)
