use Rattle.std.proofs.Common.{◌≡◌, ◌+◌, ◌*◌, ◌<◌, ℤ, pos, ◌+ℤ◌, subst}
use Rattle.std.specs.List.{All}
use Rattle.header_types.specs.declared.sps.PictureFormat.{PictureFormat}
use Rattle.flight_plan.specs.declared.row_range.Reference.TheVariants.{Flight}
use Rattle.inter_pred.specs.Passes.{at, IsByte}
use Rattle.flight_windows.specs.Windows.{FlightView, sample_named}
use Rattle.flight_windows.proofs.Known.{known_still, sees_still}
use Rattle.flight_windows.proofs.windows.FlightWindows.flight_lines.Goals as goal

pub flight_window-requires-clause-sees : goal.flight_window-requires-clause-sees
flight_window-requires-clause-sees g c = c.self.invariant.0

pub invariant_of-self : goal.invariant_of-self
invariant_of-self g c =
    let knows = c.flight_window.ensures.same in (
      sees_still c.self.inside.rows.board.now c.self.inside.rows.layout c.self.inside.rows.seen.now c.self.inside.pass
          c.flight_window.new.pass knows c.self.invariant.0,
      c.self.invariant.1,
      known_still g.K.KnownPass.table g.K.KnownPass.knows c.self.inside.pass c.flight_window.new.pass knows
          c.self.invariant.2,
    )

pub returns-clause-value : goal.returns-clause-value
returns-clause-value g c = λ i j hi hj.
    let format : PictureFormat = c.self.inside.sps.now.format in
    subst
    (λ (v : FlightView). at c.flight_window.new.out (72 * j + i)
    ≡ sample_named v (Flight c.args.place) c.args.from.component (c.args.from.x +ℤ pos i) (c.args.from.y +ℤ pos j))
    c.self.view_is (c.flight_window.ensures.value format c.sample_limit-greatest.ensures i j hi hj)

pub returns-clause-bytes : goal.returns-clause-bytes
returns-clause-bytes g c =
    let format : PictureFormat = c.self.inside.sps.now.format in
    subst
    (λ (v : FlightView). ((x y : ℤ) → sample_named v (Flight c.args.place) c.args.from.component x y < 256)
    → All IsByte c.args.out.now → All IsByte c.flight_window.new.out)
    c.self.view_is (c.flight_window.ensures.bytes format c.sample_limit-greatest.ensures)
