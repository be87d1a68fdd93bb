use Rattle.std.proofs.Common.{◌≡◌, ◌≤◌, length, take}
use Rattle.flight_waits.specs.Frames.{frame_rows}
use Rattle.flight_waits.proofs.frame.flight_frame.Given as goal

abbrev pub invariant-loop-place : goal.invariant-loop-place
invariant-loop-place l =
    (l.frame ≡ frame_rows (take l.place l.pictures)) × (l.place ≤ length l.pictures)
