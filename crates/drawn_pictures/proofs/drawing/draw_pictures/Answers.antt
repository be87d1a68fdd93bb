use Rattle.std.proofs.Common.{rules}
use Rattle.drawn_pictures.proofs.Drawn.{drawn_all, drawn_more, drawn_none}
use Rattle.drawn_pictures.proofs.drawing.draw_pictures.Goals as goal

pub loop-j-init : goal.loop-j-init
loop-j-init c = drawn_none c.args.seed _ c.in_ok-drawing.drawing (search rules) c.in_ok-drawing.ensures

pub loop-j-preserved : goal.loop-j-preserved
loop-j-preserved c =
    drawn_more c.args.seed c.loop-j.j c.loop-j.bytes.items c.draw.new.bytes.items c.loop-j.drawing
    c.in_ok-drawing-2.drawing c.loop-j.invariant c.in_ok-drawing-2.ensures.bytes c.in_ok-drawing-2.ensures.behind

pub returns : goal.returns
returns c =
    drawn_all c.args.seed c.loop-j.j c.args.pictures c.loop-j.bytes.items c.loop-j.drawing c.loop-j.auto.j-end
    c.loop-j-test.false c.loop-j.invariant
