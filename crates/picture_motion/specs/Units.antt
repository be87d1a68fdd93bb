-- What is known beside a coding tree unit of a picture.
use Rattle.spec_motion.specs.Vectors.{Known}
use Rattle.spec_picture_motion.specs.Field.{Motions, motion_beside}
use Rattle.picture_layout.specs.declared.coding_tree_unit.CodingTreeUnit.{CodingTreeUnit}

-- what is known at a place beside a unit
abbrev pub at_border : CodingTreeUnit → Motions → Known
at_border unit motions column row = motion_beside unit.layout unit.slice unit.address motions column row
