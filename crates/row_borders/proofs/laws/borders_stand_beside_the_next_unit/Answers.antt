use Rattle.row_borders.proofs.Later.{beside_behind}
use Rattle.row_borders.proofs.Next.{is_at_left, next_at_left, none_at_left}
use Rattle.row_borders.proofs.laws.borders_stand_beside_the_next_unit.Goals as goal

pub returns-clause-left : goal.returns-clause-left
returns-clause-left c = is_at_left

pub returns-clause-beside : goal.returns-clause-beside
returns-clause-beside c p border built units next shape layout held has is above = record {
  above = above;
  left = next_at_left p border built units next shape layout held has is;
}

pub returns-clause-behind : goal.returns-clause-behind
returns-clause-behind c = beside_behind

pub returns-clause-first : goal.returns-clause-first
returns-clause-first c = none_at_left
