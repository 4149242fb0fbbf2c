use Rattle.std.proofs.Common.{refl}
use Rattle.line.specs.Laws.{first, path}
use Rattle.line.specs.Lines.{part, share, long, on_line}
use Rattle.line.proofs.Walk.{starts, ends, steps, nearest_x, nearest_y}
use Rattle.line.proofs.Frames.{moved_long, turned_long, mirrored_long, moved_line, turned_line, mirrored_line}
use Rattle.line.proofs.line_laws_hold.Goals as goal

pub returns : goal.returns
unfolding part share long on_line first path
returns c = record {
  starts = starts;
  ends = ends;
  steps_x = λ p q n u h. (steps p q n u h).0;
  steps_y = λ p q n u h. (steps p q n u h).1;
  nearest_x = nearest_x;
  nearest_y = nearest_y;
  moved_long = moved_long;
  turned_long = turned_long;
  mirrored_long = mirrored_long;
  moved_line = moved_line;
  turned_line = turned_line;
  mirrored_line = mirrored_line;
  right_up = refl;
  left_up = refl;
}
