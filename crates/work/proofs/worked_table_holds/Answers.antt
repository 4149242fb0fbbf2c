use Rattle.std.proofs.Common.{refl}
use Rattle.line.specs.Lines.{part, share, long, on_line}
use Rattle.speed.specs.Speeds.{slowed, stopping, fastest, next_speed}
use Rattle.work.specs.Works.{toward, stands}
use Rattle.work.specs.Worked.{seen, Worked}
use Rattle.work.proofs.worked_table_holds.Goals as goal

table : Worked
unfolding part share long on_line slowed stopping fastest next_speed toward stands seen
table = record { along_an_axis = refl; slanting = refl; steep = refl; held = refl; turned_down = refl; line_by_line = refl; stopping_distances = refl }

pub returns : goal.returns
returns c = table
