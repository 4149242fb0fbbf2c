use Rattle.std.proofs.Common.{sym, ap, ◌∙◌}
use Rattle.text.specs.declared.phase.Phase.TheVariants.{Line}
use Rattle.text.specs.Reading.{empty}
use Rattle.text_laws.proofs.Alone.{runs, read_runs}
use Rattle.text_laws.proofs.Built.{read_written}
use Rattle.text_laws.proofs.Rebuilt.{leads_back}
use Rattle.text_laws.proofs.texts_hold.Goals as goal

pub returns : goal.returns
returns c = record {
  reads_back = read_written;
  leads_back = leads_back;
  words_alone = λ a b e. read_runs a ∙ ap (runs Line empty) e ∙ sym (read_runs b);
}
