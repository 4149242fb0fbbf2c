-- What holds of texts as a whole, over programs as trees of lines. Assumes nothing.
--   reads_back     what is written of a program is read as that program's nodes
--   leads_back     a program's nodes lead back to it
--   words_alone    what is read depends on what the words say, however they are spread over lines and blanks
use Rattle.std.specs.Prelude.{◌≡◌, ℕ, List, Some, Ok}
use Rattle.std.specs.Result.{result_ok}
use Rattle.text.specs.Reading.{read}
use Rattle.text_laws.specs.Rebuilding.{program_of}
use Rattle.text_laws.specs.Trees.{Program, Proper, program_lines, nodes_of}
use Rattle.text.specs.Words.{tokens}
use Rattle.listing.specs.Writing.{written}

pub record TextsHold : Type 0 where
  pub reads_back : (p : Program) → Proper p → read (written 0 (program_lines p)) ≡ Ok (nodes_of p)
  pub leads_back : (p : Program) → Proper p → program_of (nodes_of p) ≡ Some p
  pub words_alone : (a b : List ℕ) → tokens a ≡ tokens b → result_ok (read a) ≡ result_ok (read b)
