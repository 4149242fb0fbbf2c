use Rattle.ffi.proofs.Telling.{refused}
use Rattle.ffi.proofs.programs.mill_say.Goals as goal

pub returns-in-Refused-clause-code : goal.returns-in-Refused-clause-code
returns-in-Refused-clause-code c = rw (refused _ _ _ c.in-Refused.ensures.answer) c.number.ensures

pub returns-in-Refused-clause-place : goal.returns-in-Refused-clause-place
returns-in-Refused-clause-place c = rw (c.place.ensures, refused _ _ _ c.in-Refused.ensures.answer)
