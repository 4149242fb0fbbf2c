use Rattle.std.proofs.Common.{◌≡◌}
use Rattle.geometry.specs.Places.{Within}
use Rattle.work.specs.Works.{place}
use Rattle.ffi_run.specs.Runs.{end_from}
use Rattle.ffi_run.proofs.travel.Given as goal

abbrev pub invariant-loop : goal.invariant-loop
invariant-loop l = record {
  stands : l.end ≡ place l.control.targets l.control.work.motion;
  near : Within 4000000000 l.end;
  onward : end_from l.control l.counter ≡ end_from l.initial.control l.count;
}
