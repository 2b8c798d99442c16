-- The ticks of a segment, at up to three places.
use Rattle.std.specs.Prelude.{ℕ, List, [], ◌++◌}
use Rattle.xs_trace.specs.Mark.{ticks}
use Rattle.xs_trace.specs.declared.item.Site.{Site}
use Rattle.xs_record.specs.declared.segment.Run.{Run}
use Rattle.xs_profile.specs.Sites.{sites_of}
use Rattle.xs_profile.specs.declared.runs.Runs.{Runs}

-- the place of each tick of a run of them
abbrev pub run_sites : Run → List Site
run_sites run = sites_of {H = ℕ} (ticks run.site run.ticks [])

abbrev pub runs_sites : Runs → List Site
runs_sites runs = run_sites runs.first ++ (run_sites runs.last ++ run_sites runs.own)
