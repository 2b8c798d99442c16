use Rattle.xs_pool.specs.Known.{IsBelow, IsInTree}
use Rattle.xs_pool.proofs.pool.run_pool.Given as goal

abbrev pub ghosts-run_known : goal.ghosts-run_known
ghosts-run_known g a =
    let r = a.crew.now.runner.now in
    record {
      fits = IsInTree (g.R.Runner.is_own r) (g.R.Runner.place_of r) (g.R.Runner.own r) a.root;
      waits = IsBelow (g.R.Runner.is_own r) (g.R.Runner.place_of r) (g.R.Runner.own r) a.root;
    }
