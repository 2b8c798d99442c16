-- Modules that some mentions name, with those that others name behind them.
use Rattle.xs_modules.specs.Mentioned.{Mentioned, no_module, one}

unfoldable pub join : Mentioned → Mentioned → Mentioned
join no_module later = later
join (one mention rs lines inside next) later = one mention rs lines inside (join next later)
