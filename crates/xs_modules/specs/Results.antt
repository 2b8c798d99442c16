-- What reading modules answers, against what comes of the mentions.
use Rattle.std.specs.Prelude.{◌≡◌, ℕ, List, ◌++◌, map, Option, Result, Ok, Err}
use Rattle.xs_outside.specs.Edge.{Files}
use Rattle.xs_modules.specs.declared.modules.Module.{Module}
use Rattle.xs_modules.specs.declared.modules.Modules.{Modules}
use Rattle.xs_modules.specs.declared.modules.ModulesEnd.{ModulesEnd}
use Rattle.xs_modules.specs.declared.modules.ModulesEnd.TheVariants.{Failed, Refused, NoMemory}
use Rattle.xs_modules.specs.Mentions.{Mention}
use Rattle.xs_modules.specs.Mentioned.{Mentioned}
use Rattle.xs_modules.specs.Numbering.{ModuleData, numbered}
use Rattle.xs_modules.specs.Reading.{End, whole, unread, refused, out_of_memory, Reads, failed_names}

abbrev pub module_data : Module → ModuleData
module_data m = record {
  records = m.tree;
  lines = m.lines.items;
  name = m.name;
  mention = m.mention;
  rank = record { precedence = m.precedence; imports_from = m.imports_from };
}

abbrev pub modules_data : Modules → List ModuleData
modules_data modules = map module_data modules.list.items

-- the modules are those of this tree of mentions, in the order of their numbers
abbrev pub AreModules : Modules → Mentioned → Type 0
AreModules modules read = modules_data modules ≡ numbered read

-- the end that an answer reports, where not all was read
abbrev pub end_of : ModulesEnd → End
end_of (Failed name) = unread name
end_of (Refused number name line) = refused number name line
end_of NoMemory = out_of_memory

-- The modules that these mentions name were read from a library, below modules of these names and beside so many modules, to this
-- end. Two lists of the library grew: the names that were asked for, and those that failed.
pub record ComesTo (end : End) (files : Option Files) (above : List (List ℕ)) (number : ℕ) (ms : List Mention)
    (asked asked_after failed failed_after : List (List ℕ)) : Type 0 where
  pub names : List (List ℕ)
  pub reads : Reads files above number ms names end
  pub asks : asked_after ≡ asked ++ names
  pub fails : failed_after ≡ failed ++ failed_names end

-- where all was read, P of what is answered and of what was read
abbrev pub Comes : {A : Type 0} → (A → Mentioned → Type 0) → Result A ModulesEnd → Option Files → (above : List (List ℕ)) → (number : ℕ)
    → List Mention → (asked asked_after failed failed_after : List (List ℕ)) → Type 0
Comes P (Ok x) files above number ms asked asked_after failed failed_after =
    (read : Mentioned) × ComesTo (whole read) files above number ms asked asked_after failed failed_after × P x read
Comes P (Err e) files above number ms asked asked_after failed failed_after =
    ComesTo (end_of e) files above number ms asked asked_after failed failed_after
