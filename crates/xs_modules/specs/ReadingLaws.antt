-- What follows of the reading of modules.
use Rattle.std.specs.Prelude.{◌≡◌, ℕ, List, [], ◌∷◌, Option, Some, None, Result, Ok, Err}
use Rattle.xs_outside.specs.Edge.{Files}
use Rattle.xs_modules.specs.declared.modules.Modules.{Modules}
use Rattle.xs_modules.specs.declared.modules.ModulesEnd.{ModulesEnd}
use Rattle.xs_modules.specs.declared.modules.ModulesEnd.TheVariants.{Failed, Refused, NoMemory}
use Rattle.xs_modules.specs.Mentions.{Mention, named_by_words}
use Rattle.xs_modules.specs.Mentioned.{Mentioned}
use Rattle.xs_modules.specs.Reading.{End, whole, unread, refused, out_of_memory, Reads}
use Rattle.xs_modules.specs.Results.{AreModules}

-- an end of the modules themselves: no fetch failed, and memory sufficed
abbrev pub IsOwn : End → Type 0
IsOwn (whole modules) = Unit {0}
IsOwn (unread name) = ⊥
IsOwn (refused number name line) = Unit {0}
IsOwn out_of_memory = ⊥

-- Files give one reading alone: the names that are asked for, and the end.
abbrev pub OneReading : Type 0
OneReading = (files : Files) (above : List (List ℕ)) (number : ℕ) (ms : List Mention) (names names' : List (List ℕ)) (end end' : End)
    → Reads (Some files) above number ms names end → Reads (Some files) above number ms names' end' → IsOwn end → IsOwn end'
    → (names ≡ names') × (end ≡ end')

-- an answer that reports this end; where a fetch failed, or memory ran out, it shows none
abbrev pub Reports : Result Modules ModulesEnd → End → Type 0
Reports (Ok modules) end = (read : Mentioned) × (end ≡ whole read) × AreModules modules read
Reports (Err (Failed name)) end = Unit {0}
Reports (Err (Refused number name line)) end = end ≡ refused number name line
Reports (Err NoMemory) end = Unit {0}

-- Where the library shows its files, the answer reports the end that they come to, whatever that is.
abbrev pub ReportsOnly : Result Modules ModulesEnd → Option Files → List ℕ → Type 0
ReportsOnly result None name = Unit {0}
ReportsOnly result (Some files) name =
    (names : List (List ℕ)) (end : End) → Reads (Some files) [] 0 (named_by_words name ∷ []) names end → IsOwn end → Reports result end
