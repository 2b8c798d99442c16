-- What the bytes of a source represent, and the names of modules.
use Rattle.std.specs.Prelude.{ℕ, List, [], slice_get}
use Rattle.std.specs.Option.{option_map_or}
use Rattle.xs_tree.specs.Record.{Record}
use Rattle.xs_build.specs.Document.{document, Outcome, tree, refused}
use Rattle.xs_modules.specs.Numbering.{ModuleData}
use Rattle.xs_reply.specs.Read.{Read, read, bad}

-- the most bytes of a source
abbrev pub source_limit : ℕ
source_limit = 268435456

-- A source is any document.
abbrev pub source_read : Outcome → Read (List Record)
source_read (tree records lines) = read records
source_read (refused number line) = bad number line

-- the records of a source's bytes
unfoldable pub source_of : List ℕ → Read (List Record)
source_of bytes = source_read (document source_limit bytes)

-- the name of the module of this number
abbrev pub module_name : List ModuleData → ℕ → List ℕ
module_name modules n = option_map_or (λ m. m.name) (slice_get modules n) []
