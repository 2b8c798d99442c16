-- Tables of declarations and of numbers, as they grow.
use Rattle.std.specs.Prelude.{ℕ, ◌&&◌, nat_lt, Bool, List, Option, Some, None, if◌then◌else◌}
use Rattle.std.specs.Option.{option_or}
use Rattle.xs_elements.specs.Nodes.{Name}
use Rattle.xs_elements.specs.Tags.{is_template}
use Rattle.xs_modules.specs.Numbering.{ModuleData}
use Rattle.xs_structure.specs.Modules.{Place, precedence_at}
use Rattle.xs_structure.specs.Order.{declares}
use Rattle.xs_compile.specs.declared.counted.Kind.{Kind}
use Rattle.xs_compile.specs.Counted.{is_counted, named}
use Rattle.xs_structure.specs.Parts.{name_at, tag_at}
use Rattle.xs_compile.specs.Tables.{kind_test}

-- the first module has the higher precedence
abbrev pub behind : List ModuleData → ℕ → ℕ → Bool
behind ms other m = nat_lt (precedence_at ms m) (precedence_at ms other)

-- of the one that counts so far and one more the one that counts
abbrev pub counts_for : List ModuleData → Option Place → Place → Option Place
counts_for ms None p = Some p
counts_for ms (Some other) p = Some (if behind ms other.0 p.0 then other else p)

-- the name of an element, if it is of a kind
abbrev pub name_of : List ModuleData → Kind → Place → Option Name
name_of ms kind p = if kind_test kind (tag_at ms p) then name_at ms p else None

-- the number of a name, with this one where a test holds, unless it has one already
abbrev pub numbered_as : Bool → Option ℕ → ℕ → Option ℕ
numbered_as holds old number = if holds then option_or old (Some number) else old

-- a template is the one that is called by a name
abbrev pub is_called : List ModuleData → Name → Place → Bool
is_called ms name p = declares is_template ms name p && is_counted ms (named is_template ms name) p
