-- What the tables of declarations have, by names.
use Rattle.std.specs.Prelude.{ℕ, ◌&&◌, Bool, List, Option}
use Rattle.std.specs.HashMap.{get_by}
use Rattle.std.specs.Str.{bytes_eq}
use Rattle.xs_elements.specs.declared.tags.Tag.{Tag}
use Rattle.xs_elements.specs.Tags.{is_template, is_variable}
use Rattle.xs_structure.specs.Modules.{Place}
use Rattle.xs_compile.specs.declared.counted.Counted.{Counted}
use Rattle.xs_compile.specs.declared.counted.Kind.{Kind}
use Rattle.xs_compile.specs.declared.counted.Kind.TheVariants.{Global, Template}
use Rattle.xs_compile.specs.declared.counted.Numbers.{Numbers}

-- the declaration that a table has for a name
abbrev pub place_in : Counted → (uri local : List ℕ) → Option Place
place_in c uri local = get_by (λ k. bytes_eq uri k.0.now && bytes_eq local k.1.now) c.places

abbrev pub number_in : Numbers → (uri local : List ℕ) → Option ℕ
number_in n uri local = get_by (λ k. bytes_eq uri k.0.now && bytes_eq local k.1.now) n.numbers

-- which elements are of a kind
abbrev pub kind_test : Kind → Tag → Bool
kind_test Global = is_variable
kind_test Template = is_template
