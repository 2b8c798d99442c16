-- Which elements of a module mention other modules (XSLT 1.0, 2.2 and 2.6).
use Rattle.std.specs.Prelude.{ℕ, ◌&&◌, ◌||◌, Bool, true, false, List, [], map, filter, Option, Some, None, is_some, find, codes, get_or}
use Rattle.std.specs.Option.{option_map_or}
use Rattle.std.specs.Str.{bytes_eq}
use Rattle.xs_tree.specs.Kinds.{is_element_kind}
use Rattle.xs_tree.specs.Record.{Record, at, attributes, is_place, places, uri_at, local_at}
use Rattle.xs_modules.specs.Names.{resolved}

-- the namespace of XSLT's elements, whatever prefix they bear (2.1)
abbrev pub xslt_uri : List ℕ
xslt_uri = codes "http://www.w3.org/1999/XSL/Transform"

-- an element of XSLT with this local part
abbrev pub is_named : List ℕ → List Record → ℕ → Bool
is_named local rs n = is_element_kind (at rs n).kind && (bytes_eq (uri_at rs n) xslt_uri && bytes_eq (local_at rs n) local)

-- an element that is a stylesheet, under either of its names (2.2)
abbrev pub is_stylesheet : List Record → ℕ → Bool
is_stylesheet rs n = is_named (codes "stylesheet") rs n || is_named (codes "transform") rs n

-- the element of a document, where it is a stylesheet
abbrev pub is_sheet : List Record → ℕ → Bool
is_sheet rs n = is_place 0 (at rs n).parent && is_stylesheet rs n

-- a node just below that element
abbrev pub is_top_level : List Record → ℕ → Bool
is_top_level rs n = option_map_or (is_sheet rs) (at rs n).parent false

-- the attribute `href`, which is in no namespace
abbrev pub is_href : List Record → ℕ → Bool
is_href rs a = bytes_eq (uri_at rs a) [] && bytes_eq (local_at rs a) (codes "href")

abbrev pub href : List Record → ℕ → Option ℕ
href rs n = find (is_href rs) (attributes rs n)

-- 2.6.2
abbrev pub is_import : List Record → ℕ → Bool
is_import rs n = is_named (codes "import") rs n

-- 2.6.1
abbrev pub is_include : List Record → ℕ → Bool
is_include rs n = is_named (codes "include") rs n

-- an import or an include with an `href`
abbrev pub names_module : List Record → ℕ → Bool
names_module rs n = (is_import rs n || is_include rs n) && is_some (href rs n)

-- A top-level import or include that says of what. Where it stands among the others, and which faults the module has, is not
-- looked at.
abbrev pub is_mention : List Record → ℕ → Bool
is_mention rs n = names_module rs n && is_top_level rs n

-- the elements of a module that mention others, in the order of its lines
abbrev pub elements : List Record → List ℕ
elements rs = filter (is_mention rs) (places rs)

-- A module is asked for: by an element of another one, or by the words, which name the first one.
pub record Mention : Type 0 where
  -- the name of the module that has the element, and the line of the element
  pub from : List ℕ
  pub line : ℕ
  -- the number of that module, and the element; None is the words
  pub element : Option (ℕ × ℕ)
  -- by an import; else by an include
  pub is_import : Bool
  -- the name that is asked for
  pub name : List ℕ

-- what an element's `href` says
abbrev pub reference : List Record → ℕ → List ℕ
reference rs n = option_map_or (λ a. (at rs a).text) (href rs n) []

-- a mention by an element of the module with this number and name, with these nodes and their lines
abbrev pub mention_at : ℕ → List ℕ → List Record → List ℕ → ℕ → Mention
mention_at number name rs lines n = record {
  from = name;
  line = get_or lines n 0;
  element = Some (number, n);
  is_import = is_import rs n;
  name = resolved name (reference rs n);
}

-- all mentions of a module
abbrev pub mentions : ℕ → List ℕ → List Record → List ℕ → List Mention
mentions number name rs lines = map (mention_at number name rs lines) (elements rs)

-- the first module, which no module mentions; it is no part of another stylesheet, as if it were imported
abbrev pub named_by_words : List ℕ → Mention
named_by_words name = record { from = []; line = 0; element = None; is_import = true; name = name }
