-- Namespace aliases (XSLT 1.0, 7.1.1).
use Rattle.std.specs.Prelude.{ℕ, Bool, true, false, List, [], map, filter, codes, if◌then◌else◌}
use Rattle.std.specs.Option.{unwrap_or}
use Rattle.std.specs.Str.{bytes_eq}
use Rattle.xs_elements.specs.declared.tags.Tag.{Tag}
use Rattle.xs_elements.specs.declared.tags.Tag.TheVariants.{NamespaceAlias}
use Rattle.xs_modules.specs.Numbering.{ModuleData}
use Rattle.xs_sheet.specs.declared.declarations.Alias.{Alias}
use Rattle.xs_structure.specs.Modules.{Place}
use Rattle.xs_xpath.specs.Names.{uri_in, uri_of}
use Rattle.xs_compile.specs.Counted.{is_counted}
use Rattle.xs_structure.specs.Order.{all_with}
use Rattle.xs_structure.specs.Parts.{pairs_at, said_at}

abbrev pub is_alias : Tag → Bool
is_alias NamespaceAlias = true
is_alias _ = false

-- `#default` is the default namespace, or none
abbrev pub prefix_uri : List (List ℕ × List ℕ) → List ℕ → List ℕ
prefix_uri pairs prefix = if bytes_eq prefix (codes "#default") then unwrap_or (uri_in pairs []) [] else uri_of pairs prefix

abbrev pub alias_at : List ModuleData → Place → Alias
alias_at ms p = record {
  from_uri = prefix_uri (pairs_at ms p) (said_at ms p (codes "stylesheet-prefix"));
  to_uri = prefix_uri (pairs_at ms p) (said_at ms p (codes "result-prefix"));
}

-- of those of one namespace the one that counts
abbrev pub is_alias_of : List ModuleData → List ℕ → Place → Bool
is_alias_of ms uri p = bytes_eq (alias_at ms p).from_uri uri

abbrev pub is_counted_alias : List ModuleData → Place → Bool
is_counted_alias ms p = is_counted ms (filter (is_alias_of ms (alias_at ms p).from_uri) (all_with is_alias ms)) p

abbrev pub aliases : List ModuleData → List Alias
aliases ms = map (alias_at ms) (filter (is_counted_alias ms) (all_with is_alias ms))
