-- The namespaces that are in force, node by node.
use Rattle.std.specs.Prelude.{◌≡◌, ℕ, suc, ◌<◌, ◌≤◌, ◌||◌, Bool, false, List, [], length, Option}
use Rattle.std.specs.List.{list_any}
use Rattle.std.specs.Option.{option_map_or}
use Rattle.std.specs.Str.{bytes_eq}
use Rattle.xs_elements.specs.Reading.{declares_extension, means_uri}
use Rattle.xs_elements.specs.Tags.{xslt_uri}
use Rattle.xs_elements.specs.WhiteSpace.{words, xml_uri}
use Rattle.xs_structure.specs.steps.Around.{any_around}
use Rattle.xs_tree.specs.Record.{Record}
use Rattle.xs_structure.specs.declared.namespaces.Namespaces.{Namespaces}
use Rattle.xs_structure.specs.Excluded.{excludes}
use Rattle.xs_structure.specs.InForce.{in_force_at}

-- a list of words, if it is there, means a namespace
abbrev pub is_meant : List (List ℕ × List ℕ) → List ℕ → Option (List ℕ) → Bool
is_meant pairs uri value = option_map_or (λ v. list_any (means_uri pairs uri) (words v)) value false

-- the namespaces that the first so many nodes declare are in force at the nodes that come
pub record AreNamespaces (rs : List Record) (count : ℕ) (ns : Namespaces) : Type 0 where
  pub extensions : (uri : List ℕ) (k : ℕ) → count ≤ suc k → k < length rs
      → in_force_at ns.extensions uri [] k ≡ any_around (declares_extension rs uri) rs k count
  pub excluded : (uri : List ℕ) (k : ℕ) → count ≤ suc k → k < length rs
      → in_force_at ns.excluded uri [] k ≡ any_around (excludes rs uri) rs k count

abbrev pub is_left_out_by : Namespaces → ℕ → List ℕ → Bool
is_left_out_by ns k uri =
    bytes_eq uri xslt_uri || bytes_eq uri xml_uri || in_force_at ns.extensions uri [] k || in_force_at ns.excluded uri [] k
