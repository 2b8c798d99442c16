-- What names an element or an attribute that is read: a node that is in the tree, or a new name.
use Rattle.std.specs.Prelude.{◌≡◌, ℕ, ◌<◌, List, [], Option, None, Some, Result, Ok, Err, length, unwrap_or}
use Rattle.xs_tree.specs.Record.{Record, at}
use Rattle.xs_tree.specs.declared.names.Name.{Name}
use Rattle.xs_build.specs.declared.fault.BuildFault.{BuildFault}
use Rattle.xs_build.specs.declared.fault.BuildFault.TheVariants.{Bad, NoMemory}
use Rattle.xs_build.specs.declared.known.NodeName.{NodeName}
use Rattle.xs_build.specs.declared.known.NodeName.TheVariants.{Known, New}
use Rattle.xs_build.specs.Faults.{unbound_prefix}
use Rattle.xs_build.specs.Namespaces.{Bindings, QName, qname_of, declared_prefix, attribute_name}
use Rattle.xs_build.specs.Nodes.{local_name}
use Rattle.xs_build.specs.steps.State.{Names}

-- the name that is meant
abbrev pub full_name : List Record → NodeName → Name
full_name rs (Known node) = unwrap_or (at rs node).name (local_name [])
full_name rs (New name) = name

-- the node that names another one is in the tree and has a name
abbrev pub IsNamed : List Record → NodeName → Type 0
IsNamed rs (Known node) = (node < length rs) × ((at rs node).name ≡ Some (full_name rs (Known node)))
IsNamed rs (New name) = Unit {0}

-- What was found is this name, and where there is none its prefix is not bound. Memory may run out.
abbrev pub Resolves : Result NodeName BuildFault → List Record → Option Name → ℕ → Type 0
Resolves (Ok found) rs name line = IsNamed rs found × (name ≡ Some (full_name rs found))
Resolves (Err (Bad number at)) rs name line = (name ≡ None) × (number ≡ unbound_prefix) × (at ≡ line)
Resolves (Err NoMemory) rs name line = Unit {0}

-- What was found is the name of an element that is written so, or this line has this fault. Memory may run out.
abbrev pub Finds : Result NodeName BuildFault → List Record → Bindings → List ℕ → ℕ → Type 0
Finds (Ok found) rs scope written line = IsNamed rs found × Names (Ok (full_name rs found)) scope written line
Finds (Err fault) rs scope written line = Names (Err fault) scope written line

-- An attribute that is written so is no declaration, and where these bindings are in force this is its name, with this local part.
pub record IsAttribute (written : List ℕ) (scope : Bindings) (full : Name) (local : List ℕ) : Type 0 where
  pub parts : QName
  pub read : qname_of written ≡ Some parts
  pub plain : declared_prefix parts ≡ None
  pub found : attribute_name scope parts ≡ Some full
  pub last : full.local ≡ local
