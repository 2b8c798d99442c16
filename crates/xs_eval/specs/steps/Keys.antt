-- What the code finds by key.
use Rattle.std.specs.Prelude.{◌≡◌, ℕ, ◌<◌, ◌++◌, ◌&&◌, Bool, Result, Ok, Err, List, [], ◌∷◌, Option, Some, None, length, nat_le, nat_lt}
use Rattle.std.specs.Borrow.{Bor}
use Rattle.xs_tree.specs.Axis.{is_same_document}
use Rattle.xs_tree.specs.Record.{Record}
use Rattle.xs_value.specs.declared.keys.KeyEnd.{KeyEnd}
use Rattle.xs_value.specs.declared.keys.KeyEnd.TheVariants.{Fault, NoMemory}
use Rattle.xs_value.specs.declared.value.Value.{Value}
use Rattle.xs_value.specs.declared.value.Value.TheVariants.{Nodes}
use Rattle.xs_value.specs.Conversion.{text_value}
use Rattle.xs_value.specs.Tables.{Table}
use Rattle.xs_eval_spec.specs.Context.{Context}
use Rattle.xs_eval_spec.specs.Keys.{found, found_for, sought}
use Rattle.xs_eval.specs.declared.keys.Document.{Document}

-- whether a node is between the ends of a document
abbrev pub holds : Document → ℕ → Bool
holds d k = nat_le d.root k && nat_lt k d.end

-- between these ends are the nodes of the document that the node at n is in
abbrev pub IsDocumentOf : List Record → ℕ → Document → Type 0
IsDocumentOf rs n d = (k : ℕ) → k < length rs → is_same_document rs n k ≡ holds d k

-- why a table gives no nodes: its fault, or out of memory
abbrev pub HasFault : Table → KeyEnd → Type 0
HasFault t (Fault f) = t.fault ≡ Some f
HasFault t NoMemory = Unit {0}

-- whether a table has no fault
abbrev pub IsSound : {A : Type 0} → Table → Result A KeyEnd → Type 0
IsSound t (Ok x) = t.fault ≡ None
IsSound t (Err e) = HasFault t e

-- the nodes whose string-values are looked up; of any other value it is the string
abbrev pub Seeks : Value → Option (Bor (List ℕ)) → Type 0
Seeks v (Some ns) = v ≡ Nodes ns.now
Seeks v None = (c : Context) → sought c v ≡ text_value c.tree v ∷ []

-- for some texts
abbrev pub FindsNodes : Context → Table → List (List ℕ) → Result (List ℕ) KeyEnd → Type 0
FindsNodes c t texts (Ok ns) = (t.fault ≡ None) × (ns ≡ found c t texts)
FindsNodes c t texts (Err e) = HasFault t e

-- for a text, after others
abbrev pub AddsNodes : Context → Table → List ℕ → List ℕ → Result (List ℕ) KeyEnd → Type 0
AddsNodes c t text before (Ok ns) = (t.fault ≡ None) × (ns ≡ before ++ found_for c t text)
AddsNodes c t text before (Err e) = HasFault t e
