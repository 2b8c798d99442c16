-- The name of an element or an attribute, by that of another node.
use Rattle.std.proofs.Common.{◌≡◌, ℕ, ◌<◌, List, [], ◌∷◌, ◌++◌, Option, None, Some, Result, Ok, Err, Bool, true, false, length, eqb, refl, sym, ◌∙◌, ap, arith, subst, unwrap_or}
use Rattle.std.specs.Prelude.{is_some, IfSome}
use Rattle.std.proofs.lemmas.Bool.Decides.{nat_tests}
use Rattle.std.proofs.lemmas.Slice.Eq.{bytes_eq-Decides}
use Rattle.std.specs.Str.{bytes_eq}
use Rattle.xs_tree.specs.declared.names.Name.{Name}
use Rattle.xs_tree.specs.Record.{Record, at}
use Rattle.xs_tree.specs.declared.kinds.Kind.{Kind}
use Rattle.xs_tree.specs.declared.kinds.Kind.TheVariants.{Root, Element, Attribute, Space, Text, Comment, Pi}
use Rattle.xs_tree.specs.Kinds.{bears_name, has_local_name}
use Rattle.xs_tree.specs.Shape.{CanBear, IsTree}
use Rattle.xs_tree.proofs.ShapeLemmas.{at-append, length-added}
use Rattle.xs_build.specs.declared.fault.BuildFault.{BuildFault}
use Rattle.xs_build.specs.declared.fault.BuildFault.TheVariants.{Bad, NoMemory}
use Rattle.xs_build.specs.declared.known.NodeName.{NodeName}
use Rattle.xs_build.specs.declared.known.NodeName.TheVariants.{Known, New}
use Rattle.xs_build.specs.Faults.{bad_line, bad_name, unbound_prefix}
use Rattle.std.specs.Prelude.{option_map}
use Rattle.xs_build.specs.Namespaces.{Bindings, QName, uri_in, uri_of, named, element_name, attribute_name, qname_of, declared_prefix}
use Rattle.xs_build.specs.Nodes.{local_name, text_node}
use Rattle.xs_build.specs.declared.tag_names.Expanded.{Expanded}
use Rattle.xs_build.specs.steps.Lines.{Context, Step, bad, needs, scope_of, named_step, plain_step, written_step, attribute_step}
use Rattle.xs_build.specs.steps.Names.{Finds, IsAttribute, IsNamed, Resolves, full_name}
use Rattle.xs_build.specs.steps.State.{State, Steps, context, taken, with_text_node}

-- the URI that is bound, or none, is that of the name
name_of_bound : (scope : Bindings) (prefix local uri : List ℕ) → uri_in scope prefix ≡ Some uri
    → element_name scope (record { prefix = prefix; local = local }) ≡ Some (record { uri = uri; local = local; prefix = prefix })
unfolding element_name
name_of_bound scope [] local uri e = rw e refl
name_of_bound scope (p ∷ prefix) local uri e = rw e refl

name_of_unbound : (scope : Bindings) (local : List ℕ) → uri_in scope [] ≡ None
    → element_name scope (record { prefix = []; local = local }) ≡ Some (record { uri = []; local = local; prefix = [] })
unfolding element_name
name_of_unbound scope local e = rw e refl

name_of_none : (scope : Bindings) (prefix local uri : List ℕ) → uri_in scope prefix ≡ None → eqb (length prefix) 0 ≡ true → eqb (length uri) 0 ≡ true
    → element_name scope (record { prefix = prefix; local = local }) ≡ Some (record { uri = uri; local = local; prefix = prefix })
name_of_none scope [] local [] e p q = name_of_unbound scope local e
name_of_none scope [] local (u ∷ uri) e p q = absurd (grind (arith, nat_tests))
name_of_none scope (b ∷ prefix) local uri e p q = absurd (grind (arith, nat_tests))

attribute_of_bound : (scope : Bindings) (prefix local uri : List ℕ) → eqb (length prefix) 0 ≡ false → uri_in scope prefix ≡ Some uri
    → attribute_name scope (record { prefix = prefix; local = local }) ≡ Some (record { uri = uri; local = local; prefix = prefix })
unfolding attribute_name
attribute_of_bound scope [] local uri p e = absurd (cc)
attribute_of_bound scope (b ∷ prefix) local uri p e = rw e refl

attribute_of_none : (scope : Bindings) (prefix local uri : List ℕ) → eqb (length prefix) 0 ≡ true → eqb (length uri) 0 ≡ true
    → attribute_name scope (record { prefix = prefix; local = local }) ≡ Some (record { uri = uri; local = local; prefix = prefix })
unfolding attribute_name
attribute_of_none scope [] local [] p q = refl
attribute_of_none scope [] local (u ∷ uri) p q = absurd (grind (arith, nat_tests))
attribute_of_none scope (b ∷ prefix) local uri p q = absurd (grind (arith, nat_tests))

-- two texts that the code found to be the same
same_bytes : (a b : List ℕ) → bytes_eq a b ≡ true → a ≡ b
same_bytes a b e = (bytes_eq-Decides a b).0 e

same_uri : (a b found uri : List ℕ) (t : Bool) → a ≡ found → b ≡ uri → t ≡ bytes_eq a b → t ≡ true → found ≡ uri
same_uri a b found uri t a_is b_is is holds = sym a_is ∙ same_bytes a b (sym is ∙ holds) ∙ b_is

-- a text that the code found to be empty
is_bare : (a text : List ℕ) (t : Bool) → a ≡ text → t ≡ eqb (length a) 0 → t ≡ true → eqb (length text) 0 ≡ true
is_bare a text t a_is is holds = ap (λ xs. eqb (length xs) 0) (sym a_is) ∙ sym is ∙ holds

-- what the code looks at, of an element's name and of an attribute's
pub element_bound : (scope : Bindings) (prefix local found uri a b : List ℕ) (t : Bool) → Some found ≡ uri_in scope prefix
    → a ≡ found → b ≡ uri → t ≡ bytes_eq a b → t ≡ true
    → element_name scope (record { prefix = prefix; local = local }) ≡ Some (record { uri = uri; local = local; prefix = prefix })
element_bound scope prefix local found uri a b t e a_is b_is is holds =
    name_of_bound scope prefix local uri (sym e ∙ ap Some (same_uri a b found uri t a_is b_is is holds))

pub element_unbound : (scope : Bindings) (prefix local uri a b : List ℕ) (s t : Bool) → None ≡ uri_in scope prefix
    → a ≡ prefix → s ≡ eqb (length a) 0 → s ≡ true → b ≡ uri → t ≡ eqb (length b) 0 → t ≡ true
    → element_name scope (record { prefix = prefix; local = local }) ≡ Some (record { uri = uri; local = local; prefix = prefix })
element_unbound scope prefix local uri a b s t e a_is s_is holds b_is t_is bare =
    name_of_none scope prefix local uri (sym e) (is_bare a prefix s a_is s_is holds) (is_bare b uri t b_is t_is bare)

pub attribute_bound : (scope : Bindings) (prefix local found uri a b d : List ℕ) (s t : Bool) → d ≡ prefix → s ≡ eqb (length d) 0 → s ≡ false
    → Some found ≡ uri_in scope prefix → a ≡ found → b ≡ uri → t ≡ bytes_eq a b → t ≡ true
    → attribute_name scope (record { prefix = prefix; local = local }) ≡ Some (record { uri = uri; local = local; prefix = prefix })
attribute_bound scope prefix local found uri a b d s t d_is s_is some e a_is b_is is holds =
    attribute_of_bound scope prefix local uri (ap (λ xs. eqb (length xs) 0) (sym d_is) ∙ sym s_is ∙ some)
    (sym e ∙ ap Some (same_uri a b found uri t a_is b_is is holds))

pub attribute_unbound : (scope : Bindings) (prefix local uri a b : List ℕ) (s t : Bool)
    → a ≡ prefix → s ≡ eqb (length a) 0 → s ≡ true → b ≡ uri → t ≡ eqb (length b) 0 → t ≡ true
    → attribute_name scope (record { prefix = prefix; local = local }) ≡ Some (record { uri = uri; local = local; prefix = prefix })
attribute_unbound scope prefix local uri a b s t a_is s_is holds b_is t_is bare =
    attribute_of_none scope prefix local uri (is_bare a prefix s a_is s_is holds) (is_bare b uri t b_is t_is bare)

-- a text node more leaves the names
pub named_behind : (rs : List Record) (p : ℕ) (text : List ℕ) (e : NodeName) → IsNamed rs e → IsNamed (with_text_node rs p text) e
named_behind rs p text (New name) h = tt
named_behind rs p [] (Known node) h = h
named_behind rs p (b ∷ text) (Known node) h =
    let same : at (rs ++ text_node (b ∷ text) p ∷ []) node ≡ at rs node = at-append rs (text_node (b ∷ text) p ∷ []) node h.0 in
    (omega (arith, h.0, length-added rs (text_node (b ∷ text) p)), rw same h.1)

pub full_behind : (rs : List Record) (p : ℕ) (text : List ℕ) (e : NodeName) → IsNamed rs e → full_name (with_text_node rs p text) e ≡ full_name rs e
full_behind rs p text (New name) h = refl
full_behind rs p [] (Known node) h = refl
full_behind rs p (b ∷ text) (Known node) h =
    ap (λ r. unwrap_or r.name (local_name [])) (at-append rs (text_node (b ∷ text) p ∷ []) node h.0)

-- a node of this name names an element
pub is_named : (rs : List Record) (node : ℕ) (name : Option Name) (full : Name) → node < length rs → name ≡ (at rs node).name → name ≡ Some full
    → IsNamed rs (Known node)
is_named rs node name full within same is =
    let found : (at rs node).name ≡ Some full = sym same ∙ is in
    (within, found ∙ sym (ap (λ o. Some (unwrap_or o (local_name []))) found))

-- what was found for the prefix and the local part of a written name is found for that name
pub finds : (r : Result NodeName BuildFault) (rs : List Record) (scope : Bindings) (written : List ℕ) (line : ℕ) (w : QName)
    → qname_of written ≡ Some w → Resolves r rs (element_name scope w) line → Finds r rs scope written line
finds (Ok found) rs scope written line w is h = (
  h.0,
  λ (next : Name → Step).
      ap (λ o. needs o bad_name (λ w. needs (element_name scope w) unbound_prefix next)) is ∙ ap (λ o. needs o unbound_prefix next) h.1,
)
finds (Err (Bad number at)) rs scope written line w is h = (
  λ (next : Name → Step).
      ap (λ o. needs o bad_name (λ w. needs (element_name scope w) unbound_prefix next)) is
      ∙ ap (λ o. needs o unbound_prefix next) h.0 ∙ sym (ap (λ n. bad n) h.1),
  h.2,
)
finds (Err NoMemory) rs scope written line w is h = tt

-- the local part of the name of an attribute is the one that it is written with
pub attribute_local : (scope : Bindings) (w : QName) (name : Name) → attribute_name scope w ≡ Some name → name.local ≡ w.local
unfolding attribute_name
attribute_local scope w name h = by_uri (uri_of scope [] w.prefix) h
  where
    by_uri : (uri : Option (List ℕ)) → option_map (named w) uri ≡ Some name → name.local ≡ w.local
    by_uri None e = absurd (cc)
    by_uri (Some uri) e = sym (ap (λ (n : Option Name). (unwrap_or n name).local) e)

-- what is known of an element whose written name was read before
pub element_found : (r : Option ℕ) (rs : List Record) (scope : Bindings) (written : List ℕ) (w : QName) → qname_of written ≡ Some w
    → IfSome r (λ node. IsNamed rs (Known node)) → IfSome r (λ node. element_name scope w ≡ (at rs node).name)
    → IfSome r (λ node. (line : ℕ) → Finds (Ok (Known node)) rs scope written line)
element_found None rs scope written w read named same = tt
element_found (Some node) rs scope written w read named same = λ line. finds (Ok (Known node)) rs scope written line w read (named, same ∙ named.1)

-- what is known of an attribute whose written name was read before
pub attribute_is : (written : List ℕ) (scope : Bindings) (w : QName) (name : Option Name) (full : Name) (local : List ℕ) → qname_of written ≡ Some w
    → declared_prefix w ≡ None → attribute_name scope w ≡ name → name ≡ Some full → w.local ≡ local → IsAttribute written scope full local
attribute_is written scope w name full local read plain same is last =
    let found : attribute_name scope w ≡ Some full = same ∙ is in
    record { parts = w; read = read; plain = plain; found = found; last = attribute_local scope w full found ∙ last }

-- the line of an attribute of which this is the name
pub attribute_known : (c : Context) (seen : List Expanded) (written value : List ℕ) (full : Name) (local : List ℕ) → c.tag ≡ Some seen
    → IsAttribute written (scope_of c.around) full local → attribute_step c written value ≡ named_step c seen value full
unfolding attribute_step plain_step
attribute_known c seen written value full local tag is =
    ap (λ t. needs t bad_line (λ seen. needs (qname_of written) bad_name (λ w. written_step c seen value w (declared_prefix w)))) tag
    ∙ ap (λ o. needs o bad_name (λ w. written_step c seen value w (declared_prefix w))) is.read
    ∙ ap (written_step c seen value is.parts) is.plain
    ∙ ap (λ o. needs o unbound_prefix (named_step c seen value)) is.found

-- so a line that was taken as that of this name was taken as what is written
pub step_known : (r : Result (Unit {0}) BuildFault) (s t : State) (seen : List Expanded) (written value : List ℕ) (full : Name) (local : List ℕ)
    → s.tag ≡ Some seen → IsAttribute written (scope_of s.around) full local → Steps r (taken s (named_step (context s) seen value full)) t
    → Steps r (taken s (attribute_step (context s) written value)) t
step_known r s t seen written value full local tag is h =
    subst (λ (x : Step). Steps r (taken s x) t) (sym (attribute_known (context s) seen written value full local tag is)) h

-- the root has no name
pub root_unnamed : (rs : List Record) (root : ℕ) → IsTree rs → root ≡ 0 → (at rs root).name ≡ None
root_unnamed rs root t is = ap (λ n. (at rs n).name) is ∙ ap (λ (r : Record). r.name) t.first

-- a node of a kind that bears no name
pub bears_none : (kind : Kind) (name : Option Name) (text : List ℕ) → bears_name kind ≡ false → name ≡ None → CanBear kind name text
bears_none kind name text none is = record {
  named = ap is_some is ∙ sym none;
  spelled = λ local. absurd (no_local kind none local);
  plain = λ element. absurd (no_element kind none element);
}
  where
    no_local : (kind : Kind) → bears_name kind ≡ false → has_local_name kind ≡ true → ⊥
    no_local Root a b = absurd (cc)
    no_local Element a b = absurd (cc)
    no_local Attribute a b = absurd (cc)
    no_local Space a b = absurd (cc)
    no_local Text a b = absurd (cc)
    no_local Comment a b = absurd (cc)
    no_local Pi a b = absurd (cc)

    no_element : (kind : Kind) → bears_name kind ≡ false → kind ≡ Element → ⊥
    no_element kind a b = absurd (cc (ap bears_name b))
