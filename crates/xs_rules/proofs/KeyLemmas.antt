-- A rule that matches a node is in the list of its name or of its kind; and where it is certain and in one of them, it matches the node.
use Rattle.std.proofs.Common.{◌≡◌, ℕ, ◌<◌, ◌==◌, ◌&&◌, Bool, true, false, cond, List, [], ◌∷◌, length, reverse}
use Rattle.std.proofs.Common.{Option, Some, None, is_none, refl, sym, ap, subst, ◌∙◌}
use Rattle.std.proofs.Common.{◌⊎◌, inl, inr}
use Rattle.std.proofs.lemmas.Bool.{and_from, and_parts, cases_Bool, eqb-true, true≢false}
use Rattle.std.proofs.lemmas.Slice.Eq.{bytes_eq-Decides}
use Rattle.std.specs.Option.{option_map_or}
use Rattle.std.specs.Str.{bytes_eq}
use Rattle.xs_tree.specs.declared.axes.Axis.{Axis}
use Rattle.xs_tree.specs.declared.axes.Axis.TheVariants.{Child, Attribute as AttributeAxis}
use Rattle.xs_tree.specs.declared.kinds.Kind.{Kind}
use Rattle.xs_tree.specs.declared.kinds.Kind.TheVariants as kind
use Rattle.xs_tree.specs.Kinds.{is_attribute_kind, is_child_kind, is_element_kind}
use Rattle.xs_tree.specs.Record.{Record, at, name_local, name_uri}
use Rattle.xs_tree.specs.Shape.{IsTree}
use Rattle.xs_tree.proofs.RootLemmas.{no_parent-root}
use Rattle.xs_value.specs.Tables.{Table}
use Rattle.xs_xpath.specs.declared.name.NodeTest.{NodeTest}
use Rattle.xs_xpath.specs.declared.name.NodeTest.TheVariants.{Any, Uri, Name, Node, Text, Comment, Pi, Target}
use Rattle.xs_xpath.specs.Tree.{Tree, Trees, here, root, step, no_trees, first_tree}
use Rattle.xs_eval_spec.specs.Context.{Context}
use Rattle.xs_eval_spec.specs.Evaluation.{runs_of_trees}
use Rattle.xs_eval_spec.specs.Paths.{is_named, is_pi_kind, is_principal, passes as passes_test}
use Rattle.xs_pattern_spec.specs.Matching.{ends_path, matches_path, pattern_context, placed_at, selected, start_of, step_nodes, steps_of}
use Rattle.xs_pattern_spec.specs.Predicates.{is_among}
use Rattle.xs_pattern.specs.steps.Climb.{stands_on}
use Rattle.xs_pattern.proofs.ClimbLemmas.{ends-no_parent, ends-parent, ends-start}
use Rattle.xs_pattern.proofs.StartLemmas.{here-among, root-among}
use Rattle.xs_pattern.proofs.StepLemmas.{passes-lone, passes-not, stands-not}
use Rattle.xs_rules.specs.Ranks.{is_here, lone_step}
use Rattle.xs_rules.specs.Rules.{Candidate, takes}
use Rattle.xs_rules.specs.steps.Index.{Key, has_key, is_key, is_unnamed, key, kind_key, node_key, path_key, test_key}
use Rattle.xs_rules.specs.steps.Index.{is_named as is_named_by}
use Rattle.xs_rules.specs.steps.Kinds.{axis_allows, is_certain, is_decided, path_allows, start_allows, test_allows}

-- ---- keys

bytes-true : (xs ys : List ℕ) → bytes_eq xs ys ≡ true → xs ≡ ys
bytes-true xs ys e = (bytes_eq-Decides xs ys).0 e

bytes-turned : (xs ys : List ℕ) → bytes_eq xs ys ≡ true → bytes_eq ys xs ≡ true
bytes-turned xs ys e = (bytes_eq-Decides ys xs).1 (sym (bytes-true xs ys e))

-- the parts of equal keys
record AreEqual (q k : Key) : Type 0 where
  modes : (q.mode == k.mode) ≡ true
  kinds : (q.kind == k.kind) ≡ true
  uris : bytes_eq q.uri k.uri ≡ true
  locals : bytes_eq q.local k.local ≡ true

parts : (q k : Key) → is_key q k ≡ true → AreEqual q k
parts q k e =
    let a = and_parts (q.mode == k.mode && q.kind == k.kind && bytes_eq q.uri k.uri) (bytes_eq q.local k.local) e in
    let b = and_parts (q.mode == k.mode && q.kind == k.kind) (bytes_eq q.uri k.uri) a.0 in
    let c = and_parts (q.mode == k.mode) (q.kind == k.kind) b.0 in
    record { modes = c.0; kinds = c.1; uris = b.1; locals = a.1 }

pub key-same : (q k : Key) → is_key q k ≡ true → q ≡ k
key-same q k e =
    let p : AreEqual q k = parts q k e in
    ap (λ x. key x q.kind q.uri q.local) (eqb-true q.mode k.mode p.modes)
    ∙ ap (λ x. key k.mode x q.uri q.local) (eqb-true q.kind k.kind p.kinds)
    ∙ ap (λ x. key k.mode k.kind x q.local) (bytes-true q.uri k.uri p.uris)
    ∙ ap (λ x. key k.mode k.kind k.uri x) (bytes-true q.local k.local p.locals)

-- whether the key of a node is that of a rule
abbrev owns : Key → Option Key → Bool
owns k o = option_map_or (λ q. is_key k q) o false

abbrev owned : Option Key → Option Key → Bool
owned o k = option_map_or (λ q. has_key q k) o false

never : (o : Option Key) → owned o None ≡ true → ⊥
never None e = true≢false (sym e)
never (Some q) e = true≢false (sym e)

key-is : (m n : ℕ) (u v x y : List ℕ) (number : ℕ) → (m == n) ≡ true → (number == number) ≡ true → bytes_eq u v ≡ true → bytes_eq x y ≡ true
    → is_key (key m number v y) (key n number u x) ≡ true
key-is m n u v x y number e f p q =
    and_from (m == n && number == number && bytes_eq v u) (bytes_eq y x)
    (and_from (m == n && number == number) (bytes_eq v u) (and_from (m == n) (number == number) e f) (bytes-turned u v p)) (bytes-turned x y q)

element-owned : (k : Kind) (m mode : ℕ) (uri local u l : List ℕ) → is_element_kind k ≡ true → (m == mode) ≡ true → bytes_eq u uri ≡ true
    → bytes_eq l local ≡ true → owns (key m 1 uri local) (kind_key mode k u l) ≡ true
element-owned kind.Element m mode uri local u l e f p q = key-is m mode u uri l local 1 f refl p q
element-owned kind.Root m mode uri local u l e f p q = absurd (true≢false (sym e))
element-owned kind.Attribute m mode uri local u l e f p q = absurd (true≢false (sym e))
element-owned kind.Space m mode uri local u l e f p q = absurd (true≢false (sym e))
element-owned kind.Text m mode uri local u l e f p q = absurd (true≢false (sym e))
element-owned kind.Comment m mode uri local u l e f p q = absurd (true≢false (sym e))
element-owned kind.Pi m mode uri local u l e f p q = absurd (true≢false (sym e))

attribute-owned : (k : Kind) (m mode : ℕ) (uri local u l : List ℕ) → is_attribute_kind k ≡ true → (m == mode) ≡ true → bytes_eq u uri ≡ true
    → bytes_eq l local ≡ true → owns (key m 2 uri local) (kind_key mode k u l) ≡ true
attribute-owned kind.Attribute m mode uri local u l e f p q = key-is m mode u uri l local 2 f refl p q
attribute-owned kind.Root m mode uri local u l e f p q = absurd (true≢false (sym e))
attribute-owned kind.Element m mode uri local u l e f p q = absurd (true≢false (sym e))
attribute-owned kind.Space m mode uri local u l e f p q = absurd (true≢false (sym e))
attribute-owned kind.Text m mode uri local u l e f p q = absurd (true≢false (sym e))
attribute-owned kind.Comment m mode uri local u l e f p q = absurd (true≢false (sym e))
attribute-owned kind.Pi m mode uri local u l e f p q = absurd (true≢false (sym e))

pi-owned : (k : Kind) (m mode : ℕ) (target u l : List ℕ) → is_pi_kind k ≡ true → (m == mode) ≡ true → bytes_eq l target ≡ true
    → owns (key m 3 [] target) (kind_key mode k u l) ≡ true
pi-owned kind.Pi m mode target u l e f q = key-is m mode [] [] l target 3 f refl refl q
pi-owned kind.Root m mode target u l e f q = absurd (true≢false (sym e))
pi-owned kind.Element m mode target u l e f q = absurd (true≢false (sym e))
pi-owned kind.Attribute m mode target u l e f q = absurd (true≢false (sym e))
pi-owned kind.Space m mode target u l e f q = absurd (true≢false (sym e))
pi-owned kind.Text m mode target u l e f q = absurd (true≢false (sym e))
pi-owned kind.Comment m mode target u l e f q = absurd (true≢false (sym e))

-- a node that has the key of a name
record IsOwned (m mode : ℕ) (is_kind : Bool) (uri local u l : List ℕ) : Type 0 where
  mode_is : (m == mode) ≡ true
  kind_is : is_kind ≡ true
  uri_is : bytes_eq u uri ≡ true
  local_is : bytes_eq l local ≡ true

owned-is : (m mode number : ℕ) (is_kind : Bool) (uri local u l : List ℕ) → is_kind ≡ true → is_key (key m number uri local) (key mode number u l) ≡ true
    → IsOwned m mode is_kind uri local u l
owned-is m mode number is_kind uri local u l k e =
    let p : AreEqual (key m number uri local) (key mode number u l) = parts (key m number uri local) (key mode number u l) e in
    record { mode_is = p.modes; kind_is = k; uri_is = bytes-turned uri u p.uris; local_is = bytes-turned local l p.locals }

other-kind : (m mode i j : ℕ) (uri local u l : List ℕ) → (i == j) ≡ false → is_key (key m i uri local) (key mode j u l) ≡ true → ⊥
other-kind m mode i j uri local u l f e = true≢false (sym (parts (key m i uri local) (key mode j u l) e).kinds ∙ f)

owned-element : (k : Kind) (m mode : ℕ) (uri local u l : List ℕ) → owns (key m 1 uri local) (kind_key mode k u l) ≡ true
    → IsOwned m mode (is_element_kind k) uri local u l
owned-element kind.Element m mode uri local u l e = owned-is m mode 1 true uri local u l refl e
owned-element kind.Attribute m mode uri local u l e = absurd (other-kind m mode 1 2 uri local u l refl e)
owned-element kind.Pi m mode uri local u l e = absurd (other-kind m mode 1 3 uri local [] l refl e)
owned-element kind.Root m mode uri local u l e = absurd (true≢false (sym e))
owned-element kind.Space m mode uri local u l e = absurd (true≢false (sym e))
owned-element kind.Text m mode uri local u l e = absurd (true≢false (sym e))
owned-element kind.Comment m mode uri local u l e = absurd (true≢false (sym e))

owned-attribute : (k : Kind) (m mode : ℕ) (uri local u l : List ℕ) → owns (key m 2 uri local) (kind_key mode k u l) ≡ true
    → IsOwned m mode (is_attribute_kind k) uri local u l
owned-attribute kind.Attribute m mode uri local u l e = owned-is m mode 2 true uri local u l refl e
owned-attribute kind.Element m mode uri local u l e = absurd (other-kind m mode 2 1 uri local u l refl e)
owned-attribute kind.Pi m mode uri local u l e = absurd (other-kind m mode 2 3 uri local [] l refl e)
owned-attribute kind.Root m mode uri local u l e = absurd (true≢false (sym e))
owned-attribute kind.Space m mode uri local u l e = absurd (true≢false (sym e))
owned-attribute kind.Text m mode uri local u l e = absurd (true≢false (sym e))
owned-attribute kind.Comment m mode uri local u l e = absurd (true≢false (sym e))

-- ---- a rule's lists, by the last step of its path, or by where it begins

-- it is in the list of the node's key, or has no key, and is in that of the node's kind
abbrev IsListed : (m mode : ℕ) → Record → Option Key → (allows : Bool) → Type 0
IsListed m mode r k allows = (owned (node_key mode r) k ≡ true) ⊎ ((is_none k && m == mode && allows) ≡ true)

unnamed : (m mode : ℕ) (r : Record) (allows : Bool) → (m == mode) ≡ true → allows ≡ true → IsListed m mode r None allows
unnamed m mode r allows e a = inr (and_from (m == mode) allows e a)

-- the node stands on the axis of the last step, and passes its test
record IsPassed (axis : Axis) (which : NodeTest) (r : Record) : Type 0 where
  stands : stands_on axis r.kind ≡ true
  passes : passes_test axis which r ≡ true

step-passed : (keys : List Table) (c : Context) (start : Tree) (axis : Axis) (which : NodeTest) (es : Trees) (before : List Tree) (n : ℕ) → n < length c.tree
    → ends_path keys c start (step axis which es ∷ before) n ≡ true → IsPassed axis which (at c.tree n)
step-passed keys c start axis which es before n h e = by_parent (at c.tree n).parent refl
  where
    by_tests : (p : ℕ) → (at c.tree n).parent ≡ Some p → is_among n (step_nodes axis which (runs_of_trees keys es) (placed_at c p)) ≡ true
        → (stands_on axis (at c.tree n).kind ≡ true) ⊎ (stands_on axis (at c.tree n).kind ≡ false)
        → (passes_test axis which (at c.tree n) ≡ true) ⊎ (passes_test axis which (at c.tree n) ≡ false) → IsPassed axis which (at c.tree n)
    by_tests p q among (inl s) (inl t) = record { stands = s; passes = t }
    by_tests p q among (inl s) (inr f) = absurd (true≢false (sym among ∙ passes-not axis which (runs_of_trees keys es) c p n h q f))
    by_tests p q among (inr f) t = absurd (true≢false (sym among ∙ stands-not axis which (runs_of_trees keys es) c p n h q f))

    by_parent : (o : Option ℕ) → (at c.tree n).parent ≡ o → IsPassed axis which (at c.tree n)
    by_parent None q = absurd (true≢false (sym e ∙ ends-no_parent keys c start (step axis which es) before n refl q))
    by_parent (Some p) q =
        let b : Bool = is_among n (selected keys (step axis which es) (placed_at c p)) in
        let both : (b && ends_path keys c start before p) ≡ true =
        sym (ends-parent keys c start (step axis which es) before n p b refl q refl) ∙ e in
        by_tests p q (and_parts b (ends_path keys c start before p) both).0 (cases_Bool (stands_on axis (at c.tree n).kind))
        (cases_Bool (passes_test axis which (at c.tree n)))

test-allowed : (axis : Axis) (which : NodeTest) (r : Record) → passes_test axis which r ≡ true → test_allows (is_principal axis r.kind) which r.kind ≡ true
test-allowed axis Any r t = t
test-allowed axis (Uri uri) r t = (and_parts (is_principal axis r.kind) (bytes_eq (name_uri r) uri) t).0
test-allowed axis (Name uri local) r t = (and_parts (is_principal axis r.kind) (is_named uri local r) t).0
test-allowed axis Node r t = refl
test-allowed axis Text r t = t
test-allowed axis Comment r t = t
test-allowed axis Pi r t = t
test-allowed axis (Target target) r t = (and_parts (is_pi_kind r.kind) (bytes_eq (name_local r) target) t).0

axis-allowed : (axis : Axis) (which : NodeTest) (r : Record) → IsPassed axis which r → axis_allows axis which r.kind ≡ true
axis-allowed Child which r p = and_from (is_child_kind r.kind) (test_allows (is_element_kind r.kind) which r.kind) p.stands
    (test-allowed Child which r p.passes)
axis-allowed AttributeAxis which r p =
    and_from (is_attribute_kind r.kind) (test_allows (is_attribute_kind r.kind) which r.kind) p.stands (test-allowed AttributeAxis which r p.passes)
axis-allowed _ which r p = absurd (true≢false (sym p.stands))

name-listed : (m mode : ℕ) (axis : Axis) (uri local : List ℕ) (r : Record) → (m == mode) ≡ true → IsPassed axis (Name uri local) r
    → IsListed m mode r (test_key m axis (Name uri local)) (axis_allows axis (Name uri local) r.kind)
name-listed m mode Child uri local r e p =
    let a = and_parts (is_element_kind r.kind) (is_named uri local r) p.passes in
    let b = and_parts (bytes_eq (name_uri r) uri) (bytes_eq (name_local r) local) a.1 in
    inl (element-owned r.kind m mode uri local (name_uri r) (name_local r) a.0 e b.0 b.1)
name-listed m mode AttributeAxis uri local r e p =
    let a = and_parts (is_attribute_kind r.kind) (is_named uri local r) p.passes in
    let b = and_parts (bytes_eq (name_uri r) uri) (bytes_eq (name_local r) local) a.1 in
    inl (attribute-owned r.kind m mode uri local (name_uri r) (name_local r) a.0 e b.0 b.1)
name-listed m mode _ uri local r e p = absurd (true≢false (sym p.stands))

step-listed : (m mode : ℕ) (axis : Axis) (which : NodeTest) (r : Record) → (m == mode) ≡ true → IsPassed axis which r
    → IsListed m mode r (test_key m axis which) (axis_allows axis which r.kind)
step-listed m mode axis (Name uri local) r e p = name-listed m mode axis uri local r e p
step-listed m mode axis (Target target) r e p =
    let a = and_parts (is_pi_kind r.kind) (bytes_eq (name_local r) target) p.passes in
    inl (pi-owned r.kind m mode target (name_uri r) (name_local r) a.0 e a.1)
step-listed m mode axis Any r e p = unnamed m mode r (axis_allows axis Any r.kind) e (axis-allowed axis Any r p)
step-listed m mode axis (Uri uri) r e p = unnamed m mode r (axis_allows axis (Uri uri) r.kind) e (axis-allowed axis (Uri uri) r p)
step-listed m mode axis Node r e p = unnamed m mode r (axis_allows axis Node r.kind) e (axis-allowed axis Node r p)
step-listed m mode axis Text r e p = unnamed m mode r (axis_allows axis Text r.kind) e (axis-allowed axis Text r p)
step-listed m mode axis Comment r e p = unnamed m mode r (axis_allows axis Comment r.kind) e (axis-allowed axis Comment r p)
step-listed m mode axis Pi r e p = unnamed m mode r (axis_allows axis Pi r.kind) e (axis-allowed axis Pi r p)

start-allowed : (keys : List Table) (c : Context) (start : Tree) (n : ℕ) → IsTree c.tree → ends_path keys c start [] n ≡ true
    → start_allows start (at c.tree n).kind ≡ true
unfolding ends_path
start-allowed keys c root n t e = sym (root-among c.tree n t) ∙ e
start-allowed keys c _ n t e = refl

path-listed : (keys : List Table) (c : Context) (start : Tree) (steps : List Tree) (m mode n : ℕ) → IsTree c.tree → n < length c.tree → (m == mode) ≡ true
    → ends_path keys c start steps n ≡ true → IsListed m mode (at c.tree n) (path_key m steps) (path_allows start steps (at c.tree n).kind)
path-listed keys c start [] m mode n t h e ends =
    unnamed m mode (at c.tree n) (start_allows start (at c.tree n).kind) e (start-allowed keys c start n t ends)
path-listed keys c start (step axis which es ∷ before) m mode n t h e ends =
    step-listed m mode axis which (at c.tree n) e (step-passed keys c start axis which es before n h ends)
path-listed keys c start (_ ∷ before) m mode n t h e ends = unnamed m mode (at c.tree n) true e refl

-- ---- a rule that takes a node

-- the lists of a node
abbrev pub named_for : (mode : ℕ) → Record → Candidate → Bool
named_for mode r c = option_map_or (λ q. is_named_by q c) (node_key mode r) false

pub taking-listed : (keys : List Table) (rs : List Record) (mode n : ℕ) (c : Candidate) → IsTree rs → n < length rs → takes keys rs mode n c ≡ true
    → (named_for mode (at rs n) c ≡ true) ⊎ (is_unnamed mode (at rs n).kind c ≡ true)
unfolding matches_path
taking-listed keys rs mode n c t h e =
    let q = and_parts (c.mode == mode) (matches_path keys (pattern_context rs c.scope n) c.alternative) e in
    path-listed keys (pattern_context rs c.scope n) (start_of c.alternative) (reverse (steps_of c.alternative)) c.mode mode n t h q.0 q.1

-- ---- a rule that is certain

record IsTaken (m mode : ℕ) (axis : Axis) (which : NodeTest) (r : Record) : Type 0 where
  mode_is : (m == mode) ≡ true
  passed : IsPassed axis which r

axis-stands : (axis : Axis) (which : NodeTest) (k : Kind) → axis_allows axis which k ≡ true
    → (stands_on axis k ≡ true) × (test_allows (is_principal axis k) which k ≡ true)
axis-stands Child which k e = and_parts (is_child_kind k) (test_allows (is_element_kind k) which k) e
axis-stands AttributeAxis which k e = and_parts (is_attribute_kind k) (test_allows (is_attribute_kind k) which k) e
axis-stands _ which k e = absurd (true≢false (sym e))

element-child : (k : Kind) → is_element_kind k ≡ true → is_child_kind k ≡ true
element-child kind.Element e = refl
element-child kind.Root e = absurd (true≢false (sym e))
element-child kind.Attribute e = absurd (true≢false (sym e))
element-child kind.Space e = absurd (true≢false (sym e))
element-child kind.Text e = refl
element-child kind.Comment e = refl
element-child kind.Pi e = refl

named-taken : (m mode : ℕ) (axis : Axis) (uri local : List ℕ) (r : Record) → owned (node_key mode r) (test_key m axis (Name uri local)) ≡ true
    → IsTaken m mode axis (Name uri local) r
named-taken m mode Child uri local r e =
    let o : IsOwned m mode (is_element_kind r.kind) uri local (name_uri r) (name_local r) =
    owned-element r.kind m mode uri local (name_uri r) (name_local r) e in
    record {
      mode_is = o.mode_is;
      passed = record {
        stands = element-child r.kind o.kind_is;
        passes =
            and_from (is_element_kind r.kind) (is_named uri local r) o.kind_is
            (and_from (bytes_eq (name_uri r) uri) (bytes_eq (name_local r) local) o.uri_is o.local_is);
      };
    }
named-taken m mode AttributeAxis uri local r e =
    let o : IsOwned m mode (is_attribute_kind r.kind) uri local (name_uri r) (name_local r) =
    owned-attribute r.kind m mode uri local (name_uri r) (name_local r) e in
    record {
      mode_is = o.mode_is;
      passed = record {
        stands = o.kind_is;
        passes =
            and_from (is_attribute_kind r.kind) (is_named uri local r) o.kind_is
            (and_from (bytes_eq (name_uri r) uri) (bytes_eq (name_local r) local) o.uri_is o.local_is);
      };
    }
named-taken m mode _ uri local r e = absurd (never (node_key mode r) e)

-- a test that asks for no name
kind-taken : (m mode : ℕ) (axis : Axis) (which : NodeTest) (r : Record)
    → (test_allows (is_principal axis r.kind) which r.kind ≡ true → passes_test axis which r ≡ true)
    → IsListed m mode r None (axis_allows axis which r.kind) → IsTaken m mode axis which r
kind-taken m mode axis which r passes (inl e) = absurd (never (node_key mode r) e)
kind-taken m mode axis which r passes (inr e) =
    let a = and_parts (m == mode) (axis_allows axis which r.kind) e in
    let b = axis-stands axis which r.kind a.1 in
    record { mode_is = a.0; passed = record { stands = b.0; passes = passes b.1 } }

-- a name on an axis that has no key
name-unnamed : (m mode : ℕ) (axis : Axis) (uri local : List ℕ) (r : Record)
    → (is_none (test_key m axis (Name uri local)) && m == mode && axis_allows axis (Name uri local) r.kind) ≡ true → IsTaken m mode axis (Name uri local) r
name-unnamed m mode Child uri local r e = absurd (true≢false (sym e))
name-unnamed m mode AttributeAxis uri local r e = absurd (true≢false (sym e))
name-unnamed m mode _ uri local r e = absurd (true≢false (sym (and_parts (m == mode) false e).1))

step-taken : (m mode : ℕ) (axis : Axis) (which : NodeTest) (r : Record) → is_decided which ≡ true
    → IsListed m mode r (test_key m axis which) (axis_allows axis which r.kind) → IsTaken m mode axis which r
step-taken m mode axis (Name uri local) r d l = elim l [ inl e ↦ named-taken m mode axis uri local r e | inr e ↦ name-unnamed m mode axis uri local r e ]
step-taken m mode axis (Target target) r d l = absurd (true≢false (sym d))
step-taken m mode axis (Uri uri) r d l = absurd (true≢false (sym d))
step-taken m mode axis Any r d l = kind-taken m mode axis Any r (λ q. q) l
step-taken m mode axis Node r d l = kind-taken m mode axis Node r (λ q. q) l
step-taken m mode axis Text r d l = kind-taken m mode axis Text r (λ q. q) l
step-taken m mode axis Comment r d l = kind-taken m mode axis Comment r (λ q. q) l
step-taken m mode axis Pi r d l = kind-taken m mode axis Pi r (λ q. q) l

-- no root stands on an axis of a pattern
root-stands : (axis : Axis) → stands_on axis kind.Root ≡ false
root-stands Child = refl
root-stands AttributeAxis = refl
root-stands _ = refl

ends-lone : (keys : List Table) (c : Context) (axis : Axis) (which : NodeTest) (n : ℕ) → IsTree c.tree → n < length c.tree → IsPassed axis which (at c.tree n)
    → ends_path keys c here (step axis which no_trees ∷ []) n ≡ true
ends-lone keys c axis which n t h p = by_parent (at c.tree n).parent refl
  where
    by_parent : (o : Option ℕ) → (at c.tree n).parent ≡ o → ends_path keys c here (step axis which no_trees ∷ []) n ≡ true
    by_parent None q =
        absurd (true≢false (sym p.stands ∙ ap (stands_on axis) (no_parent-root c.tree n t h q) ∙ root-stands axis))
    by_parent (Some k) q =
        ends-parent keys c here (step axis which no_trees) [] n k true refl q (sym (passes-lone axis which c k n h q p.stands p.passes))
        ∙ ends-start keys c here k
        ∙ here-among k

-- the step that an alternative is
record IsLone (start : Tree) (steps : List Tree) : Type 0 where
  axis : Axis
  which : NodeTest
  start_is : start ≡ here
  steps_are : steps ≡ step axis which no_trees ∷ []
  decided : is_decided which ≡ true

lone-by : (start : Tree) (steps : List Tree) → option_map_or is_decided (cond (is_here start) (lone_step steps) None) false ≡ true → IsLone start steps
lone-by here (step axis which no_trees ∷ []) e = record { axis = axis; which = which; start_is = refl; steps_are = refl; decided = e }
lone-by here (step axis which (first_tree x xs) ∷ []) e = absurd (true≢false (sym e))
lone-by here (_ ∷ []) e = absurd (true≢false (sym e))
lone-by here [] e = absurd (true≢false (sym e))
lone-by here (s ∷ s2 ∷ more) e = absurd (true≢false (sym e))
lone-by _ steps e = absurd (true≢false (sym e))

lone-taken : (keys : List Table) (c : Context) (start : Tree) (steps : List Tree) (m mode n : ℕ) → IsTree c.tree → n < length c.tree → IsLone start steps
    → IsListed m mode (at c.tree n) (path_key m (reverse steps)) (path_allows start (reverse steps) (at c.tree n).kind)
    → (m == mode && ends_path keys c start (reverse steps) n) ≡ true
lone-taken keys c start steps m mode n t h lone l =
    let r : Record = at c.tree n in
    let s : List Tree = step lone.axis lone.which no_trees ∷ [] in
    let own : IsListed m mode r (path_key m s) (path_allows start s r.kind) =
    subst (λ (xs : List Tree). IsListed m mode r (path_key m (reverse xs)) (path_allows start (reverse xs) r.kind)) lone.steps_are l in
    let taken : IsTaken m mode lone.axis lone.which r = step-taken m mode lone.axis lone.which r lone.decided own in
    let ends : ends_path keys c start (reverse steps) n ≡ true =
    ap (λ x. ends_path keys c x (reverse steps) n) lone.start_is ∙ ap (λ xs. ends_path keys c here (reverse xs) n) lone.steps_are
    ∙ ends-lone keys c lone.axis lone.which n t h taken.passed in
    and_from (m == mode) (ends_path keys c start (reverse steps) n) taken.mode_is ends

pub certain-taken : (keys : List Table) (rs : List Record) (mode n : ℕ) (c : Candidate) → IsTree rs → n < length rs → is_certain c.alternative ≡ true
    → (named_for mode (at rs n) c ≡ true) ⊎ (is_unnamed mode (at rs n).kind c ≡ true) → takes keys rs mode n c ≡ true
unfolding matches_path
certain-taken keys rs mode n c t h e l =
    lone-taken keys (pattern_context rs c.scope n) (start_of c.alternative) (steps_of c.alternative) c.mode mode n t h
    (lone-by (start_of c.alternative) (steps_of c.alternative) e) l
