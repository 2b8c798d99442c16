-- What holds of each node by the one just before it, and what the nodes of a line leave of it.
use Rattle.std.proofs.Common.{◌≡◌, ℕ, ◌+◌, ◌<◌, ◌≤◌, List, [], ◌∷◌, ◌++◌, Option, None, Some, Bool, true, false, refl, sym, ◌∙◌, ap, subst}
use Rattle.std.proofs.Common.{length, arith}
use Rattle.std.specs.Prelude.{not, ◌&&◌, ◌||◌, ◌==◌, nat_le, cond, if◌then◌else◌}
use Rattle.std.specs.List.{count_by}
use Rattle.std.proofs.lemmas.Bool.Decides.{nat_tests}
use Rattle.std.proofs.lemmas.List.Sums.{sum_by-cons, sum_by-append}
use Rattle.xs_tree.specs.Kinds.{is_text_kind, is_root_kind}
use Rattle.xs_tree.specs.Record.{Record, is_place}
use Rattle.xs_tree.specs.declared.names.Name.{Name}
use Rattle.xs_build.specs.declared.opened.Opened.{Opened}
use Rattle.xs_build.specs.Faults.{too_large}
use Rattle.xs_tree.specs.Limits.{most_nodes}
use Rattle.xs_build.specs.Namespaces.{Bindings, is_empty}
use Rattle.xs_build.specs.Nodes.{element, space, spaces, text_node}
use Rattle.xs_build.specs.steps.Lines.{Context, innermost, Step, bad, gives, rule, needs, adds, past}
use Rattle.xs_tree.specs.Kinds.{is_element_kind}

-- a count of one more, and of two lists
pub count_cons : {X : Type 0} (p : X → Bool) (x : X) (xs : List X) → count_by p (x ∷ xs) ≡ cond (p x) 1 0 + count_by p xs
count_cons p x xs = sum_by-cons (λ y. cond (p y) 1 0) x xs

pub count_append : {X : Type 0} (p : X → Bool) (xs ys : List X) → count_by p (xs ++ ys) ≡ count_by p xs + count_by p ys
count_append p xs ys = sum_by-append (λ y. cond (p y) 1 0) xs ys

-- a child of the root that is an element, and one that is a text
abbrev pub is_top : Record → Bool
is_top r = is_element_kind r.kind && is_place 0 r.parent

abbrev pub is_top_text : Record → Bool
is_top_text r = is_text_kind r.kind && is_place 0 r.parent

-- what holds of a node by the one just before it
pub record Follows (r s : Record) : Type 0 where
  pub under : is_root_kind s.kind ≡ false
  pub deep : is_top_text s ≡ false
  pub full : (is_text_kind s.kind && is_empty s.text) ≡ false
  pub apart : is_text_kind r.kind ≡ true → s.parent ≡ r.parent → is_text_kind s.kind ≡ false

abbrev pub Chain : Record → List Record → Type 0
Chain r [] = Unit {0}
Chain r (s ∷ ss) = Follows r s × Chain s ss

abbrev pub last_of : Record → List Record → Record
last_of r [] = r
last_of r (s ∷ ss) = last_of s ss

pub chain_append : (r : Record) (ss ts : List Record) → Chain r ss → Chain (last_of r ss) ts → Chain r (ss ++ ts)
chain_append r [] ts c d = d
chain_append r (s ∷ ss) ts c d = (c.0, chain_append s ss ts c.1 d)

-- the open elements stand one before another, all of them behind the root
abbrev pub Falls : ℕ → List Opened → Type 0
Falls n [] = 0 < n
Falls n (o ∷ os) = (o.node < n) × Falls o.node os

pub falls_more : (n m : ℕ) (os : List Opened) → n ≤ m → Falls n os → Falls m os
falls_more n m [] h f = omega arith
falls_more n m (o ∷ os) h f = (omega (arith, f.0), f.1)

pub falls_some : (n : ℕ) (os : List Opened) → Falls n os → 0 < n
falls_some n [] f = f
falls_some n (o ∷ os) f = omega (arith, f.0)

pub falls_within : (n : ℕ) (os : List Opened) → Falls n os → innermost os < n
falls_within n [] f = f
falls_within n (o ∷ os) f = f.0

pub falls_inside : (n : ℕ) (os : List Opened) → is_empty os ≡ false → Falls n os → 0 < innermost os
falls_inside n [] h f = cc
falls_inside n (o ∷ os) h f = falls_some o.node os f.1

-- a text node just before stands in the innermost open element, where text goes on with it, or further inside
pub record Under (p : ℕ) (os : List Opened) (in_text : Bool) : Type 0 where
  pub some : 0 < p
  pub within : innermost os ≤ p
  pub goes_on : p ≡ innermost os → in_text ≡ true

pub record Stands (line : ℕ) (r : Record) (c : Context) : Type 0 where
  pub some : 0 < line
  pub first : line ≡ 1 → is_text_kind r.kind ≡ false
  pub falls : Falls c.nodes c.around
  pub begun : c.begun ≡ false → c.around ≡ []
  pub text : is_text_kind r.kind ≡ true → (p : ℕ) → r.parent ≡ Some p → Under p c.around c.in_text

-- how many top elements are to come
abbrev pub tops_left : Bool → ℕ
tops_left true = 0
tops_left false = 1

pub record Keeps (line : ℕ) (r : Record) (begun : Bool) (nodes : List Record) (d : Context) : Type 0 where
  pub chain : Chain r nodes
  pub tops : count_by is_top nodes + tops_left d.begun ≡ tops_left begun
  pub stands : Stands (line + 1) (last_of r nodes) d

abbrev pub Good : ℕ → Record → Bool → Step → Type 0
Good line r begun (bad number) = Unit {0}
Good line r begun (gives nodes d) = Keeps line r begun nodes d

-- the combinators
pub good_rule : (line : ℕ) (r : Record) (begun b : Bool) (number : ℕ) (step : Step) → (b ≡ true → Good line r begun step)
    → Good line r begun (rule b number step)
good_rule line r begun true number step g = g refl
good_rule line r begun false number step g = tt

pub good_needs : {X : Type 0} (line : ℕ) (r : Record) (begun : Bool) (o : Option X) (number : ℕ) (next : X → Step) → ((x : X) → Good line r begun (next x))
    → Good line r begun (needs o number next)
good_needs line r begun None number next g = tt
good_needs line r begun (Some x) number next g = g x

pub good_if : (line : ℕ) (r : Record) (begun b : Bool) (x y : Step) → (b ≡ true → Good line r begun x) → (b ≡ false → Good line r begun y)
    → Good line r begun (if b then x else y)
good_if line r begun true x y f g = f refl
good_if line r begun false x y f g = g refl

pub good_adds : (line : ℕ) (r : Record) (c : Context) (nodes : List Record) (d : Context) → Keeps line r c.begun nodes d → Good line r c.begun (adds c nodes d)
good_adds line r c nodes d k = good_rule line r c.begun (nat_le (c.nodes + length nodes) most_nodes) too_large (gives nodes d) (λ _. k)

-- a line that gives nothing
pub none_given : (line : ℕ) (r : Record) (c d : Context) → Stands line r c → d.around ≡ c.around → d.begun ≡ c.begun → d.nodes ≡ c.nodes
    → d.in_text ≡ c.in_text → Keeps line r c.begun [] d
none_given line r c d s os begun nodes in_text = record {
  chain = tt;
  tops = rw begun (omega arith);
  stands = record {
    some = omega arith;
    first = λ e. absurd (omega (arith, s.some));
    falls = rw (os, nodes) s.falls;
    begun = λ e. os ∙ s.begun (sym begun ∙ e);
    text = λ h p e. (rw (os, in_text) (s.text h p e));
  };
}

-- a node that is no element and no text
pub one_given : (line : ℕ) (r s : Record) (c d : Context) → Stands line r c → is_root_kind s.kind ≡ false → is_text_kind s.kind ≡ false
    → is_element_kind s.kind ≡ false →
    d.around ≡ c.around → d.begun ≡ c.begun → d.nodes ≡ c.nodes + 1 → Keeps line r c.begun (s ∷ []) d
one_given line r s c d t not_root no_text no_element os begun nodes = record {
  chain = (record { under = not_root; deep = rw no_text refl; full = rw no_text refl; apart = λ h e. no_text }, tt);
  tops = rw (no_element, begun) (omega arith);
  stands = record {
    some = omega arith;
    first = λ e. no_text;
    falls = rw (os, nodes) (falls_more c.nodes (c.nodes + 1) c.around (omega arith) t.falls);
    begun = λ e. os ∙ t.begun (sym begun ∙ e);
    text = λ h p e. (let no : false ≡ true = sym no_text ∙ h in cc);
  };
}

-- The XML declaration ends a text that goes on, but stands on line 1, before which no text is.
pub declared_given : (line : ℕ) (r : Record) (c : Context) → Stands line r c → line ≡ 1 → Keeps line r c.begun [] (past c c.around 0)
declared_given line r c s is = record {
  chain = tt;
  tops = omega arith;
  stands = record {
    some = omega arith;
    first = λ e. absurd (omega (arith, s.some));
    falls = falls_more c.nodes (c.nodes + 0) c.around (omega arith) s.falls;
    begun = s.begun;
    text = λ h p e. (let no : is_text_kind r.kind ≡ false = s.first is in cc);
  };
}

pub under_left : (p : ℕ) (os : List Opened) (a b : Bool) (o : Opened) (rest : List Opened) → os ≡ o ∷ rest → innermost rest < o.node → Under p os a
    → Under p rest b
under_left p os a b o rest e h u =
    let deep : o.node ≤ p = subst (λ t. innermost t ≤ p) e u.within in
    record { some = u.some; within = omega arith; goes_on = λ is. absurd (omega arith) }

-- the end of an element
pub end_given : (line : ℕ) (r : Record) (c : Context) (o : Opened) (os : List Opened) → Stands line r c → c.around ≡ o ∷ os
    → Keeps line r c.begun [] (past c os 0)
end_given line r c o os s is =
    let f : Falls c.nodes (o ∷ os) = subst (Falls c.nodes) is s.falls in
    let inner : innermost os < o.node = falls_within o.node os f.1 in
    record {
      chain = tt;
      tops = omega arith;
      stands = record {
        some = omega arith;
        first = λ e. absurd (omega (arith, s.some));
        falls = falls_more o.node (c.nodes + 0) os (omega (arith, f.0)) f.1;
        begun = λ e. (let no : c.around ≡ [] = s.begun e in cc);
        text = λ h p e. under_left p c.around c.in_text false o os is inner (s.text h p e);
      };
    }

-- white space outside
pub under_outside : (p : ℕ) (os : List Opened) (a b : Bool) → Under p os a → Under p [] b
under_outside p os a b u = record { some = u.some; within = omega arith; goes_on = λ e. absurd (omega (arith, u.some)) }

pub outer_given : (line : ℕ) (r : Record) (c : Context) → Stands line r c → Keeps line r c.begun [] (past c [] 0)
outer_given line r c s = record {
  chain = tt;
  tops = omega arith;
  stands = record {
    some = omega arith;
    first = λ e. absurd (omega (arith, s.some));
    falls = (let some : 0 < c.nodes = falls_some c.nodes c.around s.falls in omega arith);
    begun = λ e. refl;
    text = λ h p e. under_outside p c.around c.in_text false (s.text h p e);
  };
}

-- a text node
pub some_text : (text ahead : List ℕ) → is_empty text ≡ false → is_empty (text ++ ahead) ≡ false
some_text [] ahead h = cc
some_text (b ∷ text) ahead h = refl

pub no_zero : (n : ℕ) → 0 < n → (n == 0) ≡ false
no_zero n h = grind (arith, nat_tests)

pub text_apart : (r : Record) (os : List Opened) (in_text : Bool) → in_text ≡ false → ((p : ℕ) → r.parent ≡ Some p → Under p os in_text)
    → Some (innermost os) ≡ r.parent → true ≡ false
text_apart r os in_text quiet under e = sym ((under (innermost os) (sym e)).goes_on refl) ∙ quiet

pub text_given : (line : ℕ) (r : Record) (c : Context) (text ahead : List ℕ) → Stands line r c → is_empty c.around ≡ false → c.in_text ≡ false
    → is_empty text ≡ false →
    Keeps line r c.begun (text_node (text ++ ahead) (innermost c.around) ∷ []) (record c { tag = None; in_text = true; nodes = c.nodes + 1 })
text_given line r c text ahead s some quiet full =
    let deep : 0 < innermost c.around = falls_inside c.nodes c.around some s.falls in
    record {
      chain = (
        record {
          under = refl;
          deep = no_zero (innermost c.around) deep;
          full = some_text text ahead full;
          apart = λ h e. text_apart r c.around c.in_text quiet (s.text h) e;
        },
        tt,
      );
      tops = omega arith;
      stands = record {
        some = omega arith;
        first = λ e. absurd (omega (arith, s.some));
        falls = falls_more c.nodes (c.nodes + 1) c.around (omega arith) s.falls;
        begun = s.begun;
        text = λ h p e. (let here : innermost c.around ≡ p = cc in record { some = omega arith; within = omega arith; goes_on = λ _. refl });
      };
    }

-- an element with its namespace nodes
pub spaces_chain : (r : Record) (n : ℕ) (scope : Bindings) → Chain r (spaces n scope)
spaces_chain r n [] = tt
spaces_chain r n (b ∷ scope) = (record { under = refl; deep = refl; full = refl; apart = λ h e. refl }, spaces_chain (space n b) n scope)

pub spaces_last : (r : Record) (n : ℕ) (scope : Bindings) → is_text_kind r.kind ≡ false → is_text_kind (last_of r (spaces n scope)).kind ≡ false
spaces_last r n [] h = h
spaces_last r n (b ∷ scope) h = spaces_last (space n b) n scope refl

pub spaces_tops : (n : ℕ) (scope : Bindings) → count_by is_top (spaces n scope) ≡ 0
spaces_tops n [] = refl
spaces_tops n (b ∷ scope) = spaces_tops n scope

pub element_tops : (full : Name) (p : ℕ) (rest : List Record) → count_by is_top rest ≡ 0 → count_by is_top (element full p ∷ rest) ≡ cond (p == 0) 1 0 + 0
element_tops full p rest h = count_cons is_top (element full p) rest ∙ ap (λ n. cond (p == 0) 1 0 + n) h

pub start_tops : (n : ℕ) (os : List Opened) (begun : Bool) → (not begun || not (is_empty os)) ≡ true → Falls n os → (begun ≡ false → os ≡ [])
    → cond (innermost os == 0) 1 0 + 0 + 0 ≡ tops_left begun
start_tops n [] true h f g = cc
start_tops n [] false h f g = refl
start_tops n (o ∷ os) true h f g = rw (no_zero o.node (falls_some o.node os f.1)) refl
start_tops n (o ∷ os) false h f g = let no : o ∷ os ≡ [] = g refl in cc

pub start_given : (line : ℕ) (r : Record) (c : Context) (full : Name) (name : List ℕ) (scope : Bindings) → Stands line r c
    → (not c.begun || not (is_empty c.around)) ≡ true →
    Keeps line r c.begun (element full (innermost c.around) ∷ spaces c.nodes scope)
    (record {
      around = record { name = name; node = c.nodes; scope = scope } ∷ c.around;
      begun = true;
      tag = Some [];
      in_text = false;
      nodes = c.nodes + 1 + length scope;
    })
start_given line r c full name scope s free =
    let e : Record = element full (innermost c.around) in
    let quiet : is_text_kind (last_of e (spaces c.nodes scope)).kind ≡ false = spaces_last e c.nodes scope refl in
    record {
      chain = (record { under = refl; deep = refl; full = refl; apart = λ h e. refl }, spaces_chain e c.nodes scope);
      tops = ap (λ n. n + 0) (element_tops full (innermost c.around) (spaces c.nodes scope) (spaces_tops c.nodes scope))
          ∙ start_tops c.nodes c.around c.begun free s.falls s.begun;
      stands = record {
        some = omega arith;
        first = λ _. quiet;
        falls = (omega arith, s.falls);
        begun = λ h. cc;
        text = λ h p e. (let no : false ≡ true = sym quiet ∙ h in cc);
      };
    }
