-- What the walk meets, put together.
use Rattle.std.proofs.Common.{◌≡◌, ◌∙◌, ◌+◌, ℕ, suc, ap, refl, sym, subst, arith, Bool, true, false, List, [], ◌++◌, Option, None, Some, Bor}
use Rattle.std.proofs.Math.Path.{fun_ext}
use Rattle.std.specs.Option.{option_map_or}
use Rattle.std.proofs.lemmas.Bool.{not-false}
use Rattle.std.specs.Prelude.{◌==◌, ◌&&◌, ◌||◌, not, if◌then◌else◌}
use Rattle.xs_elements.specs.declared.forms.Form.{Form}
use Rattle.xs_elements.specs.Forms.{sees_locals}
use Rattle.xs_elements.specs.Nodes.{Name, own_name}
use Rattle.xs_elements.specs.Reading.{is_seen}
use Rattle.xs_static.proofs.MeetLemmas.{least_append}
use Rattle.xs_structure.specs.Bindings.{is_local, has_binding, shadows, local_name}
use Rattle.xs_static.specs.declared.fault.StaticFault.{StaticFault}
use Rattle.xs_structure.specs.declared.in_force.InForce.{InForce}
use Rattle.xs_static.specs.declared.names.Names.{Names}
use Rattle.xs_static.specs.declared.variables.Visible.{Visible}
use Rattle.xs_static.specs.declared.locals.Locals.{Locals}
use Rattle.xs_structure.specs.declared.standing.Standing.{Standing}
use Rattle.xs_static.specs.Faults.{is_too_deep}
use Rattle.xs_static.specs.steps.Elements.{attributes_least, known_by, own_least}
use Rattle.xs_static.specs.steps.Found.{calls_other, deep_faults, element_faults, has_global, line_in, known_at, node_faults, nodes_faults, seen_faults}
use Rattle.xs_structure.specs.InForce.{in_force_at}
use Rattle.xs_static.specs.steps.InForce.{is_among, visible_in}
use Rattle.xs_static.specs.steps.Least.{any_fault, fault_where, least_of}
use Rattle.xs_static.specs.steps.Locals.{AreLocals, AreNested, any_visible, bound_at, open_in}
use Rattle.xs_static.specs.steps.Misplaced.{misplaced_faults}
use Rattle.xs_structure.specs.Standing.{standing_of}
use Rattle.xs_tree.specs.Kinds.{is_element_kind}
use Rattle.xs_tree.specs.Record.{Record, at}

-- ---- a local binding over another
by_local : (rs : List Record) (n : ℕ) (l : Bool)
    → option_map_or (has_binding rs n) (if l then own_name rs n else None) false ≡ (l && option_map_or (has_binding rs n) (own_name rs n) false)
by_local rs n true = refl
by_local rs n false = refl

pub shadows-some : (rs : List Record) (n : ℕ) (name : Name) (holds : Bool) → Some name ≡ local_name rs n → holds ≡ has_binding rs n name → holds ≡ shadows rs n
shadows-some rs n name holds e h = h ∙ ap (λ o. option_map_or (has_binding rs n) o false) e ∙ by_local rs n (is_local rs n)

-- ---- the variables that are known
module _ (v : Visible) (names : Names) (rs : List Record) (n : ℕ) (l : Bor InForce) where
  known-form : v.globals.now ≡ names.globals.names → v.locals ≡ Some l → v.place ≡ n
      → ((uri local : List ℕ) → in_force_at l.now uri local n ≡ has_binding rs n (uri, local)) → (form : Form) (sees : Bool) (uri local : List ℕ)
      → visible_in (if sees then v else record { globals = v.globals; locals = None; place = v.place }) uri local
      ≡ (has_global names uri local || (sees && has_binding rs n (uri, local)))
  known-form globals locals place force form true uri local =
      ap (λ g. is_among g.keys (uri, local) || option_map_or (λ locals. in_force_at locals.now uri local v.place) v.locals false) globals
      ∙ ap (λ o. has_global names uri local || option_map_or (λ locals. in_force_at locals.now uri local v.place) o false) locals
      ∙ ap (λ k. has_global names uri local || in_force_at l.now uri local k) place
      ∙ ap (λ x. has_global names uri local || x) (force uri local)
  known-form globals locals place force form false uri local = ap (λ g. is_among g.keys (uri, local) || false) globals

  pub known-is : v.globals.now ≡ names.globals.names → v.locals ≡ Some l → v.place ≡ n
      → ((uri local : List ℕ) → in_force_at l.now uri local n ≡ has_binding rs n (uri, local)) → known_by v ≡ known_at names rs n
  known-is globals locals place force =
      fun_ext (λ form. fun_ext (λ uri. fun_ext (λ local. known-form globals locals place force form (sees_locals form) uri local)))

-- ---- faults that are met one after another
pub met-five : (l x1 x2 x3 x4 x5 : Option StaticFault) (a b c d e : List StaticFault) → x1 ≡ least_of l a → x2 ≡ least_of x1 b → x3 ≡ least_of x2 c
    → x4 ≡ least_of x3 d
    → x5 ≡ least_of x4 e → x5 ≡ least_of l (a ++ (b ++ (c ++ (d ++ e))))
met-five l x1 x2 x3 x4 x5 a b c d e p1 p2 p3 p4 p5 =
    p5 ∙ ap (λ x. least_of x e) p4 ∙ least_append x3 d e
    ∙ ap (λ x. least_of x (d ++ e)) p3 ∙ least_append x2 c (d ++ e)
    ∙ ap (λ x. least_of x (c ++ (d ++ e))) p2 ∙ least_append x1 b (c ++ (d ++ e))
    ∙ ap (λ x. least_of x (b ++ (c ++ (d ++ e)))) p1 ∙ least_append l a (b ++ (c ++ (d ++ e)))

pub met-seen : (m : ℕ) (rs : List Record) (lines : List ℕ) (names : Names) (n : ℕ) (l x y : Option StaticFault) (deep : List StaticFault) (seen : Bool)
    → seen ≡ true
    → x ≡ least_of l deep → y ≡ least_of x (seen_faults m rs lines names n) → y ≡ least_of l (deep ++ (if seen then seen_faults m rs lines names n else []))
met-seen m rs lines names n l x y deep seen e h g =
    g ∙ ap (λ x. least_of x (seen_faults m rs lines names n)) h ∙ least_append l deep (seen_faults m rs lines names n)
    ∙ ap (λ b. least_of l (deep ++ (if b then seen_faults m rs lines names n else []))) (sym e)

-- an element, or another node
pub met-element : (m : ℕ) (rs : List Record) (lines : List ℕ) (names : Names) (n : ℕ) (l y : Option StaticFault) → is_element_kind (at rs n).kind ≡ true
    → y ≡ least_of l (element_faults m rs lines names n) → y ≡ least_of l (node_faults m rs lines names n)
unfolding node_faults
met-element m rs lines names n l y e h = h ∙ ap (λ b. least_of l (if b then element_faults m rs lines names n else [])) (sym e)

pub met-other : (m : ℕ) (rs : List Record) (lines : List ℕ) (names : Names) (n : ℕ) (l : Option StaticFault) → is_element_kind (at rs n).kind ≡ false
    → l ≡ least_of l (node_faults m rs lines names n)
unfolding node_faults least_of
met-other m rs lines names n l e = ap (λ b. least_of l (if b then element_faults m rs lines names n else [])) (sym e)

-- the next node
pub met-more : (m : ℕ) (rs : List Record) (lines : List ℕ) (names : Names) (n : ℕ) (l x y : Option StaticFault)
    → x ≡ least_of l (nodes_faults m rs lines names n)
    → y ≡ least_of x (node_faults m rs lines names n) → y ≡ least_of l (nodes_faults m rs lines names (n + 1))
unfolding nodes_faults
met-more m rs lines names n l x y h g =
    let n_is : suc n ≡ n + 1 = omega arith in
    g ∙ ap (λ x. least_of x (node_faults m rs lines names n)) h ∙ least_append l (nodes_faults m rs lines names n) (node_faults m rs lines names n)
    ∙ ap (λ k. least_of l (nodes_faults m rs lines names k)) n_is

pub met-none : (m : ℕ) (rs : List Record) (lines : List ℕ) (names : Names) (l : Option StaticFault) → l ≡ least_of l (nodes_faults m rs lines names 0)
unfolding nodes_faults least_of
met-none m rs lines names l = refl

-- ---- an element that is looked at, as the code meets its faults
pub met-in-element : (m : ℕ) (rs around : List Record) (lines : List ℕ) (names : Names) (n line : ℕ) (l x1 x2 x3 x4 x5 : Option StaticFault)
    → (own attributes : Option ℕ) (calls shadowing : Bool) (known : Form → List ℕ → List ℕ → Bool) → around ≡ rs → line ≡ line_in lines n
    → own ≡ own_least around n → attributes ≡ attributes_least around n known → known ≡ known_at names rs n → calls ≡ calls_other names rs n
    → shadowing ≡ shadows rs n → x1 ≡ least_of l (any_fault m line own) → x2 ≡ least_of x1 (any_fault m line attributes)
    → x3 ≡ least_of x2 (misplaced_faults m around lines n) → x4 ≡ least_of x3 (fault_where calls m line 43)
    → x5 ≡ least_of x4 (fault_where shadowing m line 40) → x5 ≡ least_of l (seen_faults m rs lines names n)
met-in-element m rs around lines names n line l x1 x2 x3 x4 x5 own attributes calls shades known same lined owned attributed knows called shadowed a b c d e =
    met-five l x1 x2 x3 x4 x5 _ _ _ _ _
    (a ∙ ap (λ o. least_of l (any_fault m line o)) (owned ∙ ap (λ r. own_least r n) same) ∙ ap (λ k. least_of l (any_fault m k (own_least rs n))) lined)
    (b ∙ ap (λ o. least_of x1 (any_fault m line o)) (attributed ∙ ap (λ r. attributes_least r n known) same ∙ ap (λ f. attributes_least rs n f) knows)
    ∙ ap (λ k. least_of x1 (any_fault m k (attributes_least rs n (known_at names rs n)))) lined)
    (c ∙ ap (λ r. least_of x2 (misplaced_faults m r lines n)) same)
    (d ∙ ap (λ b. least_of x3 (fault_where b m line 43)) called ∙ ap (λ k. least_of x3 (fault_where (calls_other names rs n) m k 43)) lined)
    (e ∙ ap (λ b. least_of x4 (fault_where b m line 40)) shadowed ∙ ap (λ k. least_of x4 (fault_where (shadows rs n) m k 40)) lined)

pub met-deep : (m : ℕ) (rs : List Record) (lines : List ℕ) (n line : ℕ) (s : Standing) (l x : Option StaticFault) → s ≡ standing_of rs n
    → line ≡ line_in lines n
    → x ≡ least_of l (fault_where (s.depth == 258) m line 46) → x ≡ least_of l (deep_faults m rs lines n)
met-deep m rs lines n line s l x e lined h =
    h ∙ ap (λ s. least_of l (fault_where (s.depth == 258) m line 46)) e ∙ ap (λ k. least_of l (fault_where (is_too_deep rs n) m k 46)) lined

pub seen-of : (rs : List Record) (n : ℕ) (s : Standing) → s ≡ standing_of rs n → not s.is_seen ≡ false → is_seen rs n ≡ true
seen-of rs n s e h = sym (ap (λ s. s.is_seen) e) ∙ not-false s.is_seen h

-- ---- before the first node
pub no-locals : (rs : List Record) (l : Locals) → ((uri local : List ℕ) (k : ℕ) → bound_at l uri local k ≡ false) → open_in l ≡ [] → AreLocals rs 0 l
unfolding any_visible AreNested
no-locals rs l none empty = record {
  bound = λ uri local k from inside. none uri local k;
  nested = subst (AreNested rs 0) (sym empty) tt;
}
