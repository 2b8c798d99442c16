-- The elements that open a body, and their parts.
use Rattle.std.proofs.Common.{◌≡◌, ◌∙◌, ◌<◌, ℕ, ap, arith, refl, sym, subst, All, Bool, true, false, None, length}
use Rattle.std.proofs.lemmas.Bool.{and_parts, false_from_ne_true, false≢true}
use Rattle.xs_compile.proofs.AmongLemmas.{all-among, among-all, among-kept, among-mapped}
use Rattle.xs_compile.proofs.ContentLemmas.{is_plain, is_without, no-param, none-before-sort, none-held, none-in-extension}
use Rattle.xs_compile.proofs.FitLemmas.{At, Opens, is_param_in}
use Rattle.xs_compile.proofs.LevelLemmas.{is_own, passing-none, visible-same}
use Rattle.xs_structure.proofs.TopLemmas.{is_place-true, seen-child}
use Rattle.xs_compile.proofs.ReachLemmas.{parent-before}
use Rattle.xs_compile.proofs.ShownLemmas.{IsChildOf, all-children}
use Rattle.xs_compile.specs.Bodies.{Source, has_select}
use Rattle.xs_structure.specs.Parts.{children_at, children_with, reading_at, tag_at}
use Rattle.xs_compile.specs.steps.Tags.{is_binding}
use Rattle.xs_elements.specs.declared.contents.Content.TheVariants.{SortsAndBody}
use Rattle.xs_elements.specs.declared.reading.Reading.{Reading}
use Rattle.xs_elements.specs.declared.reading.Reading.TheVariants.{Known, Literal, Extension}
use Rattle.xs_elements.specs.declared.tags.Tag.{Tag}
use Rattle.xs_elements.specs.declared.tags.Tag.TheVariants.{Variable as VariableTag, Param, ForEach as ForEachTag, WithParam, Other}
use Rattle.xs_elements.specs.Contents.{content_of}
use Rattle.xs_elements.specs.Reading.{content_at, content_by, is_in_extension, is_seen, reading_by, shows}
use Rattle.xs_elements.specs.Tags.{is_fallback, is_param, is_sort, is_top_level, tag_of}
use Rattle.xs_static.specs.Faults.{IsFirstFault}
use Rattle.xs_structure.specs.Modules.{Place, records_at}
use Rattle.xs_tree.specs.Kinds.{is_child_kind}
use Rattle.xs_tree.specs.Record.{at, children, is_child, is_place}
use Rattle.xs_tree.specs.Shape.{IsTree}

-- ---- tags
pub literal-other : (tag : Tag) (x y : Bool) → reading_by tag x y ≡ Literal → tag ≡ Other
literal-other Other x y e = refl
literal-other tag x y e = cc (e)

pub extension-other : (tag : Tag) (x y : Bool) → reading_by tag x y ≡ Extension → tag ≡ Other
extension-other Other x y e = refl
extension-other tag x y e = cc (e)

pub binding-known : (tag : Tag) → is_binding tag ≡ true → (x y : Bool) → reading_by tag x y ≡ Known
binding-known VariableTag e x y = refl
binding-known Param e x y = refl
binding-known WithParam e x y = refl
binding-known tag e x y = absurd (false≢true e)

pub binding-plain : (tag : Tag) → is_binding tag ≡ true → (x y : Bool) → is_plain (content_by (reading_by tag x y) tag false) ≡ true
binding-plain VariableTag e x y = refl
binding-plain Param e x y = refl
binding-plain WithParam e x y = refl
binding-plain tag e x y = absurd (false≢true e)

-- ---- what a place holds
pub known-tag : (s : Source) (p : Place) (tag : Tag) → tag_at s.modules p ≡ tag → ((x y : Bool) → reading_by tag x y ≡ Known) → reading_at s.modules p ≡ Known
known-tag s p tag e reads =
    let rs = records_at s.modules p.0 in
    ap (λ (r : Tag). reading_by r (is_top_level rs p.1) (is_in_extension rs p.1)) e ∙ reads (is_top_level rs p.1) (is_in_extension rs p.1)

content-tag : (s : Source) (p : Place) (tag : Tag) → tag_at s.modules p ≡ tag
    → content_at (records_at s.modules p.0) p.1
    ≡ content_by (reading_by tag (is_top_level (records_at s.modules p.0) p.1) (is_in_extension (records_at s.modules p.0) p.1)) tag (has_select s p)
content-tag s p tag e =
    let rs = records_at s.modules p.0 in
    ap (λ (r : Tag). content_by (reading_by r (is_top_level rs p.1) (is_in_extension rs p.1)) r (has_select s p)) e

module _ (s : Source) (trees : (m : ℕ) → m < length s.modules → IsTree (records_at s.modules m)) (accepted : IsFirstFault s.modules None) where
  abbrev Here : ℕ → Place → Type 0
  Here locals p = At s.modules locals p

  -- ---- an element whose children are shown, with a body
  opens : (locals : ℕ) (p : Place) → Here locals p → ((tag : Tag) → shows (reading_at s.modules p) tag ≡ true)
      → is_plain (content_at (records_at s.modules p.0) p.1) ≡ true → Opens s.modules locals p
  opens locals p h shown plain =
      let rs = records_at s.modules p.0 in
      let tree = trees p.0 h.within.«module» in
      let none = passing-none (is_param_in rs p.1) (length rs) (λ k lt. false_from_ne_true (is_param_in rs p.1 k) (λ g.
      let parts = and_parts (is_child rs p.1 k) (is_param (tag_of rs k)) g in
      let parent = is_place-true p.1 (at rs k).parent (and_parts (is_place p.1 (at rs k).parent) (is_child_kind (at rs k).kind) parts.0).0 in
      no-param s.modules accepted p.0 h.within.«module» tree p.1 plain k lt
      (seen-child rs tree p.1 k lt parent (shown (tag_of rs k)) h.seen) parent parts.1)) in
      let enough = h.enough in
      record { within = h.within; seen = h.seen; shown = shown; enough = omega (arith, enough, none); few = h.few }

  shows-known : (p : Place) → reading_at s.modules p ≡ Known → (tag : Tag) → shows (reading_at s.modules p) tag ≡ true
  shows-known p known tag = ap (λ (r : Reading). shows r tag) known

  pub opens-tag : (locals : ℕ) (p : Place) (tag : Tag) → Here locals p → tag_at s.modules p ≡ tag → ((x y : Bool) → reading_by tag x y ≡ Known)
      → ((x : Bool) → is_plain (content_of tag x) ≡ true) → Opens s.modules locals p
  opens-tag locals p tag h e reads plain =
      let rs = records_at s.modules p.0 in
      opens locals p h (shows-known p (known-tag s p tag e reads))
      (ap is_plain (content-tag s p tag e)
      ∙ ap (λ (r : Reading). is_plain (content_by r tag (has_select s p))) (reads (is_top_level rs p.1) (is_in_extension rs p.1)) ∙ plain (has_select s p))

  pub opens-binding : (locals : ℕ) (p : Place) → Here locals p → is_binding (tag_at s.modules p) ≡ true → has_select s p ≡ false → Opens s.modules locals p
  opens-binding locals p h e none =
      let rs = records_at s.modules p.0 in
      let tag = tag_at s.modules p in
      opens locals p h (shows-known p (binding-known tag e (is_top_level rs p.1) (is_in_extension rs p.1)))
      (ap (λ (x : Bool). is_plain (content_by (reading_at s.modules p) tag x)) none ∙ binding-plain tag e (is_top_level rs p.1) (is_in_extension rs p.1))

  pub opens-literal : (locals : ℕ) (p : Place) → Here locals p → reading_at s.modules p ≡ Literal → Opens s.modules locals p
  opens-literal locals p h e =
      let rs = records_at s.modules p.0 in
      let other = literal-other (tag_at s.modules p) (is_top_level rs p.1) (is_in_extension rs p.1) e in
      opens locals p h (λ tag. ap (λ (r : Reading). shows r tag) e)
      (ap (λ (r : Reading). is_plain (content_by r (tag_at s.modules p) (has_select s p))) e
      ∙ ap (λ (r : Tag). is_plain (content_by Literal r (has_select s p))) other)

  -- ---- children of a kind, at which no more is visible than at their element
  pub record Part (locals : ℕ) (kind : Tag → Bool) (q : Place) : Type 0 where
    pub here : Here locals q
    pub tag : kind (tag_at s.modules q) ≡ true

  parts : (locals : ℕ) (p : Place) (kind : Tag → Bool) → Here locals p → ((tag : Tag) → kind tag ≡ true → shows (reading_at s.modules p) tag ≡ true)
      → ((k : ℕ) → IsChildOf (records_at s.modules p.0) p.1 k → is_seen (records_at s.modules p.0) k ≡ true
      → kind (tag_at s.modules (p.0, k)) ≡ true → (b : ℕ) → b < k → is_own (records_at s.modules p.0) p.1 b ≡ true → ⊥)
      → All (Part locals kind) (children_with kind s.modules p)
  parts locals p kind h shown none =
      all-among (Part locals kind) (children_with kind s.modules p) (λ q g.
      let kept = among-kept (λ x. kind (tag_at s.modules x)) q (children_at s.modules p) g in
      let of = among-mapped (λ k. (p.0, k)) q (children (records_at s.modules p.0) p.1) kept.0 in
      let child = among-all (IsChildOf (records_at s.modules p.0) p.1) (children (records_at s.modules p.0) p.1) of.item
      (all-children (records_at s.modules p.0) p.1) of.among in
      subst (Part locals kind) of.is
      (part-at of.item child (subst (λ (x : Place). kind (tag_at s.modules x) ≡ true) (sym of.is) kept.1)))
    where
      part-at : (k : ℕ) → IsChildOf (records_at s.modules p.0) p.1 k → kind (tag_at s.modules (p.0, k)) ≡ true → Part locals kind (p.0, k)
      part-at k child tag =
          let rs = records_at s.modules p.0 in
          let tree = trees p.0 h.within.«module» in
          let seen = seen-child rs tree p.1 k child.inside child.parent (shown (tag_of rs k) tag) h.seen in
          let visible = visible-same rs tree p.1 k child.inside child.parent (none k child seen tag) in
          let behind = parent-before rs tree k p.1 child.inside child.parent in
          let enough = h.enough in
          let few = h.few in
          record {
            here = record {
              within = record { «module» = h.within.«module»; node = child.inside };
              seen = seen;
              enough = omega (arith, visible, enough);
              few = omega (arith, few, behind);
            };
            tag = tag;
          }

  -- where no binding may stand in the element
  pub parts-without : (locals : ℕ) (p : Place) (tag : Tag) (kind : Tag → Bool) → Here locals p → tag_at s.modules p ≡ tag
      → ((x y : Bool) → reading_by tag x y ≡ Known) → ((x : Bool) → is_without (content_of tag x) ≡ true)
      → All (Part locals kind) (children_with kind s.modules p)
  parts-without locals p tag kind h e reads without =
      let rs = records_at s.modules p.0 in
      let known = known-tag s p tag e reads in
      let held : is_without (content_at rs p.1) ≡ true =
      ap is_without (content-tag s p tag e)
      ∙ ap (λ (r : Reading). is_without (content_by r tag (has_select s p))) (reads (is_top_level rs p.1) (is_in_extension rs p.1)) ∙ without
      (has_select s p) in
      parts locals p kind h (λ child f. shows-known p known child)
      (λ k child seen f b lt. none-held s.modules accepted p.0 h.within.«module» (trees p.0 h.within.«module») p.1 held b
      (let inside = child.inside in omega (arith, lt, inside)))

  pub loop-sorts : (locals : ℕ) (p : Place) → Here locals p → tag_at s.modules p ≡ ForEachTag → All (Part locals is_sort) (children_with is_sort s.modules p)
  loop-sorts locals p h e =
      let rs = records_at s.modules p.0 in
      let known = known-tag s p ForEachTag e (λ x y. refl) in
      let content : content_at rs p.1 ≡ SortsAndBody = content-tag s p ForEachTag e in
      parts locals p is_sort h (λ child f. shows-known p known child)
      (λ k child seen f. none-before-sort s.modules accepted p.0 h.within.«module» (trees p.0 h.within.«module») p.1 content k child.inside seen child.parent f)

  pub extension-parts : (locals : ℕ) (p : Place) → Here locals p → reading_at s.modules p ≡ Extension
      → All (Part locals is_fallback) (children_with is_fallback s.modules p)
  extension-parts locals p h e =
      parts locals p is_fallback h (λ child f. ap (λ (r : Reading). shows r child) e ∙ f)
      (λ k child seen f b lt. none-in-extension s.modules accepted p.0 h.within.«module» (trees p.0 h.within.«module») p.1 e b
      (let inside = child.inside in omega (arith, lt, inside)))
