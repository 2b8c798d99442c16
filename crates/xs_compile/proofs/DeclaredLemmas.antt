-- What a stylesheet declares can be compiled.
use Rattle.std.proofs.Common.{◌≡◌, ◌∙◌, ◌<◌, ◌≤◌, ◌+◌, ◌++◌, ℕ, ap, refl, sym, subst, Bool, true, false, List, [], ◌∷◌, filter, get_or, length, Option, None, take}
use Rattle.std.proofs.lemmas.Bool.{and_parts, false≢true}
use Rattle.std.proofs.lemmas.List.{take_all}
use Rattle.std.specs.List.{AllZip}
use Rattle.std.specs.Option.{option_map_or}
use Rattle.std.specs.Prelude.{◌&&◌}
use Rattle.xs_structure.proofs.DeclarationLemmas.{IsDeclared, all-declared}
use Rattle.xs_structure.proofs.TopLemmas.{is_place-true, declaration-seen}
use Rattle.xs_compile.proofs.StateLemmas.{tree-at}
use Rattle.xs_compile.proofs.ZipLemmas.{item-of, taken-more, zip-if, zip-skip}
use Rattle.xs_compile.specs.declared.compiler.Compiler.{Compiler}
use Rattle.xs_structure.specs.Order.{declarations, is_simplified}
use Rattle.xs_compile.specs.Bodies.{Source}
use Rattle.xs_compile.specs.Declarations.{IsRuleOrModule, IsTemplate, IsWholeModule}
use Rattle.xs_sheet.specs.declared.declarations.Template.{Template}
use Rattle.xs_structure.specs.Parts.{imports_from_at, tag_at, site_at}
use Rattle.xs_compile.specs.steps.State.{IsInstruction, IsReady, IsState, modules_of}
use Rattle.xs_compile.specs.steps.Tags.{is_body_tag}
use Rattle.xs_elements.specs.declared.tags.Tag.{Tag}
use Rattle.xs_elements.specs.declared.tags.Tag.TheVariants.{Other}
use Rattle.xs_elements.specs.Tags.{is_document_element, is_other, is_sheet, is_stylesheet, is_template, is_top_level, tag_of}
use Rattle.xs_structure.specs.Modules.{Place, precedence_at, records_at}
use Rattle.xs_tree.specs.Record.{Record, at, is_place}
use Rattle.xs_tree.specs.Shape.{IsTree}

-- ---- it can be compiled
pub simple-inner : (rs : List Record) → IsTree rs → (n : ℕ) → is_document_element rs n ≡ true → is_top_level rs n ≡ false
simple-inner rs tree n document =
    let up = is_place-true 0 (at rs n).parent document in
    let none : (at rs 0).parent ≡ None = ap (λ (r : Record). r.parent) tree.first in
    ap (λ (o : Option ℕ). option_map_or (is_sheet rs) o false) up
    ∙ ap (λ (o : Option ℕ). is_stylesheet (tag_of rs 0) && is_place 0 o) none
    ∙ neither (is_stylesheet (tag_of rs 0))
  where
    neither : (b : Bool) → (b && false) ≡ false
    neither true = refl
    neither false = refl

module _ (c : Compiler) (state : IsState c) where
  pub declared-ready : (p : Place) → IsDeclared (modules_of c) p → IsReady c p
  declared-ready p h =
      let ms = modules_of c in
      let rs = records_at ms p.0 in
      let tree = tree-at ms c.locals.items state.locals p.0 h.within.«module» in
      record {
        state = state;
        within = h.within;
        seen = declaration-seen rs tree p.1 h.within.node h.declares;
      }

  -- one of those that were found
  pub declared-item : (declared : List Place) → declared ≡ declarations (modules_of c) → (i : ℕ) (p : Place) → i < length declared → p ≡ get_or declared i p
      → IsReady c p
  declared-item declared all i p lt e =
      declared-ready p (item-of (IsDeclared (modules_of c)) (declarations (modules_of c)) i p (all-declared (modules_of c) state.sound.some)
      (subst (λ (ps : List Place). i < length ps) all lt) (subst (λ (ps : List Place). p ≡ get_or ps i p) all e))

-- ---- a literal element that is a whole module is an instruction
pub literal-tag : (tag : Tag) → is_other tag ≡ true → tag ≡ Other
literal-tag Other e = refl
literal-tag tag e = absurd (false≢true e)

pub simple-instruction : (c : Compiler) (p : Place) → IsReady c p → is_simplified (records_at (modules_of c) p.0) p.1 ≡ true → IsInstruction c p
simple-instruction c p ready h =
    let ms = modules_of c in
    let rs = records_at ms p.0 in
    let parts = and_parts (is_other (tag_of rs p.1)) (is_document_element rs p.1) h in
    record {
      ready = ready;
      tag = ap is_body_tag (literal-tag (tag_of rs p.1) parts.0);
      inner = simple-inner rs (tree-at ms c.locals.items ready.state.locals p.0 ready.within.«module») p.1 parts.1;
    }

pub whole-is : (s : Source) (p : Place) (t : Template) → is_simplified (records_at s.modules p.0) p.1 ≡ true → t.site ≡ site_at s.modules p
    → t.precedence ≡ precedence_at s.modules p.0 → t.imports_from ≡ imports_from_at s.modules p.0 → IsWholeModule s p t → IsTemplate s p t
whole-is s p t h site precedence imports_from rest = record {
  site = site;
  precedence = precedence;
  imports_from = imports_from;
  rest = subst (λ (b : Bool). IsRuleOrModule b s p t) (sym (ap is_template (literal-tag (tag_at s.modules p)
      (and_parts (is_other (tag_at s.modules p)) (is_document_element (records_at s.modules p.0) p.1) h).0))) rest;
}

-- ---- of the declarations of a kind one more
module _ {Y : Type 0} (R : Place → Y → Type 0) (test : Place → Bool) (declared : List Place) where
  pub one-more : (i : ℕ) (p : Place) (ys : List Y) (y : Y) → i < length declared → p ≡ get_or declared i p → AllZip R (filter test (take i declared)) ys
      → test p ≡ true → R p y → AllZip R (filter test (take (i + 1) declared)) (ys ++ y ∷ [])
  one-more i p ys y lt e found h r =
      subst (λ (ps : List Place). AllZip R (filter test ps) (ys
      ++ y ∷ [])) (sym (taken-more declared i p lt e)) (zip-if R test (take i declared) ys p y found h r)

  pub no-more : (i : ℕ) (p : Place) (ys : List Y) → i < length declared → p ≡ get_or declared i p → AllZip R (filter test (take i declared)) ys
      → test p ≡ false → AllZip R (filter test (take (i + 1) declared)) ys
  no-more i p ys lt e found h =
      subst (λ (ps : List Place). AllZip R (filter test ps) ys) (sym (taken-more declared i p lt e)) (zip-skip R test (take i declared) ys p found h)

  pub all-found : (i : ℕ) (ys : List Y) (all : List Place) → length declared ≤ i → declared ≡ all → AllZip R (filter test (take i declared)) ys
      → AllZip R (filter test all) ys
  all-found i ys all past e found =
      subst (λ (ps : List Place). AllZip R (filter test ps) ys) (take_all i declared past ∙ e) found
