-- Names that were declared, and what is declared next.
use Rattle.std.proofs.Common.{◌≡◌, ◌∙◌, ◌<◌, ℕ, zero, suc, ap, refl, sym, subst, arith, Bool, true, false, cond, List, [], ◌∷◌, ◌++◌, append_assoc, length, map, get_or, Option, None, Some}
use Rattle.std.proofs.lemmas.List.{append-nil, length-map}
use Rattle.std.proofs.lemmas.List.Elements.{All-head, All-tail}
use Rattle.std.proofs.lemmas.List.Folds.{list_any-append}
use Rattle.std.proofs.lemmas.Option.{get_or_from_slice_get, slice_get_within}
use Rattle.std.specs.List.{All, list_any}
use Rattle.std.specs.Option.{option_map_or}
use Rattle.std.specs.Prelude.{◌&&◌, ◌||◌, not, slice_get}
use Rattle.xs_elements.specs.declared.tags.Tag.{Tag}
use Rattle.xs_elements.specs.Nodes.{Name, is_same_name, own_name}
use Rattle.xs_elements.specs.Tags.{is_template, is_variable, tag_of}
use Rattle.xs_modules.specs.declared.modules.Module.{Module}
use Rattle.xs_modules.specs.Numbering.{ModuleData}
use Rattle.xs_modules.specs.Results.{module_data}
use Rattle.xs_static.proofs.MeetLemmas.{least_append}
use Rattle.xs_structure.proofs.NameLemmas.{name-sym}
use Rattle.xs_static.specs.declared.fault.StaticFault.{StaticFault}
use Rattle.xs_static.specs.declared.names.Declared.{Declared}
use Rattle.xs_static.specs.declared.names.Names.{Names}
use Rattle.xs_structure.specs.Modules.{Place, line_at, precedence_at, records_at}
use Rattle.xs_structure.specs.Order.{declares}
use Rattle.xs_static.specs.Names.{declares_again}
use Rattle.xs_static.specs.steps.Declared.{AreDeclared, HasDeclared, Noted, declares_at, is_ranked, name_faults, names_faults, repeats}
use Rattle.xs_static.specs.steps.InForce.{is_among}
use Rattle.xs_static.specs.steps.Least.{fault_where, least_of}
use Rattle.xs_structure.specs.Places.{HaveLines, IsIn}

-- ---- a name is put into a set
cond-or : (b x : Bool) → cond b true x ≡ (b || x)
cond-or true x = refl
cond-or false x = refl

and-turn : (a b : Bool) → (a && b) ≡ (b && a)
and-turn true true = refl
and-turn true false = refl
and-turn false true = refl
and-turn false false = refl

pub put-name : (name d : Name) (old now : Bool) → now ≡ cond (is_same_name d name) true old → now ≡ (is_same_name name d || old)
put-name name d old now e = e ∙ cond-or (is_same_name d name) old ∙ ap (λ x. x || old) (name-sym d name)

pub put-ranked : (name d : Name) (same old now : Bool) → now ≡ cond (same && is_same_name d name) true old → now ≡ ((is_same_name name d && same) || old)
put-ranked name d same old now e =
    e ∙ cond-or (same && is_same_name d name) old ∙ ap (λ x. x || old) (and-turn same (is_same_name d name) ∙ ap (λ x. x && same) (name-sym d name))

-- ---- one more element
or-behind : (a b : Bool) → (a || (b || false)) ≡ (b || a)
or-behind true true = refl
or-behind true false = refl
or-behind false true = refl
or-behind false false = refl

any-more : (test : Place → Bool) (done : List Place) (p : Place) → list_any test (done ++ p ∷ []) ≡ (test p || list_any test done)
any-more test done p = list_any-append test done (p ∷ []) ∙ or-behind (list_any test done) (test p)

pub noted : (kind : Tag → Bool) (ms : List ModuleData) (done : List Place) (p : Place) (old new : Declared)
    → HasDeclared kind ms done old → Noted old new (kind (tag_of (records_at ms p.0) p.1)) (precedence_at ms p.0) (own_name (records_at ms p.0) p.1)
    → HasDeclared kind ms (done ++ p ∷ []) new
noted kind ms done p old new h n = record {
  names = λ uri local.
      n.names uri local ∙ ap (λ x. declares kind ms (uri, local) p || x) (h.names uri local) ∙ sym (any-more (declares kind ms (uri, local)) done p);
  ranked = λ rank uri local.
      n.ranked rank uri local ∙ ap (λ x. declares_at kind ms rank (uri, local) p || x) (h.ranked rank uri local)
      ∙ sym (any-more (declares_at kind ms rank (uri, local)) done p);
}

-- whether there was one of its name
pub repeated : (kind : Tag → Bool) (ms : List ModuleData) (done : List Place) (p : Place) (old : Declared) → HasDeclared kind ms done old
    → (kind (tag_of (records_at ms p.0) p.1) && option_map_or (is_ranked old.ranked.keys (precedence_at ms p.0)) (own_name (records_at ms p.0) p.1) false)
    ≡ repeats kind ms done p
repeated kind ms done p old h = ap (λ x. kind (tag_of (records_at ms p.0) p.1) && x) (by_name (own_name (records_at ms p.0) p.1))
  where
    by_name : (o : Option Name) → option_map_or (is_ranked old.ranked.keys (precedence_at ms p.0)) o false
        ≡ option_map_or (λ name. list_any (declares_again kind ms p name) done) o false
    by_name None = refl
    by_name (Some name) = h.ranked (precedence_at ms p.0) name.0 name.1

-- ---- a module of the list
module-at : (modules : List Module) (k : ℕ) (d : Module) → k < length modules → slice_get (map module_data modules) k ≡ Some (module_data (get_or modules k d))
module-at [] k d lt = absurd (omega (arith, lt))
module-at (x ∷ xs) zero d lt = refl
module-at (x ∷ xs) (suc k) d lt = module-at xs k d (omega (arith, lt))

pub module-of : (modules : List Module) (k : ℕ) (m : Module) → k < length (map module_data modules) → m ≡ get_or modules k m
    → slice_get (map module_data modules) k ≡ Some (module_data m)
module-of modules k m lt e =
    module-at modules k m (omega (arith, lt, length-map modules module_data)) ∙ ap (λ (x : Module). Some (module_data x)) (sym e)

-- ---- what is known of the next element, as the code has it
pub noted-as : (old new : Declared) (kind kind' : Bool) (rank rank' : ℕ) (name name' : Option Name) → kind ≡ kind' → rank ≡ rank' → name ≡ name'
    → Noted old new kind rank name → Noted old new kind' rank' name'
noted-as old new kind kind' rank rank' name name' a b c n =
    subst (λ x. Noted old new x rank' name') a (subst (λ x. Noted old new kind x name') b (subst (λ x. Noted old new kind rank x) c n))

pub answer-as : (d : Declared) (was kind kind' : Bool) (rank rank' : ℕ) (name name' : Option Name) → kind ≡ kind' → rank ≡ rank' → name ≡ name'
    → was ≡ (kind && option_map_or (is_ranked d.ranked.keys rank) name false) → was ≡ (kind' && option_map_or (is_ranked d.ranked.keys rank') name' false)
answer-as d was kind kind' rank rank' name name' a b c e =
    e ∙ ap (λ x. x && option_map_or (is_ranked d.ranked.keys rank) name false) a ∙ ap (λ x. kind' && option_map_or (is_ranked d.ranked.keys x) name false) b
    ∙ ap (λ x. kind' && option_map_or (is_ranked d.ranked.keys rank') x false) c

-- its faults
pub met-names : (ms : List ModuleData) (done : List Place) (p : Place) (old : Names) (l x1 x2 : Option StaticFault) (g t : Bool) (line : ℕ)
    → AreDeclared ms done old
    → line ≡ line_at ms p.0 p.1
    → g ≡ (is_variable (tag_of (records_at ms p.0) p.1)
    && option_map_or (is_ranked old.globals.ranked.keys (precedence_at ms p.0)) (own_name (records_at ms p.0) p.1) false)
    → t ≡ (is_template (tag_of (records_at ms p.0) p.1)
    && option_map_or (is_ranked old.templates.ranked.keys (precedence_at ms p.0)) (own_name (records_at ms p.0) p.1) false)
    → x1 ≡ least_of l (fault_where g p.0 line 41) → x2 ≡ least_of x1 (fault_where t p.0 line 42) → x2 ≡ least_of l (name_faults ms done p)
met-names ms done p old l x1 x2 g t line declared lined gs ts h1 h2 =
    h2 ∙ ap (λ x. least_of x (fault_where t p.0 line 42)) h1 ∙ least_append l (fault_where g p.0 line 41) (fault_where t p.0 line 42)
    ∙ ap (λ k. least_of l (fault_where g p.0 k 41 ++ fault_where t p.0 k 42)) lined
    ∙ ap (λ b. least_of l (fault_where b p.0 (line_at ms p.0 p.1) 41 ++ fault_where t p.0 (line_at ms p.0 p.1) 42))
    (gs ∙ repeated is_variable ms done p old.globals declared.globals)
    ∙ ap (λ b. least_of l (fault_where (repeats is_variable ms done p) p.0 (line_at ms p.0 p.1) 41 ++ fault_where b p.0 (line_at ms p.0 p.1) 42))
    (ts ∙ repeated is_template ms done p old.templates declared.templates)

-- ---- the loop over all of them
pub record SoFar (ms : List ModuleData) (all : List Place) (start least : Option StaticFault) (names : Names) (rest : List Place) : Type 0 where
  pub done : List Place
  pub whole : all ≡ done ++ rest
  pub declared : AreDeclared ms done names
  pub inside : All (IsIn ms) rest
  pub faults : least_of least (names_faults ms done rest) ≡ least_of start (names_faults ms [] all)

none-declared : (kind : Tag → Bool) (ms : List ModuleData) (d : Declared) → d.names.keys ≡ [] → d.ranked.keys ≡ [] → HasDeclared kind ms [] d
none-declared kind ms d names ranked = record {
  names = λ uri local. ap (λ ks. is_among ks (uri, local)) names;
  ranked = λ rank uri local. ap (λ ks. is_ranked ks rank (uri, local)) ranked;
}

pub starts : (ms : List ModuleData) (all : List Place) (start : Option StaticFault) (n : Names) → n.globals.names.keys ≡ [] → n.globals.ranked.keys ≡ []
    → n.templates.names.keys ≡ [] → n.templates.ranked.keys ≡ [] → All (IsIn ms) all → SoFar ms all start start n all
starts ms all start n a b c d inside = record {
  done = [];
  whole = refl;
  declared = record { globals = none-declared is_variable ms n.globals a b; templates = none-declared is_template ms n.templates c d };
  inside = inside;
  faults = refl;
}

pub goes_on : (ms : List ModuleData) (all : List Place) (start least now : Option StaticFault) (old new : Names) (rest behind : List Place) (p : Place)
    → rest ≡ p ∷ behind
    → (s : SoFar ms all start least old rest) → AreDeclared ms (s.done ++ p ∷ []) new → now ≡ least_of least (name_faults ms s.done p)
    → SoFar ms all start now new behind
unfolding names_faults
goes_on ms all start least now old new rest behind p e s declared h = record {
  done = s.done ++ p ∷ [];
  whole = s.whole ∙ ap (λ xs. s.done ++ xs) e ∙ sym (append_assoc s.done (p ∷ []) behind);
  declared = declared;
  inside = All-tail (IsIn ms) p behind (subst (All (IsIn ms)) e s.inside);
  faults =
      ap (λ x. least_of x (names_faults ms (s.done ++ p ∷ []) behind)) h
      ∙ least_append least (name_faults ms s.done p) (names_faults ms (s.done ++ p ∷ []) behind)
      ∙ ap (λ xs. least_of least (names_faults ms s.done xs)) (sym e) ∙ s.faults;
}

pub first-inside : (ms : List ModuleData) (rest behind : List Place) (p : Place) → rest ≡ p ∷ behind → All (IsIn ms) rest → IsIn ms p
first-inside ms rest behind p e inside = All-head (IsIn ms) p behind (subst (All (IsIn ms)) e inside)

empty : (xs : List Place) → length xs ≡ 0 → xs ≡ []
empty [] h = refl
empty (x ∷ xs) h = absurd (omega (arith, h))

pub ends_with : (ms : List ModuleData) (all : List Place) (start least : Option StaticFault) (names : Names) (rest : List Place) → length rest ≡ 0
    → SoFar ms all start least names rest → AreDeclared ms all names × (least ≡ least_of start (names_faults ms [] all))
unfolding names_faults least_of
ends_with ms all start least names rest e s = (
  subst (λ xs. AreDeclared ms xs names) (sym (s.whole ∙ ap (λ xs. s.done ++ xs) (empty rest e) ∙ append-nil s.done)) s.declared,
  ap (λ xs. least_of least (names_faults ms s.done xs)) (sym (empty rest e)) ∙ s.faults,
)

-- ---- the line of the element
same-get : (xs : List ℕ) (k d e : ℕ) → k < length xs → get_or xs k d ≡ get_or xs k e
same-get [] k d e lt = absurd (omega (arith, lt))
same-get (x ∷ xs) zero d e lt = refl
same-get (x ∷ xs) (suc k) d e lt = same-get xs k d e (omega (arith, lt))

have-line : (ms : List ModuleData) (k : ℕ) (d : ModuleData) → HaveLines ms → slice_get ms k ≡ Some d → length d.lines ≡ length d.records
have-line ms k d lines e =
    subst (λ d. length d.lines ≡ length d.records) (get_or_from_slice_get ms k d d e) (lines k d (slice_get_within ms k d e))

pub line-of : (ms : List ModuleData) (k n place line : ℕ) (d : ModuleData) → HaveLines ms → slice_get ms k ≡ Some d → n < length (records_at ms k) → place ≡ n
    → line ≡ get_or d.lines place line → line ≡ line_at ms k n
line-of ms k n place line d lines e inside at h =
    let found : records_at ms k ≡ d.records = ap (λ o. option_map_or (λ d. d.records) o []) e in
    let within : n < length d.lines = omega (arith, inside, ap length found, have-line ms k d lines e) in
    h ∙ ap (λ x. get_or d.lines x line) at ∙ same-get d.lines n line 0 within ∙ sym (ap (λ o. option_map_or (λ d. get_or d.lines n 0) o 0) e)
