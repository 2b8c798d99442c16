-- All faults that are met cover the static faults, so that the least of them is the first.
use Rattle.std.proofs.Common.{◌≡◌, ◌∙◌, ℕ, ◌<◌, ap, refl, sym, subst, inl, List, [], ◌++◌, length, true, Option, Some, None}
use Rattle.std.proofs.lemmas.Bool.{and_parts}
use Rattle.std.specs.Option.{option_to_list}
use Rattle.std.specs.Prelude.{◌&&◌}
use Rattle.xs_elements.specs.Nodes.{Name}
use Rattle.xs_elements.specs.Reading.{is_seen}
use Rattle.xs_elements.specs.Tags.{is_template, is_variable}
use Rattle.xs_modules.specs.Numbering.{ModuleData}
use Rattle.xs_static.proofs.CoveringLemmas.{are_in_append, at_most_left, at_most_right, least_of_covering}
use Rattle.xs_static.proofs.MeetLemmas.{least_append}
use Rattle.xs_static.proofs.NameFaultLemmas.{globals_met, names_sound, templates_met}
use Rattle.xs_static.proofs.WalkFaultLemmas.{is_walked, walk_complete, walk_sound}
use Rattle.xs_static.specs.declared.fault.StaticFault.{StaticFault}
use Rattle.xs_static.specs.declared.names.Names.{Names}
use Rattle.xs_static.specs.Faults.{Fault, double_global, double_template, circular_set, number_of, Holds, IsFirstFault, IsLeastOf, IsStaticFault}
use Rattle.xs_structure.specs.Modules.{Place, line_at, records_at}
use Rattle.xs_structure.specs.Order.{declarations}
use Rattle.xs_static.specs.Names.{is_double, is_global, is_template_name}
use Rattle.xs_static.specs.steps.Covering.{AreIn, HasAtMost}
use Rattle.xs_static.specs.steps.Declared.{AreDeclared, names_faults}
use Rattle.xs_static.specs.steps.Found.{has_global, has_template, modules_faults}
use Rattle.xs_static.specs.steps.Least.{fault_of, least_of}
use Rattle.xs_static.specs.steps.Whole.{AreTrees}

-- the faults of circles
abbrev pub IsCircleFault : List ModuleData → StaticFault → Type 0
IsCircleFault ms f = IsStaticFault ms f × (f.number ≡ 44)

module _ (ms : List ModuleData) (names : Names) (trees : AreTrees ms) (some : 0 < length ms) (declared : AreDeclared ms (declarations ms) names) where
  globals : (uri local : List ℕ) → has_global names uri local ≡ is_global ms (uri, local)
  globals = declared.globals.names

  templates : (name : Name) → has_template names name ≡ is_template_name ms name
  templates name = declared.templates.names name.0 name.1

  circle-sound : (o : Option StaticFault) → IsLeastOf (IsCircleFault ms) o → AreIn (IsStaticFault ms) (option_to_list o)
  circle-sound None least = tt
  circle-sound (Some f) least = (least.0.0, tt)

  circle-complete : (o : Option StaticFault) → IsLeastOf (IsCircleFault ms) o → (f : StaticFault) → IsCircleFault ms f → HasAtMost f (option_to_list o)
  circle-complete None least f is = absurd (least f is)
  circle-complete (Some g) least f is = inl (least.1 f is)

  abbrev by_names : List StaticFault
  by_names = names_faults ms [] (declarations ms)

  abbrev by_walk : List StaticFault
  by_walk = modules_faults ms names (length ms)

  abbrev all_faults : Option StaticFault → List StaticFault
  all_faults o = by_names ++ (by_walk ++ option_to_list o)

  all-sound : (o : Option StaticFault) → IsLeastOf (IsCircleFault ms) o → AreIn (IsStaticFault ms) (all_faults o)
  all-sound o least =
      are_in_append (IsStaticFault ms) by_names (by_walk ++ option_to_list o) (names_sound ms trees some)
      (are_in_append (IsStaticFault ms) by_walk (option_to_list o) (walk_sound ms names trees globals templates) (circle-sound o least))

  -- a fault by its name
  spelled : (fault : Fault) (f : StaticFault) (s : IsStaticFault ms f) → s.fault ≡ fault
      → fault_of f.«module» (line_at ms f.«module» s.node) (number_of fault) ≡ f
  spelled fault f s e =
      sym (ap (λ (l : ℕ). fault_of f.«module» l f.number) s.line
      ∙ ap (fault_of f.«module» (line_at ms f.«module» s.node)) (s.number ∙ ap number_of e))

  by-fault : (o : Option StaticFault) → IsLeastOf (IsCircleFault ms) o → (fault : Fault) (f : StaticFault) (s : IsStaticFault ms f) → s.fault ≡ fault
      → HasAtMost f (all_faults o)
  by-fault o least double_global f s e =
      let holds : (is_seen (records_at ms f.«module») s.node && is_double is_variable ms (f.«module», s.node)) ≡ true =
      subst (λ x. Holds x ms (f.«module», s.node)) e s.holds in
      let double = (and_parts (is_seen (records_at ms f.«module») s.node) (is_double is_variable ms (f.«module», s.node)) holds).1 in
      at_most_left f by_names (by_walk ++ option_to_list o)
      (subst (λ g. HasAtMost g by_names) (spelled double_global f s e) (globals_met ms (f.«module», s.node) double))
  by-fault o least double_template f s e =
      let holds : (is_seen (records_at ms f.«module») s.node && is_double is_template ms (f.«module», s.node)) ≡ true =
      subst (λ x. Holds x ms (f.«module», s.node)) e s.holds in
      let double = (and_parts (is_seen (records_at ms f.«module») s.node) (is_double is_template ms (f.«module», s.node)) holds).1 in
      at_most_left f by_names (by_walk ++ option_to_list o)
      (subst (λ g. HasAtMost g by_names) (spelled double_template f s e) (templates_met ms (f.«module», s.node) double))
  by-fault o least circular_set f s e =
      at_most_right f by_names (by_walk ++ option_to_list o)
      (at_most_right f by_walk (option_to_list o) (circle-complete o least f (s, s.number ∙ ap number_of e)))
  by-fault o least fault f s e =
      at_most_right f by_names (by_walk ++ option_to_list o)
      (at_most_left f by_walk (option_to_list o) (walk_complete ms names trees globals templates f s (ap is_walked e)))

  -- the least of all is the first
  pub first_of_all : (o circle : Option StaticFault) → IsLeastOf (IsCircleFault ms) circle
      → o ≡ least_of (least_of (least_of None by_names) by_walk) (option_to_list circle) → IsFirstFault ms o
  first_of_all o circle least e =
      subst (IsLeastOf (IsStaticFault ms))
      (sym (e ∙ least_append (least_of None by_names) by_walk (option_to_list circle) ∙ least_append None by_names (by_walk ++ option_to_list circle)))
      (least_of_covering (IsStaticFault ms) (all_faults circle) (all-sound circle least) (λ f s. by-fault circle least s.fault f s refl))

-- ---- the same of the places that were collected
pub first_in_places : (ms : List ModuleData) (names : Names) (ps : List Place) (o circle : Option StaticFault) → AreTrees ms → 0 < length ms
    → ps ≡ declarations ms → AreDeclared ms ps names → IsLeastOf (IsCircleFault ms) circle
    → o ≡ least_of (least_of (least_of None (names_faults ms [] ps)) (modules_faults ms names (length ms))) (option_to_list circle)
    → IsFirstFault ms o
first_in_places ms names ps o circle trees some same declared least e =
    first_of_all ms names trees some (subst (λ (qs : List Place). AreDeclared ms qs names) same declared) o circle least
    (e
    ∙ ap (λ (qs : List Place). least_of (least_of (least_of None (names_faults ms [] qs)) (modules_faults ms names (length ms)))
    (option_to_list circle)) same)
