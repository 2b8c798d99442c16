-- Which of several declarations counts.
use Rattle.std.specs.Prelude.{ℕ, nat_lt, Bool, false, List, [], ◌∷◌, filter, Option, Some, None, if◌then◌else◌}
use Rattle.std.specs.List.{position}
use Rattle.std.specs.Option.{option_and_then, option_map_or}
use Rattle.xs_modules.specs.Numbering.{ModuleData}
use Rattle.xs_elements.specs.declared.tags.Tag.{Tag}
use Rattle.xs_elements.specs.Nodes.{Name}
use Rattle.xs_elements.specs.Tags.{is_template, is_variable}
use Rattle.xs_structure.specs.Modules.{Place, is_same_place, precedence_at}
use Rattle.xs_structure.specs.Order.{is_template_place, declares, declarations}
use Rattle.xs_structure.specs.Parts.{name_at, tag_at}

-- Of these, in the order of the stylesheet, the one with the highest import precedence, and of several such the last (XSLT 1.0, 2.6.2;
-- 7.1.1 and 16 on the last).
abbrev pub greater : List ModuleData → Place → Option Place → Place
greater ms p None = p
greater ms p (Some q) = if nat_lt (precedence_at ms q.0) (precedence_at ms p.0) then p else q

abbrev pub counted : List ModuleData → List Place → Option Place
counted ms [] = None
counted ms (p ∷ ps) = Some (greater ms p (counted ms ps))

abbrev pub is_counted : List ModuleData → List Place → Place → Bool
is_counted ms ps p = option_map_or (is_same_place p) (counted ms ps) false

-- the declarations of a kind with a name
abbrev pub named : (Tag → Bool) → List ModuleData → Name → List Place
named kind ms name = filter (declares kind ms name) (declarations ms)

-- ---- globals (11.4): of those with one name the one that counts
abbrev pub is_global : List ModuleData → Place → Bool
is_global ms p =
    if is_variable (tag_at ms p) then option_map_or (λ name. is_counted ms (named is_variable ms name) p) (name_at ms p) false else false

abbrev pub globals : List ModuleData → List Place
globals ms = filter (is_global ms) (declarations ms)

-- the number of the one with a name
abbrev pub global_number : List ModuleData → Name → Option ℕ
global_number ms name = position (declares is_variable ms name) (globals ms)

-- ---- templates: all of them, since one that has no name to be called by may still match
abbrev pub templates : List ModuleData → List Place
templates ms = filter (is_template_place ms) (declarations ms)

-- the number of the one that is called by a name (6)
abbrev pub template_number : List ModuleData → Name → Option ℕ
template_number ms name = option_and_then (λ p. position (is_same_place p) (templates ms)) (counted ms (named is_template ms name))
