-- What a stylesheet does needs a global only where that has no value yet.
use Rattle.std.proofs.Common.{◌≡◌, ℕ, suc, zero, ◌+◌, length, List, [], ◌∷◌, map, get_or, slice_get, Option, Some, None, Bool, true, sym, subst}
use Rattle.std.proofs.lemmas.Bool.{true≢false}
use Rattle.std.proofs.lemmas.Option.{get_or_from_slice_get, slice_get_within}
use Rattle.std.specs.List.{All}
use Rattle.std.specs.Option.{IsSome, is_some}
use Rattle.xs_sheet.specs.declared.declarations.Global.{Global}
use Rattle.xs_trace.specs.Cut.{End, Whole, Fault, Needs, Spent, Full, cut_from}
use Rattle.xs_trace.specs.Mark.{Tick, Put, Say, Stop, Need, Hole, Trace, ◌⨾◌, NeedsNothing, without_puts, events_of}
use Rattle.xs_trace.specs.declared.item.Site.{Site}
use Rattle.xs_value.specs.declared.value.Value.{Value}
use Rattle.xs_body_spec.specs.declared.focus.Focus.{Focus}
use Rattle.xs_body_spec.specs.World.{World, at_node}
use Rattle.xs_body_spec.specs.Tasks.{Job, Task, tasks_for, grain_over}
use Rattle.xs_body_spec.specs.Trace.{each, spread_by, task_trace}
use Rattle.xs_body_spec.specs.Globals.{attempt_trace, global_focus}
use Rattle.xs_body_spec.specs.Laws.{NeedsOnly}
use Rattle.xs_body_spec.proofs.SideLemmas.{IsKept, content-keeps, calls-keep, task-keeps}

only-then : (gs : List (Option Value)) (x y : Trace Task) → NeedsOnly gs x → NeedsOnly gs y → NeedsOnly gs (x ⨾ y)
only-then gs [] y h k = k
only-then gs (Tick p ∷ x) y h k = only-then gs x y h k
only-then gs (Put e ∷ x) y h k = only-then gs x y h k
only-then gs (Say t ∷ x) y h k = only-then gs x y h k
only-then gs (Stop n p ∷ x) y h k = h
only-then gs (Need g p ∷ x) y h k = h
only-then gs (Hole t ∷ x) y h k = only-then gs x y h k

only-captured : (gs : List (Option Value)) (x : Trace Task) → NeedsOnly gs x → NeedsOnly gs (without_puts x)
only-captured gs [] h = tt
only-captured gs (Tick p ∷ x) h = only-captured gs x h
only-captured gs (Put e ∷ x) h = only-captured gs x h
only-captured gs (Say t ∷ x) h = only-captured gs x h
only-captured gs (Stop n p ∷ x) h = only-captured gs x h
only-captured gs (Need g p ∷ x) h = h
only-captured gs (Hole t ∷ x) h = only-captured gs x h

only-each : (gs : List (Option Value)) (p : Site) (x : Focus → Trace Task) (f : Focus) → ((n i : ℕ) → NeedsOnly gs (x (at_node n i f))) →
    (i : ℕ) (ns : List ℕ) → NeedsOnly gs (each p x f i ns)
only-each gs p x f e i [] = tt
only-each gs p x f e i (n ∷ ns) = only-then gs (x (at_node n i f)) (each p x f (i + 1) ns) (e n i) (only-each gs p x f e (i + 1) ns)

only-holes : (gs : List (Option Value)) (ts : List Task) → NeedsOnly gs (map Hole ts)
only-holes gs [] = tt
only-holes gs (t ∷ ts) = only-holes gs ts

only-spread : (gs : List (Option Value)) (o : Option ℕ) (job : Job) (p : Site) (x : Focus → Trace Task) (f : Focus) (ns : List ℕ) →
    ((n i : ℕ) → NeedsOnly gs (x (at_node n i f))) → NeedsOnly gs (spread_by o job p x f ns)
only-spread gs None job p x f ns e = only-each gs p x f e 1 ns
only-spread gs (Some grain) job p x f ns e = only-holes gs (tasks_for grain job p f ns)

-- the first of the two alone
abbrev Only : World → Bool → Trace Task → Trace Task → Type 0
Only w b x v = NeedsOnly w.globals x

kept : (w : World) → IsKept w w.grain w.index (Only w)
kept w = record {
  nothing = λ b. tt;
  joins = λ b x v y z e o. only-then w.globals x y e o;
  ticks = λ b p x v e. e;
  puts = λ b e. tt;
  says = λ b t. tt;
  stops = λ b n p. tt;
  needs = λ b g p e. e;
  captures = λ b x v h k e o. only-then w.globals (without_puts x) (h (events_of x)) (only-captured w.globals x e) (o (events_of x));
  spreads = λ job p f ns x v e same. only-spread w.globals (grain_over w f (length ns)) job p x f ns e;
}

pub task-needs : (w : World) (t : Task) → NeedsOnly w.globals (task_trace w t)
task-needs w t = task-keeps w w.grain w.index (Only w) (kept w) t

pub attempt-needs : (w : World) (g : Option Global) → NeedsOnly w.globals (attempt_trace w g)
attempt-needs w None = tt
attempt-needs w (Some g) =
    content-keeps w w.grain w.index (Only w) (kept w) g.binding.content g.binding.site (global_focus w)
    (calls-keep w w.grain w.index (Only w) (kept w) (global_focus w)) []
    (λ u k v. []) (λ v. tt)

-- where a cut ends
abbrev EndNeeds : List (Option Value) → End → Type 0
EndNeeds gs Whole = Unit {0}
EndNeeds gs (Fault n p) = Unit {0}
EndNeeds gs (Needs g p) = slice_get gs g ≡ Some None
EndNeeds gs (Spent p) = Unit {0}
EndNeeds gs (Full p) = Unit {0}

end-needs : (gs : List (Option Value)) (x : Trace Task) → NeedsOnly gs x → (at : Site) (b : ℕ) (m : Option ℕ) → EndNeeds gs (cut_from x at b m).end
end-needs gs [] h at b m = tt
end-needs gs (Tick p ∷ x) h at zero m = tt
end-needs gs (Tick p ∷ x) h at (suc b) m = end-needs gs x h p b m
end-needs gs (Put e ∷ x) h at b None = end-needs gs x h at b None
end-needs gs (Put e ∷ x) h at b (Some zero) = tt
end-needs gs (Put e ∷ x) h at b (Some (suc m)) = end-needs gs x h at b (Some m)
end-needs gs (Say t ∷ x) h at b m = end-needs gs x h at b m
end-needs gs (Stop n p ∷ x) h at b m = tt
end-needs gs (Need g p ∷ x) h at b m = h
end-needs gs (Hole t ∷ x) h at b m = end-needs gs x h at b m

pub cut-needs : (gs : List (Option Value)) (x : Trace Task) → NeedsOnly gs x → (at : Site) (b : ℕ) (m : Option ℕ) (g : ℕ) (p : Site) →
    (cut_from x at b m).end ≡ Needs g p → slice_get gs g ≡ Some None
cut-needs gs x h at b m g p e = subst (EndNeeds gs) e (end-needs gs x h at b m)

-- where all globals have values
settled-has : (gs : List (Option Value)) → All IsSome gs → (g : ℕ) → slice_get gs g ≡ Some None → ⊥
settled-has gs a g e =
    let has : is_some (get_or gs g None) ≡ true = a g None (slice_get_within gs g None e) in
    true≢false (sym (subst (λ (o : Option Value). is_some o ≡ true) (get_or_from_slice_get gs g None None e) has))

pub settled-needs : (gs : List (Option Value)) (x : Trace Task) → All IsSome gs → NeedsOnly gs x → NeedsNothing x
settled-needs gs [] a h = tt
settled-needs gs (Tick p ∷ x) a h = settled-needs gs x a h
settled-needs gs (Put e ∷ x) a h = settled-needs gs x a h
settled-needs gs (Say t ∷ x) a h = settled-needs gs x a h
settled-needs gs (Stop n p ∷ x) a h = settled-needs gs x a h
settled-needs gs (Need g p ∷ x) a h = settled-has gs a g h
settled-needs gs (Hole t ∷ x) a h = settled-needs gs x a h
