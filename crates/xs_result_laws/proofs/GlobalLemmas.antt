-- The values of globals that are settled are named.
use Rattle.std.proofs.Common.{ℕ, zero, suc, ◌-◌, List, [], ◌∷◌, Option, None, Some, Bool, true, false, cond, map, slice_get}
use Rattle.std.specs.Prelude.{slice_set}
use Rattle.std.specs.List.{AllByRecursion}
use Rattle.std.specs.Option.{option_map}
use Rattle.xs_sheet.specs.declared.body.Content.{Content}
use Rattle.xs_sheet.specs.declared.body.Content.TheVariants.{Empty, Select, Body as Fragment}
use Rattle.xs_sheet.specs.declared.declarations.Global.{Global}
use Rattle.xs_trace.specs.Cut.{nowhere}
use Rattle.xs_trace.specs.Mark.{GoesOn, Trace, without_puts}
use Rattle.xs_trace.specs.Run.{Answer, Gives, Faults, Lacks}
use Rattle.xs_trace.specs.declared.item.Site.{Site}
use Rattle.xs_value.specs.declared.value.Value.{Value}
use Rattle.xs_value.specs.declared.value.Value.TheVariants.{Chars as String}
use Rattle.xs_making.specs.Laws.{CopiesAreWell, NamesAreWell}
use Rattle.xs_body_spec.specs.Globals as settles
use Rattle.xs_body_spec.specs.Globals.{AllSettle, Settled, Settles, Table, attempt_trace, attempt_value, content_value, ended, global_focus, settled, text_given}
use Rattle.xs_body_spec.specs.Globals.{value_given, value_in, with_globals}
use Rattle.xs_body_spec.specs.Tasks.{Task}
use Rattle.xs_body_spec.specs.Trace.{body_trace, calls_at, content_trace}
use Rattle.xs_body_spec.specs.World.{World, value_run}
use Rattle.xs_result_laws.specs.PutLaws.{SettledAreNamed}
use Rattle.xs_result_laws.specs.Named.{IsNamedBinding, IsNamedContent, IsNamedGlobal, IsNamedValue, IsNamedWorld}
use Rattle.xs_result_laws.proofs.CutLemmas.{cut_goes}
use Rattle.xs_result_laws.proofs.ItemLemmas.{OptionHas, item_has}
use Rattle.xs_result_laws.proofs.PartLemmas.{Parts, parts_of}
use Rattle.xs_result_laws.proofs.PutLemmas.{AnswerHas, goes_then, goes_without}
use Rattle.xs_result_laws.proofs.TraceLemmas.{body_put, calls_put, whole_named}

abbrev AreNamed : List (Option Value) → Type 0
AreNamed vs = AllByRecursion IsNamedGlobal vs

-- ---- an attempt
answer_value : (a : Answer Value) → AnswerHas IsNamedValue a → IsNamedValue (value_in a)
answer_value (Gives v) h = h
answer_value (Faults f) h = tt
answer_value (Lacks g) h = tt

content_named : (w : World) → IsNamedWorld w → Parts w → (content : Content) → IsNamedContent content → (p : Site)
    → GoesOn (content_trace content p w (calls_at w (global_focus w)) (global_focus w) [] (λ v. [])) → IsNamedValue (content_value w content)
content_named w world parts Empty n p g = tt
content_named w world parts (Select e) n p g = answer_value (value_run w e (global_focus w) []).end (parts.values e (global_focus w) [] tt)
content_named w world parts (Fragment body) n p g =
    let x : Trace Task = body_trace body w (calls_at w (global_focus w)) (global_focus w) [] in
    whole_named w world parts x
    (body_put w world parts body n (global_focus w) (calls_at w (global_focus w)) (calls_put w world parts (global_focus w)) [] tt)
    (goes_without x (goes_then (without_puts x) [] g).0)

attempt_named : (w : World) → IsNamedWorld w → Parts w → (o : Option Global) → OptionHas (λ (g : Global). IsNamedBinding g.binding) o
    → GoesOn (attempt_trace w o) → IsNamedValue (attempt_value w o)
attempt_named w world parts None n g = tt
attempt_named w world parts (Some x) n g = content_named w world parts x.binding.content n x.binding.site g

-- ---- settling
set_named : (vs : List (Option Value)) (g : ℕ) (v : Value) → AreNamed vs → IsNamedValue v → AreNamed (slice_set vs g (Some v))
set_named [] g v h n = tt
set_named (u ∷ vs) zero v h n = (n, h.1)
set_named (u ∷ vs) (suc g) v h n = (h.0, set_named vs g v h.1 n)

abbrev HasNamed : Settled → Type 0
HasNamed (settled t) = AreNamed t.values
HasNamed (ended t s) = AreNamed t.values

-- a world over other values
pub over_values : (w : World) (vs : List (Option Value)) → IsNamedWorld w → AreNamed vs → IsNamedWorld (with_globals w vs)
over_values w vs world h = record { sheet = world.sheet; shape = world.shape; tree = world.tree; globals = h; whole = world.whole }

module _ (names : NamesAreWell) (copies : CopiesAreWell) (w : World) (budget : ℕ) (world : IsNamedWorld w) where
  value_named : (t : Table) (g : ℕ) → AreNamed t.values → GoesOn (attempt_trace (with_globals w t.values) (slice_get w.sheet.globals g))
      → IsNamedValue (attempt_value (with_globals w t.values) (slice_get w.sheet.globals g))
  value_named t g h goes =
      attempt_named (with_globals w t.values) (over_values w t.values world h)
      (parts_of names copies (with_globals w t.values) (over_values w t.values world h))
      (slice_get w.sheet.globals g) (item_has (λ (x : Global). IsNamedBinding x.binding) w.sheet.globals g world.sheet.globals) goes

  settles_named : {under : List ℕ} {g : ℕ} {t : Table} {r : Settled} → Settles w budget under g t r → AreNamed t.values → HasNamed r
  settles_named {g = g} {t = t} (settles.whole e) h =
      let x : Trace Task = attempt_trace (with_globals w t.values) (slice_get w.sheet.globals g) in
      set_named t.values g (attempt_value (with_globals w t.values) (slice_get w.sheet.globals g)) h
      (value_named t g h (cut_goes x nowhere (budget - t.ticks) None e))
  settles_named (settles.faults e) h = h
  settles_named (settles.spends e) h = h
  settles_named (settles.circular e n) h = h
  settles_named (settles.needs e n k m) h = settles_named m (settles_named k h)
  settles_named (settles.stops e n k) h = settles_named k h

  all_named : {gs : List ℕ} {t : Table} {r : Settled} → AllSettle w budget gs t r → AreNamed t.values → HasNamed r
  all_named settles.none h = h
  all_named (settles.skips n k) h = all_named k h
  all_named (settles.next l k m) h = all_named m (settles_named k h)
  all_named (settles.stop l k) h = settles_named k h

given_named : (given : List (List ℕ × List ℕ)) (gs : List Global) → AreNamed (map (value_given given) gs)
given_named given [] = tt
given_named given (g ∷ gs) = (by_param g.param, given_named given gs)
  where
    by_text : (o : Option (List ℕ)) → IsNamedGlobal (option_map String o)
    by_text None = tt
    by_text (Some text) = tt

    by_param : (b : Bool) → IsNamedGlobal (cond b (option_map String (text_given given g.binding.name)) None)
    by_param true = by_text (text_given given g.binding.name)
    by_param false = tt

pub settled_are_named : NamesAreWell → CopiesAreWell → SettledAreNamed
settled_are_named names copies w given budget t world s = all_named names copies w budget world s.settle (given_named given w.sheet.globals)
