-- Nodes in the order of sort keys, as steps.
use Rattle.std.proofs.Common.{◌≡◌, ℕ, ◌<◌, List, [], ◌∷◌, length, Result, Err, refl, sym, ap, subst, ◌∙◌, arith}
use Rattle.std.specs.List.{All}
use Rattle.std.proofs.lemmas.List.Elements.{All-same}
use Rattle.xs_eval_spec.specs.Context.{Context}
use Rattle.xs_eval_spec.proofs.StepLemmas.{gives}
use Rattle.xs_sheet.specs.declared.body.SortDecl.{SortDecl}
use Rattle.xs_sort.specs.Sorting.{sorted}
use Rattle.xs_sort.proofs.UnsortedLemmas.{unsorted}
use Rattle.xs_trace.specs.Play.{Step, Goes, IsStepBy}
use Rattle.xs_trace.specs.Run.{limited}
use Rattle.xs_trace.specs.State.{State}
use Rattle.xs_trace.specs.declared.item.Site.{Site}
use Rattle.xs_trace.specs.declared.recorder.Halt.{Halt}
use Rattle.xs_trace.specs.declared.recorder.Halt.TheVariants as halt
use Rattle.xs_trace.proofs.GrowthLemmas.{because}
use Rattle.xs_value.specs.Tables.{Table}
use Rattle.xs_value.specs.declared.value.Value.{Value}
use Rattle.xs_body_spec.specs.declared.focus.Focus.{Focus}
use Rattle.xs_body_spec.specs.World.{World, context, sorted_run}

-- without a sort key they stay as they are
pub unsorted-reported : {H : Type 0} → (w : World) (sorts : List SortDecl) (f : Focus) (vs : List Value) (ns : List ℕ) (p : Site) (s : State H) →
    length sorts ≡ 0 → limited p (sorted_run w sorts f vs ns) s ≡ Goes ns s
unsorted-reported w [] f vs ns p s e = ap (λ r. limited p r s) (unsorted w.keys (context w f vs []) ns) ∙ gives p ns s
unsorted-reported w (x ∷ xs) f vs ns p s e = absurd (omega arith)

-- the namespaces in scope for the context are never read
any-scope : (w : World) (sorts : List SortDecl) (f : Focus) (vs : List Value) (names : List (List ℕ × List ℕ)) (ns : List ℕ) →
    sorted w.keys sorts (context w f vs names) ns ≡ sorted_run w sorts f vs ns
any-scope w sorts f vs names ns = refl

-- what sorting gives, at the context of an instruction
pub sort-reported : {H B : Type 0} → (view : B → List ℕ) (w : World) (sorts : List SortDecl) (f : Focus) (vs : List Value) (names : List (List ℕ × List ℕ))
    (keys : List Table) (c : Context) (set ns : List ℕ) (p : Site) (s m : State H) (r : Result B Halt) → keys ≡ w.keys → c ≡ context w f vs names →
    set ≡ ns → IsStepBy view (limited p (sorted keys sorts c set) s) r m → IsStepBy view (limited p (sorted_run w sorts f vs ns) s) r m
sort-reported {H} view w sorts f vs names keys c set ns p s m r k a b h =
    let g : Step H (List ℕ) = limited p (sorted keys sorts c set) s in
    let e : g ≡ limited p (sorted_run w sorts f vs ns) s =
    ap (λ ks. limited p (sorted ks sorts c set) s) k
    ∙ ap (λ d. limited p (sorted w.keys sorts d set) s) a
    ∙ ap (λ l. limited p (sorted w.keys sorts (context w f vs names) l) s) b
    ∙ ap (λ q. limited p q s) (any-scope w sorts f vs names ns) in
    subst (λ (j : Step H (List ℕ)). IsStepBy view j r m) e h

-- an end, whatever a value would be
ends-same : {H A B C : Type 0} → (v : B → A) (u : C → A) (g : Step H A) (h : Halt) (s : State H) → IsStepBy v g (Err h) s → IsStepBy u g (Err h) s
ends-same v u g (halt.Fault f p) s q = q
ends-same v u g (halt.Needs k p) s q = q
ends-same v u g (halt.Spent p) s q = q
ends-same v u g (halt.Full p) s q = q
ends-same v u g (halt.Over t) s q = q
ends-same v u g halt.NoMemory s q = tt

-- where sorting ends
pub sort-ends : {H B C : Type 0} → (view : B → List ℕ) (u : C → List ℕ) (w : World) (sorts : List SortDecl) (f : Focus) (vs : List Value)
    (names : List (List ℕ × List ℕ)) (keys : List Table) (c : Context) (set ns : List ℕ) (p : Site) (s m : State H) (result : Result C Halt) (y h : Halt) →
    keys ≡ w.keys → c ≡ context w f vs names → set ≡ ns → result ≡ Err y → y ≡ h →
    IsStepBy view (limited p (sorted keys sorts c set) s) (Err h) m → IsStepBy u (limited p (sorted_run w sorts f vs ns) s) result m
sort-ends {H} {B} {C} view u w sorts f vs names keys c set ns p s m result y h k a b o i q =
    let g : Step H (List ℕ) = limited p (sorted_run w sorts f vs ns) s in
    because u g m result y h o i (ends-same view u g h m (sort-reported view w sorts f vs names keys c set ns p s m (Err h) k a b q))

-- its nodes are in the tree
pub set-inside : (w : World) (f : Focus) (vs : List Value) (names : List (List ℕ × List ℕ)) (c : Context) (set ns : List ℕ) →
    c ≡ context w f vs names → set ≡ ns → All (λ n. n < length w.tree) ns → All (λ n. n < length c.tree) set
set-inside w f vs names c set ns a b h =
    subst (λ (k : Context). All (λ n. n < length k.tree) set) (sym a) (All-same (λ n. n < length w.tree) set ns b h)
