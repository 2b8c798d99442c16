-- What is known of the modules that were walked.
use Rattle.std.proofs.Common.{◌≡◌, ◌∙◌, ℕ, suc, zero, ◌+◌, ◌<◌, ◌≤◌, ap, refl, sym, subst, arith, inl, inr, ◌⊎◌, List, [], ◌∷◌, ◌++◌, map, take, true, false, Option, Some}
use Rattle.std.proofs.lemmas.Bool.{cases_lt, false≢true}
use Rattle.std.proofs.lemmas.List.Elements.{All-head, All-tail}
use Rattle.std.specs.List.{All}
use Rattle.std.specs.Option.{option_map_or}
use Rattle.std.specs.Prelude.{slice_get}
use Rattle.xs_modules.specs.Numbering.{ModuleData}
use Rattle.xs_static.proofs.MeetLemmas.{least_append}
use Rattle.xs_static.specs.declared.fault.StaticFault.{StaticFault}
use Rattle.xs_static.specs.declared.names.Names.{Names}
use Rattle.xs_structure.specs.declared.standing.Standing.{Standing}
use Rattle.xs_structure.specs.Modules.{records_at}
use Rattle.xs_static.specs.steps.Found.{module_faults, modules_faults}
use Rattle.xs_static.specs.steps.Least.{least_of}
use Rattle.xs_static.specs.declared.walk.Walked.{Walked}
use Rattle.xs_static.specs.steps.Whole.{AreWalked, IsWalked, WalkedData, walked_data, walked_of}
use Rattle.xs_structure.specs.Scopes.{scopes_in, scopes_of}
use Rattle.xs_structure.specs.Standing.{standing_of}
use Rattle.xs_tree.specs.Record.{Record, places}
use Rattle.xs_tree.specs.Shape.{IsTree}

pub all_at : (P : ModuleData → Type 0) (ms : List ModuleData) (n : ℕ) (d : ModuleData) → All P ms → slice_get ms n ≡ Some d → P d
all_at P [] n d all e = absurd (false≢true (ap (λ (o : Option ModuleData). option_map_or (λ z. true) o false) e))
all_at P (m ∷ ms) zero d all e = subst P (ap (λ (o : Option ModuleData). option_map_or (λ z. z) o m) e) (All-head P m ms all)
all_at P (m ∷ ms) (suc n) d all e = all_at P ms n d (All-tail P m ms all) e

-- ---- one module more
take-next : {X : Type 0} (xs : List X) (n : ℕ) (x : X) → slice_get xs n ≡ Some x → take (n + 1) xs ≡ take n xs ++ x ∷ []
take-next {X = X} [] n x e = absurd (false≢true (ap (λ (o : Option X). option_map_or (λ z. true) o false) e))
take-next {X = X} (y ∷ ys) zero x e = ap (λ z. z ∷ []) (ap (λ (o : Option X). option_map_or (λ z. z) o y) e)
take-next (y ∷ ys) (suc n) x e =
    let next : suc n + 1 ≡ suc (n + 1) = omega arith in
    ap (λ k. take k (y ∷ ys)) next ∙ ap (λ zs. y ∷ zs) (take-next ys n x e)

map-next : {X Y : Type 0} (f : X → Y) (xs : List X) (x : X) → map f (xs ++ x ∷ []) ≡ map f xs ++ f x ∷ []
map-next f [] x = refl
map-next f (y ∷ ys) x = ap (λ zs. f y ∷ zs) (map-next f ys x)

walked-same : (rs : List Record) (w : Walked) → IsWalked rs w → walked_data w ≡ (map (standing_of rs) (places rs), scopes_of rs)
walked-same rs w h =
    ap {B = WalkedData} (λ (ss : List Standing). (ss, scopes_in w.scopes)) h.standings
    ∙ ap {B = WalkedData} (λ (ps : List (List (List ℕ × List ℕ))). (map (standing_of rs) (places rs), ps)) h.scopes

pub walked_next : (ms : List ModuleData) (n : ℕ) (d : ModuleData) (old : List Walked) (w : Walked)
    → slice_get ms n ≡ Some d → IsWalked d.records w → AreWalked (take n ms) old → AreWalked (take (n + 1) ms) (old ++ w ∷ [])
walked_next ms n d old w e h before =
    map-next walked_data old w
    ∙ ap (λ (x : WalkedData). map walked_data old ++ x ∷ []) (walked-same d.records w h)
    ∙ ap (λ (xs : List WalkedData). xs ++ walked_of d ∷ []) before
    ∙ sym (map-next walked_of (take n ms) d)
    ∙ sym (ap (map walked_of) (take-next ms n d e))

last-tree : (ms : List ModuleData) (n m : ℕ) → ((k : ℕ) → k < n → IsTree (records_at ms k)) → IsTree (records_at ms n) → m < n + 1
    → (m < n) ⊎ (n ≤ m) → IsTree (records_at ms m)
last-tree ms n m before here h (inl l) = before m l
last-tree ms n m before here h (inr g) =
    let same : n ≡ m = omega (arith, h, g) in
    subst (λ k. IsTree (records_at ms k)) same here

pub trees_next : (ms : List ModuleData) (n : ℕ) → ((k : ℕ) → k < n → IsTree (records_at ms k)) → IsTree (records_at ms n)
    → (m : ℕ) → m < n + 1 → IsTree (records_at ms m)
trees_next ms n before here m h = last-tree ms n m before here h (cases_lt m n)

pub faults_none : (ms : List ModuleData) (names : Names) (start : Option StaticFault) → start ≡ least_of start (modules_faults ms names 0)
unfolding least_of modules_faults
faults_none ms names start = refl

faults-suc : (ms : List ModuleData) (names : Names) (n : ℕ) (d : ModuleData) → slice_get ms n ≡ Some d
    → modules_faults ms names n ++ module_faults d names n ≡ modules_faults ms names (suc n)
unfolding modules_faults
faults-suc ms names n d e =
    ap (λ o. modules_faults ms names n ++ option_map_or (λ d. module_faults d names n) o []) (sym e)

pub faults_next : (ms : List ModuleData) (names : Names) (n : ℕ) (d : ModuleData) (start old new : Option StaticFault) → slice_get ms n ≡ Some d
    → new ≡ least_of old (module_faults d names n) → old ≡ least_of start (modules_faults ms names n)
    → new ≡ least_of start (modules_faults ms names (n + 1))
faults_next ms names n d start old new e h before =
    let next : suc n ≡ n + 1 = omega arith in
    h ∙ ap (λ (o : Option StaticFault). least_of o (module_faults d names n)) before
    ∙ least_append start (modules_faults ms names n) (module_faults d names n)
    ∙ ap (least_of start) (faults-suc ms names n d e)
    ∙ ap (λ (k : ℕ). least_of start (modules_faults ms names k)) next
