-- Tables of names: what they have after an entry is taken or put.
use Rattle.std.proofs.Common.{◌≡◌, ℕ, ◌+◌, Bool, true, false, List, Option, Some, None, Vec, map, refl, ap, ◌∙◌, vec_len}
use Rattle.std.specs.Prelude.{if◌then◌else◌}
use Rattle.std.specs.Borrow.{Bor}
use Rattle.std.specs.HashMap.{HashMap, get_by, values}
use Rattle.std.specs.List.{sum_by}
use Rattle.std.specs.List.Sorted.{IsPermutation}
use Rattle.std.specs.Map.{remove_entry, values_of}
use Rattle.std.proofs.lemmas.Map.Entries.{sum_by_values_permutation, sum_by-remove_entry}
use Rattle.xs_elements.specs.Nodes.{name_data}
use Rattle.xs_static.specs.steps.Uses.{names_in, taken_len}

pub names-taken : {A : Type 0} (t : Bool) (o : Option (Vec (Bor (List ℕ) × Bor (List ℕ)) A))
    → names_in (if t then None else o) ≡ (if t then None else names_in o)
names-taken true o = refl
names-taken false o = refl

pub names-put : {A : Type 0} (t : Bool) (v : Vec (Bor (List ℕ) × Bor (List ℕ)) A) (o : Option (Vec (Bor (List ℕ) × Bor (List ℕ)) A))
    → names_in (if t then Some v else o) ≡ (if t then Some (map name_data v.items) else names_in o)
names-put true v o = refl
names-put false v o = refl

-- the size falls by what is taken
pub size-taken : {K A S : Type 0} (test : K → Bool) (old new : HashMap K (Vec (Bor (List ℕ) × Bor (List ℕ)) A) S)
    (o : Option (Vec (Bor (List ℕ) × Bor (List ℕ)) A)) → o ≡ get_by test old → IsPermutation (remove_entry test old.entries) new.entries
    → sum_by (λ names. vec_len names) (values new) + taken_len o ≡ sum_by (λ names. vec_len names) (values old)
size-taken {A = A} test old new o is moved =
    let len : Vec (Bor (List ℕ) × Bor (List ℕ)) A → ℕ = λ names. vec_len names in
    ap (λ n. n + taken_len o) (sum_by_values_permutation len (remove_entry test old.entries) new.entries moved)
    ∙ ap (λ p. sum_by len (values_of (remove_entry test old.entries)) + taken_len p) is
    ∙ sum_by-remove_entry len test old.entries
