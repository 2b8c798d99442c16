-- What a search among the entries of a library finds, reported by their names and bytes.
use Rattle.std.proofs.Common.{◌≡◌, ℕ, List, [], ◌∷◌, Bool, true, false, cond, Option, Some, map, refl}
use Rattle.std.specs.Prelude.{find, String, Vec, string_bytes}
use Rattle.std.specs.declared.alloc.Global.{Global}
use Rattle.std.specs.Option.{option_map}
use Rattle.std.specs.Str.{bytes_eq}
use Rattle.xs_outside.specs.Memory.{File, file_of, file_parts}

abbrev Entry : Type 0
Entry = String Global × Vec ℕ Global

-- one entry more in front
found_first : (b : Bool) (f : Entry) (o : Option File) (p : Option Entry)
    → option_map (λ f. f.1) o ≡ option_map (λ f. f.1.items) p
    → option_map (λ f. f.1) (cond b (Some (file_parts f)) o) ≡ option_map (λ f. f.1.items) (cond b (Some f) p)
found_first true f o p same = refl
found_first false f o p same = same

-- the file of a name is that of the first entry of that name
pub file_of_entries : (files : List (String Global × Vec ℕ Global)) (name : List ℕ)
    → file_of (map file_parts files) name ≡ option_map (λ f. f.1.items) (find (λ f. bytes_eq (string_bytes f.0) name) files)
file_of_entries [] name = refl
file_of_entries (f ∷ fs) name =
    let others = find (λ f. bytes_eq f.0 name) (map file_parts fs) in
    found_first (bytes_eq (string_bytes f.0) name) f others (find (λ f. bytes_eq (string_bytes f.0) name) fs) (file_of_entries fs name)
