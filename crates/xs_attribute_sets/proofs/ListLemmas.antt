-- The declarations of each name, as a map of names has them.
use Rattle.std.proofs.Common.{◌≡◌, ℕ, ◌&&◌, ◌∙◌, Bool, true, false, cond, List, Option, Some, ap, map, refl, sym}
use Rattle.std.proofs.lemmas.Bool.{and_parts, true≢false}
use Rattle.std.proofs.lemmas.Slice.Eq.{bytes_eq-Decides}
use Rattle.std.specs.Borrow.{Bor}
use Rattle.std.specs.Global.{Vec}
use Rattle.std.specs.Str.{bytes_eq}
use Rattle.indexmap.specs.IndexMap.{IndexMap, get_by}
use Rattle.xs_sheet.specs.declared.declarations.AttrSet.{AttrSet}
use Rattle.xs_trace.specs.Label.{Label}
use Rattle.xs_attribute_sets.specs.Indexed.{grouped, is_of, listed}

abbrev pub Key : Type 0
Key = Bor (List ℕ) × Bor (List ℕ)

-- a name as a key, to be looked up
abbrev pub key_of : Label → Key
key_of name = (record { ref_ptr = (0, 0); now = name.uri }, record { ref_ptr = (0, 0); now = name.local })

-- the test of a key for another one
abbrev pub is_key : Key → Key → Bool
is_key key k = bytes_eq key.0.now k.0.now && bytes_eq key.1.now k.1.now

same-bytes : (xs ys : List ℕ) → bytes_eq xs ys ≡ true → xs ≡ ys
same-bytes xs ys e = (bytes_eq-Decides xs ys).0 e

bytes-swap : (xs ys : List ℕ) → bytes_eq xs ys ≡ bytes_eq ys xs
bytes-swap xs ys = by_test (bytes_eq xs ys) (bytes_eq ys xs) refl refl
  where
    by_test : (b c : Bool) → bytes_eq xs ys ≡ b → bytes_eq ys xs ≡ c → b ≡ c
    by_test true true e f = refl
    by_test false false e f = refl
    by_test true false e f = absurd (true≢false (sym ((bytes_eq-Decides ys xs).1 (sym (same-bytes xs ys e))) ∙ f))
    by_test false true e f = absurd (true≢false (sym ((bytes_eq-Decides xs ys).1 (sym (same-bytes ys xs f))) ∙ e))

pub key-swap : (key : Key) (name : Label) → is_key key (key_of name) ≡ is_of name key
key-swap key name =
    ap (λ (b : Bool). b && bytes_eq key.1.now name.local) (bytes-swap key.0.now name.uri)
    ∙ ap (λ (b : Bool). bytes_eq name.uri key.0.now && b) (bytes-swap key.1.now name.local)

-- a name that a key has is found by that key
pub found-same : {S : Type 0} (lists : IndexMap Key (Vec (Bor AttrSet)) S) (name : Label) (key : Key) → is_of name key ≡ true →
    listed (get_by (is_key key) lists) ≡ grouped lists name
found-same lists name key e =
    let h = and_parts (bytes_eq name.uri key.0.now) (bytes_eq name.local key.1.now) e in
    ap (λ (uri : List ℕ). listed (get_by (λ (k : Key). bytes_eq uri k.0.now && bytes_eq key.1.now k.1.now) lists)) (sym (same-bytes name.uri key.0.now h.0))
    ∙ ap (λ (local : List ℕ). listed (get_by (λ (k : Key). bytes_eq name.uri k.0.now && bytes_eq local k.1.now) lists))
    (sym (same-bytes name.local key.1.now h.1))

-- the list of a name where one is put
pub put-listed : (test swapped : Bool) (list : Vec (Bor AttrSet)) (old : Option (Vec (Bor AttrSet))) → test ≡ swapped →
    listed (cond test (Some list) old) ≡ cond swapped (map (λ s. s.now) list.items) (listed old)
put-listed true true list old e = refl
put-listed false false list old e = refl
put-listed true false list old e = absurd (true≢false e)
put-listed false true list old e = absurd (true≢false (sym e))
