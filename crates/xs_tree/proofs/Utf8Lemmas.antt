-- The string values of nodes are UTF-8.
use Rattle.std.proofs.Common.{◌≡◌, ℕ, Bool, true, false, List, [], ◌∷◌, ◌++◌, length, subst, sym, OnOk, OnErr, Ok, Err, inl, inr, if◌then◌else◌}
use Rattle.std.specs.Prelude.{Result}
use Rattle.std.specs.Str.{IsUtf8}
use Rattle.std.specs.List.{flat_map}
use Rattle.std.proofs.lemmas.List.{get_or_past}
use Rattle.std.proofs.lemmas.Str.{IsUtf8-append, IsUtf8-nil}
use Rattle.xs_tree.specs.Kinds.{has_content}
use Rattle.xs_tree.specs.Record.{Record, root_record, at, texts, string_value}
use Rattle.xs_tree.specs.Utf8.{AreUtf8}
use Rattle.xs_tree.proofs.WalkLemmas.{le_or_gt}

pub IsUtf8-text : (rs : List Record) (k : ℕ) → AreUtf8 rs → IsUtf8 (at rs k).text
IsUtf8-text rs k all =
    elim (le_or_gt (length rs) k) [
      | inl past ↦ (let e : at rs k ≡ root_record = get_or_past rs k root_record past in rw e IsUtf8-nil)
      | inr within ↦ (all k root_record within).text
    ]

IsUtf8-texts : (rs : List Record) (ks : List ℕ) → AreUtf8 rs → IsUtf8 (flat_map (λ k. (at rs k).text) ks)
IsUtf8-texts rs [] all = IsUtf8-nil
IsUtf8-texts rs (k ∷ ks) all =
    IsUtf8-append (at rs k).text (flat_map (λ k. (at rs k).text) ks) (IsUtf8-text rs k all) (IsUtf8-texts rs ks all)

pub IsUtf8-string_value : (rs : List Record) (n : ℕ) → AreUtf8 rs → IsUtf8 (string_value rs n)
IsUtf8-string_value rs n all = by_kind (has_content (at rs n).kind)
  where
    by_kind : (b : Bool) → IsUtf8 (if b then flat_map (λ k. (at rs k).text) (texts rs n) else (at rs n).text)
    by_kind true = IsUtf8-texts rs (texts rs n) all
    by_kind false = IsUtf8-text rs n all

-- a buffer of characters to which characters are appended, or nothing
pub IsUtf8-appended : {T E : Type 0} (r : Result T E) (old new extra : List ℕ) → OnOk r (new ≡ old ++ extra) → OnErr r (new ≡ old) → IsUtf8 extra → IsUtf8 old
    → IsUtf8 new
IsUtf8-appended (Ok x) old new extra ok err u v = subst IsUtf8 (sym ok) (IsUtf8-append old extra v u)
IsUtf8-appended (Err x) old new extra ok err u v = subst IsUtf8 (sym err) v

pub IsUtf8-extended : (b : Bool) (old new extra : List ℕ) → new ≡ (if b then old ++ extra else old) → IsUtf8 extra → IsUtf8 old → IsUtf8 new
IsUtf8-extended true old new extra e u v = subst IsUtf8 (sym e) (IsUtf8-append old extra v u)
IsUtf8-extended false old new extra e u v = subst IsUtf8 (sym e) v
