-- The tree of a document that is not refused has one root, under it one element and no text, and its text nodes are whole.
use Rattle.std.proofs.Common.{◌≡◌, ℕ, zero, suc, ◌+◌, ◌<◌, List, [], ◌∷◌, Bool, true, false, refl, sym, ◌∙◌, ap, subst}
use Rattle.std.proofs.Common.{length, filter, inl, inr, arith}
use Rattle.std.specs.Prelude.{◌&&◌, ◌||◌, cond}
use Rattle.std.specs.List.{range_with_len, count_by, list_any}
use Rattle.std.proofs.Math.Bool.{and-false}
use Rattle.std.proofs.lemmas.Bool.{cases_Bool}
use Rattle.xs_tree.specs.Kinds.{is_child_kind, is_text_kind, is_root_kind}
use Rattle.xs_tree.specs.Record.{Record, at, is_place}
use Rattle.xs_tree.specs.declared.kinds.Kind.{Kind}
use Rattle.xs_tree.specs.declared.kinds.Kind.TheVariants as kind
use Rattle.xs_build.specs.Namespaces.{is_empty}
use Rattle.xs_build.specs.Document.{tree, document}
use Rattle.xs_tree.specs.Kinds.{is_element_kind}
use Rattle.xs_build.specs.DocumentTree.{HasOneRoot, HasTopElement, IsWholeText}
use Rattle.xs_build.proofs.WellFormedLemmas.ChainLemmas.{count_cons, is_top, is_top_text, Follows, Chain}
use Rattle.xs_build.proofs.WellFormedLemmas.ChainLineLemmas.{Formed, formed}

-- the nodes by their places
chain_at : (r : Record) (rs : List Record) → Chain r rs → (k : ℕ) → k < length rs → Follows (at (r ∷ rs) k) (at rs k)
chain_at r [] c k h = absurd (omega arith)
chain_at r (s ∷ ss) c zero h = c.0
chain_at r (s ∷ ss) c (suc k) h = chain_at s ss c.1 k (omega arith)

apart_at : (r : Record) (rs : List Record) → Chain r rs → (k : ℕ) → is_text_kind (at (r ∷ rs) k).kind ≡ true → (at rs k).parent ≡ (at (r ∷ rs) k).parent
    → is_text_kind (at rs k).kind ≡ false
apart_at r [] c zero t e = refl
apart_at r [] c (suc k) t e = refl
apart_at r (s ∷ ss) c zero t e = c.0.apart t e
apart_at r (s ∷ ss) c (suc k) t e = apart_at s ss c.1 k t e

apart_next : (r : Record) (rs : List Record) → Chain r rs → (k m : ℕ) → m ≡ suc k → is_text_kind (at (r ∷ rs) k).kind ≡ true
    → (at (r ∷ rs) m).parent ≡ (at (r ∷ rs) k).parent → is_text_kind (at (r ∷ rs) m).kind ≡ false
apart_next r rs c k m is t = subst (λ n. (at (r ∷ rs) n).parent ≡ (at (r ∷ rs) k).parent
    → is_text_kind (at (r ∷ rs) n).kind ≡ false) (sym is) (apart_at r rs c k t)

one_root : (rs : List Record) → Formed rs → HasOneRoot rs
one_root [] f k h e = absurd f
one_root (r ∷ rs) f zero h e = refl
one_root (r ∷ rs) f (suc k) h e =
    let no : false ≡ true = sym (chain_at r rs f.1.chain k (omega arith)).under ∙ ap is_root_kind e in
    cc

full_text : (s : Record) → s.kind ≡ kind.Text → (is_text_kind s.kind && is_empty s.text) ≡ false → is_empty s.text ≡ false
full_text s e h = sym (ap (λ k. is_text_kind k && is_empty s.text) e) ∙ h

whole_text : (rs : List Record) → Formed rs → (k : ℕ) → k < length rs → (at rs k).kind ≡ kind.Text → IsWholeText rs k
whole_text [] f k h e = absurd f
whole_text (r ∷ rs) f zero h e = let no : kind.Root ≡ kind.Text = sym (ap (λ (s : Record). s.kind) f.0) ∙ e in cc
whole_text (r ∷ rs) f (suc k) h e = record {
  some = full_text (at rs k) e (chain_at r rs f.1.chain k (omega arith)).full;
  apart = apart_next r rs f.1.chain (suc k) (suc k + 1) (omega arith) (ap is_text_kind e);
}

-- the children of the root among the nodes
count_kept : (p q : ℕ → Bool) (k : ℕ) (ks : List ℕ) → count_by p (filter q (k ∷ ks)) ≡ cond (q k && p k) 1 0 + count_by p (filter q ks)
count_kept p q k ks =
    elim (cases_Bool (q k)) [
      | inl t ↦ rw t (count_cons p k (filter q ks))
      | inr f ↦ rw f (omega arith)
    ]

any_kept : (p q : ℕ → Bool) (k : ℕ) (ks : List ℕ) → list_any p (filter q (k ∷ ks)) ≡ (q k && p k || list_any p (filter q ks))
any_kept p q k ks =
    elim (cases_Bool (q k)) [
      | inl t ↦ rw t refl
      | inr f ↦ rw f refl
    ]

top_same : (place : Bool) (k : Kind) → (place && is_child_kind k && is_element_kind k) ≡ (is_element_kind k && place)
top_same false k = sym (and-false (is_element_kind k))
top_same true kind.Root = refl
top_same true kind.Element = refl
top_same true kind.Attribute = refl
top_same true kind.Space = refl
top_same true kind.Text = refl
top_same true kind.Comment = refl
top_same true kind.Pi = refl

text_same : (place : Bool) (k : Kind) → (place && is_child_kind k && is_text_kind k) ≡ (is_text_kind k && place)
text_same false k = sym (and-false (is_text_kind k))
text_same true kind.Root = refl
text_same true kind.Element = refl
text_same true kind.Attribute = refl
text_same true kind.Space = refl
text_same true kind.Text = refl
text_same true kind.Comment = refl
text_same true kind.Pi = refl

and_again : (a b c : Bool) → ((a && b) && c) ≡ (a && b && c)
and_again true b c = refl
and_again false b c = refl

-- whether the node that f finds at a place is a child of the root
abbrev is_below : (ℕ → Record) → ℕ → Bool
is_below f k = is_place 0 (f k).parent && is_child_kind (f k).kind

top_at : (s : Record) → ((is_place 0 s.parent && is_child_kind s.kind) && is_element_kind s.kind) ≡ is_top s
top_at s = and_again (is_place 0 s.parent) (is_child_kind s.kind) (is_element_kind s.kind) ∙ top_same (is_place 0 s.parent) s.kind

text_at : (s : Record) → ((is_place 0 s.parent && is_child_kind s.kind) && is_text_kind s.kind) ≡ is_top_text s
text_at s = and_again (is_place 0 s.parent) (is_child_kind s.kind) (is_text_kind s.kind) ∙ text_same (is_place 0 s.parent) s.kind

places_count : (f : ℕ → Record) (k : ℕ) (rs : List Record) → ((i : ℕ) → i < length rs → f (k + i) ≡ at rs i) →
    count_by (λ j. is_element_kind (f j).kind) (filter (is_below f) (range_with_len k (length rs))) ≡ count_by is_top rs
places_count f k [] h = refl
places_count f k (r ∷ rs) h =
    let ks = range_with_len (k + 1) (length rs) in
    let zero_more : k ≡ k + 0 = omega arith in
    let here : f k ≡ r = ap f zero_more ∙ h 0 (omega arith) in
    let rest : count_by (λ j. is_element_kind (f j).kind) (filter (is_below f) ks) ≡ count_by is_top rs =
    places_count f (k + 1) rs (λ i b. (let one_more : k + 1 + i ≡ k + suc i = omega arith in ap f one_more ∙ h (suc i) (omega arith))) in
    count_kept (λ j. is_element_kind (f j).kind) (is_below f) k ks
    ∙ ap (λ b. cond b 1 0 + count_by (λ j. is_element_kind (f j).kind) (filter (is_below f) ks)) (top_at (f k) ∙ ap is_top here)
    ∙ ap (λ n. cond (is_top r) 1 0 + n) rest
    ∙ sym (count_cons is_top r rs)

places_any : (f : ℕ → Record) (k : ℕ) (rs : List Record) → ((i : ℕ) → i < length rs → f (k + i) ≡ at rs i) →
    list_any (λ j. is_text_kind (f j).kind) (filter (is_below f) (range_with_len k (length rs))) ≡ list_any is_top_text rs
places_any f k [] h = refl
places_any f k (r ∷ rs) h =
    let ks = range_with_len (k + 1) (length rs) in
    let zero_more : k ≡ k + 0 = omega arith in
    let here : f k ≡ r = ap f zero_more ∙ h 0 (omega arith) in
    let rest : list_any (λ j. is_text_kind (f j).kind) (filter (is_below f) ks) ≡ list_any is_top_text rs =
    places_any f (k + 1) rs (λ i b. (let one_more : k + 1 + i ≡ k + suc i = omega arith in ap f one_more ∙ h (suc i) (omega arith))) in
    any_kept (λ j. is_text_kind (f j).kind) (is_below f) k ks
    ∙ ap (λ b. b || list_any (λ j. is_text_kind (f j).kind) (filter (is_below f) ks)) (text_at (f k) ∙ ap is_top_text here)
    ∙ ap (λ b. is_top_text r || b) rest

same_place : (rs : List Record) (i : ℕ) → at rs (0 + i) ≡ at rs i
same_place rs i = let e : 0 + i ≡ i = omega arith in ap (at rs) e

no_top_text : (r : Record) (rs : List Record) → Chain r rs → list_any is_top_text rs ≡ false
no_top_text r [] c = refl
no_top_text r (s ∷ ss) c = ap (λ b. b || list_any is_top_text ss) c.0.deep ∙ no_top_text s ss c.1

top_element : (rs : List Record) → Formed rs → HasTopElement rs 0
top_element [] f = absurd f
top_element (r ∷ rs) f = record {
  one = places_count (at (r ∷ rs)) 0 (r ∷ rs) (λ i b. same_place (r ∷ rs) i) ∙ count_cons is_top r rs ∙ ap (λ s. cond (is_top s) 1 0 + count_by is_top rs) f.0
      ∙ ap (λ n. 0 + n) f.1.tops;
  alone = places_any (at (r ∷ rs)) 0 (r ∷ rs) (λ i b. same_place (r ∷ rs) i) ∙ ap (λ s. is_top_text s || list_any is_top_text rs) f.0
      ∙ no_top_text r rs f.1.chain;
}

-- The tree of a document that is not refused has one root.
pub has_one_root : (limit : ℕ) (bytes : List ℕ) (rs : List Record) (lines : List ℕ) → document limit bytes ≡ tree rs lines → HasOneRoot rs
has_one_root limit bytes rs lines e = one_root rs (formed limit bytes rs lines e)

-- Under the root it has one element and no text.
pub has_top_element : (limit : ℕ) (bytes : List ℕ) (rs : List Record) (lines : List ℕ) → document limit bytes ≡ tree rs lines → HasTopElement rs 0
has_top_element limit bytes rs lines e = top_element rs (formed limit bytes rs lines e)

-- Its text nodes are whole.
pub has_whole_texts : (limit : ℕ) (bytes : List ℕ) (rs : List Record) (lines : List ℕ) → document limit bytes ≡ tree rs lines → (k : ℕ) → k < length rs
    → (at rs k).kind ≡ kind.Text → IsWholeText rs k
has_whole_texts limit bytes rs lines e = whole_text rs (formed limit bytes rs lines e)

begins_root : (rs : List Record) → Formed rs → (0 < length rs) × ((at rs 0).kind ≡ kind.Root)
begins_root [] f = absurd f
begins_root (r ∷ rs) f = (omega arith, ap (λ (s : Record). s.kind) f.0)

-- It begins with a root.
pub begins_document : (limit : ℕ) (bytes : List ℕ) (rs : List Record) (lines : List ℕ) → document limit bytes ≡ tree rs lines → (0 < length rs)
    × ((at rs 0).kind ≡ kind.Root)
begins_document limit bytes rs lines e = begins_root rs (formed limit bytes rs lines e)
