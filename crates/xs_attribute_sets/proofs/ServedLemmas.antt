-- What an index has of each name.
use Rattle.std.proofs.Common.{◌≡◌, suc, ◌&&◌, ◌||◌, not, inl, inr, Bool, true, false, cond, List, [], ◌∷◌, filter, refl, sym, ap, ◌∙◌}
use Rattle.std.proofs.lemmas.Bool.{and_parts, or_parts, true≢false}
use Rattle.std.proofs.lemmas.List.Elements.{All-cons, All-head, All-nil, All-tail}
use Rattle.std.proofs.lemmas.Slice.Eq.{bytes_eq-Decides}
use Rattle.std.specs.List.{All, list_all, list_any}
use Rattle.std.specs.Str.{bytes_eq}
use Rattle.indexmap.specs.IndexSet.{contains_by}
use Rattle.xs_sheet.specs.declared.body.Instr.{Instr}
use Rattle.xs_sheet.specs.declared.declarations.AttrSet.{AttrSet}
use Rattle.xs_sheet.specs.Sets.{is_same_label}
use Rattle.xs_trace.specs.Label.{Label}
use Rattle.xs_attribute_sets.specs.declared.index.SetIndex.{SetIndex}
use Rattle.xs_attribute_sets.specs.declared.flags.FlaggedSets.{FlaggedSets}
use Rattle.xs_attribute_sets.specs.Declarations.{by_precedence, declarations_of, has_name, highest}
use Rattle.xs_attribute_sets.specs.Indexed.{IsIdle, IsServed, IsSetIndex, declarations_in, grouped, is_flagged, is_of}
use Rattle.xs_attribute_sets.specs.steps.FlaggedSets.{are_none, is_closed, is_closed_at, is_idle}
use Rattle.xs_attribute_sets.proofs.OrderLemmas.{All-ranked}

-- names that are the same
pub same-parts : (a b : Label) → is_same_label a b ≡ true → (a.uri ≡ b.uri) × (a.local ≡ b.local)
same-parts a b e =
    let h = and_parts (bytes_eq a.uri b.uri) (bytes_eq a.local b.local) e in
    ((bytes_eq-Decides a.uri b.uri).0 h.0, (bytes_eq-Decides a.local b.local).0 h.1)

flagged-same : (m : FlaggedSets) (a b : Label) → is_same_label a b ≡ true → is_flagged m a ≡ is_flagged m b
flagged-same m a b e =
    let h = same-parts a b e in
    ap (λ uri. m.all || contains_by (λ k. bytes_eq uri k.0.now && bytes_eq a.local k.1.now) m.names) h.0
    ∙ ap (λ local. m.all || contains_by (λ k. bytes_eq b.uri k.0.now && bytes_eq local k.1.now) m.names) h.1

-- from tests of all to what they say of each
none-are : (is : List Instr) → are_none is ≡ true → is ≡ []
none-are [] e = refl
none-are (i ∷ is) e = absurd (true≢false (sym e))

negated : (b : Bool) → not b ≡ true → b ≡ false
negated true e = sym e
negated false e = refl

any-not : (p : Label → Bool) (xs : List Label) → list_any p xs ≡ false → All (λ x. p x ≡ false) xs
any-not p [] e = All-nil (λ x. p x ≡ false)
any-not p (x ∷ xs) e =
    let h = or_parts (p x) (list_any p xs) e in All-cons (λ y. p y ≡ false) x xs h.0 (any-not p xs h.1)

all-are : (p : AttrSet → Bool) (xs : List AttrSet) → list_all p xs ≡ true → All (λ x. p x ≡ true) xs
all-are p [] e = All-nil (λ x. p x ≡ true)
all-are p (x ∷ xs) e =
    let h = and_parts (p x) (list_all p xs) e in All-cons (λ y. p y ≡ true) x xs h.0 (all-are p xs h.1)

nothing-of : (i : SetIndex) (names : List Label) → All (λ n. is_flagged i.flags n ≡ false) names → All (λ n. declarations_in i n ≡ []) names
nothing-of i [] h = All-nil (λ n. declarations_in i n ≡ [])
nothing-of i (n ∷ ns) h =
    All-cons (λ m. declarations_in i m ≡ []) n ns (ap (λ b. cond b (grouped i.lists n) []) (All-head (λ m. is_flagged i.flags m ≡ false) n ns h))
    (nothing-of i ns (All-tail (λ m. is_flagged i.flags m ≡ false) n ns h))

idle-is : (i : SetIndex) (s : AttrSet) → is_idle i.flags s ≡ true → IsIdle i s
idle-is i s e =
    let h = and_parts (are_none s.attributes) (not (list_any (is_flagged i.flags) s.sets)) e in record {
      attributes = none-are s.attributes h.0;
      sets = nothing-of i s.sets (any-not (is_flagged i.flags) s.sets (negated (list_any (is_flagged i.flags) s.sets) h.1));
    }

closed-idle : (i : SetIndex) (name : Label) (s : AttrSet) → is_flagged i.flags name ≡ false → has_name name s ≡ true → is_closed_at i.flags s ≡ true →
    IsIdle i s
closed-idle i name s n h c =
    let q : is_flagged i.flags s.name ≡ false = sym (flagged-same i.flags name s.name h) ∙ n in
    idle-is i s (sym (ap (λ b. b || is_idle i.flags s) q) ∙ c)

-- those of a name
of-name : (i : SetIndex) (name : Label) → is_flagged i.flags name ≡ false → (ss : List AttrSet) → All (λ s. is_closed_at i.flags s ≡ true) ss →
    All (IsIdle i) (filter (has_name name) ss)
of-name i name n [] h = All-nil (IsIdle i)
of-name i name n (s ∷ ss) h =
    by_test (has_name name s) refl (of-name i name n ss (All-tail (λ t. is_closed_at i.flags t ≡ true) s ss h))
  where
    by_test : (b : Bool) → has_name name s ≡ b → All (IsIdle i) (filter (has_name name) ss) →
        All (IsIdle i) (cond b (s ∷ filter (has_name name) ss) (filter (has_name name) ss))
    by_test true q k =
        All-cons (IsIdle i) s (filter (has_name name) ss) (closed-idle i name s n q (All-head (λ t. is_closed_at i.flags t ≡ true) s ss h)) k
    by_test false q k = k

pub served : (all : List AttrSet) (i : SetIndex) → ((name : Label) → grouped i.lists name ≡ declarations_of all name) → is_closed i.flags all ≡ true →
    IsSetIndex all i
served all i g c name = by_flag (is_flagged i.flags name) refl
  where
    by_flag : (b : Bool) → is_flagged i.flags name ≡ b → IsServed all i name
    by_flag true q = inl (ap (λ b. cond b (grouped i.lists name) []) q ∙ g name)
    by_flag false q = inr (
      ap (λ b. cond b (grouped i.lists name) []) q,
      of-name i name q (by_precedence all)
          (All-ranked (λ s. is_closed_at i.flags s ≡ true) (suc (highest all)) all (all-are (is_closed_at i.flags) all c)),
    )

-- where all are flagged, none has to be idle
pub all-closed : (m : FlaggedSets) (ss : List AttrSet) → m.all ≡ true → is_closed m ss ≡ true
all-closed m [] e = refl
all-closed m (s ∷ ss) e =
    ap (λ b. ((b || contains_by (is_of s.name) m.names) || is_idle m s) && list_all (is_closed_at m) ss) e ∙ all-closed m ss e
