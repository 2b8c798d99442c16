-- Entries stay what they are while their store grows.
use Rattle.std.proofs.Common.{◌≡◌, ℕ, List, [], ◌∷◌, Some, All, map, length, refl, sym, subst, arith, true, get_or, suc}
use Rattle.std.proofs.lemmas.List.{length-map}
use Rattle.xs_tree.specs.declared.entries.Entry.{Entry}
use Rattle.xs_tree.specs.declared.kinds.Kind.{Kind}
use Rattle.xs_tree.specs.declared.kinds.Kind.TheVariants.{Root, Element, Attribute, Space, Text, Comment, Pi}
use Rattle.xs_tree.specs.declared.store.Store.{Store}
use Rattle.xs_tree.specs.declared.trees.Tree.TheInside.{Inside}
use Rattle.xs_tree.specs.Kinds.{can_hold}
use Rattle.xs_tree.specs.Store.{Grows}
use Rattle.xs_tree.specs.View.{record_of, records, parent_of, IsStored, HaveEnds, IsWell}
use Rattle.xs_tree.proofs.StoreLemmas.{IsTextIn-grown, text_at-grown, name-longer}

pub IsStored-grown : (old new : Store) (e : Entry) → Grows old new → IsStored old e → IsStored new e
IsStored-grown old new e g s =
    record {
      placed = IsTextIn-grown old new e.kind e.text g s.placed;
      named = omega (arith, s.named, g.names.longer);
    }

pub record_of-grown : (old new : Store) (e : Entry) → Grows old new → IsStored old e → record_of new e ≡ record_of old e
record_of-grown old new e g s =
    rw (name-longer old.names new.names e.name g.names s.named, text_at-grown old new e.kind e.text g s.placed) refl

pub stored-grown : (old new : Store) (es : List Entry) → Grows old new → All (IsStored old) es → All (IsStored new) es
stored-grown old new es g s = λ k d h. IsStored-grown old new (get_or es k d) g (s k d h)

pub records-grown : (old new : Store) (es : List Entry) → Grows old new → All (IsStored old) es → map (record_of new) es ≡ map (record_of old) es
records-grown old new [] g s = refl
records-grown old new (e ∷ es) g s =
    let tail : All (IsStored old) es = λ k d h. s (suc k) d (omega (arith, h)) in
    rw (record_of-grown old new e g (s 0 e (omega arith)), records-grown old new es g tail) refl

-- a tree's records while its store grows
pub records-same : (t u : Inside) → u.nodes.items ≡ t.nodes.items → Grows t.store u.store → IsWell t → records u ≡ records t
records-same t u e g w = rw e (records-grown t.store u.store t.nodes.items g w.stored)

pub IsWell-same : (t u : Inside) → u.nodes.items ≡ t.nodes.items → Grows t.store u.store → IsWell t → IsWell u
IsWell-same t u e g w =
    record {
      stored = rw e (stored-grown t.store u.store t.nodes.items g w.stored);
      shape = rw (records-same t u e g w) w.shape;
      utf8 = rw (records-same t u e g w) w.utf8;
      few = rw e w.few;
      ends = subst (λ rs. HaveEnds rs u.nodes.items) (sym (records-same t u e g w)) (subst (λ es. HaveEnds (records t) es) (sym e) w.ends);
    }

-- a node that can be held is no root, so its entry's parent is its parent
pub parent_of-held : (above kind : Kind) (p : ℕ) → can_hold above kind ≡ true → parent_of kind p ≡ Some p
parent_of-held above Element p h = refl
parent_of-held above Attribute p h = refl
parent_of-held above Space p h = refl
parent_of-held above Text p h = refl
parent_of-held above Comment p h = refl
parent_of-held above Pi p h = refl
parent_of-held Root Root p h = cc
parent_of-held Element Root p h = cc
parent_of-held Attribute Root p h = cc
parent_of-held Space Root p h = cc
parent_of-held Text Root p h = cc
parent_of-held Comment Root p h = cc
parent_of-held Pi Root p h = cc

-- a tree has a record for each entry
pub length-records : (t : Inside) → length (records t) ≡ length t.nodes.items
length-records t = length-map t.nodes.items (record_of t.store)
