-- A store after the marks of its sections.
use Rattle.std.proofs.Common.{◌≡◌, ℕ, zero, suc, ◌+◌, List, [], ◌∷◌, ◌++◌, length, Some, None, refl, sym, ap, ◌∙◌, append_assoc, append-nil, length-append, subst, arith}
use Rattle.xs_record.specs.Segment.{items_of}
use Rattle.xs_trace.specs.Mark.{Tick, Put, Hole, Trace, ticks}
use Rattle.xs_trace.specs.Fill.{numbered, tasks_of}
use Rattle.xs_trace.specs.Kept.{item_marks, marks_of, IsPacked}
use Rattle.xs_trace.specs.declared.event.Event.{Event}
use Rattle.xs_trace.specs.declared.item.Item.{Item}
use Rattle.xs_trace.specs.declared.item.Item.TheVariants as item
use Rattle.xs_trace.specs.declared.item.Site.{Site}
use Rattle.xs_record.specs.Outcome.{hole_mark, part_marks, section_marks, AreParts, AreSections}
use Rattle.xs_record.specs.Store.{Store, behind, counted, marked, put_into, reported_nothing}
use Rattle.xs_record.specs.declared.outcome.Part.{Part}

pub behind_counted : {H : Type 0} (t : Trace H) (p : Site) (n : ℕ) (s k : Store H) → k ≡ counted p n s → behind t k ≡ counted p n (behind t s)
behind_counted t p n s k e =
    ap (behind t) e ∙ ap (λ x. record { reported = x; captures = s.captures; at = (counted p n s).at }) (sym (append_assoc t s.reported (ticks p n [])))

pub behind_marked : {H : Type 0} (t x : Trace H) (s k : Store H) → k ≡ marked x s → behind t k ≡ marked x (behind t s)
behind_marked t x s k e = ap (behind t) e ∙ ap (λ y. record { reported = y; captures = s.captures; at = s.at }) (sym (append_assoc t s.reported x))

put-behind : {H : Type 0} (cs : List (List Event)) (t : Trace H) (e : Event) (s : Store H) → behind t (put_into cs e s) ≡ put_into cs e (behind t s)
put-behind [] t e s = behind_marked t (Put e ∷ []) s (marked (Put e ∷ []) s) refl
put-behind (c ∷ cs) t e s = refl

pub behind_put : {H : Type 0} (t : Trace H) (e : Event) (s k : Store H) → k ≡ put_into s.captures e s → behind t k ≡ put_into s.captures e (behind t s)
behind_put t e s k d = ap (behind t) d ∙ put-behind s.captures t e s

-- ---- one section more

sections-pushed : {H : Type 0} (ps : List Part) (ts : List H) (p : Part) (t : H) → length ts ≡ length ps →
    section_marks (ps ++ p ∷ []) (ts ++ t ∷ []) ≡ section_marks ps ts ++ (marks_of (items_of p.items) ++ Hole t ∷ [])
sections-pushed [] [] p t e = append-nil (marks_of (items_of p.items) ++ Hole t ∷ [])
sections-pushed [] (u ∷ ts) p t e = absurd (omega (arith, e))
sections-pushed (q ∷ ps) [] p t e = absurd (omega (arith, e))
sections-pushed (q ∷ ps) (u ∷ ts) p t e =
    ap (λ x. (marks_of (items_of q.items) ++ Hole u ∷ []) ++ x) (sections-pushed ps ts p t (omega (arith, e)))
    ∙ sym (append_assoc (marks_of (items_of q.items) ++ Hole u ∷ []) (section_marks ps ts) (marks_of (items_of p.items) ++ Hole t ∷ []))

pub are-pushed : (n : ℕ) (ps : List Part) (p : Part) → AreSections n ps → p.hole ≡ Some (n + length ps) → IsPacked (items_of p.items) →
    AreSections n (ps ++ p ∷ [])
are-pushed n [] p h e k = let d : n + 0 ≡ n = omega arith in (e ∙ ap Some d, (k, tt))
are-pushed n (q ∷ ps) p h e k =
    let d : n + suc (length ps) ≡ suc n + length ps = omega arith in
    (h.0, (h.1.0, are-pushed (suc n) ps p h.1.1 (e ∙ ap Some d) k))

-- a hole after a store
pub hole-marked : {H : Type 0} (ps qs : List Part) (ts us : List H) (p : Part) (t : H) (m k n : Store H) → behind (section_marks ps ts) m ≡ n →
    marks_of (items_of p.items) ≡ m.reported → k ≡ reported_nothing m → qs ≡ ps ++ p ∷ [] → us ≡ ts ++ t ∷ [] → length ts ≡ length ps →
    behind (section_marks qs us) k ≡ marked (Hole t ∷ []) n
hole-marked {H = H} ps qs ts us p t m k n v e r a b l =
    ap (behind (section_marks qs us)) r
    ∙ ap (λ x. At x)
    (append-nil (section_marks qs us) ∙ ap (λ x. section_marks x us) a ∙ ap (section_marks (ps ++ p ∷ [])) b ∙ sections-pushed ps ts p t l
    ∙ ap (λ u. section_marks ps ts ++ (u ++ Hole t ∷ [])) e ∙ sym (append_assoc (section_marks ps ts) m.reported (Hole t ∷ [])))
    ∙ ap (marked (Hole t ∷ [])) v
  where
    At : Trace H → Store H
    At x = record { reported = x; captures = m.captures; at = m.at }

-- ---- sections, and the part that no hole follows

pub are-parts : (n : ℕ) (ps : List Part) (p : Part) → AreSections n ps → p.hole ≡ None → IsPacked (items_of p.items) → AreParts n (ps ++ p ∷ [])
are-parts n [] p h e k = (e, k)
are-parts n (q ∷ []) p h e k = (h.0, (h.1.0, (e, k)))
are-parts n (q ∷ r ∷ ps) p h e k = (h.0, (h.1.0, are-parts (suc n) (r ∷ ps) p h.1.1 e k))

-- marks without holes keep their form
ticks-numbered : {H : Type 0} → (n : ℕ) (p : Site) (k : ℕ) (x : Trace H) → numbered n (ticks p k [] ++ x) ≡ ticks p k [] ++ numbered n x
ticks-numbered n p zero x = refl
ticks-numbered n p (suc k) x = ap (λ t. Tick p ∷ t) (ticks-numbered n p k x)

item-numbered : {H : Type 0} → (n : ℕ) (i : Item) (x : Trace H) → numbered n (item_marks i ++ x) ≡ item_marks i ++ numbered n x
item-numbered n (item.Run m l k) x = ticks-numbered n _ k x
item-numbered n (item.Put e) x = refl
item-numbered n (item.Say t) x = refl

items-numbered : {H : Type 0} → (n : ℕ) (is : List Item) (x : Trace H) → numbered n (marks_of is ++ x) ≡ marks_of is ++ numbered n x
items-numbered n [] x = refl
items-numbered n (i ∷ is) x =
    ap (numbered n) (append_assoc (item_marks i) (marks_of is) x) ∙ item-numbered n i (marks_of is ++ x)
    ∙ ap (λ t. item_marks i ++ t) (items-numbered n is x) ∙ sym (append_assoc (item_marks i) (marks_of is) (numbered n x))

ticks-tasks : {H : Type 0} → (p : Site) (k : ℕ) (x : Trace H) → tasks_of (ticks p k [] ++ x) ≡ tasks_of x
ticks-tasks p zero x = refl
ticks-tasks p (suc k) x = ticks-tasks p k x

item-tasks : {H : Type 0} → (i : Item) (x : Trace H) → tasks_of (item_marks i ++ x) ≡ tasks_of x
item-tasks (item.Run m l k) x = ticks-tasks _ k x
item-tasks (item.Put e) x = refl
item-tasks (item.Say t) x = refl

items-tasks : {H : Type 0} → (is : List Item) (x : Trace H) → tasks_of (marks_of is ++ x) ≡ tasks_of x
items-tasks [] x = refl
items-tasks (i ∷ is) x = ap tasks_of (append_assoc (item_marks i) (marks_of is) x) ∙ item-tasks i (marks_of is ++ x) ∙ items-tasks is x

-- a section, and what follows it
section-front : {H : Type 0} → (p : Part) (ps : List Part) (t : H) (ts : List H) (z : Trace H) →
    section_marks (p ∷ ps) (t ∷ ts) ++ z ≡ marks_of (items_of p.items) ++ (Hole t ∷ (section_marks ps ts ++ z))
section-front p ps t ts z =
    append_assoc (marks_of (items_of p.items) ++ Hole t ∷ []) (section_marks ps ts) z
    ∙ append_assoc (marks_of (items_of p.items)) (Hole t ∷ []) (section_marks ps ts ++ z)

pub parts-numbered : {H : Type 0} → (n : ℕ) (ps : List Part) (ts : List H) (p : Part) → AreSections n ps → length ts ≡ length ps → p.hole ≡ None →
    part_marks (ps ++ p ∷ []) ≡ numbered n (section_marks ps ts ++ marks_of (items_of p.items))
parts-numbered {H} n [] [] p h l e =
    append-nil (marks_of (items_of p.items) ++ hole_mark p.hole) ∙ ap (λ o. marks_of (items_of p.items) ++ hole_mark o) e
    ∙ sym (items-numbered {H = H} n (items_of p.items) []) ∙ ap (λ (x : Trace H). numbered n x) (append-nil (marks_of (items_of p.items)))
parts-numbered n [] (u ∷ ts) p h l e = absurd (omega (arith, l))
parts-numbered n (q ∷ ps) [] p h l e = absurd (omega (arith, l))
parts-numbered {H} n (q ∷ ps) (u ∷ ts) p h l e =
    ap (λ o. (marks_of (items_of q.items) ++ hole_mark o) ++ part_marks (ps ++ p ∷ [])) h.0
    ∙ append_assoc (marks_of (items_of q.items)) (Hole n ∷ []) (part_marks (ps ++ p ∷ []))
    ∙ ap (λ x. marks_of (items_of q.items) ++ (Hole n ∷ x)) (parts-numbered {H = H} (suc n) ps ts p h.1.1 (omega (arith, l)) e)
    ∙ sym (items-numbered n (items_of q.items) (Hole u ∷ (section_marks ps ts ++ marks_of (items_of p.items))))
    ∙ ap (numbered n) (sym (section-front q ps u ts (marks_of (items_of p.items))))

pub section-tasks : {H : Type 0} → (ps : List Part) (ts : List H) (is : List Item) → length ts ≡ length ps →
    tasks_of (section_marks ps ts ++ marks_of is) ≡ ts
section-tasks {H} [] [] is l = ap (λ (x : Trace H). tasks_of x) (sym (append-nil (marks_of is))) ∙ items-tasks {H = H} is []
section-tasks [] (u ∷ ts) is l = absurd (omega (arith, l))
section-tasks (q ∷ ps) [] is l = absurd (omega (arith, l))
section-tasks (q ∷ ps) (u ∷ ts) is l =
    ap tasks_of (section-front q ps u ts (marks_of is)) ∙ items-tasks (items_of q.items) (Hole u ∷ (section_marks ps ts ++ marks_of is))
    ∙ ap (λ x. u ∷ x) (section-tasks ps ts is (omega (arith, l)))

-- a section more, by what the pushes say
pub holes-pushed : {H : Type 0} (ps rs qs : List Part) (p : Part) (ts us vs : List H) (t : H) (n : ℕ) → rs ≡ ps → qs ≡ rs ++ p ∷ [] → us ≡ ts →
    vs ≡ us ++ t ∷ [] → AreSections 0 ps → p.hole ≡ Some n → n ≡ length rs → IsPacked (items_of p.items) → length ts ≡ length ps →
    AreSections 0 qs × (length vs ≡ length qs)
holes-pushed ps rs qs p ts us vs t n a b d e h i j k l =
    let q : qs ≡ ps ++ p ∷ [] = b ∙ ap (λ xs. xs ++ p ∷ []) a in
    let v : vs ≡ ts ++ t ∷ [] = e ∙ ap (λ xs. xs ++ t ∷ []) d in
    let z : length ps ≡ 0 + length ps = omega arith in
    let m : n ≡ 0 + length ps = j ∙ ap length a ∙ z in (
      subst (AreSections 0) (sym q) (are-pushed 0 ps p h (i ∙ ap Some m) k),
      ap length v ∙ length-append ts (t ∷ []) ∙ ap (λ k. k + 1) l ∙ sym (length-append ps (p ∷ [])) ∙ sym (ap length q),
    )

pub hole-reported : {H : Type 0} (ps rs qs : List Part) (p : Part) (ts us vs : List H) (t : H) (m k n : Store H) → rs ≡ ps → qs ≡ rs ++ p ∷ [] → us ≡ ts →
    vs ≡ us ++ t ∷ [] → length ts ≡ length ps → behind (section_marks ps ts) m ≡ n → marks_of (items_of p.items) ≡ m.reported → k ≡ reported_nothing m →
    behind (section_marks qs vs) k ≡ marked (Hole t ∷ []) n
hole-reported ps rs qs p ts us vs t m k n a b d e l v i r =
    hole-marked ps qs ts vs p t m k n v i r (b ∙ ap (λ xs. xs ++ p ∷ []) a) (e ∙ ap (λ xs. xs ++ t ∷ []) d) l

-- ---- the end of a store

pub finish-marks : {H : Type 0} (ps rs qs : List Part) (p : Part) (ts : List H) (m n : Store H) → rs ≡ ps → qs ≡ rs ++ p ∷ [] → AreSections 0 ps →
    length ts ≡ length ps → p.hole ≡ None → behind (section_marks ps ts) m ≡ n → marks_of (items_of p.items) ≡ m.reported →
    part_marks qs ≡ numbered 0 n.reported
finish-marks ps rs qs p ts m n a b h l e v i =
    ap part_marks (b ∙ ap (λ xs. xs ++ p ∷ []) a) ∙ parts-numbered 0 ps ts p h l e ∙ ap (λ x. numbered 0 (section_marks ps ts ++ x)) i
    ∙ ap (λ (z : Store _). numbered 0 z.reported) v

pub finish-parts : (ps rs qs : List Part) (p : Part) → rs ≡ ps → qs ≡ rs ++ p ∷ [] → AreSections 0 ps → p.hole ≡ None → IsPacked (items_of p.items) →
    AreParts 0 qs
finish-parts ps rs qs p a b h e k = subst (AreParts 0) (sym (b ∙ ap (λ xs. xs ++ p ∷ []) a)) (are-parts 0 ps p h e k)

pub finish-tasks : {H : Type 0} (old new : List H) (ps : List Part) (is : List Item) (ts : List H) (m n : Store H) → new ≡ old ++ ts →
    length ts ≡ length ps → behind (section_marks ps ts) m ≡ n → marks_of is ≡ m.reported → new ≡ old ++ tasks_of n.reported
finish-tasks old new ps is ts m n a l v i =
    a
    ∙ ap (λ x. old ++ x)
    (sym (section-tasks ps ts is l) ∙ ap (λ x. tasks_of (section_marks ps ts ++ x)) i ∙ ap (λ (z : Store _). tasks_of z.reported) v)
