-- Blocks of parts, and of the pool that they come back to.
use Rattle.std.proofs.Common.{◌≡◌, ℕ, ◌+◌, ◌-◌, ◌≤◌, List, [], ◌∷◌, ◌++◌, length, min, arith, ap, sym, subst, ◌∙◌}
use Rattle.xs_block.specs.Chain.{blocks_of, most_blocks, with_free}
use Rattle.xs_record.specs.Outcome.{part_blocks}
use Rattle.xs_record.specs.declared.outcome.Part.{Part}

pub blocks-pushed : (ps : List Part) (p : Part) → part_blocks (ps ++ p ∷ []) ≡ part_blocks ps + blocks_of p.items
blocks-pushed [] p = omega arith
blocks-pushed (q ∷ ps) p = omega (arith, blocks-pushed ps p)

-- so many blocks come back, up to what can be counted
abbrev pub Gives : ℕ → ℕ → Type 0
Gives held back = (n : ℕ) → n ≤ most_blocks → n ≤ held → n ≤ back

-- a part more, whose items were taken out of the marks
pub taken-back : (before marks new taken log pool : ℕ) → marks ≤ new + taken → log ≡ new → Gives log pool →
    Gives (before + marks) ((before + taken) + pool)
taken-back before marks new taken log pool h e f n le k =
    let a : n - (before + taken) ≤ pool = f (n - (before + taken)) (omega (arith, le)) (omega (arith, k, h, e)) in
    omega (arith, a)

-- all parts come back
pub all-back : (before marks new log pool back : ℕ) → marks ≤ new → log ≡ new → Gives log pool → Gives (before + pool) back → Gives (before + marks) back
all-back before marks new log pool back h e f g n le k =
    let a : n - before ≤ pool = f (n - before) (omega (arith, le)) (omega (arith, k, h, e)) in
    g n le (omega (arith, a))

pub parts-back : (parts marks pool back : ℕ) → Gives marks (parts + pool) → Gives (parts + pool) back → Gives marks back
parts-back parts marks pool back f g n le k = g n le (f n le k)

-- one part comes back
up-to : (most left taken pool n : ℕ) → n ≤ most → n ≤ (left + taken) + pool → n ≤ left + (pool + min taken (most - pool))
up-to most left taken pool n le k = omega (arith, le, k)

pub one-back : (left taken pool : ℕ) → Gives ((left + taken) + pool) (left + with_free pool taken)
one-back left taken pool n le k = up-to most_blocks left taken pool n le k

-- a section more
pub hole-blocks : (ps rs qs : List Part) (p : Part) (marks new now : ℕ) → rs ≡ ps → qs ≡ rs ++ p ∷ [] → part_blocks ps + marks ≡ now →
    marks ≤ new + blocks_of p.items → now ≤ part_blocks qs + new
hole-blocks ps rs qs p marks new now a b v h =
    let q : part_blocks qs ≡ part_blocks ps + blocks_of p.items = ap part_blocks b ∙ blocks-pushed rs p ∙ ap (λ xs. part_blocks xs + blocks_of p.items) a in
    omega (arith, q, v, h)

pub loop-back : (held : ℕ) (ps qs : List Part) (p : Part) (pool back : ℕ) → ps ≡ qs ++ p ∷ [] → back ≡ with_free pool (blocks_of p.items) →
    Gives held (part_blocks ps + pool) → Gives held (part_blocks qs + back)
loop-back held ps qs p pool back a b f n le k =
    let e : part_blocks ps ≡ part_blocks qs + blocks_of p.items = ap part_blocks a ∙ blocks-pushed qs p in
    let h : n ≤ part_blocks ps + pool = f n le k in
    let g : n ≤ part_blocks qs + with_free pool (blocks_of p.items) = one-back (part_blocks qs) (blocks_of p.items) pool n le (omega (arith, e, h)) in
    subst (λ j. n ≤ part_blocks qs + j) (sym b) g

pub end-back : (held : ℕ) (ps : List Part) (pool : ℕ) → length ps ≡ 0 → Gives held (part_blocks ps + pool) → Gives held pool
end-back held [] pool e f n le k = let h : n ≤ 0 + pool = f n le k in omega (arith, h)
end-back held (p ∷ ps) pool e f n le k = absurd (omega (arith, e))

-- ---- the end of a store

pub finish-blocks : (ps rs qs : List Part) (p : Part) (marks new log pool now : ℕ) → rs ≡ ps → qs ≡ rs ++ p ∷ [] → part_blocks ps + marks ≡ now →
    marks ≤ new + blocks_of p.items → log ≡ new → Gives log pool → Gives now (part_blocks qs + pool)
finish-blocks ps rs qs p marks new log pool now a b v h e f n le k =
    let q : part_blocks qs ≡ part_blocks ps + blocks_of p.items = ap part_blocks b ∙ blocks-pushed rs p ∙ ap (λ xs. part_blocks xs + blocks_of p.items) a in
    let g : n ≤ (part_blocks ps + blocks_of p.items) + pool =
    taken-back (part_blocks ps) marks new (blocks_of p.items) log pool h e f n le (omega (arith, k, v)) in
    omega (arith, g, q)

pub refused-back : (ps rs : List Part) (marks new log pool now back : ℕ) → rs ≡ ps → part_blocks ps + marks ≡ now → marks ≤ new → log ≡ new →
    Gives log pool → Gives (part_blocks rs + pool) back → Gives now back
refused-back ps rs marks new log pool now back a v h e f g n le k =
    let q : part_blocks rs ≡ part_blocks ps = ap part_blocks a in
    all-back (part_blocks rs) marks new log pool back h e f g n le (omega (arith, k, v, q))
