-- The list of a node, by the tables of a counter.
use Rattle.std.proofs.Common.{◌≡◌, ℕ, ◌<◌, Bool, true, false, List, [], ◌∷◌, Option, Some, None, Vec, get_or, length, map, refl, sym, subst, ap, ◌∙◌}
use Rattle.std.specs.declared.alloc.Global.{Global}
use Rattle.xs_number_tables.specs.declared.counter.Counter.{Counter}
use Rattle.xs_pattern_spec.specs.Counted.{alike_any_number, alike_number, counts, is_from, number_list}
use Rattle.xs_number_tables.specs.steps.Alike.{is_likeness, likeness}
use Rattle.xs_number_tables.specs.steps.Counters.{AlikeNumbers, AreCounts, AreFrom, AreNumbers, IsCounter, NumbersBy, alike_to}
use Rattle.xs_numbering.specs.Counting.{any_number, is_alike, list_at, sibling_number}
use Rattle.xs_numbering.specs.Passes.{is_flagged}
use Rattle.xs_numbering.proofs.LevelLemmas.{first-itself, number-in, table-long}
use Rattle.xs_sheet.specs.declared.body.Level.{Level}
use Rattle.xs_sheet.specs.declared.body.Level.TheVariants.{Single, Multiple, Any}
use Rattle.xs_sheet.specs.declared.body.NumberDecl.{NumberDecl}
use Rattle.xs_sheet.specs.declared.scoped.ScopedPattern.{ScopedPattern}
use Rattle.xs_tree.specs.Record.{Record, at}
use Rattle.xs_value.specs.Tables.{Table}
use Rattle.xs_number_tables.proofs.AlikeLemmas.{same-likeness, self-alike}
use Rattle.xs_number_tables.proofs.ListLemmas.{list-same}

-- ---- the flags say what the patterns say
counts-agree : (keys : List Table) (rs : List Record) (o : Option ScopedPattern) (flags : Vec Bool Global) (n : ℕ) → AreCounts keys rs o (Some flags)
    → (k : ℕ) → k < length rs → is_flagged flags.items k ≡ counts keys rs o n k
counts-agree keys rs None flags n h k lt = absurd h
counts-agree keys rs (Some p) flags n h k lt = h k lt

alike-agree : (keys : List Table) (rs : List Record) (o : Option ScopedPattern) (n : ℕ) → AreCounts keys rs o None
    → (k : ℕ) → k < length rs → alike_to rs n k ≡ counts keys rs o n k
alike-agree keys rs None n h k lt = refl
alike-agree keys rs (Some p) n h k lt = absurd h

from-agree : (keys : List Table) (rs : List Record) (o : Option ScopedPattern) (flags : List Bool) → AreFrom keys rs o flags
    → (k : ℕ) → k < length rs → is_flagged flags k ≡ is_from keys rs o k
from-agree keys rs None flags h k lt = ap (λ m. get_or m k false) h
from-agree keys rs (Some p) flags h k lt = h k lt

pub flagged-list : (keys : List Table) (rs : List Record) (d : NumberDecl) (c : Counter) (flags : Vec Bool Global) (n : ℕ) (own stops : List Bool)
    → c.counts ≡ Some flags → IsCounter keys rs d c → n < length rs → own ≡ flags.items → stops ≡ c.from.items
    → list_at d.level (is_flagged own) (is_flagged stops) rs n ≡ number_list keys rs d n
flagged-list keys rs d c flags n own stops e h lt p q =
    ap (λ (l : List Bool). list_at d.level (is_flagged l) (is_flagged stops) rs n) p
    ∙ ap (λ (l : List Bool). list_at d.level (is_flagged flags.items) (is_flagged l) rs n) q
    ∙ list-same d.level (is_flagged flags.items) (counts keys rs d.count n) (is_flagged c.from.items) (is_from keys rs d.from) rs n
    (counts-agree keys rs d.count flags n (subst (AreCounts keys rs d.count) e h.counts)) (from-agree keys rs d.from c.from.items h.from) lt

pub alike-list : (keys : List Table) (rs : List Record) (d : NumberDecl) (c : Counter) (n : ℕ) (stops : List Bool)
    → c.counts ≡ None → IsCounter keys rs d c → n < length rs → stops ≡ c.from.items
    → list_at d.level (alike_to rs n) (is_flagged stops) rs n ≡ number_list keys rs d n
alike-list keys rs d c n stops e h lt q =
    ap (λ (l : List Bool). list_at d.level (alike_to rs n) (is_flagged l) rs n) q
    ∙ list-same d.level (alike_to rs n) (counts keys rs d.count n) (is_flagged c.from.items) (is_from keys rs d.from) rs n
    (alike-agree keys rs d.count n (subst (AreCounts keys rs d.count) e h.counts)) (from-agree keys rs d.from c.from.items h.from) lt

-- ---- the numbers of a counter
pub flagged-numbers : (keys : List Table) (rs : List Record) (d : NumberDecl) (c : Counter) (flags : Vec Bool Global) (own stops : List Bool)
    (numbers : List ℕ) → c.counts ≡ Some flags → IsCounter keys rs d c → own ≡ flags.items → stops ≡ c.from.items → numbers ≡ c.numbers.items
    → NumbersBy d.level own stops rs numbers
flagged-numbers keys rs d c flags own stops numbers e h p q r =
    subst (λ (l : List Bool). NumbersBy d.level l stops rs numbers) (sym p)
    (subst (λ (l : List Bool). NumbersBy d.level flags.items l rs numbers) (sym q)
    (subst (λ (l : List ℕ). NumbersBy d.level flags.items c.from.items rs l) (sym r)
    (subst (λ (o : Option (Vec Bool Global)). AreNumbers d.level o c.from.items rs c.numbers.items) e h.numbers)))

pub alike-numbers : (keys : List Table) (rs : List Record) (d : NumberDecl) (c : Counter) (stops : List Bool) (numbers : List ℕ)
    → c.counts ≡ None → IsCounter keys rs d c → stops ≡ c.from.items → numbers ≡ c.numbers.items → AlikeNumbers d.level stops rs numbers
alike-numbers keys rs d c stops numbers e h q r =
    subst (λ (l : List Bool). AlikeNumbers d.level l rs numbers) (sym q)
    (subst (λ (l : List ℕ). AlikeNumbers d.level c.from.items rs l) (sym r)
    (subst (λ (o : Option (Vec Bool Global)). AreNumbers d.level o c.from.items rs c.numbers.items) e h.numbers))

-- ---- the number of a node alone
pub any-within : (level : Level) (flags from : List Bool) (rs : List Record) (numbers : List ℕ) (n : ℕ) → level ≡ Any
    → NumbersBy level flags from rs numbers → n < length rs → n < length numbers
any-within Single flags from rs numbers n is tables lt = absurd (cc)
any-within Multiple flags from rs numbers n is tables lt = absurd (cc)
any-within Any flags from rs numbers n is tables lt =
    subst (λ k. n < k) (sym (table-long (any_number (is_flagged flags) (is_flagged from) rs) numbers rs tables)) lt

pub any-list : (level : Level) (flags from : List Bool) (rs : List Record) (numbers : List ℕ) (n : ℕ) → level ≡ Any
    → NumbersBy level flags from rs numbers → n < length rs
    → get_or numbers n 0 ∷ [] ≡ list_at level (is_flagged flags) (is_flagged from) rs n
any-list Single flags from rs numbers n is tables lt = absurd (cc)
any-list Multiple flags from rs numbers n is tables lt = absurd (cc)
any-list Any flags from rs numbers n is tables lt =
    ap (λ k. k ∷ []) (number-in (any_number (is_flagged flags) (is_flagged from) rs) numbers rs n tables lt)

pub alike-within : (level : Level) (from : List Bool) (rs : List Record) (numbers : List ℕ) (n : ℕ)
    → AlikeNumbers level from rs numbers → n < length rs → n < length numbers
alike-within Single from rs numbers n tables lt = subst (λ k. n < k) (sym (table-long (alike_number rs) numbers rs tables)) lt
alike-within Multiple from rs numbers n tables lt = subst (λ k. n < k) (sym (table-long (alike_number rs) numbers rs tables)) lt
alike-within Any from rs numbers n tables lt = subst (λ k. n < k) (sym (table-long (alike_any_number (is_flagged from) rs) numbers rs tables)) lt

pub alike-single : (level : Level) (from : List Bool) (rs : List Record) (numbers : List ℕ) (n : ℕ) → level ≡ Single
    → AlikeNumbers level from rs numbers → n < length rs
    → get_or numbers n 0 ∷ [] ≡ list_at level (alike_to rs n) (is_flagged from) rs n
alike-single Single from rs numbers n is tables lt =
    ap (λ k. k ∷ []) (number-in (alike_number rs) numbers rs n tables lt)
    ∙ sym (ap (map (sibling_number (alike_to rs n) rs)) (first-itself (alike_to rs n) (is_flagged from) rs n (self-alike (at rs n))))
alike-single Multiple from rs numbers n is tables lt = absurd (cc)
alike-single Any from rs numbers n is tables lt = absurd (cc)

pub alike-any : (level : Level) (from : List Bool) (rs : List Record) (numbers : List ℕ) (n : ℕ) → level ≡ Any
    → AlikeNumbers level from rs numbers → n < length rs
    → get_or numbers n 0 ∷ [] ≡ list_at level (alike_to rs n) (is_flagged from) rs n
alike-any Single from rs numbers n is tables lt = absurd (cc)
alike-any Multiple from rs numbers n is tables lt = absurd (cc)
alike-any Any from rs numbers n is tables lt = ap (λ k. k ∷ []) (number-in (alike_any_number (is_flagged from) rs) numbers rs n tables lt)

-- ---- nodes that are alike have one number among the nodes that are alike to either
pub alike-same : (rs : List Record) (node like : ℕ) → is_alike (at rs node) (at rs like) ≡ true
    → alike_number rs node ≡ sibling_number (alike_to rs like) rs node
alike-same rs node like h =
    ap (λ l. sibling_number (λ k. is_likeness (likeness (at rs k)) l) rs node) (same-likeness (likeness (at rs node)) (likeness (at rs like)) h)
