-- The places of ticks, of one list of items after another, and of a segment.
use Rattle.std.proofs.Common.{◌≡◌, ℕ, zero, suc, List, [], ◌∷◌, ◌++◌, refl, sym, ap, ◌∙◌, append_assoc, append-nil}
use Rattle.xs_record.specs.Segment.{content_items, joined, run_items}
use Rattle.xs_record.specs.Store.{pending}
use Rattle.xs_record.specs.declared.segment.Content.{Content}
use Rattle.xs_trace.specs.Kept.{item_marks, marks_of}
use Rattle.xs_trace.specs.Mark.{Tick, Put, Say, Stop, Need, Hole, Trace, ticks}
use Rattle.xs_trace.specs.declared.item.Item.{Item}
use Rattle.xs_trace.specs.declared.item.Item.TheVariants as item
use Rattle.xs_trace.specs.declared.item.Site.{Site}
use Rattle.xs_profile.specs.Sites.{SitesAreAsManyAsTicks, SitesAreThoseOfMarks, sites_in, sites_of}
use Rattle.xs_profile.specs.steps.Runs.{run_sites}

sites-joined : {H : Type 0} → (x y : Trace H) → sites_of (x ++ y) ≡ sites_of x ++ sites_of y
sites-joined [] y = refl
sites-joined (Tick p ∷ x) y = ap (λ ps. p ∷ ps) (sites-joined x y)
sites-joined (Put e ∷ x) y = sites-joined x y
sites-joined (Say t ∷ x) y = sites-joined x y
sites-joined (Stop f p ∷ x) y = sites-joined x y
sites-joined (Need g p ∷ x) y = sites-joined x y
sites-joined (Hole k ∷ x) y = sites-joined x y

marks-joined : (is js : List Item) → marks_of {H = ℕ} (is ++ js) ≡ marks_of is ++ marks_of js
marks-joined [] js = refl
marks-joined (i ∷ is) js = ap (λ x. item_marks i ++ x) (marks-joined is js) ∙ sym (append_assoc (item_marks i) (marks_of is) (marks_of js))

pub sites_append : (is js : List Item) → sites_in (is ++ js) ≡ sites_in is ++ sites_in js
sites_append is js = ap (λ (x : Trace ℕ). sites_of x) (marks-joined is js) ∙ sites-joined {H = ℕ} (marks_of is) (marks_of js)

-- the places of a segment's ticks and of those after it
pub sites_after : (is : List Item) (ss : List (List Item)) → sites_in (joined (is ∷ ss)) ≡ sites_in is ++ sites_in (joined ss)
sites_after is ss = sites_append is (joined ss)

ticks-same : (H : Type 0) (p : Site) (n : ℕ) → sites_of {H = H} (ticks p n []) ≡ sites_of {H = ℕ} (ticks p n [])
ticks-same H p zero = refl
ticks-same H p (suc n) = ap (λ (ps : List Site). p ∷ ps) (ticks-same H p n)

item-same : (H : Type 0) (i : Item) → sites_of {H = H} (item_marks i) ≡ sites_of {H = ℕ} (item_marks i)
item-same H (item.Run m l n) = ticks-same H (record { «module» = m; line = l }) n
item-same H (item.Put e) = refl
item-same H (item.Say t) = refl

-- whatever the holes are
pub sites-same : (H : Type 0) → SitesAreThoseOfMarks H
sites-same H [] = refl
sites-same H (i ∷ is) =
    sites-joined {H = H} (item_marks i) (marks_of is)
    ∙ ap (λ (ps : List Site). ps ++ sites_of {H = H} (marks_of is)) (item-same H i)
    ∙ ap (λ (ps : List Site). sites_of {H = ℕ} (item_marks i) ++ ps) (sites-same H is)
    ∙ sym (sites-joined {H = ℕ} (item_marks i) (marks_of is))

pub as-many : (H : Type 0) → SitesAreAsManyAsTicks H
as-many H [] = refl
as-many H (Tick p ∷ x) = ap (λ (n : ℕ). suc n) (as-many H x)
as-many H (Put e ∷ x) = as-many H x
as-many H (Say t ∷ x) = as-many H x
as-many H (Stop f p ∷ x) = as-many H x
as-many H (Need g p ∷ x) = as-many H x
as-many H (Hole k ∷ x) = as-many H x

-- those of ticks that are an item, and of a run beside an item
pub item-sites : (p : Site) (n : ℕ) → sites_of {H = ℕ} (ticks p n []) ≡ sites_in (item.Run p.«module» p.line n ∷ [])
item-sites p n = sym (sites-joined {H = ℕ} (ticks p n []) [] ∙ append-nil (sites_of {H = ℕ} (ticks p n [])))

pub pending-sites : (p : Site) (n : ℕ) → sites_in (pending p n) ≡ sites_of {H = ℕ} (ticks p n [])
pending-sites p zero = refl
pending-sites p (suc n) = sym (item-sites p (suc n))

-- the ticks before the item of a segment, and its own, are those of the segment
pub content-sites : (c : Content) (own : List Site) (is : List Item) → content_items c ≡ is → own ≡ sites_in (c.item.now ∷ []) →
    run_sites c.first ++ (run_sites c.last ++ own) ≡ sites_in is
content-sites c own is e o =
    let last : sites_in (run_items c.last ++ c.item.now ∷ []) ≡ run_sites c.last ++ sites_in (c.item.now ∷ []) =
    sites_append (run_items c.last) (c.item.now ∷ [])
    ∙ ap (λ ps. ps ++ sites_in (c.item.now ∷ [])) (pending-sites c.last.site c.last.ticks) in
    ap (λ ps. run_sites c.first ++ (run_sites c.last ++ ps)) o
    ∙ ap (λ ps. run_sites c.first ++ ps) (sym last)
    ∙ ap (λ ps. ps ++ sites_in (run_items c.last ++ c.item.now ∷ [])) (sym (pending-sites c.first.site c.first.ticks))
    ∙ sym (sites_append (run_items c.first) (run_items c.last ++ c.item.now ∷ []))
    ∙ ap sites_in e

-- the segments that are left, when one was taken
pub left-sites : (segment : List Item) (left more : List (List Item)) → left ≡ segment ∷ more →
    sites_in (joined left) ≡ sites_in segment ++ sites_in (joined more)
left-sites segment left more e = ap (λ (ss : List (List Item)). sites_in (joined ss)) e ∙ sites_after segment more

pub no-sites : (left : List (List Item)) → left ≡ [] → sites_in (joined left) ≡ []
no-sites left e = ap (λ (ss : List (List Item)). sites_in (joined ss)) e
