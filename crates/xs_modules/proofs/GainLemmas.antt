-- What a reader has once it has read what some mentions name, and then others.
use Rattle.std.proofs.Common.{◌≡◌, ◌∙◌, ℕ, ◌+◌, ◌<◌, ◌≤◌, List, [], ◌∷◌, ◌++◌, map, length, get_or, refl, sym, ap, subst, arith, append_assoc, All}
use Rattle.std.proofs.Common.{length-append}
use Rattle.std.proofs.lemmas.List.{append-nil, get_or_append_left, length-map}
use Rattle.std.proofs.Math.Seq.{get_or-append_seam}
use Rattle.xs_tree.specs.Record.{Record}
use Rattle.xs_modules.specs.declared.reading.Reader.{Reader}
use Rattle.xs_modules.specs.declared.reading.Part.{Part}
use Rattle.xs_modules.specs.Mentions.{Mention, mentions, elements}
use Rattle.xs_modules.specs.Mentioned.{Mentioned, no_module, one, count}
use Rattle.xs_modules.specs.Numbering.{PartData, part_of, parts, sheet_for}
use Rattle.xs_modules.specs.Precedence.{Imports, imports, no_imports, joined, mentioned_imports}
use Rattle.xs_modules.specs.Reading.{most_modules}
use Rattle.xs_modules.specs.steps.Joining.{join}
use Rattle.xs_modules.specs.steps.Reader.{Gains, HasNodes, number_of, parts_of, part_at, part_mention, mention_in}
use Rattle.xs_modules.specs.steps.Views.{part_data, no_part}
use Rattle.xs_modules.proofs.NumberingLemmas.{length_parts, parts_join, imports_join, joined_assoc}

-- as many modules as their views
number_is : (r : Reader) → number_of r ≡ length (parts_of r)
number_is r = sym (length-map r.parts.items part_data)

pub number_after : (before after : Reader) (sheet : ℕ) (read : Mentioned) → parts_of after ≡ parts_of before ++ parts sheet (number_of before) read
    → number_of after ≡ number_of before + count read
number_after before after sheet read e =
    number_is after ∙ ap length e ∙ length-append (parts_of before) (parts sheet (number_of before) read)
    ∙ ap (λ n. length (parts_of before) + n) (length_parts sheet (number_of before) read) ∙ ap (λ n. n + count read) (sym (number_is before))

-- a reader never has fewer modules than before
pub number_grows : (before after : Reader) (sheet : ℕ) (i j : Imports) (read : Mentioned) → Gains before after sheet i j read
    → number_of before ≤ number_of after
number_grows before after sheet i j read gains = let e = number_after before after sheet read gains.parts in omega arith

-- nothing was read
pub gains_none : (r : Reader) (sheet : ℕ) (i : Imports) → number_of r ≤ most_modules → Gains r r sheet i i no_module
unfolding parts imports
gains_none r sheet i few = record {
  parts = sym (append-nil (parts_of r));
  path = refl;
  few = few;
  imports = ap (λ xs. record { own = xs; included = i.included }) (sym (append-nil i.own))
      ∙ ap (λ xs. record { own = i.own ++ []; included = xs }) (sym (append-nil i.included));
}

-- what some mentions name, and then others
pub gains_both : (a b c : Reader) (sheet : ℕ) (i j k : Imports) (done more : Mentioned) → Gains a b sheet i j done → Gains b c sheet j k more
    → Gains a c sheet i k (join done more)
gains_both a b c sheet i j k done more g h =
    let n = number_after a b sheet done g.parts in
    record {
      parts = h.parts ∙ ap (λ m. parts_of b ++ parts sheet m more) n ∙ ap (λ ps. ps ++ parts sheet (number_of a + count done) more) g.parts
          ∙ append_assoc (parts_of a) (parts sheet (number_of a) done) (parts sheet (number_of a + count done) more)
          ∙ ap (λ ps. parts_of a ++ ps) (sym (parts_join sheet (number_of a) done more));
      path = h.path ∙ g.path;
      few = h.few;
      imports = h.imports ∙ ap (λ m. joined j (imports m more)) n ∙ ap (λ x. joined x (imports (number_of a + count done) more)) g.imports
          ∙ joined_assoc i (imports (number_of a) done) (imports (number_of a + count done) more)
          ∙ ap (joined i) (sym (imports_join (number_of a) done more));
    }

-- A module, and what it mentions.
one_part : (sheet n : ℕ) (m : Mention) (rs : List Record) (lines : List ℕ) (within : Mentioned) (ps qs ss : List PartData)
    → qs ≡ ps ++ part_of m rs lines (sheet_for m.is_import n sheet) ∷ []
    → ss ≡ qs ++ parts (sheet_for m.is_import n sheet) (n + 1) within → ss ≡ ps ++ parts sheet n (one m rs lines within no_module)
unfolding parts
one_part sheet n m rs lines within ps qs ss e f =
    f ∙ ap (λ xs. xs ++ parts (sheet_for m.is_import n sheet) (n + 1) within) e
    ∙ append_assoc ps (part_of m rs lines (sheet_for m.is_import n sheet) ∷ [])
    (parts (sheet_for m.is_import n sheet) (n + 1) within)
    ∙ ap (λ xs. ps ++ part_of m rs lines (sheet_for m.is_import n sheet) ∷ xs)
    (sym (append-nil (parts (sheet_for m.is_import n sheet) (n + 1) within)))

joined_none : (i : Imports) → joined i no_imports ≡ i
joined_none i = ap (λ xs. record { own = xs; included = i.included ++ [] }) (append-nil i.own)
    ∙ ap (λ xs. record { own = i.own; included = xs }) (append-nil i.included)

one_import : (n : ℕ) (m : Mention) (rs : List Record) (lines : List ℕ) (within : Mentioned) (i j k : Imports) → j ≡ joined no_imports (imports (n + 1) within)
    → k ≡ joined i (mentioned_imports m.is_import n j) → k ≡ joined i (imports n (one m rs lines within no_module))
unfolding imports
one_import n m rs lines within i j k e f =
    f ∙ ap (λ x. joined i (mentioned_imports m.is_import n x)) e
    ∙ ap (joined i) (sym (joined_none (mentioned_imports m.is_import n (imports (n + 1) within))))

length_one : (ps : List PartData) (p : PartData) → length (ps ++ p ∷ []) ≡ length ps + 1
length_one ps p = length-append ps (p ∷ [])

pub number_one : (before after : Reader) (p : PartData) → parts_of after ≡ parts_of before ++ p ∷ [] → number_of after ≡ number_of before + 1
number_one before after p e = number_is after ∙ ap length e ∙ length_one (parts_of before) p ∙ ap (λ n. n + 1) (sym (number_is before))

pub gains_one : (a b c d : Reader) (sheet : ℕ) (i j k : Imports) (m : Mention) (rs : List Record) (lines : List ℕ) (within : Mentioned)
    → parts_of b ≡ parts_of a ++ part_of m rs lines (sheet_for m.is_import (number_of a) sheet) ∷ []
    → Gains b c (sheet_for m.is_import (number_of a) sheet) no_imports j within → d.parts.items ≡ c.parts.items → d.path.items ≡ a.path.items
    → k ≡ joined i (mentioned_imports m.is_import (number_of a) j) → Gains a d sheet i k (one m rs lines within no_module)
gains_one a b c d sheet i j k m rs lines within part gains same path put =
    let n = number_one a b _ part in
    record {
      parts = one_part sheet (number_of a) m rs lines within (parts_of a) (parts_of b) (parts_of d) part
          (ap (map part_data) same ∙ gains.parts ∙ ap (λ x. parts_of b ++ parts (sheet_for m.is_import (number_of a) sheet) x within) n);
      path = path;
      few = subst (λ (xs : List Part). length xs ≤ most_modules) (sym same) gains.few;
      imports = one_import (number_of a) m rs lines within i j k (gains.imports ∙ ap (λ x. joined no_imports (imports x within)) n) put;
    }

-- ---- mentions

-- those of the module that was read last are its own
pub last_mentions : (before after : Reader) (p : PartData) (found : List ℕ) → parts_of after ≡ parts_of before ++ p ∷ [] → found ≡ elements p.records
    → map (mention_in after (number_of before)) found ≡ mentions (number_of before) p.name p.records p.lines
last_mentions before after p found e f =
    ap (λ ps. map (part_mention (number_of before) (get_or ps (number_of before) no_part)) found) e
    ∙ ap (λ n. map (part_mention (number_of before) (get_or (parts_of before ++ p ∷ []) n no_part)) found) (number_is before)
    ∙ ap (λ q. map (part_mention (number_of before) q) found) (get_or-append_seam (parts_of before) p [] no_part)
    ∙ ap (λ ns. map (part_mention (number_of before) p) ns) f

-- those of an earlier one are as before
pub part_kept : (before after : Reader) (more : List PartData) (number : ℕ) → parts_of after ≡ parts_of before ++ more → number < number_of before
    → part_at after number ≡ part_at before number
part_kept before after more number e l =
    ap (λ ps. get_or ps number no_part) e ∙ get_or_append_left (parts_of before) more no_part number (subst (λ n. number < n) (number_is before) l)

pub nodes_kept : (before after : Reader) (sheet : ℕ) (i j : Imports) (read : Mentioned) (number : ℕ) (nodes : List ℕ) → Gains before after sheet i j read
    → HasNodes before number nodes → HasNodes after number nodes
nodes_kept before after sheet i j read number nodes gains has =
    let grows = number_grows before after sheet i j read gains in
    let e = sym (part_kept before after (parts sheet (number_of before) read) number gains.parts has.there) in
    record {
      there = omega (arith, has.there);
      inside = subst (λ (p : PartData). All (λ n. n < length p.records) nodes) e has.inside;
      each = subst (λ (p : PartData). length p.lines ≡ length p.records) e has.each;
    }

-- the nodes of the module that was read last
pub last_nodes : (before after : Reader) (p : PartData) (nodes : List ℕ) → parts_of after ≡ parts_of before ++ p ∷ [] → All (λ n. n < length p.records) nodes
    → length p.lines ≡ length p.records → HasNodes after (number_of before) nodes
last_nodes before after p nodes e inside each =
    let n = number_one before after p e in
    let is = sym (ap (λ ps. get_or ps (number_of before) no_part) e
    ∙ ap (λ n. get_or (parts_of before ++ p ∷ []) n no_part) (number_is before) ∙ get_or-append_seam (parts_of before) p [] no_part) in
    record {
      there = omega arith;
      inside = subst (λ (q : PartData). All (λ n. n < length q.records) nodes) is inside;
      each = subst (λ (q : PartData). length q.lines ≡ length q.records) is each;
    }
