-- What comes of one mention once its name was asked for.
use Rattle.std.proofs.Common.{◌≡◌, ◌∙◌, ◌⊎◌, inl, inr, ℕ, ◌<◌, List, [], ◌∷◌, ◌++◌, Option, Ok, Err, map, length, sym, ap, subst, arith, All}
use Rattle.std.proofs.lemmas.List.{append-nil, map-append}
use Rattle.xs_outside.specs.Edge.{Files}
use Rattle.xs_build.specs.declared.document.Built.{Built}
use Rattle.xs_modules.specs.declared.document.Unread.{Unread}
use Rattle.xs_modules.specs.declared.document.Unread.TheVariants.{Failed, Bad, NoMemory}
use Rattle.xs_modules.specs.declared.reading.Part.{Part}
use Rattle.xs_modules.specs.declared.reading.Reader.{Reader}
use Rattle.xs_modules.specs.Mentions.{Mention, elements}
use Rattle.xs_modules.specs.Numbering.{PartData, part_of}
use Rattle.xs_modules.specs.Reading.{unread, refused, out_of_memory, Holds, IsAsked, failed, bad, out_before}
use Rattle.xs_modules.specs.Results.{ComesTo}
use Rattle.xs_modules.specs.steps.Fetching.{Fetches}
use Rattle.xs_modules.specs.steps.Reader.{GainsPart, number_of, parts_of}
use Rattle.xs_modules.specs.steps.Views.{part_data}
use Rattle.xs_modules.proofs.GainLemmas.{last_nodes, number_one}
use Rattle.xs_modules.proofs.OutcomeLemmas.{out_once}

module _ (files : Option Files) (above : List (List ℕ)) (n : ℕ) (m : Mention) (name : List ℕ) (a b f g : List (List ℕ)) (asked : IsAsked above n m)
    (is : name ≡ m.name) where
  one_name : b ≡ a ++ name ∷ [] → b ≡ a ++ m.name ∷ []
  one_name e = e ∙ ap (λ x. a ++ x ∷ []) is

  -- it can't be read
  pub fetch_failed : (r : Unread) → r ≡ Failed → Fetches (Err r) files name a b f g → ComesTo (unread m.name) files above n (m ∷ []) a b f g
  fetch_failed r e h =
      let now : Fetches (Err Failed) files name a b f g = subst (λ (x : Unread). Fetches (Err x) files name a b f g) e h in
      record { names = m.name ∷ []; reads = failed asked; asks = one_name now.0; fails = now.1 ∙ ap (λ x. f ++ x ∷ []) is }

  -- it is no document
  pub fetch_bad : (r : Unread) (number line : ℕ) → r ≡ Bad number line → Fetches (Err r) files name a b f g
      → ComesTo (refused number m.name line) files above n (m ∷ []) a b f g
  fetch_bad r number line e h =
      let now : Fetches (Err (Bad number line)) files name a b f g = subst (λ (x : Unread). Fetches (Err x) files name a b f g) e h in
      record {
        names = m.name ∷ [];
        reads = bad (record {
          asked = asked;
          bytes = now.0.bytes;
          holds = subst (λ x. Holds files x now.0.bytes) is now.0.holds;
          document = now.0.document;
        });
        asks = one_name now.1;
        fails = now.2 ∙ sym (append-nil f);
      }

  out_either : (b ≡ a) ⊎ (b ≡ a ++ name ∷ []) → g ≡ f → ComesTo out_of_memory files above n (m ∷ []) a b f g
  out_either (inl e) h = record { names = []; reads = out_before; asks = e ∙ sym (append-nil a); fails = h ∙ sym (append-nil f) }
  out_either (inr e) h = out_once files above n m a b f g asked (one_name e) h

  -- memory runs out
  pub fetch_out : (r : Unread) → r ≡ NoMemory → Fetches (Err r) files name a b f g → ComesTo out_of_memory files above n (m ∷ []) a b f g
  fetch_out r e h =
      let now : Fetches (Err NoMemory) files name a b f g = subst (λ (x : Unread). Fetches (Err x) files name a b f g) e h in
      out_either now.0 now.1

  -- or it does so once the document is there
  pub out_after_fetch : (built : Built) → Fetches (Ok built) files name a b f g → ComesTo out_of_memory files above n (m ∷ []) a b f g
  out_after_fetch built h = out_once files above n m a b f g asked (one_name h.1) h.2

-- the document of a module is kept
pub part_kept : (files : Option Files) (before after : Reader) (m : Mention) (sheet : ℕ) (found name copy : List ℕ) (a b f g : List (List ℕ)) (built : Built)
    (part : Part) → IsAsked before.path.items (number_of before) m → name ≡ m.name → Fetches (Ok built) files name a b f g
    → length built.lines.items ≡ length built.tree → found ≡ elements built.tree → All (λ n. n < length built.tree) found
    → part_data part ≡ part_of m built.tree built.lines.items sheet → after.parts.items ≡ before.parts.items ++ part ∷ []
    → after.path.items ≡ before.path.items ++ copy ∷ [] → copy ≡ m.name → GainsPart files before after m sheet found a b f g
part_kept files before after m sheet found name copy a b f g built part asked is h each finds inside viewed parts path copied =
    let kept = kept_parts before after part (part_of m built.tree built.lines.items sheet) viewed parts in
    let one = number_one before after (part_of m built.tree built.lines.items sheet) kept in
    record {
      records = built.tree;
      lines = built.lines.items;
      read = record {
        asked = asked;
        bytes = h.0.bytes;
        holds = subst (λ x. Holds files x h.0.bytes) is h.0.holds;
        document = h.0.document;
      };
      finds = finds;
      nodes = last_nodes before after (part_of m built.tree built.lines.items sheet) found kept inside each;
      parts = kept;
      path = path ∙ ap (λ x. before.path.items ++ x ∷ []) copied;
      few = omega (arith, asked.room);
      asks = h.1 ∙ ap (λ x. a ++ x ∷ []) is;
      fails = h.2;
    }
  where
    kept_parts : (before after : Reader) (part : Part) (p : PartData) → part_data part ≡ p → after.parts.items ≡ before.parts.items ++ part ∷ []
        → parts_of after ≡ parts_of before ++ p ∷ []
    kept_parts before after part p viewed parts =
        ap (map part_data) parts ∙ map-append part_data before.parts.items (part ∷ []) ∙ ap (λ x. parts_of before ++ x ∷ []) viewed
