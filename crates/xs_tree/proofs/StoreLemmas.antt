-- What a store has stays what it is while the store grows.
use Rattle.std.proofs.Common.{◌≡◌, ℕ, zero, suc, ◌+◌, ◌-◌, ◌≤◌, Bool, true, false, List, [], ◌++◌, length, drop, refl, sym, ◌∙◌, ap, arith, string_bytes}
use Rattle.std.proofs.Common.{length-append, append_assoc, length-drop}
use Rattle.std.specs.Str.{IsUtf8, IsCharBoundary}
use Rattle.std.specs.List.{slice_range}
use Rattle.std.specs.Option.{unwrap_or}
use Rattle.std.proofs.lemmas.List.{append-nil, drop-append-le, take-append-le}
use Rattle.std.proofs.lemmas.Str.{IsUtf8-append, IsUtf8-take, IsUtf8-nil, IsUtf8-string_bytes, IsCharBoundary-from_take, IsCharBoundary-at_seam}
use Rattle.std.proofs.lemmas.Str.{IsCharBoundary-end, IsCharBoundary-start}
use Rattle.xs_tree.specs.declared.names.Name.{Name}
use Rattle.xs_tree.specs.declared.entries.TextPlace.{TextPlace}
use Rattle.xs_tree.specs.declared.kinds.Kind.{Kind}
use Rattle.xs_tree.specs.declared.store.Store.{Store}
use Rattle.xs_tree.specs.Growth.{Keeps, Lengthens}
use Rattle.xs_tree.specs.Kinds.{is_namespace_kind}
use Rattle.xs_tree.specs.Store.{name_at, text_at, text_in, IsPlaceIn, IsRange, IsTextIn, Grows}

pub Keeps-same : {X : Type 0} (xs : List X) → Keeps xs xs
Keeps-same xs = record { longer = omega arith; same = λ k h. refl }

-- the buffer, as it was or with a new text
pub as_it_was : (old new : List ℕ) → IsUtf8 old → new ≡ old → Lengthens old new
as_it_was old new u e = record { extra = []; is = e ∙ sym (append-nil old); utf8 = u; extra_utf8 = IsUtf8-nil }

pub lengthened : (old new extra : List ℕ) → IsUtf8 old → IsUtf8 extra → new ≡ old ++ extra → Lengthens old new
lengthened old new extra u v e = record { extra = extra; is = e; utf8 = u; extra_utf8 = v }

pub Grows-same : (s : Store) → Grows s s
Grows-same s =
    record {
      names = Keeps-same s.names;
      uris = Keeps-same s.uris;
      text =
          as_it_was (string_bytes s.text) (string_bytes s.text) (IsUtf8-string_bytes s.text) refl;
    }

Keeps-twice : {X : Type 0} (a b d : List X) → Keeps a b → Keeps b d → Keeps a d
Keeps-twice a b d g h =
    record { longer = omega (arith, g.longer, h.longer); same = λ k w. h.same k (omega (arith, w, g.longer)) ∙ g.same k w }

Lengthens-twice : (a b d : List ℕ) → Lengthens a b → Lengthens b d → Lengthens a d
Lengthens-twice a b d g h =
    record {
      extra = g.extra ++ h.extra;
      is = h.is ∙ ap (λ xs. xs ++ h.extra) g.is ∙ append_assoc a g.extra h.extra;
      utf8 = g.utf8;
      extra_utf8 = IsUtf8-append g.extra h.extra g.extra_utf8 h.extra_utf8;
    }

pub Grows-twice : (a b d : Store) → Grows a b → Grows b d → Grows a d
Grows-twice a b d g h =
    record {
      names = Keeps-twice a.names b.names d.names g.names h.names;
      uris = Keeps-twice a.uris b.uris d.uris g.uris h.uris;
      text = Lengthens-twice (string_bytes a.text) (string_bytes b.text) (string_bytes d.text) g.text h.text;
    }

-- a place between characters stays one when more text follows
pub IsCharBoundary-longer : (old new : List ℕ) (i : ℕ) → Lengthens old new → IsCharBoundary old i → IsCharBoundary new i
IsCharBoundary-longer old new i l b =
    rw l.is
    (IsCharBoundary-from_take (old ++ l.extra) i (IsUtf8-append old l.extra l.utf8 l.extra_utf8) (omega (arith, b.0, length-append old l.extra))
    (rw (take-append-le i old l.extra b.0) (IsUtf8-take old i l.utf8 b)))

-- a range of a text is the same range of a longer one
pub slice_range-longer : (old new : List ℕ) (i j : ℕ) → Lengthens old new → i ≤ j → j ≤ length old → slice_range new i j ≡ slice_range old i j
slice_range-longer old new i j l o w =
    let i_within : i ≤ length old = omega arith in
    let within : j - i ≤ length (drop i old) = omega (arith, length-drop i old) in
    rw (l.is, drop-append-le i old l.extra i_within, take-append-le (j - i) (drop i old) l.extra within) refl

-- a text stays at its place
IsPlaceIn-grown : (old new : Store) (b : Bool) (place : TextPlace) → Grows old new → IsPlaceIn old b place → IsPlaceIn new b place
IsPlaceIn-grown old new true place g h = let longer : length old.uris ≤ length new.uris = g.uris.longer in omega (arith, h, longer)
IsPlaceIn-grown old new false place g h =
    record {
      ordered = h.ordered;
      from = IsCharBoundary-longer (string_bytes old.text) (string_bytes new.text) place.start g.text h.from;
      to = IsCharBoundary-longer (string_bytes old.text) (string_bytes new.text) place.end g.text h.to;
    }

pub IsTextIn-grown : (old new : Store) (kind : Kind) (place : TextPlace) → Grows old new → IsTextIn old kind place → IsTextIn new kind place
IsTextIn-grown old new kind place g h = IsPlaceIn-grown old new (is_namespace_kind kind) place g h

text_in-grown : (old new : Store) (b : Bool) (place : TextPlace) → Grows old new → IsPlaceIn old b place → text_in new b place ≡ text_in old b place
text_in-grown old new true place g h = ap (λ o. unwrap_or o []) (g.uris.same place.start h)
text_in-grown old new false place g h =
    slice_range-longer (string_bytes old.text) (string_bytes new.text) place.start place.end g.text h.ordered h.to.0

pub text_at-grown : (old new : Store) (kind : Kind) (place : TextPlace) → Grows old new → IsTextIn old kind place
    → text_at new kind place ≡ text_at old kind place
text_at-grown old new kind place g h = text_in-grown old new (is_namespace_kind kind) place g h

-- a number has the same name in a longer table
pub name-longer : (old new : List Name) (n : ℕ) → Keeps old new → n ≤ length old → name_at new n ≡ name_at old n
name-longer old new zero g b = refl
name-longer old new (suc place) g b = g.same place (omega (arith, b))

-- no bytes are a part of each text
pub IsRange-nothing : (text : List ℕ) → IsUtf8 text → IsRange text 0 0
IsRange-nothing text utf8 = record { ordered = omega arith; from = IsCharBoundary-start text utf8; to = IsCharBoundary-start text utf8 }

-- the range of a text that was added to a buffer
pub IsRange-added : (old added new : List ℕ) (start end : ℕ) → new ≡ old ++ added → IsUtf8 added → start ≡ length old → end ≡ length old + length added
    → IsRange new start end
IsRange-added old added new start end is utf8 from to =
    let whole : end ≡ length new = rw is (omega (arith, to, length-append old added)) in
    record {
      ordered = omega (arith, from, to);
      from = rw from (IsCharBoundary-at_seam new old added is utf8);
      to = rw whole (IsCharBoundary-end new);
    }
