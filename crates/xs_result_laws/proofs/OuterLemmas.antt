-- Inside one element more a result is one document.
use Rattle.std.proofs.Common.{◌≡◌, ℕ, zero, suc, ◌+◌, ◌<◌, ◌^◌, List, [], ◌∷◌, ◌++◌, Bool, true, false, refl, sym, ◌∙◌, ap, subst}
use Rattle.std.proofs.Common.{append_assoc, arith, length, length-append, lit<}
use Rattle.std.specs.List.{AllByRecursion, flat_map}
use Rattle.std.specs.Str.{IsAscii, IsUtf8}
use Rattle.std.proofs.lemmas.List.{append-nil}
use Rattle.std.proofs.lemmas.Str.{chars-IsAscii, IsUtf8-from_ascii}
use Rattle.std.proofs.lemmas.Str.Ascii.{IsAscii-cons, IsAscii-nil}
use Rattle.xs_text.specs.Names.{spells_ncname}
use Rattle.xs_pyx.specs.Writing.{written}
use Rattle.xs_pyx.specs.declared.line.Line.{Line}
use Rattle.xs_pyx.specs.declared.line.Line.TheVariants as line
use Rattle.xs_trace.specs.Label.{Label}
use Rattle.xs_trace.specs.declared.event.Event.{Event}
use Rattle.xs_trace.specs.declared.event.Event.TheVariants.{Start, Space, Attr, Chars, End, Comment, Pi}
use Rattle.xs_result_lines.specs.Bindings.{attributes_in, bindings, bindings_before, declared, outermost, spaces_in, uri_in, with_attributes, with_spaces}
use Rattle.xs_result_lines.specs.Laws.{LinesGoOn, NamesResolve}
use Rattle.xs_result_lines.specs.Lines.{OpenElement, attribute_lines, bytes_of, entered, lines, open_after, tag_lines}
use Rattle.xs_result_laws.specs.Events.{has_one_top}
use Rattle.xs_result_laws.specs.ResultLaws.{outer_label, outer_name, with_outer_events, with_outer_lines}
use Rattle.xs_result_laws.proofs.NameLemmas.{bindable}
use Rattle.xs_result_laws.proofs.ScopeLemmas.{force_outermost}
use Rattle.xs_result_laws.proofs.TagLemmas.{IsGoodName, MayBind}
use Rattle.xs_result_laws.proofs.FitLemmas.{AreFresh, IsGoodAttribute, tag_fit}
use Rattle.xs_result_laws.proofs.PlaceLemmas.{IsFit, all_fit, depth_of}
use Rattle.xs_result_laws.proofs.ShapeLemmas.{AreSound, IsOrderly}
use Rattle.xs_result_laws.proofs.StartLemmas.{attributes-end, spaces-end}

-- ---- the events
-- where no start tag is open, one may be
tag_opened : (es : List Event) (n : ℕ) (names : List Label) → IsOrderly true false false n names es → IsOrderly true false true n [] es
unfolding IsOrderly
tag_opened [] n names h = h
tag_opened (Start name ∷ es) n names h = h
tag_opened (Space prefix uri ∷ es) n names h = absurd (let no : false ≡ true = h.0 in cc)
tag_opened (Attr name value ∷ es) n names h = absurd (let no : false ≡ true = h.0 in cc)
tag_opened (Chars text ∷ es) n names h = h
tag_opened (End ∷ es) zero names h = absurd h
tag_opened (End ∷ es) (suc n) names h = h
tag_opened (Comment text ∷ es) n names h = h
tag_opened (Pi target value ∷ es) n names h = h

ended_orderly : (es : List Event) (text tag : Bool) (n : ℕ) (names : List Label) → IsOrderly true text tag n names es
    → IsOrderly true text tag (suc n) names (es ++ End ∷ [])
unfolding IsOrderly
ended_orderly [] text tag n names h = h
ended_orderly (Start name ∷ es) text tag n names h = ended_orderly es false true (suc n) [] h
ended_orderly (Space prefix uri ∷ es) text tag n names h = (h.0, ended_orderly es text true n names h.1)
ended_orderly (Attr name value ∷ es) text tag n names h = (h.0, h.1, ended_orderly es text true n (name ∷ names) h.2)
ended_orderly (Chars more ∷ es) text tag n names h = (h.0, h.1, ended_orderly es true false n [] h.2)
ended_orderly (End ∷ es) text tag zero names h = absurd h
ended_orderly (End ∷ es) text tag (suc n) names h = ended_orderly es false false n [] h
ended_orderly (Comment more ∷ es) text tag n names h = ended_orderly es false false n [] h
ended_orderly (Pi target value ∷ es) text tag n names h = ended_orderly es false false n [] h

ended_top : (es : List Event) (text tag : Bool) (n : ℕ) (names : List Label) → IsOrderly true text tag n names es
    → has_one_top (suc n) true (es ++ End ∷ []) ≡ true
unfolding IsOrderly has_one_top
ended_top [] text tag n names h = subst (λ k. has_one_top k true [] ≡ true) (sym h) refl
ended_top (Start name ∷ es) text tag n names h = ended_top es false true (suc n) [] h
ended_top (Space prefix uri ∷ es) text tag n names h = ended_top es text true n names h.1
ended_top (Attr name value ∷ es) text tag n names h = ended_top es text true n (name ∷ names) h.2
ended_top (Chars more ∷ es) text tag n names h = ended_top es true false n [] h.2
ended_top (End ∷ es) text tag zero names h = absurd h
ended_top (End ∷ es) text tag (suc n) names h = ended_top es false false n [] h
ended_top (Comment more ∷ es) text tag n names h = ended_top es false false n [] h
ended_top (Pi target value ∷ es) text tag n names h = ended_top es false false n [] h

all_ended : (es : List Event) → AreSound es → AreSound (es ++ End ∷ [])
all_ended [] h = (tt, tt)
all_ended (e ∷ es) h = (h.0, all_ended es h.1)

-- ---- the element more
outer_ascii : IsAscii outer_name
outer_ascii = IsAscii-cons 114 (101 ∷ 115 ∷ 117 ∷ 108 ∷ 116 ∷ []) (lit< tt) (IsAscii-cons 101 (115 ∷ 117 ∷ 108 ∷ 116 ∷ []) (lit< tt)
    (IsAscii-cons 115 (117 ∷ 108 ∷ 116 ∷ []) (lit< tt) (IsAscii-cons 117 (108 ∷ 116 ∷ []) (lit< tt)
    (IsAscii-cons 108 (116 ∷ []) (lit< tt) (IsAscii-cons 116 [] (lit< tt) IsAscii-nil)))))

no_text : IsUtf8 []
no_text = IsUtf8-from_ascii [] IsAscii-nil

outer_good : IsGoodName outer_label
outer_good = record {
  bindable = bindable [] [] refl (λ e. refl) refl (λ e. absurd (cc)) (λ e. absurd (cc)) refl no_text no_text;
  local = ap spells_ncname (chars-IsAscii outer_name outer_ascii);
  local_text = IsUtf8-from_ascii outer_name outer_ascii;
}

abbrev outer : OpenElement
outer = record { name = outer_name; scope = outermost }

no_parts : (es : List Event) (n : ℕ) (names : List Label) → IsOrderly true false false n names es
    → (spaces_in (es ++ End ∷ []) ≡ []) × (attributes_in (es ++ End ∷ []) ≡ [])
unfolding IsOrderly
no_parts [] n names h = (spaces-end End [] refl, attributes-end End [] refl)
no_parts (Start name ∷ es) n names h = (spaces-end (Start name) (es ++ End ∷ []) refl, attributes-end (Start name) (es ++ End ∷ []) refl)
no_parts (Space prefix uri ∷ es) n names h = absurd (let no : false ≡ true = h.0 in cc)
no_parts (Attr name value ∷ es) n names h = absurd (let no : false ≡ true = h.0 in cc)
no_parts (Chars text ∷ es) n names h = (spaces-end (Chars text) (es ++ End ∷ []) refl, attributes-end (Chars text) (es ++ End ∷ []) refl)
no_parts (End ∷ es) n names h = (spaces-end End (es ++ End ∷ []) refl, attributes-end End (es ++ End ∷ []) refl)
no_parts (Comment text ∷ es) n names h = (spaces-end (Comment text) (es ++ End ∷ []) refl, attributes-end (Comment text) (es ++ End ∷ []) refl)
no_parts (Pi target value ∷ es) n names h = (spaces-end (Pi target value) (es ++ End ∷ []) refl, attributes-end (Pi target value) (es ++ End ∷ []) refl)

outer_tag : (es : List Event) → spaces_in es ≡ [] → attributes_in es ≡ [] → tag_lines [] outer_label es ≡ line.Start outer_name ∷ []
unfolding bindings bindings_before with_spaces with_attributes attribute_lines declared uri_in
outer_tag es s a = rw (s, a) refl

outer_entered : (es : List Event) → spaces_in es ≡ [] → attributes_in es ≡ [] → entered [] outer_label es ≡ outer ∷ []
unfolding bindings bindings_before with_spaces with_attributes declared uri_in
outer_entered es s a = rw (s, a) refl

-- ---- the lines inside it are the same
same_lines : (es : List Event) (os : List OpenElement) (text tag : Bool) (names : List Label) → IsOrderly true text tag (depth_of os) names es
    → lines (os ++ outer ∷ []) es ≡ lines os es
unfolding lines IsOrderly depth_of
same_lines [] os text tag names h = refl
same_lines (Start name ∷ es) [] text tag names h = ap (λ ls. tag_lines [] name es ++ ls) (same_lines es (entered [] name es) false true [] h)
same_lines (Start name ∷ es) (o ∷ os) text tag names h =
    ap (λ ls. tag_lines (o ∷ os) name es ++ ls) (same_lines es (entered (o ∷ os) name es) false true [] h)
same_lines (Space prefix uri ∷ es) os text tag names h = same_lines es os text true names h.1
same_lines (Attr name value ∷ es) os text tag names h = same_lines es os text true (name ∷ names) h.2
same_lines (Chars more ∷ es) os text tag names h = ap (λ ls. line.Chars more ∷ ls) (same_lines es os true false [] h.2)
same_lines (End ∷ es) [] text tag names h = absurd h
same_lines (End ∷ es) (o ∷ os) text tag names h = ap (λ ls. line.End o.name ∷ ls) (same_lines es os false false [] h)
same_lines (Comment more ∷ es) os text tag names h = ap (λ ls. line.Comment more ∷ ls) (same_lines es os false false [] h)
same_lines (Pi target value ∷ es) os text tag names h = ap (λ ls. line.Pi target value ∷ ls) (same_lines es os false false [] h)

same_open : (es : List Event) (os : List OpenElement) (text tag : Bool) (names : List Label) → IsOrderly true text tag (depth_of os) names es
    → open_after (os ++ outer ∷ []) es ≡ outer ∷ []
unfolding open_after IsOrderly depth_of
same_open [] [] text tag names h = refl
same_open [] (o ∷ os) text tag names h = absurd (cc)
same_open (Start name ∷ es) [] text tag names h = same_open es (entered [] name es) false true [] h
same_open (Start name ∷ es) (o ∷ os) text tag names h = same_open es (entered (o ∷ os) name es) false true [] h
same_open (Space prefix uri ∷ es) os text tag names h = same_open es os text true names h.1
same_open (Attr name value ∷ es) os text tag names h = same_open es os text true (name ∷ names) h.2
same_open (Chars more ∷ es) os text tag names h = same_open es os true false [] h.2
same_open (End ∷ es) [] text tag names h = absurd h
same_open (End ∷ es) (o ∷ os) text tag names h = same_open es os false false [] h
same_open (Comment more ∷ es) os text tag names h = same_open es os false false [] h
same_open (Pi target value ∷ es) os text tag names h = same_open es os false false [] h

none_open : (es : List Event) → IsOrderly true false false 0 [] es → IsOrderly true false false (depth_of []) [] es
unfolding depth_of
none_open es h = h

outer_lines : LinesGoOn → (es : List Event) → IsOrderly true false false 0 [] es
    → lines [] (with_outer_events es) ≡ line.Start outer_name ∷ (lines [] es ++ line.End outer_name ∷ [])
unfolding lines
outer_lines go_on es h =
    let parts = no_parts es 0 [] h in
    let rest = es ++ End ∷ [] in
    ap (λ ls. ls ++ lines (entered [] outer_label rest) rest) (outer_tag rest parts.0 parts.1)
    ∙ ap (λ os. line.Start outer_name ∷ lines os rest) (outer_entered rest parts.0 parts.1)
    ∙ ap (λ ls. line.Start outer_name ∷ ls) (
    go_on (outer ∷ []) es (End ∷ []) refl ∙ ap (λ ls. ls ++ lines (open_after (outer ∷ []) es) (End ∷ [])) (same_lines es [] false false [] (none_open es h))
    ∙ ap (λ os. lines [] es ++ lines os (End ∷ [])) (same_open es [] false false [] (none_open es h))
    )

bytes-last : (ls : List Line) (l : Line) → bytes_of (ls ++ l ∷ []) ≡ bytes_of ls ++ written l
unfolding bytes_of
bytes-last [] l = append-nil (written l)
bytes-last (x ∷ ls) l = ap (λ bs. written x ++ bs) (bytes-last ls l) ∙ sym (append_assoc (written x) (flat_map written ls) (written l))

bytes-first : (l : Line) (ls : List Line) → bytes_of (l ∷ ls) ≡ written l ++ bytes_of ls
unfolding bytes_of
bytes-first l ls = refl

pub outer_bytes : LinesGoOn → (es : List Event) → IsOrderly true false false 0 [] es
    → bytes_of (lines [] (with_outer_events es)) ≡ with_outer_lines (bytes_of (lines [] es))
outer_bytes go_on es h =
    ap bytes_of (outer_lines go_on es h) ∙ bytes-first (line.Start outer_name) (lines [] es ++ line.End outer_name ∷ [])
    ∙ ap (λ bs. written (line.Start outer_name) ++ bs) (bytes-last (lines [] es) (line.End outer_name))
    ∙ sym (append_assoc (written (line.Start outer_name)) (bytes_of (lines [] es)) (written (line.End outer_name)))

-- ---- and all of it is fit
pub outer_fit : NamesResolve → (es : List Event) → IsOrderly true false false 0 [] es → AreSound es → length es < 2 ^ 64
    → IsFit [] false false false (with_outer_events es)
unfolding IsFit depth_of
outer_fit resolve es h s small =
    let rest = es ++ End ∷ [] in
    let parts = no_parts es 0 [] h in
    let orderly : IsOrderly true false true 1 [] rest = ended_orderly es false true 0 [] (tag_opened es 0 [] h) in
    let sound : AreSound rest = all_ended es s in
    let longer : length rest ≡ length es + 1 = length-append es (End ∷ []) in
    let few : 1 + length (spaces_in rest) + length (attributes_in rest) < 2 ^ 64 = rw (parts.0, parts.1) (omega arith) in
    let fit = tag_fit resolve outermost outer_label rest force_outermost (record {
      own = outer_good;
      spaces = subst (AllByRecursion MayBind) (sym parts.0) tt;
      attributes = subst (AllByRecursion IsGoodAttribute) (sym parts.1) tt;
      fresh = subst (AreFresh []) (sym parts.1) tt;
      few = few;
    }) in (
      refl,
      fit,
      all_fit resolve rest (entered [] outer_label rest) true false true [] (fit.force, tt) orderly sound (ended_top es false false 0 [] h)
          (omega (arith, longer, small)),
    )
