-- What the lines of a result say, by the events that were kept and the trees that were read.
use Rattle.std.proofs.Common.{◌≡◌, ◌<◌, ◌+◌, ◌^◌, ◌∙◌, ℕ, All, arith, List, [], ◌∷◌, length, length-append}
use Rattle.std.proofs.Common.{ap, refl, sym, subst}
use Rattle.std.proofs.lemmas.List.Elements.{All-append, All-cons, All-nil}
use Rattle.xs_build.specs.DocumentTree.{IsDocument as IsDocumentAt, IsOneDocument}
use Rattle.xs_making.specs.Laws.{AreWell}
use Rattle.xs_result_laws.specs.Events.{HasTexts, IsResult}
use Rattle.xs_result_laws.specs.ResultLaws.{DocumentsAreWell, IsReadBack, ResultsReadBack}
use Rattle.xs_record.specs.Segment.{joined}
use Rattle.xs_result.specs.Built.{built}
use Rattle.xs_rules.specs.WhiteSpace.{stripped}
use Rattle.xs_body_spec.specs.World.{ground}
use Rattle.xs_attribute_sets.specs.declared.index.SetIndex.{SetIndex}
use Rattle.xs_sheet.specs.declared.declarations.StripRule.{StripRule}
use Rattle.xs_sheet.specs.declared.sheet.Sheet.{Sheet}
use Rattle.xs_trace.specs.declared.event.Event.{Event}
use Rattle.xs_trace.specs.declared.item.Item.{Item}
use Rattle.xs_tree.specs.Record.{Record}
use Rattle.xs_tree.specs.Shape.{IsTree}
use Rattle.xs_tree.specs.Stripping.{without}
use Rattle.xs_value.specs.Tables.{Table}
use Rattle.xs_result_laws.specs.PutLaws.{StrippedAreWell}
use Rattle.xs_result_laws.specs.Named.{IsNamedSheet, IsNamedWorld}
use Rattle.xs_result_lines.specs.Lines.{pyx}
use Rattle.xs_reply.specs.Items.{events_in}
use Rattle.xs_reply.proofs.ItemLemmas.{events_after}

-- ---- the texts of events, and how many they are
pub one_text : (e : Event) → HasTexts e → All HasTexts (e ∷ [])
one_text e h = All-cons HasTexts e [] h (All-nil HasTexts)

pub texts_more : (is : List Item) (left more : List (List Item)) (all : List Event) → (All HasTexts (events_in (joined left)) → All HasTexts all)
    → left ≡ is ∷ more → All HasTexts (events_in is) → All HasTexts (events_in (joined more)) → All HasTexts all
texts_more is left more all h e own rest =
    h (subst (λ ss. All HasTexts (events_in (joined ss))) (sym e)
    (subst (All HasTexts) (sym (events_after is more)) (All-append HasTexts (events_in is) (events_in (joined more)) own rest)))

pub texts_end : (left : List (List Item)) (all : List Event) → (All HasTexts (events_in (joined left)) → All HasTexts all) → left ≡ [] → All HasTexts all
texts_end left all h is = h (subst (λ ss. All HasTexts (events_in (joined ss))) (sym is) (All-nil HasTexts))

pub count_more : (is : List Item) (left more : List (List Item)) (all : List Event) (count next : ℕ) → length all ≡ count + length (events_in (joined left))
    → left ≡ is ∷ more → next ≡ count + length (events_in is) → length all ≡ next + length (events_in (joined more))
count_more is left more all count next h e n =
    let same : length (events_in (joined left)) ≡ length (events_in is) + length (events_in (joined more)) =
    ap (λ ss. length (events_in (joined ss))) e ∙ ap length (events_after is more) ∙ length-append (events_in is) (events_in (joined more)) in
    omega (arith, h, n, same)

pub count_end : (left : List (List Item)) (all : List Event) (count : ℕ) → length all ≡ count + length (events_in (joined left)) → left ≡ []
    → count < 2 ^ 64 → length all < 2 ^ 64
count_end left all count h is few =
    let none : length (events_in (joined left)) ≡ 0 = ap (λ ss. length (events_in (joined ss))) is in
    omega (arith, h, none, few)

pub lines_read_back : (es : List Event) (bytes : List ℕ) → ResultsReadBack → All HasTexts es → length es < 2 ^ 64 → bytes ≡ pyx es
    → IsResult es → IsReadBack bytes (built es)
lines_read_back es bytes law texts few is result = subst (λ b. IsReadBack b (built es)) (sym is) (law es result texts few)

-- ---- trees
pub document_well : (rs : List Record) → DocumentsAreWell → IsOneDocument rs → IsTree rs → AreWell rs
document_well rs law one tree = law rs tree (λ root within kind. subst (IsDocumentAt rs) (sym (one.one root within kind)) one.document)

pub stripped_well : StrippedAreWell → (rules : List StripRule) (source tree : List Record) → tree ≡ without (stripped rules source) source → AreWell source
    → AreWell tree
stripped_well law rules source tree is well = subst AreWell (sym is) (law (stripped rules source) source well)

pub ground_named : (sheet : Sheet) (index : SetIndex) (tree : List Record) (keys : List Table) → IsNamedSheet sheet → IsTree tree → AreWell tree
    → IsNamedWorld (ground sheet index tree keys)
ground_named sheet index tree keys named shape well = record { sheet = named; shape = shape; tree = well; globals = tt; whole = refl }
