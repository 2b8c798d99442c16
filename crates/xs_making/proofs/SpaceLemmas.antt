-- What a namespace node puts.
use Rattle.std.proofs.Common.{◌≡◌, ℕ, List, [], ◌∷◌, true, false, if◌then◌else◌, length, refl, sym, ◌∙◌, ap, subst}
use Rattle.std.specs.Prelude.{◌==◌, ◌||◌}
use Rattle.std.specs.Str.{bytes_eq}
use Rattle.xs_trace.specs.declared.event.Event.{Event}
use Rattle.xs_trace.specs.declared.event.Event.TheVariants.{Space as SpaceEvent}
use Rattle.xs_tree.specs.Record.{Record, name_local}
use Rattle.xs_making.specs.Copies.{space_events}
use Rattle.xs_making.specs.Labels.{xml_uri}
use Rattle.xs_making.specs.Texts.{is_empty}

is_full : (text : List ℕ) → (length text == 0) ≡ false → is_empty text ≡ false
is_full [] h = absurd (let no : true ≡ false = h in cc)
is_full (b ∷ bs) h = refl

-- where its URI is neither empty nor that of `xml`
one_event : (r : Record) (uri : List ℕ) → uri ≡ r.text → (length uri == 0) ≡ false → bytes_eq uri xml_uri ≡ false
    → space_events r ≡ SpaceEvent (name_local r) r.text ∷ []
one_event r uri text full other =
    ap (λ t. if t || bytes_eq r.text xml_uri then [] else SpaceEvent (name_local r) r.text ∷ []) (ap is_empty (sym text) ∙ is_full uri full)
    ∙ ap (λ t. if t then [] else SpaceEvent (name_local r) r.text ∷ []) (ap (λ u. bytes_eq u xml_uri) (sym text) ∙ other)

pub space_put : (P : List Event → Type 0) (r : Record) (uri local : List ℕ) (space : Event) → uri ≡ r.text → local ≡ name_local r
    → (length uri == 0) ≡ false → bytes_eq uri xml_uri ≡ false → space ≡ SpaceEvent local uri → P (space ∷ []) → P (space_events r)
space_put P r uri local space text name full other is put =
    subst P
    (ap (λ e. e ∷ []) (is ∙ ap (λ l. SpaceEvent l uri) name ∙ ap (λ u. SpaceEvent (name_local r) u) text)
    ∙ sym (one_event r uri text full other))
    put
