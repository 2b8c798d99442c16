-- Names: the NCName and the QName of Namespaces in XML 1.0 over the characters of XML 1.0, fifth edition.
use Rattle.std.specs.Prelude.{ℕ, ◌≡◌, Bool, false, ◌&&◌, ◌||◌, ◌==◌, nat_le, IsTrue, List, [], ◌∷◌, ◌++◌, ◌⊎◌, Option, Some, None, codes, if◌then◌else◌}
use Rattle.std.specs.Borrow.{Bor}
use Rattle.std.specs.List.{list_all, list_any, before_first, after_first}
use Rattle.std.specs.Str.{chars}

-- the code points from the first to the last, both among them
pub record CharRange : Type 0 where
  pub first : ℕ
  pub last : ℕ

abbrev pub is_among : List CharRange → ℕ → Bool
is_among [] c = false
is_among (r ∷ rs) c = (nat_le r.first c && nat_le c r.last) || is_among rs c

-- XML 1.0, 2.3, production 4, without the colon
abbrev pub name_start_ranges : List CharRange
name_start_ranges =
    record { first = 0x41; last = 0x5A }
    ∷ record { first = 0x5F; last = 0x5F }
    ∷ record { first = 0x61; last = 0x7A }
    ∷ record { first = 0xC0; last = 0xD6 }
    ∷ record { first = 0xD8; last = 0xF6 }
    ∷ record { first = 0xF8; last = 0x2FF }
    ∷ record { first = 0x370; last = 0x37D }
    ∷ record { first = 0x37F; last = 0x1FFF }
    ∷ record { first = 0x200C; last = 0x200D }
    ∷ record { first = 0x2070; last = 0x218F }
    ∷ record { first = 0x2C00; last = 0x2FEF }
    ∷ record { first = 0x3001; last = 0xD7FF }
    ∷ record { first = 0xF900; last = 0xFDCF }
    ∷ record { first = 0xFDF0; last = 0xFFFD }
    ∷ record { first = 0x1_0000; last = 0xE_FFFF }
    ∷ []

-- XML 1.0, 2.3, production 4a: what a name may have after its first character besides those
abbrev pub name_more_ranges : List CharRange
name_more_ranges =
    record { first = 0x2D; last = 0x2D }
    ∷ record { first = 0x2E; last = 0x2E }
    ∷ record { first = 0x30; last = 0x39 }
    ∷ record { first = 0xB7; last = 0xB7 }
    ∷ record { first = 0x300; last = 0x36F }
    ∷ record { first = 0x203F; last = 0x2040 }
    ∷ []

-- a character that may begin a name
abbrev pub starts_name : ℕ → Bool
starts_name c = is_among name_start_ranges c

-- a character that may stand in a name
abbrev pub continues_name : ℕ → Bool
continues_name c = is_among name_start_ranges c || is_among name_more_ranges c

abbrev pub spells_ncname : List ℕ → Bool
spells_ncname [] = false
spells_ncname (c ∷ cs) = starts_name c && list_all continues_name cs

-- a text, by its bytes, is an NCName: Namespaces in XML 1.0, 3, production 4
abbrev pub is_ncname : List ℕ → Bool
is_ncname text = spells_ncname (chars text)

abbrev pub IsNcName : List ℕ → Type 0
IsNcName text = IsTrue (is_ncname text)

-- A text is a QName with this prefix and this local part: Namespaces in XML 1.0, 4, productions 7 to 11. A name
-- without a colon has the empty prefix.
abbrev pub IsQName : List ℕ → List ℕ → List ℕ → Type 0
IsQName text prefix local =
    ((prefix ≡ []) × (local ≡ text) × IsNcName text)
    ⊎ ((text ≡ prefix ++ 58 ∷ local) × IsNcName prefix × IsNcName local)

-- the parts of a QName; the prefix is empty where there is none
pub record QName : Type 0 where
  pub prefix : List ℕ
  pub local : List ℕ

abbrev pub is_colon : ℕ → Bool
is_colon b = b == 58

abbrev pub prefixed : List ℕ → List ℕ → Option QName
prefixed prefix local = if is_ncname prefix && is_ncname local then Some (record { prefix = prefix; local = local }) else None

abbrev pub unprefixed : List ℕ → Option QName
unprefixed text = if is_ncname text then Some (record { prefix = []; local = text }) else None

-- The same as a function: the parts of a text, cut at its first colon; None where the text is no QName.
unfoldable pub qname_of : List ℕ → Option QName
qname_of text = if list_any is_colon text then prefixed (before_first is_colon text) (after_first is_colon text) else unprefixed text

-- a prefix and a local part as the code has them
abbrev pub qname_parts : Bor (List ℕ) × Bor (List ℕ) → QName
qname_parts parts = record { prefix = parts.0.now; local = parts.1.now }

-- the namespaces of the prefixes `xml` and `xmlns` (Namespaces in XML 1.0, 3)
abbrev pub xml_uri : List ℕ
xml_uri = codes "http://www.w3.org/XML/1998/namespace"

abbrev pub xmlns_uri : List ℕ
xmlns_uri = codes "http://www.w3.org/2000/xmlns/"
