-- Values of attributes that are no expressions: which are not as they have to be, and which have a prefix that is not bound.
use Rattle.std.specs.Prelude.{ℕ, ◌==◌, ◌-◌, ◌&&◌, ◌||◌, nat_eq, nat_le, not, Bool, false, List, [], ◌∷◌, length, take, Option, Some, None, is_some, codes, if◌then◌else◌}
use Rattle.std.specs.List.{list_all, list_any, before_first, after_first, ends_with}
use Rattle.std.specs.Option.{option_map_or}
use Rattle.std.specs.Str.{bytes_eq}
use Rattle.xs_elements.specs.declared.forms.Form.{Form}
use Rattle.xs_elements.specs.declared.forms.Form.TheVariants.{Version, YesOrNo, Level, Name, Names, Sets, Tests, Prefix, Prefixes, Priority}
use Rattle.xs_elements.specs.WhiteSpace.{words}
use Rattle.xs_text.specs.Names.{is_ncname, qname_of}
use Rattle.xs_xpath.specs.Digits.{is_digit}
use Rattle.xs_xpath.specs.Names.{is_bound}

-- a name (XSLT 1.0, 2.4): a QName of Namespaces in XML 1.0
abbrev pub is_qname : List ℕ → Bool
is_qname text = is_some (qname_of text)

-- the prefix of a name is not bound
abbrev pub is_unbound_name : List (List ℕ × List ℕ) → List ℕ → Bool
is_unbound_name pairs text = option_map_or (λ q. not (is_bound pairs q.prefix)) (qname_of text) false

-- the prefix of `p:*`, if a text ends so
abbrev pub prefix_of_test : List ℕ → Option (List ℕ)
prefix_of_test text = if ends_with nat_eq text (codes ":*") then Some (take (length text - 2) text) else None

-- a name test (XPath 1.0, 2.3): `*`, `p:*`, or a name
abbrev pub is_any_of : List ℕ → Bool
is_any_of text = option_map_or is_ncname (prefix_of_test text) false

abbrev pub is_name_test : List ℕ → Bool
is_name_test text = bytes_eq text (codes "*") || is_any_of text || is_qname text

-- a prefix that is not bound
abbrev pub is_unbound_prefix : List (List ℕ × List ℕ) → List ℕ → Bool
is_unbound_prefix pairs text = is_ncname text && not (is_bound pairs text)

abbrev pub is_any_of_unbound : List (List ℕ × List ℕ) → List ℕ → Bool
is_any_of_unbound pairs text = option_map_or (is_unbound_prefix pairs) (prefix_of_test text) false

-- the prefix of a name test is not bound
abbrev pub is_unbound_test : List (List ℕ × List ℕ) → List ℕ → Bool
is_unbound_test pairs text = is_any_of_unbound pairs text || is_unbound_name pairs text

-- a prefix, or `#default` for the default namespace (XSLT 1.0, 7.1.1 and 14.1), which is never unbound
abbrev pub is_prefix : List ℕ → Bool
is_prefix text = bytes_eq text (codes "#default") || is_ncname text

-- Number (XPath 1.0, 3.7), perhaps behind a minus sign (XSLT 1.0, 5.5); that it has at most nine digits before its point and four
-- behind it is this project's own
abbrev pub is_point : ℕ → Bool
is_point b = b == 46

abbrev pub are_digits : ℕ → List ℕ → Bool
are_digits most text = list_all is_digit text && nat_le (length text) most

abbrev pub is_number : List ℕ → Bool
is_number text =
    are_digits 9 (before_first is_point text) && are_digits 4 (after_first is_point text)
    && not (length (before_first is_point text) == 0 && length (after_first is_point text) == 0)

abbrev pub unsigned : List ℕ → List ℕ
unsigned [] = []
unsigned (b ∷ bs) = if b == 45 then bs else b ∷ bs

-- ---- by the form of the value
-- it is another version than 1.0 (XSLT 1.0, 2.5)
abbrev pub is_unsupported : Form → List ℕ → Bool
is_unsupported Version text = not (bytes_eq text (codes "1.0"))
is_unsupported _ text = false

-- a word is not a name, a name test or a prefix, as the form asks for
abbrev pub is_bad_word : Form → List ℕ → Bool
is_bad_word Tests word = not (is_name_test word)
is_bad_word Prefix word = not (is_prefix word)
is_bad_word Prefixes word = not (is_prefix word)
is_bad_word _ word = not (is_qname word)

-- it is not as it has to be: white space around a single word is a part of it, and lists may have no word
abbrev pub is_bad : Form → List ℕ → Bool
is_bad YesOrNo text = not (bytes_eq text (codes "yes") || bytes_eq text (codes "no"))
is_bad Level text = not (bytes_eq text (codes "single") || bytes_eq text (codes "multiple") || bytes_eq text (codes "any"))
is_bad Name text = is_bad_word Name text
is_bad Names text = list_any (is_bad_word Names) (words text)
is_bad Sets text = list_any (is_bad_word Sets) (words text)
is_bad Tests text = list_any (is_bad_word Tests) (words text)
is_bad Prefix text = is_bad_word Prefix text
is_bad Prefixes text = list_any (is_bad_word Prefixes) (words text)
is_bad Priority text = not (is_number (unsigned text))
is_bad _ text = false

-- the prefix of a word is not bound in a scope
abbrev pub is_unbound_word : Form → List (List ℕ × List ℕ) → List ℕ → Bool
is_unbound_word Tests pairs word = is_unbound_test pairs word
is_unbound_word Prefix pairs word = is_unbound_prefix pairs word
is_unbound_word Prefixes pairs word = is_unbound_prefix pairs word
is_unbound_word _ pairs word = is_unbound_name pairs word

-- a prefix of it is not bound
abbrev pub is_unbound : Form → List (List ℕ × List ℕ) → List ℕ → Bool
is_unbound Name pairs text = is_unbound_word Name pairs text
is_unbound Names pairs text = list_any (is_unbound_word Names pairs) (words text)
is_unbound Sets pairs text = list_any (is_unbound_word Sets pairs) (words text)
is_unbound Tests pairs text = list_any (is_unbound_word Tests pairs) (words text)
is_unbound Prefix pairs text = is_unbound_word Prefix pairs text
is_unbound Prefixes pairs text = list_any (is_unbound_word Prefixes pairs) (words text)
is_unbound _ pairs text = false
