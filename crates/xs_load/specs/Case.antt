-- The two files of a load, as their bytes.
use Rattle.std.specs.Prelude.{ℕ, zero, suc, ◌*◌, ◌%◌, List, [], ◌++◌, codes, decimal}

-- the stylesheet
abbrev pub sheet : List ℕ
sheet =
    codes "(xsl:stylesheet\nAxmlns:xsl http://www.w3.org/1999/XSL/Transform\nAversion 1.0\n(xsl:output\nAmethod text\n)xsl:output\n"
    ++ codes "(xsl:key\nAname k\nAmatch i\nAuse @k\n)xsl:key\n"
    ++ codes "(xsl:template\nAmatch /\n(xsl:apply-templates\nAselect r/i\n)xsl:apply-templates\n"
    ++ codes "(xsl:value-of\nAselect concat(count(r/i),' ',sum(r/i/@k),' ',count(key('k','5')))\n)xsl:value-of\n"
    ++ codes "(xsl:text\n-\\n\n)xsl:text\n)xsl:template\n"
    ++ codes "(xsl:template\nAmatch i\n(xsl:if\nAtest . mod 100000 = 0\n(xsl:value-of\nAselect .\n)xsl:value-of\n"
    ++ codes "(xsl:text\n-\\n\n)xsl:text\n)xsl:if\n)xsl:template\n)xsl:stylesheet\n"

-- an element with its number, and one of 97 keys
abbrev pub element : ℕ → List ℕ
element number = codes "(i\nAk " ++ decimal (31 * number % 97) ++ codes "\n-" ++ decimal number ++ codes "\n)i\n"

-- those with the numbers from 1
unfoldable pub elements : ℕ → List ℕ
elements zero = []
elements (suc before) = elements before ++ element (suc before)

-- the source
abbrev pub source : ℕ → List ℕ
source count = codes "(r\n" ++ elements count ++ codes ")r\n"
