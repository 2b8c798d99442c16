-- Runs and names of a text, by the rules and by the function.
use Rattle.std.proofs.Common.{◌≡◌, ℕ, suc, ◌+◌, ◌<◌, ◌≢◌, Bool, true, false, List, [], ◌∷◌, ◌++◌, Option, Some, None, length, take, drop, refl, sym, ◌∙◌, ap, subst, arith, append_assoc}
use Rattle.std.specs.Prelude.{◌==◌, ◌&&◌, if◌then◌else◌}
use Rattle.std.specs.List.{prefix_len}
use Rattle.std.proofs.lemmas.Str.{chars-nil}
use Rattle.std.proofs.Math.Seq.{take-append_seam, drop-append_seam}
use Rattle.std.proofs.lemmas.Bool.Decides.{nat_tests}
use Rattle.xs_text.specs.Names.{spells_ncname}
use Rattle.xs_xpath.specs.Names.{is_nil}
use Rattle.xs_parser.specs.declared.token.QName.{QName}
use Rattle.xs_parser.specs.declared.bytes.Class.{Class}
use Rattle.xs_parser.specs.declared.bytes.Class.TheVariants.{NameByte}
use Rattle.xs_parser.specs.Lexing.{starts_name, passes, first, second, run, behind, strip, is_ncname, qname, local_at, with_local, qualified}
use Rattle.xs_parser.specs.Spelling.{AllPass, Stops, IsName, local_name, prefixed_name}

pub none-some : {A : Type 0} (a : A) → None ≡ Some a → ⊥
none-some a h = cc

pub some-same : {A : Type 0} (a b : A) → Some a ≡ Some b → a ≡ b
some-same a b h = cc

pub true-false : (b : Bool) → b ≡ true → b ≡ false → ⊥
true-false b h k = cc

-- ---- runs
one-add : (n : ℕ) → 1 + n ≡ suc n
one-add n = omega arith

prefix-all : (class : Class) (text rest : List ℕ) → AllPass class text → Stops class rest → prefix_len (passes class) (text ++ rest) ≡ length text
prefix-all class [] [] h s = refl
prefix-all class [] (b ∷ rest) h s = rw s refl
prefix-all class (b ∷ text) rest h s = rw (h.0, prefix-all class text rest h.1 s) (one-add (length text))

pub run-all : (class : Class) (text rest : List ℕ) → AllPass class text → Stops class rest → run class (text ++ rest) ≡ text
run-all class text rest h s = ap (λ n. take n (text ++ rest)) (prefix-all class text rest h s) ∙ take-append_seam text rest

pub behind-all : (class : Class) (text rest : List ℕ) → AllPass class text → Stops class rest → behind class (text ++ rest) ≡ rest
behind-all class text rest h s = ap (λ n. drop n (text ++ rest)) (prefix-all class text rest h s) ∙ drop-append_seam text rest

-- what a run at the front is
pub record Runs (class : Class) (bytes : List ℕ) : Type 0 where
  pub all : AllPass class (run class bytes)
  pub stops : Stops class (behind class bytes)
  pub whole : bytes ≡ run class bytes ++ behind class bytes

run-more : (class : Class) (b : ℕ) (bs : List ℕ) → passes class b ≡ true → run class (b ∷ bs) ≡ b ∷ run class bs
run-more class b bs h = rw (h, one-add (prefix_len (passes class) bs)) refl

behind-more : (class : Class) (b : ℕ) (bs : List ℕ) → passes class b ≡ true → behind class (b ∷ bs) ≡ behind class bs
behind-more class b bs h = rw (h, one-add (prefix_len (passes class) bs)) refl

run-none : (class : Class) (b : ℕ) (bs : List ℕ) → passes class b ≡ false → run class (b ∷ bs) ≡ []
run-none class b bs h = rw h refl

behind-none : (class : Class) (b : ℕ) (bs : List ℕ) → passes class b ≡ false → behind class (b ∷ bs) ≡ b ∷ bs
behind-none class b bs h = rw h refl

pub runs : (class : Class) (bytes : List ℕ) → Runs class bytes
runs class [] = record { all = tt; stops = tt; whole = refl }
runs class (b ∷ bs) = go (passes class b) refl (runs class bs)
  where
    go : (t : Bool) → passes class b ≡ t → Runs class bs → Runs class (b ∷ bs)
    go true e r =
        let f = run-more class b bs e in
        let d = behind-more class b bs e in record {
          all = subst (AllPass class) (sym f) (e, r.all);
          stops = subst (Stops class) (sym d) r.stops;
          whole = ap (λ xs. b ∷ xs) r.whole ∙ sym (ap (λ xs. xs ++ behind class (b ∷ bs)) f ∙ ap (λ xs. (b ∷ run class bs) ++ xs) d);
        }
    go false e r =
        let f = run-none class b bs e in
        let d = behind-none class b bs e in record {
          all = subst (AllPass class) (sym f) tt;
          stops = subst (Stops class) (sym d) e;
          whole = sym (ap (λ xs. xs ++ behind class (b ∷ bs)) f ∙ d);
        }

-- ---- single bytes
pub byte-is : (b c : ℕ) → (b == c) ≡ true → b ≡ c
byte-is b c h = grind (arith, nat_tests)

pub same-byte : (b : ℕ) → (b == b) ≡ true
same-byte b = grind (arith, nat_tests)

and-true : (a b : Bool) → (a && b) ≡ true → (a ≡ true) × (b ≡ true)
and-true true b h = (refl, h)
and-true false b h = absurd (cc)

no-zero : (b : ℕ) → 0 < b → (0 == b) ≡ true → ⊥
no-zero b some h = let e = byte-is 0 b h in absurd (omega arith)

if-some : {A : Type 0} (t : Bool) (a b : A) → (if t then Some a else None) ≡ Some b → (t ≡ true) × (a ≡ b)
if-some true a b h = (refl, some-same a b h)
if-some false a b h = absurd (none-some b h)

pub strip-some : (b : ℕ) (bytes rest : List ℕ) → 0 < b → strip b bytes ≡ Some rest → bytes ≡ b ∷ rest
strip-some b [] rest some h = absurd (no-zero b some ((if-some (0 == b) [] rest h).0))
strip-some b (c ∷ cs) rest some h =
    let k = if-some (c == b) cs rest h in
    ap (λ x. x ∷ cs) (byte-is c b k.0) ∙ ap (λ xs. b ∷ xs) k.1

-- two bytes at the front
pub pair-at : (b c : ℕ) (bytes rest : List ℕ) → 0 < b → 0 < c → (if first bytes == b && second bytes == c then Some
    (drop 1 (drop 1 bytes)) else None) ≡ Some rest → bytes ≡ b ∷ c ∷ rest
pair-at b c [] rest some more h = absurd (no-zero b some ((and-true (0 == b) (0 == c) ((if-some (0 == b && 0 == c) [] rest h).0)).0))
pair-at b c (x ∷ []) rest some more h = absurd (no-zero c more ((and-true (x == b) (0 == c) ((if-some (x == b && 0 == c) [] rest h).0)).1))
pair-at b c (x ∷ y ∷ ys) rest some more h =
    let k = if-some (x == b && y == c) ys rest h in
    let a = and-true (x == b) (y == c) k.0 in
    ap (λ z. z ∷ y ∷ ys) (byte-is x b a.0) ∙ ap (λ z. b ∷ z ∷ ys) (byte-is y c a.1) ∙ ap (λ zs. b ∷ c ∷ zs) k.1

pub local-some : (bytes more : List ℕ) → local_at bytes ≡ Some more → (bytes ≡ 58 ∷ more) × (starts_name (first more) ≡ true)
local-some [] more h = absurd (none-some more h)
local-some (c ∷ cs) more h =
    let k = if-some (c == 58 && starts_name (first cs)) cs more h in
    let a = and-true (c == 58) (starts_name (first cs)) k.0 in
    (ap (λ x. x ∷ cs) (byte-is c 58 a.0) ∙ ap (λ xs. 58 ∷ xs) k.1, ap (λ xs. starts_name (first xs)) (sym k.1) ∙ a.1)

-- ---- names
pub ncname-nil : is_ncname [] ≡ false
unfolding is_ncname
ncname-nil = ap spells_ncname chars-nil

first-front : (text rest : List ℕ) → text ≢ [] → first (text ++ rest) ≡ first text
first-front [] rest h = absurd (h refl)
first-front (b ∷ text) rest h = refl

pub ncname-some : (text : List ℕ) → is_ncname text ≡ true → text ≢ []
ncname-some text h = λ e. true-false (is_ncname []) (ap is_ncname (sym e) ∙ h) ncname-nil

-- a colon is no part of a name
colon-stops : (bytes : List ℕ) → Stops NameByte (58 ∷ bytes)
colon-stops bytes = refl

qualified-local : (text rest : List ℕ) → is_ncname text ≡ true → local_at rest ≡ None → (bytes : List ℕ) → run NameByte bytes ≡ text
    → behind NameByte bytes ≡ rest → qualified bytes ≡ Some (qname [] text, rest)
qualified-local text rest name none bytes r d = rw (r, d, name, none) refl

qualified-prefixed : (prefix local rest more : List ℕ) → is_ncname prefix ≡ true → is_ncname local ≡ true → (bytes : List ℕ) → run NameByte bytes ≡ prefix
    → behind NameByte bytes ≡ 58 ∷ more → starts_name (first more) ≡ true
    → run NameByte more ≡ local → behind NameByte more ≡ rest → qualified bytes ≡ Some (qname prefix local, rest)
qualified-prefixed prefix local rest more name other bytes r d starts q e = rw (r, d, name, starts, q, e, other) refl

pub qualified-IsName : (text rest : List ℕ) (q : QName) → IsName text rest q → qualified (text ++ rest) ≡ Some (q, rest)
qualified-IsName _ _ _ (local_name text rest name all stops none) =
    qualified-local text rest name none (text ++ rest) (run-all NameByte text rest all stops) (behind-all NameByte text rest all stops)
qualified-IsName _ _ _ (prefixed_name prefix local rest name other all more starts stops) =
    let whole : (prefix ++ 58 ∷ local) ++ rest ≡ prefix ++ 58 ∷ (local ++ rest) = append_assoc prefix (58 ∷ local) rest in
    let s : starts_name (first (local ++ rest)) ≡ true = ap starts_name (first-front local rest (ncname-some local other)) ∙ starts in
    ap qualified whole ∙ qualified-prefixed prefix local rest (local ++ rest) name other (prefix ++ 58 ∷ (local ++ rest))
    (run-all NameByte prefix (58 ∷ (local ++ rest)) all (colon-stops (local ++ rest)))
    (behind-all NameByte prefix (58 ∷ (local ++ rest)) all (colon-stops (local ++ rest))) s
    (run-all NameByte local rest more stops) (behind-all NameByte local rest more stops)

-- a name that was found, and the text that it is
abbrev pub NameReported : List ℕ → QName × List ℕ → Type 0
NameReported bytes q = (text : List ℕ) × (bytes ≡ text ++ q.1) × IsName text q.1 q.0

first-run : (more : List ℕ) → is_ncname (run NameByte more) ≡ true → first (run NameByte more) ≡ first more
first-run more h =
    sym (ap first (runs NameByte more).whole ∙ first-front (run NameByte more) (behind NameByte more) (ncname-some (run NameByte more) h))

with-local-sound : (bytes : List ℕ) (o : Option (List ℕ)) (q : QName × List ℕ) → is_ncname (run NameByte bytes) ≡ true → local_at (behind NameByte bytes) ≡ o
    → with_local (run NameByte bytes) (behind NameByte bytes) o ≡ Some q → NameReported bytes q
with-local-sound bytes None q name at h =
    let r = runs NameByte bytes in
    subst (NameReported bytes) (some-same (qname [] (run NameByte bytes), behind NameByte bytes) q h)
    (run NameByte bytes, r.whole, local_name (run NameByte bytes) (behind NameByte bytes) name r.all r.stops at)
with-local-sound bytes (Some more) q name at h =
    let r = runs NameByte bytes in
    let s = runs NameByte more in
    let k = if-some (is_ncname (run NameByte more)) (qname (run NameByte bytes) (run NameByte more), behind NameByte more) q h in
    let l = local-some (behind NameByte bytes) more at in
    let whole : bytes ≡ (run NameByte bytes ++ 58 ∷ run NameByte more) ++ behind NameByte more =
    r.whole ∙ ap (λ xs. run NameByte bytes ++ xs) (l.0 ∙ ap (λ xs. 58 ∷ xs) s.whole)
    ∙ sym (append_assoc (run NameByte bytes) (58 ∷ run NameByte more) (behind NameByte more)) in
    subst (NameReported bytes) k.1 (
      run NameByte bytes ++ 58 ∷ run NameByte more,
      whole,
      prefixed_name (run NameByte bytes) (run NameByte more) (behind NameByte more) name k.0 r.all s.all
          (ap starts_name (first-run more k.0) ∙ l.1) s.stops,
    )

pub qualified-sound : (bytes : List ℕ) (q : QName × List ℕ) → qualified bytes ≡ Some q → NameReported bytes q
qualified-sound bytes q h = go (is_ncname (run NameByte bytes)) refl h
  where
    go : (t : Bool) → is_ncname (run NameByte bytes) ≡ t → (if t then with_local (run NameByte bytes) (behind NameByte bytes)
        (local_at (behind NameByte bytes)) else None) ≡ Some q → NameReported bytes q
    go true e k = with-local-sound bytes (local_at (behind NameByte bytes)) q e refl k
    go false e k = absurd (none-some q k)

-- a name without a prefix is its own text
pub unprefixed-name : (text rest : List ℕ) (q : QName) → IsName text rest q → is_nil q.prefix ≡ true → q ≡ qname [] text
unprefixed-name _ _ _ (local_name text rest name all stops none) h = refl
unprefixed-name _ _ _ (prefixed_name [] local rest name other all more starts stops) h = absurd (true-false (is_ncname []) name ncname-nil)
unprefixed-name _ _ _ (prefixed_name (b ∷ prefix) local rest name other all more starts stops) h = absurd (cc)

colon-behind : (prefix local : List ℕ) → prefix ++ 58 ∷ local ≡ [] → ⊥
colon-behind [] local h = cc
colon-behind (b ∷ prefix) local h = cc

pub name-some : (text rest : List ℕ) (q : QName) → IsName text rest q → text ≢ []
name-some _ _ _ (local_name text rest name all stops none) = ncname-some text name
name-some _ _ _ (prefixed_name prefix local rest name other all more starts stops) = λ h. colon-behind prefix local h
