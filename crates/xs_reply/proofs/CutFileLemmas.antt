-- What the bytes represent that a library gave of a file.
use Rattle.std.proofs.Common.{◌≡◌, ℕ, ◌+◌, List, take, Option, Some, None, refl, ap, ◌∙◌, IfSome, MatchOption}
use Rattle.xs_outside.specs.Edge.{Files}
use Rattle.xs_modules.proofs.DocumentLemmas.{document_takes}
use Rattle.xs_tree.specs.Record.{Record}
use Rattle.xs_reply.specs.Read.{Read}
use Rattle.xs_reply.specs.Run.{source_of, source_read, source_limit}
use Rattle.xs_reply.specs.Reply.{FileGives}

-- what a library gave of a file whose bytes it records
abbrev Reported : Option (List ℕ) → List ℕ → ℕ → Type 0
Reported file bytes limit = MatchOption file ⊥ (λ b. bytes ≡ take (limit + 1) b)

reported_gives : {A : Type 0} (reading : List ℕ → Read A) (limit : ℕ) (map : Files) (name bytes : List ℕ) (found : Read A)
    → ((b : List ℕ) → reading (take (limit + 1) b) ≡ reading b)
    → (file : Option (List ℕ)) → map name ≡ file → Reported file bytes limit → found ≡ reading bytes → FileGives reading (Some map) name found
reported_gives reading limit map name bytes found cut None is h e = absurd h
reported_gives reading limit map name bytes found cut (Some b) is h e = record { bytes = b; holds = is; gives = e ∙ ap reading h ∙ cut b }

cut_gives : {A : Type 0} (reading : List ℕ → Read A) (limit : ℕ) (files : Option Files) (name bytes : List ℕ) (found : Read A)
    → ((b : List ℕ) → reading (take (limit + 1) b) ≡ reading b)
    → IfSome files (λ f. Reported (f name) bytes limit) → found ≡ reading bytes → FileGives reading files name found
cut_gives reading limit None name bytes found cut h e = record { bytes = bytes; holds = tt; gives = e }
cut_gives reading limit (Some map) name bytes found cut h e = reported_gives reading limit map name bytes found cut (map name) refl h e

source_takes : (bytes : List ℕ) → source_of (take (source_limit + 1) bytes) ≡ source_of bytes
unfolding source_of
source_takes bytes = ap source_read (document_takes source_limit bytes)

pub source_gives : (files : Option Files) (name bytes : List ℕ) (found : Read (List Record))
    → IfSome files (λ f. MatchOption (f name) ⊥ (λ b. bytes ≡ take (source_limit + 1) b)) → found ≡ source_of bytes → FileGives source_of files name found
source_gives files name bytes found h e = cut_gives source_of source_limit files name bytes found source_takes h e
