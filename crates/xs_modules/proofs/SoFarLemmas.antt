-- The reading of mentions one by one.
use Rattle.std.proofs.Common.{◌≡◌, ◌∙◌, ℕ, ◌+◌, ◌<◌, ◌≤◌, List, [], ◌∷◌, ◌++◌, Option, map, take, drop, length, get_or, sym, ap, subst, append_assoc}
use Rattle.std.proofs.lemmas.List.{map_more, take-append-drop, map-append}
use Rattle.xs_outside.specs.Edge.{Files}
use Rattle.xs_modules.specs.declared.reading.Reader.{Reader}
use Rattle.xs_modules.specs.declared.modules.ModulesEnd.{ModulesEnd}
use Rattle.xs_modules.specs.declared.modules.ModulesEnd.TheVariants.{NoMemory}
use Rattle.xs_modules.specs.Mentions.{Mention}
use Rattle.xs_modules.specs.Mentioned.{Mentioned, no_module, count}
use Rattle.xs_modules.specs.Precedence.{Imports, no_imports}
use Rattle.xs_modules.specs.Reading.{End, whole, out_of_memory, most_modules}
use Rattle.xs_modules.specs.Results.{ComesTo, end_of}
use Rattle.xs_modules.specs.steps.Joining.{join}
use Rattle.xs_modules.specs.steps.Reader.{Gains, SoFar, number_of, part_mention, mention_in}
use Rattle.xs_modules.proofs.GainLemmas.{gains_both, gains_none, number_after, part_kept}
use Rattle.xs_modules.proofs.OutcomeLemmas.{both_come, none_come, out_here, trouble_comes}

pub so_far_none : (files : Option Files) (r : Reader) (sheet : ℕ) (i : Imports) (asked failed : List (List ℕ)) → number_of r ≤ most_modules → i ≡ no_imports
    → SoFar files r r sheet i [] asked asked failed failed
so_far_none files r sheet i asked failed few e = record {
  read = no_module;
  comes = none_come files r.path.items (number_of r) asked failed;
  gains = subst (λ (x : Imports). Gains r r sheet no_imports x no_module) (sym e) (gains_none r sheet no_imports few);
}

-- memory runs out before the next mention
pub so_far_out : (files : Option Files) (before now : Reader) (sheet : ℕ) (i : Imports) (a b f g : List (List ℕ)) (nodes : List ℕ) (index number : ℕ)
    → SoFar files before now sheet i (map (mention_in before number) (take index nodes)) a b f g
    → ComesTo out_of_memory files before.path.items (number_of before) (map (mention_in before number) nodes) a b f g
so_far_out files before now sheet i a b f g nodes index number done =
    subst (λ (ms : List Mention). ComesTo out_of_memory files before.path.items (number_of before) ms a b f g)
    (sym (map-append (mention_in before number) (take index nodes) (drop index nodes)) ∙ ap (map (mention_in before number)) (take-append-drop index nodes))
    (trouble_comes files before.path.items (number_of before) (map (mention_in before number) (take index nodes)) []
    (map (mention_in before number) (drop index nodes)) done.read NoMemory a b b f g g done.comes
    (out_here files before.path.items (number_of before + count done.read) [] b g))

module _ (files : Option Files) (before now : Reader) (sheet : ℕ) (i : Imports) (a b f g : List (List ℕ)) (nodes : List ℕ) (index n number : ℕ) (m : Mention)
    (inside : index < length nodes) (is : n ≡ get_or nodes index n) (there : number < number_of before) (mention : m ≡ mention_in now number n)
    (done : SoFar files before now sheet i (map (mention_in before number) (take index nodes)) a b f g) where
  -- the mention is that of the module as it was read first
  same_mention : m ≡ mention_in before number (get_or nodes index n)
  same_mention = mention ∙ ap (λ p. part_mention number p n) (part_kept before now _ number done.gains.parts there)
      ∙ ap (mention_in before number) is

  more_mentions : map (mention_in before number) (take index nodes) ++ m ∷ [] ≡ map (mention_in before number) (take (index + 1) nodes)
  more_mentions = ap (λ x. map (mention_in before number) (take index nodes) ++ x ∷ []) same_mention
      ∙ sym (map_more (mention_in before number) nodes index n inside)

  all_mentions : map (mention_in before number) (take index nodes) ++ ((m ∷ []) ++ map (mention_in before number) (drop (index + 1) nodes))
      ≡ map (mention_in before number) nodes
  all_mentions =
      sym (append_assoc (map (mention_in before number) (take index nodes)) (m ∷ []) (map (mention_in before number) (drop (index + 1) nodes)))
      ∙ ap (λ xs. xs ++ map (mention_in before number) (drop (index + 1) nodes)) more_mentions
      ∙ sym (map-append (mention_in before number) (take (index + 1) nodes) (drop (index + 1) nodes))
      ∙ ap (map (mention_in before number)) (take-append-drop (index + 1) nodes)

  here : {end : End} (files' : Option Files) (c h : List (List ℕ)) → files' ≡ files → ComesTo end files' now.path.items (number_of now) (m ∷ []) b c g h
      → ComesTo end files before.path.items (number_of before + count done.read) (m ∷ []) b c g h
  here {end = end} files' c h e r =
      subst (λ k. ComesTo end files before.path.items k (m ∷ []) b c g h) (number_after before now sheet done.read done.gains.parts)
      (subst (λ (p : List (List ℕ)). ComesTo end files p (number_of now) (m ∷ []) b c g h) done.gains.path
      (subst (λ (x : Option Files). ComesTo end x now.path.items (number_of now) (m ∷ []) b c g h) e r))

  -- one mention more
  pub so_far_more : (files' : Option Files) (after : Reader) (k : Imports) (c h : List (List ℕ)) (read : Mentioned) → files' ≡ files
      → ComesTo (whole read) files' now.path.items (number_of now) (m ∷ []) b c g h → Gains now after sheet i k read
      → SoFar files before after sheet k (map (mention_in before number) (take (index + 1) nodes)) a c f h
  so_far_more files' after k c h read e comes gains = record {
    read = join done.read read;
    comes = subst (λ (ms : List Mention). ComesTo (whole (join done.read read)) files before.path.items (number_of before) ms a c f h) more_mentions
        (both_come files before.path.items (number_of before) _ (m ∷ []) done.read read a b c f g h done.comes (here files' c h e comes));
    gains = gains_both before now after sheet no_imports i k done.read read done.gains gains;
  }

  -- or trouble in it
  pub so_far_trouble : (files' : Option Files) (x : ModulesEnd) (c h : List (List ℕ)) → files' ≡ files
      → ComesTo (end_of x) files' now.path.items (number_of now) (m ∷ []) b c g h
      → ComesTo (end_of x) files before.path.items (number_of before) (map (mention_in before number) nodes) a c f h
  so_far_trouble files' x c h e comes =
      subst (λ (ms : List Mention). ComesTo (end_of x) files before.path.items (number_of before) ms a c f h) all_mentions
      (trouble_comes files before.path.items (number_of before) _ (m ∷ []) _ done.read x a b c f g h done.comes (here files' c h e comes))
