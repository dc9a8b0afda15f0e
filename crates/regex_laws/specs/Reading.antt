-- THE READING OF AN EXPRESSION IS THAT OF THE GRAMMAR: the characters s are read as the expression x exactly if a tree of the grammar spells
-- them and means x. So there is one expression at most for each text, and none exactly where no tree spells it. Assumes nothing.
use Rattle.std.specs.Prelude.{◌≡◌, List, [], ◌∷◌, ◌↔◌, ℕ}
use Rattle.std.proofs.Common.{ap, sym, ◌∙◌}
use Rattle.std.proofs.Math.Option.{Option, none, some}
use Rattle.regex_definition.specs.Regexp.{Regexp}
use Rattle.regex_definition.specs.Grammar.{Alternatives, spell, Spells}
use Rattle.regex_definition.specs.Read.{all_read_lem, steps, read_alternatives, read_regexp}
use Rattle.regex_laws.specs.Steps.{none_some}
use Rattle.regex_laws.specs.Complete.{complete}
use Rattle.regex_laws.specs.Sound.{alternatives_sound}

-- all was read
all_read : (o : Option (Regexp × List ℕ)) (x : Regexp) → all_read_lem o ≡ some x → o ≡ some (x, [])
all_read none x e = absurd (none_some e)
all_read (some (y, [])) x e = let q : y ≡ x = cc in ap (λ (z : Regexp). some (z, [])) q
all_read (some (y, c ∷ s)) x e = absurd (none_some e)

pub spells_of_read : (s : List ℕ) (x : Regexp) → read_regexp s ≡ some x → Spells s x
unfolding read_regexp
spells_of_read s x e =
    let h = alternatives_sound (steps s) (λ y. y) s x [] (all_read (read_alternatives (steps s) (λ y. y) s) x e) in
    record { tree = h.tree; spells = sym h.spells; means = sym h.means }

pub read_of_spells : (s : List ℕ) (x : Regexp) → Spells s x → read_regexp s ≡ some x
read_of_spells s x h = ap read_regexp (sym h.spells) ∙ complete h.tree ∙ ap some h.means

pub reading : (s : List ℕ) (x : Regexp) → (read_regexp s ≡ some x) ↔ Spells s x
reading s x = (spells_of_read s x, read_of_spells s x)

-- one meaning for each text
pub one_meaning : (s : List ℕ) (x y : Regexp) → Spells s x → Spells s y → x ≡ y
one_meaning s x y h k =
    let e : ◌≡◌ {A = Option Regexp} (some x) (some y) = sym (read_of_spells s x h) ∙ read_of_spells s y k in
    cc

-- what is not read, no tree spells
pub no_tree_lem : (s : List ℕ) → read_regexp s ≡ none → (t : Alternatives) → spell t ≡ s → ⊥
no_tree_lem s e t h = none_some (sym e ∙ ap read_regexp (sym h) ∙ complete t)
