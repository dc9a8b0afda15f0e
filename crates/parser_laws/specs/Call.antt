-- A call of a function behind its name and "(": S [ arguments ] S ")". The typing of a call goes by the sorts of its arguments, which one number tells.
use Rattle.std.specs.Prelude.{◌≡◌, refl, false, List, [], ◌∷◌, ℕ, length}
use Rattle.std.proofs.Common.{sym, ap, ◌∙◌}
use Rattle.definition.specs.Lexical.{spell_blanks}
use Rattle.definition.specs.Grammar as G
use Rattle.definition.specs.Grammar.{spell_arguments}
use Rattle.definition.specs.Grammar.Arguments.{arguments}
use Rattle.definition.specs.Walk.{Named}
use Rattle.definition.specs.Walk.Named.{count, value_name, match, search, unknown}
use Rattle.parser_follow.specs.Blanks.{split_blanks}
use Rattle.basics.specs.Reads.{Reads, ReadsNone}
use Rattle.compile_writes.specs.Effects.{join, seq, mark, bytes}
use Rattle.compile_writes.specs.Sorts.{Sort, sorts_of, call_verdict, named_sort, one_verdict, two_verdict}
use Rattle.compile_writes.specs.Sorts.Sort.{literal_sort, singular_sort, nodes_sort, value_sort, logical_sort}
use Rattle.compile_writes.specs.Writes.{write_arguments, call_bytes}
use Rattle.parser_follow.specs.Follow.{unblank, After}
use Rattle.parser_follow.specs.Numbers.{sort_number, arguments_from, sorts_from, name_of}
use Rattle.parser_follow.specs.Pieces.{Call, spell_call}
use Rattle.parser_laws.specs.Joins.{plain, marked}
use Rattle.parser_laws.specs.Words.{me_call}
use Rattle.parser_laws.specs.Arguments.{me_arguments, call_inside, called_by}

-- three arguments or more have one number
many : (ss : List Sort) → arguments_from 31 ss ≡ 31
unfolding arguments_from
many [] = refl
many (s ∷ ss) = many ss

-- the number of a list of arguments tells their sorts, as far as a call asks
abbrev Told : List Sort → Type 0
Told ss = (m : Named) → call_verdict m ss ≡ call_verdict m (sorts_from (arguments_from 0 ss))

three : (s t u : Sort) (ss : List Sort) → arguments_from 0 (s ∷ t ∷ u ∷ ss) ≡ 31
unfolding arguments_from
three literal_sort literal_sort u ss = many ss
three literal_sort singular_sort u ss = many ss
three literal_sort nodes_sort u ss = many ss
three literal_sort value_sort u ss = many ss
three literal_sort logical_sort u ss = many ss
three singular_sort literal_sort u ss = many ss
three singular_sort singular_sort u ss = many ss
three singular_sort nodes_sort u ss = many ss
three singular_sort value_sort u ss = many ss
three singular_sort logical_sort u ss = many ss
three nodes_sort literal_sort u ss = many ss
three nodes_sort singular_sort u ss = many ss
three nodes_sort nodes_sort u ss = many ss
three nodes_sort value_sort u ss = many ss
three nodes_sort logical_sort u ss = many ss
three value_sort literal_sort u ss = many ss
three value_sort singular_sort u ss = many ss
three value_sort nodes_sort u ss = many ss
three value_sort value_sort u ss = many ss
three value_sort logical_sort u ss = many ss
three logical_sort literal_sort u ss = many ss
three logical_sort singular_sort u ss = many ss
three logical_sort nodes_sort u ss = many ss
three logical_sort value_sort u ss = many ss
three logical_sort logical_sort u ss = many ss

many_told : (m : Named) (s t u : Sort) (ss : List Sort) → call_verdict m (s ∷ t ∷ u ∷ ss) ≡ call_verdict m (literal_sort ∷ literal_sort ∷ literal_sort ∷ [])
unfolding call_verdict one_verdict two_verdict
many_told count s t u ss = refl
many_told Named.length s t u ss = refl
many_told value_name s t u ss = refl
many_told match s t u ss = refl
many_told search s t u ss = refl
many_told unknown s t u ss = refl

sorts_one : (s : Sort) → sorts_from (arguments_from 0 (s ∷ [])) ≡ s ∷ []
unfolding arguments_from
sorts_one literal_sort = refl
sorts_one singular_sort = refl
sorts_one nodes_sort = refl
sorts_one value_sort = refl
sorts_one logical_sort = refl

sorts_two : (s t : Sort) → sorts_from (arguments_from 0 (s ∷ t ∷ [])) ≡ s ∷ t ∷ []
unfolding arguments_from
sorts_two literal_sort literal_sort = refl
sorts_two literal_sort singular_sort = refl
sorts_two literal_sort nodes_sort = refl
sorts_two literal_sort value_sort = refl
sorts_two literal_sort logical_sort = refl
sorts_two singular_sort literal_sort = refl
sorts_two singular_sort singular_sort = refl
sorts_two singular_sort nodes_sort = refl
sorts_two singular_sort value_sort = refl
sorts_two singular_sort logical_sort = refl
sorts_two nodes_sort literal_sort = refl
sorts_two nodes_sort singular_sort = refl
sorts_two nodes_sort nodes_sort = refl
sorts_two nodes_sort value_sort = refl
sorts_two nodes_sort logical_sort = refl
sorts_two value_sort literal_sort = refl
sorts_two value_sort singular_sort = refl
sorts_two value_sort nodes_sort = refl
sorts_two value_sort value_sort = refl
sorts_two value_sort logical_sort = refl
sorts_two logical_sort literal_sort = refl
sorts_two logical_sort singular_sort = refl
sorts_two logical_sort nodes_sort = refl
sorts_two logical_sort value_sort = refl
sorts_two logical_sort logical_sort = refl

pub verdict_told : (ss : List Sort) → Told ss
unfolding arguments_from
verdict_told [] m = refl
verdict_told (s ∷ []) m = ap (call_verdict m) (sym (sorts_one s))
verdict_told (s ∷ t ∷ []) m = ap (call_verdict m) (sym (sorts_two s t))
verdict_told (s ∷ t ∷ u ∷ ss) m = many_told m s t u ss ∙ ap (λ n. call_verdict m (sorts_from n)) (sym (three s t u ss))

call_means : (name p : ℕ) (x : Call) → me_call name p x ≡ called_by name (me_arguments p x.arguments)
unfolding seq mark bytes
call_means name p x =
    let e = verdict_told (sorts_of x.arguments) (name_of name) in
    λ i. (join (write_arguments x.arguments p) (join (marked (record { verdict = e i; beyond = false })) (plain (call_bytes (name_of name)))), sort_number (named_sort (name_of name)))

module _ (name p : ℕ) {s r : List ℕ} {xs : G.Arguments} (o : Reads spell_arguments (me_arguments p) (After 6) (unblank s) xs r) where
  pub call_reads : {r₂ : List ℕ} → unblank r ≡ 0x29 ∷ r₂ → Reads spell_call (me_call name p) (After 0) s (record { before = (split_blanks s).0; arguments = xs; after = (split_blanks r).0 }) r₂
  call_reads {r₂} n = record {
    eq = (split_blanks s).1 ∙ ap (spell_blanks (split_blanks s).0) (o.eq ∙ ap (spell_arguments xs) ((split_blanks r).1 ∙ ap (spell_blanks (split_blanks r).0) n));
    only = λ t' r' f e.
        let h = call_inside t' r' e in
        let g = o.only t'.arguments h.0 h.2 h.1 in
        let z : 0x29 ∷ r' ≡ 0x29 ∷ r₂ = sym h.3 ∙ ap unblank g.1 ∙ n in
        (call_means name p t' ∙ ap (called_by name) g.0 ∙ sym (call_means name p (record { before = (split_blanks s).0; arguments = xs; after = (split_blanks r).0 })), cc z);
  }

  pub call_open : ((l : List ℕ) → unblank r ≡ 0x29 ∷ l → ⊥) → ReadsNone spell_call (After 0) s
  call_open n = record {
    none = λ t' r' f e.
        let h = call_inside t' r' e in
        let g = o.only t'.arguments h.0 h.2 h.1 in
        n r' (ap unblank (sym g.1) ∙ h.3);
  }

pub call_none : {s : List ℕ} → ReadsNone spell_arguments (After 6) (unblank s) → ReadsNone spell_call (After 0) s
call_none k = record {
  none = λ t' r' f e.
      let h = call_inside t' r' e in
      k.none t'.arguments h.0 h.2 h.1;
}
