-- *( S "&&" S basic-expr ): an instance of `Rep`, whose context is the sort of what stands before.
use Rattle.std.specs.Prelude.{◌≡◌, refl, Bool, false, ◌⊎◌, ◌∷◌, ℕ, ◌+◌, length}
use Rattle.std.proofs.Common.{sym, ap, inl, inr, append-nil, lit<}
use Rattle.definition.specs.Lexical.{Blanks}
use Rattle.definition.specs.Grammar.{Basic, MoreAnd, spell_basic, spell_more_and}
use Rattle.definition.specs.Grammar.MoreAnd.{no_and, more_and}
use Rattle.compile_writes.specs.Laws.{effect_assoc}
use Rattle.compile_writes.specs.Effects.{Effect, join}
use Rattle.compile_writes.specs.Sorts.{Sort, sort_basic, sort_more_and, compared_verdict}
use Rattle.compile_writes.specs.Sorts.Sort.{logical_sort}
use Rattle.compile_writes.specs.Writes.{write_basic, write_more_and, test_tail}
use Rattle.parser_follow.specs.Numbers.{sort_number, sort_of}
use Rattle.parser_laws.specs.Joins.{plain, marked, within, seq_bytes, seq_mark, seq_frame, seq_last, last_pool}
use Rattle.parser_laws.specs.Sorted.{sort_of_lem}
use Rattle.parser_laws.specs.Rep.{Rep}
use Rattle.parser_laws.specs.Starts.{basic_start}
use Rattle.parser_laws.specs.And.{me_basic, me_more_and}

-- what an operand with its operator brings about, from what is told of the operand
abbrev pub and_does : Bool → Sort → Effect × ℕ → Effect
and_does a σ m =
    join (plain (test_tail σ)) (join (within 0x16 (join m.0 (plain (test_tail (sort_of m.1))))) (marked (record { verdict = compared_verdict a (sort_of m.1); beyond = false })))

-- the pool of an operand with its operator is the operand's
and_pool : (a : Bool) (σ : Sort) (m : Effect × ℕ) → length (and_does a σ m).pool ≡ length m.0.pool
unfolding join
and_pool a σ m = simp append-nil

-- a chain is logical behind a logical operand
chain_sort : (xs : MoreAnd) → sort_more_and xs logical_sort ≡ logical_sort
unfolding sort_more_and
chain_sort no_and = refl
chain_sort (more_and b c x xs) = refl

more_sort : (σ : Sort) (b c : Blanks) (x : Basic) (xs : MoreAnd) → sort_more_and (more_and b c x xs) σ ≡ sort_more_and xs logical_sort
unfolding sort_more_and
more_sort σ b c x xs = sym (chain_sort xs)

more_and_effect : (a : Bool) (σ : Sort) (p : ℕ) (b c : Blanks) (x : Basic) (xs : MoreAnd)
    → write_more_and (more_and b c x xs) σ a p ≡ join (and_does a σ (me_basic p x)) (write_more_and xs logical_sort a (p + length (and_does a σ (me_basic p x)).pool))
unfolding write_more_and
more_and_effect a σ p b c x xs =
    rw (and_pool a σ (me_basic p x), sort_of_lem (sort_basic x), seq_bytes, seq_frame, seq_mark, seq_last, effect_assoc, effect_assoc, last_pool (write_basic x p) (test_tail (sort_basic x))) refl

pub and_goes_on : (a : Bool) (σ : Sort) (p : ℕ) (b c : Blanks) (x : Basic) (xs : MoreAnd)
    → me_more_and σ a p (more_and b c x xs) ≡ (join (and_does a σ (me_basic p x)) (me_more_and logical_sort a (p + length (and_does a σ (me_basic p x)).pool) xs).0, (me_more_and logical_sort a (p + length (and_does a σ (me_basic p x)).pool) xs).1)
and_goes_on a σ p b c x xs =
    let e = more_and_effect a σ p b c x xs in
    let f : sort_number (sort_more_and (more_and b c x xs) σ) ≡ sort_number (sort_more_and xs logical_sort) = ap sort_number (more_sort σ b c x xs) in
    λ i. (e i, f i)

pub view : (l : MoreAnd) → (l ≡ no_and) ⊎ ((b : Blanks) × (c : Blanks) × (i : Basic) × (l' : MoreAnd) × (l ≡ more_and b c i l'))
view no_and = inl refl
view (more_and b c i l) = inr (b, c, i, l, refl)

unfoldable pub ands : (a : Bool) → Rep spell_basic me_basic 2 spell_more_and (λ σ p. me_more_and σ a p) 3 0x26
ands a = record {
  sep = λ r. 0x26 ∷ 0x26 ∷ r;
  byte = λ r. (0x26 ∷ r, refl);
  same = λ e. cc;
  nil = no_and;
  more = more_and;
  sp_nil = λ r. refl;
  sp_more = λ b c i l r. refl;
  view = view;
  start = basic_start;
  plain = refl;
  ranked = refl;
  below = lit< tt;
  from = λ σ p. p;
  does = λ σ p m. and_does a σ m;
  then = λ σ m. logical_sort;
  me_more = λ σ p b c x xs. and_goes_on a σ p b c x xs;
}
