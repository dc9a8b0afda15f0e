-- *( S "||" S logical-and-expr ): an instance of `Rep`, whose context is the sort of what stands before.
use Rattle.std.specs.Prelude.{◌≡◌, refl, Bool, ◌⊎◌, ◌∷◌, ℕ, ◌+◌, length}
use Rattle.std.proofs.Common.{sym, ap, inl, inr, append-nil, lit<}
use Rattle.definition.specs.Lexical.{Blanks}
use Rattle.definition.specs.Grammar.{LogicalAnd, MoreOr, spell_logical_and, spell_more_or}
use Rattle.definition.specs.Grammar.MoreOr.{no_or, more_or}
use Rattle.compile_writes.specs.Laws.{effect_assoc}
use Rattle.compile_writes.specs.Effects.{Effect, join}
use Rattle.compile_writes.specs.Sorts.{Sort, sort_and_lem, sort_more_or}
use Rattle.compile_writes.specs.Sorts.Sort.{logical_sort}
use Rattle.compile_writes.specs.Writes.{write_and_lem, write_more_or, test_tail}
use Rattle.parser_follow.specs.Numbers.{sort_number, sort_of}
use Rattle.parser_laws.specs.Joins.{plain, within, seq_bytes, seq_frame, seq_last, last_pool}
use Rattle.parser_laws.specs.Sorted.{sort_of_lem}
use Rattle.parser_laws.specs.Rep.{Rep}
use Rattle.parser_laws.specs.Starts.{and_start}
use Rattle.parser_laws.specs.And.{me_and}
use Rattle.parser_laws.specs.Or.{me_more_or}

-- what an operand with its operator brings about, from what is told of the operand
abbrev pub or_does : Sort → Effect × ℕ → Effect
or_does σ m = join (plain (test_tail σ)) (within 0x17 (join m.0 (plain (test_tail (sort_of m.1)))))

-- the pool of an operand with its operator is the operand's
or_pool : (σ : Sort) (m : Effect × ℕ) → length (or_does σ m).pool ≡ length m.0.pool
unfolding join
or_pool σ m = simp append-nil

-- a chain is logical behind a logical operand
chain_sort : (xs : MoreOr) → sort_more_or xs logical_sort ≡ logical_sort
unfolding sort_more_or
chain_sort no_or = refl
chain_sort (more_or b c x xs) = refl

more_sort : (σ : Sort) (b c : Blanks) (x : LogicalAnd) (xs : MoreOr) → sort_more_or (more_or b c x xs) σ ≡ sort_more_or xs logical_sort
unfolding sort_more_or
more_sort σ b c x xs = sym (chain_sort xs)

more_or_effect : (a : Bool) (σ : Sort) (p : ℕ) (b c : Blanks) (x : LogicalAnd) (xs : MoreOr)
    → write_more_or (more_or b c x xs) σ a p ≡ join (or_does σ (me_and a p x)) (write_more_or xs logical_sort a (p + length (or_does σ (me_and a p x)).pool))
unfolding write_more_or
more_or_effect a σ p b c x xs =
    rw (or_pool σ (me_and a p x), sort_of_lem (sort_and_lem x), seq_bytes, seq_frame, seq_last, effect_assoc, last_pool (write_and_lem x a p) (test_tail (sort_and_lem x))) refl

pub or_goes_on : (a : Bool) (σ : Sort) (p : ℕ) (b c : Blanks) (x : LogicalAnd) (xs : MoreOr)
    → me_more_or σ a p (more_or b c x xs) ≡ (join (or_does σ (me_and a p x)) (me_more_or logical_sort a (p + length (or_does σ (me_and a p x)).pool) xs).0, (me_more_or logical_sort a (p + length (or_does σ (me_and a p x)).pool) xs).1)
or_goes_on a σ p b c x xs =
    let e = more_or_effect a σ p b c x xs in
    let f : sort_number (sort_more_or (more_or b c x xs) σ) ≡ sort_number (sort_more_or xs logical_sort) = ap sort_number (more_sort σ b c x xs) in
    λ i. (e i, f i)

pub view : (l : MoreOr) → (l ≡ no_or) ⊎ ((b : Blanks) × (c : Blanks) × (i : LogicalAnd) × (l' : MoreOr) × (l ≡ more_or b c i l'))
view no_or = inl refl
view (more_or b c i l) = inr (b, c, i, l, refl)

unfoldable pub ors : (a : Bool) → Rep spell_logical_and (me_and a) 3 spell_more_or (λ σ p. me_more_or σ a p) 4 0x7C
ors a = record {
  sep = λ r. 0x7C ∷ 0x7C ∷ r;
  byte = λ r. (0x7C ∷ r, refl);
  same = λ e. cc;
  nil = no_or;
  more = more_or;
  sp_nil = λ r. refl;
  sp_more = λ b c i l r. refl;
  view = view;
  start = and_start;
  plain = refl;
  ranked = refl;
  below = lit< tt;
  from = λ σ p. p;
  does = λ σ p m. or_does σ m;
  then = λ σ m. logical_sort;
  me_more = λ σ p b c x xs. or_goes_on a σ p b c x xs;
}
