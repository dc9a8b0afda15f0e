-- [ function-argument *( S "," S function-argument ) ], and a call behind its name and "(".
use Rattle.std.specs.Prelude.{◌≡◌, refl, Bool, true, false, cond, ◌||◌, ◌⊎◌, List, [], ◌∷◌, ℕ, ◌+◌, ◌<◌, eqb, length}
use Rattle.std.proofs.Common.{sym, ap, subst, ◌∙◌, true≢false, inl, inr, arith, eqb-true, lit≤, lit<}
use Rattle.definition.specs.Lexical.{Blanks, spell_blanks}
use Rattle.definition.specs.Grammar as G
use Rattle.definition.specs.Grammar.{spell_argument, spell_arguments, spell_more_arguments}
use Rattle.definition.specs.Grammar.Arguments.{no_argument, arguments}
use Rattle.definition.specs.Grammar.MoreArguments.{no_more, more_arguments}
use Rattle.definition.specs.Grammar.Argument.{literal_argument, query_argument, logical_argument, function_argument}
use Rattle.definition.specs.Grammar.FilterQuery.{rel_query, abs_query}
use Rattle.parser_follow.specs.Blanks.{unblank_blanks}
use Rattle.basics.specs.Reads.{Reads, ReadsNone}
use Rattle.compile_writes.specs.Effects.{Effect, join, seq}
use Rattle.compile_writes.specs.Sorts.{sort_argument, sorts_of, sorts_more, named_sort}
use Rattle.compile_writes.specs.Writes.{write_argument, write_arguments, write_more_arguments, call_bytes}
use Rattle.parser_follow.specs.Follow.{hd, unblank, level_of, After, after_weaken}
use Rattle.parser_follow.specs.Numbers.{sort_number, one_more_lem, arguments_from, name_of, call_marks}
use Rattle.parser_follow.specs.Pieces.{Call, spell_call}
use Rattle.parser_laws.specs.Follows.{after_blanks}
use Rattle.parser_laws.specs.Joins.{plain, marked}
use Rattle.parser_laws.specs.Begins.{begins_not, argument_begins, is_basic_byte}
use Rattle.parser_laws.specs.Starts.{literal_start, function_start, or_start}
use Rattle.parser_laws.specs.Rep.{Rep}

abbrev pub me_argument : ℕ → G.Argument → Effect × ℕ
me_argument p t = (write_argument t p, sort_number (sort_argument t))

abbrev pub me_more_arguments : ℕ → ℕ → G.MoreArguments → Effect × ℕ
me_more_arguments n p t = (write_more_arguments t p, arguments_from n (sorts_more t))

abbrev pub me_arguments : ℕ → G.Arguments → Effect × ℕ
me_arguments p t = (write_arguments t p, arguments_from 0 (sorts_of t))

pub argument_start : (x : G.Argument) (r : List ℕ) → unblank (spell_argument x r) ≡ spell_argument x r
argument_start (literal_argument l) r = literal_start l r
argument_start (query_argument (rel_query xs)) r = refl
argument_start (query_argument (abs_query xs)) r = refl
argument_start (logical_argument e) r = or_start e r
argument_start (function_argument f) r = function_start f r

-- ---- further arguments

pub arguments_go_on : (n p : ℕ) (b c : Blanks) (x : G.Argument) (xs : G.MoreArguments)
    → me_more_arguments n p (more_arguments b c x xs) ≡ (join (write_argument x p) (write_more_arguments xs (p + length (write_argument x p).pool)), arguments_from (one_more_lem n (sort_number (sort_argument x))) (sorts_more xs))
unfolding write_more_arguments seq sorts_more arguments_from
arguments_go_on n p b c x xs = refl

pub view : (l : G.MoreArguments) → (l ≡ no_more) ⊎ ((b : Blanks) × (c : Blanks) × (i : G.Argument) × (l' : G.MoreArguments) × (l ≡ more_arguments b c i l'))
view no_more = inl refl
view (more_arguments b c i l) = inr (b, c, i, l, refl)

unfoldable pub furthers : Rep spell_argument me_argument 4 spell_more_arguments me_more_arguments 5 0x2C
furthers = record {
  sep = λ r. 0x2C ∷ r;
  byte = λ r. (r, refl);
  same = λ e. cc;
  nil = no_more;
  more = more_arguments;
  sp_nil = λ r. refl;
  sp_more = λ b c i l r. refl;
  view = view;
  start = argument_start;
  plain = refl;
  ranked = refl;
  below = lit< tt;
  from = λ n p. p;
  does = λ n p m. m.0;
  then = λ n m. one_more_lem n m.1;
  me_more = arguments_go_on;
}

-- what may follow the list may follow each argument
further_follow : (u : G.MoreArguments) (r : List ℕ) → After 5 r → After 4 (spell_more_arguments u r)
further_follow no_more r a = after_weaken 4 5 (lit≤ tt) a
further_follow (more_arguments b c x u) r a = after_blanks 4 b 0x2C _ refl (lit< tt)

-- ---- all arguments

-- only the closing parenthesis has the highest level
top_level : (c : ℕ) → 6 < level_of c → c ≡ 0x29
top_level c h = go (eqb c 0x2E || eqb c 0x5B) (eqb c 0x3D || (eqb c 0x21 || (eqb c 0x3C || eqb c 0x3E))) (eqb c 0x26) (eqb c 0x7C) (eqb c 0x2C) (eqb c 0x5D || eqb c 256) (eqb c 0x29) refl h
  where
    go : (a b d e f x y : Bool) → eqb c 0x29 ≡ y → 6 < cond a 1 (cond b 2 (cond d 3 (cond e 4 (cond f 5 (cond x 6 (cond y 7 0)))))) → c ≡ 0x29
    go true b d e f x y j g = absurd (omega arith)
    go false true d e f x y j g = absurd (omega arith)
    go false false true e f x y j g = absurd (omega arith)
    go false false false true f x y j g = absurd (omega arith)
    go false false false false true x y j g = absurd (omega arith)
    go false false false false false true y j g = absurd (omega arith)
    go false false false false false false true j g = eqb-true c 0x29 j
    go false false false false false false false j g = absurd (omega arith)

-- an argument is not what may follow arguments
argument_not_after : (x : G.Argument) (r : List ℕ) → After 6 (spell_argument x r) → ⊥
argument_not_after x r a =
    let b = argument_begins x r in
    let e : hd (unblank (spell_argument x r)) ≡ b.byte = ap hd (argument_start x r ∙ b.is) in
    let h : 6 < level_of b.byte = subst (λ z. 6 < level_of z) e a.above in
    true≢false (sym b.good ∙ ap is_basic_byte (top_level b.byte h))

-- a closing parenthesis: there are none
pub arguments_end : (p : ℕ) {s l : List ℕ} → s ≡ 0x29 ∷ l → Reads spell_arguments (me_arguments p) (After 6) s no_argument s
arguments_end p {s} {l} d = record { eq = refl; only = only }
  where
    only : (t' : G.Arguments) (r' : List ℕ) → After 6 r' → s ≡ spell_arguments t' r' → (me_arguments p t' ≡ me_arguments p no_argument) × (r' ≡ s)
    only no_argument r' f e = (refl, sym e)
    only (arguments x xs) r' f e = absurd (begins_not 0x29 (argument_begins x _) refl (sym e ∙ d))

arguments_means : (p : ℕ) (x : G.Argument) (xs : G.MoreArguments)
    → me_arguments p (arguments x xs) ≡ (join (me_argument p x).0 (me_more_arguments (one_more_lem 0 (me_argument p x).1) (p + length (me_argument p x).0.pool) xs).0, (me_more_arguments (one_more_lem 0 (me_argument p x).1) (p + length (me_argument p x).0.pool) xs).1)
unfolding write_arguments seq sorts_of arguments_from
arguments_means p x xs = refl

module _ (p : ℕ) {s r : List ℕ} {x : G.Argument} (o : Reads spell_argument (me_argument p) (After 4) s x r) where
  -- where an argument stands, arguments are not none
  some : (r' : List ℕ) → After 6 r' → s ≡ r' → ⊥
  some r' f e = argument_not_after x r (subst (After 6) (sym e ∙ o.eq) f)

  pub arguments_reads : {xs : G.MoreArguments} {r₁ : List ℕ} → Reads spell_more_arguments (me_more_arguments (one_more_lem 0 (sort_number (sort_argument x))) (p + length (write_argument x p).pool)) (After 5) r xs r₁
      → Reads spell_arguments (me_arguments p) (After 6) s (arguments x xs) r₁
  arguments_reads {xs} {r₁} k = record { eq = o.eq ∙ ap (spell_argument x) k.eq; only = only }
    where
      only : (t' : G.Arguments) (r' : List ℕ) → After 6 r' → s ≡ spell_arguments t' r' → (me_arguments p t' ≡ me_arguments p (arguments x xs)) × (r' ≡ r₁)
      only no_argument r' f e = absurd (some r' f e)
      only (arguments x' xs') r' f e =
          let h = o.only x' (spell_more_arguments xs' r') (further_follow xs' r' (after_weaken 5 6 (lit≤ tt) f)) e in
          let g = k.only xs' r' (after_weaken 5 6 (lit≤ tt) f) (sym h.1) in (
            arguments_means p x' xs'
                ∙ ap (λ (m : Effect × ℕ). (join m.0 (me_more_arguments (one_more_lem 0 m.1) (p + length m.0.pool) xs').0, (me_more_arguments (one_more_lem 0 m.1) (p + length m.0.pool) xs').1)) h.0
                ∙ ap (λ (m : Effect × ℕ). (join (write_argument x p) m.0, m.1)) g.0
                ∙ sym (arguments_means p x xs),
            g.1,
          )

  pub arguments_none_more : ReadsNone spell_more_arguments (After 5) r → ReadsNone spell_arguments (After 6) s
  arguments_none_more k = record { none = none }
    where
      none : (t' : G.Arguments) (r' : List ℕ) → After 6 r' → s ≡ spell_arguments t' r' → ⊥
      none no_argument r' f e = some r' f e
      none (arguments x' xs') r' f e =
          let h = o.only x' (spell_more_arguments xs' r') (further_follow xs' r' (after_weaken 5 6 (lit≤ tt) f)) e in
          k.none xs' r' (after_weaken 5 6 (lit≤ tt) f) (sym h.1)

-- neither an argument nor a closing parenthesis
pub arguments_none : {s : List ℕ} → unblank s ≡ s → ReadsNone spell_argument (After 4) s → ((l : List ℕ) → s ≡ 0x29 ∷ l → ⊥) → ReadsNone spell_arguments (After 6) s
arguments_none {s} u k n = record { none = none }
  where
    closing : (z : List ℕ) → 6 < level_of (hd z) → (l : List ℕ) × (z ≡ 0x29 ∷ l)
    closing [] h = absurd (omega arith)
    closing (c ∷ z) h = (z, ap (λ y. y ∷ z) (top_level c h))

    none : (t' : G.Arguments) (r' : List ℕ) → After 6 r' → s ≡ spell_arguments t' r' → ⊥
    none no_argument r' f e =
        let h : 6 < level_of (hd s) = subst (λ z. 6 < level_of (hd z)) u (subst (λ z. 6 < level_of (hd (unblank z))) (sym e) f.above) in
        let g = closing s h in
        n g.0 g.1
    none (arguments x xs) r' f e = k.none x (spell_more_arguments xs r') (further_follow xs r' (after_weaken 5 6 (lit≤ tt) f)) e

-- ---- a call behind its name and "("

-- how a call stands in the text
pub call_inside : {s : List ℕ} (x : Call) (r : List ℕ) → s ≡ spell_call x r → (z : List ℕ) × (unblank s ≡ spell_arguments x.arguments z) × (After 6 z) × (unblank z ≡ 0x29 ∷ r)
call_inside x r e = go x.arguments e
  where
    go : {s : List ℕ} (xs : G.Arguments) → s ≡ spell_blanks x.before (spell_arguments xs (spell_blanks x.after (0x29 ∷ r))) → (z : List ℕ) × (unblank s ≡ spell_arguments xs z) × (After 6 z) × (unblank z ≡ 0x29 ∷ r)
    go no_argument e = (0x29 ∷ r, ap unblank e ∙ unblank_blanks x.before _ ∙ unblank_blanks x.after _, record { above = lit< tt }, refl)
    go (arguments y ys) e = (spell_blanks x.after (0x29 ∷ r), ap unblank e ∙ unblank_blanks x.before _ ∙ argument_start y _, after_blanks 6 x.after 0x29 r refl (lit< tt), unblank_blanks x.after _)

-- what is known of a call, from what is known of its arguments
abbrev pub called_by : ℕ → Effect × ℕ → Effect × ℕ
called_by name m = (join m.0 (join (marked (call_marks name m.1)) (plain (call_bytes (name_of name)))), sort_number (named_sort (name_of name)))
