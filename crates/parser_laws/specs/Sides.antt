-- Comparables as operands: S comparable behind an operator, and what stands behind an operand.
use Rattle.std.specs.Prelude.{◌≡◌, refl, Bool, true, false, cond, List, [], ◌∷◌, ℕ, length}
use Rattle.std.proofs.Common.{sym, ap, ◌∙◌, true≢false, lit≤}
use Rattle.definition.specs.Lexical.{Blanks, spell_blanks, function_bytes}
use Rattle.definition.specs.Grammar as G
use Rattle.definition.specs.Grammar.{spell_comparable}
use Rattle.definition.specs.Grammar.FilterQuery.{rel_query, abs_query}
use Rattle.definition.specs.Grammar.Singular.{rel_singular, abs_singular}
use Rattle.definition.specs.Grammar.Comparable.{literal_comparable, singular_comparable, function_comparable}
use Rattle.definition.specs.Walk.{Named, named}
use Rattle.parser_follow.specs.Blanks.{split_blanks, unblank_blanks}
use Rattle.basics.specs.Reads.{Reads, ReadsNone}
use Rattle.compile_writes.specs.Effects.{Effect, Marks, Writer, join, seq, bytes, mark, first, verdict}
use Rattle.compile_writes.specs.Sorts.{Sort, singular_segments, tight_segments, query_sort, sort_function, sort_comparable, value_verdict, named_sort}
use Rattle.compile_writes.specs.Writes.{write_from, write_comparable, write_singular, write_filter_query}
use Rattle.compile_writes.specs.Singular.{embed, embed_spells, embed_writes, embed_tight, tight_is_singular}
use Rattle.parser_follow.specs.Follow.{unblank, After, after_weaken}
use Rattle.parser_follow.specs.Numbers.{sort_of, sort_number, is_comparable}
use Rattle.parser_follow.specs.Pieces.{Operand, spell_operand, write_operand, operand_flag, query_flag, Side, spell_side, write_side}
use Rattle.parser_follow.specs.Pieces.Operand.{literal_operand, query_operand, function_operand}
use Rattle.parser_laws.specs.Joins.{plain, marked, seq_bytes, seq_last}
use Rattle.parser_laws.specs.Sorted.{sort_of_lem}
use Rattle.parser_laws.specs.Starts.{comparable_start}
use Rattle.parser_laws.specs.Query.{me_operand}

-- ---- a comparable is an operand of a flag that may be compared

abbrev pub to_operand : G.Comparable → Operand
to_operand (literal_comparable l) = literal_operand l
to_operand (singular_comparable (rel_singular xs)) = query_operand (rel_query (embed xs))
to_operand (singular_comparable (abs_singular xs)) = query_operand (abs_query (embed xs))
to_operand (function_comparable f) = function_operand f

pub comparable_spells : (x : G.Comparable) (r : List ℕ) → spell_comparable x r ≡ spell_operand (to_operand x) r
comparable_spells (literal_comparable l) r = refl
comparable_spells (singular_comparable (rel_singular xs)) r = ap (λ z. 0x40 ∷ z) (sym (embed_spells xs r))
comparable_spells (singular_comparable (abs_singular xs)) r = ap (λ z. 0x24 ∷ z) (sym (embed_spells xs r))
comparable_spells (function_comparable f) r = refl

from_writes : (start p : ℕ) (f g : Writer) → ((q : ℕ) → f q ≡ g q) → write_from start f p ≡ write_from start g p
unfolding write_from
from_writes start p f g e = rw (seq_bytes, seq_bytes, seq_last, seq_last) (ap (λ z. join (plain (start ∷ [])) (join z (plain (0x0A ∷ [])))) (e p))

pub comparable_writes : (x : G.Comparable) (p : ℕ) → write_comparable x p ≡ write_operand (to_operand x) p
unfolding write_comparable write_singular write_filter_query
comparable_writes (literal_comparable l) p = refl
comparable_writes (singular_comparable (rel_singular xs)) p = from_writes 0x02 p _ _ (λ q. sym (embed_writes xs q))
comparable_writes (singular_comparable (abs_singular xs)) p = from_writes 0x01 p _ _ (λ q. sym (embed_writes xs q))
comparable_writes (function_comparable f) p = refl

-- the flag tells the sort, and that it may be compared
pub comparable_flag : (x : G.Comparable) → sort_of (operand_flag (to_operand x)) ≡ sort_comparable x
unfolding sort_comparable
comparable_flag (literal_comparable l) = refl
comparable_flag (singular_comparable (rel_singular xs)) = rw (embed_tight xs)
comparable_flag (singular_comparable (abs_singular xs)) = rw (embed_tight xs)
comparable_flag (function_comparable f) = sort_of_lem (sort_function f)

comparable_by_function : (f : G.Function) → is_comparable (sort_number (sort_function f)) ≡ true
unfolding sort_function named_sort
comparable_by_function (G.Function.function n b xs c) = go (named (function_bytes n))
  where
    go : (m : Named) → is_comparable (sort_number (named_sort m)) ≡ true
    go Named.count = refl
    go Named.length = refl
    go Named.value_name = refl
    go Named.match = refl
    go Named.search = refl
    go Named.unknown = refl

pub comparable_is : (x : G.Comparable) → is_comparable (operand_flag (to_operand x)) ≡ true
comparable_is (literal_comparable l) = refl
comparable_is (singular_comparable (rel_singular xs)) = rw (embed_tight xs)
comparable_is (singular_comparable (abs_singular xs)) = rw (embed_tight xs)
comparable_is (function_comparable f) = comparable_by_function f

-- ---- and an operand of such a flag is a comparable

pub record ComparableOf (x : Operand) : Type 0 where
  pub side : G.Comparable
  pub spells : (r : List ℕ) → spell_operand x r ≡ spell_comparable side r
  pub writes : (p : ℕ) → write_operand x p ≡ write_comparable side p
  pub sort : sort_of (operand_flag x) ≡ sort_comparable side

-- a query that is not spelled by a singular-query may not be compared
loose_not : (b : Bool) → is_comparable (cond false 5 (sort_number (query_sort b))) ≡ true → ⊥
unfolding query_sort
loose_not true e = true≢false (sym e)
loose_not false e = true≢false (sym e)

query_comparable : (xs : G.Segments) → is_comparable (query_flag xs) ≡ true → tight_segments xs ≡ true
query_comparable xs e = go (tight_segments xs) e
  where
    go : (t : Bool) → is_comparable (cond t 5 (sort_number (query_sort (singular_segments xs)))) ≡ true → t ≡ true
    go true f = refl
    go false f = absurd (loose_not (singular_segments xs) f)

pub comparable_of : (x : Operand) → is_comparable (operand_flag x) ≡ true → ComparableOf x
unfolding write_comparable write_singular write_filter_query sort_comparable
comparable_of (literal_operand l) e = record { side = literal_comparable l; spells = λ r. refl; writes = λ p. refl; sort = refl }
comparable_of (query_operand (rel_query xs)) e =
    let t = query_comparable xs e in
    let y = tight_is_singular xs t in
    record {
      side = singular_comparable (rel_singular y.segments);
      spells = λ r. ap (λ z. 0x40 ∷ z) (y.spells r);
      writes = λ p. from_writes 0x02 p _ _ y.writes;
      sort = rw t;
    }
comparable_of (query_operand (abs_query xs)) e =
    let t = query_comparable xs e in
    let y = tight_is_singular xs t in
    record {
      side = singular_comparable (abs_singular y.segments);
      spells = λ r. ap (λ z. 0x24 ∷ z) (y.spells r);
      writes = λ p. from_writes 0x01 p _ _ y.writes;
      sort = rw t;
    }
comparable_of (function_operand f) e = record { side = function_comparable f; spells = λ r. refl; writes = λ p. refl; sort = sort_of_lem (sort_function f) }

-- ---- S comparable, behind an operator

abbrev pub me_side : ℕ → ℕ → ℕ → Side → Effect × ℕ
me_side l o p x = (write_side l o x p, 4)

-- what is written for the whole comparison behind its left side, from what is known of the right one
abbrev pub side_effect : ℕ → ℕ → Effect → Sort → Effect
side_effect l o e σ = join e (join (marked (record { verdict = first (value_verdict (sort_of l)) (value_verdict σ); beyond = false })) (plain (0x14 ∷ o ∷ [])))

seq_end : (f : Writer) (m : Marks) (c : List ℕ) (p : ℕ) → seq f (seq (mark m) (bytes c)) p ≡ join (f p) (join (marked m) (plain c))
unfolding seq mark bytes
seq_end f m c p = refl

side_means : (l o p : ℕ) (x : Side) → me_side l o p x ≡ (side_effect l o (me_operand p (to_operand x.side)).0 (sort_of (me_operand p (to_operand x.side)).1), 4)
side_means l o p x =
    let w = comparable_writes x.side p in
    let g = comparable_flag x.side in
    let e : write_side l o x p ≡ side_effect l o (write_comparable x.side p) (sort_comparable x.side) = seq_end (write_comparable x.side) _ _ p in
    let k : side_effect l o (write_comparable x.side p) (sort_comparable x.side) ≡ side_effect l o (write_operand (to_operand x.side) p) (sort_of (operand_flag (to_operand x.side))) = λ i. side_effect l o (w i) (sym g i) in
    let z = e ∙ k in
    λ i. (z i, 4)

side_of : (l o p : ℕ) (b : Blanks) (x : Operand) (y : ComparableOf x) → me_side l o p (record { blanks = b; side = y.side }) ≡ (side_effect l o (me_operand p x).0 (sort_of (me_operand p x).1), 4)
side_of l o p b x y =
    let w = y.writes p in
    let g = y.sort in
    let e : write_side l o (record { blanks = b; side = y.side }) p ≡ side_effect l o (write_comparable y.side p) (sort_comparable y.side) = seq_end (write_comparable y.side) _ _ p in
    let k : side_effect l o (write_comparable y.side p) (sort_comparable y.side) ≡ side_effect l o (write_operand x p) (sort_of (operand_flag x)) = λ i. side_effect l o (sym w i) (sym g i) in
    let z = e ∙ k in
    λ i. (z i, 4)

-- how a comparable stands behind blanks
side_inside : {s : List ℕ} (x : Side) (r : List ℕ) → s ≡ spell_side x r → unblank s ≡ spell_operand (to_operand x.side) r
side_inside x r e = ap unblank e ∙ unblank_blanks x.blanks _ ∙ comparable_start x.side r ∙ comparable_spells x.side r

module _ (l op p : ℕ) {s r : List ℕ} {x : Operand} (o : Reads spell_operand (me_operand p) (After 1) (unblank s) x r) where
  pub side_reads : (c : is_comparable (operand_flag x) ≡ true) → Reads spell_side (me_side l op p) (After 2) s (record { blanks = (split_blanks s).0; side = (comparable_of x c).side }) r
  side_reads c = record { eq = (split_blanks s).1 ∙ ap (spell_blanks (split_blanks s).0) (o.eq ∙ (comparable_of x c).spells r); only = only }
    where
      only : (t' : Side) (r' : List ℕ) → After 2 r' → s ≡ spell_side t' r' → (me_side l op p t' ≡ me_side l op p (record { blanks = (split_blanks s).0; side = (comparable_of x c).side })) × (r' ≡ r)
      only t' r' f e =
          let h = o.only (to_operand t'.side) r' (after_weaken 1 2 (lit≤ tt) f) (side_inside t' r' e) in
          let a = side_means l op p t' ∙ ap (λ m. (side_effect l op m.0 (sort_of m.1), 4)) h.0 in
          (a ∙ sym (side_of l op p (split_blanks s).0 x (comparable_of x c)), h.1)

  pub side_incomparable : is_comparable (operand_flag x) ≡ false → ReadsNone spell_side (After 2) s
  side_incomparable c = record {
    none = λ t' r' f e.
        let h = o.only (to_operand t'.side) r' (after_weaken 1 2 (lit≤ tt) f) (side_inside t' r' e) in
        true≢false (sym (comparable_is t'.side) ∙ ap (λ m. is_comparable m.1) h.0 ∙ c);
  }

pub side_none : {s : List ℕ} → ReadsNone spell_operand (After 1) (unblank s) → ReadsNone spell_side (After 2) s
side_none n = record { none = λ t' r' f e. n.none (to_operand t'.side) r' (after_weaken 1 2 (lit≤ tt) f) (side_inside t' r' e) }
