-- From what evaluation asks to what each shortcut asks, and from what that gives back: a range with names and indices behind it, a descendant segment on a range, and a
-- filter. P is the plan, L the pool, S the table, X the text; v is what is lent. Assumes nothing.
use Rattle.std.specs.Prelude.{ℕ, ◌+◌, ◌≤◌, ◌<◌, ◌≡◌, refl, List, Bool as Bits, true, false, ltb, length, get_or}
use Rattle.std.proofs.Common.{◌∙◌, subst, arith, ltb-true, ltb-false}
use Rattle.definition.specs.Tables.{child_count, low_word}
use Rattle.text.specs.Words.{Word}
use Rattle.eval_laws.specs.States.{st}
use Rattle.eval_laws.specs.Items.{segments_in}
use Rattle.eval_filters.specs.Kept.{AskKept}
use Rattle.eval_filters.specs.Keeps.{DoneRange}
use Rattle.eval_asks.specs.declared.Lent.{Lent}
use Rattle.eval_asks.specs.declared.State.{State as Numbers}
use Rattle.eval_asks.specs.Lent.{plan_of, pool_of, table_of, text_of, root_of, cap_of, at_of, with_at}
use Rattle.eval_asks.specs.Asks.{Asked, AskEach, each, DoneAhead, AskFlats, DoneFlats, descent, AskSelector, DoneSelector}
use Rattle.eval_asks.specs.Steady.{gives_of}
use Rattle.eval_asks.specs.Kinds.{filtered, tests, rest_asked, kept_in_table, kept_same}
use Rattle.eval_shortcuts.specs.Alongs.{AskAlong, DoneAlong}
use Rattle.eval_shortcuts.specs.Flats.{AskStart, DoneStart}
use Rattle.eval_shortcuts.specs.declared.straight.Passed.{Passed}

-- ---- names and indices behind the nodes of a range

module _ {v : Lent} {i e rest : ℕ} where
  pub rest_here : AskEach v i e rest → rest < length (plan_of v)
  rest_here q = segments_in (plan_of v) (pool_of v) rest q.query.k q.query.f q.query.at

  module _ {s : Numbers} {l : List ℕ} (a : Asked v s l) where
    pub ahead_none : DoneAhead v i e rest s l s l i
    ahead_none = record { low = omega arith; room = a.room; goes = λ x R C r c. refl }

    pub ahead_asked : AskEach v i e rest → AskAlong (plan_of v) (pool_of v) (table_of v) (text_of v) i e rest (length l) (at_of s) (cap_of s)
    ahead_asked q = record { given = a.given; range = q.range; query = q.query; list = record { room = a.room; wide = a.wide; small = a.small } }

    pub ahead_done : {l' : List ℕ} {f : Passed} → DoneAlong (plan_of v) (pool_of v) (table_of v) (text_of v) i e rest (cap_of s) l (at_of s) l' f → DoneAhead v i e rest s l (with_at s f.at) l' f.i
    ahead_done {l'} {f} d =
        record {
          low = d.low;
          room = omega (arith, d.room);
          goes = λ x R C r c.
              subst (λ (R : ℕ). each v rest f.i e x R (st C l' f.at) ≡ each v rest i e x R (st C l (at_of s))) r
              (subst (λ (C : ℕ). each v rest f.i e x (root_of s) (st C l' f.at) ≡ each v rest i e x (root_of s) (st C l (at_of s))) c
              (d.again x.f x.k x.at _));
        }

-- ---- a descendant segment on the nodes of a range

module _ {v : Lent} {s : Numbers} {l : List ℕ} {i e pc : ℕ} (a : Asked v s l) (q : AskFlats v i e pc) where
  pub flats_asked : AskStart (plan_of v) (pool_of v) (table_of v) (text_of v) i e pc (length l) (at_of s) (cap_of s)
  flats_asked =
      record {
        given = a.given;
        range = q.range;
        ss = q.descends.ss;
        q = q.descends.q;
        k = q.descends.k;
        stands = q.descends.at;
        list = record { room = a.room; wide = a.wide; small = a.small };
      }

  module _ {l' : List ℕ} {f : Passed} (d : DoneStart (plan_of v) (pool_of v) (table_of v) (text_of v) i e pc (cap_of s) l (at_of s) l' f) where
    flats_high : f.i ≤ e
    flats_high = by (ltb i f.i) refl
      where
        by : (b : Bits) → ltb i f.i ≡ b → f.i ≤ e
        by true z = d.passes.high (ltb-true i f.i z)
        by false z = omega (arith, ltb-false i f.i z, q.upto)

    pub flats_done : DoneFlats v i e pc s l (with_at s f.at) l' f.i
    flats_done =
        record {
          low = d.passes.low;
          high = flats_high;
          room = omega (arith, d.passes.room);
          goes = λ x R C r k.
              subst (λ (R : ℕ). descent v pc f.i e x R (st C l' f.at) ≡ descent v pc i e x R (st C l (at_of s))) r
              (subst (λ (C : ℕ). descent v pc f.i e x (root_of s) (st C l' f.at) ≡ descent v pc i e x (root_of s) (st C l (at_of s))) k
              (d.again x.ss x.q x.k x.at _));
        }

-- ---- the children that a filter keeps

module _ {v : Lent} {s : Numbers} {l : List ℕ} {node p rest : ℕ} (a : Asked v s l) (q : AskSelector v node p rest) (k : get_or (plan_of v) p 0 ≡ 9) {n : ℕ} (w : Word 2 (plan_of v) (p + 1) n) {i c : ℕ} (e : i ≡ low_word (table_of v) node) (m : c ≡ child_count (table_of v) node) where
  pub keep_asked : AskKept (plan_of v) (pool_of v) (table_of v) (text_of v) (root_of s) i (i + c) rest (length l) (at_of s) (cap_of s)
  keep_asked = record { given = a.given; root_in = a.root_in; range = kept_in_table a q k w e m; query = rest_asked a q k w; room = a.room; wide = a.wide; small = a.small }

  pub keep_done : (l' : List ℕ) (r : ℕ) → DoneRange (plan_of v) (pool_of v) (table_of v) (text_of v) (root_of s) i (i + c) (p + 3) (p + 3 + n) rest (cap_of s) l (at_of s) l' r → DoneSelector v node p rest s l (with_at s r) l'
  keep_done l' r d = gives_of _ s l (with_at s r) l' (λ x. d.ended (filtered a q k x).t x.k x.q x.k' (tests a q k w x) x.stands.after ∙ kept_same a q k w e m x (root_of s) _)
