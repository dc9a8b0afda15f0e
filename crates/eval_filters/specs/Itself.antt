-- A node itself, `@` with no segment, compared with a literal: what stands in the plan, and that what the comparison says is what the whole test says. P is the plan,
-- L the pool, S the table, X the text. Assumes nothing.
use Rattle.std.specs.Prelude.{ℕ, ◌+◌, ◌≡◌, refl, List, Bool as Bits, get_or, Some, Option, None, Ok}
use Rattle.std.proofs.Common.{sym, subst, arith}
use Rattle.eval_items.specs.Leaves.{begins_at}
use Rattle.eval_front.specs.Visits.{Query, Given, DoneReach}
use Rattle.eval_front.specs.Fronts.{done_found}
use Rattle.eval_filters.specs.Queries.{Within, begins_node}
use Rattle.eval_filters.specs.Tests.{AskShort, AskAgainst, AskNode, DoneNode, Plain, plain_one, short_asked, short_compared, short_query, against_value, against_node}
use Rattle.eval_filters.specs.Kept.{AskTest, DoneTest}
use Rattle.eval_filters.specs.Atoms.{AgainstAt, FormAgainst, start_here, form_says, form_of}
use Rattle.eval_filters.specs.Keeps.{first_asked, tested}
use Rattle.eval_filters.specs.declared.itself.Itself.{Itself}

-- the test from p up to z: `@`, its end, a literal, and the comparison
pub record ItselfAt (P : List ℕ) (p z form op : ℕ) : Type 0 where
  pub current : get_or P p 0 ≡ 2
  pub end_is : get_or P (p + 1) 0 ≡ 0x0A
  pub against : AgainstAt P (p + 2) z op z
  pub form_is : FormAgainst (get_or P (p + 2) 0) op form

abbrev pub DoneItself : List ℕ → ℕ → ℕ → Option Itself → Type 0
DoneItself P p z None = Unit {0}
DoneItself P p z (Some r) = ItselfAt P p z r.form r.op

pub none_itself : (P : List ℕ) (p z : ℕ) → DoneItself P p z None
none_itself P p z = tt

pub itself_at : {P : List ℕ} {p z op next form : ℕ} → get_or P p 0 ≡ 2 → get_or P (p + 1) 0 ≡ 0x0A → AgainstAt P (p + 2) z op next → next ≡ z → form ≡ form_of (get_or P (p + 2) 0) op → ItselfAt P p z form op
itself_at {P} {p} {z} {op} {next} {form} a b d e f =
    record { current = a; end_is = b; against = subst (λ (n : ℕ). AgainstAt P (p + 2) z op n) e d; form_is = (form_says (get_or P (p + 2) 0) op form f).1 }

module _ {P L S X : List ℕ} {root node p z form op : ℕ} (w : Within P L S X root node) (a : AskTest P L p z) (g : ItselfAt P p z form op) where
  asked : AskShort P L S X root node p z
  asked = let m = g.against.more in let e = g.current in first_asked w a (omega arith) (omega arith)

  begins : node ≡ begins_at (get_or P p 0) root node
  begins = sym (begins_node _ root node g.current)

  query : Query P L (p + 1)
  query = short_query asked node begins

  lent : Given P L S X
  lent = record { few_p = w.few_p; few_l = w.few_l; tab = w.tab }

  -- the query finds the node itself
  found : Plain P L S X node p (record { n = 1; first = node; z = p + 2 })
  found =
      let i = start_here w.node_in query in
      let d : DoneReach P L S X node (p + 1) (record { node = Ok node; pc = p + 1 }) = done_found i in
      let x : p + 1 + 1 ≡ p + 2 = omega arith in
      subst (λ (y : ℕ). Plain P L S X node p (record { n = 1; first = node; z = y })) x
      (plain_one (record { given = lent; node_in = w.node_in; query = query }) _ d node refl g.end_is)

  against_asked : AskAgainst P L S X 1 node (p + 2) z
  against_asked = short_asked asked node begins _ found g.against.low g.against.high

  pub itself_asks : AskNode P L S X node (p + 2)
  itself_asks = record { tab = w.tab; node_in = w.node_in; literal = against_value against_asked g.against.more }

  pub itself_told : (r : Bits) → DoneNode P L S X node (p + 2) op r → DoneTest P L S X root node p z r
  itself_told r d =
      let y = g.against in
      let f = subst (λ (o : ℕ). DoneNode P L S X node (p + 2) o r) y.op_is d in
      tested w r (y.w + 2) (short_compared asked node begins _ found y.low y.high _ (against_node against_asked y.more y.w y.past y.inside y.compare_is (λ k. absurd (omega arith)) r f)) (sym y.next_is)
