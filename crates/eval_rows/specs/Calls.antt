-- A call of match or search in a filter's code, of a query of names and indices and a text of the plan: what stands in the plan, and that what is left of the code
-- goes on behind it with its answer. P is the plan, L the pool, S the table, X the text. Assumes nothing.
use Rattle.std.specs.Prelude.{ℕ, ◌+◌, ◌≤◌, ◌<◌, ◌≡◌, refl, List, [], ◌∷◌, Bool as Bits, true, false, ◌&&◌, leb, length, get_or}
use Rattle.std.proofs.Common.{sym, ap, ◌∙◌, subst, arith, leb-true, le-leb}
use Rattle.std.proofs.lemmas.Bool.{lt-leb}
use Rattle.definition.specs.Bytes.{number, part}
use Rattle.definition.specs.Limits.{max_plan}
use Rattle.definition.specs.Utf8.{is_utf8}
use Rattle.regex_definition.specs.Scope.{Scope}
use Rattle.definition.specs.Forms.{Segments}
use Rattle.definition.specs.Plans.{code_segments, scope_kind}
use Rattle.definition.specs.Compare.{Value}
use Rattle.definition.specs.Regexps.{regex_values}
use Rattle.definition.specs.Tables.{node_count, node_at}
use Rattle.definition.specs.Evaluation.{eval_segments, first_value}
use Rattle.basics.specs.Bools.{and_left, and_right}
use Rattle.eval_laws.specs.Items.{SegmentsAt, segments_in}
use Rattle.eval_laws.specs.Todos.{Todo, todo_in, todo_inside, todo_to, LiteralAt, at_literal, Matched, at_regex}
use Rattle.eval_items.specs.EndLaws.{past_text}
use Rattle.eval_items.specs.LeafLaws.{done_text}
use Rattle.eval_items.specs.Leaves.{begins_at}
use Rattle.eval_front.specs.Visits.{AskReach}
use Rattle.eval_filters.specs.Queries.{begins_in}
use Rattle.eval_filters.specs.Tests.{Left, AskShort, query_at, short_query}
use Rattle.eval_filters.specs.Values.{AskLeft, test_short}
use Rattle.eval_rows.specs.declared.calls.Call.{Call}
use Rattle.eval_rows.specs.Paths.{AskPath, Leads, leads_past}

unfoldable pub regex_kind : ℕ → Bits
regex_kind k = leb 0x1C k && leb k 0x1D

pub regex_below : (k : ℕ) → k < 0x1C → false ≡ regex_kind k
unfolding regex_kind
regex_below k h = rw (lt-leb 0x1C k h)

pub regex_from : (k : ℕ) → 0x1C ≤ k → leb k 0x1D ≡ regex_kind k
unfolding regex_kind
regex_from k h = rw (le-leb 0x1C k h)

pub regex_kind_lem : (k : ℕ) → regex_kind k ≡ true → (0x1C ≤ k) × (k ≤ 0x1D)
unfolding regex_kind
regex_kind_lem k e = (leb-true 0x1C k (and_left (leb 0x1C k) (leb k 0x1D) e), leb-true k 0x1D (and_right (leb 0x1C k) (leb k 0x1D) e))

-- ---- what stands in the plan

-- the call, in code that ends at z
pub record CallAt (P : List ℕ) (z : ℕ) (g : Call) : Type 0 where
  pub start : get_or P g.at 0 ≤ 2
  pub path : Leads P g.end (g.at + 1)
  pub text_is : get_or P (g.end + 1) 0 ≡ 0x12
  pub start_is : g.start ≡ number (part P (g.end + 1 + 1) 2)
  pub size_is : g.size ≡ number (part P (g.end + 1 + 3) 2)
  pub kind_is : get_or P (g.end + 1 + 5) 0 ≡ g.kind
  pub low : 0x1C ≤ g.kind
  pub high : g.kind ≤ 0x1D
  pub ends : g.end + 7 ≤ z

-- the expression lies in the pool and is UTF-8
abbrev pub Spelled : List ℕ → Call → Type 0
Spelled L g = (g.start + g.size ≤ length L) × (is_utf8 (part L g.start g.size) ≡ true)

-- the call at q
pub record ReadAt (P : List ℕ) (q z : ℕ) (g : Call) : Type 0 where
  pub call : CallAt P z g
  pub here : g.at ≡ q

-- some test is left at q of code that ends at z
pub record AskCall (P : List ℕ) (q z : ℕ) : Type 0 where
  pub few : length P ≤ max_plan
  pub inside : z ≤ length P
  pub more : q < z
  pub query : get_or P q 0 ≤ 2 → AskPath P (q + 1)

-- such code lies in the plan
left_inside : {P L S X : List ℕ} {root node q z : ℕ} → AskLeft P L S X root node q z → z ≤ length P
left_inside {P} {L} {q = q} {z = z} a = todo_inside P L q z _ _ _ _ _ _ a.todo a.more

pub left_asked : {P L S X : List ℕ} {root node q z : ℕ} → AskLeft P L S X root node q z → AskCall P q z
left_asked {P} {L} {S} {X} {root} {node} {q} {z} a =
    record {
      few = a.within.few_p;
      inside = left_inside a;
      more = a.more;
      query = λ k. record { few = a.within.few_p; L = L; query = short_query (test_short a k) (begins_at (get_or P q 0) root node) refl };
    }

pub left_in : {P L S X : List ℕ} {root node q z : ℕ} → AskLeft P L S X root node q z → q < length P
left_in {P} {L} {q = q} {z = z} a = todo_in P L q z _ _ _ _ _ _ a.todo a.more

pub left_near : {P L S X : List ℕ} {root node q z : ℕ} → AskLeft P L S X root node q z → z ≤ max_plan
left_near a = omega (arith, left_inside a, a.within.few_p)

-- what is read is such a call
pub call_read : {P : List ℕ} {q z end start size kind : ℕ} → get_or P q 0 ≤ 2 → Leads P end (q + 1) → get_or P (end + 1) 0 ≡ 0x12 → start ≡ number (part P (end + 2) 2) → size ≡ number (part P (end + 4) 2)
    → get_or P (end + 6) 0 ≡ kind → regex_kind kind ≡ true → end + 7 ≤ z → ReadAt P q z (record { at = q; end = end; start = start; size = size; kind = kind })
call_read {P} {q} {z} {end} {kind = kind} c l t u v k r e =
    let e2 : end + 2 ≡ end + 1 + 1 = omega arith in
    let e3 : end + 4 ≡ end + 1 + 3 = omega arith in
    let e4 : end + 1 + 5 ≡ end + 6 = omega arith in
    let w = regex_kind_lem kind r in
    record {
      call = record {
        start = c;
        path = l;
        text_is = t;
        start_is = u ∙ ap (λ (x : ℕ). number (part P x 2)) e2;
        size_is = v ∙ ap (λ (x : ℕ). number (part P x 2)) e3;
        kind_is = ap (λ (x : ℕ). get_or P x 0) e4 ∙ k;
        low = w.0;
        high = w.1;
        ends = e;
      };
      here = refl;
    }

-- ---- what it says of a node

-- what is left of the code goes on behind the call
abbrev pub DoneCall : List ℕ → List ℕ → List ℕ → List ℕ → ℕ → ℕ → ℕ → Call → Bits → Type 0
DoneCall P L S X root node z g r = (acc want : Bits) → Left P L g.at z (node_at S X root) (node_at S X node) acc want → Left P L (g.end + 7) z (node_at S X root) (node_at S X node) r want

-- what is asked of the call's query from a node
pub record AskText (P L S X : List ℕ) (from : ℕ) (g : Call) : Type 0 where
  pub reach : AskReach P L S X from (g.at + 1)
  pub path : Leads P g.end (g.at + 1)

pub text_near : {P L S X : List ℕ} {from : ℕ} {g : Call} → AskText P L S X from g → g.at + 1 < max_plan
text_near {P} {L} {g = g} a = let q = a.reach.query in omega (arith, segments_in P L (g.at + 1) q.k q.f q.at, a.reach.given.few_p)

module _ {P L S X : List ℕ} {root node z : ℕ} {g : Call} (a : AskLeft P L S X root node g.at z) (r : CallAt P z g) where
  short : AskShort P L S X root node g.at z
  short = test_short a r.start

  module _ (from : ℕ) (b : from ≡ begins_at (get_or P g.at 0) root node) where
    pub text_asked : AskText P L S X from g
    text_asked =
        let w = a.within in
        record {
          reach = record { given = record { few_p = w.few_p; few_l = w.few_l; tab = w.tab }; node_in = begins_in from (get_or P g.at 0) root node (node_count S) b w.root_in w.node_in; query = short_query short from b };
          path = r.path;
        }

    -- behind the query, with its first value
    behind : (acc want : Bits) (d : Left P L g.at z (node_at S X root) (node_at S X node) acc want) (v : Value) → v ≡ first_value (eval_segments (query_at short from b acc want d).f (node_at S X from) (node_at S X from ∷ []))
        → Todo P L (g.end + 1) z (node_at S X root) (node_at S X node) acc Value.nothing v want
    behind acc want d v i =
        let y = query_at short from b acc want d in
        let e = leads_past a.within.few_p r.path y.at in
        let c : get_or P (g.at + 1 + length (code_segments y.f y.k)) 0 ≡ 0x12 = ap (λ (x : ℕ). get_or P x 0) (sym e) ∙ r.text_is in
        todo_to P L _ (g.end + 1) z _ _ _ _ _ _ _ _ want e refl refl refl (y.is_first_lem (λ u. absurd (omega arith)) (λ u. absurd (omega arith)) (λ u. absurd (omega arith)) v i)

    literal_here : (acc want : Bits) (v : Value) → Todo P L (g.end + 1) z (node_at S X root) (node_at S X node) acc Value.nothing v want → LiteralAt P L (g.end + 1) z (node_at S X root) (node_at S X node) acc Value.nothing v want
    literal_here acc want v d = let c = r.text_is in at_literal P L (g.end + 1) z _ _ acc Value.nothing v want d (omega (arith, r.ends)) (omega arith) (omega arith)

    spelled_from : Spelled L g
    spelled_from =
        let h = literal_here a.acc a.want _ (behind a.acc a.want a.todo _ refl) in
        (done_text P L (g.end + 1) a.within.few_l r.text_is g.start g.size r.start_is r.size_is h.l h.k h.holds h.pool h.right).fine S X

    -- behind the call, with its answer
    module _ (v : Value) (t : Bits) (f : (c : Scope) → scope_kind c ≡ g.kind → t ≡ regex_values c v (Value.text (part L g.start g.size))) where
      called : (acc want : Bits) → Todo P L (g.end + 1) z (node_at S X root) (node_at S X node) acc Value.nothing v want → Left P L (g.end + 7) z (node_at S X root) (node_at S X node) t want
      called acc want d =
          let h = literal_here acc want v d in
          let m = (done_text P L (g.end + 1) a.within.few_l r.text_is g.start g.size r.start_is r.size_is h.l h.k h.holds h.pool h.right).means S X in
          let u = h.then (Value.text (part L g.start g.size)) m (g.end + 1 + 5) (past_text P (g.end + 1) r.text_is h.l h.k h.holds) in
          let k = r.kind_is in
          let y : Matched P L (g.end + 1 + 5) z (node_at S X root) (node_at S X node) acc v (Value.text (part L g.start g.size)) want =
          at_regex P L (g.end + 1 + 5) z _ _ acc v (Value.text (part L g.start g.size)) want u (omega (arith, r.ends)) (omega (arith, r.low)) (omega (arith, r.high)) in
          todo_to P L _ (g.end + 7) z _ _ _ _ _ _ _ _ want (omega arith) refl refl refl (y.then t (f y.scope (y.byte ∙ k)))

      pub call_told : ((s : Segments) (k : ℕ) → SegmentsAt P L (g.at + 1) k s → v ≡ first_value (eval_segments s (node_at S X from) (node_at S X from ∷ []))) → DoneCall P L S X root node z g t
      call_told i acc want d = let y = query_at short from b acc want d in called acc want (behind acc want d v (i y.f y.k y.at))

  pub call_spelled : Spelled L g
  call_spelled = spelled_from _ refl

pub read_spelled : {P L S X : List ℕ} {root node q z : ℕ} {g : Call} → AskLeft P L S X root node q z → ReadAt P q z g → Spelled L g
read_spelled {P} {L} {S} {X} {root} {node} {q} {z} a r = call_spelled (subst (λ (x : ℕ). AskLeft P L S X root node x z) (sym r.here) a) r.call
