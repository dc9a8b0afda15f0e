-- A call of match or search on a node: the text that its query finds, what the call says by it, and what is left of the code behind it.
-- P is the plan, L the pool, S the table, X the text. Assumes nothing.
use Rattle.std.specs.Prelude.{Option, Some, None, ℕ, ◌+◌, ◌-◌, ◌≤◌, ◌<◌, ◌≡◌, refl, List, [], ◌∷◌, Bool as Bits, true, false, length, get_or, take, drop, Ok, Err}
use Rattle.std.proofs.lemmas.Option.{none-some, same_Some}
use Rattle.std.proofs.Common.{sym, ◌∙◌, subst, arith}
use Rattle.std.proofs.Math.Path.{ap}
use Rattle.std.specs.Borrow.{Bor}
use Rattle.definition.specs.Bytes.{part}
use Rattle.definition.specs.Utf8.{is_utf8}
use Rattle.regex_definition.specs.Scope.{Scope}
use Rattle.definition.specs.Forms.{Segments}
use Rattle.definition.specs.Plans.{scope_kind}
use Rattle.definition.specs.Compare.{Value, node_value}
use Rattle.definition.specs.Regexps.{regex_test, regex_text, regex_values}
use Rattle.definition.specs.Tables.{node_count, node_at, kind_at, low_word, high_word}
use Rattle.definition.specs.Evaluation.{eval_segments, first_value}
use Rattle.table_laws.specs.Accepted.{Accepted}
use Rattle.table_laws.specs.Nodes.{kind_of, Kind}
use Rattle.eval_laws.specs.Items.{SegmentsAt}
use Rattle.eval_laws.specs.Founds.{found_first, found_none}
use Rattle.eval_values.specs.Values.{of_null, of_false, of_true, of_integer_lem, of_float_lem, of_text_lem, value_list, value_map}
use Rattle.eval_items.specs.Leaves.{begins_at}
use Rattle.eval_items.specs.Regexes.{cut}
use Rattle.eval_front.specs.Turns.{leads_in}
use Rattle.eval_front.specs.declared.Reached.{Reached}
use Rattle.eval_filters.specs.Queries.{found_lost, found_one}
use Rattle.eval_filters.specs.Tests.{Left}
use Rattle.eval_filters.specs.Turns.{AskTurn, DoneTurn, turn_left}
use Rattle.eval_filters.specs.Values.{AskLeft}
use Rattle.regex_match.specs.Tested.{Tested}
use Rattle.regex_rooms.specs.Rooms.{scope_for, scope_for_lem}
use Rattle.eval_rows.specs.declared.calls.Call.{Call}
use Rattle.eval_rows.specs.declared.turns.Known.{Known}
use Rattle.eval_rows.specs.declared.turns.Known.TheVariants.{Unread, Outside}
use Rattle.eval_rows.specs.Paths.{DoneFollow, leads_end, leads_low}
use Rattle.eval_rows.specs.Calls.{CallAt, AskText, DoneCall, Spelled, call_told, left_near}
use Rattle.eval_rows.specs.Known.{Ready, Knows}

-- ---- the text of a node

-- the first value of the query at q is that text, or no text
pub record TextOf (P L S X : List ℕ) (node q : ℕ) (r : Option (Bor (List ℕ))) : Type 0 where
  pub value : Value
  pub first : (f : Segments) (k : ℕ) → SegmentsAt P L (q + 1) k f → value ≡ first_value (eval_segments f (node_at S X node) (node_at S X node ∷ []))
  pub is_text_lem : (t : Bor (List ℕ)) → r ≡ Some t → value ≡ Value.text t.now
  pub inside : (t : Bor (List ℕ)) → r ≡ Some t → is_utf8 t.now ≡ true
  pub no_text : r ≡ None → (c : Scope) (w : Value) → false ≡ regex_values c value w

-- a node of another kind has no text
other_node : (S X : List ℕ) → Accepted S X → (m : ℕ) → m < node_count S → (kind_at S m ≡ 5 → ⊥) → (c : Scope) (w : Value) → false ≡ regex_values c (node_value (node_at S X m)) w
unfolding regex_values
other_node S X tab m h n c w = go (kind_of S X tab m h)
  where
    to : Value → Bits
    to v = regex_values c v w

    go : Kind S m → false ≡ regex_values c (node_value (node_at S X m)) w
    go (Kind.null e) = ap to ((of_null S X tab m h e).means [])
    go (Kind.no e) = ap to ((of_false S X tab m h e).means [])
    go (Kind.yes e) = ap to ((of_true S X tab m h e).means [])
    go (Kind.integer e) = ap to ((of_integer_lem S X tab m h e _ refl).means [])
    go (Kind.float e) = ap to ((of_float_lem S X tab m h e _ refl).means [])
    go (Kind.text e) = absurd (n e)
    go (Kind.list e) = ap to (sym (value_list S X tab m h e))
    go (Kind.map e) = ap to (sym (value_map S X tab m h e))

module _ {P L S X : List ℕ} {from : ℕ} {g : Call} (a : AskText P L S X from g) {r : Reached} (d : DoneFollow P L S X from (g.at + 1) g.end r) where
  pub text_lost : {m : ℕ} → r.node ≡ Err m → TextOf P L S X from g.at None
  unfolding regex_values
  text_lost e =
      record {
        value = Value.nothing;
        first = λ f k at. found_none S X _ _ 0 0 (found_lost P L S X a.reach.given.tab from g.at a.reach.node_in r d.reach e 0x19 f k at) refl;
        is_text_lem = λ t u. absurd (none-some t u);
        inside = λ t u. absurd (none-some t u);
        no_text = λ u c v. refl;
      }

  module _ {m : ℕ} (e : r.node ≡ Ok m) where
    ended : get_or P r.pc 0 ≡ 0x0A
    ended = ap (λ (x : ℕ). get_or P x 0) (d.ends m e) ∙ leads_end a.path

    first_is : (f : Segments) (k : ℕ) → SegmentsAt P L (g.at + 1) k f → node_value (node_at S X m) ≡ first_value (eval_segments f (node_at S X from) (node_at S X from ∷ []))
    first_is f k at = found_first S X _ _ 1 m (found_one P L S X a.reach.given.tab from g.at a.reach.node_in r d.reach m e ended 0x19 f k at) (omega arith)

    pub text_other : (kind_at S m ≡ 5 → ⊥) → TextOf P L S X from g.at None
    text_other n =
        record {
          value = node_value (node_at S X m);
          first = first_is;
          is_text_lem = λ t u. absurd (none-some t u);
          inside = λ t u. absurd (none-some t u);
          no_text = λ u c v. other_node S X a.reach.given.tab m (leads_in d.reach e) n c v;
        }

    -- its text lies in that of the table
    pub text_spot : kind_at S m ≡ 5 → (x n : ℕ) → x ≡ low_word S m → n ≡ high_word S m → x + n ≤ length X
    text_spot k x n i j = ((of_text_lem S X a.reach.given.tab m (leads_in d.reach e) k x n i j).fine []).0

    pub text_found : kind_at S m ≡ 5 → (x n : ℕ) → x ≡ low_word S m → n ≡ high_word S m → (y : Bor (List ℕ)) → y.now ≡ take (x + n - x) (drop x X) → TextOf P L S X from g.at (Some y)
    text_found k x n i j y h =
        let t = of_text_lem S X a.reach.given.tab m (leads_in d.reach e) k x n i j in
        let same : part X x n ≡ y.now = sym (cut X x n) ∙ sym h in
        record {
          value = node_value (node_at S X m);
          first = first_is;
          is_text_lem = λ w u. sym (t.means []) ∙ ap Value.text (same ∙ ap (λ (b : Bor (List ℕ)). b.now) (same_Some y w u));
          inside = λ w u. subst (λ (l : List ℕ). is_utf8 l ≡ true) (same ∙ ap (λ (b : Bor (List ℕ)). b.now) (same_Some y w u)) (t.fine []).1;
          no_text = λ u. absurd (none-some y (sym u));
        }

-- ---- what a call says of a node

module _ {P L S X : List ℕ} {root node z : ℕ} {g : Call} (a : AskLeft P L S X root node g.at z) (r : CallAt P z g) {from : ℕ} (b : from ≡ begins_at (get_or P g.at 0) root node) {s : Option (Bor (List ℕ))} (t : TextOf P L S X from g.at s) where
  pub call_none : s ≡ None → DoneCall P L S X root node z g false
  call_none e = call_told a r from b t.value false (λ c i. t.no_text e c _) t.first

  module _ {y : Bor (List ℕ)} (e : s ≡ Some y) where
    -- the test of two texts
    tested_as : (u : Bits) → u ≡ regex_test (scope_for g.kind) y.now (part L g.start g.size) → (c : Scope) → scope_kind c ≡ g.kind → u ≡ regex_values c t.value (Value.text (part L g.start g.size))
    unfolding regex_values regex_text
    tested_as u i c k =
        i
        ∙ ap (λ (x : Scope). regex_test x y.now (part L g.start g.size)) (scope_for_lem c g.kind k)
        ∙ ap (λ (v : Value). regex_values c v (Value.text (part L g.start g.size))) (sym (t.is_text_lem y e))

    call_by : (u : Bits) → u ≡ regex_test (scope_for g.kind) y.now (part L g.start g.size) → DoneCall P L S X root node z g u
    call_by u i = call_told a r from b t.value u (tested_as u i) t.first

    -- by the part of the pool as the code cuts it
    pub call_alone : (u : Bits) → u ≡ regex_test (scope_for g.kind) y.now (take (g.start + g.size - g.start) (drop g.start L)) → DoneCall P L S X root node z g u
    call_alone u h = call_by u (h ∙ ap (regex_test (scope_for g.kind) y.now) (cut L g.start g.size))

    pub cut_utf8 : is_utf8 y.now ≡ true
    cut_utf8 = t.inside y e

    pub call_outside : {code : List ℕ} {known : Known} → Ready (scope_for g.kind) (part L g.start g.size) code known → known ≡ Outside → DoneCall P L S X root node z g false
    call_outside q i = call_by false (q.outside i _)

    pub call_tested : {code : List ℕ} {known : Known} → Ready (scope_for g.kind) (part L g.start g.size) code known → (known ≡ Unread → ⊥) → (known ≡ Outside → ⊥) → (u : Bits) → Tested code y.now u → DoneCall P L S X root node z g u
    call_tested q i j u h = call_by u (q.inside i j _ u (t.inside y e) h)

-- ---- the call that is known, where a node stands

module _ {P L S X : List ℕ} {root node : ℕ} {acc : Bits} {q z : ℕ} (a : AskTurn P L S X root node acc q z) where
  pub turn_call : {code : List ℕ} {g : Call} {known : Known} → Knows P L code z g known → q ≡ g.at → CallAt P z g × (known ≡ Unread → ⊥)
  turn_call k e = let h = left_near (turn_left a) in let m = a.more in (k.call (omega arith), k.some (omega arith))

  module _ {g : Call} (c : CallAt P z g) (i : g.at ≡ q) where
    pub turn_at : AskLeft P L S X root node g.at z
    turn_at = subst (λ (x : ℕ). AskLeft P L S X root node x z) (sym i) (turn_left a)

    pub turn_called : {b : Bits} → DoneCall P L S X root node z g b → DoneTurn P L S X root node acc q z (record { acc = b; q = g.end + 7; some = true })
    turn_called d =
        record {
          further = λ t. omega (arith, leads_low c.path);
          goes = λ t want l. d acc want (subst (λ (x : ℕ). Left P L x z (node_at S X root) (node_at S X node) acc want) (sym i) l);
        }

pub spelled_utf8 : (L : List ℕ) (g : Call) → Spelled L g → is_utf8 (take (g.start + g.size - g.start) (drop g.start L)) ≡ true
spelled_utf8 L g s = ap is_utf8 (cut L g.start g.size) ∙ s.1
