-- A test of one member of a node, as the plan has it: `@` with one name, tested or compared with a literal. What its bytes are, and that what is found under the
-- name takes what is left of a filter's code further. P is the plan, L the pool, S the table, X the text. Assumes nothing.
use Rattle.std.specs.Prelude.{ℕ, ◌+◌, ◌≤◌, ◌<◌, ◌≡◌, refl, List, Bool as Bits, true, false, cond, eqb, ltb, length, get_or, Option, Some, None, Ok, Err}
use Rattle.std.proofs.Common.{sym, ap, ◌∙◌, subst, arith, eq-eqb, ne_eqb, eqb-true}
use Rattle.std.proofs.lemmas.Bool.{eqb-false}
use Rattle.definition.specs.Bytes.{number, part}
use Rattle.definition.specs.Limits.{max_plan, max_nodes}
use Rattle.definition.specs.Forms.{Segments}
use Rattle.definition.specs.Plans.{code_segments, code_selector}
use Rattle.definition.specs.Tables.{node_count, low_word, child_count}
use Rattle.eval_laws.specs.Items.{SegmentsAt, end_long}
use Rattle.eval_values.specs.Near.{Near}
use Rattle.eval_items.specs.Ends.{DoneLiteral}
use Rattle.eval_items.specs.EndLaws.{past_constant, past_text, past_number}
use Rattle.eval_items.specs.Leaves.{AskValue, AskOne, DoneOne, begins_at}
use Rattle.eval_items.specs.LeafLaws.{name_asked, name_found}
use Rattle.eval_front.specs.Visits.{Query, Given, Head, DoneReach}
use Rattle.eval_front.specs.Loops.{InReach}
use Rattle.eval_front.specs.Heads.{name_ends}
use Rattle.eval_front.specs.Fronts.{never, single, along_start, one_asked, reach_next, done_lost, done_found}
use Rattle.eval_filters.specs.Queries.{begins_node, found_lost}
use Rattle.eval_filters.specs.Tests.{AskShort, DoneShort, AskAgainst, DoneAgainst, AskNode, DoneNode, Plain, plain_one, short_tested, short_asked, short_compared, against_value, against_nothing, against_node, short_query}
use Rattle.eval_filters.specs.declared.Told.{Told}
use Rattle.eval_filters.specs.declared.Nodes.{Nodes}
use Rattle.eval_filters.specs.declared.atoms.Atom.{Atom}
use Rattle.eval_filters.specs.declared.atoms.Behind.{Behind}

-- an answer that is told, and the place behind
abbrev pub tells : Bits → ℕ → Told
tells b n = record { acc = b; q = n; some = true }

-- ---- one name at the end of a query

-- a child segment of one name stands at c, and the end behind it
pub record NameAt (P : List ℕ) (c : ℕ) : Type 0 where
  pub head : Head P c 5
  pub end_is : get_or P (c + 8) 0 ≡ 0x0A
  pub bound : c + 8 < length P

abbrev pub DoneName : List ℕ → ℕ → Bits → Type 0
DoneName P c r = r ≡ true → NameAt P c

pub not_name : (P : List ℕ) (c : ℕ) → DoneName P c false
not_name P c e = absurd (never e)

module _ {P : List ℕ} {c : ℕ} (few : length P ≤ max_plan) (n : NameAt P c) where
  -- such a query takes nine bytes
  pub name_long : {L : List ℕ} {k : ℕ} {f : Segments} → SegmentsAt P L c k f → length (code_segments f k) ≡ 9
  name_long {L} {k} {f} a =
      let y = single few n.head a in
      let e = name_ends few n.head y.x k y.here.holds in
      let l = y.long in
      let z : get_or P (c + 3 + length (code_selector y.x k)) 0 ≡ 0x0A = ap (λ (x : ℕ). get_or P x 0) (sym e) ∙ n.end_is in
      let w = end_long P _ y.j' y.behind y.after.holds z in
      omega arith

-- ---- where it leads

-- from a node no segment further
pub start_here : {P L S X : List ℕ} {node c : ℕ} → node < node_count S → Query P L c → InReach P L S X node c node c
start_here h q = record { node_in = h; deeper = omega arith; later = omega arith; query = q; front = λ f k at. along_start at }

module _ {P L S X : List ℕ} (given : Given P L S X) {node c : ℕ} (node_in : node < node_count S) (q : Query P L c) (n : NameAt P c) where
  name_start : InReach P L S X node c node c
  name_start = start_here node_in q

  pub name_one : AskOne P L S X (c + 3) node 5 5
  name_one = one_asked given name_start n.head

  pub name_lost : (r : Option ℕ) → DoneOne P L S X (c + 3) node r → r ≡ None → DoneReach P L S X node c (record { node = Err node; pc = c })
  name_lost r o e = done_lost given name_start n.head r o e

  pub name_reached : (r : Option ℕ) → DoneOne P L S X (c + 3) node r → (m : ℕ) → r ≡ Some m → DoneReach P L S X node c (record { node = Ok m; pc = c + 8 })
  name_reached r o m e = done_found (reach_next given name_start n.head r o m e (c + 8) (name_ends given.few_p n.head))

-- ---- the member of a name, at a place or by a search

module _ {P L S X : List ℕ} {p node : ℕ} (a : AskOne P L S X p node 5 5) where
  -- a search takes an index too
  pub name_any : AskOne P L S X p node 5 6
  name_any =
      let h = a.kind_high in
      record { few_p = a.few_p; few_l = a.few_l; tab = a.tab; node_in = a.node_in; x = a.x; k = a.k; at = a.at; kind_low = a.kind_low; kind_high = omega arith }

  module _ {start size : ℕ} (u : start ≡ number (part P (p + 1) 2)) (v : size ≡ number (part P (p + 3) 2)) where
    -- the name lies inside the pool
    pub name_inside : start + size ≤ length L
    name_inside = let d = (name_asked a).stands in omega (arith, d.start, d.size, d.inside)

    -- the member that has it at a place is the one that it selects
    module _ {near : ℕ} (n : Near S X node near (part L start size)) (j : ℕ) (i : j ≡ low_word S node) where
      pub name_near : DoneOne P L S X p node (Some (j + near))
      name_near =
          subst (λ (x : ℕ). DoneOne P L S X p node (Some (x + near))) (sym i) (name_found a n.map (low_word S node) (child_count S node) refl refl start size u v _ n.looked)

      pub near_room : j + near < max_nodes
      near_room = omega (arith, name_near.inside (j + near) refl, a.tab.size.few)

-- ---- a literal and a comparison behind it

-- code that ends at e is read from q on
pub record AskCode (P : List ℕ) (q e : ℕ) : Type 0 where
  pub few : length P ≤ max_plan
  pub inside : e ≤ length P
  pub near : q ≤ max_plan

-- how many bytes a literal of kind k takes
unfoldable pub size_of : ℕ → ℕ
size_of k = cond (eqb k 0x13) 2 (cond (eqb k 0x12) 5 9)

pub size_constant : (k : ℕ) → k ≡ 0x13 → 2 ≡ size_of k
unfolding size_of
size_constant k e = rw (eq-eqb k 0x13 e)

pub size_text : (k : ℕ) → (k ≡ 0x13 → ⊥) → k ≡ 0x12 → 5 ≡ size_of k
unfolding size_of
size_text k n e = rw (ne_eqb k 0x13 n, eq-eqb k 0x12 e)

pub size_number : (k : ℕ) → (k ≡ 0x13 → ⊥) → (k ≡ 0x12 → ⊥) → 9 ≡ size_of k
unfolding size_of
size_number k n m = rw (ne_eqb k 0x13 n, ne_eqb k 0x12 m)

size_by : (b d : Bits) → cond b 2 (cond d 5 9) ≤ 9
size_by true d = omega arith
size_by false true = omega arith
size_by false false = omega arith

size_small : (k : ℕ) → size_of k ≤ 9
unfolding size_of
size_small k = size_by (eqb k 0x13) (eqb k 0x12)

pub size_fits : (k n : ℕ) → n ≡ size_of k → n ≤ 9
size_fits k n e = let h = size_small k in omega arith

-- a literal ends behind so many bytes
pub sized : (P : List ℕ) (z n : ℕ) → n ≡ size_of (get_or P z 0) → DoneLiteral P z (z + n)
unfolding size_of
sized P z n e = by (eqb (get_or P z 0) 0x13) (eqb (get_or P z 0) 0x12) refl refl e
  where
    by : (b d : Bits) → eqb (get_or P z 0) 0x13 ≡ b → eqb (get_or P z 0) 0x12 ≡ d → n ≡ cond b 2 (cond d 5 9) → DoneLiteral P z (z + n)
    by true d i j k = subst (λ (x : ℕ). DoneLiteral P z (z + x)) (sym k) (past_constant P z (eqb-true _ _ i))
    by false true i j k = subst (λ (x : ℕ). DoneLiteral P z (z + x)) (sym k) (past_text P z (eqb-true _ _ j))
    by false false i j k = subst (λ (x : ℕ). DoneLiteral P z (z + x)) (sym k) (past_number P z (eqb-false _ _ i) (eqb-false _ _ j))

-- a literal stands at z and a comparison with the operator behind it, up to next
pub record AgainstAt (P : List ℕ) (z e op next : ℕ) : Type 0 where
  pub low : 0x10 ≤ get_or P z 0
  pub high : get_or P z 0 ≤ 0x13
  pub more : z < e
  pub w : ℕ
  pub past : DoneLiteral P z w
  pub inside : w < e
  pub compare_is : get_or P w 0 ≡ 0x14
  pub op_is : op ≡ get_or P (w + 1) 0
  pub next_is : next ≡ w + 2

abbrev pub DoneBehind : List ℕ → ℕ → ℕ → Option Behind → Type 0
DoneBehind P z e None = Unit {0}
DoneBehind P z e (Some r) = AgainstAt P z e r.op r.next

pub none_behind : (P : List ℕ) (z e : ℕ) → DoneBehind P z e None
none_behind P z e = tt

-- ---- the test of one member

-- the form of a comparison with a literal of kind k by an operator
unfoldable pub form_of : ℕ → ℕ → ℕ
form_of k op = cond (eqb k 0x10) 3 (cond (eqb k 0x12) (cond (eqb op 0) 4 2) 2)

pub form_number : (k op : ℕ) → k ≡ 0x10 → 3 ≡ form_of k op
unfolding form_of
form_number k op e = rw (eq-eqb k 0x10 e)

pub form_other : (k op : ℕ) → (k ≡ 0x10 → ⊥) → (k ≡ 0x12 → ⊥) → 2 ≡ form_of k op
unfolding form_of
form_other k op n m = rw (ne_eqb k 0x10 n, ne_eqb k 0x12 m)

pub form_words : (k op : ℕ) → (k ≡ 0x10 → ⊥) → k ≡ 0x12 → op ≡ 0 → 4 ≡ form_of k op
unfolding form_of
form_words k op n e z = rw (ne_eqb k 0x10 n, eq-eqb k 0x12 e, eq-eqb op 0 z)

pub form_text : (k op : ℕ) → (k ≡ 0x10 → ⊥) → k ≡ 0x12 → (op ≡ 0 → ⊥) → 2 ≡ form_of k op
unfolding form_of
form_text k op n e z = rw (ne_eqb k 0x10 n, eq-eqb k 0x12 e, ne_eqb op 0 z)

-- what a form says of the literal and of the operator: an integer, or a text that is compared by ==
pub record FormAgainst (k op form : ℕ) : Type 0 where
  pub integer_is : form ≡ 3 → k ≡ 0x10
  pub text_is : form ≡ 4 → (k ≡ 0x12) × (op ≡ 0)

pub form_none : (k op form : ℕ) → form ≤ 2 → FormAgainst k op form
form_none k op form l = record { integer_is = λ i. absurd (omega arith); text_is = λ i. absurd (omega arith) }

form_by : (k op : ℕ) (b d o : Bits) → eqb k 0x10 ≡ b → eqb k 0x12 ≡ d → eqb op 0 ≡ o → (◌≡◌ {A = ℕ} (cond b 3 (cond d (cond o 4 2) 2)) 1 → ⊥) × FormAgainst k op (cond b 3 (cond d (cond o 4 2) 2))
form_by k op true d o x y z = (λ i. absurd (omega arith), record { integer_is = λ i. eqb-true k 0x10 x; text_is = λ i. absurd (omega arith) })
form_by k op false true true x y z = (λ i. absurd (omega arith), record { integer_is = λ i. absurd (omega arith); text_is = λ i. (eqb-true k 0x12 y, eqb-true op 0 z) })
form_by k op false true false x y z = (λ i. absurd (omega arith), form_none k op 2 (omega arith))
form_by k op false false o x y z = (λ i. absurd (omega arith), form_none k op 2 (omega arith))

-- the form of a comparison is that of no bare test, and says what it is to say
pub form_says : (k op f : ℕ) → f ≡ form_of k op → (f ≡ 1 → ⊥) × FormAgainst k op f
unfolding form_of
form_says k op f e = subst (λ (x : ℕ). (x ≡ 1 → ⊥) × FormAgainst k op x) (sym e) (form_by k op (eqb k 0x10) (eqb k 0x12) (eqb op 0) refl refl refl)

pub record AtomAt (P : List ℕ) (q e : ℕ) (t : Atom) : Type 0 where
  pub current : get_or P q 0 ≡ 2
  pub here : NameAt P (q + 1)
  pub start_is : t.start ≡ number (part P (q + 1 + 3 + 1) 2)
  pub size_is : t.size ≡ number (part P (q + 1 + 3 + 3) 2)
  pub has : t.form ≡ 1 → (get_or P (q + 1 + 9) 0 ≡ 0x18) × (t.next ≡ q + 1 + 10)
  pub compared : (t.form ≡ 1 → ⊥) → AgainstAt P (q + 1 + 9) e t.op t.next
  pub form_is : FormAgainst (get_or P (q + 1 + 9) 0) t.op t.form
  pub more : q + 1 + 9 < e
  pub room : q + 1 + 9 < length P

abbrev pub DoneAtom : List ℕ → ℕ → ℕ → Atom → Type 0
DoneAtom P q e t = (t.form ≡ 0 → ⊥) → AtomAt P q e t

-- ---- what it says of a node

module _ {P L S X : List ℕ} {root node q e : ℕ} (a : AskShort P L S X root node q e) {t : Atom} (b : AtomAt P q e t) where
  told_given : Given P L S X
  told_given = let w = a.within in record { few_p = w.few_p; few_l = w.few_l; tab = w.tab }

  told_begins : node ≡ begins_at (get_or P q 0) root node
  told_begins = sym (begins_node _ root node b.current)

  pub told_query : Query P L (q + 1)
  told_query = short_query a node told_begins

  pub told_one : AskOne P L S X (q + 1 + 3) node 5 5
  told_one = name_one told_given a.within.node_in told_query b.here

  pub told_any : AskOne P L S X (q + 1 + 3) node 5 6
  told_any = name_any told_one

  pub told_room : q + 1 + 9 < max_plan
  told_room = let h = a.within.few_p in omega (arith, b.room)

  -- nothing is found
  plain_absent : (r : Option ℕ) → DoneOne P L S X (q + 1 + 3) node r → r ≡ None → Plain P L S X node q (record { n = 0; first = 0; z = q + 1 + 9 })
  plain_absent r o i =
      let d = name_lost told_given a.within.node_in told_query b.here r o i in
      record {
        inside = λ u. absurd (omega arith);
        past = λ f k h. ap (λ (x : ℕ). q + 1 + x) (sym (name_long a.within.few_p b.here h));
        found = found_lost P L S X a.within.tab node q a.within.node_in _ d refl 0x19;
      }

  -- node m is found
  plain_found : (r : Option ℕ) → DoneOne P L S X (q + 1 + 3) node r → (m : ℕ) → r ≡ Some m → Plain P L S X node q (record { n = 1; first = m; z = q + 1 + 9 })
  plain_found r o m i =
      let d = name_reached told_given a.within.node_in told_query b.here r o m i in
      let x : q + 1 + 8 + 1 ≡ q + 1 + 9 = omega arith in
      subst (λ (z : ℕ). Plain P L S X node q (record { n = 1; first = m; z = z })) x
      (plain_one (record { given = told_given; node_in = a.within.node_in; query = told_query }) _ d m refl b.here.end_is)

  module _ (v : Nodes) (d : Plain P L S X node q v) (z : v.z ≡ q + 1 + 9) where
    mode_is : get_or P v.z 0 ≡ get_or P (q + 1 + 9) 0
    mode_is = ap (λ (x : ℕ). get_or P x 0) z

    told_tested : t.form ≡ 1 → (r : Bits) → r ≡ ltb 0 v.n → DoneShort P L S X root node q e (tells r t.next)
    told_tested i r u =
        let h = b.has i in
        let h1 = h.1 in
        let x : v.z + 1 ≡ t.next = omega arith in
        subst (λ (y : ℕ). DoneShort P L S X root node q e (tells r y)) x (short_tested a node told_begins v d (mode_is ∙ h.0) r u)

    module _ (i : t.form ≡ 1 → ⊥) where
      told_behind : AgainstAt P v.z e t.op t.next
      told_behind = subst (λ (y : ℕ). AgainstAt P y e t.op t.next) (sym z) (b.compared i)

      told_against : AskAgainst P L S X v.n v.first v.z e
      told_against = short_asked a node told_begins v d told_behind.low told_behind.high

      pub told_value : AskValue P L v.z
      told_value = against_value told_against told_behind.more

      told_by : (r : Bits) → DoneAgainst P L S X v.n v.first v.z e (record { acc = r; q = told_behind.w + 2; some = true }) → DoneShort P L S X root node q e (tells r t.next)
      told_by r g =
          subst (λ (y : ℕ). DoneShort P L S X root node q e (tells r y)) (sym told_behind.next_is)
          (short_compared a node told_begins v d told_behind.low told_behind.high _ g)

      told_nothing : v.n ≡ 0 → DoneShort P L S X root node q e (tells false t.next)
      told_nothing u = let g = told_behind in told_by false (against_nothing told_against g.more g.w g.past g.inside g.compare_is u)

      told_node : (v.n ≡ 0 → ⊥) → (r : Bits) → DoneNode P L S X v.first v.z t.op r → DoneShort P L S X root node q e (tells r t.next)
      told_node u r g =
          let y = told_behind in
          told_by r (against_node told_against y.more y.w y.past y.inside y.compare_is u r (subst (λ (o : ℕ). DoneNode P L S X v.first v.z o r) y.op_is g))

  -- under the name there is nothing
  pub atom_absent : (r : Option ℕ) → DoneOne P L S X (q + 1 + 3) node r → r ≡ None → DoneShort P L S X root node q e (tells false t.next)
  atom_absent r o i = by (eqb t.form 1) refl
    where
      by : (x : Bits) → eqb t.form 1 ≡ x → DoneShort P L S X root node q e (tells false t.next)
      by true j = told_tested _ (plain_absent r o i) refl (eqb-true t.form 1 j) false refl
      by false j = told_nothing _ (plain_absent r o i) refl (eqb-false t.form 1 j) refl

  -- there is node m
  module _ (r : Option ℕ) (o : DoneOne P L S X (q + 1 + 3) node r) (m : ℕ) (i : r ≡ Some m) where
    pub atom_has : t.form ≡ 1 → DoneShort P L S X root node q e (tells true t.next)
    atom_has j = told_tested _ (plain_found r o m i) refl j true refl

    module _ (j : t.form ≡ 1 → ⊥) where
      pub atom_asks : AskNode P L S X m (q + 1 + 9)
      atom_asks = record { tab = a.within.tab; node_in = o.inside m i; literal = told_value _ (plain_found r o m i) refl j }

      pub atom_compared : (y : Bits) → DoneNode P L S X m (q + 1 + 9) t.op y → DoneShort P L S X root node q e (tells y t.next)
      atom_compared y g = told_node _ (plain_found r o m i) refl j (λ k. absurd (omega arith)) y g
