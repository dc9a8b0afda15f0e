-- The kinds of a filter's code: the first byte of an item is its kind, and a kind tells which item, and which operation, stands there. Assumes nothing.
use Rattle.std.specs.Prelude.{ℕ, ◌+◌, ◌≤◌, ◌<◌, ◌≡◌, refl, ◌⊎◌, List, [], ◌∷◌, Bool, true, false, length, get_or}
use Rattle.std.proofs.Common.{inl, inr, arith, ne_eqb}
use Rattle.regex_definition.specs.Scope.{Scope, whole, part}
use Rattle.definition.specs.Forms.{Literal, Start, Segments, Test}
use Rattle.definition.specs.Forms.Literal.{null, boolean, integer, float, text}
use Rattle.definition.specs.Forms.Start.{root, current}
use Rattle.definition.specs.Forms.Query.{query}
use Rattle.definition.specs.Plans.{start_kind, scope_kind, pooled, code_literal, code_query}
use Rattle.eval_laws.specs.Bytes.{Holds, holds_head}
use Rattle.eval_laws.specs.Operations.{Operation, Ask, Op, table, OfKind, right_kind, code_op, literal_kind, kind}
use Rattle.eval_laws.specs.Operations.Operation.{length_op, truth_op, not_op, compare_op, regex_op}
use Rattle.eval_laws.specs.Operations.Op.{query_op, literal_op, right_op, plain_op}

-- the first byte of an item is its kind
literal_head : (l : Literal) (k : ℕ) (P : List ℕ) (q : ℕ) → Holds P q (code_literal l k) → (q < length P) × (get_or P q 0 ≡ literal_kind l)
unfolding code_literal pooled literal_kind
literal_head null k P q h = holds_head P q _ _ h
literal_head (boolean b) k P q h = holds_head P q _ _ h
literal_head (integer z) k P q h = holds_head P q _ _ h
literal_head (float b) k P q h = holds_head P q _ _ h
literal_head (text s) k P q h = holds_head P q _ _ h

pub op_head : (o : Op) (k : ℕ) (P : List ℕ) (q : ℕ) → Holds P q (code_op o k) → (q < length P) × (get_or P q 0 ≡ kind o)
unfolding code_op code_query kind
op_head (query_op m (query s f)) k P q h = holds_head P q _ _ h
op_head (literal_op l) k P q h = literal_head l k P q h
op_head (right_op w b) k P q h = holds_head P q _ _ h
op_head (plain_op o) k P q h = holds_head P q _ _ h

literal_some : (l : Literal) (k : ℕ) → 0 < length (code_literal l k)
unfolding code_literal pooled
literal_some null k = omega arith
literal_some (boolean b) k = omega arith
literal_some (integer z) k = omega arith
literal_some (float b) k = omega arith
literal_some (text s) k = omega arith

pub op_some : (o : Op) (k : ℕ) → 0 < length (code_op o k)
unfolding code_op code_query
op_some (query_op m (query s f)) k = omega arith
op_some (literal_op l) k = literal_some l k
op_some (right_op w b) k = omega arith
op_some (plain_op o) k = omega arith

start_small : (s : Start) → start_kind s ≤ 2
unfolding start_kind
start_small root = omega arith
start_small current = omega arith

literal_between : (l : Literal) → (0x10 ≤ literal_kind l) × (literal_kind l ≤ 0x13)
unfolding literal_kind
literal_between null = (omega arith, omega arith)
literal_between (boolean b) = (omega arith, omega arith)
literal_between (integer z) = (omega arith, omega arith)
literal_between (float b) = (omega arith, omega arith)
literal_between (text s) = (omega arith, omega arith)

right_between : (w : Bool) → (0x16 ≤ right_kind w) × (right_kind w ≤ 0x17)
unfolding right_kind
right_between true = (omega arith, omega arith)
right_between false = (omega arith, omega arith)

scope_between : (s : Scope) → (0x1C ≤ scope_kind s) × (scope_kind s ≤ 0x1D)
unfolding scope_kind
scope_between whole = (omega arith, omega arith)
scope_between part = (omega arith, omega arith)

-- an operation's kind is none of a query, a literal or a right operand
plain_kind : (o : Operation) → (0x14 ≤ (table o).kind) × (((table o).kind ≤ 0x15) ⊎ (0x18 ≤ (table o).kind))
unfolding table
plain_kind length_op = (omega arith, inr (omega arith))
plain_kind truth_op = (omega arith, inr (omega arith))
plain_kind not_op = (omega arith, inl (omega arith))
plain_kind (compare_op c) = (omega arith, inl (omega arith))
plain_kind (regex_op s) = let b = scope_between s in (omega arith, inr (omega arith))

-- the kinds from a test's on
pub last_by : (o : Operation) → 0x18 ≤ (table o).kind → ((table o).kind ≡ 0x18 → ⊥) → ((table o).kind ≡ 0x1A → ⊥) → (0x1C ≤ (table o).kind) × ((table o).kind ≤ 0x1D)
unfolding table
last_by length_op l n m = absurd (m refl)
last_by truth_op l n m = absurd (n refl)
last_by not_op l n m = absurd (omega arith)
last_by (compare_op c) l n m = absurd (omega arith)
last_by (regex_op s) l n m = scope_between s

-- which operation it is
pub of_kind : (o : Operation) → OfKind (table o).kind o
unfolding table scope_kind
of_kind length_op = refl
of_kind truth_op = refl
of_kind not_op = refl
of_kind (compare_op c) = (c, refl)
of_kind (regex_op whole) = (whole, refl)
of_kind (regex_op part) = (part, refl)

pub regex_kind_lem : (k : ℕ) (o : Operation) → 0x1C ≤ k → OfKind k o → (s : Scope) × (o ≡ regex_op s)
regex_kind_lem k o l t = rw (ne_eqb k 0x14 (omega arith), ne_eqb k 0x15 (omega arith), ne_eqb k 0x18 (omega arith), ne_eqb k 0x1A (omega arith)) at t

-- an item by its kind
pub data Shape (o : Op) : Type 0 where
  query_is : (m : Ask) (s : Start) (f : Segments) → o ≡ query_op m (query s f) → kind o ≡ start_kind s → kind o ≤ 2 → Shape o
  literal_is : (l : Literal) → o ≡ literal_op l → 0x10 ≤ kind o → kind o ≤ 0x13 → Shape o
  right_is : (w : Bool) (b : Test) → o ≡ right_op w b → kind o ≡ right_kind w → 0x16 ≤ kind o → kind o ≤ 0x17 → Shape o
  plain_is : (p : Operation) → o ≡ plain_op p → kind o ≡ (table p).kind → 0x14 ≤ kind o → (kind o ≤ 0x15) ⊎ (0x18 ≤ kind o) → Shape o

pub shape : (o : Op) → Shape o
unfolding kind
shape (query_op m (query s f)) = query_is m s f refl refl (start_small s)
shape (literal_op l) = literal_is l refl (literal_between l).0 (literal_between l).1
shape (right_op w b) = right_is w b refl refl (right_between w).0 (right_between w).1
shape (plain_op p) = plain_is p refl refl (plain_kind p).0 (plain_kind p).1
