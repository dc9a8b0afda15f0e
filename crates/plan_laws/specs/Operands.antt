-- The operands of filter code: a literal or a query, with the functions that are called on it behind it.
-- Where the tests of shorter plans are spelled in one way, so are operands.
use Rattle.std.specs.Prelude.{ℕ, suc, ◌+◌, ◌≤◌, ◌<◌, ◌≡◌, refl, List, [], ◌∷◌, ◌++◌, Bool, true, false, cond, not, ◌&&◌, leb, ltb, length}
use Rattle.std.proofs.Common.{arith, sym, ap, ◌∙◌, append_assoc, append-nil, true≢false}
use Rattle.std.proofs.lemmas.Bool.{false≢true}
use Rattle.definition.specs.Limits.{max_plan}
use Rattle.definition.specs.Bytes.{within}
use Rattle.definition.specs.Forms.{Literal, Query, Argument, Function, is_singular}
use Rattle.definition.specs.Forms.Query.{query}
use Rattle.definition.specs.Forms.Argument.{literal, singular, value}
use Rattle.definition.specs.Forms.Function.{count_of, length_of, value_of}
use Rattle.definition.specs.QueryForms.{literal_right, query_right, argument_right, function_right, nesting, nesting_argument, nesting_function}
use Rattle.definition.specs.Plans.{start_kind, pool_literal, pool_query, pool_argument, pool_function, code_literal, code_query, code_argument, code_function}
use Rattle.basics.specs.Bools.{and_left, and_right, both_true}
use Rattle.plan_laws.specs.Parts.{Part, Spelt, Unique, plan_rest}
use Rattle.plan_laws.specs.Leaves.{literals, unique_literals, literal_begins}
use Rattle.plan_laws.specs.Queries.{test_part, query_part, unique_query, start_low}

-- ---- operands

pub data Operand : Type 0 where
  lit : Literal → Operand
  qry : Query → Operand
  fun : Function → Operand

abbrev pub code_operand : Operand → ℕ → List ℕ
code_operand (lit l) p = code_literal l p
code_operand (qry q) p = code_query q p
code_operand (fun f) p = code_function f p

abbrev pub pool_operand : Operand → List ℕ
pool_operand (lit l) = pool_literal l
pool_operand (qry q) = pool_query q
pool_operand (fun f) = pool_function f

abbrev pub operand_right : Operand → Bool
operand_right (lit l) = literal_right l
operand_right (qry q) = query_right q
operand_right (fun f) = function_right f

abbrev pub nesting_operand : Operand → ℕ
nesting_operand (lit l) = 0
nesting_operand (qry q) = nesting q
nesting_operand (fun f) = nesting_function f

-- 0 a query that is not singular, 1 a singular query, 2 a literal, 3 a function
abbrev pub sort_operand : Operand → ℕ
sort_operand (lit l) = 2
sort_operand (qry q) = cond (is_singular q) 1 0
sort_operand (fun f) = 3

-- the items of functions: 19 count, 1A length, 1B value
abbrev pub is_call : ℕ → Bool
is_call c = within 0x19 0x1B c

abbrev pub no_call : List ℕ → Bool
no_call [] = true
no_call (c ∷ r) = not (is_call c)

abbrev pub operand_part : Part Operand
operand_part = record { code = code_operand; pool = pool_operand; right = operand_right; nest = nesting_operand; sort = sort_operand; may = no_call }

-- ---- what an operand begins with: a literal or a query

pub data Basis : Type 0 where
  basis_literal : Literal → Basis
  basis_query : Query → Basis

abbrev pub as_operand : Basis → Operand
as_operand (basis_literal l) = lit l
as_operand (basis_query q) = qry q

abbrev pub basis_part : Part Basis
basis_part = record { code = λ b. code_operand (as_operand b); pool = λ b. pool_operand (as_operand b); right = λ b. operand_right (as_operand b); nest = λ b. nesting_operand (as_operand b); sort = λ b. sort_operand (as_operand b); may = λ r. true }

pub into_literal : {room p : ℕ} {s l r m : List ℕ} {x : Literal} → Spelt basis_part room s l p (basis_literal x) r m → Spelt literals room s l p x r m
into_literal u = record { plan = u.plan; pool = u.pool; right = u.right; low = u.low; may = refl }

pub from_literal : {room p : ℕ} {s l r m : List ℕ} {x : Literal} → Spelt literals room s l p x r m → Spelt basis_part room s l p (basis_literal x) r m
from_literal u = record { plan = u.plan; pool = u.pool; right = u.right; low = u.low; may = refl }

pub into_basis : {room p : ℕ} {s l r m : List ℕ} {x : Query} → Spelt basis_part room s l p (basis_query x) r m → Spelt query_part room s l p x r m
into_basis u = record { plan = u.plan; pool = u.pool; right = u.right; low = u.low; may = refl }

pub from_basis : {room p : ℕ} {s l r m : List ℕ} {x : Query} → Spelt query_part room s l p x r m → Spelt basis_part room s l p (basis_query x) r m
from_basis u = record { plan = u.plan; pool = u.pool; right = u.right; low = u.low; may = refl }

-- a literal begins with a kind in 10..13, a query with 01 or 02
pub query_begins : (q : Query) (p : ℕ) → (k : ℕ) × (c : List ℕ) × (code_query q p ≡ k ∷ c) × (1 ≤ k) × (k ≤ 2)
unfolding code_query
query_begins (query b q) p = (start_kind b, _, refl, (start_low b).0, (start_low b).1)

pub basis_begins : (b : Basis) (p : ℕ) → (k : ℕ) × (c : List ℕ) × (code_operand (as_operand b) p ≡ k ∷ c) × (1 ≤ k) × (k ≤ 0x13)
basis_begins (basis_literal x) p = let h = literal_begins x p in (h.0, h.1, h.2, let z = h.3 in omega arith, h.4)
basis_begins (basis_query q) p = let h = query_begins q p in (h.0, h.1, h.2, h.3, let z = h.4 in omega arith)

-- a literal and a query are not spelled in one place
literal_or_query : {room room' p : ℕ} {s l r r' m m' : List ℕ} (x : Literal) (q : Query) → Spelt literals room s l p x r m → Spelt query_part room' s l p q r' m' → ⊥
literal_or_query {p = p} {r = r} {r' = r'} x q u v =
    let h = literal_begins x p in
    let k = query_begins q p in
    let a = u.plan ∙ ap (λ c. c ++ r) h.2 in
    let b = v.plan ∙ ap (λ c. c ++ r') k.2 in
    let e : h.0 ≡ k.0 = cc in
    let y = h.3 in
    let z = k.4 in
    omega arith

module _ {n : ℕ} (fits : n ≤ max_plan) (tests : Unique test_part n) where
  basis_same : {room room' p : ℕ} {s l r r' m m' : List ℕ} (x x' : Basis) → length s < suc n → length l ≤ max_plan → Spelt basis_part room s l p x r m → Spelt basis_part room' s l p x' r' m' → x ≡ x'
  basis_same (basis_literal x) (basis_literal x') a b u v = ap basis_literal ((unique_literals n).same x x' a b (into_literal u) (into_literal v))
  basis_same (basis_literal x) (basis_query q) a b u v = absurd (literal_or_query x q (into_literal u) (into_basis v))
  basis_same (basis_query q) (basis_literal x) a b u v = absurd (literal_or_query x q (into_literal v) (into_basis u))
  basis_same (basis_query q) (basis_query q') a b u v = ap basis_query ((unique_query fits tests).same q q' a b (into_basis u) (into_basis v))

  pub unique_basis : Unique basis_part (suc n)
  unique_basis = record { same = basis_same }

-- ---- functions called on an operand

pub data Call : Type 0 where
  call_count : Call
  call_length : Call
  call_value : Call

abbrev pub call_byte : Call → ℕ
call_byte call_count = 0x19
call_byte call_length = 0x1A
call_byte call_value = 0x1B

-- count and value take a query, length takes anything but a query that is not singular
abbrev pub allowed : ℕ → Call → Bool
allowed σ call_count = leb σ 1
allowed σ call_length = ltb 0 σ
allowed σ call_value = leb σ 1

abbrev pub calls_right : ℕ → List Call → Bool
calls_right σ [] = true
calls_right σ (c ∷ cs) = allowed σ c && calls_right 3 cs

abbrev pub code_calls : List Call → List ℕ
code_calls [] = []
code_calls (c ∷ cs) = call_byte c ∷ code_calls cs

abbrev pub sort_calls : ℕ → List Call → ℕ
sort_calls σ [] = σ
sort_calls σ (c ∷ cs) = 3

-- the calls on an operand of the sort σ that nests h deep
abbrev pub calls_part : ℕ → ℕ → Part (List Call)
calls_part h σ = record { code = λ cs p. code_calls cs; pool = λ cs. []; right = calls_right σ; nest = λ cs. h + length cs; sort = sort_calls σ; may = no_call }

abbrev pub called : Call → Operand → Operand
called call_count (lit l) = fun (length_of (literal l))
called call_count (qry q) = fun (count_of q)
called call_count (fun f) = fun (length_of (value f))
called call_length (lit l) = fun (length_of (literal l))
called call_length (qry q) = fun (length_of (singular q))
called call_length (fun f) = fun (length_of (value f))
called call_value (lit l) = fun (length_of (literal l))
called call_value (qry q) = fun (value_of q)
called call_value (fun f) = fun (length_of (value f))

abbrev pub called_all : List Call → Operand → Operand
called_all [] x = x
called_all (c ∷ cs) x = called_all cs (called c x)

-- what one allowed call makes of an operand
pub record OneCall (c : Call) (x : Operand) : Type 0 where
  pub code : (p : ℕ) → code_operand (called c x) p ≡ code_operand x p ++ call_byte c ∷ []
  pub pool : pool_operand (called c x) ≡ pool_operand x
  pub right : operand_right (called c x) ≡ true
  pub nest : nesting_operand (called c x) ≡ nesting_operand x + 1
  pub sort : sort_operand (called c x) ≡ 3

singular_of : (b : Bool) → ltb 0 (cond b 1 0) ≡ true → b ≡ true
singular_of true h = refl
singular_of false h = h

pub one_call : (c : Call) (x : Operand) → allowed (sort_operand x) c ≡ true → operand_right x ≡ true → OneCall c x
unfolding code_function code_argument pool_function pool_argument function_right argument_right nesting_function nesting_argument
one_call call_count (lit l) a h = absurd (false≢true a)
one_call call_count (qry q) a h = record { code = λ p. refl; pool = refl; right = h; nest = omega arith; sort = refl }
one_call call_count (fun f) a h = absurd (false≢true a)
one_call call_length (lit l) a h = record { code = λ p. refl; pool = refl; right = h; nest = omega arith; sort = refl }
one_call call_length (qry q) a h = record { code = λ p. refl; pool = refl; right = both_true (singular_of (is_singular q) a) h; nest = omega arith; sort = refl }
one_call call_length (fun f) a h = record { code = λ p. refl; pool = refl; right = h; nest = omega arith; sort = refl }
one_call call_value (lit l) a h = absurd (false≢true a)
one_call call_value (qry q) a h = record { code = λ p. refl; pool = refl; right = h; nest = omega arith; sort = refl }
one_call call_value (fun f) a h = absurd (false≢true a)

-- what allowed calls make of an operand
pub record AllCalls (cs : List Call) (x : Operand) : Type 0 where
  pub code : (p : ℕ) → code_operand (called_all cs x) p ≡ code_operand x p ++ code_calls cs
  pub pool : pool_operand (called_all cs x) ≡ pool_operand x
  pub right : operand_right (called_all cs x) ≡ true
  pub nest : nesting_operand (called_all cs x) ≡ nesting_operand x + length cs
  pub sort : sort_operand (called_all cs x) ≡ sort_calls (sort_operand x) cs

pub sort_three : (cs : List Call) → sort_calls 3 cs ≡ 3
sort_three [] = refl
sort_three (c ∷ cs) = refl

pub all_calls : (cs : List Call) (x : Operand) → calls_right (sort_operand x) cs ≡ true → operand_right x ≡ true → AllCalls cs x
all_calls [] x a h = record { code = λ p. sym (append-nil (code_operand x p)); pool = refl; right = h; nest = omega arith; sort = refl }
all_calls (c ∷ cs) x a h =
    let o = one_call c x (and_left (allowed (sort_operand x) c) (calls_right 3 cs) a) h in
    let b : calls_right (sort_operand (called c x)) cs ≡ true = rw o.sort (and_right (allowed (sort_operand x) c) (calls_right 3 cs) a) in
    let k = all_calls cs (called c x) b o.right in
    let y = o.nest in
    let z = k.nest in
    record {
      code = λ p. k.code p ∙ ap (λ d. d ++ code_calls cs) (o.code p) ∙ append_assoc (code_operand x p) (call_byte c ∷ []) (code_calls cs);
      pool = k.pool ∙ o.pool;
      right = k.right;
      nest = omega arith;
      sort = k.sort ∙ ap (λ σ. sort_calls σ cs) o.sort ∙ sort_three cs;
    }

-- every right operand is a literal or a query with allowed calls on it
pub record Calls (x : Operand) : Type 0 where
  pub basis : Basis
  pub calls : List Call
  pub is : x ≡ called_all calls (as_operand basis)
  pub allow : calls_right (sort_operand (as_operand basis)) calls ≡ true
  pub right : operand_right (as_operand basis) ≡ true

one_or_none : (b : Bool) → leb (cond b 1 0) 1 ≡ true
one_or_none true = refl
one_or_none false = refl

mutual
  unfolding function_right argument_right

  calls_on : (f : Function) (cs : List Call) → calls_right 3 cs ≡ true → function_right f ≡ true → Calls (called_all cs (fun f))
  calls_on (count_of q) cs a h = record { basis = basis_query q; calls = call_count ∷ cs; is = refl; allow = both_true (one_or_none (is_singular q)) a; right = h }
  calls_on (value_of q) cs a h = record { basis = basis_query q; calls = call_value ∷ cs; is = refl; allow = both_true (one_or_none (is_singular q)) a; right = h }
  calls_on (length_of x) cs a h = length_on x cs a h

  length_on : (x : Argument) (cs : List Call) → calls_right 3 cs ≡ true → argument_right x ≡ true → Calls (called_all cs (fun (length_of x)))
  length_on (literal l) cs a h = record { basis = basis_literal l; calls = call_length ∷ cs; is = refl; allow = a; right = h }
  length_on (singular q) cs a h = record { basis = basis_query q; calls = call_length ∷ cs; is = refl; allow = both_true (ap (λ b. ltb 0 (cond b 1 0)) (and_left (is_singular q) (query_right q) h)) a; right = and_right (is_singular q) (query_right q) h }
  length_on (value f) cs a h = calls_on f (call_length ∷ cs) a h

pub calls_of : (x : Operand) → operand_right x ≡ true → Calls x
calls_of (lit l) h = record { basis = basis_literal l; calls = []; is = refl; allow = refl; right = h }
calls_of (qry q) h = record { basis = basis_query q; calls = []; is = refl; allow = refl; right = h }
calls_of (fun f) h = calls_on f [] refl h

-- an operand in two pieces: what it begins with, and the calls
pub record InOperand (room : ℕ) (s l : List ℕ) (p : ℕ) (x : Operand) (r m : List ℕ) : Type 0 where
  pub basis : Basis
  pub calls : List Call
  pub plan : List ℕ
  pub is : x ≡ called_all calls (as_operand basis)
  pub first : Spelt basis_part room s l p basis plan m
  pub rest : Spelt (calls_part (nesting_operand (as_operand basis)) (sort_operand (as_operand basis))) room plan m (p + length (pool_operand (as_operand basis))) calls r m

pub into_operand : {room p : ℕ} {s l r m : List ℕ} {x : Operand} → Spelt operand_part room s l p x r m → InOperand room s l p x r m
into_operand {room} {p} {r = r} {m = m} {x = x} u =
    let v = calls_of x u.right in
    let b = as_operand v.basis in
    let k = all_calls v.calls b v.allow v.right in
    let e : nesting_operand x ≡ nesting_operand b + length v.calls = ap nesting_operand v.is ∙ k.nest in
    let f : nesting_operand x ≤ room = u.low in
    record {
      basis = v.basis;
      calls = v.calls;
      plan = code_calls v.calls ++ r;
      is = v.is;
      first = record { plan = u.plan ∙ ap (λ y. code_operand y p ++ r) v.is ∙ ap (λ d. d ++ r) (k.code p) ∙ append_assoc (code_operand b p) (code_calls v.calls) r; pool = u.pool ∙ ap (λ y. pool_operand y ++ m) v.is ∙ ap (λ d. d ++ m) k.pool; right = v.right; low = omega arith; may = refl };
      rest = record { plan = refl; pool = refl; right = v.allow; low = omega arith; may = u.may };
    }

pub from_operand : {room p q : ℕ} {s s₁ l r m : List ℕ} {b : Basis} {cs : List Call} → Spelt basis_part room s l p b s₁ m → Spelt (calls_part (nesting_operand (as_operand b)) (sort_operand (as_operand b))) room s₁ m q cs r m → Spelt operand_part room s l p (called_all cs (as_operand b)) r m
from_operand {p = p} {r = r} {m = m} {b = b} {cs = cs} u v =
    let k = all_calls cs (as_operand b) v.right u.right in
    let y = k.nest in
    let z = v.low in
    record {
      plan = u.plan ∙ ap (λ d. code_operand (as_operand b) p ++ d) v.plan ∙ sym (append_assoc (code_operand (as_operand b) p) (code_calls cs) r) ∙ ap (λ d. d ++ r) (sym (k.code p));
      pool = u.pool ∙ ap (λ d. d ++ m) (sym k.pool);
      right = k.right;
      low = omega arith;
      may = v.may;
    }

-- calls up to something else are told by their bytes
pub call_byte_same : (c d : Call) → call_byte c ≡ call_byte d → c ≡ d
call_byte_same call_count call_count e = refl
call_byte_same call_count call_length e = absurd (omega arith)
call_byte_same call_count call_value e = absurd (omega arith)
call_byte_same call_length call_count e = absurd (omega arith)
call_byte_same call_length call_length e = refl
call_byte_same call_length call_value e = absurd (omega arith)
call_byte_same call_value call_count e = absurd (omega arith)
call_byte_same call_value call_length e = absurd (omega arith)
call_byte_same call_value call_value e = refl

pub call_is : (c : Call) → is_call (call_byte c) ≡ true
call_is call_count = refl
call_is call_length = refl
call_is call_value = refl

-- what a call follows is no end of the calls
pub no_call_not : {r t : List ℕ} (c : Call) → no_call r ≡ true → r ≡ call_byte c ∷ t → ⊥
no_call_not {r} {t} c h e = true≢false (sym h ∙ ap no_call e ∙ ap not (call_is c))

pub calls_same : (r r' : List ℕ) (cs ds : List Call) → no_call r ≡ true → no_call r' ≡ true → code_calls cs ++ r ≡ code_calls ds ++ r' → cs ≡ ds
calls_same r r' [] [] a b e = refl
calls_same r r' [] (d ∷ ds) a b e = absurd (no_call_not d a e)
calls_same r r' (c ∷ cs) [] a b e = absurd (no_call_not c b (sym e))
calls_same r r' (c ∷ cs) (d ∷ ds) a b e =
    let f : call_byte c ≡ call_byte d = cc in
    let g : code_calls cs ++ r ≡ code_calls ds ++ r' = cc in
    cc (call_byte_same c d f, calls_same r r' cs ds a b g)

module _ {n : ℕ} (fits : n ≤ max_plan) (tests : Unique test_part n) where
  operand_same : {room room' p : ℕ} {s l r r' m m' : List ℕ} {x x' : Operand} → length s < suc n → length l ≤ max_plan → InOperand room s l p x r m → InOperand room' s l p x' r' m' → x ≡ x'
  operand_same {r = r} {r' = r'} a b u v =
      let e = (unique_basis fits tests).same u.basis v.basis a b u.first v.first in
      let f = plan_rest u.first v.first e in
      let g = calls_same r r' u.calls v.calls u.rest.may v.rest.may (sym u.rest.plan ∙ f ∙ v.rest.plan) in
      u.is ∙ ap (λ cs. called_all cs (as_operand u.basis)) g ∙ ap (λ y. called_all v.calls (as_operand y)) e ∙ sym v.is

  pub unique_operand : Unique operand_part (suc n)
  unique_operand = record { same = λ x x' a b u v. operand_same a b (into_operand u) (into_operand v) }

-- an operand begins with a kind in 01..13
pub operand_begins : (x : Operand) (p : ℕ) → operand_right x ≡ true → (k : ℕ) × (c : List ℕ) × (code_operand x p ≡ k ∷ c) × (1 ≤ k) × (k ≤ 0x13)
operand_begins x p h =
    let v = calls_of x h in
    let k = all_calls v.calls (as_operand v.basis) v.allow v.right in
    let b = basis_begins v.basis p in
    (b.0, b.1 ++ code_calls v.calls, ap (λ y. code_operand y p) v.is ∙ k.code p ∙ ap (λ d. d ++ code_calls v.calls) b.2, b.3, b.4)

-- ---- operands that may be compared

abbrev pub argument_operand : Argument → Operand
argument_operand (literal l) = lit l
argument_operand (singular q) = qry q
argument_operand (value f) = fun f

pub argument_code : (a : Argument) (p : ℕ) → code_argument a p ≡ code_operand (argument_operand a) p
unfolding code_argument
argument_code (literal l) p = refl
argument_code (singular q) p = refl
argument_code (value f) p = refl

pub argument_pool : (a : Argument) → pool_argument a ≡ pool_operand (argument_operand a)
unfolding pool_argument
argument_pool (literal l) = refl
argument_pool (singular q) = refl
argument_pool (value f) = refl

pub argument_nest : (a : Argument) → nesting_argument a ≡ nesting_operand (argument_operand a)
unfolding nesting_argument
argument_nest (literal l) = refl
argument_nest (singular q) = refl
argument_nest (value f) = refl

pub argument_stays_right : (a : Argument) → argument_right a ≡ true → (operand_right (argument_operand a) ≡ true) × (1 ≤ sort_operand (argument_operand a))
unfolding argument_right
argument_stays_right (literal l) h = (h, omega arith)
argument_stays_right (singular q) h = (and_right (is_singular q) (query_right q) h, rw (and_left (is_singular q) (query_right q) h) (omega arith))
argument_stays_right (value f) h = (h, omega arith)

-- an operand whose sort is not 0 is an argument
pub record AsArgument (x : Operand) : Type 0 where
  pub argument : Argument
  pub is : argument_operand argument ≡ x
  pub right : argument_right argument ≡ true

singular_by : (b : Bool) → 1 ≤ cond b 1 0 → b ≡ true
singular_by true h = refl
singular_by false h = absurd (omega arith)

pub as_argument : (x : Operand) → operand_right x ≡ true → 1 ≤ sort_operand x → AsArgument x
unfolding argument_right
as_argument (lit l) h a = record { argument = literal l; is = refl; right = h }
as_argument (qry q) h a = record { argument = singular q; is = refl; right = both_true (singular_by (is_singular q) a) h }
as_argument (fun f) h a = record { argument = value f; is = refl; right = h }

pub argument_same : (a b : Argument) → argument_operand a ≡ argument_operand b → a ≡ b
argument_same (literal l) (literal l') e = let f : l ≡ l' = cc in ap literal f
argument_same (literal l) (singular q) e = absurd (let z : ◌≡◌ {A = ℕ} 0 1 = cc in omega arith)
argument_same (literal l) (value f) e = absurd (let z : ◌≡◌ {A = ℕ} 0 1 = cc in omega arith)
argument_same (singular q) (literal l) e = absurd (let z : ◌≡◌ {A = ℕ} 0 1 = cc in omega arith)
argument_same (singular q) (singular q') e = let f : q ≡ q' = cc in ap singular f
argument_same (singular q) (value f) e = absurd (let z : ◌≡◌ {A = ℕ} 0 1 = cc in omega arith)
argument_same (value f) (literal l) e = absurd (let z : ◌≡◌ {A = ℕ} 0 1 = cc in omega arith)
argument_same (value f) (singular q) e = absurd (let z : ◌≡◌ {A = ℕ} 0 1 = cc in omega arith)
argument_same (value f) (value f') e = let g : f ≡ f' = cc in ap value g
