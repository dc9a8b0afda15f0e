-- What stands behind two values and asks something of both: the operator of a comparison, or match or search. It is spelled in one way.
-- Assumes nothing.
use Rattle.std.specs.Prelude.{ℕ, max, ◌+◌, ◌≤◌, ◌≡◌, refl, List, [], ◌∷◌, ◌++◌, true, ◌&&◌, length}
use Rattle.std.proofs.Common.{arith, sym, ap, ◌∙◌}
use Rattle.regex_definition.specs.Scope.{Scope, whole, part}
use Rattle.definition.specs.Forms.{Operator, Test, Argument}
use Rattle.definition.specs.Forms.Test.{compare, regex}
use Rattle.definition.specs.QueryForms.{argument_right, test_right, nesting_argument, nesting_test}
use Rattle.definition.specs.Plans.{operator_byte, scope_kind, pool_argument, pool_test, code_argument, code_test}
use Rattle.basics.specs.Lists.{differ}
use Rattle.plan_laws.specs.Parts.{Part, Unique}
use Rattle.plan_laws.specs.Leaves.{operator_of, operator_of_lem}
use Rattle.plan_laws.specs.Operands.{no_call}

pub data Relation : Type 0 where
  compares : Operator → Relation
  matches : Scope → Relation

-- the test of two values
abbrev pub related : Relation → Argument → Argument → Test
related (compares o) a b = compare o a b
related (matches c) a b = regex c a b

abbrev pub relation_code : Relation → List ℕ
relation_code (compares o) = 0x14 ∷ operator_byte o ∷ []
relation_code (matches c) = scope_kind c ∷ []

-- match and search are functions, so they count among the 128; a comparison does not
abbrev pub relation_deep : Relation → ℕ
relation_deep (compares o) = 0
relation_deep (matches c) = 1

-- the sort tells by how much a test of two values nests deeper than they do
abbrev pub relations : Part Relation
relations = record { code = λ x p. relation_code x; pool = λ x. []; right = λ x. true; nest = λ x. 0; sort = relation_deep; may = λ r. true }

pub relation_low : (x : Relation) → relation_deep x ≤ 1
relation_low (compares o) = omega arith
relation_low (matches c) = omega arith

-- ---- the test of two values, by them and by what is asked

pub related_code : (x : Relation) (a b : Argument) (p : ℕ) → code_test (related x a b) p ≡ code_argument a p ++ (code_argument b (p + length (pool_argument a)) ++ relation_code x)
unfolding code_test
related_code (compares o) a b p = refl
related_code (matches c) a b p = refl

pub related_pool : (x : Relation) (a b : Argument) → pool_test (related x a b) ≡ pool_argument a ++ pool_argument b
unfolding pool_test
related_pool (compares o) a b = refl
related_pool (matches c) a b = refl

pub related_right : (x : Relation) (a b : Argument) → test_right (related x a b) ≡ (argument_right a && argument_right b)
unfolding test_right
related_right (compares o) a b = refl
related_right (matches c) a b = refl

pub related_nest : (x : Relation) (a b : Argument) → nesting_test (related x a b) ≡ relation_deep x + max (nesting_argument a) (nesting_argument b)
unfolding nesting_test
related_nest (compares o) a b = omega arith
related_nest (matches c) a b = omega arith

-- ---- it is spelled in one way

-- behind an operand it is no further function on it
pub relation_no_call : (x : Relation) (r : List ℕ) → no_call (relation_code x ++ r) ≡ true
unfolding scope_kind
relation_no_call (compares o) r = refl
relation_no_call (matches whole) r = refl
relation_no_call (matches part) r = refl

scope_same : (c d : Scope) {s r t : List ℕ} → s ≡ scope_kind c ∷ r → s ≡ scope_kind d ∷ t → c ≡ d
unfolding scope_kind
scope_same whole whole e f = refl
scope_same whole part e f = absurd (differ 0x1C 0x1D refl e f)
scope_same part whole e f = absurd (differ 0x1D 0x1C refl e f)
scope_same part part e f = refl

-- 14 is no kind of match or search
scope_differs : (c : Scope) {s r t : List ℕ} → s ≡ scope_kind c ∷ r → s ≡ 0x14 ∷ t → ⊥
unfolding scope_kind
scope_differs whole e f = differ 0x1C 0x14 refl e f
scope_differs part e f = differ 0x1D 0x14 refl e f

pub relation_same : (x y : Relation) (r t : List ℕ) → relation_code x ++ r ≡ relation_code y ++ t → x ≡ y
relation_same (compares o) (compares o') r t e =
    let k : operator_byte o ≡ operator_byte o' = cc in
    ap compares (sym (operator_of_lem o) ∙ ap operator_of k ∙ operator_of_lem o')
relation_same (compares o) (matches c) r t e = absurd (scope_differs c e refl)
relation_same (matches c) (compares o) r t e = absurd (scope_differs c refl e)
relation_same (matches c) (matches d) r t e = ap matches (scope_same c d refl e)

pub unique_relations : (n : ℕ) → Unique relations n
unique_relations n = record { same = λ x y a b u v. relation_same x y _ _ (sym u.plan ∙ v.plan) }
