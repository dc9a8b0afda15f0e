-- match and search (document 02, W4): when a test of them holds, said by the textbook relation of words and expressions; what a filter of such a test keeps; and that 7 is given
-- by no operation. Assumes nothing.
use Rattle.std.specs.Prelude.{ℕ, ◌↔◌, ◌⊎◌, ◌≡◌, refl, List, [], ◌∷◌, map, Bool, true, false, cond, not, ◌&&◌, eqb}
use Rattle.std.proofs.Common.{inl, inr, ap, sym, subst, ◌∙◌, append-nil, true≢false, eq-eqb}
use Rattle.std.proofs.Math.Path.{subst⁻¹}
use Rattle.std.proofs.lemmas.Bool.{false≢true}
use Rattle.regex_definition.specs.Regexp.{Regexp, Describes}
use Rattle.regex_definition.specs.Scope.{Scope, part, widen, Part, part_of, of_part}
use Rattle.definition.specs.Values.{Json, id_of, children}
use Rattle.definition.specs.Compare.{Value}
use Rattle.definition.specs.Compare.Value.{nothing}
use Rattle.definition.specs.Forms.{Argument, Query}
use Rattle.definition.specs.Forms.Start.{root}
use Rattle.definition.specs.Forms.Query.{query}
use Rattle.definition.specs.Forms.Segments.{end, child}
use Rattle.definition.specs.Forms.Selectors.{one}
use Rattle.definition.specs.Forms.Selector.{filter}
use Rattle.definition.specs.Forms.Test.{regex}
use Rattle.definition.specs.Regexps.{regex_text, regex_values}
use Rattle.definition.specs.Evaluation.{flat, keep, selected, eval_query, eval_segments, eval_selectors, eval_selector, eval_test, eval_argument}
use Rattle.regex_laws.specs.Bytes.{Holds, test_holds}
use Rattle.promises_stated.specs.Refusals.{Rule, First}

-- ---- when match and search hold

-- Two values of which match, for the scope whole, or search, for the scope part, holds: both are texts, and the second is an expression, in at most 1,024 bytes, whose meaning,
-- widened for search, describes the first. Holds (regex_laws/specs/Bytes.antt) has the last part.
pub record Matches (c : Scope) (v w : Value) : Type 0 where
  pub text : List ℕ
  pub expression : List ℕ
  pub is_text : v ≡ Value.text text
  pub is_expression : w ≡ Value.text expression
  pub holds : Holds c text expression

-- from the test to the relation: a value that is no text gives false
text_matches : (c : Scope) (t : List ℕ) (w : Value) → regex_text c t w ≡ true → Matches c (Value.text t) w
unfolding regex_text
text_matches c t nothing e = absurd (false≢true e)
text_matches c t Value.null e = absurd (false≢true e)
text_matches c t (Value.boolean b) e = absurd (false≢true e)
text_matches c t (Value.integer z) e = absurd (false≢true e)
text_matches c t (Value.float x) e = absurd (false≢true e)
text_matches c t (Value.text s) e = record { text = t; expression = s; is_text = refl; is_expression = refl; holds = (test_holds c t s).0 e }
text_matches c t (Value.list ks) e = absurd (false≢true e)
text_matches c t (Value.map ks) e = absurd (false≢true e)

values_match : (c : Scope) (v w : Value) → regex_values c v w ≡ true → Matches c v w
unfolding regex_values
values_match c nothing w e = absurd (false≢true e)
values_match c Value.null w e = absurd (false≢true e)
values_match c (Value.boolean b) w e = absurd (false≢true e)
values_match c (Value.integer z) w e = absurd (false≢true e)
values_match c (Value.float x) w e = absurd (false≢true e)
values_match c (Value.text t) w e = text_matches c t w e
values_match c (Value.list ks) w e = absurd (false≢true e)
values_match c (Value.map ks) w e = absurd (false≢true e)

-- and back
matching_values : (c : Scope) (v w : Value) → Matches c v w → regex_values c v w ≡ true
unfolding regex_values regex_text
matching_values c v w m = rw (m.is_text, m.is_expression) ((test_holds c m.text m.expression).1 m.holds)

-- THE STATEMENT OVER BOTH: a test of match or search, at the node n with `$` meaning r, holds exactly where the values of its two arguments are so.
pub test_matches : (c : Scope) (a b : Argument) (r n : Json) → (eval_test (regex c a b) r n ≡ true) ↔ Matches c (eval_argument a r n) (eval_argument b r n)
unfolding eval_test
test_matches c a b r n = (values_match c (eval_argument a r n) (eval_argument b r n), matching_values c (eval_argument a r n) (eval_argument b r n))

-- "search any part of it": what a widened expression describes has a part that the expression describes, and nothing else has
pub any_part : (x : Regexp) (w : List ℕ) → Describes (widen part x) w ↔ Part (Describes x) w
any_part x w = (part_of x w, of_part x w)

-- ---- what a filter of such a test keeps

-- x is in a list
abbrev pub In : {A : Type 0} → A → List A → Type 0
In x [] = ⊥
In x (y ∷ l) = (x ≡ y) ⊎ In x l

-- what is kept is what is there and passes the test
keep_in : (p : Json → Bool) (ns : List Json) (m : Json) → In m (keep p ns) → In m ns × (p m ≡ true)
unfolding keep
keep_in p [] m h = absurd h
keep_in p (n ∷ ns) m h = by (p n) refl (keep_in p ns m) h
  where
    by : (b : Bool) → p n ≡ b → (In m (keep p ns) → In m ns × (p m ≡ true)) → In m (cond b (n ∷ keep p ns) (keep p ns)) → In m (n ∷ ns) × (p m ≡ true)
    by true e go (inl f) = (inl f, ap p f ∙ e)
    by true e go (inr g) = let r = go g in (inr r.0, r.1)
    by false e go g = let r = go g in (inr r.0, r.1)

in_keep : (p : Json → Bool) (ns : List Json) (m : Json) → In m ns → p m ≡ true → In m (keep p ns)
unfolding keep
in_keep p [] m h t = h
in_keep p (n ∷ ns) m h t = by (p n) refl (λ g. in_keep p ns m g t) h
  where
    by : (b : Bool) → p n ≡ b → (In m ns → In m (keep p ns)) → In m (n ∷ ns) → In m (cond b (n ∷ keep p ns) (keep p ns))
    by true e go (inl f) = inl f
    by true e go (inr g) = inr (go g)
    by false e go (inl f) = absurd (true≢false (sym t ∙ ap p f ∙ e))
    by false e go (inr g) = go g

-- and a number is listed where it is a node's
map_in : (ns : List Json) (i : ℕ) → In i (map id_of ns) → (m : Json) × In m ns × (i ≡ id_of m)
map_in [] i h = absurd h
map_in (n ∷ ns) i (inl f) = (n, inl refl, f)
map_in (n ∷ ns) i (inr g) = let r = map_in ns i g in (r.0, inr r.1, r.2)

in_map : (ns : List Json) (i : ℕ) (m : Json) → In m ns → i ≡ id_of m → In i (map id_of ns)
in_map [] i m h e = h
in_map (n ∷ ns) i m (inl f) e = inl (e ∙ ap id_of f)
in_map (n ∷ ns) i m (inr g) e = inr (in_map ns i m g e)

-- the form of `$[?match(a,b)]` and `$[?search(a,b)]`
abbrev pub asking : Scope → Argument → Argument → Query
asking c a b = query root (child (one (filter (regex c a b))) end)

-- a child of the root with the number i, for which both arguments are so
pub record Asked (c : Scope) (a b : Argument) (t : Json) (i : ℕ) : Type 0 where
  pub node : Json
  pub child : In node (children t)
  pub number : i ≡ id_of node
  pub matches : Matches c (eval_argument a t node) (eval_argument b t node)

asked_nodes : (c : Scope) (a b : Argument) (t : Json) → selected (asking c a b) t ≡ map id_of (keep (λ m. eval_test (regex c a b) t m) (children t))
unfolding selected eval_query eval_segments eval_selectors eval_selector flat
asked_nodes c a b t = ap (map id_of) (append-nil (keep (λ m. eval_test (regex c a b) t m) (children t)))

-- They are exactly what is selected.
pub asking_selects : (c : Scope) (a b : Argument) (t : Json) (i : ℕ) → In i (selected (asking c a b) t) ↔ Asked c a b t i
asking_selects c a b t i = (there, back)
  where
    p : Json → Bool
    p m = eval_test (regex c a b) t m

    there : In i (selected (asking c a b) t) → Asked c a b t i
    there h =
        let r = map_in (keep p (children t)) i (subst (In i) (asked_nodes c a b t) h) in
        let k = keep_in p (children t) r.0 r.1 in
        record { node = r.0; child = k.0; number = r.2; matches = (test_matches c a b t r.0).0 k.1 }

    back : Asked c a b t i → In i (selected (asking c a b) t)
    back x =
        subst⁻¹ (In i) (asked_nodes c a b t)
        (in_map (keep p (children t)) i x.node (in_keep p (children t) x.node x.child ((test_matches c a b t x.node).1 x.matches)) x.number)

-- ---- 7 is given by no operation

-- whether n is neither 0 nor the number of a rule
abbrev pub avoids : List Rule → ℕ → Bool
avoids [] n = not (eqb n 0)
avoids (r ∷ rs) n = not (eqb n r.number) && avoids rs n

both_not : (a b : Bool) → (not a && b) ≡ true → (a ≡ false) × (b ≡ true)
both_not true b e = absurd (false≢true e)
both_not false b e = (refl, e)

-- then it is first in no case
pub never_first : (rs : List Rule) (n : ℕ) → avoids rs n ≡ true → First rs n → ⊥
never_first [] n h e = false≢true (ap not (sym (eq-eqb n 0 e)) ∙ h)
never_first (r ∷ rs) n h (inl f) = true≢false (sym (eq-eqb n r.number f.0) ∙ (both_not (eqb n r.number) (avoids rs n) h).0)
never_first (r ∷ rs) n h (inr f) = never_first rs n (both_not (eqb n r.number) (avoids rs n) h).1 f.1
