-- Evaluation segment by segment goes depth first: segments over appended lists of nodes. Assumes nothing.
use Rattle.std.specs.Prelude.{ℕ, ◌≡◌, refl, List, [], ◌∷◌, ◌++◌, map}
use Rattle.std.proofs.Common.{sym, ap, ◌∙◌, append-nil, append_assoc}
use Rattle.definition.specs.Values.{Json, Kids, id_of, to_list, children, descend, descend_all}
use Rattle.definition.specs.Values.Kids.{nil, more}
use Rattle.definition.specs.Forms.{Segments, Selectors}
use Rattle.definition.specs.Forms.Segments.{end, child, descendant}
use Rattle.definition.specs.Evaluation.{flat, eval_segments, eval_selectors}

-- the numbers of nodes
abbrev pub ids : List Json → List ℕ
ids ns = map id_of ns

-- what is given for each of two lists in turn
pub flat_append : (f : Json → List Json) (xs ys : List Json) → flat f (xs ++ ys) ≡ flat f xs ++ flat f ys
unfolding flat
flat_append f [] ys = refl
flat_append f (x ∷ xs) ys = ap (λ (l : List Json). f x ++ l) (flat_append f xs ys) ∙ sym (append_assoc (f x) (flat f xs) (flat f ys))

pub flat_flat : (f g : Json → List Json) (xs : List Json) → flat g (flat f xs) ≡ flat (λ x. flat g (f x)) xs
unfolding flat
flat_flat f g [] = refl
flat_flat f g (x ∷ xs) = flat_append g (f x) (flat f xs) ∙ ap (λ (l : List Json). flat g (f x) ++ l) (flat_flat f g xs)

-- from no node nothing is selected
pub segments_nil : (q : Segments) (r : Json) → eval_segments q r [] ≡ []
unfolding eval_segments flat
segments_nil end r = refl
segments_nil (child ss q) r = segments_nil q r
segments_nil (descendant ss q) r = segments_nil q r

-- from two lists of nodes, what each selects, in turn
pub segments_append : (q : Segments) (r : Json) (xs ys : List Json) → eval_segments q r (xs ++ ys) ≡ eval_segments q r xs ++ eval_segments q r ys
unfolding eval_segments
segments_append end r xs ys = refl
segments_append (child ss q) r xs ys = rw flat_append (segments_append q r _ _)
segments_append (descendant ss q) r xs ys = rw flat_append (segments_append q r _ _)

pub ids_append : (xs ys : List Json) → ids (xs ++ ys) ≡ ids xs ++ ids ys
ids_append [] ys = refl
ids_append (x ∷ xs) ys = ap (λ (l : List ℕ). id_of x ∷ l) (ids_append xs ys)

-- a segment from one node
pub segments_child : (ss : Selectors) (q : Segments) (r n : Json) → eval_segments (child ss q) r (n ∷ []) ≡ eval_segments q r (eval_selectors ss r n)
unfolding eval_segments flat
segments_child ss q r n = rw append-nil

pub segments_descendant : (ss : Selectors) (q : Segments) (r n : Json) → eval_segments (descendant ss q) r (n ∷ []) ≡ eval_segments q r (flat (λ m. eval_selectors ss r m) (descend n))
unfolding eval_segments flat
segments_descendant ss q r n = rw append-nil

-- ---- descent: the node, then each child's descent

descends_all : (ks : Kids) → descend_all ks ≡ flat descend (to_list ks)
unfolding descend flat to_list
descends_all nil = refl
descends_all (more k j ks) = ap (λ (l : List Json). descend j ++ l) (descends_all ks)

pub descend_children : (n : Json) → descend n ≡ n ∷ flat descend (children n)
unfolding descend children flat
descend_children (Json.null i) = refl
descend_children (Json.boolean i b) = refl
descend_children (Json.integer i z) = refl
descend_children (Json.float i x) = refl
descend_children (Json.text i s) = refl
descend_children (Json.list i ks) = ap (λ (l : List Json). Json.list i ks ∷ l) (descends_all ks)
descend_children (Json.map i ks) = ap (λ (l : List Json). Json.map i ks ∷ l) (descends_all ks)
