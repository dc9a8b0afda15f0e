-- What is emitted for a list of nodes, each with the rest of a query. Assumes nothing.
use Rattle.std.specs.Prelude.{ℕ, zero, suc, ◌+◌, ◌-◌, ◌≤◌, ◌<◌, min, ◌≡◌, refl, List, [], ◌∷◌, ◌++◌, length}
use Rattle.std.proofs.Common.{sym, ap, ◌∙◌, subst, arith}
use Rattle.definition.specs.Values.{Json, id_of}
use Rattle.definition.specs.Tables.{node_at, node_count}
use Rattle.definition.specs.Forms.{Segments}
use Rattle.definition.specs.Forms.Segments.{end}
use Rattle.definition.specs.Evaluation.{eval_segments}
use Rattle.table_laws.specs.Accepted.{Accepted}
use Rattle.eval_laws.specs.States.{State, st, push, emit, emit_append, emit_full, emit_bound, emit_length}
use Rattle.eval_laws.specs.Segments.{ids, segments_nil, segments_append, ids_append}
use Rattle.table_laws.specs.Nodes.{id_node}

-- what is emitted for the nodes ns, each with the rest q of a query, where `$` is r
unfoldable pub go : Segments → Json → List Json → State → State
go q r ns s = emit (ids (eval_segments q r ns)) s

pub go_nil : (q : Segments) (r : Json) (s : State) → go q r [] s ≡ s
unfolding go emit
go_nil q r s = rw segments_nil

-- depth first: all of the first nodes, then all of the others
pub go_append : (q : Segments) (r : Json) (xs ys : List Json) (s : State) → go q r (xs ++ ys) s ≡ go q r ys (go q r xs s)
unfolding go
go_append q r xs ys s = ap (λ (l : List Json). emit (ids l) s) (segments_append q r xs ys) ∙ ap (λ (l : List ℕ). emit l s) (ids_append (eval_segments q r xs) (eval_segments q r ys)) ∙ emit_append (ids (eval_segments q r xs)) (ids (eval_segments q r ys)) s

pub go_full : (q : Segments) (r : Json) (ns : List Json) (s : State) → s.next ≡ s.cap + 1 → length s.places ≤ s.cap + 1 → go q r ns s ≡ s
unfolding go
go_full q r ns s h w = emit_full (ids (eval_segments q r ns)) s h w

pub go_bound : (q : Segments) (r : Json) (ns : List Json) (s : State) → s.next ≤ s.cap + 1 → (go q r ns s).next ≤ s.cap + 1
unfolding go
go_bound q r ns s h = emit_bound (ids (eval_segments q r ns)) s h

pub go_length : (q : Segments) (r : Json) (ns : List Json) (s : State) → length (go q r ns s).places ≡ length s.places
unfolding go
go_length q r ns s = emit_length (ids (eval_segments q r ns)) s

-- at the end of a query the node's number is emitted
pub go_end : (T X : List ℕ) → Accepted T X → (r : Json) (i : ℕ) → i < node_count T → (s : State) → go end r (node_at T X i ∷ []) s ≡ push i s
unfolding go eval_segments emit
go_end T X tab r i h s = ap (λ (x : ℕ). push x s) (id_node T X tab i h)
