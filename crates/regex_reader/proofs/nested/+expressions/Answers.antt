-- The answers of the cycle of calls {alts, atom, branch, piece}.
use lib.ListN.{length-set}
use Rattle.basics.specs.Stores.{wrote_length}
use borrow.Author.Tests.{not-true, not-false}
use Rattle.regex_reader.proofs.OfNested.{read_is, alternating_none, alts_none, alts_last, alts_more, room_alts, room_insert, atom_leaf, atom_none, atom_group, atom_open, room_on, branching_none, branch_end, branch_none, branch_more, begun, room_branch, room_piece, piece_none, piece_of, piece_stop, room_repeat}
use borrow.Author.Rules.{Fits-under, rules}
use native.Mathlib.Omega.{arith}
use mathlib.Core.Path.{◌∙◌, sym, ap}
use mathlib.Core.Bool.{not}
use Rattle.regex_reader.proofs.nested.+expressions.Goals as goal

-- alts
pub alts-loop-n-init : goal.alts-loop-n-init
alts-loop-n-init t c = alternating_none _ _ c.args.st c.requires.text

-- alts
pub alts-branch-s-requires : goal.alts-branch-s-requires
alts-branch-s-requires t c = (omega (arith, c.decreases, c.loop-n.invariant.from, c.loop-n.invariant.to), room_alts c.requires c.loop-n.invariant)

-- alts
pub alts-shape_of-code-in_err-n : goal.alts-shape_of-code-in_err-n
alts-shape_of-code-in_err-n t c = let l = wrote_length c.loop-n.invariant.buf in search (rules, l)

-- alts
pub alts-returns-in_err-n : goal.alts-returns-in_err-n
alts-returns-in_err-n t c = rw c.from_residual.ensures (alts_none c.loop-n.invariant c.in_err-n.ensures)

-- alts
pub alts-shape_of-code-then-not-is : goal.alts-shape_of-code-then-not-is
alts-shape_of-code-then-not-is t c = wrote_length (read_is c.in_ok-n.ensures).buf ∙ wrote_length c.loop-n.invariant.buf

-- alts
pub alts-returns-then-not-is : goal.alts-returns-then-not-is
alts-returns-then-not-is t c = alts_last c.loop-n.invariant (read_is c.in_ok-n.ensures) c.is.ensures (not-true c.is.result (ap not c.if-not-is.true))

-- alts
pub alts-insert-requires : goal.alts-insert-requires
alts-insert-requires t c = let r = room_insert (room_alts c.requires c.loop-n.invariant) (read_is c.in_ok-n.ensures) (c.is.ensures.inside (not-false c.is.result (ap not c.if-not-is.false))) in (r.0, let z = r.1 in omega (arith, z))

-- alts
pub alts-overflow_add-at : goal.alts-overflow_add-at
alts-overflow_add-at t c = let h = c.is.ensures.inside (not-false c.is.result (ap not c.if-not-is.false)) in Fits-under _ _ 4096 (omega (arith, h, c.requires.small)) tt

-- alts
pub alts-overflow_add-len : goal.alts-overflow_add-len
alts-overflow_add-len t c = let r = room_insert (room_alts c.requires c.loop-n.invariant) (read_is c.in_ok-n.ensures) (c.is.ensures.inside (not-false c.is.result (ap not c.if-not-is.false))) in let z = r.1 in let l = wrote_length (read_is c.in_ok-n.ensures).buf in let m = wrote_length c.loop-n.invariant.buf in search (rules, z, l, m, c.type_inv.code)

-- alts
pub alts-loop-n-smaller : goal.alts-loop-n-smaller
alts-loop-n-smaller t c = let h = c.is.ensures.inside (not-false c.is.result (ap not c.if-not-is.false)) in omega (arith, h, (read_is c.in_ok-n.ensures).from)

-- alts
pub alts-loop-n-preserved : goal.alts-loop-n-preserved
alts-loop-n-preserved t c = alts_more c.loop-n.invariant (read_is c.in_ok-n.ensures) c.is.ensures (not-false c.is.result (ap not c.if-not-is.false)) c.insert.ensures

-- atom
pub atom-leaf-requires : goal.atom-leaf-requires
atom-leaf-requires t c = c.requires

-- atom
pub atom-returns-then-not-is : goal.atom-returns-then-not-is
atom-returns-then-not-is t c = atom_leaf _ _ _ _ c.is.ensures (not-true c.is.result (ap not c.if-not-is.true)) c.leaf.ensures

-- atom
pub atom-alts-requires : goal.atom-alts-requires
atom-alts-requires t c = (omega (arith, c.requires.1, c.decreases), room_on c.requires.0 c.requires.1)

-- atom
pub atom-overflow_add-result : goal.atom-overflow_add-result
atom-overflow_add-result t c = let h = c.is-2.ensures.inside c.if-is.true in Fits-under _ _ 4096 (omega (arith, h, c.requires.0.small)) tt

-- atom
pub atom-returns-then-is : goal.atom-returns-then-is
atom-returns-then-is t c = atom_group _ _ _ _ c.is.ensures (not-false c.is.result (ap not c.if-not-is.false)) (read_is c.in_ok-n.ensures) c.is-2.ensures c.if-is.true

-- atom
pub atom-returns-in_err-n : goal.atom-returns-in_err-n
atom-returns-in_err-n t c = rw c.from_residual.ensures (atom_none _ _ _ _ c.is.ensures (not-false c.is.result (ap not c.if-not-is.false)) c.in_err-n.ensures)

-- atom
pub atom-returns : goal.atom-returns
atom-returns t c = atom_open _ _ _ _ c.is.ensures (not-false c.is.result (ap not c.if-not-is.false)) (read_is c.in_ok-n.ensures) c.is-2.ensures c.if-is.false

-- branch
pub branch-loop-code-init : goal.branch-loop-code-init
branch-loop-code-init t c = branching_none _ _ c.args.st c.requires.text

-- branch
pub branch-bounds-code-len : goal.branch-bounds-code-len
branch-bounds-code-len t c = let r = room_branch c.requires c.loop-code.invariant in omega (arith, r.fits)

-- branch
pub branch-overflow_add-result : goal.branch-overflow_add-result
branch-overflow_add-result t c = let r = (room_branch c.requires c.loop-code.invariant).fits in search (rules, r)

-- branch
pub branch-shape_of-code-then-stop_at : goal.branch-shape_of-code-then-stop_at
branch-shape_of-code-then-stop_at t c = rw length-set (wrote_length c.loop-code.invariant.buf)

-- branch
pub branch-returns-then-stop_at : goal.branch-returns-then-stop_at
branch-returns-then-stop_at t c = branch_end c.loop-code.invariant (sym c.stop_at.ensures ∙ c.if-stop_at.true)

-- branch
pub branch-bounds-code-len-in-loop-code : goal.branch-bounds-code-len-in-loop-code
branch-bounds-code-len-in-loop-code t c = let r = room_branch c.requires c.loop-code.invariant in omega (arith, r.fits)

-- branch
pub branch-overflow_add-len : goal.branch-overflow_add-len
branch-overflow_add-len t c = let r = (room_branch c.requires c.loop-code.invariant).fits in search (rules, r)

-- branch
pub branch-piece-requires : goal.branch-piece-requires
branch-piece-requires t c = (omega (arith, c.decreases, c.loop-code.invariant.from, c.loop-code.invariant.to), (room_piece (room_branch c.requires c.loop-code.invariant), begun _ _ (sym c.stop_at.ensures ∙ c.if-stop_at.false)))

-- branch
pub branch-shape_of-code-in_err-n : goal.branch-shape_of-code-in_err-n
branch-shape_of-code-in_err-n t c = let l = wrote_length c.loop-code.invariant.buf in let m = length-set c.loop-code.code c.loop-code.len 2 in search (rules, l, m)

-- branch
pub branch-returns-in_err-n : goal.branch-returns-in_err-n
branch-returns-in_err-n t c = rw c.from_residual.ensures (branch_none c.loop-code.invariant (sym c.stop_at.ensures ∙ c.if-stop_at.false) c.in_err-n.ensures)

-- branch
pub branch-loop-code-smaller : goal.branch-loop-code-smaller
branch-loop-code-smaller t c = let d = (read_is c.in_ok-n.ensures) in omega (arith, d.cost, d.grown, d.from, d.to)

-- branch
pub branch-loop-code-preserved : goal.branch-loop-code-preserved
branch-loop-code-preserved t c = branch_more c.loop-code.invariant (sym c.stop_at.ensures ∙ c.if-stop_at.false) (read_is c.in_ok-n.ensures)

-- piece
pub piece-atom-requires : goal.piece-atom-requires
piece-atom-requires t c = (omega (arith, c.decreases), c.requires)

-- piece
pub piece-repeat-requires : goal.piece-repeat-requires
piece-repeat-requires t c = room_repeat c.requires.0 (read_is c.in_ok-n.ensures)

-- piece
pub piece-returns-in_err-n : goal.piece-returns-in_err-n
piece-returns-in_err-n t c = rw c.from_residual.ensures (piece_none _ _ _ _ c.in_err-n.ensures)

-- piece
pub piece-returns : goal.piece-returns
piece-returns t c = piece_of _ _ _ _ (read_is c.in_ok-n.ensures) c.in_ok-q.ensures c.repeat.ensures

-- piece
pub piece-returns-in_err-q : goal.piece-returns-in_err-q
piece-returns-in_err-q t c = rw c.from_residual-in_err-q.ensures (piece_stop _ _ _ _ (read_is c.in_ok-n.ensures) c.in_err-q.ensures)
