-- The marks of a cursor as one number: what a verdict and a literal beyond the range of literals add to it. Assumes nothing.
use mathlib.Core.Path.{◌≡◌, sym}
use mathlib.Core.Logic.{◌≢◌}
use mathlib.Core.Bool.{true, false, or-false}
use Prim.Native.Nat.{ℕ, ◌+◌, ◌%◌, ◌≤◌, ◌<◌}
use native.Mathlib.Omega.{arith}
use lib.Dec.{leb}
use borrow.Author.Tests.{ne_eqb, leb-true, leb-false, le-leb, lt-leb}
use Rattle.utf8_laws.specs.Bytes.{by_test}
use Rattle.compile_writes.specs.Effects.{join_marks}
use Rattle.parser_items.specs.Reads.{marks_at}
use Rattle.compile_writes.specs.Laws.{first_none}

-- the first verdict stands
pub judge_first : (n v : ℕ) → v < 256 → n % 256 ≡ 0 → marks_at (n + v) ≡ join_marks (marks_at n) (record { verdict = v; beyond = false })
unfolding marks_at join_marks
judge_first n v l e =
    let m : (n + v) % 256 ≡ v = omega arith in
    let b : leb 256 (n + v) ≡ leb 256 n = by_test (leb 256 n) (λ t. rw t (le-leb 256 (n + v) (omega (arith, leb-true 256 n t)))) (λ f. rw f (lt-leb 256 (n + v) (omega (arith, leb-false 256 n f)))) in
    rw (m, b, e, or-false (leb 256 n))

-- a later one does not
pub judge_kept : (n v : ℕ) → n % 256 ≢ 0 → marks_at n ≡ join_marks (marks_at n) (record { verdict = v; beyond = false })
unfolding marks_at join_marks
judge_kept n v h = sym (rw (ne_eqb (n % 256) 0 h, or-false (leb 256 n)))

-- a literal beyond the range is marked once
pub beyond_first : (n : ℕ) → n < 256 → marks_at (n + 256) ≡ join_marks (marks_at n) (record { verdict = 0; beyond = true })
unfolding marks_at join_marks
beyond_first n l =
    let m : (n + 256) % 256 ≡ n % 256 = omega arith in
    rw (m, le-leb 256 (n + 256) (omega arith), lt-leb 256 n l, first_none (n % 256))

pub beyond_kept : (n : ℕ) → 256 ≤ n → marks_at n ≡ join_marks (marks_at n) (record { verdict = 0; beyond = true })
unfolding marks_at join_marks
beyond_kept n l = rw (le-leb 256 n l, first_none (n % 256))
