-- Runs of stores one behind the other. Assumes nothing.
use mathlib.Core.Path.{refl, sym, ap, ◌∙◌}
use mathlib.Core.Bool.{false}
use mathlib.Core.List.{List, ◌∷◌}
use Prim.Native.Nat.{ℕ, ◌+◌}
use native.Mathlib.Numerals.{add-one}
use native.Mathlib.Omega.{arith}
use lib.ListN.{set}
use lib.Seq.{sets}
use Rattle.basics.specs.Reads.{Wrote}
use Rattle.definition.specs.Bytes.{little_endian}
use Rattle.definition.specs.Plans.{two}
use Rattle.definition_bytes.specs.Numbers.{little_endian_length}
use Rattle.basics.specs.Stores.{wrote_then}
use Rattle.compile_writes.specs.Effects.{first, join_marks}
use Rattle.parser_items.specs.Reads.{Put, Pooled}
use Rattle.parser_items.specs.Laws.{Marked, marked_then}
use Rattle.parser_items.specs.declared.Cursor.{Cursor}

-- a byte and then a run
pub set_run : {p q : List ℕ} {n x : ℕ} {c : List ℕ} → Wrote (set p n x) (n + 1) c q → Wrote p n (x ∷ c) q
set_run {p} {n = n} {x = x} {c = c} w = record { is = w.is ∙ ap (λ (k : ℕ). sets (set p n x) k c) (add-one n) }

-- a byte and two numbers of two bytes
pub pooled_put : (P : List ℕ) (a : Cursor) (kind n : ℕ) {Q R : List ℕ} → Wrote (set P a.len kind) (a.len + 1) (two a.pool) Q → Wrote Q (a.len + 3) (two n) R →
    Pooled P R a (record { at = a.at; len = a.len + 5; pool = a.pool + n; marks = a.marks }) kind n
pooled_put P a kind n g h =
    record {
      at = refl;
      len = refl;
      pool = refl;
      marks = refl;
      plan = (wrote_then {p = P} {c = kind ∷ two a.pool} (a.len + 3) (set_run {p = P} g) (omega (arith, little_endian_length 2 a.pool)) h).is;
    }

-- eight bytes at the end of the plan
pub eight_put : (P : List ℕ) (a : Cursor) (n : ℕ) {Q : List ℕ} → Wrote P a.len (little_endian 8 n) Q →
    Put P Q a (record { at = a.at; len = a.len + 8; pool = a.pool; marks = a.marks }) (little_endian 8 n)
eight_put P a n w = record { at = refl; len = ap (λ (k : ℕ). a.len + k) (sym (little_endian_length 8 n)); pool = refl; marks = refl; plan = w.is }

-- three verdicts in a row
pub marked_three : {a b c d : Cursor} {u v w : ℕ} → Marked a b (record { verdict = u; beyond = false }) → Marked b c (record { verdict = v; beyond = false }) →
    Marked c d (record { verdict = w; beyond = false }) → Marked a d (record { verdict = first u (first v w); beyond = false })
unfolding join_marks
marked_three g h k = marked_then g (marked_then h k)
