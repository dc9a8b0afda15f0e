-- Where a returned part of a text begins. Assumes nothing.
use Rattle.std.specs.Prelude.{ℕ, ◌+◌, ◌≡◌, cond, eqb}
use Rattle.std.proofs.Common.{sym, ap₂, ◌∙◌}

-- A part p of a text t begins so many bytes into it. Both are given by where they begin in memory: a block, and a byte of it.
pub record Begins (p t : ℕ × ℕ) (at : ℕ) : Type 0 where
  pub block : p.0 ≡ t.0
  pub byte : p.1 ≡ t.1 + at

-- where the part begins that comes with a number: where the record says, or at the text's first byte with a refusal
abbrev pub part_start : ℕ → ℕ → ℕ
part_start n at = cond (eqb n 0) at 0

-- there is one such place
pub begins_one : {p q t : ℕ × ℕ} {at : ℕ} → Begins p t at → Begins q t at → p ≡ q
begins_one a b = ap₂ (λ (x y : ℕ). (x, y)) (a.block ∙ sym b.block) (a.byte ∙ sym b.byte)
