-- Bytes stored in a room, one part behind the other. Assumes nothing.
use Rattle.std.specs.Prelude.{◌≡◌, List, ◌++◌, ℕ, ◌+◌, length}
use Rattle.std.proofs.Common.{ap, ◌∙◌}
use Rattle.std.proofs.Math.Seq.{length-sets}
use Rattle.basics.specs.Reads.{Wrote}
use Rattle.basics.specs.Lists.{sets_append}

-- a part, and another straight behind it
pub wrote_then : {p q r : List ℕ} {n : ℕ} {c d : List ℕ} (m : ℕ) → Wrote p n c q → m ≡ n + length c → Wrote q m d r → Wrote p n (c ++ d) r
wrote_then {p} {n = n} {c = c} {d = d} m a e b = record { is = b.is ∙ rw (a.is, e) (sets_append p n c d) }

-- the room stays as long as it was
pub wrote_length : {p q : List ℕ} {n : ℕ} {c : List ℕ} → Wrote p n c q → length q ≡ length p
wrote_length {p} {n = n} {c = c} w = ap length w.is ∙ length-sets p n c
