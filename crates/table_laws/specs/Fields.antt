-- A field of one byte is that byte of the table. Assumes nothing.
use Rattle.std.specs.Prelude.{ℕ, zero, suc, ◌+◌, ◌*◌, ◌<◌, ◌≡◌, refl, List, [], ◌∷◌, length, get_or, take, drop}
use Rattle.std.proofs.Common.{sym, ap, ◌∙◌, subst, drop-cons, arith}
use Rattle.definition.specs.Bytes.{part, number}
use Rattle.definition.specs.Limits.{record_size}
use Rattle.definition.specs.Tables.{field}

-- the number of one byte
pub byte_number : (s : List ℕ) (at : ℕ) → at < length s → number (part s at 1) ≡ get_or s at 0
unfolding number
byte_number s at h = rw (drop-cons s at 0 h) (omega arith)

-- the byte b of record i, read at its place
pub byte_field : (T : List ℕ) (i b at : ℕ) → record_size * i + b ≡ at → at < length T → get_or T at 0 ≡ field T i b 1
byte_field T i b at e h = sym (subst (λ (x : ℕ). number (part T x 1) ≡ get_or T at 0) (sym e) (byte_number T at h))
