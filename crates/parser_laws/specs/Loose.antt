-- Reading up to blanks. The blanks behind a slice may belong to it or to what follows: of `[: ]` the slice is `:` or `: `. So behind a selector only the text without its blanks is settled.
use Rattle.std.specs.Prelude.{◌≡◌, List, ℕ}
use Rattle.std.proofs.Common.{ap}
use Rattle.basics.specs.Reads.{Reads}
use Rattle.parser_follow.specs.Follow.{unblank, After}

-- s is the spelling of t with r behind it, and of no tree of another meaning, or with another rest but for blanks, that may stand there
pub record Loosely {T M : Type 0} (sp : T → List ℕ → List ℕ) (me : T → M) (May : List ℕ → Type 0) (s : List ℕ) (t : T) (r : List ℕ) : Type 0 where
  pub eq : s ≡ sp t r
  pub same : (t' : T) (r' : List ℕ) → May r' → s ≡ sp t' r' → me t' ≡ me t
  pub rest : (t' : T) (r' : List ℕ) → May r' → s ≡ sp t' r' → unblank r' ≡ unblank r

-- no other rest, blanks included, may stand there
abbrev pub Exactly : {T : Type 0} (sp : T → List ℕ → List ℕ) (May : List ℕ → Type 0) (s : List ℕ) (r : List ℕ) → Type 0
Exactly {T} sp May s r = (t' : T) (r' : List ℕ) → May r' → s ≡ sp t' r' → r' ≡ r

-- what is settled wholly is settled up to blanks
pub loosely : {T M : Type 0} {sp : T → List ℕ → List ℕ} {me : T → M} {May : List ℕ → Type 0} {s : List ℕ} {t : T} {r : List ℕ} → Reads sp me May s t r → Loosely sp me May s t r
loosely o = record { eq = o.eq; same = λ t' r' a e. (o.only t' r' a e).0; rest = λ t' r' a e. ap unblank (o.only t' r' a e).1 }

-- what may follow depends on nothing but what stands behind blanks
pub after_same : (k : ℕ) {r l : List ℕ} → unblank r ≡ unblank l → After k l → After k r
after_same k e a = record { above = rw e a.above }
