-- What reading a part of a query brings about: bytes for the plan, bytes for the pool, and marks for the refusals 4, 5, 6 and 8.
-- A writer tells this for the place at which the pool stands when the part begins.
use Rattle.std.specs.Prelude.{ℕ, ◌+◌, List, [], ◌∷◌, ◌++◌, Bool, false, cond, ◌||◌, eqb, length}
use Rattle.definition.specs.Plans.{two, pooled, framed}

-- the first of 4, 5, 6 in the walk, 0 for none; whether a literal is beyond the range of literals
pub record Marks : Type 0 where
  pub verdict : ℕ
  pub beyond : Bool

abbrev pub no_marks : Marks
no_marks = record { verdict = 0; beyond = false }

-- the first refusal stands
abbrev pub first : ℕ → ℕ → ℕ
first a b = cond (eqb a 0) b a

unfoldable pub join_marks : Marks → Marks → Marks
join_marks m n = record { verdict = first m.verdict n.verdict; beyond = m.beyond || n.beyond }

pub record Effect : Type 0 where
  pub plan : List ℕ
  pub pool : List ℕ
  pub marks : Marks

unfoldable pub join : Effect → Effect → Effect
join e f = record { plan = e.plan ++ f.plan; pool = e.pool ++ f.pool; marks = join_marks e.marks f.marks }

abbrev pub Writer : Type 0
Writer = ℕ → Effect

-- nothing
unfoldable pub skip : Writer
skip p = record { plan = []; pool = []; marks = no_marks }

-- bytes for the plan alone
unfoldable pub bytes : List ℕ → Writer
bytes s p = record { plan = s; pool = []; marks = no_marks }

-- a name or a text: its item, and its bytes for the pool
unfoldable pub pooling : ℕ → List ℕ → Writer
pooling kind s p = record { plan = pooled kind p s; pool = s; marks = no_marks }

unfoldable pub mark : Marks → Writer
mark m p = record { plan = []; pool = []; marks = m }

abbrev pub verdict : ℕ → Writer
verdict n = mark (record { verdict = n; beyond = false })

-- one after the other: the second begins where the first left the pool
unfoldable pub seq : Writer → Writer → Writer
seq f g p = join (f p) (g (p + length (f p).pool))

-- with a kind and the length of its code before it
unfoldable pub frame : ℕ → Writer → Writer
frame kind f p = record { plan = framed kind (f p).plan; pool = (f p).pool; marks = (f p).marks }

-- with a kind and a count before it
unfoldable pub counted : ℕ → ℕ → Writer → Writer
counted kind n f p = record { plan = kind ∷ (two n ++ (f p).plan); pool = (f p).pool; marks = (f p).marks }
