-- Laws of effects: joining them groups as one likes, and nothing is neutral.
use Rattle.std.specs.Prelude.{◌≡◌, refl, List, [], ℕ, ◌+◌, length}
use Rattle.std.proofs.Common.{append-nil, add-zero, length-append}
use Rattle.definition.specs.Plans.{framed}
use Rattle.compile_writes.specs.Effects.{Marks, Effect, Writer, no_marks, join, seq, bytes, mark, frame}

-- the pool of two effects
pub join_pool : (a b : Effect) → length (join a b).pool ≡ length a.pool + length b.pool
unfolding join
join_pool a b = length-append a.pool b.pool

-- bytes alone, and marks alone
abbrev pub plain : List ℕ → Effect
plain s = record { plan = s; pool = []; marks = no_marks }

abbrev pub marked : Marks → Effect
marked m = record { plan = []; pool = []; marks = m }

-- an effect with a kind and the length of its plan before it
abbrev pub within : ℕ → Effect → Effect
within kind e = record { plan = framed kind e.plan; pool = e.pool; marks = e.marks }

-- writers of bytes or marks alone leave the pool where it stands
pub seq_bytes : (s : List ℕ) (f : Writer) (p : ℕ) → seq (bytes s) f p ≡ join (plain s) (f p)
unfolding seq bytes
seq_bytes s f p = rw add-zero

pub seq_mark : (m : Marks) (f : Writer) (p : ℕ) → seq (mark m) f p ≡ join (marked m) (f p)
unfolding seq mark
seq_mark m f p = rw add-zero

pub seq_frame : (kind : ℕ) (g f : Writer) (p : ℕ) → seq (frame kind g) f p ≡ join (within kind (g p)) (f (p + length (g p).pool))
unfolding seq frame
seq_frame kind g f p = refl

pub seq_last : (f : Writer) (s : List ℕ) (p : ℕ) → seq f (bytes s) p ≡ join (f p) (plain s)
unfolding seq bytes
seq_last f s p = refl

-- bytes behind an effect leave its pool
pub last_pool : (e : Effect) (s : List ℕ) → length (join e (plain s)).pool ≡ length e.pool
unfolding join
last_pool e s = simp append-nil
