-- What the steps of compile ask and give. Assumes nothing: these are definitions.
use Rattle.std.specs.Prelude.{◌≡◌, true, cond, ◌&&◌, List, ℕ, ◌*◌, ◌≤◌, ◌<◌, eqb, leb, length, take, Result, Ok, Err}
use Rattle.definition.specs.Utf8.{is_utf8}
use Rattle.definition.specs.Grammar as G
use Rattle.definition.specs.Grammar.{spell}
use Rattle.definition.specs.Outcomes.{CompileOutcome, write}
use Rattle.compile_writes.specs.Effects.{Marks}
use Rattle.compile_writes.specs.Writes.{write_query}
use Rattle.parser_items.specs.Reads.{marks_of}
use Rattle.parser_items.specs.declared.Cursor.{Cursor}

-- room enough for a query: 15 bytes of plan and one of pool for each byte
pub record Enough (s P L : List ℕ) : Type 0 where
  pub plan : 15 * length s ≤ length P
  pub pool : length s ≤ length L
  pub small : length P < 65536
  pub small_pool : length L < 65536

-- rooms of these sizes are enough
abbrev pub Sizes : List ℕ → ℕ → ℕ → Type 0
Sizes s n m = (15 * length s ≤ n) × (length s ≤ m) × (n < 65536) × (m < 65536)

-- room enough for a query that is UTF-8
pub record Rooms (s P L : List ℕ) : Type 0 where
  pub enough : Enough s P L
  pub utf8 : is_utf8 s ≡ true

-- a tree spells the whole query; P' and L' begin with what is written for it, the cursor b tells how much and the marks; and the same is written for every tree that spells it
pub record Parsed (s P' L' : List ℕ) (b : Cursor) : Type 0 where
  pub tree : G.Query
  pub spells : spell tree ≡ s
  pub only : (t' : G.Query) → spell t' ≡ s → write_query t' 0 ≡ write_query tree 0
  pub plan : take b.len P' ≡ (write_query tree 0).plan
  pub pool : take b.pool L' ≡ (write_query tree 0).pool
  pub len : b.len ≤ length P'
  pub pool_len : b.pool ≤ length L'
  pub marks : marks_of b ≡ (write_query tree 0).marks

pub data ParsePost (s P P' L L' : List ℕ) : Result Cursor ℕ → Type 0 where
  whole : {b : Cursor} → Parsed s P' L' b → ParsePost s P P' L L' (Ok b)
  none : {i : ℕ} → ((t : G.Query) → spell t ≡ s → ⊥) → ParsePost s P P' L L' (Err i)

-- the refusal that marks come to, 0 for none
abbrev pub refusal_of : Marks → ℕ
refusal_of m = cond (eqb m.verdict 0) (cond m.beyond 8 0) m.verdict

abbrev pub verdict_of : Cursor → ℕ
verdict_of b = refusal_of (marks_of b)

-- the first n bytes of the plan's room and the first m of the pool's, written where both fit
abbrev pub Delivers : List ℕ → ℕ → List ℕ → ℕ → List ℕ → List ℕ → CompileOutcome → Type 0
Delivers A n B m P L o = o ≡ write (leb n (length P) && leb m (length L)) (take n A) (take m B) P L
