-- What the reader's contracts say. A function reads a tree of one rule at the cursor's place, or there is no such tree; and it brings about what `compile_writes` says of the tree.
use Rattle.std.specs.Prelude.{◌≡◌, Bool, true, false, cond, List, ◌∷◌, ◌++◌, ℕ, ◌+◌, ◌*◌, ◌-◌, ◌%◌, ◌≤◌, ◌<◌, eqb, leb, length, drop, Result, Ok, Err}
use Rattle.std.proofs.lemmas.List.Edits.{sets}
use Rattle.definition.specs.Utf8.{is_utf8}
use Rattle.definition.specs.Grammar.{spell_operator}
use Rattle.definition.specs.Plans.{two}
use Rattle.basics.specs.Reads.{Reads, ReadsNone, StartsNot}
use Rattle.parser_scan.specs.Text.{unblank, OperatorAt}
use Rattle.compile_writes.specs.Effects.{Marks, join_marks, Effect, Writer}
use Rattle.parser_items.specs.declared.Cursor.{Cursor}
pub use Rattle.parser_follow.specs.Follow.{level_of, After}
pub use Rattle.parser_follow.specs.Numbers.{no_flag, sort_number, path_number, segments_flag, segment_flag, bracketed_flag, plain_flag, one_more_lem, arguments_from, sort_of, operand_number, Known, write_selection, name_of, sorts_from, call_marks, is_comparable, flag_of_path, brackets_number}
pub use Rattle.parser_follow.specs.Leaves.{Dotted, spell_dotted, write_dotted, dotted_flag, Plain, spell_plain, write_plain, is_plain, Constant, spell_constant, write_constant, Keyword, keyword_literal, spell_keyword, write_keyword}

-- ---- the cursor

-- what a reader answers: the cursor behind a tree and the number that is told of it; or the place where reading stopped
abbrev pub Step : Type 0
Step = Result (Cursor × ℕ) ℕ

-- the marks that a number stands for: the first verdict, and 256 more where a literal is beyond the range of literals
unfoldable pub marks_at : ℕ → Marks
marks_at n = record { verdict = n % 256; beyond = leb 256 n }

abbrev pub marks_of : Cursor → Marks
marks_of a = marks_at a.marks

-- Room for what is unread: 15 bytes of plan for each byte, and x more; one byte of pool for each byte.
pub record Asks (x : ℕ) (s P L : List ℕ) (a : Cursor) : Type 0 where
  pub text : a.at ≤ length s
  pub plan : a.len + (15 * (length s - a.at) + x) ≤ length P
  pub pool : a.pool + (length s - a.at) ≤ length L
  pub small : length P < 65536
  pub small_pool : length L < 65536
  pub utf8 : is_utf8 (drop a.at s) ≡ true

-- from the cursor a to the cursor b with the effect e, P and L being plan and pool before, P' and L' after
pub record Done (P P' L L' : List ℕ) (a b : Cursor) (e : Effect) : Type 0 where
  pub len : b.len ≡ a.len + length e.plan
  pub pool : b.pool ≡ a.pool + length e.pool
  pub plan : P' ≡ sets P a.len e.plan
  pub text : L' ≡ sets L a.pool e.pool
  pub marks : marks_of b ≡ join_marks (marks_of a) e.marks

-- A tree of a rule was read from a to b: sp spells it, w writes it, fl is the number that is told of it, k its level.
pub record Read {T : Type 0} (sp : T → List ℕ → List ℕ) (w : T → Writer) (fl : T → ℕ) (k : ℕ) (s P P' L L' : List ℕ) (a b : Cursor) (f : ℕ) : Type 0 where
  pub tree : T
  pub reads : Reads {M = Effect × ℕ} sp (λ t. (w t a.pool, fl t)) (After k) (drop a.at s) tree (drop b.at s)
  pub from : a.at ≤ b.at
  pub to : b.at ≤ length s
  pub done : Done P P' L L' a b (w tree a.pool)
  pub flag : f ≡ fl tree
  pub utf8 : is_utf8 (drop b.at s) ≡ true

pub data Post {T : Type 0} (sp : T → List ℕ → List ℕ) (w : T → Writer) (fl : T → ℕ) (k : ℕ) (s P P' L L' : List ℕ) (a : Cursor) : Step → Type 0 where
  next : {b : Cursor} {f : ℕ} → Read sp w fl k s P P' L L' a b f → Post sp w fl k s P P' L L' a (Ok (b, f))
  stop : {i : ℕ} → ReadsNone sp (After k) (drop a.at s) → Post sp w fl k s P P' L L' a (Err i)

-- The blanks behind a slice may belong to it or to what follows: of `[: ]` the slice is `:` or `: `. So of what is left behind a selector only the text without its blanks is settled.
-- All of it is settled for the trees of which the number n is told, as 1 for a name and an index.
pub record LooseRead {T : Type 0} (sp : T → List ℕ → List ℕ) (w : T → Writer) (fl : T → ℕ) (n k : ℕ) (s P P' L L' : List ℕ) (a b : Cursor) (f : ℕ) : Type 0 where
  pub tree : T
  pub eq : drop a.at s ≡ sp tree (drop b.at s)
  pub same : (t' : T) (r' : List ℕ) → After k r' → drop a.at s ≡ sp t' r' → ◌≡◌ {A = Effect × ℕ} (w t' a.pool, fl t') (w tree a.pool, fl tree)
  pub rest : (t' : T) (r' : List ℕ) → After k r' → drop a.at s ≡ sp t' r' → unblank r' ≡ unblank (drop b.at s)
  pub exact : f ≡ n → (t' : T) (r' : List ℕ) → After k r' → drop a.at s ≡ sp t' r' → r' ≡ drop b.at s
  pub from : a.at ≤ b.at
  pub to : b.at ≤ length s
  pub done : Done P P' L L' a b (w tree a.pool)
  pub flag : f ≡ fl tree
  pub utf8 : is_utf8 (drop b.at s) ≡ true

pub data LoosePost {T : Type 0} (sp : T → List ℕ → List ℕ) (w : T → Writer) (fl : T → ℕ) (n k : ℕ) (s P P' L L' : List ℕ) (a : Cursor) : Step → Type 0 where
  next : {b : Cursor} {f : ℕ} → LooseRead sp w fl n k s P P' L L' a b f → LoosePost sp w fl n k s P P' L L' a (Ok (b, f))
  stop : {i : ℕ} → ReadsNone sp (After k) (drop a.at s) → LoosePost sp w fl n k s P P' L L' a (Err i)

-- the byte x stands at the cursor's place
pub record Opens (x : ℕ) (s : List ℕ) (a : Cursor) : Type 0 where
  pub rest : List ℕ
  pub is : drop a.at s ≡ x ∷ rest

-- from a to b the bytes c were put at the end of the plan, and nothing else changed
pub record Put (P P' : List ℕ) (a b : Cursor) (c : List ℕ) : Type 0 where
  pub at : b.at ≡ a.at
  pub len : b.len ≡ a.len + length c
  pub pool : b.pool ≡ a.pool
  pub marks : marks_of b ≡ marks_of a
  pub plan : P' ≡ sets P a.len c

-- the same with a mark
pub record PutMarked (P P' : List ℕ) (a b : Cursor) (c : List ℕ) (m : Marks) : Type 0 where
  pub at : b.at ≡ a.at
  pub len : b.len ≡ a.len + length c
  pub pool : b.pool ≡ a.pool
  pub marks : marks_of b ≡ join_marks (marks_of a) m
  pub plan : P' ≡ sets P a.len c

-- there is room for n bytes of plan
abbrev pub Room : ℕ → List ℕ → Cursor → Type 0
Room n P a = a.len + n ≤ length P

-- ---- what a segment and an operator begin with

-- a comparison-op stands at the place a, or none does
abbrev pub Operates : List ℕ → ℕ → Bool → Type 0
Operates s a true = (r : ℕ) × (o : ℕ) × OperatorAt s a r o
Operates s a false = ReadsNone spell_operator (StartsNot (eqb 0x3D)) (drop a s)

-- the same answer with 0 told
abbrev pub low : Step → Step
low (Ok (b, f)) = Ok (b, 0)
low (Err i) = Err i

-- ---- names and texts

-- from a to b the item of n bytes of pool was put at the end of the plan, and the pool's end was moved behind these bytes
pub record Pooled (P P' : List ℕ) (a b : Cursor) (kind n : ℕ) : Type 0 where
  pub at : b.at ≡ a.at
  pub len : b.len ≡ a.len + 5
  pub pool : b.pool ≡ a.pool + n
  pub marks : marks_of b ≡ marks_of a
  pub plan : P' ≡ sets P a.len (kind ∷ (two a.pool ++ two n))

-- the number of a word that is a literal: 1 true, 2 false, 3 null
abbrev pub word_byte : ℕ → ℕ
word_byte n = cond (eqb n 1) 1 (cond (eqb n 2) 0 2)
