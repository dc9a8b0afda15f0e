-- What the readers of plan items answer. A reader is handed a plan S, a pool L, a place in each, and how many more items may stand around one.
-- It answers that a part of a query form is spelled there, and where the plan and the pool stand behind it, or that no part of its kind is.
use Rattle.std.specs.Prelude.{ℕ, ◌+◌, ◌-◌, ◌≤◌, ◌<◌, ◌≡◌, List, [], ◌∷◌, ◌++◌, Bool, true, false, cond, eqb, ℤ, length, drop}
use Rattle.std.proofs.Math.Option.{Option}
use Rattle.definition.specs.Limits.{max_plan, max_nesting}
use Rattle.definition.specs.QueryForms.{bound_right}
use Rattle.definition.specs.Plans.{eight_of}
use Rattle.text.specs.Words.{Word}
use Rattle.plan_laws.specs.Parts.{Part, Spelt}
use Rattle.plan_laws.specs.Leaves.{bit}
use Rattle.plan_laws.specs.Operands.{Call, call_count, call_length, call_value, calls_part}
use Rattle.plan_items.specs.declared.Got.{Got}
use Rattle.std.specs.Prelude.{Option as Answer, Some, None}

-- the kind of the item that a plan begins with, 0 at its end
abbrev pub first_byte : List ℕ → ℕ
first_byte [] = 0
first_byte (c ∷ s) = c

-- k is the kind at a place of the plan
pub record Kind (S : List ℕ) (at k : ℕ) : Type 0 where
  pub is : k ≡ first_byte (drop at S)

-- where a reader may begin
pub record Asks (S L : List ℕ) (at p room : ℕ) : Type 0 where
  pub plan : at ≤ length S
  pub pool : p ≤ length L
  pub small : length S ≤ max_plan
  pub few : length L ≤ max_plan
  pub deep : room ≤ max_nesting

-- where a reader of a text may begin
pub record Within (S L : List ℕ) (at p : ℕ) : Type 0 where
  pub plan : at ≤ length S
  pub pool : p ≤ length L
  pub few : length L ≤ max_plan

-- a part that is spelled from one place to another, how deep it nests and its sort
pub record Read {X : Type 0} (F : Part X) (room : ℕ) (S L : List ℕ) (at p : ℕ) (g : Got) : Type 0 where
  pub form : X
  pub spelt : Spelt F room (drop at S) (drop p L) p form (drop g.at S) (drop g.p L)
  pub from : at ≤ g.at
  pub to : g.at ≤ length S
  pub grown : g.p ≡ p + length (F.pool form)
  pub held : g.p ≤ length L
  pub nest : g.h ≡ F.nest form
  pub sort : g.sort ≡ F.sort form

-- no part is spelled at a place
pub record NoPart {X : Type 0} (F : Part X) (room : ℕ) (S L : List ℕ) (at p : ℕ) : Type 0 where
  pub none : (x : X) (r m : List ℕ) → Spelt F room (drop at S) (drop p L) p x r m → ⊥

pub data Post {X : Type 0} (F : Part X) (room : ℕ) (S L : List ℕ) (at p : ℕ) : Answer Got → Type 0 where
  next : {g : Got} → Read F room S L at p g → Post F room S L at p (Some g)
  stop : NoPart F room S L at p → Post F room S L at p None

-- the same for parts that hold no other part: however many items stand around
pub record AnyRoom {X : Type 0} (F : Part X) (S L : List ℕ) (at p : ℕ) (r : Answer Got) : Type 0 where
  pub any : (room : ℕ) → Post F room S L at p r

-- and for parts without texts: whatever the pool
pub record AnyPool {X : Type 0} (F : Part X) (S : List ℕ) (at p : ℕ) (r : Answer Got) : Type 0 where
  pub any : (L : List ℕ) (room : ℕ) → p ≤ length L → Post F room S L at p r

-- what is answered of the eight bytes of a number that is tested: too few bytes are left, or the answer of the test decides
pub data Eight (answers : ℕ → Bool → Type 0) (sort : ℕ) (S : List ℕ) (at p : ℕ) : Answer Got → Type 0 where
  short : length S - at < 8 → Eight answers sort S at p None
  failed : {n : ℕ} → 8 ≤ length S - at → Word 8 S at n → answers n false → Eight answers sort S at p None
  passed : {n : ℕ} → 8 ≤ length S - at → Word 8 S at n → answers n true → Eight answers sort S at p (Some (record { at = at + 8; p = p; h = 0; sort = sort }))

-- eight bytes that are a bound, given or absent
pub record BoundAt (S : List ℕ) (at flag : ℕ) : Type 0 where
  pub bound : Option ℤ
  pub is : drop at S ≡ eight_of bound ++ drop (at + 8) S
  pub right : bound_right bound ≡ true
  pub given : bit bound ≡ flag

pub record NoBound (S : List ℕ) (at flag : ℕ) : Type 0 where
  pub none : (o : Option ℤ) (r : List ℕ) → bit o ≡ flag → bound_right o ≡ true → drop at S ≡ eight_of o ++ r → ⊥

pub data IsBound (S : List ℕ) (at flag : ℕ) : Bool → Type 0 where
  bound : BoundAt S at flag → IsBound S at flag true
  no_bound : NoBound S at flag → IsBound S at flag false

-- the call of a byte in 19..1B
unfoldable pub call_of : ℕ → Call
call_of k = cond (eqb k 0x1A) call_length (cond (eqb k 0x19) call_count call_value)

-- the calls on an operand that was read, whatever the pool
pub record PostCalls (S : List ℕ) (g : Got) (room : ℕ) (r : Answer Got) : Type 0 where
  pub any : (L : List ℕ) → g.p ≤ length L → Post (calls_part g.h g.sort) room S L g.at g.p r
