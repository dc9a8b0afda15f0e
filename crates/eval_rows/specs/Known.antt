-- What is known of an expression of match or search. P is the plan, L the pool. Assumes nothing.
use Rattle.std.specs.Prelude.{None, ℕ, ◌+◌, ◌-◌, ◌*◌, ◌≤◌, ◌<◌, ◌≡◌, refl, List, Bool as Bits, true, false, length, take, drop}
use Rattle.std.proofs.Common.{ap, ◌∙◌, sym, subst, arith}
use Rattle.std.proofs.lemmas.Bool.{false≢true}
use Rattle.definition.specs.Bytes.{part}
use Rattle.definition.specs.Limits.{max_plan}
use Rattle.definition.specs.Utf8.{is_utf8}
use Rattle.definition_bytes.specs.Same.{part_length}
use Rattle.regex_definition.specs.Scope.{Scope}
use Rattle.definition.specs.Regexps.{regex_test}
use Rattle.eval_items.specs.Regexes.{cut}
use Rattle.regex_match.specs.Tested.{Tested}
use Rattle.regex_states.specs.Ready.{Ready as StatesReady}
use Rattle.regex_rooms.specs.Rooms.{scope_for, Widened, IsWidened}
use Rattle.regex_rooms.proofs.Laws.{holds_none, holds_some, holds_long}
use Rattle.eval_rows.specs.declared.calls.Call.{Call}
use Rattle.eval_rows.specs.declared.turns.Known.{Known}
use Rattle.eval_rows.specs.declared.turns.Known.TheVariants.{Unread, Read, States, Outside as OutsidePart}
use Rattle.eval_rows.specs.Calls.{CallAt}

-- it is outside the part, so that nothing has it
abbrev pub Outside : Scope → List ℕ → Type 0
Outside c e = (t : List ℕ) → false ≡ regex_test c t e

pub outside_long : (c : Scope) (e : List ℕ) → 1024 < length e → Outside c e
outside_long c e h t = holds_long c t e h

pub outside_read : (c : Scope) (e : List ℕ) {q : List ℕ} → Widened c e q None → Outside c e
outside_read c e w t = holds_none c t w

-- nothing, that it is outside the part, or its code, for which the rooms may be ready
pub record Ready (c : Scope) (e code : List ℕ) (known : Known) : Type 0 where
  pub outside : known ≡ OutsidePart → Outside c e
  pub inside : (known ≡ Unread → ⊥) → (known ≡ OutsidePart → ⊥) → (t : List ℕ) (b : Bits) → is_utf8 t ≡ true → Tested code t b → b ≡ regex_test c t e

abbrev pub Held : List ℕ → List ℕ → List ℕ → Known → Type 0
Held code edges sets known = known ≡ States → StatesReady code edges sets

-- no two of them are the same
abbrev is_unread : Known → Bits
is_unread Unread = true
is_unread OutsidePart = false
is_unread Read = false
is_unread States = false

abbrev is_outside : Known → Bits
is_outside Unread = false
is_outside OutsidePart = true
is_outside Read = false
is_outside States = false

abbrev pub is_states : Known → Bits
is_states Unread = false
is_states OutsidePart = false
is_states Read = false
is_states States = true

pub held_none : {code edges sets : List ℕ} (known : Known) → is_states known ≡ false → Held code edges sets known
held_none known h e = absurd (false≢true (sym h ∙ ap is_states e))

pub rooms_enough : {p q : ℕ} → p ≡ 8192 → q ≡ 8192 → (256 ≤ p) × (256 ≤ q)
rooms_enough a b = (omega arith, omega arith)

pub ready_states : {c : Scope} {e code : List ℕ} → Ready c e code Read → Ready c e code States
ready_states r = record { outside = λ i. absurd (false≢true (ap is_outside i)); inside = λ i j. r.inside (λ u. false≢true (ap is_unread u)) (λ u. false≢true (ap is_outside u)) }

pub ready_none : (c : Scope) (e code : List ℕ) → Ready c e code Unread
ready_none c e code = record { outside = λ i. absurd (false≢true (ap is_outside i)); inside = λ i. absurd (i refl) }

pub ready_outside : (c : Scope) (e code : List ℕ) → Outside c e → Ready c e code OutsidePart
ready_outside c e code w = record { outside = λ i. w; inside = λ i j. absurd (j refl) }

pub ready_code : (c : Scope) (e : List ℕ) {q : List ℕ} (n : ℕ) → IsWidened c e q n → Ready c e (take n q) Read
ready_code c e n w = record { outside = λ i. absurd (false≢true (ap is_outside i)); inside = λ i j t b u h. holds_some c t b u w h }

-- the same of an expression that is a part of the pool
module _ (c : Scope) (L : List ℕ) (a n : ℕ) where
  cut_length : a + n ≤ length L → length (take (a + n - a) (drop a L)) ≡ n
  cut_length h = ap length (cut L a n) ∙ part_length L a n h

  pub cut_asked : (a + n ≤ length L) × (is_utf8 (part L a n) ≡ true) → {k q : ℕ} → (n ≤ k) × (8 * n + 15 ≤ q)
      → (is_utf8 (take (a + n - a) (drop a L)) ≡ true) × ((length (take (a + n - a) (drop a L)) ≤ k) × (8 * length (take (a + n - a) (drop a L)) + 15 ≤ q))
  cut_asked s r = let e = cut_length s.0 in let r0 = r.0 in let r1 = r.1 in (ap is_utf8 (cut L a n) ∙ s.1, (omega arith, omega arith))

  pub cut_outside : {q : List ℕ} → Widened c (take (a + n - a) (drop a L)) q None → Outside c (part L a n)
  cut_outside w = subst (Outside c) (cut L a n) (outside_read c _ w)

  pub cut_long : a + n ≤ length L → 1024 < n → Outside c (part L a n)
  cut_long h l = let e = part_length L a n h in outside_long c (part L a n) (omega arith)

  pub cut_code : {q : List ℕ} (k : ℕ) → IsWidened c (take (a + n - a) (drop a L)) q k → Ready c (part L a n) (take k q) Read
  cut_code {q} k w = subst (λ (e : List ℕ). Ready c e (take k q) Read) (cut L a n) (ready_code c _ k w)

-- ---- of the expression of a call

pub record Knows (P L code : List ℕ) (z : ℕ) (g : Call) (known : Known) : Type 0 where
  pub call : g.at ≤ max_plan → CallAt P z g
  pub some : g.at ≤ max_plan → known ≡ Unread → ⊥
  pub ready : Ready (scope_for g.kind) (part L g.start g.size) code known

pub knows_none : (P L code : List ℕ) (z : ℕ) (g : Call) → max_plan < g.at → Knows P L code z g Unread
knows_none P L code z g h = record { call = λ n. absurd (omega arith); some = λ n. absurd (omega arith); ready = ready_none _ _ _ }

module _ {P L code : List ℕ} {z : ℕ} {g : Call} (c : CallAt P z g) where
  pub knows : (known : Known) → is_unread known ≡ false → Ready (scope_for g.kind) (part L g.start g.size) code known → Knows P L code z g known
  knows known h r = record { call = λ n. c; some = λ n e. false≢true (sym h ∙ ap is_unread e); ready = r }

  pub knows_outside : Outside (scope_for g.kind) (part L g.start g.size) → Knows P L code z g OutsidePart
  knows_outside o = knows OutsidePart refl (ready_outside _ _ _ o)

  pub knows_read : Ready (scope_for g.kind) (part L g.start g.size) code Read → Knows P L code z g Read
  knows_read = knows Read refl

  pub knows_states : Ready (scope_for g.kind) (part L g.start g.size) code States → Knows P L code z g States
  knows_states = knows States refl
