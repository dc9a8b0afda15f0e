-- Slices: from the flags and the numbers that are read to what every slice there selects. Assumes nothing.
use Rattle.std.specs.Prelude.{ℕ, ◌+◌, ◌/◌, ◌%◌, ◌≤◌, ◌<◌, ◌≡◌, refl, List, [], ◌++◌, Bool as Bits, true, false, ◌&&◌, ℤ, get_or}
use Rattle.std.proofs.Common.{sym, ap, ◌∙◌, subst, append-nil, arith}
use Rattle.std.proofs.Math.Option.{Option, none, some}
use Rattle.std.proofs.Math.Dec.{eqb}
use Rattle.std.proofs.Math.ListN.{length}
use Rattle.definition.specs.Bytes.{part, number, little_endian, signed64, unsigned64}
use Rattle.definition.specs.Limits.{max_plan}
use Rattle.definition.specs.Literals.{in_range}
use Rattle.definition.specs.Forms.{Selector}
use Rattle.definition.specs.QueryForms.{bound_right}
use Rattle.definition.specs.Plans.{eight_of, given, code_slice}
use Rattle.definition.specs.Tables.{node_count, kind_at, kind_list, child_count}
use Rattle.definition_bytes.specs.Numbers.{bound_length, range_inside}
use Rattle.basics.specs.Bools.{and_left, and_right}
use Rattle.table_laws.specs.Accepted.{Accepted}
use Rattle.slices.specs.Walks as walks
use Rattle.slices.specs.Walks.{Selects, Within, walked, places_from}
use Rattle.slices.specs.declared.Walk.{Walk}
use Rattle.eval_laws.specs.Bytes.{Holds, holds_in, holds_first, holds_second, holds_head, holds_tail, holds_at, number_at, signed_at}
use Rattle.eval_laws.specs.Items.{SelectorAt, is_slice}
use Rattle.eval_items.specs.Leaves.{AskSlice, DoneSlice, AskWalk, DoneWalk}

-- ---- one bound

-- whether there is a bound
abbrev is_given : Option ℤ → Bits
is_given none = false
is_given (some z) = true

-- a flag t and the number z of eight bytes, as the bound a: z is in range, and both together are a
record Bound (a : Option ℤ) (t : Bits) (z : ℤ) : Type 0 where
  inside : in_range z ≡ true
  is : walks.given t z ≡ a

bound_at : (P : List ℕ) (p : ℕ) (a : Option ℤ) (t : Bits) → t ≡ is_given a → bound_right a ≡ true → Holds P p (eight_of a) → Bound a t (signed64 (number (part P p 8)))
unfolding eight_of bound_right walks.given
bound_at P p none t f r h =
    let e = number_at P p 8 0 [] (omega arith) (subst (Holds P p) (sym (append-nil (little_endian 8 0))) h) in
    record { inside = ap (λ (n : ℕ). in_range (signed64 n)) e; is = ap (λ (u : Bits). walks.given u (signed64 (number (part P p 8)))) f }
bound_at P p (some z) t f r h =
    let e = signed_at P p z [] (range_inside z r) (subst (Holds P p) (sym (append-nil (little_endian 8 (unsigned64 z)))) h) in
    record { inside = ap in_range e ∙ r; is = ap (λ (u : Bits). walks.given u (signed64 (number (part P p 8)))) f ∙ ap some e }

-- the same walk selects what equal bounds say
selects_is : (n : ℕ) (w : Walk) (a b c a' b' c' : Option ℤ) → a ≡ a' → b ≡ b' → c ≡ c' → Selects n a b c w → Selects n a' b' c' w
selects_is n w a b c a' b' c' ea eb ec s = rw (← ea, ← eb, ← ec) s

-- ---- the flags: bits 0, 1, 2 say that start, stop, step are given

start_flag : (a b c : Option ℤ) → eqb ((given a 1 + given b 2 + given c 4) % 2) 1 ≡ is_given a
unfolding given
start_flag none none none = refl
start_flag none none (some z) = refl
start_flag none (some y) none = refl
start_flag none (some y) (some z) = refl
start_flag (some x) none none = refl
start_flag (some x) none (some z) = refl
start_flag (some x) (some y) none = refl
start_flag (some x) (some y) (some z) = refl

stop_flag : (a b c : Option ℤ) → eqb ((given a 1 + given b 2 + given c 4) / 2 % 2) 1 ≡ is_given b
unfolding given
stop_flag none none none = refl
stop_flag none none (some z) = refl
stop_flag none (some y) none = refl
stop_flag none (some y) (some z) = refl
stop_flag (some x) none none = refl
stop_flag (some x) none (some z) = refl
stop_flag (some x) (some y) none = refl
stop_flag (some x) (some y) (some z) = refl

step_flag : (a b c : Option ℤ) → eqb ((given a 1 + given b 2 + given c 4) / 4) 1 ≡ is_given c
unfolding given
step_flag none none none = refl
step_flag none none (some z) = refl
step_flag none (some y) none = refl
step_flag none (some y) (some z) = refl
step_flag (some x) none none = refl
step_flag (some x) none (some z) = refl
step_flag (some x) (some y) none = refl
step_flag (some x) (some y) (some z) = refl

-- ---- the whole slice

module _ (P : List ℕ) (p : ℕ) where
  -- what is read of the slice at p: whether a bound is given, and its value
  abbrev pub has_start : Bits
  has_start = eqb (get_or P (p + 1) 0 % 2) 1

  abbrev pub has_stop : Bits
  has_stop = eqb (get_or P (p + 1) 0 / 2 % 2) 1

  abbrev pub has_step : Bits
  has_step = eqb (get_or P (p + 1) 0 / 4) 1

  abbrev pub start_at : ℤ
  start_at = signed64 (number (part P (p + 2) 8))

  abbrev pub stop_at : ℤ
  stop_at = signed64 (number (part P (p + 10) 8))

  abbrev pub step_at : ℤ
  step_at = signed64 (number (part P (p + 18) 8))

  -- each is that of the slice that stands there
  record Read (a b c : Option ℤ) : Type 0 where
    bound : p + 26 ≤ length P
    start : Bound a has_start start_at
    stop : Bound b has_stop stop_at
    step : Bound c has_step step_at

  read : (a b c : Option ℤ) → Holds P p (code_slice a b c) → (bound_right a && (bound_right b && bound_right c)) ≡ true → Read a b c
  unfolding code_slice
  read a b c h r =
      let h1 = holds_tail P p _ _ h in
      let h2 = holds_at P (p + 1 + 1) (p + 2) _ (omega arith) (holds_tail P (p + 1) _ _ h1) in
      let la = bound_length a in
      let lb = bound_length b in
      let lc = bound_length c in
      let h3 = holds_at P (p + 2 + length (eight_of a)) (p + 10) _ (omega arith) (holds_second P (p + 2) (eight_of a) (eight_of b ++ eight_of c) h2) in
      let h4 = holds_at P (p + 10 + length (eight_of b)) (p + 18) _ (omega arith) (holds_second P (p + 10) (eight_of b) (eight_of c) h3) in
      let i = holds_in P (p + 18) (eight_of c) h4 in
      let f = (holds_head P (p + 1) _ _ h1).1 in
      let rs = and_right (bound_right a) (bound_right b && bound_right c) r in
      record {
        bound = omega arith;
        start = bound_at P (p + 2) a has_start (ap (λ (t : ℕ). eqb (t % 2) 1) f ∙ start_flag a b c) (and_left (bound_right a) (bound_right b && bound_right c) r) (holds_first P (p + 2) (eight_of a) (eight_of b ++ eight_of c) h2);
        stop = bound_at P (p + 10) b has_stop (ap (λ (t : ℕ). eqb (t / 2 % 2) 1) f ∙ stop_flag a b c) (and_left (bound_right b) (bound_right c) rs) (holds_first P (p + 10) (eight_of b) (eight_of c) h3);
        step = bound_at P (p + 18) c has_step (ap (λ (t : ℕ). eqb (t / 4) 1) f ∙ step_flag a b c) (and_right (bound_right b) (bound_right c) rs) h4;
      }

  -- what the code may read, and that the numbers are in range
  pub record Slice : Type 0 where
    pub bound : p + 26 ≤ length P
    pub start : in_range start_at ≡ true
    pub stop : in_range stop_at ≡ true
    pub step : in_range step_at ≡ true

  pub slice_room : (n : ℕ) → AskSlice P p n → Slice
  slice_room n a =
      let w = read a.a a.b a.c a.holds a.right in
      record { bound = w.bound; start = w.start.inside; stop = w.stop.inside; step = w.step.inside }

  -- a walk that selects what flags and numbers say selects what every slice there says
  pub done_slice : (n : ℕ) (x y z : ℤ) → x ≡ start_at → y ≡ stop_at → z ≡ step_at → (w : Walk) → Selects n (walks.given has_start x) (walks.given has_stop y) (walks.given has_step z) w → DoneSlice P p n w
  done_slice n x y z ex ey ez w s = λ a b c h r.
      let d = read a b c h r in
      selects_is n w _ _ _ a b c (ap (walks.given has_start) ex ∙ d.start.is) (ap (walks.given has_stop) ey ∙ d.stop.is) (ap (walks.given has_step) ez ∙ d.step.is) s

-- ---- a slice of a node

-- a walk with no place left
abbrev pub empty_walk : Walk
empty_walk = record { at = 0; left = 0; step = 0; down = false }

module _ (P S : List ℕ) (p i : ℕ) where
  -- of another node than a list no place is left
  pub walk_else : (kind_at S i ≡ kind_list → ⊥) → DoneWalk P S p i empty_walk
  unfolding walked places_from Within
  walk_else n = record { of_list = λ e. absurd (n e); of_other = λ _. refl; inside = record { within = tt } }

  -- of a list the walk is that of the slice
  pub walk_list : AskWalk P S p i → kind_at S i ≡ kind_list → (c : ℕ) → c ≡ child_count S i → (w : Walk) → DoneSlice P p c w → DoneWalk P S p i w
  walk_list a e c u w d =
      let f = subst (λ (z : ℕ). DoneSlice P p z w) u d in
      let g = a.ask in
      record { of_list = λ _. f; of_other = λ n. absurd (n e); inside = (f g.a g.b g.c g.holds g.right).inside }

  -- the count that was read is that of the node
  pub ask_count : AskWalk P S p i → (c : ℕ) → c ≡ child_count S i → AskSlice P p c
  ask_count a c u = subst (AskSlice P p) (sym u) a.ask

-- what the place of a slice and its table give is enough to ask for the walk
pub ask_walk : (P L S X : List ℕ) → length P ≤ max_plan → length L ≤ max_plan → Accepted S X → (p i k : ℕ) → i < node_count S → (x : Selector) → SelectorAt P L p k x → get_or P p 0 ≡ 7 → AskWalk P S p i
ask_walk P L S X few_p few_l tab p i k h x at e =
    let d = is_slice P L few_p few_l p k x at e in
    record { node_in = h; ask = record { few = omega (arith, tab.inside i h, tab.size.few); a = d.a; b = d.b; c = d.c; holds = d.holds; right = d.right } }
