-- The operations of a filter's code that are no queries: each takes what is left to do further. One law serves those that give an answer (`answers`), one both kinds of right operand (`enter`, `skip`).
-- Assumes nothing.
use Rattle.std.specs.Prelude.{ℕ, ◌+◌, ◌≤◌, ◌<◌, ◌≡◌, refl, List, Bool as Bits, true, false, not, ℤ, pos, length, get_or}
use Rattle.std.proofs.Common.{sym, ◌∙◌, arith}
use Rattle.std.proofs.Math.Path.{ap}
use Rattle.definition.specs.Bytes.{part, number}
use Rattle.definition.specs.Limits.{max_plan, max_text}
use Rattle.definition.specs.Values.{Json}
use Rattle.definition.specs.Compare.{Value}
use Rattle.definition.specs.Compare.Value.{nothing}
use Rattle.definition.specs.Evaluation.{length_value}
use Rattle.definition_bytes.specs.Same.{part_length}
use Rattle.utf8_laws.specs.Scalars.{scalars_few}
use Rattle.table_laws.specs.Accepted.{Accepted}
use Rattle.eval_laws.specs.Operations.{right_kind}
use Rattle.eval_laws.specs.Todos.{Todo, todo_in, todo_to, Compared, at_compare, at_not, at_truth, at_length, Matched, at_regex, LiteralAt, at_literal, Right, at_right, past_queries, last_kind}
use Rattle.eval_values.specs.Means.{meaning, Fine, text_in, truth_in, length_in}
use Rattle.eval_values.specs.Values.{truth_means, length_means}
use Rattle.eval_values.specs.Alike.{Compares}
use Rattle.eval_values.specs.declared.Operand.{Operand}
use Rattle.eval_values.specs.declared.Operand.TheVariants.{Nothing, Null, Bool, Int, Float, Pool, Text, Node}
use Rattle.eval_items.specs.declared.Regs.{Regs}
use Rattle.eval_items.specs.Ends.{AskLiteral, DoneLiteral}
use Rattle.eval_items.specs.EndLaws.{literal_two}
use Rattle.regex_rooms.specs.Rooms.{scope_for}
use Rattle.eval_items.specs.Regexes.{regex_in, regex_means}
use Rattle.eval_items.specs.Leaves.{AskValue, DoneValue, Doing, AskOp, DoneOp}

abbrev pub regs : Bits → Operand → Operand → ℕ → Regs
regs acc x y q = record { acc = acc; x = x; y = y; q = q }

pub right_kind_is : (w : Bits) → right_kind w ≡ 0x16 → w ≡ true
unfolding right_kind
right_kind_is true e = refl
right_kind_is false e = absurd (omega arith)

pub right_kind_else : (w : Bits) → (right_kind w ≡ 0x16 → ⊥) → w ≡ false
unfolding right_kind
right_kind_else true n = absurd (n refl)
right_kind_else false n = refl

-- the byte of `&&`, and another one
pub told_and : {k : ℕ} → k ≡ 0x16 → (v : Bits) → right_kind v ≡ k → v ≡ true
told_and e v r = right_kind_is v (r ∙ e)

pub told_or : {k : ℕ} → (k ≡ 0x16 → ⊥) → (v : Bits) → right_kind v ≡ k → v ≡ false
told_or n v r = right_kind_else v (λ z. n (sym r ∙ z))

module _ {P L S X : List ℕ} {s : Regs} {lo hi : ℕ} (a : AskOp P L S X s lo hi) where
  pub op_in : s.q < length P
  op_in = todo_in P L s.q a.e a.R a.N s.acc (meaning S X L s.x) (meaning S X L s.y) a.want a.todo a.more

  -- An answer is given, and the registers hold nothing any more.
  answers : (b : Bits) (q' : ℕ) → s.q < q' → ((e : ℕ) (R N : Json) (want : Bits) → Doing P L S X s e R N want → s.q < e → Todo P L q' e R N b nothing nothing want) → DoneOp P L S X s (regs b Nothing Nothing q')
  answers b q' l goes = record { pair = record { first = tt; second = tt }; further = l; goes = goes }

  module _ (low : 0x10 ≤ lo) (high : hi ≤ 0x13) where
    literal_here : (e : ℕ) (R N : Json) (want : Bits) → Doing P L S X s e R N want → s.q < e → LiteralAt P L s.q e R N s.acc (meaning S X L s.x) (meaning S X L s.y) want
    literal_here e R N want t m = let u = a.kind_low in let v = a.kind_high in at_literal P L s.q e R N s.acc (meaning S X L s.x) (meaning S X L s.y) want t m (omega arith) (omega arith)

    pub literal_asked : AskValue P L s.q
    literal_asked = let h = literal_here a.e a.R a.N a.want a.todo a.more in record { few = a.few_l; l = h.l; k = h.k; holds = h.holds; pool = h.pool; right = h.right }

    pub literal_past : AskLiteral P s.q
    literal_past = let h = literal_here a.e a.R a.N a.want a.todo a.more in record { l = h.l; k = h.k; holds = h.holds }

    pub done_literal : (v : Operand) → DoneValue P L s.q v → (z : ℕ) → DoneLiteral P s.q z → DoneOp P L S X s (regs s.acc s.y v z)
    done_literal v d z f =
        let h = literal_here a.e a.R a.N a.want a.todo a.more in
        let e = f h.l h.k h.holds in
        record {
          pair = record { first = a.pair.second; second = (d h.l h.k h.holds h.pool h.right).fine S X };
          further = omega (arith, literal_two h.l h.k);
          goes = λ e R N want t m. let g = literal_here e R N want t m in g.then (meaning S X L v) ((d g.l g.k g.holds g.pool g.right).means S X) z (f g.l g.k g.holds);
        }

  module _ (low : 0x14 ≤ lo) (high : hi ≤ 0x14) where
    compare_here : (e : ℕ) (R N : Json) (want : Bits) → Doing P L S X s e R N want → s.q < e → Compared P L s.q e R N s.acc (meaning S X L s.x) (meaning S X L s.y) want
    compare_here e R N want t m = let u = a.kind_low in let v = a.kind_high in at_compare P L s.q e R N s.acc (meaning S X L s.x) (meaning S X L s.y) want t m (omega arith)

    pub compare_in : s.q + 1 < length P
    compare_in = (compare_here a.e a.R a.N a.want a.todo a.more).bound

    pub done_compare : (op : ℕ) (b : Bits) → op ≡ get_or P (s.q + 1) 0 → Compares (meaning S X L s.x) (meaning S X L s.y) op b → DoneOp P L S X s (regs b Nothing Nothing (s.q + 2))
    done_compare op b e c = answers b (s.q + 2) (omega arith) (λ f R N want t m. let g = compare_here f R N want t m in g.then b (c g.o (g.byte ∙ sym e)))

  pub done_not : 0x15 ≤ lo → hi ≤ 0x15 → DoneOp P L S X s (regs (not s.acc) s.x s.y (s.q + 1))
  done_not low high =
      let u = a.kind_low in let v = a.kind_high in
      record {
        pair = a.pair;
        further = omega arith;
        goes = λ e R N want t m. at_not P L s.q e R N s.acc (meaning S X L s.x) (meaning S X L s.y) want t m (omega arith);
      }

  pub done_truth : 0x18 ≤ lo → hi ≤ 0x18 → (b : Bits) → b ≡ truth_in S s.y → DoneOp P L S X s (regs b Nothing Nothing (s.q + 1))
  done_truth low high b e =
      let u = a.kind_low in let v = a.kind_high in
      answers b (s.q + 1) (omega arith)
      (λ f R N want t m. at_truth P L s.q f R N s.acc (meaning S X L s.x) (meaning S X L s.y) want t m (omega arith) b (e ∙ truth_means S X L a.tab s.y a.pair.second))

  pub done_length : 0x1A ≤ lo → hi ≤ 0x1A → (n : ℕ) → n ≡ length_in S X L s.y → (z : ℤ) → z ≡ pos n → DoneOp P L S X s (regs s.acc s.x (Int z) (s.q + 1))
  unfolding length_value
  done_length low high n e z w =
      let u = a.kind_low in let v = a.kind_high in
      record {
        pair = record { first = a.pair.first; second = tt };
        further = omega arith;
        goes = λ f R N want t m. at_length P L s.q f R N s.acc (meaning S X L s.x) (meaning S X L s.y) want t m (omega arith) (Value.integer z)
            (ap Value.integer w ∙ ap (λ (k : ℕ). Value.integer (pos k)) (e ∙ length_means S X L a.tab s.y a.pair.second));
      }

  pub done_regex : 0x1C ≤ lo → hi ≤ 0x1D → (b : Bits) → b ≡ regex_in (scope_for (get_or P s.q 0)) (text_in X L s.x) (text_in X L s.y) → DoneOp P L S X s (regs b Nothing Nothing (s.q + 1))
  done_regex low high b c =
      let u = a.kind_low in let v = a.kind_high in
      answers b (s.q + 1) (omega arith)
      (λ e R N want t m. let g : Matched P L s.q e R N s.acc (meaning S X L s.x) (meaning S X L s.y) want = at_regex P L s.q e R N s.acc (meaning S X L s.x) (meaning S X L s.y) want t m (omega arith) (omega arith) in
      g.then b (c ∙ regex_means S X L a.tab g.scope (get_or P s.q 0) s.x s.y g.byte a.pair))

  module _ (low : 0x16 ≤ lo) (high : hi ≤ 0x17) where
    right_here : (e : ℕ) (R N : Json) (want : Bits) → Doing P L S X s e R N want → s.q < e → Right P L s.q e R N s.acc (meaning S X L s.x) (meaning S X L s.y) want
    right_here e R N want t m = let u = a.kind_low in let v = a.kind_high in at_right P L s.q e R N s.acc (meaning S X L s.x) (meaning S X L s.y) want a.few_p t m (omega arith) (omega arith)

    pub right_in : s.q + 3 ≤ length P
    right_in = (right_here a.e a.R a.N a.want a.todo a.more).bound

    -- `&&` goes on where the left side is true, `||` where it is false; else the right side is skipped. w is the answer with which it goes on.
    module _ (w : Bits) (told : (v : Bits) → right_kind v ≡ get_or P s.q 0 → v ≡ w) where
      pub enter : s.acc ≡ w → DoneOp P L S X s (regs s.acc s.x s.y (s.q + 3))
      enter b = record { pair = a.pair; further = omega arith; goes = λ e R N want t m. let g = right_here e R N want t m in g.enter (b ∙ sym (told g.w (sym g.byte))) }

      pub skip : (s.acc ≡ w → ⊥) → (n : ℕ) → n ≡ number (part P (s.q + 1) 2) → DoneOp P L S X s (regs s.acc Nothing Nothing (s.q + 3 + n))
      skip b n e = answers s.acc (s.q + 3 + n) (omega arith)
          (λ f R N want t m. let g = right_here f R N want t m in
          todo_to P L _ _ f R N _ _ _ _ _ _ want (ap (λ (z : ℕ). s.q + 3 + z) e) refl refl refl (g.skip (λ z. b (z ∙ told g.w (sym g.byte)))))

  -- an operation of fewer kinds
  pub narrower : (low high : ℕ) → low ≤ get_or P s.q 0 → get_or P s.q 0 ≤ high → AskOp P L S X s low high
  narrower low high u v = record { few_p = a.few_p; few_l = a.few_l; tab = a.tab; pair = a.pair; e = a.e; R = a.R; N = a.N; want = a.want; todo = a.todo; more = a.more; kind_low = u; kind_high = v }

  pub literal_low : 3 ≤ lo → 0x10 ≤ get_or P s.q 0
  literal_low u = let v = a.kind_low in past_queries P L s.q a.e a.R a.N s.acc (meaning S X L s.x) (meaning S X L s.y) a.want a.todo a.more (omega arith)

  pub regex_kind_lem : 0x18 ≤ get_or P s.q 0 → (get_or P s.q 0 ≡ 0x18 → ⊥) → (get_or P s.q 0 ≡ 0x1A → ⊥) → (0x1C ≤ get_or P s.q 0) × (get_or P s.q 0 ≤ 0x1D)
  regex_kind_lem u n m = last_kind P L s.q a.e a.R a.N s.acc (meaning S X L s.x) (meaning S X L s.y) a.want a.todo a.more u n m

-- lengths are small
pub length_small : (S X L : List ℕ) → Accepted S X → length L ≤ max_plan → (x : Operand) → Fine S X L x → length_in S X L x ≤ max_text
length_small S X L tab few Nothing f = omega arith
length_small S X L tab few Null f = omega arith
length_small S X L tab few (Bool b) f = omega arith
length_small S X L tab few (Int z) f = omega arith
length_small S X L tab few (Float y) f = omega arith
length_small S X L tab few (Pool a n) f = omega (arith, scalars_few (part L a n), part_length L a n f.0)
length_small S X L tab few (Text a n) f = omega (arith, scalars_few (part X a n), part_length X a n f.0, tab.size.short)
length_small S X L tab few (Node i) f = omega (arith, tab.inside i f.0, tab.size.few)
