-- The laws of the reader's functions for parentheses and calls: what a function asks and ensures, from what its callees ensure. Assumes nothing.
use Rattle.std.specs.Prelude.{}
use mathlib.Core.Path.{◌≡◌, refl, sym, ap, subst, ◌∙◌}
use mathlib.Core.Bool.{true, false}
use mathlib.Core.List.{List}
use Prim.Native.Nat.{ℕ, ◌+◌, ◌-◌, ◌≤◌, ◌<◌}
use native.Mathlib.Omega.{arith}
use lib.Dec.{lit≤, lit<}
use lib.ListN.{length, drop}
use Rattle.definition.specs.Utf8.{is_utf8}
use Rattle.definition.specs.Grammar as G
use Rattle.definition.specs.Grammar.{spell_logical_or, spell_paren, spell_arguments, spell_more_arguments, spell_argument}
use Rattle.definition.specs.Grammar.Paren.{paren}
use Rattle.definition.specs.Grammar.Arguments.{no_argument, arguments}
use Rattle.definition.specs.Grammar.MoreArguments.{no_more}
use Rattle.parser_follow.specs.Blanks.{split_blanks}
use Rattle.basics.specs.Reads.{Reads, ReadsNone}
use Rattle.compile_writes.specs.Effects.{Marks, Effect, Writer, join, seq, mark, bytes, skip}
use Rattle.compile_writes.specs.Sorts.{sort_or_lem, sort_paren, sort_argument, sorts_of, sorts_more, call_verdict, named_sort}
use Rattle.compile_writes.specs.Writes.{write_or_lem, write_paren, write_arguments, write_more_arguments, write_argument, call_bytes}
use Rattle.compile_writes.specs.Sizes.{sized_argument, sized_arguments}
use Rattle.parser_follow.specs.Follow.{unblank, After}
use Rattle.parser_follow.specs.Numbers.{arguments_from}
use Rattle.parser_follow.specs.Pieces.{Call, spell_call, write_call, call_sort}
use Rattle.parser_scan.specs.Text.{Skipped, Is}
use Rattle.parser_items.specs.Reads.{Asks, Done, Read, Post, PutMarked, Opens, sort_number, one_more_lem, name_of, call_marks, sorts_from, next, stop}
use Rattle.parser_items.specs.Laws.{Moved, done_then, done_seq, done_skip, moved_done, marked_done, asks_less, unblank_twice}
use Rattle.parser_items.specs.declared.Cursor.{Cursor}
use Rattle.parser_items.specs.Reads.{Step}
use Rattle.parser_laws.specs.Paren.{me_paren, paren_means, paren_reads, paren_none, paren_open}
use Rattle.parser_laws.specs.Arguments.{me_arguments, me_more_arguments, furthers, arguments_end, arguments_reads, arguments_none_more}
use Rattle.parser_laws.specs.Call.{verdict_told, call_reads, call_open, call_none}
use Rattle.parser_laws.specs.Words.{me_call}
use Rattle.parser.proofs.Steps.{asks_moved, asks_skipped, asks_read, done_is, done_moved, Loop, loop_start, loop_more, loop_end, loop_none, empty}
use Rattle.parser.proofs.Logic.{opens_is, utf8_is}

-- ---- blanks and brackets around

-- a place behind blanks
behind_blanks : {b at : ℕ} {s : List ℕ} (a : Cursor) {o : Cursor} → Skipped s b at → Moved a o at → drop o.at s ≡ unblank (drop b s)
behind_blanks {s = s} a k m = ap (λ (n : ℕ). drop n s) m.0 ∙ k.rest

-- what is read from a place behind blanks, with the cursor before them
reads_behind : {T : Type 0} {sp : T → List ℕ → List ℕ} {w : T → Writer} {fl : T → ℕ} {k f b at : ℕ} {s P P' L L' : List ℕ} (a : Cursor) {o n : Cursor} → Skipped s b at → Moved a o at → (h : Read sp w fl k s P P' L L' o n f)
    → Reads {M = Effect × ℕ} sp (λ t. (w t a.pool, fl t)) (After k) (unblank (drop b s)) h.tree (drop n.at s)
reads_behind {sp = sp} {w = w} {fl = fl} {k = k} {s = s} a {o = o} {n = n} g m h =
    subst (λ (l : List ℕ). Reads {M = Effect × ℕ} sp (λ t. (w t a.pool, fl t)) (After k) l h.tree (drop n.at s)) (behind_blanks a g m)
    (subst (λ (c : ℕ). Reads {M = Effect × ℕ} sp (λ t. (w t c, fl t)) (After k) (drop o.at s) h.tree (drop n.at s)) m.1.0.1 h.reads)

none_behind : {T : Type 0} {sp : T → List ℕ → List ℕ} {k b at : ℕ} {s : List ℕ} (a : Cursor) {o : Cursor} → Skipped s b at → Moved a o at → ReadsNone sp (After k) (drop o.at s) → ReadsNone sp (After k) (unblank (drop b s))
none_behind {sp = sp} {k = k} a g m n = subst (ReadsNone sp (After k)) (behind_blanks a g m) n

done_behind : (w : Writer) {at : ℕ} {P P' L L' : List ℕ} {a o n : Cursor} → Moved a o at → Done P P' L L' o n (w o.pool) → Done P P' L L' a n (w a.pool)
done_behind w {P = P} {P' = P'} {L = L} {L' = L'} {o = o} {n = n} m d = done_moved m (subst (λ (c : ℕ). Done P P' L L' o n (w c)) m.1.0.1 d)

-- behind a byte and blanks
pub asks_byte : (x : ℕ) {b at : ℕ} {s P L : List ℕ} {a o : Cursor} → x < 0x80 → Asks 0 s P L a → a.at ≤ b → is_utf8 (drop b s) ≡ true → Is s b x true → Skipped s (b + 1) at → Moved a o at → Asks 15 s P L o
asks_byte x {b = b} {s = s} h st g u i k m = asks_moved st m (omega (arith, k.from)) k.to (k.utf8 (utf8_is x b s h i u)) (omega (arith, k.from))

-- behind blanks and a byte
pub asks_closed : (x : ℕ) {e : ℕ} {s P L : List ℕ} {a o : Cursor} → x < 0x80 → Asks 0 s P L a → Skipped s a.at e → Is s e x true → Moved a o (e + 1) → Asks 15 s P L o
asks_closed x {e = e} {s = s} h st k i m = asks_moved st m (omega (arith, k.from)) i.0 (utf8_is x e s h i (k.utf8 st.utf8)) (omega (arith, k.from))

-- ---- "(" S logical-expr S ")"

module _ {x : ℕ} {s : List ℕ} {a o : Cursor} (g : Opens 0x28 s a) (k : Skipped s (a.at + 1) x) (m : Moved a o x) where
  pub asks_paren : {P L : List ℕ} → Asks 0 s P L a → Asks 0 s P L o
  asks_paren st = asks_less (lit≤ tt) (asks_byte 0x28 (lit< tt) st (omega arith) st.utf8 (opens_is g) k m)

  -- nothing is read behind the parenthesis
  pub paren_stop : ReadsNone spell_logical_or (After 4) (drop o.at s) → ReadsNone spell_paren (After 0) (drop a.at s)
  paren_stop n = paren_none (opens_is g).1 (none_behind a k m n)

  module _ {P P' L L' : List ℕ} {n : Cursor} {f e : ℕ} (h : Read spell_logical_or (λ t. write_or_lem t true) (λ t. sort_number (sort_or_lem t)) 4 s P P' L L' o n f) (j : Skipped s n.at e) where
    -- nothing closes it
    pub paren_unclosed : Is s e 0x29 false → ReadsNone spell_paren (After 0) (drop a.at s)
    paren_unclosed z = paren_open a.pool (opens_is g).1 (reads_behind a k m h) (λ l q. z l (j.rest ∙ q))

    pub paren_closed : {c : Cursor} → Is s e 0x29 true → Moved n c (e + 1) → Read spell_paren write_paren (λ t. sort_number (sort_paren t)) 0 s P P' L L' a c f
    paren_closed {c} i m' =
        let r = paren_reads a.pool (opens_is g).1 (reads_behind a k m h) (sym j.rest ∙ i.1) in
        let q = paren_means a.pool (split_blanks (drop (a.at + 1) s)).0 h.tree (split_blanks (drop n.at s)).0 in
        record {
          tree = paren (split_blanks (drop (a.at + 1) s)).0 h.tree (split_blanks (drop n.at s)).0;
          reads = subst (λ (y : ℕ). Reads spell_paren (me_paren a.pool) (After 0) (drop a.at s) (paren (split_blanks (drop (a.at + 1) s)).0 h.tree (split_blanks (drop n.at s)).0) (drop y s)) (sym m'.0) r;
          from = omega (arith, k.from, m.0, h.from, j.from, m'.0);
          to = omega (arith, i.0, m'.0);
          done = done_is (ap (λ (y : Effect × ℕ). y.0) q) (moved_done (done_behind (write_or_lem h.tree true) m h.done) m');
          flag = h.flag ∙ sym (ap (λ (y : Effect × ℕ). y.1) q);
          utf8 = subst (λ (y : ℕ). is_utf8 (drop y s) ≡ true) (sym m'.0) (utf8_is 0x29 e s (lit< tt) i (j.utf8 h.utf8));
        }

-- ---- *( S "," S function-argument )

nothing_more : (n p : ℕ) → me_more_arguments n p no_more ≡ (empty, n)
unfolding write_more_arguments sorts_more arguments_from skip
nothing_more n p = refl

-- what is known at the head of the loop
pub record ArgumentsLoop (sorts : ℕ) (s P P' Q Q' : List ℕ) (a b : Cursor) (known : ℕ) : Type 0 where
  pub loop : Loop spell_more_arguments write_more_arguments (λ t. arguments_from sorts (sorts_more t)) me_more_arguments 5 s P P' Q Q' a b known
  pub small : known ≤ 31

pub arguments_loop : {s P Q : List ℕ} {a : Cursor} (sorts : ℕ) → sorts ≤ 31 → Asks 0 s P Q a → ArgumentsLoop sorts s P P Q Q a a sorts
arguments_loop sorts h st = record { loop = loop_start sorts (λ t. refl) st; small = h }

module _ {sorts known : ℕ} {s P P' Q Q' : List ℕ} {a b : Cursor} (lp : ArgumentsLoop sorts s P P' Q Q' a b known) {e : ℕ} (k : Skipped s b.at e) where
  -- no comma stands there
  pub arguments_last : Is s e 0x2C false → Read spell_more_arguments write_more_arguments (λ t. arguments_from sorts (sorts_more t)) 5 s P P' Q Q' a b known
  unfolding furthers
  arguments_last n = loop_end furthers lp.loop (λ s₁ q. n s₁ (k.rest ∙ q)) (nothing_more known b.pool)

  module _ {g : ℕ} {o : Cursor} (i : Is s e 0x2C true) (j : Skipped s (e + 1) g) (m : Moved b o g) where
    -- behind the comma
    pub asks_comma : Asks 0 s P' Q' o
    asks_comma = asks_less (lit≤ tt) (asks_byte 0x2C (lit< tt) lp.loop.start k.from (k.utf8 lp.loop.start.utf8) i j m)

    -- a comma with no argument behind it
    pub arguments_stop : ReadsNone spell_argument (After 4) (drop o.at s) → ReadsNone spell_more_arguments (After 5) (drop a.at s)
    unfolding furthers
    arguments_stop n = loop_none furthers lp.loop (sym k.rest ∙ i.1) (none_behind b j m n)

    -- behind the argument less is unread
    pub arguments_less : {f : ℕ} {P'' Q'' : List ℕ} {n : Cursor} → Read spell_argument write_argument (λ t. sort_number (sort_argument t)) 4 s P' P'' Q' Q'' o n f → length s - n.at < length s - b.at
    arguments_less h = omega (arith, k.from, j.from, m.0, h.from, h.to)

    -- one argument more
    pub arguments_more : {f x : ℕ} {P'' Q'' : List ℕ} {n : Cursor} → Read spell_argument write_argument (λ t. sort_number (sort_argument t)) 4 s P' P'' Q' Q'' o n f → (x ≡ one_more_lem known f) × (x ≤ 31) → ArgumentsLoop sorts s P P'' Q Q'' a n x
    unfolding furthers
    arguments_more {f} {x} {P''} {Q''} {n} h q =
        let c = loop_more furthers lp.loop (sym k.rest ∙ i.1) (reads_behind b j m h) (done_behind (write_argument h.tree) m h.done) (omega (arith, k.from, j.from, m.0, h.from)) (asks_read sized_argument asks_comma h (lit≤ tt)) in
        record {
          loop = subst (λ (y : ℕ). Loop spell_more_arguments write_more_arguments (λ t. arguments_from sorts (sorts_more t)) me_more_arguments 5 s P P'' Q Q'' a n y) (sym (q.0 ∙ ap (one_more_lem known) h.flag)) c;
          small = q.1;
        }

-- ---- [ function-argument *( S "," S function-argument ) ]

-- none, before a closing parenthesis
pub arguments_nothing : {s P L : List ℕ} {a : Cursor} → Asks 0 s P L a → Is s a.at 0x29 true → Read spell_arguments write_arguments (λ t. arguments_from 0 (sorts_of t)) 6 s P P L L a a 0
unfolding write_arguments sorts_of arguments_from
arguments_nothing {a = a} st i = record { tree = no_argument; reads = arguments_end a.pool i.1; from = omega arith; to = st.text; done = done_skip; flag = refl; utf8 = st.utf8 }

more_is : (p : ℕ) (x : G.Argument) (xs : G.MoreArguments) → me_arguments p (arguments x xs) ≡ (join (write_argument x p) (write_more_arguments xs (p + length (write_argument x p).pool)), arguments_from (one_more_lem 0 (sort_number (sort_argument x))) (sorts_more xs))
unfolding write_arguments seq sorts_of arguments_from
more_is p x xs = refl

module _ {s P P' L L' : List ℕ} {a n : Cursor} {f : ℕ} (h : Read spell_argument write_argument (λ t. sort_number (sort_argument t)) 4 s P P' L L' a n f) where
  -- behind the first argument
  pub asks_argument : Asks 0 s P L a → Asks 0 s P' L' n
  asks_argument st = asks_read sized_argument st h (lit≤ tt)

  -- the first argument and the further ones
  pub arguments_post : {x : ℕ} {P'' L'' : List ℕ} {r : Step} → (x ≡ one_more_lem 0 f) × (x ≤ 31) → Post spell_more_arguments write_more_arguments (λ t. arguments_from x (sorts_more t)) 5 s P' P'' L' L'' n r
      → Post spell_arguments write_arguments (λ t. arguments_from 0 (sorts_of t)) 6 s P P'' L L'' a r
  arguments_post e (stop q) = stop (arguments_none_more a.pool h.reads q)
  arguments_post {x} {P''} {L''} e (next {b = b} {f = g} q) =
      let y : G.Argument = h.tree in
      let p : n.pool ≡ a.pool + length (write_argument y a.pool).pool = h.done.pool in
      let z : x ≡ one_more_lem 0 (sort_number (sort_argument y)) = e.0 ∙ ap (one_more_lem 0) h.flag in
      let q' : Read spell_more_arguments write_more_arguments (λ t. arguments_from (one_more_lem 0 (sort_number (sort_argument y))) (sorts_more t)) 5 s P' P'' L' L'' n b g =
      subst (λ (c : ℕ). Read spell_more_arguments write_more_arguments (λ t. arguments_from c (sorts_more t)) 5 s P' P'' L' L'' n b g) z q in
      let u : G.MoreArguments = q'.tree in
      let i = more_is a.pool y u in
      next {b = b} {f = g} (record {
        tree = arguments y u;
        reads = arguments_reads a.pool h.reads (subst (λ (c : ℕ). Reads spell_more_arguments (me_more_arguments (one_more_lem 0 (sort_number (sort_argument y))) c) (After 5) (drop n.at s) u (drop b.at s)) p q'.reads);
        from = omega (arith, h.from, q'.from);
        to = q'.to;
        done = done_is (ap (λ (w : Effect × ℕ). w.0) i) (done_then h.done (subst (λ (c : ℕ). Done P' P'' L' L'' n b (write_more_arguments u c)) p q'.done));
        flag = q'.flag ∙ sym (ap (λ (w : Effect × ℕ). w.1) i);
        utf8 = q'.utf8;
      })

-- ---- a call behind its name and "("

module _ {x : ℕ} {s : List ℕ} {a o : Cursor} (k : Skipped s a.at x) (m : Moved a o x) where
  -- no arguments are read
  pub call_stop : ReadsNone spell_arguments (After 6) (drop o.at s) → ReadsNone spell_call (After 0) (drop a.at s)
  call_stop n = call_none (none_behind a k m n)

  -- arguments are read from where no blank stands
  pub call_start : unblank (drop o.at s) ≡ drop o.at s
  call_start = rw (behind_blanks a k m) (unblank_twice (drop a.at s))

  module _ (name : ℕ) {P P' L L' : List ℕ} {n : Cursor} {f e : ℕ} (h : Read spell_arguments write_arguments (λ t. arguments_from 0 (sorts_of t)) 6 s P P' L L' o n f) (j : Skipped s n.at e) where
    -- nothing closes them
    pub call_unclosed : Is s e 0x29 false → ReadsNone spell_call (After 0) (drop a.at s)
    call_unclosed z = call_open name a.pool (reads_behind a k m h) (λ l q. z l (j.rest ∙ q))

    -- behind the closing parenthesis
    pub asks_call : {c : Cursor} → Asks 0 s P L a → Is s e 0x29 true → Moved n c (e + 1) → Asks 15 s P' L' c
    asks_call st i m' = asks_closed 0x29 (lit< tt) (asks_read sized_arguments (asks_skipped st k m) h (lit≤ tt)) j i m'

    pub call_closed : {P'' : List ℕ} {c d : Cursor} {y : ℕ} → Is s e 0x29 true → Moved n c (e + 1) → PutMarked P' P'' c d (call_bytes (name_of name)) (call_marks name f) → y ≡ sort_number (named_sort (name_of name))
        → Read spell_call (write_call name) (call_sort name) 0 s P P'' L L' a d y
    call_closed {P''} {c} {d} i m' p q =
        let t : Call = record { before = (split_blanks (drop a.at s)).0; arguments = h.tree; after = (split_blanks (drop n.at s)).0 } in
        let at : d.at ≡ e + 1 = p.at ∙ m'.0 in
        let z : call_marks name f ≡ record { verdict = call_verdict (name_of name) (sorts_of h.tree); beyond = false } =
        ap (λ (v : ℕ). record { verdict = v; beyond = false }) (ap (λ (v : ℕ). call_verdict (name_of name) (sorts_from v)) h.flag ∙ sym (verdict_told (sorts_of h.tree) (name_of name))) in
        let w : Marks → Writer = λ v. seq (mark v) (bytes (call_bytes (name_of name))) in
        let g : Done P' P'' L' L' n d (w (call_marks name f) n.pool) = done_behind (w (call_marks name f)) m' (marked_done p) in
        record {
          tree = t;
          reads = subst (λ (v : ℕ). Reads spell_call (me_call name a.pool) (After 0) (drop a.at s) t (drop v s)) (sym at) (call_reads name a.pool (reads_behind a k m h) (sym j.rest ∙ i.1));
          from = omega (arith, k.from, m.0, h.from, j.from);
          to = omega (arith, i.0);
          done = done_seq (write_arguments h.tree) (w (record { verdict = call_verdict (name_of name) (sorts_of h.tree); beyond = false })) (done_behind (write_arguments h.tree) m h.done) (subst (λ (v : Marks). Done P' P'' L' L' n d (w v n.pool)) z g);
          flag = q;
          utf8 = subst (λ (v : ℕ). is_utf8 (drop v s) ≡ true) (sym at) (utf8_is 0x29 e s (lit< tt) i (j.utf8 h.utf8));
        }
