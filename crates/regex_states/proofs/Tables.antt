-- The tables stay right: an edge more, and a state more. Assumes nothing.
use mathlib.Core.Path.{◌≡◌, refl, ap, sym, ◌∙◌, subst}
use mathlib.Core.Bool.{Bool, true, false}
use mathlib.Core.List.{List, []}
use mathlib.Core.Logic.{⊎_elim}
use Prim.Native.Nat.{ℕ, ◌+◌, ◌*◌, ◌≤◌, ◌<◌}
use native.Mathlib.Omega.{arith}
use lib.Dec.{eqb}
use borrow.Author.Tests.{eqb-true, eqb-false}
use lib.ListN.{length, get_or, set, length-set}
use lib.Seq.{get_or-set_same, get_or-set_other}
use Rattle.regex_definition.specs.Words.{Told}
use Rattle.regex_definition.specs.Regexp.{Regexp}
use Rattle.regex_code.specs.Flat.{flat}
use Rattle.regex_marks.specs.Marks.{Rest, Good}
use Rattle.regex_marks.specs.Moves.{Shifted}
use Rattle.regex_marks.proofs.Frames.{rest_none}
use Rattle.regex_states.specs.States.{Leads, StateRight}
use Rattle.regex_states.specs.Ready.{cells, width, count, marks_of, edge_of, other_of, Tables, Interchangeable}
use Rattle.regex_states.specs.Texts.{Stepped}
use Rattle.regex_states.specs.Rooms.{Found, Settling, Added, Placed, full, known, fresh, Noted, unnoted, edge, Beyond, nothing, other}
use Rattle.regex_states.proofs.Cells.{cells_same, cells_is, length_cells}
use Rattle.regex_states.proofs.Steps.{leads_by, leads_other, told_by}

-- the same edge, and the same state, in other rooms
leads_at :
    {x : Regexp} {c k t c' k' t' : ℕ} {ms ns ms' ns' : List ℕ} → c' ≡ c → k' ≡ k → t' ≡ t → ms' ≡ ms → ns' ≡ ns → Leads x c k ms t ns
    → Leads x c' k' ms' t' ns'
leads_at p q r u v l = rw (p, q, r, u, v) l

state_at :
    {x : Regexp} {k : ℕ} {ms ms' : List ℕ} {a b a' b' : Bool} → ms' ≡ ms → a' ≡ a → b' ≡ b → StateRight x k ms a b → StateRight x k ms' a' b'
state_at p q r l = rw (p, q, r) l

pub flag_at : {n m : ℕ} → n ≡ m → eqb n 1 ≡ eqb m 1
flag_at e = ap (λ i. eqb i 1) e

-- AN EDGE MORE
module _ {s es ss : List ℕ} (g : Tables s es ss) (k c t : ℕ) (low : 1 ≤ k) (high : k < count ss) (small : c < 128) where
  here : k * 128 + c < length es
  here = omega (arith, g.edges)

  after_same : (k' c' : ℕ) → k' * 128 + c' ≡ k * 128 + c → edge_of (set es (k * 128 + c) t) k' c' ≡ t
  after_same k' c' e = ap (λ i. get_or (set es (k * 128 + c) t) i 0) e ∙ get_or-set_same es (k * 128 + c) t 0 here

  after_other : (k' c' : ℕ) → (k' * 128 + c' ≡ k * 128 + c → ⊥) → edge_of (set es (k * 128 + c) t) k' c' ≡ edge_of es k' c'
  after_other k' c' n = get_or-set_other es (k * 128 + c) (k' * 128 + c') t 0 n

  edge_inside :
      t < count ss → (k' c' : ℕ) → 1 ≤ k' → k' < count ss → c' < 128 → (b : Bool) → eqb (k' * 128 + c') (k * 128 + c) ≡ b
      → edge_of (set es (k * 128 + c) t) k' c' < count ss
  edge_inside r k' c' p q h true e = rw (after_same k' c' (eqb-true _ _ e)) r
  edge_inside r k' c' p q h false e = rw (after_other k' c' (eqb-false _ _ e)) (g.inside k' c' p q h)

  edge_leads :
      (x : Regexp) → s ≡ flat x [] → Leads x c k (marks_of ss k) t (marks_of ss t) → (k' c' : ℕ) → 1 ≤ k' → k' < count ss → c' < 128
      → (edge_of (set es (k * 128 + c) t) k' c' ≡ 0 → ⊥) → (b : Bool) → eqb (k' * 128 + c') (k * 128 + c) ≡ b
      → Leads x c' k' (marks_of ss k') (edge_of (set es (k * 128 + c) t) k' c') (marks_of ss (edge_of (set es (k * 128 + c) t) k' c'))
  edge_leads x e l k' c' p q h n true z =
      let i : k' * 128 + c' ≡ k * 128 + c = eqb-true _ _ z in
      let u : k' ≡ k = omega arith in
      let v : c' ≡ c = omega arith in
      let w = after_same k' c' i in
      leads_at v u w (ap (marks_of ss) u) (ap (marks_of ss) w) l
  edge_leads x e l k' c' p q h n false z =
      let w = after_other k' c' (eqb-false _ _ z) in
      leads_at refl refl w refl (ap (marks_of ss) w) ((g.of x e).edge k' c' p q h (λ y. n (w ∙ y)))

  pub edge_more :
      t < count ss → ((x : Regexp) → s ≡ flat x [] → Leads x c k (marks_of ss k) t (marks_of ss t))
      → Tables s (set es (k * 128 + c) t) ss
  edge_more r f =
      record {
        words = g.words;
        few = g.few;
        some = g.some;
        most = g.most;
        edges = omega (arith, length-set es (k * 128 + c) t, g.edges);
        sets = g.sets;
        inside = λ k' c' p q h. edge_inside r k' c' p q h (eqb (k' * 128 + c') (k * 128 + c)) refl;
        among = g.among;
        grows = g.grows;
        alike = g.alike;
        of =
            λ x e.
            record {
              wide = (g.of x e).wide;
              start = (g.of x e).start;
              state = (g.of x e).state;
              edge = λ k' c' p q h n. edge_leads x e (f x e) k' c' p q h n (eqb (k' * 128 + c') (k * 128 + c)) refl;
              other = (g.of x e).other;
            };
      }

-- A STATE MORE
-- what the marks of the new state are like
abbrev pub Moving : List ℕ → List ℕ → Bool → Type 0
Moving s ms b = (x : Regexp) → s ≡ flat x [] → Good x 0 ms × Told (Rest x 0 ms []) b

module _ {s es ss ms es' ss' : List ℕ} {b : Bool} {r : ℕ} (g : Tables s es ss) (a : Added es ss ms b es' ss' r) (n : length ms ≡ width ss) where
  same_width : width ss' ≡ width ss
  same_width = a.low 0 (omega (arith, a.is, g.some)) (λ e. omega arith)

  same_open : get_or ss' 2 0 ≡ get_or ss 2 0
  same_open = a.low 2 (omega (arith, a.is, g.some)) (λ e. omega arith)

  -- a byte of a row that was in use
  old_byte : (k i : ℕ) → 1 ≤ k → k < r → i < 128 → get_or ss' (k * 128 + i) 0 ≡ get_or ss (k * 128 + i) 0
  old_byte k i p q h = a.low (k * 128 + i) (omega arith) (λ e. omega arith)

  old_marks : (k : ℕ) → 1 ≤ k → k < r → marks_of ss' k ≡ marks_of ss k
  old_marks k p q =
      ap (cells ss' (k * 128)) same_width
      ∙ cells_same (width ss) ss' ss (k * 128) (k * 128) (λ i h. old_byte k i p q (omega (arith, g.few)))

  new_marks : marks_of ss' r ≡ ms
  new_marks = ap (cells ss' (r * 128)) (same_width ∙ sym n) ∙ cells_is ss' ms (r * 128) a.marks

  old_edge : (k c : ℕ) → k < r → c < 128 → edge_of es' k c ≡ edge_of es k c
  old_edge k c q h = a.edges (k * 128 + c) (omega arith)

  below : (k : ℕ) → k < count ss' → (k ≡ r → ⊥) → k < r
  below k h f = omega (arith, a.counted)

  new_state : Moving s ms b → (x : Regexp) → s ≡ flat x [] → (end : Bool) → Settling ms b (eqb (get_or ss 2 0) 1) end → StateRight x r ms b end
  new_state f x e end z =
      record {
        good = (f x e).0;
        told = told_by x ms r apart (f x e).1;
        settled =
            λ t.
            record {
              grows = λ h. (g.grows (eqb-true _ _ (z.grows t h))).of x e;
              dies =
                  λ h w d.
                  ⊎_elim (λ p. apart p.0)
                  (rest_none ms (z.dies t (λ y. let u : ◌≡◌ {A = Bool} false true = sym h ∙ y in let v : ◌≡◌ {A = ℕ} 0 1 = cc in omega arith)).at x 0 w) d;
            };
      }
    where
      apart : r ≡ 1 → ⊥
      apart p = omega (arith, a.is, g.some)

  state_of :
      Moving s ms b → (x : Regexp) → s ≡ flat x [] → (k : ℕ) → 1 ≤ k → k < count ss' → (i : Bool) → eqb k r ≡ i
      → StateRight x k (marks_of ss' k) (eqb (get_or ss' (k * 128 + 127) 0) 1) (eqb (get_or ss' (k * 128 + 126) 0) 1)
  state_of f x e k p q true z =
      let u : k ≡ r = eqb-true k r z in
      rw u (state_at new_marks a.told refl (new_state f x e _ a.settled))
  state_of f x e k p q false z =
      let h = below k q (eqb-false k r z) in
      state_at (old_marks k p h) (flag_at (old_byte k 127 p h (omega arith))) (flag_at (old_byte k 126 p h (omega arith)))
      ((g.of x e).state k p (omega (arith, a.is)))

  inside_of : (k c : ℕ) → 1 ≤ k → k < count ss' → c < 128 → (i : Bool) → eqb k r ≡ i → edge_of es' k c < count ss'
  inside_of k c p q h true z =
      let u : k ≡ r = eqb-true k r z in
      rw u (let v = a.none c h in omega (arith, a.counted))
  inside_of k c p q h false z =
      let l = below k q (eqb-false k r z) in
      let v = old_edge k c l h in
      let o = g.inside k c p (omega (arith, a.is)) h in
      omega (arith, a.counted, a.is)

  edge_of_lem :
      (x : Regexp) → s ≡ flat x [] → (k c : ℕ) → 1 ≤ k → k < count ss' → c < 128 → (edge_of es' k c ≡ 0 → ⊥) → (i : Bool) → eqb k r ≡ i
      → Leads x c k (marks_of ss' k) (edge_of es' k c) (marks_of ss' (edge_of es' k c))
  edge_of_lem x e k c p q h m true z =
      let u : k ≡ r = eqb-true k r z in
      absurd (m (ap (λ j. edge_of es' j c) u ∙ a.none c h))
  edge_of_lem x e k c p q h m false z =
      let l = below k q (eqb-false k r z) in
      let v = old_edge k c l h in
      let y : edge_of es k c ≡ 0 → ⊥ = λ y. m (v ∙ y) in
      let o = g.inside k c p (omega (arith, a.is)) h in
      leads_at refl refl v (old_marks k p l)
      (ap (marks_of ss') v ∙ old_marks (edge_of es k c) (omega (arith, y)) (omega (arith, a.is)))
      ((g.of x e).edge k c p (omega (arith, a.is)) h y)

  among_of : (k : ℕ) → 1 ≤ k → k < count ss' → (i : Bool) → eqb k r ≡ i → other_of ss' k < count ss'
  among_of k p q true z =
      let u : k ≡ r = eqb-true k r z in
      rw u (let v = a.other in omega (arith, a.counted))
  among_of k p q false z =
      let l = below k q (eqb-false k r z) in
      let v = old_byte k 125 p l (omega arith) in
      let o = g.among k p (omega (arith, a.is)) in
      omega (arith, a.counted, a.is)

  other_of_lem :
      (x : Regexp) → s ≡ flat x [] → (k c : ℕ) → 1 ≤ k → k < count ss' → 128 ≤ c → (other_of ss' k ≡ 0 → ⊥) → (i : Bool) → eqb k r ≡ i
      → Leads x c k (marks_of ss' k) (other_of ss' k) (marks_of ss' (other_of ss' k))
  other_of_lem x e k c p q h m true z =
      let u : k ≡ r = eqb-true k r z in
      absurd (m (ap (other_of ss') u ∙ a.other))
  other_of_lem x e k c p q h m false z =
      let l = below k q (eqb-false k r z) in
      let v : other_of ss' k ≡ other_of ss k = old_byte k 125 p l (omega arith) in
      let y : other_of ss k ≡ 0 → ⊥ = λ y. m (v ∙ y) in
      let o = g.among k p (omega (arith, a.is)) in
      leads_at refl refl v (old_marks k p l)
      (ap (marks_of ss') v ∙ old_marks (other_of ss k) (omega (arith, y)) (omega (arith, a.is)))
      ((g.of x e).other k c p (omega (arith, a.is)) h y)

  same_alike : get_or ss' 3 0 ≡ get_or ss 3 0
  same_alike = a.low 3 (omega (arith, a.is, g.some)) (λ e. omega arith)

  state_more : Moving s ms b → Tables s es' ss'
  state_more f =
      record {
        words = g.words;
        few = omega (arith, same_width, g.few);
        some = omega (arith, a.counted, a.is, g.some);
        most = omega (arith, a.counted, a.room.byte);
        edges = omega (arith, a.counted, a.room.edges, a.long.0);
        sets = omega (arith, a.counted, a.room.sets, a.long.1);
        inside = λ k c p q h. inside_of k c p q h (eqb k r) refl;
        among = λ k p q. among_of k p q (eqb k r) refl;
        alike = λ h. g.alike (sym same_alike ∙ h);
        grows = λ h. g.grows (sym same_open ∙ h);
        of =
            λ x e.
            record {
              wide = same_width ∙ (g.of x e).wide;
              start =
                  λ w h. (g.of x e).start w
                  (subst (λ l. Rest x 0 l w) (old_marks 1 (omega arith) (omega (arith, a.is, g.some))) h);
              state = λ k p q. state_of f x e k p q (eqb k r) refl;
              edge = λ k c p q h m. edge_of_lem x e k c p q h m (eqb k r) refl;
              other = λ k c p q h m. other_of_lem x e k c p q h m (eqb k r) refl;
            };
      }

-- WHERE CHARACTERS BEYOND ASCII LEAD
module _ {s es ss : List ℕ} (g : Tables s es ss) (k t : ℕ) (low : 1 ≤ k) (high : k < count ss) where
  -- a byte that is not written
  beside : (i : ℕ) → (i ≡ k * 128 + 125 → ⊥) → get_or (set ss (k * 128 + 125) t) i 0 ≡ get_or ss i 0
  beside i n = get_or-set_other ss (k * 128 + 125) i t 0 n

  pub beyond_marks : (j : ℕ) → marks_of (set ss (k * 128 + 125) t) j ≡ marks_of ss j
  beyond_marks j =
      ap (cells (set ss (k * 128 + 125) t) (j * 128)) (beside 0 (λ z. omega arith))
      ∙ cells_same (width ss) (set ss (k * 128 + 125) t) ss (j * 128) (j * 128) (λ i h. beside (j * 128 + i) (λ z. omega (arith, g.few)))

  pub beyond_count : count (set ss (k * 128 + 125) t) ≡ count ss
  beyond_count = beside 1 (λ z. omega arith)

  pub beyond_width : width (set ss (k * 128 + 125) t) ≡ width ss
  beyond_width = beside 0 (λ z. omega arith)

  other_same : (j : ℕ) → j ≡ k → other_of (set ss (k * 128 + 125) t) j ≡ t
  other_same j e =
      ap (other_of (set ss (k * 128 + 125) t)) e ∙ get_or-set_same ss (k * 128 + 125) t 0 (omega (arith, g.sets))

  other_apart : (j : ℕ) → (j ≡ k → ⊥) → other_of (set ss (k * 128 + 125) t) j ≡ other_of ss j
  other_apart j n = beside (j * 128 + 125) (λ z. n (omega arith))

  other_among : t < count ss → (j : ℕ) → 1 ≤ j → j < count ss → (b : Bool) → eqb j k ≡ b → other_of (set ss (k * 128 + 125) t) j < count ss
  other_among r j p q true e = rw (other_same j (eqb-true j k e)) r
  other_among r j p q false e = rw (other_apart j (eqb-false j k e)) (g.among j p q)

  other_leads :
      (x : Regexp) → s ≡ flat x [] → ((c : ℕ) → 128 ≤ c → Leads x c k (marks_of ss k) t (marks_of ss t)) → (j c : ℕ) → 1 ≤ j → j < count ss
      → 128 ≤ c → (other_of (set ss (k * 128 + 125) t) j ≡ 0 → ⊥) → (b : Bool) → eqb j k ≡ b
      → Leads x c j (marks_of ss j) (other_of (set ss (k * 128 + 125) t) j) (marks_of ss (other_of (set ss (k * 128 + 125) t) j))
  other_leads x e l j c p q h n true z =
      let u : j ≡ k = eqb-true j k z in
      let w = other_same j u in
      leads_at refl u w (ap (marks_of ss) u) (ap (marks_of ss) w) (l c h)
  other_leads x e l j c p q h n false z =
      let w = other_apart j (eqb-false j k z) in
      leads_at refl refl w refl (ap (marks_of ss) w) ((g.of x e).other j c p q h (λ y. n (w ∙ y)))

  pub other_more :
      t < count ss → ((x : Regexp) → s ≡ flat x [] → (c : ℕ) → 128 ≤ c → Leads x c k (marks_of ss k) t (marks_of ss t))
      → Tables s es (set ss (k * 128 + 125) t)
  other_more r f =
      let n = beyond_count in
      record {
        words = g.words;
        few = omega (arith, beyond_width, g.few);
        some = omega (arith, g.some);
        most = omega (arith, g.most);
        edges = omega (arith, g.edges);
        sets = omega (arith, g.sets, length-set ss (k * 128 + 125) t);
        inside = λ j c p q h. let o = g.inside j c p (omega arith) h in omega arith;
        among = λ j p q. let o = other_among r j p (omega arith) (eqb j k) refl in omega arith;
        grows = λ h. g.grows (sym (beside 2 (λ z. omega arith)) ∙ h);
        alike = λ h. g.alike (sym (beside 3 (λ z. omega arith)) ∙ h);
        of =
            λ x e.
            record {
              wide = beyond_width ∙ (g.of x e).wide;
              start = λ w h. (g.of x e).start w (subst (λ l. Rest x 0 l w) (beyond_marks 1) h);
              state =
                  λ j p q. state_at (beyond_marks j) (flag_at (beside (j * 128 + 127) (λ z. omega arith)))
                  (flag_at (beside (j * 128 + 126) (λ z. omega arith))) ((g.of x e).state j p (omega arith));
              edge =
                  λ j c p q h m.
                  leads_at refl refl refl (beyond_marks j) (beyond_marks (edge_of es j c)) ((g.of x e).edge j c p (omega arith) h m);
              other =
                  λ j c p q h m.
                  leads_at refl refl refl (beyond_marks j) (beyond_marks (other_of (set ss (k * 128 + 125) t) j))
                  (other_leads x e (f x e) j c p (omega arith) h m (eqb j k) refl);
            };
      }

-- THE STATE OF THE MARKS
-- the tables are right behind it, and what was in use is as it was
pub record Grown (s ss ms es' ss' : List ℕ) (r : ℕ) : Type 0 where
  pub tables : Tables s es' ss'
  pub wide : width ss' ≡ width ss
  pub apart : r ≡ 1 → ⊥
  pub is : (r ≡ 0 → ⊥) → (r < count ss') × (marks_of ss' r ≡ ms)
  pub old : (k : ℕ) → 1 ≤ k → k < count ss → (k < count ss') × (marks_of ss' k ≡ marks_of ss k)

grown_same : {s es ss ms es' ss' : List ℕ} {r : ℕ} → es' ≡ es → ss' ≡ ss → Grown s ss ms es ss r → Grown s ss ms es' ss' r
grown_same {s} {es} {ss} {ms} {es'} {ss'} {r} p q g = subst (λ l. Grown s ss ms l ss' r) (sym p) (subst (λ l. Grown s ss ms es l r) (sym q) g)

pub placed :
    {s es ss ms es' ss' : List ℕ} {b : Bool} {r : ℕ} → Tables s es ss → length ms ≡ width ss → Moving s ms b
    → Placed es ss ms b es' ss' r → Grown s ss ms es' ss' r
placed g n f (full z p q) =
    grown_same p q
    (record {
      tables = g;
      wide = refl;
      apart = λ h. omega arith;
      is = λ h. absurd (h z);
      old = λ k u v. (v, refl);
    })
placed {s} {es} {ss} {ms} {es'} {ss'} {b} {r} g n f (known p q z h) =
    grown_same p q
    (record {
      tables = g;
      wide = refl;
      apart = λ y. omega (arith, (h.is z).0);
      is = λ y. ((h.is z).1, ap (cells ss (r * 128)) (sym n) ∙ (h.is z).2);
      old = λ k u v. (v, refl);
    })
placed g n f (fresh a) =
    record {
      tables = state_more g a n f;
      wide = same_width g a n;
      apart = λ h. omega (arith, a.is, g.some);
      is = λ h. (omega (arith, a.counted), new_marks g a n);
      old = λ k u v. (omega (arith, a.counted, a.is), old_marks g a n k u (omega (arith, a.is)));
    }

-- A STEP
pub found_of : {ss ms : List ℕ} {n m r : ℕ} → n ≡ m → Found ss ms n r → Found ss ms m r
found_of {ss} {ms} {n} {m} {r} e f = subst (λ i. Found ss ms i r) e f

-- a byte holds the state's number, and its row is in the room
pub note_fits :
    {s ss ms es' ss' : List ℕ} {r : ℕ} (k : ℕ) → 1 ≤ k → k < count ss → Grown s ss ms es' ss' r → (k * 128 + 128 ≤ length es') × (r ≤ 255)
note_fits {s} {ss} {ms} {es'} {ss'} {r} k p q g = (omega (arith, (g.old k p q).0, g.tables.edges), go (eqb r 0) refl)
  where
    go : (b : Bool) → eqb r 0 ≡ b → r ≤ 255
    go true e = omega (arith, eqb-true r 0 e)
    go false e = omega (arith, (g.is (eqb-false r 0 e)).0, g.tables.most)

pub other_fits :
    {s ss ms es' ss' : List ℕ} {r : ℕ} (k : ℕ) → 1 ≤ k → k < count ss → Grown s ss ms es' ss' r
    → (k * 128 + 128 ≤ length ss') × (4 ≤ length ss') × (r ≤ 255)
other_fits k p q g =
    let o = (g.old k p q).0 in
    (omega (arith, g.tables.sets), omega (arith, g.tables.sets, g.tables.some), (note_fits k p q g).1)

-- the marks of state k, moved on
module _ {s es ss ms : List ℕ} {k n : ℕ} (g : Tables s es ss) (low : 1 ≤ k) (high : k < count ss) (l : ms ≡ cells ss (k * 128) n) (e : n ≡ width ss) where
  loaded_marks : ms ≡ marks_of ss k
  loaded_marks = l ∙ ap (cells ss (k * 128)) e

  loaded_long : length ms ≡ width ss
  loaded_long = ap length l ∙ length_cells n ss (k * 128) ∙ e

  pub moved_long :
      {ms' : List ℕ} {c next m : ℕ} {a v w : Bool} → Shifted s 0 (eqb k 1) c 0 ms ms' next m a v w → length ms' ≡ width ss
  moved_long p = p.long ∙ loaded_long

  pub moved_on :
      {ms' : List ℕ} {c next m : ℕ} {a v w : Bool} → Shifted s 0 (eqb k 1) c 0 ms ms' next m a v w → (x : Regexp) → s ≡ flat x []
      → Good x 0 ms' × Told (Rest x 0 ms' []) w × Leads x c k (marks_of ss k) 2 ms'
  moved_on p x q =
      let d = g.of x q in
      let o =
      (p.of x [] q (omega (arith, loaded_long, d.wide)) (subst (λ r. Good x 0 r) (sym loaded_marks) (d.state k low high).good)).1 in (
        o.good,
        o.turn.on_now,
        leads_at refl refl refl (sym loaded_marks) refl (leads_by k 2 (λ z. omega arith) o),
      )

pub noted :
    {s ss ms es' ss' es2 : List ℕ} {k c r : ℕ} → 1 ≤ k → k < count ss → Grown s ss ms es' ss' r → Noted es' k c r es2
    → ((x : Regexp) → s ≡ flat x [] → Leads x c k (marks_of ss k) 2 ms) → Grown s ss ms es2 ss' r
noted {s} {ss} {ms} {es'} {ss'} {es2} {k} {c} {r} p q g m f =
    record { tables = go m; wide = g.wide; apart = g.apart; is = g.is; old = g.old }
  where
    go : Noted es' k c r es2 → Tables s es2 ss'
    go (unnoted e) = subst (λ l. Tables s l ss') (sym e) g.tables
    go (edge h z e) =
        let o = g.old k p q in
        let i = g.is h in
        subst (λ l. Tables s l ss') (sym e)
        (edge_more g.tables k c r p o.0 z i.0
        (λ x d. leads_at refl refl refl o.1 i.1 (leads_other r g.apart (f x d))))

-- where one character beyond ASCII leads, all do
leads_alike :
    {s : List ℕ} {x : Regexp} {c k t : ℕ} {ms ns : List ℕ} → Interchangeable s → s ≡ flat x [] → 128 ≤ c → Leads x c k ms t ns → (d : ℕ) → 128 ≤ d
    → Leads x d k ms t ns
leads_alike {s} {x} {c} {k} {t} {ms} {ns} a e h l d i =
    record {
      forth = λ w y. l.forth w (a.of x e d c i h k ms w y);
      back = λ w y. a.of x e c d h i k ms w (l.back w y);
    }

pub beyond :
    {s ss ms es' ss' ss2 : List ℕ} {k c r : ℕ} → 1 ≤ k → k < count ss → Grown s ss ms es' ss' r → Beyond ss' k c r ss2
    → ((x : Regexp) → s ≡ flat x [] → Leads x c k (marks_of ss k) 2 ms) → Grown s ss ms es' ss2 r
beyond {s} {ss} {ms} {es'} {ss'} {ss2} {k} {c} {r} p q g m f = go m
  where
    go : Beyond ss' k c r ss2 → Grown s ss ms es' ss2 r
    go (nothing e) = subst (λ l. Grown s ss ms es' l r) (sym e) g
    go (other h z a e) =
        let o = g.old k p q in
        let i = g.is h in
        subst (λ l. Grown s ss ms es' l r) (sym e)
        (record {
          tables =
              other_more g.tables k r p o.0 i.0
              (λ x d. leads_alike (g.tables.alike a) d z (leads_at refl refl refl o.1 i.1 (leads_other r g.apart (f x d))));
          wide = beyond_width g.tables k r p o.0 ∙ g.wide;
          apart = g.apart;
          is = λ y. (omega (arith, i.0, beyond_count g.tables k r p o.0), beyond_marks g.tables k r p o.0 r ∙ i.1);
          old =
              λ j u v.
              let w = g.old j u v in
              (omega (arith, w.0, beyond_count g.tables k r p o.0), beyond_marks g.tables k r p o.0 j ∙ w.1);
        })

pub stepped :
    {s es ss ms es' ss' : List ℕ} {k c r : ℕ} {b : Bool} → length ms ≡ width ss → Grown s ss ms es' ss' r
    → ((x : Regexp) → s ≡ flat x [] → Good x 0 ms × Told (Rest x 0 ms []) b × Leads x c k (marks_of ss k) 2 ms)
    → Stepped s es ss k c es' ss' ms r b
stepped {s} {es} {ss} {ms} {es'} {ss'} {k} {c} {r} n g f =
    record {
      tables = g.tables;
      wide = g.wide;
      long = n;
      state = λ h. (omega (arith, h), (g.is h).0);
      leads = λ h x e. leads_at refl refl refl refl (g.is h).1 (leads_other r g.apart (f x e).2);
      alone = λ h. f;
    }

-- what is known of the characters beyond ASCII
pub stepped_beyond :
    {s es ss ms : List ℕ} {k c t : ℕ} {b : Bool} → Tables s es ss → 1 ≤ k → k < count ss → length ms ≡ width ss → 128 ≤ c → t ≡ other_of ss k
    → 0 < t → Stepped s es ss k c es ss ms t b
stepped_beyond {s} {es} {ss} {ms} {k} {c} {t} g p q n h e z =
    record {
      tables = g;
      wide = refl;
      long = n;
      state = λ y. (omega arith, let o = g.among k p q in omega arith);
      leads =
          λ y x d.
          leads_at refl refl e refl (ap (marks_of ss) e) ((g.of x d).other k c p q h (λ u. omega arith));
      alone = λ y. absurd (omega arith);
    }
