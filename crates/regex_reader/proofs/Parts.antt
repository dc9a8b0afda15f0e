-- Words behind words, and answers handed on. Assumes nothing.
use Rattle.std.specs.Prelude.{Option as Answer}
use mathlib.Core.Path.{◌≡◌, refl, ap, sym, ◌∙◌}
use mathlib.Core.List.{List, [], ◌∷◌, ◌++◌, append_assoc}
use mathlib.Core.Option.{Option}
use Prim.Native.Nat.{ℕ, suc, ◌+◌, ◌-◌, ◌*◌, ◌≤◌}
use native.Mathlib.Omega.{arith}
use lib.ListN.{length, set}
use lib.Seq.{sets, set-set}
use Rattle.regex_definition.specs.Words.{upto, any}
use Rattle.regex_definition.specs.Regexp.{Range, Regexp, empty, class, then, or, times}
use Rattle.regex_code.specs.Flat.{flag, flat, flat_ranges}
use Rattle.regex_reader.specs.Reads.{Post}
use Rattle.regex_reader.specs.Reads.Post.{next, stop}
use Rattle.regex_reader.specs.declared.steps.Cursor.{Cursor}
use Rattle.basics.specs.Lists.{set_sets}

-- the words r behind those of ranges, and behind those of an expression
pub ranges_behind : (gs : List Range) (r : List ℕ) → flat_ranges gs r ≡ flat_ranges gs [] ++ r
ranges_behind [] r = refl
ranges_behind (g ∷ gs) r = ap (λ l. g.low ∷ g.high ∷ l) (ranges_behind gs r)

pair_behind : (x y : Regexp) → ((r : List ℕ) → flat x r ≡ flat x [] ++ r) → ((r : List ℕ) → flat y r ≡ flat y [] ++ r) → (r : List ℕ) → flat x (flat y r) ≡ flat x (flat y []) ++ r
pair_behind x y f g r =
    f (flat y r) ∙ ap (λ (l : List ℕ). flat x [] ++ l) (g r) ∙ sym (append_assoc (flat x []) (flat y []) r) ∙ ap (λ (l : List ℕ). l ++ r) (sym (f (flat y [])))

pub flat_behind : (x : Regexp) (r : List ℕ) → flat x r ≡ flat x [] ++ r
flat_behind empty r = refl
flat_behind (class comp gs) r = ap (λ (l : List ℕ). 1 ∷ flag comp ∷ length gs ∷ l) (ranges_behind gs r)
flat_behind (then x y) r = ap (λ (l : List ℕ). 2 ∷ l) (pair_behind x y (λ l. flat_behind x l) (λ l. flat_behind y l) r)
flat_behind (or x y) r = ap (λ (l : List ℕ). 3 ∷ l) (pair_behind x y (λ l. flat_behind x l) (λ l. flat_behind y l) r)
flat_behind (times lo (upto h) x) r = ap (λ (l : List ℕ). 4 ∷ lo ∷ h ∷ l) (flat_behind x r)
flat_behind (times lo any x) r = ap (λ (l : List ℕ). 5 ∷ lo ∷ l) (flat_behind x r)

-- ranges have two words each
pub length_ranges : (gs : List Range) → length (flat_ranges gs []) ≡ 2 * length gs
length_ranges [] = refl
length_ranges (g ∷ gs) = let h = length_ranges gs in omega arith

-- the third word is stored anew
pub third : (p : List ℕ) (n a b x y : ℕ) (c : List ℕ) → set (sets p n (a ∷ b ∷ x ∷ c)) (n + 2) y ≡ sets p n (a ∷ b ∷ y ∷ c)
third p n a b x y c =
    let z : n + 2 ≡ suc (suc n) = omega arith in
    let t : List ℕ = set (set p n a) (suc n) b in
    rw z
    (set_sets (set t (suc (suc n)) x) (suc (suc n)) y (suc (suc (suc n))) c (omega arith)
    ∙ ap (λ (l : List ℕ). sets l (suc (suc (suc n))) c) (set-set t (suc (suc n)) x y))

-- an answer from a later place on, where the definition goes on to it
pub same_post :
    {out out' : ℕ → Option (Regexp × List ℕ)} {j j' k : ℕ} {s p q : List ℕ} {at at' len : ℕ} {r : Answer Cursor} → at ≤ at'
    → ((n : ℕ) → 4 * (length s - at) + j ≤ n → (4 * (length s - at') + j' ≤ n) × (out n ≡ out' n))
    → Post out' j' k s p q (record { at = at'; len = len }) r → Post out j k s p q (record { at = at; len = len }) r
same_post {out} {out'} {j} {j'} {k} {s} {p} {q} {at} {at'} {len} {r} h f (next b d) =
    next b
    (record {
      expr = d.expr;
      is = λ n l. (f n l).1 ∙ d.is n (f n l).0;
      from = omega (arith, d.from);
      to = d.to;
      grown = d.grown;
      cost = omega (arith, d.cost, d.from);
      buf = d.buf;
    })
same_post h f (stop o) = stop (λ n l. (f n l).1 ∙ o n (f n l).0)
