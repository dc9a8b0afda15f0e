-- Chains begin empty, and grow by one node. Assumes nothing.
use Prim.Native.Nat.{ℕ, ◌+◌, ◌-◌, ◌≤◌, ◌<◌}
use mathlib.Core.Path.{◌≡◌, refl, sym, ap, ◌∙◌, subst}
use mathlib.Core.List.{List}
use mathlib.Core.Bool.{Bool, true, false}
use lib.Dec.{eqb, ltb}
use lib.ListN.{length, get_or, set, length-set}
use lib.Seq.{get_or-set_same, get_or-set_other}
use native.Mathlib.Omega.{arith}
use borrow.Author.Tests.{eqb-true, eqb-false, ltb-true, ltb-false}
use Rattle.table.specs.Chains.{Latest, HeadsBelow, Chained}

-- heads that are below a node are below the next one
pub heads_next : (i : ℕ) (H : List ℕ) → HeadsBelow i H → HeadsBelow (i + 1) H
heads_next i H k = record { some = k.some; below = λ b l. let m = k.below b l in omega arith }

-- chains have heads below the end
pub chained_heads : (h : ℕ → ℕ) (from end : ℕ) (H L : List ℕ) → Chained h from end H L → HeadsBelow end H
chained_heads h from end H L k = record { some = k.some; below = λ b l. (k.last b l).earlier }

module _ (h : ℕ → ℕ) (from i : ℕ) where
  -- no node counts yet: every head and every link is below the place
  pub chains_begin : (H L : List ℕ) → i ≤ from → HeadsBelow i H → Chained h from i H L
  chains_begin H L e k =
      record {
        some = k.some;
        last = λ b l. record { earlier = k.below b l; same = λ m. let z = k.below b l in absurd (omega arith); covers = λ j m n _. absurd (omega arith) };
        linked = record { room = omega arith; before = λ j m n. absurd (omega arith) };
      }

  -- a node in another bucket leaves the last one of a bucket as it is
  latest_other : (b v : ℕ) → Latest h b from i v → (h i ≡ b → ⊥) → Latest h b from (i + 1) v
  latest_other b v k ne = record { earlier = let m = k.earlier in omega arith; same = k.same; covers = λ j l m e. go j l m e (ltb j i) refl }
    where
      go : (j : ℕ) → from ≤ j → j < i + 1 → h j ≡ b → (x : Bool) → ltb j i ≡ x → j ≤ v
      go j l m e true t = k.covers j l (ltb-true j i t) e
      go j l m e false t = let n = ltb-false j i t in let s : j ≡ i = omega arith in absurd (ne (ap h (sym s) ∙ e))

  -- a node is the last one of its own bucket
  latest_self : Latest h (h i) from (i + 1) i
  latest_self = record { earlier = omega arith; same = λ _. refl; covers = λ j l m e. omega arith }

  module _ (H L : List ℕ) (k : Chained h from i H L) (a : from ≤ i) (m : i - from < length L) (d : h i < length H) where
    -- the heads, once the node is the head of its bucket
    last_joined : (b : ℕ) → b < length H → Latest h b from (i + 1) (get_or (set H (h i) i) b 0)
    last_joined b l = go (eqb b (h i)) refl
      where
        go : (x : Bool) → eqb b (h i) ≡ x → Latest h b from (i + 1) (get_or (set H (h i) i) b 0)
        go true e =
            let s = eqb-true b (h i) e in
            let g : get_or (set H (h i) i) b 0 ≡ i = ap (λ (x : ℕ). get_or (set H (h i) i) x 0) s ∙ get_or-set_same H (h i) i 0 (omega arith) in
            rw g (subst (λ (x : ℕ). Latest h x from (i + 1) i) (sym s) latest_self)
        go false e =
            let n = eqb-false b (h i) e in
            rw (get_or-set_other H (h i) b i 0 n) (latest_other b (get_or H b 0) (k.last b l) (λ z. n (sym z)))

    -- the links, once the node's link is the head before
    before_joined : (j : ℕ) → from ≤ j → j < i + 1 → Latest h (h j) from j (get_or (set L (i - from) (get_or H (h i) 0)) (j - from) 0)
    before_joined j l n = go (ltb j i) refl
      where
        go : (x : Bool) → ltb j i ≡ x → Latest h (h j) from j (get_or (set L (i - from) (get_or H (h i) 0)) (j - from) 0)
        go true e =
            let t = ltb-true j i e in
            rw (get_or-set_other L (i - from) (j - from) (get_or H (h i) 0) 0 (λ z. omega arith)) (k.linked.before j l t)
        go false e =
            let t = ltb-false j i e in
            let s : i ≡ j = omega arith in
            subst (λ (x : ℕ). Latest h (h x) from x (get_or (set L (i - from) (get_or H (h i) 0)) (x - from) 0)) s
            (rw (get_or-set_same L (i - from) (get_or H (h i) 0) 0 (omega arith)) (k.last (h i) d))

    -- the node joins the chain of its bucket
    pub chain_joined : Chained h from (i + 1) (set H (h i) i) (set L (i - from) (get_or H (h i) 0))
    chain_joined =
        record {
          some = let e = length-set H (h i) i in omega (arith, k.some);
          last = λ b l. last_joined b (let e = length-set H (h i) i in omega arith);
          linked = record { room = let e = length-set L (i - from) (get_or H (h i) 0) in omega arith; before = before_joined };
        }
